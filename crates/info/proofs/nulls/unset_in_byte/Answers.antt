-- The bits of the complement that are 1.
use Rattle.std.proofs.Common.{arith, rules}
use Rattle.info.proofs.Tallies.{unset_ones}
use Rattle.info.proofs.nulls.unset_in_byte.Goals as goal

pub returns : goal.returns
returns c = let e = unset_ones c.args.byte (omega arith) in search (rules, e)
