use Rattle.std.proofs.Common.{arith}
use Rattle.readcases.proofs.Pairs.{IsHex-pair}
use Rattle.readcases.proofs.hex.byte.Goals as goal

pub returns : goal.returns
returns c = IsHex-pair _ _ _ (omega (arith, c.in-len2)) c.in_ok-digit.ensures c.in_ok-digit-2.ensures
