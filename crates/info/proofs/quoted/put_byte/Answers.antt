-- What is written is the two hex digits of the byte.
use Rattle.std.proofs.Common.{sym, rules, arith}
use Rattle.std.proofs.Output.{has_written_of_eq}
use Rattle.info.proofs.Quoting.{escaped_byte}
use Rattle.info.proofs.quoted.put_byte.Goals as goal

pub returns-else-is_printable : goal.returns-else-is_printable
returns-else-is_printable g c plain ok =
    let text = escaped_byte c.args.byte c.unwrap-high.result c.unwrap-low.result (omega arith) (sym c.if-is_printable.ensures) (search rules) (search rules) in
    has_written_of_eq _ _ _ _ _ text (c.write.ensures.writes plain ok)
