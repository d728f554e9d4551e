-- What is written is the line of the field.
use Rattle.std.proofs.Common.{arith, w32, SFits, to_z, of_z, rules}
use Rattle.std.proofs.Output.{has_written_of_eq}
use Rattle.std.proofs.lemmas.Int.{ints, to_z-of_z}
use Rattle.batch.specs.Views.{field_of}
use Rattle.info.proofs.Writing.{field-line}
use Rattle.info.proofs.lines.LineFieldDisplay.fmt.Goals as goal

pub returns-clause-writes : goal.returns-clause-writes
returns-clause-writes g c plain ok =
    let l = c.args.self.now in
    let fits : SFits w32 l.entry.id = search rules in
    let line =
    field-line l.level l.number (field_of l.entry) (to_z w32 (of_z w32 l.entry.id)) c.presence-presence.result.now (omega arith) (omega arith) (to_z-of_z w32 l.entry.id fits) (omega (arith, ints)) c.presence-presence.ensures in
    has_written_of_eq _ _ _ _ _ line (c.write.ensures.writes plain ok)
