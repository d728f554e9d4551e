-- What is written is the line of the column.
use Rattle.std.proofs.Common.{arith}
use Rattle.std.proofs.Output.{has_written_of_eq}
use Rattle.batch.specs.Views.{column_of}
use Rattle.info.proofs.Writing.{column-line}
use Rattle.info.proofs.lines.LineColumnDisplay.fmt.Goals as goal

pub returns-clause-writes : goal.returns-clause-writes
returns-clause-writes g c plain ok =
    let l = c.args.self.now in
    let line = column-line l.level l.number (column_of l.entry) c.count_nulls-nulls.result (omega arith) (omega arith) (omega arith) (omega arith) c.count_nulls-nulls.ensures in
    has_written_of_eq _ _ _ _ _ line (c.write.ensures.writes plain ok)
