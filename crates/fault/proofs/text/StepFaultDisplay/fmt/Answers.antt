-- What is written is the line of the fault.
use Rattle.std.proofs.Common.{arith}
use Rattle.std.proofs.Output.{has_written_of_eq}
use Rattle.fault.specs.Faults.{step_fault_of}
use Rattle.fault.proofs.Lines.{step_line}
use Rattle.fault.proofs.text.StepFaultDisplay.fmt.Goals as goal

pub returns-clause-writes : goal.returns-clause-writes
returns-clause-writes g c plain ok =
    let line = step_line (step_fault_of c.args.self.now) c.number-number.result c.number-number.ensures (omega arith) (omega arith) (omega arith) in
    has_written_of_eq _ _ _ _ _ line (c.write.ensures.writes plain ok)
