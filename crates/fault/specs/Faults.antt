-- What a fault of the code says in the words of the definitions.
use Rattle.std.specs.Prelude.{ℕ, List}
use Rattle.meaning.specs.Items as items
use Rattle.meaning.specs.Access as access
use Rattle.meaning.specs.Text.{batch_fault_line, step_fault_line}
use Rattle.fault.specs.declared.refusal.Refusal.{Refusal}
use Rattle.fault.specs.declared.faults.Entry.{Entry}
use Rattle.fault.specs.declared.faults.Entry.TheVariants.{Head, Field, Column}
use Rattle.fault.specs.declared.faults.BatchFault.{BatchFault}
use Rattle.fault.specs.declared.faults.StepFault.{StepFault}
use Rattle.fault.specs.declared.faults.RunFault.{RunFault}
use Rattle.fault.specs.declared.faults.RunFault.TheVariants.{Batch, Step}
use Rattle.fault.specs.Numbers.{number_of}

-- whose item it is
abbrev pub entry_of : Entry → items.Entry
entry_of Head = items.head
entry_of (Field n) = items.field n
entry_of (Column n) = items.column n

-- the refusal of the item that begins at a byte
abbrev pub batch_fault_at : Refusal → ℕ → Entry → items.BatchFault
batch_fault_at r b e = record { number = number_of r; byte = b; entry = entry_of e }

-- what a batch fault says
abbrev pub batch_fault_of : BatchFault → items.BatchFault
batch_fault_of f = batch_fault_at f.bytes.refusal f.bytes.byte f.entry

-- the refusal of a step at a column and a field
abbrev pub step_fault_at : Refusal → ℕ → ℕ → access.StepFault
step_fault_at r c f = record { number = number_of r; column = c; field = f }

-- what a step fault says
abbrev pub step_fault_of : StepFault → access.StepFault
step_fault_of f = step_fault_at f.refusal f.column f.field

-- the line of the fault that ended a run
abbrev pub run_fault_line : RunFault → List ℕ
run_fault_line (Batch f) = batch_fault_line (batch_fault_of f)
run_fault_line (Step f) = step_fault_line (step_fault_of f)
