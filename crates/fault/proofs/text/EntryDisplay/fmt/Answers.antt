-- What is written is the text of the entry.
use Rattle.std.proofs.Common.{sym, ap, ◌∙◌, arith}
use Rattle.std.proofs.Output.{has_written_of_eq}
use Rattle.meaning.specs.Text.{entry_text}
use Rattle.fault.specs.Faults.{entry_of}
use Rattle.fault.specs.declared.faults.Entry.{Entry}
use Rattle.fault.proofs.Lines.{field-text, column-text}
use Rattle.fault.proofs.text.EntryDisplay.fmt.Goals as goal

pub returns-in-Field-clause-writes : goal.returns-in-Field-clause-writes
returns-in-Field-clause-writes g c plain ok =
    let text = field-text c.in-Field.number (omega arith) ∙ ap (λ (e : Entry). entry_text (entry_of e)) (sym c.in-Field.is) in
    has_written_of_eq _ _ _ _ _ text (c.write-in-Field.ensures.writes plain ok)

pub returns-in-Column-clause-writes : goal.returns-in-Column-clause-writes
returns-in-Column-clause-writes g c plain ok =
    let text = column-text c.in-Column.number (omega arith) ∙ ap (λ (e : Entry). entry_text (entry_of e)) (sym c.in-Column.is) in
    has_written_of_eq _ _ _ _ _ text (c.write-in-Column.ensures.writes plain ok)
