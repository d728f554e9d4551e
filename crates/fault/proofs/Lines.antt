-- The lines of the faults, piece by piece as `write!` writes them.
use Rattle.std.proofs.Common.{◌≡◌, ℕ, ◌^◌, ◌<◌, List, ◌++◌, codes, decimal as written, sym, refl, ap, ◌∙◌, append_assoc}
use Rattle.meaning.specs.Items as items
use Rattle.meaning.specs.Access as access
use Rattle.meaning.specs.Text.{decimal, entry_text, batch_fault_line, step_fault_line}
use Rattle.fault.proofs.Decimal.{decimal-written}

limit_line : batch_fault_line (record { number = 4; byte = 0; entry = items.head }) ≡ codes "refused 4 byte 0 head 0"
limit_line = refl

no_struct_line : step_fault_line (record { number = 10; column = 1; field = 2 }) ≡ codes "refused 10 field 2 column 1"
no_struct_line = refl

pub field-text : (n : ℕ) → n < 2 ^ 64 → codes "field " ++ written n ≡ entry_text (items.field n)
field-text n small = ap (λ (ds : List ℕ). codes "field " ++ ds) (sym (decimal-written n small))

pub column-text : (n : ℕ) → n < 2 ^ 64 → codes "column " ++ written n ≡ entry_text (items.column n)
column-text n small = ap (λ (ds : List ℕ). codes "column " ++ ds) (sym (decimal-written n small))

-- texts between numbers, as they are joined in a line and as they are written
joined : (a n b m c e : List ℕ) → a ++ (n ++ (b ++ (m ++ (c ++ e)))) ≡ a ++ n ++ b ++ m ++ c ++ e
joined a n b m c e = simp append_assoc

-- a number in a line
figures : (m n : ℕ) → m ≡ n → n < 2 ^ 64 → written m ≡ decimal n
figures m n e small = ap written e ∙ sym (decimal-written n small)

pub batch_line : (f : items.BatchFault) (n : ℕ) → n ≡ f.number → f.number < 2 ^ 64 → f.byte < 2 ^ 64 → codes "refused " ++ (written n ++ (codes " byte " ++ (written f.byte ++ (codes " " ++ entry_text f.entry)))) ≡ batch_fault_line f
batch_line f n e small byte =
    joined (codes "refused ") (written n) (codes " byte ") (written f.byte) (codes " ") (entry_text f.entry)
    ∙ (λ i. codes "refused " ++ figures n f.number e small i ++ codes " byte " ++ figures f.byte f.byte refl byte i ++ codes " " ++ entry_text f.entry)

pub step_line : (f : access.StepFault) (n : ℕ) → n ≡ f.number → f.number < 2 ^ 64 → f.field < 2 ^ 64 → f.column < 2 ^ 64 → codes "refused " ++ (written n ++ (codes " field " ++ (written f.field ++ (codes " column " ++ written f.column)))) ≡ step_fault_line f
step_line f n e small field column =
    joined (codes "refused ") (written n) (codes " field ") (written f.field) (codes " column ") (written f.column)
    ∙ (λ i. codes "refused " ++ figures n f.number e small i ++ codes " field " ++ figures f.field f.field refl field i ++ codes " column " ++ figures f.column f.column refl column i)
