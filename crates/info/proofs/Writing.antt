-- The lines of fields and columns, piece by piece as they are written.
use Rattle.std.proofs.Common.{◌≡◌, ℕ, ◌^◌, ◌<◌, List, ◌++◌, ℤ, codes, decimal as written, sym, ap, ◌∙◌, append_assoc}
use lib.Signed.{mag}
use Rattle.std.specs.Fmt.{signed_decimal}
use Rattle.fault.proofs.Decimal.{decimal-written, integer-written}
use Rattle.meaning.specs.Model.{Field, Column}
use Rattle.meaning.specs.Text.{decimal}
use Rattle.schema.specs.Text.{type_text}
use Rattle.columns.specs.Text.{code_text}
use Rattle.info.specs.Lines.{quoted, nulls, id_text, required_text, field_line, column_line}

-- pieces as they are written, and as a line joins them
twelve : (a b c d e f g h i j k l : List ℕ) → a ++ (b ++ (c ++ (d ++ (e ++ (f ++ (g ++ (h ++ (i ++ (j ++ (k ++ l)))))))))) ≡ a ++ b ++ c ++ d ++ e ++ f ++ g ++ h ++ i ++ j ++ k ++ l
twelve a b c d e f g h i j k l = simp append_assoc

fourteen : (a b c d e f g h i j k l m n : List ℕ) → (a ++ (b ++ (c ++ (d ++ (e ++ (f ++ (g ++ (h ++ (i ++ (j ++ (k ++ l))))))))))) ++ (m ++ n) ≡ a ++ b ++ c ++ d ++ e ++ f ++ g ++ h ++ i ++ j ++ k ++ l ++ m ++ n
fourteen a b c d e f g h i j k l m n = simp append_assoc

pub field-line : (level n : ℕ) (f : Field) (id : ℤ) (presence : List ℕ) → level < 2 ^ 64 → n < 2 ^ 64 → id ≡ f.id → mag f.id < 2 ^ 63 → presence ≡ required_text f.required
    → codes "field " ++ (written n ++ (codes " level " ++ (written level ++ (codes " id " ++ (signed_decimal id ++ (codes " " ++ (presence ++ (codes " name " ++ (quoted f.name ++ (codes " " ++ type_text f.shape))))))))))
    ≡ field_line level n f
unfolding field_line
field-line level n f id presence small few same near e =
    twelve (codes "field ") (written n) (codes " level ") (written level) (codes " id ") (signed_decimal id) (codes " ") presence (codes " name ") (quoted f.name) (codes " ") (type_text f.shape)
    ∙ (λ i. codes "field " ++ sym (decimal-written n few) i ++ codes " level " ++ sym (decimal-written level small) i ++ codes " id " ++ (ap signed_decimal same ∙ sym (integer-written f.id near)) i
    ++ codes " " ++ e i ++ codes " name " ++ quoted f.name ++ codes " " ++ type_text f.shape)

pub column-line : (level n : ℕ) (x : Column) (k : ℕ) → level < 2 ^ 64 → n < 2 ^ 64 → x.len < 2 ^ 64 → k < 2 ^ 64 → k ≡ nulls x
    → codes "column " ++ (written n ++ (codes " level " ++ (written level ++ (codes " name " ++ (quoted x.name ++ (codes " id " ++ (id_text x.id_text ++ (codes " " ++ (code_text x.code ++ (codes " length " ++ written x.len)))))))))) ++ (codes " nulls " ++ written k)
    ≡ column_line level n x
unfolding column_line
column-line level n x k small few long some e =
    fourteen (codes "column ") (written n) (codes " level ") (written level) (codes " name ") (quoted x.name) (codes " id ") (id_text x.id_text) (codes " ") (code_text x.code) (codes " length ") (written x.len) (codes " nulls ") (written k)
    ∙ (λ i. codes "column " ++ sym (decimal-written n few) i ++ codes " level " ++ sym (decimal-written level small) i ++ codes " name " ++ quoted x.name ++ codes " id " ++ id_text x.id_text
    ++ codes " " ++ code_text x.code ++ codes " length " ++ sym (decimal-written x.len long) i ++ codes " nulls " ++ (sym (decimal-written k some) ∙ ap decimal e) i)
