-- The text of a whole batch.
use Rattle.std.proofs.Common.{◌≡◌, ℕ, ◌+◌, ◌^◌, ◌<◌, List, ◌++◌, Ok, codes, decimal as written, sym, ap, ◌∙◌}
use Rattle.meaning.specs.Forest.{size}
use Rattle.meaning.specs.Model.{Model}
use Rattle.fault.proofs.Decimal.{decimal-written}
use Rattle.info.specs.Lines.{column_line, field_line, lines, report_text, rows_line}
use Rattle.info.specs.Segments.{between}
use Rattle.info.proofs.Adding.{whole-between}

rows-line : (n : ℕ) → n < 2 ^ 64 → codes "rows " ++ (written n ++ codes "\n") ≡ rows_line n ++ codes "\n"
unfolding rows_line
rows-line n small = ap (λ ds. codes "rows " ++ (ds ++ codes "\n")) (sym (decimal-written n small))

-- rows, fields and columns one after the other
pub batch-text : (m : Model) (rows fc cc : ℕ) (t0 t1 t2 : List ℕ) → rows ≡ m.rows → rows < 2 ^ 64 → fc ≡ size m.fields → cc ≡ size m.columns
    → t0 ≡ codes "rows " ++ (written rows ++ codes "\n") → t1 ≡ t0 ++ lines field_line 1 1 (between m.fields 1 (fc + 1)) → t2 ≡ t1 ++ lines column_line 1 1 (between m.columns 1 (cc + 1))
    → t2 ≡ report_text (Ok m)
batch-text m rows fc cc t0 t1 t2 r small f c e0 e1 e2 =
    e2 ∙ ap (λ x. t1 ++ lines column_line 1 1 x) (whole-between m.columns cc c)
    ∙ ap (λ t. t ++ lines column_line 1 1 m.columns) (e1 ∙ ap (λ x. t0 ++ lines field_line 1 1 x) (whole-between m.fields fc f) ∙ ap (λ t. t ++ lines field_line 1 1 m.fields) (e0 ∙ rows-line rows small))
    ∙ ap (λ n. rows_line n ++ codes "\n" ++ lines field_line 1 1 m.fields ++ lines column_line 1 1 m.columns) r
