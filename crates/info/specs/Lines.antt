-- The lines that say what a batch holds, as bytes of ASCII.
use Rattle.std.specs.Prelude.{ℕ, ◌+◌, ◌/◌, ◌%◌, ◌^◌, Bool, true, false, cond, not, ◌&&◌, List, [], ◌∷◌, ◌++◌, Some, None, Ok, Err, codes, Option, Result, ◌==◌, nat_le}
use Rattle.std.specs.List.{flat_map}
use Rattle.meaning.specs.Forest.{Forest, none, tree, size}
use Rattle.meaning.specs.Model.{Field, Column, Model}
use Rattle.meaning.specs.Slots.{bit, null}
use Rattle.meaning.specs.Lists.{tally, upto}
use Rattle.meaning.specs.Items.{BatchFault}
use Rattle.meaning.specs.Text.{decimal, integer, hex, batch_fault_line}
use Rattle.schema.specs.Text.{type_text}
use Rattle.columns.specs.Text.{code_text}

-- printable ASCII but the double quote and the backslash
abbrev pub printable : ℕ → Bool
printable b = nat_le 32 b && (nat_le b 126 && (not (b == 34) && not (b == 92)))

-- a byte as it is, or its two hex digits
abbrev pub quoted_byte : ℕ → List ℕ
quoted_byte b = cond (printable b) (b ∷ []) (codes "\\x" ++ hex 2 b)

-- bytes one after the other
abbrev pub escaped : List ℕ → List ℕ
escaped = flat_map quoted_byte

-- bytes between double quotes
abbrev pub quoted : List ℕ → List ℕ
quoted bs = codes "\"" ++ escaped bs ++ codes "\""

-- how many of a column's slots are null
abbrev pub nulls : Column → ℕ
nulls x = tally (null x) (upto x.len)

-- how many of a byte's bits are 0
abbrev pub unset_in : ℕ → ℕ
unset_in b = tally (λ i. not (b / 2 ^ i % 2 == 1)) (upto 8)

-- how many of n bits are 0, from bit a on
abbrev pub unset_from : List ℕ → ℕ → ℕ → ℕ
unset_from bs a n = tally (λ i. not (bit bs (a + i))) (upto n)

-- a column may have no id text
abbrev pub id_text : Option (List ℕ) → List ℕ
id_text None = codes "none"
id_text (Some bs) = quoted bs

-- whether a field may be null
abbrev pub required_text : Bool → List ℕ
required_text true = codes "required"
required_text false = codes "optional"

-- the line of field n, without its end
unfoldable pub field_line : ℕ → ℕ → Field → List ℕ
field_line level n f =
    codes "field " ++ decimal n ++ codes " level " ++ decimal level ++ codes " id " ++ integer f.id ++ codes " " ++ required_text f.required
    ++ codes " name " ++ quoted f.name ++ codes " " ++ type_text f.shape

-- the line of column n, without its end
unfoldable pub column_line : ℕ → ℕ → Column → List ℕ
column_line level n x =
    codes "column " ++ decimal n ++ codes " level " ++ decimal level ++ codes " name " ++ quoted x.name ++ codes " id " ++ id_text x.id_text
    ++ codes " " ++ code_text x.code ++ codes " length " ++ decimal x.len ++ codes " nulls " ++ decimal (nulls x)

-- trees side by side at a level, the first of them number n, in the order of their numbers
module _ {H : Type 0} (line : ℕ → ℕ → H → List ℕ) where
  -- each line is followed by those of the trees below it, one level deeper
  abbrev pub lines : ℕ → ℕ → Forest H → List ℕ
  lines level n none = []
  lines level n (tree h below rest) = line level n h ++ codes "\n" ++ lines (level + 1) (n + 1) below ++ lines level (n + 1 + size below) rest

-- the lines of a schema
abbrev pub field_lines : ℕ → ℕ → Forest Field → List ℕ
field_lines = lines field_line

-- the lines of the columns
abbrev pub column_lines : ℕ → ℕ → Forest Column → List ℕ
column_lines = lines column_line

-- the line of the number of rows, without its end
unfoldable pub rows_line : ℕ → List ℕ
rows_line n = codes "rows " ++ decimal n

-- what is printed of a file that is read, or refused
abbrev pub report_text : Result Model BatchFault → List ℕ
report_text (Ok m) = rows_line m.rows ++ codes "\n" ++ field_lines 1 1 m.fields ++ column_lines 1 1 m.columns
report_text (Err f) = batch_fault_line f ++ codes "\n"
