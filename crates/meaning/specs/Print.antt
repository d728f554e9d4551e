-- The lines that the program prints, as bytes.
use Rattle.std.specs.Prelude.{ℕ, ◌+◌, Bool, true, false, not, List, [], ◌∷◌, ◌++◌, Ok, Err, codes, Result}
use Rattle.meaning.specs.Forest.{none, tree}
use Rattle.meaning.specs.Model.{Model}
use Rattle.meaning.specs.Items.{BatchFault}
use Rattle.meaning.specs.Text.{decimal, integer, hex, bytes, batch_fault_line, step_fault_line}
use Rattle.meaning.specs.File.{decode}
use Rattle.meaning.specs.Access.{Pick, StepFault}
use Rattle.meaning.specs.Literals.{Literal, null_literal, boolean_literal, int_literal, long_literal, float_literal, double_literal, bytes_literal, struct_literal, list_literal, map_literal, Values}
use Rattle.meaning.specs.Rows.{rows}
use Rattle.meaning.specs.Converts.{converts}
use Rattle.meaning.specs.Reaches.{reached}
use Rattle.meaning.specs.Table.{Table, add_reaches}

-- what stands between two parts: at the first nothing, in a map a colon before each value, else a comma
abbrev pub separator : Bool → Bool → Bool → List ℕ
separator m true value = []
separator true false true = codes ":"
separator true false false = codes ","
separator false false true = codes ","
separator false false false = codes ","

-- a literal's text, given the text of its parts as a struct's or list's, and as a map's
abbrev pub literal_text : Literal → List ℕ → List ℕ → List ℕ
literal_text null_literal inner pairs = codes "null"
literal_text (boolean_literal true) inner pairs = codes "true"
literal_text (boolean_literal false) inner pairs = codes "false"
literal_text (int_literal z) inner pairs = integer z
literal_text (long_literal z) inner pairs = integer z
literal_text (float_literal b) inner pairs = hex 8 b
literal_text (double_literal b) inner pairs = hex 16 b
literal_text (bytes_literal bs) inner pairs = codes "." ++ bytes bs
literal_text struct_literal inner pairs = codes "{" ++ inner ++ codes "}"
literal_text list_literal inner pairs = codes "[" ++ inner ++ codes "]"
literal_text map_literal inner pairs = codes "<" ++ pairs ++ codes ">"

-- the text of values side by side: in a map or not, at the first part or not, at a map's value or not
abbrev pub values_text : Bool → Bool → Bool → Values → List ℕ
values_text m first value none = []
values_text m first value (tree x below rest) = separator m first value ++ literal_text x (values_text false true false below) (values_text true true false below) ++ values_text m false (not value) rest

-- a line for each row, from number i on
abbrev pub row_lines : ℕ → Values → List ℕ
row_lines i none = []
row_lines i (tree x below rest) = codes "row " ++ decimal i ++ codes " " ++ literal_text x (values_text false true false below) [] ++ (10 ∷ row_lines (i + 1) rest)

-- a line for each entry of the counter's table
abbrev pub nan_lines : Table → List ℕ
nan_lines [] = []
nan_lines (e ∷ es) = codes "nan " ++ integer e.id ++ codes " " ++ decimal e.count ++ (10 ∷ nan_lines es)

module _ (pick : Model → Pick) where
  -- the lines of an accepted file: its rows and counts, or the refusal of its conversion
  abbrev pub outcome_lines : Model → Result ℕ StepFault → List ℕ
  outcome_lines m (Err f) = step_fault_line f ++ (10 ∷ [])
  outcome_lines m (Ok cells) = codes "rows " ++ decimal m.rows ++ (10 ∷ row_lines 0 (rows m (pick m))) ++ nan_lines (add_reaches m [] (reached m (pick m)).0 (reached m (pick m)).1).1

  -- the lines of a file that was read, or of its refusal; the program has 2048 cells
  abbrev pub file_lines : Result Model BatchFault → List ℕ
  file_lines (Err r) = batch_fault_line r ++ (10 ∷ [])
  file_lines (Ok m) = outcome_lines m (converts m (pick m) 2048)

  -- what the program prints for a file, matching columns to fields by this pick
  abbrev pub printed : List ℕ → List ℕ
  printed bs = file_lines (decode bs)
