-- What a case of the table is, and what is printed of it.
use Rattle.std.specs.Prelude.{◌==◌, ℕ, Bool, List, ◌++◌, codes}
use Rattle.meaning.specs.File.{decode}
use Rattle.info.specs.Lines.{report_text}

-- a blank parts the label from the parts of the file
abbrev pub is_blank : ℕ → Bool
is_blank c = c == 32

-- the line of the label, and then what is printed of the file
abbrev pub case_text : List ℕ → List ℕ → List ℕ
case_text label file = codes "case " ++ (label ++ (codes "\n" ++ report_text (decode file)))
