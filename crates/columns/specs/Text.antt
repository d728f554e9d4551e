-- The text of column codes, as bytes of ASCII.
use Rattle.std.specs.Prelude.{ℕ, List, ◌++◌, codes}
use Rattle.meaning.specs.Model.{Word, int32, int64, float32, float64, date32, time64, micros, nanos, Variable, utf8, large_utf8, binaries, large_binary, Code, bits, words, variable, fixed_size_binary, structs, lists, large_lists, fixed_size_lists, maps}
use Rattle.meaning.specs.Text.{decimal}

-- the names that Arrow programs print
abbrev pub word_text : Word → List ℕ
word_text int32 = codes "int32"
word_text int64 = codes "int64"
word_text float32 = codes "float32"
word_text float64 = codes "float64"
word_text date32 = codes "date32"
word_text time64 = codes "time64[us]"
word_text micros = codes "timestamp[us]"
word_text nanos = codes "timestamp[ns]"

-- the same for bytes of any length
abbrev pub variable_text : Variable → List ℕ
variable_text utf8 = codes "utf8"
variable_text large_utf8 = codes "large_utf8"
variable_text binaries = codes "binary"
variable_text large_binary = codes "large_binary"

-- the code of a column, with its width or size
abbrev pub code_text : Code → List ℕ
code_text bits = codes "boolean"
code_text (words w) = word_text w
code_text (variable v) = variable_text v
code_text (fixed_size_binary w) = codes "fixed_size_binary[" ++ decimal w ++ codes "]"
code_text structs = codes "struct"
code_text lists = codes "list"
code_text large_lists = codes "large_list"
code_text (fixed_size_lists s) = codes "fixed_size_list[" ++ decimal s ++ codes "]"
code_text maps = codes "map"
