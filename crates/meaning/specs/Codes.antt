-- Column codes: the number of each in a file, and which of them are structs, lists, maps and floats.
use Rattle.std.specs.Prelude.{ℕ, Bool, true, false, ◌||◌, Some, None, Option, ◌==◌}
use Rattle.meaning.specs.Model.{Model, Code, bits, words, variable, fixed_size_binary, structs, lists, large_lists, fixed_size_lists, maps, int32, int64, float32, float64, date32, time64, micros, nanos, utf8, large_utf8, binaries, large_binary, at}

-- the byte that stands for a column code
abbrev pub code_number : Code → ℕ
code_number bits = 1
code_number (words int32) = 2
code_number (words int64) = 3
code_number (words float32) = 4
code_number (words float64) = 5
code_number (words date32) = 7
code_number (words time64) = 8
code_number (words micros) = 9
code_number (words nanos) = 10
code_number (variable utf8) = 11
code_number (variable large_utf8) = 12
code_number (fixed_size_binary w) = 13
code_number (variable binaries) = 14
code_number (variable large_binary) = 15
code_number structs = 16
code_number lists = 17
code_number large_lists = 18
code_number (fixed_size_lists s) = 19
code_number maps = 20

-- the number that follows the byte: the width of a FixedSizeBinary, the size of a FixedSizeList
abbrev pub code_detail : Code → Option ℕ
code_detail bits = None
code_detail (words w) = None
code_detail (variable t) = None
code_detail (fixed_size_binary w) = Some w
code_detail structs = None
code_detail lists = None
code_detail large_lists = None
code_detail (fixed_size_lists s) = Some s
code_detail maps = None

-- a Struct column
abbrev pub is_struct : Code → Bool
is_struct bits = false
is_struct (words w) = false
is_struct (variable t) = false
is_struct (fixed_size_binary w) = false
is_struct structs = true
is_struct lists = false
is_struct large_lists = false
is_struct (fixed_size_lists s) = false
is_struct maps = false

-- a List, LargeList or FixedSizeList column
abbrev pub is_list : Code → Bool
is_list bits = false
is_list (words w) = false
is_list (variable t) = false
is_list (fixed_size_binary w) = false
is_list structs = false
is_list lists = true
is_list large_lists = true
is_list (fixed_size_lists s) = true
is_list maps = false

-- a Map column
abbrev pub is_map : Code → Bool
is_map bits = false
is_map (words w) = false
is_map (variable t) = false
is_map (fixed_size_binary w) = false
is_map structs = false
is_map lists = false
is_map large_lists = false
is_map (fixed_size_lists s) = false
is_map maps = true

-- a Float32 or Float64 column
abbrev pub is_float : Code → Bool
is_float k = code_number k == 4 || code_number k == 5

-- column c of a batch is a Struct column
abbrev pub struct? : Model → ℕ → Bool
struct? m c = is_struct (at m c).code

-- it is a List, LargeList or FixedSizeList column
abbrev pub list? : Model → ℕ → Bool
list? m c = is_list (at m c).code

-- it is a Map column
abbrev pub map? : Model → ℕ → Bool
map? m c = is_map (at m c).code

-- it is a Float32 or Float64 column
abbrev pub float? : Model → ℕ → Bool
float? m c = is_float (at m c).code
