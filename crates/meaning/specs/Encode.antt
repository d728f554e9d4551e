-- The file of a batch: the one encoding that means it.
use Rattle.std.specs.Prelude.{ℕ, zero, suc, ◌+◌, ◌-◌, ◌/◌, ◌%◌, ◌^◌, Bool, true, false, cond, List, [], ◌∷◌, ◌++◌, length, ℤ, pos, negsuc, Some, None, Option, nat_lt}
use Rattle.meaning.specs.Codes.{code_number, code_detail}
use Rattle.meaning.specs.Columns.{offset_of}
use Rattle.meaning.specs.Forest.{Forest, none, tree, count}
use Rattle.meaning.specs.Model.{Model, Field, Column, Shape, prim, struct, list, map, Primitive, boolean, int, long, float, double, date, time, timestamp, timestamptz, timestamp_ns, timestamptz_ns, string, uuid, fixed, binary, Code, bits, words, variable, fixed_size_binary, structs, lists, large_lists, fixed_size_lists, maps}

-- groups of seven bits, lowest first, in the shortest form
abbrev pub groups : ℕ → ℕ → List ℕ
groups zero n = []
groups (suc k) n = cond (nat_lt n 128) (n ∷ []) ((n % 128 + 128) ∷ groups k (n / 128))

-- a number below 2^32
abbrev pub numeral : ℕ → List ℕ
numeral n = groups 5 n

-- w bytes, low byte first
abbrev pub fixed_width : ℕ → ℕ → List ℕ
fixed_width zero n = []
fixed_width (suc w) n = (n % 256) ∷ fixed_width w (n / 256)

-- a name or an id text: the number of its bytes, then the bytes
abbrev pub text : List ℕ → List ℕ
text bs = numeral (length bs) ++ bs

-- a flag byte
abbrev pub flag : Bool → List ℕ
flag true = 1 ∷ []
flag false = 0 ∷ []

-- the 32 bits of a signed number; `negsuc n` is -1 - n
abbrev pub unsigned : ℤ → ℕ
unsigned (pos n) = n
unsigned (negsuc n) = 2 ^ 32 - 1 - n

-- a flag, and if it is 1 what it announces
abbrev pub optional : {X : Type 0} → (X → List ℕ) → Option X → List ℕ
optional f None = 0 ∷ []
optional f (Some x) = 1 ∷ f x

-- a primitive type's code, and the length of a Fixed
abbrev pub primitive_code : Primitive → List ℕ
primitive_code boolean = 1 ∷ []
primitive_code int = 2 ∷ []
primitive_code long = 3 ∷ []
primitive_code float = 4 ∷ []
primitive_code double = 5 ∷ []
primitive_code date = 7 ∷ []
primitive_code time = 8 ∷ []
primitive_code timestamp = 9 ∷ []
primitive_code timestamptz = 10 ∷ []
primitive_code timestamp_ns = 11 ∷ []
primitive_code timestamptz_ns = 12 ∷ []
primitive_code string = 13 ∷ []
primitive_code uuid = 14 ∷ []
primitive_code (fixed n) = 15 ∷ numeral n
primitive_code binary = 16 ∷ []

-- a type's code, and for a struct the number of its fields
abbrev pub shape_code : Shape → ℕ → List ℕ
shape_code (prim p) n = primitive_code p
shape_code struct n = 17 ∷ numeral n
shape_code list n = 18 ∷ []
shape_code map n = 19 ∷ []

-- fields side by side, each followed by the fields that its type holds
abbrev pub field_bytes : Forest Field → List ℕ
field_bytes none = []
field_bytes (tree f below rest) =
    fixed_width 4 (unsigned f.id) ++ flag f.required ++ text f.name ++ shape_code f.shape (count below) ++ field_bytes below ++ field_bytes rest

-- what stands behind a column code
abbrev pub detail_bytes : Option ℕ → List ℕ
detail_bytes None = []
detail_bytes (Some d) = numeral d

-- a column's code, and its width or size
abbrev pub column_code : Code → List ℕ
column_code k = code_number k ∷ detail_bytes (code_detail k)

-- offsets of w bytes each
abbrev pub offsets : ℕ → List ℕ → List ℕ
offsets w [] = []
offsets w (o ∷ os) = fixed_width w o ++ offsets w os

-- a column's body before its children: bits, slots, or offsets and data; a struct has the number n of its children
abbrev pub body_bytes : Code → Column → ℕ → List ℕ
body_bytes bits x n = x.body
body_bytes (words w) x n = x.body
body_bytes (variable t) x n = offsets (offset_of t) x.offsets ++ text x.body
body_bytes (fixed_size_binary w) x n = x.body
body_bytes structs x n = numeral n
body_bytes lists x n = offsets 4 x.offsets
body_bytes large_lists x n = offsets 8 x.offsets
body_bytes (fixed_size_lists s) x n = []
body_bytes maps x n = offsets 4 x.offsets

-- columns side by side, each followed by its children
abbrev pub column_bytes : Forest Column → List ℕ
column_bytes none = []
column_bytes (tree x below rest) =
    text x.name ++ optional text x.id_text ++ column_code x.code ++ numeral x.len ++ optional (λ bs. bs) x.validity
    ++ body_bytes x.code x (count below) ++ column_bytes below ++ column_bytes rest

-- the whole file: edition 1, rows, fields, columns
abbrev pub encode : Model → List ℕ
encode m = 1 ∷ numeral m.rows ++ numeral (count m.fields) ++ field_bytes m.fields ++ numeral (count m.columns) ++ column_bytes m.columns
