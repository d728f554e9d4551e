-- The rules that a batch keeps: limits, what types hold, and the layouts of the Arrow columnar format.
use Rattle.std.specs.Prelude.{◌≡◌, ℕ, ◌+◌, ◌-◌, ◌*◌, ◌/◌, ◌^◌, ◌<◌, ◌≤◌, max, List, [], ◌∷◌, length, ℤ, pos, negsuc, Some, None, Option}
use Rattle.std.specs.List.{AllByRecursion}
use Rattle.meaning.specs.Forest.{Forest, none, tree, size, count}
use Rattle.meaning.specs.Model.{Model, Field, Column, Shape, prim, struct, list, map, Primitive, boolean, int, long, float, double, date, time, timestamp, timestamptz, timestamp_ns, timestamptz_ns, string, uuid, fixed, binary, Code, bits, words, variable, fixed_size_binary, structs, lists, large_lists, fixed_size_lists, maps}
use Rattle.meaning.specs.Columns.{width_of, offset_of, first_len}
use Rattle.meaning.specs.Encode.{encode}

-- how many levels a forest has
abbrev pub levels : {H : Type 0} → Forest H → ℕ
levels none = 0
levels (tree h kids rest) = max (1 + levels kids) (levels rest)

-- numbers below 256
abbrev pub Bytes : List ℕ → Type 0
Bytes bs = AllByRecursion (λ b. b < 256) bs

-- a name or an id text: at most 255 bytes
abbrev pub Short : List ℕ → Type 0
Short bs = (length bs ≤ 255) × Bytes bs

-- an id is a number of 32 signed bits: negsuc n is -1 - n
abbrev pub InRange : ℤ → Type 0
InRange (pos n) = n < 2 ^ 31
InRange (negsuc n) = n < 2 ^ 31

-- only the length of a Fixed has a limit
abbrev pub Sized : Primitive → Type 0
Sized boolean = Unit {0}
Sized int = Unit {0}
Sized long = Unit {0}
Sized float = Unit {0}
Sized double = Unit {0}
Sized date = Unit {0}
Sized time = Unit {0}
Sized timestamp = Unit {0}
Sized timestamptz = Unit {0}
Sized timestamp_ns = Unit {0}
Sized timestamptz_ns = Unit {0}
Sized string = Unit {0}
Sized uuid = Unit {0}
Sized (fixed n) = n ≤ 65536
Sized binary = Unit {0}

-- what a key's type must be: primitive
abbrev pub Plain : Shape → Type 0
Plain (prim p) = Unit {0}
Plain struct = ⊥
Plain list = ⊥
Plain map = ⊥

-- the first of a map's fields, its key, has a primitive type
abbrev pub KeyFirst : Forest Field → Type 0
KeyFirst none = Unit {0}
KeyFirst (tree f below rest) = Plain f.shape

-- what a type asks of the fields that it holds: a primitive type none, a list its element, a map its key and its value
abbrev pub Holds : Shape → Forest Field → Type 0
Holds (prim p) below = Sized p × (below ≡ none)
Holds struct below = Unit {0}
Holds list below = count below ≡ 1
Holds map below = (count below ≡ 2) × KeyFirst below

-- every field, at every level
abbrev pub FieldsKeep : Forest Field → Type 0
FieldsKeep none = Unit {0}
FieldsKeep (tree f below rest) = InRange f.id × Short f.name × Holds f.shape below × FieldsKeep below × FieldsKeep rest

-- something holds of the lengths of columns side by side
abbrev pub Lengths : (ℕ → Type 0) → Forest Column → Type 0
Lengths P none = Unit {0}
Lengths P (tree x below rest) = P x.len × Lengths P rest

-- none is below the one before it, the first not below `last`; all are below `top`
abbrev pub Rising : ℕ → ℕ → List ℕ → Type 0
Rising top last [] = Unit {0}
Rising top last (o ∷ os) = (last ≤ o) × (o < top) × Rising top o os

-- a column of n slots has n + 1 offsets (Arrow), each a signed number of so many bytes that is not negative
abbrev pub Cuts : ℕ → Column → Type 0
Cuts width x = (length x.offsets ≡ x.len + 1) × Rising (2 ^ (8 * width - 1)) 0 x.offsets

-- no offset is past the end of what it cuts
abbrev pub Within : List ℕ → ℕ → Type 0
Within os end = AllByRecursion (λ o. o ≤ end) os

-- a body of so many bytes, and no offsets and no columns below
abbrev pub Stored : ℕ → Column → Forest Column → Type 0
Stored n x below = (length x.body ≡ n) × Bytes x.body × (x.offsets ≡ []) × (below ≡ none)

-- what a column's code asks of its body and of its children (the layouts of the Arrow columnar format)
abbrev pub Bodied : Code → Column → Forest Column → Type 0
Bodied bits x below = Stored ((x.len + 7) / 8) x below
Bodied (words w) x below = Stored (x.len * width_of w) x below
Bodied (fixed_size_binary w) x below = (1 ≤ w) × (w ≤ 65536) × Stored (x.len * w) x below
Bodied (variable t) x below = Cuts (offset_of t) x × Within x.offsets (length x.body) × Bytes x.body × (below ≡ none)
Bodied structs x below = (x.offsets ≡ []) × (x.body ≡ []) × Lengths (λ k. k ≡ x.len) below
Bodied lists x below = Cuts 4 x × (x.body ≡ []) × (count below ≡ 1) × Lengths (Within x.offsets) below
Bodied large_lists x below = Cuts 8 x × (x.body ≡ []) × (count below ≡ 1) × Lengths (Within x.offsets) below
Bodied (fixed_size_lists s) x below =
    (1 ≤ s) × (s ≤ 65536) × (x.offsets ≡ []) × (x.body ≡ []) × (count below ≡ 1) × Lengths (λ k. k / s ≡ x.len) below
Bodied maps x below =
    Cuts 4 x × (x.body ≡ []) × (count below ≡ 2) × Lengths (Within x.offsets) below × Lengths (λ k. k ≡ first_len below) below

-- what may be absent keeps a rule where it is there
abbrev pub Optional : (List ℕ → Type 0) → Option (List ℕ) → Type 0
Optional P None = Unit {0}
Optional P (Some bs) = P bs

-- validity bits: (len + 7) / 8 bytes of them
abbrev pub Validity : ℕ → List ℕ → Type 0
Validity len bs = (length bs ≡ (len + 7) / 8) × Bytes bs

-- every column, at every level
abbrev pub ColumnsKeep : Forest Column → Type 0
ColumnsKeep none = Unit {0}
ColumnsKeep (tree x below rest) =
    Short x.name × Optional Short x.id_text × (x.len ≤ 65536) × Optional (Validity x.len) x.validity × Bodied x.code x below
    × ColumnsKeep below × ColumnsKeep rest

-- the rules of a batch
pub record Keeps (m : Model) : Type 0 where
  -- at most 65,536 rows
  pub rows : m.rows ≤ 65536
  -- at most 256 fields, at most 16 levels of them, and every field keeps its rules
  pub few_fields : size m.fields ≤ 256
  pub field_levels : levels m.fields ≤ 16
  pub fields : FieldsKeep m.fields
  -- at most 256 columns, at most 16 levels of them, and every column keeps its rules
  pub few_columns : size m.columns ≤ 256
  pub column_levels : levels m.columns ≤ 16
  pub columns : ColumnsKeep m.columns
  -- the top columns are as long as the batch has rows
  pub lengths : Lengths (λ k. k ≡ m.rows) m.columns
  -- the file has at most 1,048,576 bytes
  pub small : length (encode m) ≤ 1048576
