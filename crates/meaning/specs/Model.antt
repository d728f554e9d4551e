-- A batch: what a file means, apart from how it is stored.
use Rattle.std.specs.Prelude.{ℕ, zero, suc, Bool, List, [], ℤ, Some, None, Option}
use Rattle.meaning.specs.Forest.{Forest, none, find}

-- the primitive types of the Iceberg table specification, decimals left out; a Fixed has its length
pub data Primitive : Type 0 where
  boolean : Primitive
  int : Primitive
  long : Primitive
  float : Primitive
  double : Primitive
  date : Primitive
  time : Primitive
  timestamp : Primitive
  timestamptz : Primitive
  timestamp_ns : Primitive
  timestamptz_ns : Primitive
  string : Primitive
  uuid : Primitive
  fixed : ℕ → Primitive
  binary : Primitive
  deriving IsSet as Primitive-set

-- a type without the fields that it holds, which stand below its own field: a struct its fields, a list its element, a map its key and its value
pub data Shape : Type 0 where
  prim : Primitive → Shape
  struct : Shape
  list : Shape
  map : Shape
  deriving IsSet as Shape-set

-- a field of a schema: its id of 32 signed bits, whether it is required, its name's bytes, its type
pub record Field : Type 0 where
  pub id : ℤ
  pub required : Bool
  pub name : List ℕ
  pub shape : Shape
  deriving IsSet as Field-set

-- the columns of fixed-width values: Int32, Int64, Float32, Float64, Date32, Time64 in microseconds, Timestamp in microseconds and in nanoseconds
pub data Word : Type 0 where
  int32 : Word
  int64 : Word
  float32 : Word
  float64 : Word
  date32 : Word
  time64 : Word
  micros : Word
  nanos : Word
  deriving IsSet as Word-set

-- the columns of bytes cut by offsets: Utf8, LargeUtf8, Binary, LargeBinary
pub data Variable : Type 0 where
  utf8 : Variable
  large_utf8 : Variable
  binaries : Variable
  large_binary : Variable
  deriving IsSet as Variable-set

-- the column types of the Arrow columnar format: Boolean, fixed-width values, bytes cut by offsets, FixedSizeBinary of a width, Struct, List, LargeList, FixedSizeList of a size, Map
pub data Code : Type 0 where
  bits : Code
  words : Word → Code
  variable : Variable → Code
  fixed_size_binary : ℕ → Code
  structs : Code
  lists : Code
  large_lists : Code
  fixed_size_lists : ℕ → Code
  maps : Code
  deriving IsSet as Code-set

-- a column without its children, which stand below it: name, id text if it has one, code, length, validity bits if it has them, offsets, stored bytes
pub record Column : Type 0 where
  pub name : List ℕ
  pub id_text : Option (List ℕ)
  pub code : Code
  pub len : ℕ
  pub validity : Option (List ℕ)
  pub offsets : List ℕ
  pub body : List ℕ
  deriving IsSet as Column-set

-- what a batch file means: the number of rows, the schema's fields, the top columns
pub record Model : Type 0 where
  pub rows : ℕ
  pub fields : Forest Field
  pub columns : Forest Column

-- the batch itself, as column 0: a struct column without nulls whose children are the top columns
abbrev pub batch : Model → Column
batch m = record { name = []; id_text = None; code = structs; len = m.rows; validity = None; offsets = []; body = [] }

-- column c and the columns below it
abbrev pub column : Model → ℕ → Option (Column × Forest Column)
column m zero = Some (batch m, m.columns)
column m (suc c) = find (suc c) 1 m.columns

-- the column found; where none is, an empty struct column
abbrev pub head : Option (Column × Forest Column) → Column
head None = record { name = []; id_text = None; code = structs; len = 0; validity = None; offsets = []; body = [] }
head (Some (x, kids)) = x

-- the columns below the one found
abbrev pub below : Option (Column × Forest Column) → Forest Column
below None = none
below (Some (x, kids)) = kids

-- column c
abbrev pub at : Model → ℕ → Column
at m c = head (column m c)

-- the children of column c, and what is below them
abbrev pub children : Model → ℕ → Forest Column
children m c = below (column m c)
