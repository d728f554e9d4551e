-- Literals: the value at a slot, by the type's shape, and which keys of a map are one key.
use Rattle.std.specs.Prelude.{ℕ, ◌-◌, Bool, true, false, cond, not, ◌&&◌, ◌||◌, List, [], ◌∷◌, take, drop, ℤ, ◌==◌}
use Rattle.meaning.specs.Forest.{Forest, none, tree}
use Rattle.meaning.specs.Model.{Column, Shape, prim, struct, list, map, Primitive, boolean, int, long, float, double, date, time, timestamp, timestamptz, timestamp_ns, timestamptz_ns, string, uuid, fixed, binary}
use Rattle.meaning.specs.Items.{signed}
use Rattle.meaning.specs.Equal.{same_integer, same_bytes, same_boolean}
use Rattle.meaning.specs.Slots.{null, bit, span, stored, nan32, nan64}

-- a value without its parts, which stand below it: a struct's fields, a list's elements, a map's keys and values in turn.
-- A float or double is its bits (IEEE 754)
pub data Literal : Type 0 where
  null_literal : Literal
  boolean_literal : Bool → Literal
  int_literal : ℤ → Literal
  long_literal : ℤ → Literal
  float_literal : ℕ → Literal
  double_literal : ℕ → Literal
  bytes_literal : List ℕ → Literal
  struct_literal : Literal
  list_literal : Literal
  map_literal : Literal

-- values side by side
abbrev pub Values : Type 0
Values = Forest Literal

-- a value whole: its literal, and its parts
abbrev pub Value : Type 0
Value = Literal × Values

-- a value beside others
abbrev pub put_before : Value → Values → Values
put_before v rest = tree v.0 v.1 rest

-- values side by side, as a list of them
abbrev pub listed : Values → List Value
listed none = []
listed (tree x ps rest) = (x, ps) ∷ listed rest

-- the bytes of slot i of a text, binary or fixed-size binary column
abbrev pub bytes_at : Column → ℕ → List ℕ
bytes_at x i = take ((span x i).1 - (span x i).0) (drop (span x i).0 x.body)

-- what slot i holds, as a value of a primitive type of the table format: dates are ints, times and timestamps longs, text and UUIDs bytes
abbrev pub primitive_literal : Primitive → Column → ℕ → Literal
primitive_literal boolean x i = boolean_literal (bit x.body i)
primitive_literal int x i = int_literal (signed 4 (stored 4 x.body i))
primitive_literal long x i = long_literal (signed 8 (stored 8 x.body i))
primitive_literal float x i = float_literal (stored 4 x.body i)
primitive_literal double x i = double_literal (stored 8 x.body i)
primitive_literal date x i = int_literal (signed 4 (stored 4 x.body i))
primitive_literal time x i = long_literal (signed 8 (stored 8 x.body i))
primitive_literal timestamp x i = long_literal (signed 8 (stored 8 x.body i))
primitive_literal timestamptz x i = long_literal (signed 8 (stored 8 x.body i))
primitive_literal timestamp_ns x i = long_literal (signed 8 (stored 8 x.body i))
primitive_literal timestamptz_ns x i = long_literal (signed 8 (stored 8 x.body i))
primitive_literal string x i = bytes_literal (bytes_at x i)
primitive_literal uuid x i = bytes_literal (bytes_at x i)
primitive_literal (fixed n) x i = bytes_literal (bytes_at x i)
primitive_literal binary x i = bytes_literal (bytes_at x i)

-- what slot i holds if it is not null, by the type's shape
abbrev pub literal_by : Shape → Column → ℕ → Literal
literal_by (prim p) x i = primitive_literal p x i
literal_by struct x i = struct_literal
literal_by list x i = list_literal
literal_by map x i = map_literal

-- the literal at slot i: a null slot gives null, whatever the type
abbrev pub literal_at : Shape → Column → ℕ → Literal
literal_at s x i = cond (null x i) null_literal (literal_by s x i)

-- the bits of the float 0: +0 or -0
abbrev pub zero32 : ℕ → Bool
zero32 a = a == 0 || a == 2147483648

-- the bits of the double 0: +0 or -0
abbrev pub zero64 : ℕ → Bool
zero64 a = a == 0 || a == 9223372036854775808

-- two floats are one key if both are NaN or the numbers are equal, so -0 is +0
abbrev pub same32 : ℕ → ℕ → Bool
same32 a b = (nan32 a && nan32 b) || ((zero32 a && zero32 b) || (not (nan32 a) && a == b))

-- two doubles likewise
abbrev pub same64 : ℕ → ℕ → Bool
same64 a b = (nan64 a && nan64 b) || ((zero64 a && zero64 b) || (not (nan64 a) && a == b))

-- whether slots i and j of a key column hold one key: floats as above, everything else by content
abbrev pub same_key : Primitive → Column → ℕ → ℕ → Bool
same_key boolean x i j = same_boolean (bit x.body i) (bit x.body j)
same_key int x i j = stored 4 x.body i == stored 4 x.body j
same_key long x i j = stored 8 x.body i == stored 8 x.body j
same_key float x i j = same32 (stored 4 x.body i) (stored 4 x.body j)
same_key double x i j = same64 (stored 8 x.body i) (stored 8 x.body j)
same_key date x i j = stored 4 x.body i == stored 4 x.body j
same_key time x i j = stored 8 x.body i == stored 8 x.body j
same_key timestamp x i j = stored 8 x.body i == stored 8 x.body j
same_key timestamptz x i j = stored 8 x.body i == stored 8 x.body j
same_key timestamp_ns x i j = stored 8 x.body i == stored 8 x.body j
same_key timestamptz_ns x i j = stored 8 x.body i == stored 8 x.body j
same_key string x i j = same_bytes (bytes_at x i) (bytes_at x j)
same_key uuid x i j = same_bytes (bytes_at x i) (bytes_at x j)
same_key (fixed n) x i j = same_bytes (bytes_at x i) (bytes_at x j)
same_key binary x i j = same_bytes (bytes_at x i) (bytes_at x j)

-- the same, by the key type's shape; a batch's key types are primitive
abbrev pub same_by : Shape → Column → ℕ → ℕ → Bool
same_by (prim p) x i j = same_key p x i j
same_by struct x i j = i == j
same_by list x i j = i == j
same_by map x i j = i == j

-- whether a literal is null
abbrev pub is_null_literal : Literal → Bool
is_null_literal null_literal = true
is_null_literal (boolean_literal b) = false
is_null_literal (int_literal z) = false
is_null_literal (long_literal z) = false
is_null_literal (float_literal b) = false
is_null_literal (double_literal b) = false
is_null_literal (bytes_literal bs) = false
is_null_literal struct_literal = false
is_null_literal list_literal = false
is_null_literal map_literal = false

-- whether two literals are one key, by value: floats as above, everything else by content; a literal that is no primitive value is no key
abbrev pub same_literal : Literal → Literal → Bool
same_literal (boolean_literal a) y = elim y [ boolean_literal b ↦ same_boolean a b | null_literal ↦ false | int_literal z ↦ false | long_literal z ↦ false | float_literal b ↦ false | double_literal b ↦ false | bytes_literal bs ↦ false | struct_literal ↦ false | list_literal ↦ false | map_literal ↦ false ]
same_literal (int_literal a) y = elim y [ int_literal b ↦ same_integer a b | null_literal ↦ false | boolean_literal b ↦ false | long_literal z ↦ false | float_literal b ↦ false | double_literal b ↦ false | bytes_literal bs ↦ false | struct_literal ↦ false | list_literal ↦ false | map_literal ↦ false ]
same_literal (long_literal a) y = elim y [ long_literal b ↦ same_integer a b | null_literal ↦ false | boolean_literal b ↦ false | int_literal z ↦ false | float_literal b ↦ false | double_literal b ↦ false | bytes_literal bs ↦ false | struct_literal ↦ false | list_literal ↦ false | map_literal ↦ false ]
same_literal (float_literal a) y = elim y [ float_literal b ↦ same32 a b | null_literal ↦ false | boolean_literal b ↦ false | int_literal z ↦ false | long_literal z ↦ false | double_literal b ↦ false | bytes_literal bs ↦ false | struct_literal ↦ false | list_literal ↦ false | map_literal ↦ false ]
same_literal (double_literal a) y = elim y [ double_literal b ↦ same64 a b | null_literal ↦ false | boolean_literal b ↦ false | int_literal z ↦ false | long_literal z ↦ false | float_literal b ↦ false | bytes_literal bs ↦ false | struct_literal ↦ false | list_literal ↦ false | map_literal ↦ false ]
same_literal (bytes_literal a) y = elim y [ bytes_literal b ↦ same_bytes a b | null_literal ↦ false | boolean_literal b ↦ false | int_literal z ↦ false | long_literal z ↦ false | float_literal b ↦ false | double_literal b ↦ false | struct_literal ↦ false | list_literal ↦ false | map_literal ↦ false ]
same_literal null_literal y = false
same_literal struct_literal y = false
same_literal list_literal y = false
same_literal map_literal y = false
