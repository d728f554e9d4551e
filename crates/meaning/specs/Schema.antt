-- Reading the fields of a schema: types and field ids of the Iceberg table specification.
use Rattle.std.specs.Prelude.{ℕ, zero, suc, ◌+◌, ◌-◌, Bool, true, false, cond, ◌&&◌, ◌||◌, List, [], ◌∷◌, ◌==◌, nat_le, nat_lt}
use Rattle.meaning.specs.Forest.{Forest, none, tree, size}
use Rattle.meaning.specs.Model.{Field, Shape, prim, struct, list, map, Primitive, boolean, int, long, float, double, date, time, timestamp, timestamptz, timestamp_ns, timestamptz_ns, string, uuid, fixed, binary}
use Rattle.meaning.specs.Items.{field, Read, refused, ◌then◌, give, exactly, byte, flag, number, limited, text, little, signed}

-- how a type code goes on: a primitive type, a Fixed with its length, a struct, a list, a map, or a decimal, which is refused
pub data Kind : Type 0 where
  plain : Primitive → Kind
  sized : Kind
  group : Kind
  one : Kind
  pair : Kind
  decimal : Kind

-- the kind beside a code
abbrev pub pick : ℕ → List (ℕ × Kind) → Kind
pick c [] = decimal
pick c (x ∷ xs) = cond (c == x.0) x.1 (pick c xs)

-- the type codes
abbrev pub kind_of : ℕ → Kind
kind_of c =
    pick c ((1, plain boolean) ∷ (2, plain int) ∷ (3, plain long) ∷ (4, plain float) ∷ (5, plain double) ∷ (6, decimal) ∷ (7, plain date) ∷ (8, plain time)
    ∷ (9, plain timestamp) ∷ (10, plain timestamptz) ∷ (11, plain timestamp_ns) ∷ (12, plain timestamptz_ns) ∷ (13, plain string) ∷ (14, plain uuid) ∷ (15, sized)
    ∷ (16, plain binary) ∷ (17, group) ∷ (18, one) ∷ (19, pair) ∷ [])

-- a reader of so many fields side by side, the first of them a map's key or not, from a number on
abbrev pub Fields : Type 0
Fields = ℕ → Bool → ℕ → Read (Forest Field)

-- a type is its shape and the fields that it holds
abbrev pub Type' : Type 0
Type' = Shape × Forest Field

-- a type of this shape, holding these fields
abbrev pub held_by : Shape → Forest Field → Type'
held_by s fs = (s, fs)

-- what no map's key may be
abbrev pub nested : Kind → Bool
nested (plain p) = false
nested sized = false
nested group = true
nested one = true
nested pair = true
nested decimal = true

-- what follows the code, for the type of field n: a length, or the fields that the type holds
abbrev pub type_by : Fields → ℕ → Kind → Read Type'
type_by kids n (plain p) = give (held_by (prim p) none)
type_by kids n sized = limited (field n) 65536 then (λ k. give (held_by (prim (fixed k)) none))
type_by kids n group = number (field n) then (λ k. kids k false (n + 1) then (λ fs. give (held_by struct fs)))
type_by kids n one = kids 1 false (n + 1) then (λ fs. give (held_by list fs))
type_by kids n pair = kids 2 true (n + 1) then (λ fs. give (held_by map fs))
type_by kids n decimal = give (held_by struct none)

-- the type of field n, a map's key or not; decimals, and a key type that holds fields, are refused (7) at the code
abbrev pub typed : Fields → Bool → ℕ → Read Type'
typed kids key n =
    byte (field n) (λ c. nat_le 1 c && nat_le c 19)
    then (λ c r. cond (c == 6 || (key && nested (kind_of c))) (refused 7 (r.at - 1) (field n)) (type_by kids n (kind_of c) r))

-- field n: its id, whether it is required, its name, its type
abbrev pub fielded : Fields → Bool → ℕ → Read (Field × Forest Field)
fielded kids key n =
    exactly (field n) 4
    then (λ id. flag (field n)
    then (λ required. text (field n)
    then (λ name. typed kids key n
    then (λ t. give (record { id = signed 4 (little id); required = required; name = name; shape = t.0 }, t.1)))))

-- so many fields side by side, the first being n; the 257th is refused (4) before its items
abbrev pub siblings : Fields → Fields
siblings kids zero key n = give none
siblings kids (suc k) key n = λ r.
    cond (nat_lt 256 n) (refused 4 r.at (field n))
    ((fielded kids key n then (λ f. siblings kids k false (n + 1 + size f.1) then (λ fs. give (tree f.0 f.1 fs)))) r)

-- the same with so many levels left; an entry below them is refused (4) before its items
abbrev pub fields : ℕ → Fields
fields zero zero key n = give none
fields zero (suc k) key n = λ r. refused 4 r.at (field n)
fields (suc l) k key n = siblings (λ k key n. fields l k key n) k key n
