-- What the proofs of the laws use of the rules, by the numbers of columns.
use Rattle.std.proofs.Common.{◌≡◌, ℕ, ◌+◌, ◌/◌, ◌<◌, ◌≤◌, true, get_or}
use Rattle.meaning.specs.Forest.{Forest, none, tree, size}
use Rattle.meaning.specs.Model.{Model, Column, Field, Shape, prim, struct, list, map, Code, bits, words, variable, fixed_size_binary, structs, lists, large_lists, fixed_size_lists, maps, at}
use Rattle.meaning.specs.Lists.{among}
use Rattle.meaning.specs.Codes.{struct?, map?}
use Rattle.meaning.specs.Keeps.{Bytes, Plain}
use Rattle.meaning.specs.Access.{child_at, child_numbers}

-- a primitive type holds no field, a list type one, and a map type a key field of a primitive type and a value field
abbrev pub Exactly : Shape → Forest Field → Type 0
Exactly (prim p) none = Unit {0}
Exactly (prim p) (tree f below rest) = ⊥
Exactly struct fs = Unit {0}
Exactly list none = ⊥
Exactly list (tree f below none) = Unit {0}
Exactly list (tree f below (tree g under rest)) = ⊥
Exactly map none = ⊥
Exactly map (tree f below none) = ⊥
Exactly map (tree f below (tree g under none)) = Plain f.shape
Exactly map (tree f below (tree g under (tree h over rest))) = ⊥

-- every type of the schema
abbrev pub Formed : Forest Field → Type 0
Formed none = Unit {0}
Formed (tree f below rest) = Exactly f.shape below × Formed below × Formed rest

pub key_plain : (f g : Field) (below under rest : Forest Field) → Exactly map (tree f below (tree g under rest)) → Plain f.shape
key_plain f g below under none e = e
key_plain f g below under (tree h over rest) e = absurd e

-- offsets that do not fall, and that end within the child, whose length is l
pub record Ascends (x : Column) (l : ℕ) : Type 0 where
  pub up : (i : ℕ) → i < x.len → get_or x.offsets i 0 ≤ get_or x.offsets (i + 1) 0
  pub end : get_or x.offsets x.len 0 ≤ l

-- what a column of this code keeps, if its first child has length l
abbrev pub Cutting : Code → Column → ℕ → Type 0
Cutting bits x l = Unit {0}
Cutting (words w) x l = Unit {0}
Cutting (variable t) x l = Unit {0}
Cutting (fixed_size_binary w) x l = Unit {0}
Cutting structs x l = Unit {0}
Cutting lists x l = Ascends x l
Cutting large_lists x l = Ascends x l
Cutting (fixed_size_lists s) x l = x.len ≡ l / s
Cutting maps x l = Ascends x l

pub record Premises (m : Model) : Type 0 where
  pub formed : Formed m.fields
  pub few : size m.fields ≤ 256
  pub short : (c : ℕ) → (at m c).len ≤ 65536
  -- a struct's children have its length
  pub level : (c k : ℕ) → struct? m c ≡ true → among k (child_numbers m c) ≡ true → (at m k).len ≡ (at m c).len
  pub cutting : (c : ℕ) → Cutting (at m c).code (at m c) (at m (child_at m c 0)).len
  -- a map's value column has its key column's length
  pub paired : (c : ℕ) → map? m c ≡ true → (at m (child_at m c 1)).len ≡ (at m (child_at m c 0)).len
  pub bytes : (c : ℕ) → Bytes (at m c).body
