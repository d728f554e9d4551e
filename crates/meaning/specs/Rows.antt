-- The rows of a batch: the value of every slot, in the schema's terms.
use Rattle.std.specs.Prelude.{ℕ, ◌+◌, Bool, cond, List, [], ◌∷◌, ◌++◌}
use Rattle.meaning.specs.Forest.{Forest, none, tree, size, beside}
use Rattle.meaning.specs.Model.{Model, Column, Field, Shape, prim, struct, list, map, at}
use Rattle.meaning.specs.Lists.{upto, any_of, or_zero}
use Rattle.meaning.specs.Slots.{null, span_slots}
use Rattle.meaning.specs.Access.{child_at, Pick}
use Rattle.meaning.specs.Literals.{struct_literal, Values, literal_at, same_by}

-- the last of the slots js whose key is that of slot i, or i
abbrev pub last_same : (ℕ → Bool) → ℕ → List ℕ → ℕ
last_same same i [] = i
last_same same i (j ∷ js) = cond (same j) (last_same same j js) (last_same same i js)

-- the pairs that a map keeps of the slots of its span, those before them being `seen`
abbrev pub kept_from : (ℕ → ℕ → Bool) → List ℕ → List ℕ → List (ℕ × ℕ)
kept_from same seen [] = []
kept_from same seen (i ∷ is) = cond (any_of (same i) seen) (kept_from same (seen ++ (i ∷ [])) is) ((i, last_same (same i) i is) ∷ kept_from same (seen ++ (i ∷ [])) is)

-- the pairs that a map keeps, as (key slot, value slot): a repeated key keeps its first place and first key, and takes its last value
abbrev pub kept : (ℕ → ℕ → Bool) → List ℕ → List (ℕ × ℕ)
kept same is = kept_from same [] is

-- the values of each element, side by side
abbrev pub joined : {X : Type 0} → (X → Values) → List X → Values
joined f [] = none
joined f (x ∷ xs) = beside (f x) (joined f xs)

-- the value of slot i of a column, over these parts unless the slot is null; and the values after it
abbrev pub value_tree : Shape → Column → ℕ → Values → Values → Values
value_tree s x i below rest = tree (literal_at s x i) (cond (null x i) none below) rest

module _ (m : Model) (pick : Pick) where
  -- what stands below the value of slot i of column c, for a type of this shape whose fields are these, the first having number n:
  -- a struct's fields at the columns that the pick names, the elements of a list's span, the kept pairs of a map's
  abbrev pub parts : Forest Field → Shape → ℕ → ℕ → ℕ → Values
  parts none s n c i = none
  parts (tree f below rest) (prim p) n c i = none
  parts (tree f below rest) struct n c i =
      let p : ℕ = or_zero (pick c n) in
      value_tree f.shape (at m p) i (parts below f.shape (n + 1) p i) (parts rest struct (n + 1 + size below) c i)
  parts (tree f below rest) list n c i =
      let p : ℕ = child_at m c 0 in
      joined (λ j. value_tree f.shape (at m p) j (parts below f.shape (n + 1) p j) none) (span_slots (at m c) i)
  parts (tree f below none) map n c i = none
  parts (tree f below (tree g under rest)) map n c i =
      let p : ℕ = child_at m c 0 in
      let q : ℕ = child_at m c 1 in
      joined (λ (kv : ℕ × ℕ). tree (literal_at f.shape (at m p) kv.0) none (value_tree g.shape (at m q) kv.1 (parts under g.shape (n + 1 + size below + 1) q kv.1) none))
      (kept (same_by f.shape (at m p)) (span_slots (at m c) i))

  -- row i: a struct of the schema's fields
  abbrev pub row : ℕ → Values
  row i = tree struct_literal (parts m.fields struct 1 0 i) none

  -- all rows, in their order
  abbrev pub rows : Values
  rows = joined row (upto m.rows)
