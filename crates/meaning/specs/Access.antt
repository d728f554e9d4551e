-- Accessors: which column stands for a field, and the refusals of a step.
use Rattle.std.specs.Prelude.{◌≡◌, ℕ, ◌+◌, true, cond, List, Some, None, Ok, Err, Option, Result, ◌==◌, slice_index}
use Rattle.meaning.specs.Forest.{numbers}
use Rattle.meaning.specs.Model.{Model, Shape, prim, struct, list, map, children}
use Rattle.meaning.specs.Lists.{among}
use Rattle.meaning.specs.Codes.{struct?, list?, map?}

-- the refusal of a step: its number, the column questioned, and the field
pub record StepFault : Type 0 where
  pub number : ℕ
  pub column : ℕ
  pub field : ℕ

-- refusal n at column c for field f
abbrev pub fault : ℕ → ℕ → ℕ → StepFault
fault n c f = record { number = n; column = c; field = f }

-- what an accessor means on one batch: for a struct column and a field, a column that stands for the field, or none
abbrev pub Pick : Type 0
Pick = ℕ → ℕ → Option ℕ

-- the numbers of column c's children
abbrev pub child_numbers : Model → ℕ → List ℕ
child_numbers m c = numbers (c + 1) (children m c)

-- the child at place i: a list's element column is at 0, a map's key column at 0 and its value column at 1
abbrev pub child_at : Model → ℕ → ℕ → ℕ
child_at m c i = slice_index (child_numbers m c) i

-- a pick names only a column's own children
abbrev pub Own : Model → Pick → Type 0
Own m pick = (c f k : ℕ) → pick c f ≡ Some k → among k (child_numbers m c) ≡ true

-- what was picked, or the refusal
abbrev pub or_refused : Option ℕ → StepFault → Result ℕ StepFault
or_refused None e = Err e
or_refused (Some k) e = Ok k

module _ (m : Model) (pick : Pick) where
  -- the partner of field n, held by a type of this shape, the type's field being up and its column c:
  -- a struct's by the pick (10 in a column that is no struct, 11 where none is picked), a list's the one child (12), a map's key the first and value the second (13)
  abbrev pub partner : Shape → ℕ → ℕ → ℕ → Result ℕ StepFault
  partner (prim p) up c n = Err (fault 9 c n)
  partner struct up c n = cond (struct? m c) (or_refused (pick c n) (fault 11 c n)) (Err (fault 10 c n))
  partner list up c n = cond (list? m c) (Ok (child_at m c 0)) (Err (fault 12 c up))
  partner map up c n = cond (map? m c) (Ok (child_at m c (cond (n == up + 1) 0 1))) (Err (fault 13 c up))
