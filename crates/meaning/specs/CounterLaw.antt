-- The law of the counter: counts are sums over calls in any order, and what a batch's rows show and hide.
use Rattle.std.specs.Prelude.{◌≡◌, ℕ, ◌+◌, ◌≤◌, Bool, cond, List, [], ◌∷◌, ◌++◌, map as each, ℤ, Some, None, Ok, Option}
use Rattle.meaning.specs.Lists.{any_of, sum, or_zero}
use Rattle.meaning.specs.Equal.{same_integer}
use Rattle.meaning.specs.Forest.{Forest, none, tree}
use Rattle.meaning.specs.Model.{Model, Field, struct}
use Rattle.meaning.specs.Keeps.{Keeps}
use Rattle.meaning.specs.Access.{Pick, Own, StepFault}
use Rattle.meaning.specs.Literals.{Values}
use Rattle.meaning.specs.Rows.{rows}
use Rattle.meaning.specs.Converts.{converts}
use Rattle.meaning.specs.Codes.{float?}
use Rattle.meaning.specs.Reaches.{Reach, reached}
use Rattle.meaning.specs.Nans.{nans, hidden_nans, nans_in}
use Rattle.meaning.specs.Table.{Table, saturated, count_of, Answer, answer, add_reaches}

-- one call of `compute`: a batch that keeps the rules, and an accessor by its pick
pub record Call : Type 0 where
  pub model : Model
  pub keeps : Keeps model
  pub pick : Pick
  pub own : Own model pick

-- what the call reaches
abbrev pub call_reaches : Call → List Reach
call_reaches c = (reached c.model c.pick).0

-- the refusal that ends its walk, if one does
abbrev pub call_refusal : Call → Option StepFault
call_refusal c = (reached c.model c.pick).1

-- what the call answers, and the table it leaves of the one it is given
abbrev pub computes : Call → Table → Answer × Table
computes c t = add_reaches c.model t (call_reaches c) (call_refusal c)

-- the table after calls one after another, each on the table left by the one before
abbrev pub table_after : List Call → Table → Table
table_after [] t = t
table_after (c ∷ cs) t = table_after cs (computes c t).1

-- each call with its answer
abbrev pub answers : List Call → Table → List (Call × Answer)
answers [] t = []
answers (c ∷ cs) t = (c, (computes c t).0) ∷ answers cs (computes c t).1

-- the float columns reached: for each reach the field's id and the column's NaNs
abbrev pub float_additions : Model → List Reach → List (ℤ × ℕ)
float_additions m [] = []
float_additions m (r ∷ rs) = cond (float? m r.column) ((r.id, nans m r.column) ∷ float_additions m rs) (float_additions m rs)

-- those of all calls
abbrev pub all_additions : List Call → List (ℤ × ℕ)
all_additions [] = []
all_additions (c ∷ cs) = float_additions c.model (call_reaches c) ++ all_additions cs

-- the sum under an id
abbrev pub sum_of : ℤ → List (ℤ × ℕ) → ℕ
sum_of id xs = sum (λ (x : ℤ × ℕ). cond (same_integer id x.0) x.1 0) xs

-- whether a float column is reached under an id
abbrev pub mentions : ℤ → List (ℤ × ℕ) → Bool
mentions id xs = any_of (λ (x : ℤ × ℕ). same_integer id x.0) xs

-- how many ids there are, each counted once
abbrev pub distinct_ids : List (ℤ × ℕ) → ℕ
distinct_ids [] = 0
distinct_ids (x ∷ xs) = cond (mentions x.0 xs) 0 1 + distinct_ids xs

-- the calls together reach float columns under at most 256 ids
abbrev pub FewIds : List Call → Type 0
FewIds cs = distinct_ids (all_additions cs) ≤ 256

-- the same list in another order
pub data Reordered {X : Type 0} : List X → List X → Type 0 where
  done : Reordered [] []
  skip : {x : X} {xs ys : List X} → Reordered xs ys → Reordered (x ∷ xs) (x ∷ ys)
  swap : {x y : X} {xs : List X} → Reordered (x ∷ (y ∷ xs)) (y ∷ (x ∷ xs))
  trans : {xs ys zs : List X} → Reordered xs ys → Reordered ys zs → Reordered xs zs

-- A new counter is given calls that together reach at most 256 ids.
pub record SumsLaw : Type 0 where
  -- the count under an id is the sum over the calls of the NaNs in the float columns reached under it, held at 2^64 - 1;
  -- it is absent exactly if no float column was reached under it
  pub counts : (cs : List Call) → FewIds cs → (id : ℤ) → count_of (table_after cs []) id ≡ cond (mentions id (all_additions cs)) (Some (saturated (sum_of id (all_additions cs)))) None
  -- the calls in another order leave the same table, entry by entry
  pub order : (cs ds : List Call) → FewIds cs → Reordered cs ds → table_after cs [] ≡ table_after ds []
  -- each call answers what its own batch and pick say, whichever calls came before it
  pub alone : (cs : List Call) → FewIds cs → answers cs [] ≡ each (λ c. (c, answer (call_refusal c))) cs
  -- in another order the calls reach at most 256 ids too, so all of this holds of that order
  pub few : (cs ds : List Call) → FewIds cs → Reordered cs ds → FewIds ds

-- the NaNs at hidden slots, of each reach under an id
abbrev pub hidden_nans_of : Call → ℤ → ℕ
hidden_nans_of c id = sum (λ r. cond (same_integer id r.id) (hidden_nans c.model r) 0) (call_reaches c)

-- the NaNs in rows of a schema, one for each place that stands for a field of this id
abbrev pub nans_in_rows : ℤ → Forest Field → Values → ℕ
nans_in_rows id fs none = 0
nans_in_rows id fs (tree x ps rest) = nans_in id fs struct ps + nans_in_rows id fs rest

-- those in the batch's rows
abbrev pub row_nans_of : Call → ℤ → ℕ
row_nans_of c id = nans_in_rows id c.model.fields (rows c.model c.pick)

-- Conversion of the schema's struct at column 0 accepts the batch, with however many cells.
pub record RowsLaw : Type 0 where
  -- then a new counter accepts it through the same accessor
  pub accepted : (c : Call) (cells taken : ℕ) → converts c.model c.pick cells ≡ Ok taken → (computes c []).0 ≡ Ok tt
  -- and under every id its count is the NaNs in the rows and the NaNs at hidden slots
  pub conserved : (c : Call) (cells taken : ℕ) → converts c.model c.pick cells ≡ Ok taken → (id : ℤ)
      → or_zero (count_of (computes c []).1 id) ≡ row_nans_of c id + hidden_nans_of c id
