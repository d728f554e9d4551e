-- Which columns a count reaches, under which fields, and which of their slots the rows show.
use Rattle.std.specs.Prelude.{ℕ, ◌+◌, ◌-◌, Bool, true, not, ◌&&◌, ltb, List, [], ◌∷◌, ◌++◌, ℤ, Some, None, Ok, Err, Option, Result, nat_le, nat_lt}
use Rattle.meaning.specs.Forest.{Forest, none, tree, size}
use Rattle.meaning.specs.Model.{Model, Field, Shape, prim, struct, list, map, at}
use Rattle.meaning.specs.Lists.{upto, from, any_of}
use Rattle.meaning.specs.Slots.{null, span}
use Rattle.meaning.specs.Access.{Pick, StepFault, partner}
use Rattle.meaning.specs.Literals.{same_by}

-- a column reached under a field: the field's id and number, the column's number, and the slots that the rows show; every other slot is hidden
pub record Reach : Type 0 where
  pub id : ℤ
  pub field : ℕ
  pub column : ℕ
  pub shown : ℕ → Bool

-- what a walk reaches, in its order, and the refusal that ended it, if one did
abbrev pub Found : Type 0
Found = List Reach × Option StepFault

-- one walk after another: the first refusal ends both
abbrev pub followed_by : Found → Found → Found
followed_by (rs, None) (qs, e) = (rs ++ qs, e)
followed_by (rs, Some e) (qs, e') = (rs, Some e)

-- what is reached from a partner, or the refusal to name one
abbrev pub at_partner : Result ℕ StepFault → (ℕ → Found) → Found
at_partner (Ok p) k = k p
at_partner (Err e) k = ([], Some e)

-- column p, reached under field n
abbrev pub one_reach : Field → ℕ → ℕ → (ℕ → Bool) → Found
one_reach f n p shown = (record { id = f.id; field = n; column = p; shown = shown } ∷ [], None)

-- slot j of a child lies in the span of a slot of column c that is shown and not null, and fits there: `fits` is given the span's ends and j
abbrev pub shown_within : Model → ℕ → (ℕ → Bool) → (ℕ → ℕ → ℕ → Bool) → ℕ → Bool
shown_within m c shown fits j =
    any_of (λ i. shown i && (not (null (at m c) i) && (nat_le (span (at m c) i).0 j && (nat_lt j (span (at m c) i).1 && fits (span (at m c) i).0 (span (at m c) i).1 j)))) (upto (at m c).len)

module _ (m : Model) (pick : Pick) where
  -- what is reached below a type of this shape, which holds these fields: the type's field is up and its column c, whose shown slots are given; the first field has number n.
  -- A child is reached after what is below it. A field's slot is shown where its struct's slot is shown and not null; an element's within a shown span;
  -- a key's too if no earlier key of the span is equal, a value's if no later one is
  abbrev pub reaches : Forest Field → Shape → ℕ → ℕ → ℕ → (ℕ → Bool) → Found
  reaches none s up n c shown = ([], None)
  reaches (tree f below rest) (prim k) up n c shown = ([], None)
  reaches (tree f below rest) struct up n c shown =
      at_partner (partner m pick struct up c n) (λ p.
      let sh : ℕ → Bool = λ i. shown i && not (null (at m c) i) in
      followed_by (reaches below f.shape n (n + 1) p sh) (followed_by (one_reach f n p sh) (reaches rest struct up (n + 1 + size below) c shown)))
  reaches (tree f below rest) list up n c shown =
      at_partner (partner m pick list up c n) (λ p.
      let sh : ℕ → Bool = shown_within m c shown (λ a b j. true) in
      followed_by (reaches below f.shape n (n + 1) p sh) (one_reach f n p sh))
  reaches (tree f below none) map up n c shown = ([], None)
  reaches (tree f below (tree g under' rest)) map up n c shown =
      at_partner (partner m pick map up c n) (λ p.
      let same : ℕ → ℕ → Bool = same_by f.shape (at m p) in
      let keys : ℕ → Bool = shown_within m c shown (λ a b j. not (any_of (same j) (from a (j - a)))) in
      let vals : ℕ → Bool = shown_within m c shown (λ a b j. not (any_of (same j) (from (j + 1) (b - (j + 1))))) in
      followed_by (reaches below f.shape n (n + 1) p keys) (followed_by (one_reach f n p keys)
      (at_partner (partner m pick map up c (n + 1 + size below)) (λ q.
      followed_by (reaches under' g.shape (n + 1 + size below) (n + 1 + size below + 1) q vals) (one_reach g (n + 1 + size below) q vals)))))

  -- what the walk of the schema's struct at column 0 reaches: all of the batch's rows are shown
  abbrev pub reached : Found
  reached = reaches m.fields struct 0 1 0 (λ i. ltb i m.rows)
