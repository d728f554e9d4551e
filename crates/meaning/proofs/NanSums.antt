-- The NaNs of columns and of reaches: shown and hidden, and how many there can be.
use Rattle.std.proofs.Common.{◌≡◌, ℕ, zero, suc, ◌+◌, ◌*◌, ◌≤◌, Bool, true, false, cond, not, ◌&&◌, List, [], ◌∷◌, length, ℤ, sym, refl, ap, ◌∙◌, subst, suc-mul, arith}
use mathlib.Core.Bool.{and-false}
use Rattle.meaning.specs.Model.{Model, at}
use Rattle.meaning.specs.Lists.{upto, sum, tally}
use Rattle.meaning.specs.Slots.{null, nan}
use Rattle.meaning.specs.Equal.{same_integer}
use Rattle.meaning.specs.Codes.{float?}
use Rattle.meaning.specs.Nans.{nans, hidden_nans}
use Rattle.meaning.specs.Reaches.{Reach}
use Rattle.meaning.proofs.SlotSums.{sum_to, tally-upto, sum_to_none}
use Rattle.meaning.proofs.Codes.{no_nan}
use Rattle.meaning.proofs.FoundReaches.{shown_nans, shown_in}

-- a column's NaNs are the shown and the hidden ones, and no more than its slots
tally_split : (p q : ℕ → Bool) (xs : List ℕ) → tally p xs ≡ tally (λ i. p i && q i) xs + tally (λ i. p i && not (q i)) xs
tally_split p q [] = refl
tally_split p q (x ∷ xs) = one (p x) (q x) (tally_split p q xs)
  where
    one : (a b : Bool) → tally p xs ≡ tally (λ i. p i && q i) xs + tally (λ i. p i && not (q i)) xs
        → cond a 1 0 + tally p xs ≡ (cond (a && b) 1 0 + tally (λ i. p i && q i) xs) + (cond (a && not b) 1 0 + tally (λ i. p i && not (q i)) xs)
    one true true h = omega arith
    one true false h = omega arith
    one false b h = omega arith

cond_small : (b : Bool) → cond b 1 0 ≤ 1
cond_small true = omega arith
cond_small false = omega arith

cond_le : (b : Bool) (x : ℕ) → cond b x 0 ≤ x
cond_le true x = omega arith
cond_le false x = omega arith

cond_split : (b : Bool) (x y z : ℕ) → x ≡ y + z → cond b x 0 ≡ cond b y 0 + cond b z 0
cond_split true x y z e = e
cond_split false x y z e = refl

tally-small : (p : ℕ → Bool) (n : ℕ) → sum_to n (λ i. cond (p i) 1 0) ≤ n
tally-small p zero = omega arith
tally-small p (suc n) = omega (arith, cond_small (p 0), tally-small (λ i. p (suc i)) n)

module _ (m : Model) where
  nans_split : (id : ℤ) (r : Reach) → nans m r.column ≡ shown_nans m id r + hidden_nans m r
  nans_split id r =
      tally_split (nan (at m r.column)) r.shown (upto (at m r.column).len)
      ∙ ap (λ k. k + hidden_nans m r) (tally-upto (λ i. nan (at m r.column) i && r.shown i) (at m r.column).len)

  pub nans-none : (c : ℕ) → float? m c ≡ false → nans m c ≡ 0
  nans-none c e = tally-upto (nan (at m c)) (at m c).len ∙ sum_to_none (at m c).len _ (λ i h. ap (λ (b : Bool). cond (not (null (at m c) i) && b) 1 0) (no_nan (at m c).code (at m c).body i e) ∙ ap (λ (b : Bool). cond b 1 0) (and-false (not (null (at m c) i))))

  pub nans-small : (c : ℕ) → nans m c ≤ (at m c).len
  nans-small c = subst (λ k. k ≤ (at m c).len) (sym (tally-upto (nan (at m c)) (at m c).len)) (tally-small (nan (at m c)) (at m c).len)

-- the NaNs of the columns reached under an id
module _ (m : Model) (id : ℤ) where
  abbrev pub reach_sum : List Reach → ℕ
  reach_sum rs = sum (λ r. cond (same_integer id r.id) (nans m r.column) 0) rs

  abbrev pub hidden_sum : List Reach → ℕ
  hidden_sum rs = sum (λ r. cond (same_integer id r.id) (hidden_nans m r) 0) rs

  pub sum_hidden : (rs : List Reach) → reach_sum rs ≡ shown_in m id rs + hidden_sum rs
  sum_hidden [] = refl
  sum_hidden (r ∷ rs) = omega (arith, sum_hidden rs, cond_split (same_integer id r.id) (nans m r.column) (shown_nans m id r) (hidden_nans m r) (nans_split m id r))

  pub reach_bound : (l : ℕ) → ((c : ℕ) → nans m c ≤ l) → (rs : List Reach) → reach_sum rs ≤ length rs * l
  reach_bound l h [] = omega arith
  reach_bound l h (r ∷ rs) = omega (arith, cond_le (same_integer id r.id) (nans m r.column), h r.column, reach_bound l h rs, suc-mul (length rs) l)
