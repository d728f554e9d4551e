-- A list of additions, each an id and a number: what it makes of a table, and that its order does not count.
use Rattle.std.proofs.Common.{◌≡◌, ℕ, ◌+◌, ◌-◌, ◌^◌, ◌≤◌, Bool, true, false, cond, ◌||◌, List, [], ◌∷◌, ◌++◌, length, ℤ, Some, None, Option, sym, refl, ap, ◌∙◌, inl, inr, add-zero, add_assoc, zero-add, arith}
use Rattle.std.proofs.lemmas.Bool.{cases_Bool}
use Rattle.meaning.specs.Lists.{or_zero}
use Rattle.meaning.specs.Equal.{same_integer}
use Rattle.meaning.specs.Table.{Table, saturated, added, count_of, has_id}
use Rattle.meaning.specs.CounterLaw.{sum_of, mentions, distinct_ids}
use Rattle.meaning.proofs.IdOrder.{same_self, same_eq}
use Rattle.meaning.proofs.TableOrder.{Ascending, ascending_added, plus, counted-added, length_added, without, ascending_without, length_without, counted_without, has_counted, has_without, length_had}

-- additions one after the other
abbrev pub folded : Table → List (ℤ × ℕ) → Table
folded t [] = t
folded t (x ∷ xs) = folded (added t x.0 x.1) xs

pub folded_both : (t : Table) (xs ys : List (ℤ × ℕ)) → folded t (xs ++ ys) ≡ folded (folded t xs) ys
folded_both t [] ys = refl
folded_both t (x ∷ xs) ys = folded_both (added t x.0 x.1) xs ys

pub ascending_folded : (t : Table) (xs : List (ℤ × ℕ)) → Ascending t → Ascending (folded t xs)
ascending_folded t [] k = k
ascending_folded t (x ∷ xs) k = ascending_folded (added t x.0 x.1) xs (ascending_added t x.0 x.1 k)

pub length_folded : (t : Table) (xs : List (ℤ × ℕ)) → length t ≤ length (folded t xs)
length_folded t [] = omega arith
length_folded t (x ∷ xs) = omega (arith, length_added t x.0 x.1, length_folded (added t x.0 x.1) xs)

-- the count under one id, through the additions
abbrev counts : Option ℕ → ℤ → List (ℤ × ℕ) → Option ℕ
counts o q [] = o
counts o q (x ∷ xs) = counts (cond (same_integer q x.0) (plus o x.1) o) q xs

counted_folded : (t : Table) (xs : List (ℤ × ℕ)) (q : ℤ) → Ascending t → count_of (folded t xs) q ≡ counts (count_of t q) q xs
counted_folded t [] q k = refl
counted_folded t (x ∷ xs) q k =
    counted_folded (added t x.0 x.1) xs q (ascending_added t x.0 x.1 k)
    ∙ ap (λ (o : Option ℕ). counts o q xs) (counted-added t x.0 x.1 q k)

-- to hold a part of a sum first changes nothing
held_part : (a b : ℕ) → saturated (saturated a + b) ≡ saturated (a + b)
held_part a b = omega arith

counts_held : (n : ℕ) (q : ℤ) (xs : List (ℤ × ℕ)) → counts (Some (saturated n)) q xs ≡ Some (saturated (n + sum_of q xs))
counts_held n q [] = rw add-zero
counts_held n q (x ∷ xs) =
    elim (cases_Bool (same_integer q x.0)) [
      | inl s ↦ rw (s, held_part n x.1, ← (add_assoc n x.1 (sum_of q xs))) (counts_held (n + x.1) q xs)
      | inr s ↦ rw (s, zero-add (sum_of q xs)) (counts_held n q xs)
    ]

counts-none : (q : ℤ) (xs : List (ℤ × ℕ)) → counts None q xs ≡ cond (mentions q xs) (Some (saturated (sum_of q xs))) None
counts-none q [] = refl
counts-none q (x ∷ xs) =
    elim (cases_Bool (same_integer q x.0)) [
      | inl s ↦ rw s (counts_held x.1 q xs)
      | inr s ↦ rw (s, zero-add (sum_of q xs)) (counts-none q xs)
    ]

-- from the empty table, the count under an id is the sum of what was added under it
pub sum_folded : (xs : List (ℤ × ℕ)) (q : ℤ) → count_of (folded [] xs) q ≡ cond (mentions q xs) (Some (saturated (sum_of q xs))) None
sum_folded xs q = counted_folded [] xs q tt ∙ counts-none q xs

-- an id that is not mentioned has the sum 0
sum_unmentioned : (q : ℤ) (xs : List (ℤ × ℕ)) → mentions q xs ≡ false → sum_of q xs ≡ 0
sum_unmentioned q [] h = refl
sum_unmentioned q (x ∷ xs) h =
    elim (cases_Bool (same_integer q x.0)) [
      | inl s ↦ let z : true ≡ false = rw s at h in cc
      | inr s ↦ rw s (omega (arith, sum_unmentioned q xs (rw s at h)))
    ]

-- a sum that does not reach the ceiling, an absent count being 0
pub count_folded : (xs : List (ℤ × ℕ)) (q : ℤ) → sum_of q xs ≤ 2 ^ 64 - 1 → or_zero (count_of (folded [] xs) q) ≡ sum_of q xs
count_folded xs q h = ap or_zero (sum_folded xs q) ∙ elim (cases_Bool (mentions q xs)) [ inl s ↦ rw s (omega arith) | inr s ↦ rw s (sym (sum_unmentioned q xs s)) ]

-- there are no more ids than additions
pub distinct_most : (xs : List (ℤ × ℕ)) → distinct_ids xs ≤ length xs
distinct_most [] = omega arith
distinct_most (x ∷ xs) = elim (cases_Bool (mentions x.0 xs)) [ inl s ↦ rw s (omega (arith, distinct_most xs)) | inr s ↦ rw s (omega (arith, distinct_most xs)) ]

-- a repeated id mentions nothing new
repeated : (q : ℤ) (x : ℤ × ℕ) (xs : List (ℤ × ℕ)) → mentions x.0 xs ≡ true → mentions q xs ≡ false → mentions q (x ∷ xs) ≡ false
repeated q x xs m h = elim (cases_Bool (same_integer q x.0)) [ inl s ↦ rw s (sym m ∙ rw (same_eq q x.0 s) at h) | inr s ↦ rw s h ]

-- a table whose ids are all mentioned is no longer than there are ids
few-entries : (t : Table) (xs : List (ℤ × ℕ)) → Ascending t → ((q : ℤ) → mentions q xs ≡ false → count_of t q ≡ None) → length t ≤ distinct_ids xs
few-entries [] [] k only = omega arith
few-entries (e ∷ es) [] k only =
    let z : Some e.count ≡ None = rw (same_self e.id) at (only e.id refl) in
    let w : ◌≡◌ {A = ℕ} 0 1 = cc in omega arith
few-entries t (x ∷ xs) k only =
    elim (cases_Bool (mentions x.0 xs)) [
      | inl m ↦ rw m (omega (arith, few-entries t xs k (λ q h. only q (repeated q x xs m h))))
      | inr m ↦ rw m (omega (arith, length_without t x.0, few-entries (without t x.0) xs (ascending_without t x.0 k) left))
    ]
  where
    left : (q : ℤ) → mentions q xs ≡ false → count_of (without t x.0) q ≡ None
    left q h = counted_without t x.0 q k ∙ elim (cases_Bool (same_integer q x.0)) [ inl s ↦ rw s | inr s ↦ rw s (only q (rw s h)) ]

pub length_distinct : (xs : List (ℤ × ℕ)) → length (folded [] xs) ≤ distinct_ids xs
length_distinct xs = few-entries (folded [] xs) xs (ascending_folded [] xs tt) (λ q h. rw h at (sum_folded xs q))

-- and a table that has all mentioned ids is no shorter
all_entries : (t : Table) (xs : List (ℤ × ℕ)) → ((q : ℤ) → mentions q xs ≡ true → has_id t q ≡ true) → distinct_ids xs ≤ length t
all_entries t [] all = omega arith
all_entries t (x ∷ xs) all =
    elim (cases_Bool (mentions x.0 xs)) [
      | inl m ↦ rw m (omega (arith, all_entries t xs more))
      | inr m ↦ rw m (omega (arith, length_had t x.0 (all x.0 (rw (same_self x.0))), all_entries (without t x.0) xs (left m)))
    ]
  where
    more : (q : ℤ) → mentions q xs ≡ true → has_id t q ≡ true
    more q h = all q (elim (cases_Bool (same_integer q x.0)) [ inl s ↦ rw s | inr s ↦ rw s h ])

    left : mentions x.0 xs ≡ false → (q : ℤ) → mentions q xs ≡ true → has_id (without t x.0) q ≡ true
    left m q h =
        elim (cases_Bool (same_integer q x.0)) [
          | inl s ↦ let z : mentions x.0 xs ≡ true = rw (same_eq q x.0 s) at h in cc
          | inr s ↦ has_without t x.0 q s ∙ more q h
        ]

pub distinct_length : (xs : List (ℤ × ℕ)) → distinct_ids xs ≤ length (folded [] xs)
distinct_length xs = all_entries (folded [] xs) xs (λ q h. has_counted (folded [] xs) q (saturated (sum_of q xs)) (rw h at (sum_folded xs q)))

-- two lists of additions, one before the other: sums add up, and their order does not count
pub sum_of_both : (q : ℤ) (xs ys : List (ℤ × ℕ)) → sum_of q (xs ++ ys) ≡ sum_of q xs + sum_of q ys
sum_of_both q [] ys = sym (zero-add (sum_of q ys))
sum_of_both q (x ∷ xs) ys = let ih = sum_of_both q xs ys in omega arith

pub mentions_both : (q : ℤ) (xs ys : List (ℤ × ℕ)) → mentions q (xs ++ ys) ≡ (mentions q xs || mentions q ys)
mentions_both q [] ys = refl
mentions_both q (x ∷ xs) ys = elim (cases_Bool (same_integer q x.0)) [ inl s ↦ rw s | inr s ↦ rw s (mentions_both q xs ys) ]

or_turn : (a b c : Bool) → (a || (b || c)) ≡ (b || (a || c))
or_turn true true c = refl
or_turn true false c = refl
or_turn false true c = refl
or_turn false false c = refl

pub sum_of_turn : (q : ℤ) (xs ys zs : List (ℤ × ℕ)) → sum_of q (xs ++ (ys ++ zs)) ≡ sum_of q (ys ++ (xs ++ zs))
sum_of_turn q xs ys zs = omega (arith, sum_of_both q xs (ys ++ zs), sum_of_both q ys zs, sum_of_both q ys (xs ++ zs), sum_of_both q xs zs)

pub mentions_turn : (q : ℤ) (xs ys zs : List (ℤ × ℕ)) → mentions q (xs ++ (ys ++ zs)) ≡ mentions q (ys ++ (xs ++ zs))
mentions_turn q xs ys zs = simp mentions_both (or_turn (mentions q xs) (mentions q ys) (mentions q zs))
