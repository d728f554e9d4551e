-- The pairs that a map keeps: each at its class's first key slot and last value slot.
use Rattle.std.proofs.Common.{◌≡◌, ℕ, zero, suc, ◌+◌, ◌-◌, ◌≤◌, Bool, true, false, cond, not, ◌&&◌, ◌||◌, List, [], ◌∷◌, ◌++◌, sym, refl, ap, ◌∙◌, subst, ap₂, ⊎_elim, add-zero, arith}
use mathlib.Core.Bool.{and-true, and-false}
use Rattle.std.proofs.lemmas.Bool.{cases_Bool}
use Rattle.meaning.specs.Lists.{upto, from, any_of, sum}
use Rattle.meaning.specs.Rows.{last_same, kept_from, kept}
use Rattle.meaning.proofs.KeyEquality.{Equivalence}
use Rattle.meaning.proofs.SlotLists.{all_upto, each_each, any_push, each_equal}

total_unless : (f : ℕ × ℕ → ℕ) (b : Bool) (x : ℕ × ℕ) (xs : List (ℕ × ℕ)) → sum f (cond b xs (x ∷ xs)) ≡ cond (not b) (f x) 0 + sum f xs
total_unless f true x xs = omega arith
total_unless f false x xs = refl

-- one of p and q passes where r does, and neither elsewhere
abbrev Parts : Bool → Bool → Bool → Type 0
Parts p q r = (x : ℕ) → cond p x 0 + cond q x 0 ≡ cond r x 0

parts_cond : (b p q r : Bool) (x : ℕ) → Parts p q r → cond (b && p) x 0 + cond (b && q) x 0 ≡ cond (b && r) x 0
parts_cond true p q r x e = e x
parts_cond false p q r x e = refl

parts_in : (u v w : Bool) → u ≡ true → v ≡ true → w ≡ false → Parts u (not (w || v)) (not w)
parts_in u v w a b c x = grind arith

parts_out : (u v w : Bool) → u ≡ false → v ≡ false → Parts u (not (w || v)) (not w)
parts_out u v w a b x = grind arith

-- the slots of xs that no slot of seen and none before them in xs is the same as, each by g
abbrev firsts : (ℕ → ℕ → Bool) → (ℕ → ℕ) → List ℕ → List ℕ → ℕ
firsts same g seen [] = 0
firsts same g seen (i ∷ is) = cond (not (any_of (same i) seen)) (g i) 0 + firsts same g (seen ++ (i ∷ [])) is

-- the slots of a list that no later slot of it is the same as, each by g, if they pass
abbrev lasts : (ℕ → ℕ → Bool) → (ℕ → ℕ) → (ℕ → Bool) → List ℕ → ℕ
lasts same g ok [] = 0
lasts same g ok (i ∷ is) = cond (not (any_of (same i) is) && ok i) (g i) 0 + lasts same g ok is

module _ (same : ℕ → ℕ → Bool) (a : Equivalence same) (g : ℕ → ℕ) where
  -- slots that are the same are the same as the same slots
  any_moved : (i j : ℕ) → same i j ≡ true → (xs : List ℕ) → any_of (same i) xs ≡ any_of (same j) xs
  any_moved i j e [] = refl
  any_moved i j e (x ∷ xs) = ap₂ ◌||◌ one (any_moved i j e xs)
    where
      one : same i x ≡ same j x
      one = ⊎_elim (λ t. t ∙ sym (a.join j i x (a.flip i j e) t)) (λ f. ⊎_elim (λ t. a.join i j x e t ∙ sym t) (λ k. f ∙ sym k) (cases_Bool (same j x))) (cases_Bool (same i x))

  -- the keys of the pairs kept are the first of their class
  keys_kept : (seen is : List ℕ) → sum (λ (kv : ℕ × ℕ). g kv.0) (kept_from same seen is) ≡ firsts same g seen is
  keys_kept seen [] = refl
  keys_kept seen (i ∷ is) =
      total_unless (λ kv. g kv.0) (any_of (same i) seen) (i, last_same (same i) i is) (kept_from same (seen ++ (i ∷ [])) is)
      ∙ ap (λ k. cond (not (any_of (same i) seen)) (g i) 0 + k) (keys_kept (seen ++ (i ∷ [])) is)

  -- sums over the last of each class, by what they pass
  lasts_ext : (p q : ℕ → Bool) → ((j : ℕ) → p j ≡ q j) → (is : List ℕ) → lasts same g p is ≡ lasts same g q is
  lasts_ext p q e [] = refl
  lasts_ext p q e (j ∷ js) = ap₂ (λ b k. cond (not (any_of (same j) js) && b) (g j) 0 + k) (e j) (lasts_ext p q e js)

  lasts_add : (p q r : ℕ → Bool) → ((j : ℕ) → Parts (p j) (q j) (r j)) → (is : List ℕ) → lasts same g p is + lasts same g q is ≡ lasts same g r is
  lasts_add p q r e [] = refl
  lasts_add p q r e (j ∷ js) = omega (arith, lasts_add p q r e js, parts_cond (not (any_of (same j) js)) (p j) (q j) (r j) (g j) (e j))

  last_step : (i x j : ℕ) (js : List ℕ) (b : Bool) → same i j ≡ b
      → g (last_same (same i) j js) ≡ cond (not (any_of (same i) js)) (g j) 0 + lasts same g (same i) js
      → g (last_same (same i) x js) ≡ cond (not (any_of (same i) js)) (g x) 0 + lasts same g (same i) js
      → g (cond b (last_same (same i) j js) (last_same (same i) x js)) ≡ cond (not (b || any_of (same i) js)) (g x) 0 + (cond (not (any_of (same j) js) && b) (g j) 0 + lasts same g (same i) js)
  last_step i x j js true e h k = h ∙ (rw (any_moved i j e js, and-true) (omega arith))
  last_step i x j js false e h k = k ∙ (rw and-false (omega arith))

  -- the last slot of a class
  last_one : (i x : ℕ) (is : List ℕ) → g (last_same (same i) x is) ≡ cond (not (any_of (same i) is)) (g x) 0 + lasts same g (same i) is
  last_one i x [] = omega arith
  last_one i x (j ∷ js) = last_step i x j js (same i j) refl (last_one i j js) (last_one i x js)

  seen_more : (i j : ℕ) (seen : List ℕ) → any_of (same i) seen ≡ true → not (any_of (same j) (seen ++ (i ∷ []))) ≡ not (any_of (same j) seen)
  seen_more i j seen e = rw (any_push (same j) seen i) (⊎_elim (λ t. rw (any_moved j i t seen, e) refl) (λ f. rw f (grind arith)) (cases_Bool (same j i)))

  unflip : (i j : ℕ) → same i j ≡ false → same j i ≡ false
  unflip i j f = ⊎_elim (λ t. t ∙ (sym (a.flip j i t) ∙ f)) (λ k. k) (cases_Bool (same j i))

  seen_parts : (i j : ℕ) (seen : List ℕ) → any_of (same i) seen ≡ false → Parts (same i j) (not (any_of (same j) (seen ++ (i ∷ [])))) (not (any_of (same j) seen))
  seen_parts i j seen e = rw (any_push (same j) seen i) (⊎_elim
      (λ t. parts_in (same i j) (same j i) (any_of (same j) seen) t (a.flip i j t) (sym (any_moved i j t seen) ∙ e))
      (λ f. parts_out (same i j) (same j i) (any_of (same j) seen) f (unflip i j f))
      (cases_Bool (same i j)))

  -- the values of the pairs kept are the last of their class
  vals_step : (i : ℕ) (seen is : List ℕ) (b : Bool) → any_of (same i) seen ≡ b
      → cond (not b) (g (last_same (same i) i is)) 0 + lasts same g (λ j. not (any_of (same j) (seen ++ (i ∷ [])))) is
      ≡ cond (not (any_of (same i) is) && not b) (g i) 0 + lasts same g (λ j. not (any_of (same j) seen)) is
  vals_step i seen is true e = rw and-false (omega (arith, lasts_ext (λ j. not (any_of (same j) (seen ++ (i ∷ [])))) (λ j. not (any_of (same j) seen)) (λ j. seen_more i j seen e) is))
  vals_step i seen is false e = rw and-true (omega (arith, last_one i i is, lasts_add (same i) (λ j. not (any_of (same j) (seen ++ (i ∷ [])))) (λ j. not (any_of (same j) seen)) (λ j. seen_parts i j seen e) is))

  vals_kept : (seen is : List ℕ) → sum (λ (kv : ℕ × ℕ). g kv.1) (kept_from same seen is) ≡ lasts same g (λ j. not (any_of (same j) seen)) is
  vals_kept seen [] = refl
  vals_kept seen (i ∷ is) =
      total_unless (λ kv. g kv.1) (any_of (same i) seen) (i, last_same (same i) i is) (kept_from same (seen ++ (i ∷ [])) is)
      ∙ (ap (λ k. cond (not (any_of (same i) seen)) (g (last_same (same i) i is)) 0 + k) (vals_kept (seen ++ (i ∷ [])) is)
      ∙ vals_step i seen is (any_of (same i) seen) refl)

-- numbers in a row, by the front
abbrev line : ℕ → ℕ → List ℕ
line a zero = []
line a (suc n) = a ∷ line (suc a) n

from_line : (a n : ℕ) → from a n ≡ line a n
from_line a zero = refl
from_line a (suc n) = ap₂ ◌∷◌ (add-zero a) (each_each (λ k. a + k) suc (upto n) ∙ (each_equal (λ k. a + suc k) (λ k. suc a + k) (upto n) (all_upto _ n (λ k h. omega arith)) ∙ from_line (suc a) n))

line_push : (a n b : ℕ) → a + n ≡ b → line a (suc n) ≡ line a n ++ (b ∷ [])
line_push a zero b e = ap (λ (x : ℕ). x ∷ []) (omega arith)
line_push a (suc n) b e = ap (λ (xs : List ℕ). a ∷ xs) (line_push (suc a) n b (omega arith))

module _ (same : ℕ → ℕ → Bool) (g : ℕ → ℕ) where
  -- a first slot has no earlier equal key in its span
  firsts_line : (a k n b : ℕ) → a + k ≡ b → firsts same g (line a k) (line b n) ≡ sum (λ j. cond (not (any_of (same j) (from a (j - a)))) (g j) 0) (line b n)
  firsts_line a k zero b e = refl
  firsts_line a k (suc n) b e =
      ap₂ ◌+◌ (ap (λ (xs : List ℕ). cond (not (any_of (same b) xs)) (g b) 0) (sym (from_line a k) ∙ ap (from a) (omega arith)))
      (ap (λ (xs : List ℕ). firsts same g xs (line (suc b) n)) (sym (line_push a k b e)) ∙ firsts_line a (suc k) n (suc b) (omega arith))

  -- a last slot has no later equal key in its span
  lasts_line : (a n b : ℕ) → a + n ≡ b → lasts same g (λ j. true) (line a n) ≡ sum (λ j. cond (not (any_of (same j) (from (j + 1) (b - (j + 1))))) (g j) 0) (line a n)
  lasts_line a zero b e = refl
  lasts_line a (suc n) b e =
      ap₂ ◌+◌ (rw and-true (ap (λ (xs : List ℕ). cond (not (any_of (same a) xs)) (g a) 0) (sym (from_line (suc a) n) ∙ ap₂ from (omega arith) (omega arith))))
      (lasts_line (suc a) n b (omega arith))

module _ (same : ℕ → ℕ → Bool) (alike : Equivalence same) (g h : ℕ → ℕ) where
  total_pairs : (kvs : List (ℕ × ℕ)) → sum (λ (kv : ℕ × ℕ). g kv.0 + h kv.1) kvs ≡ sum (λ (kv : ℕ × ℕ). g kv.0) kvs + sum (λ (kv : ℕ × ℕ). h kv.1) kvs
  total_pairs [] = refl
  total_pairs (kv ∷ kvs) = omega (arith, total_pairs kvs)

  -- the sum over the pairs kept of a span: its first key slots and its last value slots
  pub sum_kept : (a b : ℕ) → a ≤ b
      → sum (λ (kv : ℕ × ℕ). g kv.0 + h kv.1) (kept same (from a (b - a)))
      ≡ sum (λ j. cond (not (any_of (same j) (from a (j - a)))) (g j) 0) (from a (b - a)) + sum (λ j. cond (not (any_of (same j) (from (j + 1) (b - (j + 1))))) (h j) 0) (from a (b - a))
  sum_kept a b le =
      subst (λ (xs : List ℕ). sum (λ (kv : ℕ × ℕ). g kv.0 + h kv.1) (kept same xs) ≡ sum (λ j. cond (not (any_of (same j) (from a (j - a)))) (g j) 0) xs + sum (λ j. cond (not (any_of (same j) (from (j + 1) (b - (j + 1))))) (h j) 0) xs)
      (sym (from_line a (b - a)))
      (total_pairs (kept same (line a (b - a)))
      ∙ ap₂ ◌+◌ (keys_kept same alike g [] (line a (b - a)) ∙ firsts_line same g a 0 (b - a) a (omega arith))
      (vals_kept same alike h [] (line a (b - a)) ∙ lasts_line same h a (b - a) b (omega arith)))
