-- Sums over the numbers below n, over lists, and over the spans that cut a child's slots.
use Rattle.std.proofs.Common.{◌≡◌, ℕ, zero, suc, ◌+◌, ◌-◌, ◌<◌, ◌≤◌, Bool, true, false, cond, ◌&&◌, ◌||◌, ltb, leb, ◌⊎◌, List, [], ◌∷◌, map as each, sym, refl, ap, ◌∙◌, ap₂, inl, inr, ⊎_elim, suc-add, zero-add, arith}
use Rattle.std.proofs.lemmas.Bool.Decides.{nat_tests}
use Rattle.std.proofs.lemmas.Bool.{cases_Bool, cond-false, cases_order}
use Rattle.meaning.specs.Lists.{upto, from, any_of, tally, sum}

-- the sum of f over the numbers below n, and over a list
abbrev pub sum_to : ℕ → (ℕ → ℕ) → ℕ
sum_to zero f = 0
sum_to (suc n) f = f 0 + sum_to n (λ i. f (suc i))

abbrev pub any_to : ℕ → (ℕ → Bool) → Bool
any_to zero f = false
any_to (suc n) f = f 0 || any_to n (λ i. f (suc i))

-- a list's sum, test and tally are those over the numbers
sum_each : {X : Type 0} (f : X → ℕ) (g : ℕ → X) (xs : List ℕ) → sum f (each g xs) ≡ sum (λ i. f (g i)) xs
sum_each f g [] = refl
sum_each f g (x ∷ xs) = ap (λ k. f (g x) + k) (sum_each f g xs)

any_each : (f : ℕ → Bool) (g : ℕ → ℕ) (xs : List ℕ) → any_of f (each g xs) ≡ any_of (λ i. f (g i)) xs
any_each f g [] = refl
any_each f g (x ∷ xs) = ap (λ k. f (g x) || k) (any_each f g xs)

pub sum-upto : (f : ℕ → ℕ) (n : ℕ) → sum f (upto n) ≡ sum_to n f
sum-upto f zero = refl
sum-upto f (suc n) = ap (λ k. f 0 + k) (sum_each f suc (upto n) ∙ sum-upto (λ i. f (suc i)) n)

pub any_upto : (f : ℕ → Bool) (n : ℕ) → any_of f (upto n) ≡ any_to n f
any_upto f zero = refl
any_upto f (suc n) = ap (λ k. f 0 || k) (any_each f suc (upto n) ∙ any_upto (λ i. f (suc i)) n)

pub tally-upto : (f : ℕ → Bool) (n : ℕ) → tally f (upto n) ≡ sum_to n (λ i. cond (f i) 1 0)
tally-upto f n = sum-upto (λ i. cond (f i) 1 0) n

pub sum-from : (f : ℕ → ℕ) (a n : ℕ) → sum f (from a n) ≡ sum_to n (λ k. f (a + k))
sum-from f a n = sum_each f (λ k. a + k) (upto n) ∙ sum-upto (λ k. f (a + k)) n

-- sums of equal terms, of zeros, of sums, and in the other order
pub sum_to_equal : (n : ℕ) (f g : ℕ → ℕ) → ((i : ℕ) → i < n → f i ≡ g i) → sum_to n f ≡ sum_to n g
sum_to_equal zero f g e = refl
sum_to_equal (suc n) f g e = ap₂ ◌+◌ (e 0 (omega arith)) (sum_to_equal n (λ i. f (suc i)) (λ i. g (suc i)) (λ i h. e (suc i) (omega arith)))

pub sum_to_none : (n : ℕ) (f : ℕ → ℕ) → ((i : ℕ) → i < n → f i ≡ 0) → sum_to n f ≡ 0
sum_to_none zero f e = refl
sum_to_none (suc n) f e = omega (arith, e 0 (omega arith), sum_to_none n (λ i. f (suc i)) (λ i h. e (suc i) (omega arith)))

pub sum_to_add : (n : ℕ) (f g : ℕ → ℕ) → sum_to n f + sum_to n g ≡ sum_to n (λ i. f i + g i)
sum_to_add zero f g = refl
sum_to_add (suc n) f g = omega (arith, sum_to_add n (λ i. f (suc i)) (λ i. g (suc i)))

pub sum-swap : (n l : ℕ) (f : ℕ → ℕ → ℕ) → sum_to n (λ i. sum_to l (λ j. f i j)) ≡ sum_to l (λ j. sum_to n (λ i. f i j))
sum-swap zero l f = sym (sum_to_none l (λ j. 0) (λ j h. refl))
sum-swap (suc n) l f = ap (λ k. sum_to l (λ j. f 0 j) + k) (sum-swap n l (λ i j. f (suc i) j)) ∙ sum_to_add l (λ j. f 0 j) (λ j. sum_to n (λ i. f (suc i) j))

pub sum_split : (x y : ℕ) (f : ℕ → ℕ) → sum_to (x + y) f ≡ sum_to x f + sum_to y (λ i. f (x + i))
sum_split zero y f = simp zero-add
sum_split (suc x) y f =
    let e : sum_to y (λ i. f (suc x + i)) ≡ sum_to y (λ i. f (suc (x + i))) = sum_to_equal y (λ i. f (suc x + i)) (λ i. f (suc (x + i))) (λ i h. ap f (suc-add x i)) in
    rw suc-add (omega (arith, e, sum_split x y (λ i. f (suc i))))

-- where at most one of the tests passes, the one that passes is the sum over all
module _ (x : ℕ) where
  once_step : (n : ℕ) (q : ℕ → Bool) (b : Bool) → ((i : ℕ) → i < n → b ≡ true → q i ≡ false) → cond (any_to n q) x 0 ≡ sum_to n (λ i. cond (q i) x 0)
      → cond (b || any_to n q) x 0 ≡ cond b x 0 + sum_to n (λ i. cond (q i) x 0)
  once_step n q true miss later = omega (arith, sum_to_none n (λ i. cond (q i) x 0) (λ i h. cond-false (q i) x 0 (miss i h refl)))
  once_step n q false miss later = omega arith

  pub sum_once : (n : ℕ) (q : ℕ → Bool) → ((i j : ℕ) → i < n → j < n → q i ≡ true → q j ≡ true → i ≡ j) → cond (any_to n q) x 0 ≡ sum_to n (λ i. cond (q i) x 0)
  sum_once zero q d = refl
  sum_once (suc n) q d = once_step n (λ i. q (suc i)) (q 0) miss (sum_once n (λ i. q (suc i)) (λ i j h k a b. omega (arith, d (suc i) (suc j) (omega arith) (omega arith) a b)))
    where
      miss : (i : ℕ) → i < n → q 0 ≡ true → q (suc i) ≡ false
      miss i h e = ⊎_elim (λ t. absurd (omega (arith, d 0 (suc i) (omega arith) (omega arith) e t))) (λ f. f) (cases_Bool (q (suc i)))

-- the numbers from a up to b, among those below l
range_out : (a b j x : ℕ) → (j < a) ⊎ (b ≤ j) → cond (leb a j && ltb j b) x 0 ≡ 0
range_out a b j x h = grind (arith, nat_tests)

range_in : (a b j x : ℕ) → a ≤ j → j < b → cond (leb a j && ltb j b) x 0 ≡ x
range_in a b j x h k = grind (arith, nat_tests)

pub sum_range : (a b l : ℕ) (f : ℕ → ℕ) → a ≤ b → b ≤ l → sum_to l (λ j. cond (leb a j && ltb j b) (f j) 0) ≡ sum f (from a (b - a))
sum_range a b l f h k = rw (← len) (sum_split a (n + r) g ∙ omega (arith, low, sum_split n r (λ i. g (a + i)), mid, high, sum-from f a n))
  where
    n : ℕ
    n = b - a

    r : ℕ
    r = l - b

    g : ℕ → ℕ
    g j = cond (leb a j && ltb j b) (f j) 0

    len : a + (n + r) ≡ l
    len = omega arith

    low : sum_to a g ≡ 0
    low = sum_to_none a g (λ i t. range_out a b i (f i) (inl t))

    mid : sum_to n (λ i. g (a + i)) ≡ sum_to n (λ i. f (a + i))
    mid = sum_to_equal n (λ i. g (a + i)) (λ i. f (a + i)) (λ i t. range_in a b (a + i) (f (a + i)) (omega arith) (omega arith))

    high : sum_to r (λ i. g (a + (n + i))) ≡ 0
    high = sum_to_none r (λ i. g (a + (n + i))) (λ i t. range_out a b (a + (n + i)) (f (a + (n + i))) (inr (omega arith)))

-- spans that ascend cut each slot of the child at most once
pub record Cuts (n l : ℕ) (lo hi : ℕ → ℕ) : Type 0 where
  pub ordered : (i : ℕ) → i < n → lo i ≤ hi i
  pub apart : (i j : ℕ) → i < j → j < n → hi i ≤ lo j
  pub inside : (i : ℕ) → i < n → hi i ≤ l

pub sum_cond : (b : Bool) (m : ℕ) (g : ℕ → ℕ) → sum_to m (λ j. cond b (g j) 0) ≡ cond b (sum_to m g) 0
sum_cond true m g = refl
sum_cond false m g = sum_to_none m (λ j. 0) (λ j h. refl)

-- slot j lies in the span from a to b of a slot that counts (p), and fits there (t)
abbrev pub hit : Bool → ℕ → ℕ → Bool → ℕ → Bool
hit p a b t j = p && (leb a j && (ltb j b && t))

hit_range : (p : Bool) (a b : ℕ) (t : Bool) (j : ℕ) → hit p a b t j ≡ true → (a ≤ j) × (j < b)
hit_range p a b t j e = (grind (arith, nat_tests), grind (arith, nat_tests))

hit_parts : (p : Bool) (a b : ℕ) (t : Bool) (j x : ℕ) → cond (hit p a b t j) x 0 ≡ cond p (cond (leb a j && ltb j b) (cond t x 0) 0) 0
hit_parts p a b t j x = grind (arith, nat_tests)

module _ (n l : ℕ) (lo hi : ℕ → ℕ) (c : Cuts n l lo hi) (p : ℕ → Bool) (fits : ℕ → ℕ → ℕ → Bool) (f : ℕ → ℕ) where
  abbrev hits : ℕ → ℕ → Bool
  hits i j = hit (p i) (lo i) (hi i) (fits (lo i) (hi i) j) j

  hit_one : (j i k : ℕ) → i < n → k < n → hits i j ≡ true → hits k j ≡ true → i ≡ k
  hit_one j i k h g a b = ⊎_elim (λ e. e) (λ o. absurd (⊎_elim (λ t. omega (arith, u, v, c.apart i k t g)) (λ t. omega (arith, u, v, c.apart k i t h)) o)) (cases_order i k)
    where
      u : (lo i ≤ j) × (j < hi i)
      u = hit_range (p i) (lo i) (hi i) (fits (lo i) (hi i) j) j a

      v : (lo k ≤ j) × (j < hi k)
      v = hit_range (p k) (lo k) (hi k) (fits (lo k) (hi k) j) j b

  -- the sum over the child's slots that are cut is the sum over the slots that cut, each over what it cuts
  pub sum-cuts : sum_to l (λ j. cond (any_to n (λ i. hits i j)) (f j) 0) ≡ sum_to n (λ i. cond (p i) (sum (λ j. cond (fits (lo i) (hi i) j) (f j) 0) (from (lo i) (hi i - lo i))) 0)
  sum-cuts = sum_to_equal l _ _ (λ j h. sum_once (f j) n (λ i. hits i j) (hit_one j)) ∙ (sum-swap l n (λ j i. cond (hits i j) (f j) 0) ∙ sum_to_equal n _ _ (λ i h.
      sum_to_equal l _ _ (λ j _. hit_parts (p i) (lo i) (hi i) (fits (lo i) (hi i) j) j (f j))
      ∙ (sum_cond (p i) l (λ j. cond (leb (lo i) j && ltb j (hi i)) (cond (fits (lo i) (hi i) j) (f j) 0) 0)
      ∙ ap (λ k. cond (p i) k 0) (sum_range (lo i) (hi i) l (λ j. cond (fits (lo i) (hi i) j) (f j) 0) (c.ordered i h) (c.inside i h)))))
