-- Facts of every slot of a list, and what follows for tests, sums, values and kept pairs over it.
use Rattle.std.proofs.Common.{◌≡◌, ℕ, zero, suc, ◌+◌, ◌<◌, Bool, true, false, cond, ◌||◌, List, [], ◌∷◌, ◌++◌, map as each, length, get_or, refl, ap, ◌∙◌, ap₂, arith}
use Rattle.std.specs.List.{AllByRecursion}
use Rattle.std.proofs.ByRecursion.{All-map, All-push}
use Rattle.meaning.specs.Forest.{beside}
use Rattle.meaning.specs.Lists.{upto, from, any_of, sum}
use Rattle.meaning.specs.Literals.{Values}
use Rattle.meaning.specs.Rows.{joined, last_same, kept_from, kept}

pub all_upto : (P : ℕ → Type 0) (n : ℕ) → ((i : ℕ) → i < n → P i) → AllByRecursion P (upto n)
all_upto P zero a = tt
all_upto P (suc n) a = (a 0 (omega arith), All-map P suc (upto n) (all_upto (λ i. P (suc i)) n (λ i h. a (suc i) (omega arith))))

pub all_from : (P : ℕ → Type 0) (a n : ℕ) → ((k : ℕ) → k < n → P (a + k)) → AllByRecursion P (from a n)
all_from P a n h = All-map P (λ k. a + k) (upto n) (all_upto (λ k. P (a + k)) n h)

pub all_both : {X : Type 0} (P Q : X → Type 0) (xs : List X) → AllByRecursion P xs → AllByRecursion Q xs → AllByRecursion (λ x. P x × Q x) xs
all_both P Q [] a b = tt
all_both P Q (x ∷ xs) a b = ((a.0, b.0), all_both P Q xs a.1 b.1)

each_all : {X Y : Type 0} (P : Y → Type 0) (h : X → Y) (xs : List X) → AllByRecursion P (each h xs) → AllByRecursion (λ x. P (h x)) xs
each_all P h [] a = tt
each_all P h (x ∷ xs) a = (a.0, each_all P h xs a.1)

pub upto-at : (P : ℕ → Type 0) (n : ℕ) → AllByRecursion P (upto n) → (i : ℕ) → i < n → P i
upto-at P zero a i h = absurd (omega arith)
upto-at P (suc n) a zero h = a.0
upto-at P (suc n) a (suc i) h = upto-at (λ k. P (suc k)) n (each_all P suc (upto n) a.1) i (omega arith)

-- tests, sums and lists of equal terms
pub any_equal : (f g : ℕ → Bool) (xs : List ℕ) → AllByRecursion (λ i. f i ≡ g i) xs → any_of f xs ≡ any_of g xs
any_equal f g [] a = refl
any_equal f g (x ∷ xs) a = ap₂ ◌||◌ a.0 (any_equal f g xs a.1)

pub any_none : (f : ℕ → Bool) (xs : List ℕ) → AllByRecursion (λ i. f i ≡ false) xs → any_of f xs ≡ false
any_none f [] a = refl
any_none f (x ∷ xs) a = ap₂ ◌||◌ a.0 (any_none f xs a.1)

or_off : (a b : Bool) → (a || b) ≡ false → (a ≡ false) × (b ≡ false)
or_off true b e = (cc, cc)
or_off false b e = (refl, e)

pub none_any : (f : ℕ → Bool) (xs : List ℕ) → any_of f xs ≡ false → AllByRecursion (λ i. f i ≡ false) xs
none_any f [] e = tt
none_any f (x ∷ xs) e = let h = or_off (f x) (any_of f xs) e in (h.0, none_any f xs h.1)

pub sum_equal : (f g : ℕ → ℕ) (xs : List ℕ) → AllByRecursion (λ i. f i ≡ g i) xs → sum f xs ≡ sum g xs
sum_equal f g [] a = refl
sum_equal f g (x ∷ xs) a = ap₂ ◌+◌ a.0 (sum_equal f g xs a.1)

pub each_equal : {X Y : Type 0} (f g : X → Y) (xs : List X) → AllByRecursion (λ i. f i ≡ g i) xs → each f xs ≡ each g xs
each_equal f g [] a = refl
each_equal f g (x ∷ xs) a = ap₂ ◌∷◌ a.0 (each_equal f g xs a.1)

pub joined_equal : {X : Type 0} (f g : X → Values) (xs : List X) → AllByRecursion (λ i. f i ≡ g i) xs → joined f xs ≡ joined g xs
joined_equal f g [] a = refl
joined_equal f g (x ∷ xs) a = ap₂ beside a.0 (joined_equal f g xs a.1)

-- the values of n slots: how many they are, and each at its place
pub each_each : {X Y Z : Type 0} (f : Y → Z) (g : X → Y) (xs : List X) → each f (each g xs) ≡ each (λ k. f (g k)) xs
each_each f g [] = refl
each_each f g (x ∷ xs) = ap (λ ys. f (g x) ∷ ys) (each_each f g xs)

pub length_slots : {X : Type 0} (f : ℕ → X) (n : ℕ) → length (each f (upto n)) ≡ n
length_slots f zero = refl
length_slots f (suc n) = ap suc (ap length (each_each f suc (upto n)) ∙ length_slots (λ i. f (suc i)) n)

pub slot_at : {X : Type 0} (f : ℕ → X) (n i : ℕ) (d : X) → i < n → get_or (each f (upto n)) i d ≡ f i
slot_at f zero i d h = absurd (omega arith)
slot_at f (suc n) zero d h = refl
slot_at f (suc n) (suc i) d h = ap (λ xs. get_or xs i d) (each_each f suc (upto n)) ∙ slot_at (λ k. f (suc k)) n i d (omega arith)

-- one more slot at the end of a list that is searched
pub any_push : (t : ℕ → Bool) (xs : List ℕ) (i : ℕ) → any_of t (xs ++ (i ∷ [])) ≡ (any_of t xs || t i)
any_push t [] i = grind arith
any_push t (x ∷ xs) i = ap (λ b. t x || b) (any_push t xs i) ∙ grind arith

-- key tests that agree on the slots of a span keep the same pairs, and the pairs are of those slots
module _ (P : ℕ → Type 0) where
  last_in : (f : ℕ → Bool) (i : ℕ) (js : List ℕ) → P i → AllByRecursion P js → P (last_same f i js)
  last_in f i [] p a = p
  last_in f i (j ∷ js) p a = go (f j) (last_in f j js a.0 a.1) (last_in f i js p a.1)
    where
      go : (b : Bool) → P (last_same f j js) → P (last_same f i js) → P (cond b (last_same f j js) (last_same f i js))
      go true x y = x
      go false x y = y

  abbrev Both : ℕ × ℕ → Type 0
  Both kv = P kv.0 × P kv.1

  kept_in : (same : ℕ → ℕ → Bool) (seen is : List ℕ) → AllByRecursion P is → AllByRecursion Both (kept_from same seen is)
  kept_in same seen [] a = tt
  kept_in same seen (i ∷ is) a = go (any_of (same i) seen) (kept_in same (seen ++ (i ∷ [])) is a.1)
    where
      go : (b : Bool) → AllByRecursion Both (kept_from same (seen ++ (i ∷ [])) is) → AllByRecursion Both (cond b (kept_from same (seen ++ (i ∷ [])) is) ((i, last_same (same i) i is) ∷ kept_from same (seen ++ (i ∷ [])) is))
      go true r = r
      go false r = ((a.0, last_in (same i) i is a.0 a.1), r)

  pub pairs_in : (same : ℕ → ℕ → Bool) (is : List ℕ) → AllByRecursion P is → AllByRecursion Both (kept same is)
  pairs_in same is a = kept_in same [] is a

  module _ (f g : ℕ → ℕ → Bool) (e : (i j : ℕ) → P i → P j → f i j ≡ g i j) where
    any_same : (i : ℕ) (xs : List ℕ) → P i → AllByRecursion P xs → any_of (f i) xs ≡ any_of (g i) xs
    any_same i [] p a = refl
    any_same i (x ∷ xs) p a = ap₂ ◌||◌ (e i x p a.0) (any_same i xs p a.1)

    last-same : (k i : ℕ) (js : List ℕ) → P k → AllByRecursion P js → last_same (f k) i js ≡ last_same (g k) i js
    last-same k i [] p a = refl
    last-same k i (j ∷ js) p a =
        ap₂ (λ (x y : ℕ). cond (f k j) x y) (last-same k j js p a.1) (last-same k i js p a.1) ∙ ap (λ (b : Bool). cond b (last_same (g k) j js) (last_same (g k) i js)) (e k j p a.0)

    kept_same : (seen is : List ℕ) → AllByRecursion P seen → AllByRecursion P is → kept_from f seen is ≡ kept_from g seen is
    kept_same seen [] s a = refl
    kept_same seen (i ∷ is) s a =
        let more : List (ℕ × ℕ) = kept_from g (seen ++ (i ∷ [])) is in
        ap₂ (λ (b : Bool) (r : List (ℕ × ℕ)). cond b r ((i, last_same (f i) i is) ∷ r)) (any_same i seen a.0 s) (kept_same (seen ++ (i ∷ [])) is (All-push P seen i s a.0) a.1)
        ∙ ap (λ (l : ℕ). cond (any_of (g i) seen) more ((i, l) ∷ more)) (last-same i i is a.0 a.1)

    pub pairs_same : (is : List ℕ) → AllByRecursion P is → kept f is ≡ kept g is
    pairs_same is a = kept_same [] is tt a
