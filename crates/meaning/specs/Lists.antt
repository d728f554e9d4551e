-- Lists of slot numbers: which there are, whether one passes a test, and what they add up to.
use Rattle.std.specs.Prelude.{ℕ, zero, suc, ◌+◌, Bool, false, cond, ◌||◌, List, [], ◌∷◌, map, Some, None, Option, ◌==◌}

-- the numbers below n, from 0 on
abbrev pub upto : ℕ → List ℕ
upto zero = []
upto (suc n) = 0 ∷ map suc (upto n)

-- the n numbers from a on
abbrev pub from : ℕ → ℕ → List ℕ
from a n = map (λ k. a + k) (upto n)

-- whether k is one of the numbers
abbrev pub among : ℕ → List ℕ → Bool
among k [] = false
among k (n ∷ ns) = k == n || among k ns

-- whether an element passes the test
abbrev pub any_of : {X : Type 0} → (X → Bool) → List X → Bool
any_of f [] = false
any_of f (x ∷ xs) = f x || any_of f xs

-- the sum of a number for each element
abbrev pub sum : {X : Type 0} → (X → ℕ) → List X → ℕ
sum f [] = 0
sum f (x ∷ xs) = f x + sum f xs

-- how many elements pass the test
abbrev pub tally : {X : Type 0} → (X → Bool) → List X → ℕ
tally f xs = sum (λ x. cond (f x) 1 0) xs

-- a number that may be absent, absent being 0
abbrev pub or_zero : Option ℕ → ℕ
or_zero None = 0
or_zero (Some k) = k
