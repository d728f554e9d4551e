-- Signed numbers in order: `same_integer` is equality, and `lt_z` is irreflexive, transitive and total.
use Rattle.std.proofs.Common.{◌≡◌, true, false, ℤ, pos, negsuc, refl, ap, arith}
use Rattle.std.proofs.lemmas.Bool.{eqb-true, eq-eqb}
use Rattle.std.proofs.lemmas.Bool.Decides.{nat_tests}
use Rattle.meaning.specs.Equal.{same_integer}
use lib.Signed.{lt_z}

pub same_self : (a : ℤ) → same_integer a a ≡ true
same_self (pos a) = eq-eqb a a refl
same_self (negsuc a) = eq-eqb a a refl

pub same_eq : (a b : ℤ) → same_integer a b ≡ true → a ≡ b
same_eq (pos a) (pos b) h = ap pos (eqb-true a b h)
same_eq (pos a) (negsuc b) h = cc
same_eq (negsuc a) (pos b) h = cc
same_eq (negsuc a) (negsuc b) h = ap negsuc (eqb-true a b h)

pub less_apart : (a b : ℤ) → lt_z a b ≡ true → same_integer a b ≡ false
less_apart (pos a) (pos b) h = grind (arith, nat_tests)
less_apart (pos a) (negsuc b) h = refl
less_apart (negsuc a) (pos b) h = refl
less_apart (negsuc a) (negsuc b) h = grind (arith, nat_tests)

pub less_less : (a b c : ℤ) → lt_z a b ≡ true → lt_z b c ≡ true → lt_z a c ≡ true
less_less (pos a) (pos b) (pos c) h k = grind (arith, nat_tests)
less_less (pos a) (pos b) (negsuc c) h k = k
less_less (pos a) (negsuc b) (pos c) h k = cc
less_less (pos a) (negsuc b) (negsuc c) h k = h
less_less (negsuc a) (pos b) (pos c) h k = refl
less_less (negsuc a) (pos b) (negsuc c) h k = cc
less_less (negsuc a) (negsuc b) (pos c) h k = refl
less_less (negsuc a) (negsuc b) (negsuc c) h k = grind (arith, nat_tests)

-- of two ids that differ, one is below the other
pub less_else : (a b : ℤ) → same_integer a b ≡ false → lt_z a b ≡ false → lt_z b a ≡ true
less_else (pos a) (pos b) h k = grind (arith, nat_tests)
less_else (pos a) (negsuc b) h k = refl
less_else (negsuc a) (pos b) h k = cc
less_else (negsuc a) (negsuc b) h k = grind (arith, nat_tests)
