-- Key equality is reflexive, symmetric and transitive, for every primitive.
use Rattle.std.proofs.Common.{◌≡◌, ℕ, Bool, true, false, not, ◌&&◌, ◌||◌, eqb, ◌⊎◌, List, [], ◌∷◌, ℤ, sym, refl, ap, ◌∙◌, subst, ap₂, ⊎_elim, arith}
use Rattle.std.proofs.lemmas.Bool.Decides.{nat_tests}
use Rattle.std.proofs.lemmas.Bool.{eq-eqb, eqb-true, and_parts, and_from, or_cases}
use Rattle.meaning.proofs.IdOrder.{same_self, same_eq}
use Rattle.meaning.specs.Model.{Column, Shape, prim, struct, list, map, Primitive, boolean, int, long, float, double, date, time, timestamp, timestamptz, timestamp_ns, timestamptz_ns, string, uuid, fixed, binary}
use Rattle.meaning.specs.Slots.{bit, stored, nan32, nan64}
use Rattle.meaning.specs.Equal.{same_integer, same_bytes, same_boolean}
use Rattle.meaning.specs.Literals.{bytes_at, zero32, zero64, same32, same64, same_key, same_by}

pub record Equivalence {X : Type 0} (same : X → X → Bool) : Type 0 where
  pub self : (a : X) → same a a ≡ true
  pub flip : (a b : X) → same a b ≡ true → same b a ≡ true
  pub join : (a b c : X) → same a b ≡ true → same b c ≡ true → same a c ≡ true

-- a test on what is read at two places
pub by_value : {X Y : Type 0} (same : X → X → Bool) (f : Y → X) → Equivalence same → Equivalence (λ i j. same (f i) (f j))
by_value same f a = record { self = λ i. a.self (f i); flip = λ i j. a.flip (f i) (f j); join = λ i j k. a.join (f i) (f j) (f k) }

pub numbers : Equivalence eqb
numbers = record { self = λ a. eq-eqb a a refl; flip = λ a b e. eq-eqb b a (sym (eqb-true a b e)); join = λ a b c e f. eq-eqb a c (eqb-true a b e ∙ eqb-true b c f) }

-- lists of bytes, element by element
bytes_self : (xs : List ℕ) → same_bytes xs xs ≡ true
bytes_self [] = refl
bytes_self (x ∷ xs) = and_from (eqb x x) (same_bytes xs xs) (eq-eqb x x refl) (bytes_self xs)

bytes_equal : (xs ys : List ℕ) → same_bytes xs ys ≡ true → xs ≡ ys
bytes_equal [] [] e = refl
bytes_equal [] (y ∷ ys) e = cc
bytes_equal (x ∷ xs) [] e = cc
bytes_equal (x ∷ xs) (y ∷ ys) e =
    let h : (eqb x y ≡ true) × (same_bytes xs ys ≡ true) = and_parts (eqb x y) (same_bytes xs ys) e in
    ap₂ ◌∷◌ (eqb-true x y h.0) (bytes_equal xs ys h.1)

equal_bytes : (xs ys : List ℕ) → xs ≡ ys → same_bytes xs ys ≡ true
equal_bytes xs ys e = subst (λ (zs : List ℕ). same_bytes xs zs ≡ true) e (bytes_self xs)

pub bytes : Equivalence same_bytes
bytes = record { self = bytes_self; flip = λ a b e. equal_bytes b a (sym (bytes_equal a b e)); join = λ a b c e f. equal_bytes a c (bytes_equal a b e ∙ bytes_equal b c f) }

pub integers : Equivalence same_integer
integers = record {
  self = same_self;
  flip = λ a b e. subst (λ (x : ℤ). same_integer x a ≡ true) (same_eq a b e) (same_self a);
  join = λ a b c e f. subst (λ (x : ℤ). same_integer x c ≡ true) (sym (same_eq a b e)) f;
}

pub booleans : Equivalence same_boolean
booleans = record { self = self'; flip = flip'; join = join' }
  where
    self' : (a : Bool) → same_boolean a a ≡ true
    self' true = refl
    self' false = refl

    flip' : (a b : Bool) → same_boolean a b ≡ true → same_boolean b a ≡ true
    flip' true true e = refl
    flip' true false e = e
    flip' false true e = e
    flip' false false e = refl

    join' : (a b c : Bool) → same_boolean a b ≡ true → same_boolean b c ≡ true → same_boolean a c ≡ true
    join' true true c e f = f
    join' true false true e f = refl
    join' true false false e f = e
    join' false true true e f = e
    join' false true false e f = refl
    join' false false c e f = f

-- numbers of which some are one (NaNs), some others are one (zeros), and the rest go by their bits
abbrev joined : (ℕ → Bool) → (ℕ → Bool) → ℕ → ℕ → Bool
joined N Z a b = (N a && N b) || ((Z a && Z b) || (not (N a) && eqb a b))

module _ (N Z : ℕ → Bool) (apart : (a : ℕ) → Z a ≡ true → N a ≡ false) where
  ways : (a b : ℕ) → joined N Z a b ≡ true → ((N a ≡ true) × (N b ≡ true)) ⊎ (((Z a ≡ true) × (Z b ≡ true)) ⊎ ((N a ≡ false) × (a ≡ b)))
  ways a b e = grind (arith, nat_tests)

  floats : Equivalence (joined N Z)
  floats = record { self = λ a. grind (arith, nat_tests); flip = λ a b e. grind (arith, nat_tests, apart); join = λ a b c e f. grind (arith, nat_tests, apart) }

-- a zero is no NaN
zero32_apart : (a : ℕ) → zero32 a ≡ true → nan32 a ≡ false
zero32_apart a e = ⊎_elim (λ h. ap nan32 (eqb-true a 0 h)) (λ h. ap nan32 (eqb-true a 2147483648 h)) (or_cases (eqb a 0) (eqb a 2147483648) e)

zero64_apart : (a : ℕ) → zero64 a ≡ true → nan64 a ≡ false
zero64_apart a e = ⊎_elim (λ h. ap nan64 (eqb-true a 0 h)) (λ h. ap nan64 (eqb-true a 9223372036854775808 h)) (or_cases (eqb a 0) (eqb a 9223372036854775808) e)

pub floats32 : Equivalence same32
floats32 = floats nan32 zero32 zero32_apart

pub floats64 : Equivalence same64
floats64 = floats nan64 zero64 zero64_apart

-- the keys of one column, by slot
pub key_equivalence : (p : Primitive) (x : Column) → Equivalence (same_key p x)
key_equivalence boolean x = by_value same_boolean (λ i. bit x.body i) booleans
key_equivalence int x = by_value eqb (λ i. stored 4 x.body i) numbers
key_equivalence long x = by_value eqb (λ i. stored 8 x.body i) numbers
key_equivalence float x = by_value same32 (λ i. stored 4 x.body i) floats32
key_equivalence double x = by_value same64 (λ i. stored 8 x.body i) floats64
key_equivalence date x = by_value eqb (λ i. stored 4 x.body i) numbers
key_equivalence time x = by_value eqb (λ i. stored 8 x.body i) numbers
key_equivalence timestamp x = by_value eqb (λ i. stored 8 x.body i) numbers
key_equivalence timestamptz x = by_value eqb (λ i. stored 8 x.body i) numbers
key_equivalence timestamp_ns x = by_value eqb (λ i. stored 8 x.body i) numbers
key_equivalence timestamptz_ns x = by_value eqb (λ i. stored 8 x.body i) numbers
key_equivalence string x = by_value same_bytes (λ i. bytes_at x i) bytes
key_equivalence uuid x = by_value same_bytes (λ i. bytes_at x i) bytes
key_equivalence (fixed n) x = by_value same_bytes (λ i. bytes_at x i) bytes
key_equivalence binary x = by_value same_bytes (λ i. bytes_at x i) bytes

pub same_equivalence : (s : Shape) (x : Column) → Equivalence (same_by s x)
same_equivalence (prim p) x = key_equivalence p x
same_equivalence struct x = numbers
same_equivalence list x = numbers
same_equivalence map x = numbers
