-- Two keys are one key by their values exactly if they are by their slots.
use Rattle.std.proofs.Common.{◌≡◌, ℕ, zero, suc, ◌-◌, ◌*◌, ◌^◌, ◌<◌, Bool, true, false, cond, eqb, ltb, List, [], ◌∷◌, take, drop, ℤ, pos, negsuc, sym, refl, arith}
use Rattle.std.proofs.lemmas.Bool.Decides.{nat_tests}
use Rattle.std.proofs.lemmas.Bool.{ltb-true, ltb-false, ne_eqb}
use Rattle.meaning.specs.Model.{Column, Primitive, boolean, int, long, float, double, date, time, timestamp, timestamptz, timestamp_ns, timestamptz_ns, string, uuid, fixed, binary}
use Rattle.meaning.specs.Items.{little, signed}
use Rattle.meaning.specs.Slots.{stored}
use Rattle.meaning.specs.Equal.{same_integer}
use Rattle.meaning.specs.Literals.{primitive_literal, same_key, same_literal}
use Rattle.meaning.specs.Keeps.{Bytes}

-- what w bytes can hold
abbrev top : ℕ → ℕ
top zero = 1
top (suc w) = 256 * top w

bytes_drop : (k : ℕ) (bs : List ℕ) → Bytes bs → Bytes (drop k bs)
bytes_drop zero bs h = h
bytes_drop (suc k) [] h = tt
bytes_drop (suc k) (b ∷ bs) h = bytes_drop k bs h.1

little_bound : (w : ℕ) (bs : List ℕ) → Bytes bs → little (take w bs) < top w
little_bound zero bs h = omega arith
little_bound (suc w) [] h = let z = little_bound w [] h in omega arith
little_bound (suc w) (b ∷ bs) h = let z = little_bound w bs h.1 in omega arith

stored_bound : (w : ℕ) (bs : List ℕ) (i : ℕ) → Bytes bs → stored w bs i < top w
stored_bound w bs i h = little_bound w (drop (i * w) bs) (bytes_drop (i * w) bs h)

-- signed numbers of w bytes are equal exactly if their bits are
abbrev turned : Bool → ℕ → ℕ → ℤ
turned b k n = cond b (pos n) (negsuc (k - n - 1))

same_turned : (h k a b : ℕ) → a < k → b < k → (x y : Bool) → ltb a h ≡ x → ltb b h ≡ y → same_integer (turned x k a) (turned y k b) ≡ eqb a b
same_turned h k a b p q true true e f = refl
same_turned h k a b p q true false e f = sym (ne_eqb a b (λ t. omega (arith, ltb-true a h e, ltb-false b h f)))
same_turned h k a b p q false true e f = sym (ne_eqb a b (λ t. omega (arith, ltb-false a h e, ltb-true b h f)))
same_turned h k a b p q false false e f = grind (arith, nat_tests)

same_signed4 : (a b : ℕ) → a < 2 ^ 32 → b < 2 ^ 32 → same_integer (signed 4 a) (signed 4 b) ≡ eqb a b
same_signed4 a b p q = same_turned (2 ^ 31) (2 ^ 32) a b p q (ltb a (2 ^ 31)) (ltb b (2 ^ 31)) refl refl

same_signed8 : (a b : ℕ) → a < 2 ^ 64 → b < 2 ^ 64 → same_integer (signed 8 a) (signed 8 b) ≡ eqb a b
same_signed8 a b p q = same_turned (2 ^ 63) (2 ^ 64) a b p q (ltb a (2 ^ 63)) (ltb b (2 ^ 63)) refl refl

module _ (x : Column) (h : Bytes x.body) (i j : ℕ) where
  narrow : same_integer (signed 4 (stored 4 x.body i)) (signed 4 (stored 4 x.body j)) ≡ eqb (stored 4 x.body i) (stored 4 x.body j)
  narrow = same_signed4 (stored 4 x.body i) (stored 4 x.body j) (stored_bound 4 x.body i h) (stored_bound 4 x.body j h)

  broad : same_integer (signed 8 (stored 8 x.body i)) (signed 8 (stored 8 x.body j)) ≡ eqb (stored 8 x.body i) (stored 8 x.body j)
  broad = same_signed8 (stored 8 x.body i) (stored 8 x.body j) (stored_bound 8 x.body i h) (stored_bound 8 x.body j h)

  pub alike_key : (p : Primitive) → same_literal (primitive_literal p x i) (primitive_literal p x j) ≡ same_key p x i j
  alike_key boolean = refl
  alike_key int = narrow
  alike_key long = broad
  alike_key float = refl
  alike_key double = refl
  alike_key date = narrow
  alike_key time = broad
  alike_key timestamp = broad
  alike_key timestamptz = broad
  alike_key timestamp_ns = broad
  alike_key timestamptz_ns = broad
  alike_key string = refl
  alike_key uuid = refl
  alike_key (fixed n) = refl
  alike_key binary = refl
