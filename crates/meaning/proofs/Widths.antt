-- Numbers of fixed width, low byte first, and ids.
use Rattle.std.proofs.Common.{◌≡◌, ℕ, zero, suc, ◌+◌, ◌-◌, ◌*◌, ◌/◌, ◌%◌, ◌^◌, ◌<◌, ltb, List, [], ◌∷◌, length, ℤ, pos, negsuc, refl, ap, inl, inr, arith}
use Rattle.std.proofs.lemmas.Bool.{cases_Bool, ltb-true, ltb-false, lt-ltb, le-ltb}
use Rattle.meaning.specs.Items.{little, signed}
use Rattle.meaning.specs.Encode.{fixed_width, unsigned}
use Rattle.meaning.specs.Keeps.{Bytes, InRange}

pub width_length : (w n : ℕ) → length (fixed_width w n) ≡ w
width_length zero n = refl
width_length (suc w) n = ap suc (width_length w (n / 256))

pub width_bytes : (w n : ℕ) → Bytes (fixed_width w n)
width_bytes zero n = tt
width_bytes (suc w) n = (omega arith, width_bytes w (n / 256))

pub width_back : (w n : ℕ) → n < 256 ^ w → little (fixed_width w n) ≡ n
width_back zero n h = omega arith
width_back (suc w) n h = let ih = width_back w (n / 256) (omega arith) in omega arith

-- the bytes of a number
pub width_again : (xs : List ℕ) → Bytes xs → (fixed_width (length xs) (little xs) ≡ xs) × (little xs < 256 ^ length xs)
width_again [] y = (refl, omega arith)
width_again (x ∷ xs) y =
    let ih = width_again xs y.1 in
    let l : x < 256 = y.0 in
    let p : (x + 256 * little xs) % 256 ≡ x = omega arith in
    let q : (x + 256 * little xs) / 256 ≡ little xs = omega arith in
    let w : 256 ^ suc (length xs) ≡ 256 * 256 ^ length xs = omega arith in
    (rw (p, q) (ap (λ (u : List ℕ). x ∷ u) ih.0), rw w (omega (arith, ih.1)))

pub id_back : (z : ℤ) → InRange z → signed 4 (unsigned z) ≡ z
id_back (pos n) h = rw (lt-ltb n 2147483648 h)
id_back (negsuc n) h = rw (le-ltb (4294967295 - n) 2147483648 (omega arith)) (ap negsuc (omega arith))

pub id_below : (z : ℤ) → InRange z → unsigned z < 256 ^ 4
id_below (pos n) h = omega arith
id_below (negsuc n) h = omega arith

pub id_again : (n : ℕ) → n < 256 ^ 4 → (unsigned (signed 4 n) ≡ n) × InRange (signed 4 n)
id_again n h =
    elim (cases_Bool (ltb n 2147483648)) [
      | inl s ↦ rw s (refl, ltb-true n 2147483648 s)
      | inr s ↦ let l = ltb-false n 2147483648 s in rw s (omega arith, omega arith)
    ]
