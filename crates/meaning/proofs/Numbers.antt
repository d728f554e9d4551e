-- Numbers: groups of seven bits, written and read back, and read and written again.
use Rattle.std.proofs.Common.{◌≡◌, ℕ, suc, ◌+◌, ◌-◌, ◌*◌, ◌/◌, ◌%◌, ◌^◌, ◌<◌, ◌≤◌, true, false, cond, ◌&&◌, eqb, ltb, leb, List, [], ◌∷◌, ◌++◌, length, sym, refl, ap, ◌∙◌, inl, inr, arith}
use Rattle.std.proofs.lemmas.Bool.{cases_Bool, ltb-true, ltb-false, leb-true, leb-false, eqb-false, lt-ltb, le-ltb, le-leb, lt-leb, ne_eqb}
use Rattle.std.specs.List.{AllByRecursion}
use Rattle.meaning.specs.Items.{value, cut, long, groups, numeral}
use Rattle.meaning.specs.Encode.{groups as written, numeral as number_bytes}

same-value : {a b c d : ℕ} → a ≡ b → c ≡ d → value a c ≡ value b d
same-value p q = λ i. value (p i) (q i)

-- what is written from group k on is read back, for k = 4, 3, 2, 1 and 0
back₄ : (v n : ℕ) (rest : List ℕ) → 1 ≤ n → n < 16 → groups 1 4 v (written 1 n ++ rest) ≡ value (v + n * 268435456) (4 + length (written 1 n))
back₄ v n rest l h = rw (lt-ltb n 128 (omega arith)) (rw (lt-leb 16 n h, lt-leb 128 n (omega arith), ne_eqb n 0 (λ e. omega arith)) refl)

-- how a group between the first and the fifth is read
abbrev Middle : ℕ → ℕ → ℕ → Type 0
Middle left k p = (v b : ℕ) (bs : List ℕ)
    → groups (suc left) k v (b ∷ bs) ≡ cond (leb 128 b) (groups left (k + 1) (v + (b - 128) * p) bs) (cond (eqb b 0 && true) long (value (v + b * p) (k + 1)))

abbrev Back : ℕ → ℕ → ℕ → ℕ → Type 0
Back left k p high = (v n : ℕ) (rest : List ℕ) → 1 ≤ n → n < high → groups left k v (written left n ++ rest) ≡ value (v + n * p) (k + length (written left n))

sum-groups : (v e d p : ℕ) → v + e * p + d * (128 * p) ≡ v + (e + 128 * d) * p
sum-groups v e d p = omega arith

split_group : (v n p : ℕ) → v + (n % 128 + 128 - 128) * p + n / 128 * (128 * p) ≡ v + n * p
split_group v n p =
    let low : n % 128 + 128 - 128 ≡ n % 128 = omega arith in
    let all : n % 128 + 128 * (n / 128) ≡ n = omega arith in
    ap (λ (e : ℕ). v + e * p + n / 128 * (128 * p)) low ∙ (sum-groups v (n % 128) (n / 128) p ∙ ap (λ (t : ℕ). v + t * p) all)

back_middle : (left k p high : ℕ) → Middle left k p → Back left (k + 1) (128 * p) high → Back (suc left) k p (128 * high)
back_middle left k p high m next v n rest l h =
    elim (cases_Bool (ltb n 128)) [
      | inl s ↦ rw s (m v n rest ∙ rw (lt-leb 128 n (ltb-true n 128 s), ne_eqb n 0 (λ e. omega arith)) refl)
      | inr s ↦
          let q : 128 ≤ n = ltb-false n 128 s in
          rw s (m v (n % 128 + 128) (written left (n / 128) ++ rest)
          ∙ rw (le-leb 128 (n % 128 + 128) (omega arith))
          (next (v + (n % 128 + 128 - 128) * p) (n / 128) rest (omega arith) (omega arith) ∙ same-value (split_group v n p) (omega arith)))
    ]

back₃ : Back 2 3 2097152 2048
back₃ = back_middle 1 3 2097152 16 (λ v b bs. refl) back₄

back₂ : Back 3 2 16384 262144
back₂ = back_middle 2 2 16384 2048 (λ v b bs. refl) back₃

back₁ : Back 4 1 128 33554432
back₁ = back_middle 3 1 128 262144 (λ v b bs. refl) back₂

back₀ : (v n : ℕ) (rest : List ℕ) → n < 4294967296 → groups 5 0 v (written 5 n ++ rest) ≡ value (v + n * 1) (0 + length (written 5 n))
back₀ v n rest h =
    elim (cases_Bool (ltb n 128)) [
      | inl s ↦ rw s (rw (lt-leb 128 n (ltb-true n 128 s)) (elim (cases_Bool (eqb n 0)) [ inl z ↦ rw z | inr z ↦ rw z ]))
      | inr s ↦
          let q : 128 ≤ n = ltb-false n 128 s in
          rw s (rw (le-leb 128 (n % 128 + 128) (omega arith))
          (back₁ (v + (n % 128 + 128 - 128) * 1) (n / 128) rest (omega arith) (omega arith) ∙ same-value (omega arith) (omega arith)))
    ]

-- what is no number
no_value : (u c : ℕ) → cut ≡ value u c → ⊥
no_value u c p = let z : ◌≡◌ {A = ℕ} 0 1 = cc in omega arith

too_long : (u c : ℕ) → long ≡ value u c → ⊥
too_long u c p = let z : ◌≡◌ {A = ℕ} 0 1 = cc in omega arith

-- what was read from group k on: the groups' value, and that it is written as the bytes that were read
record Again (j k p v u c : ℕ) (bs : List ℕ) (low high : ℕ) : Type 0 where
  digits : ℕ
  rest : List ℕ
  total : u ≡ v + digits * p
  bytes : bs ≡ written j digits ++ rest
  used : c ≡ k + length (written j digits)
  least : low ≤ digits
  most : digits < high

above : (b : ℕ) → eqb b 0 ≡ false → 1 ≤ b
above b z = omega (arith, eqb-false b 0 z)

-- the last group
last : (j k p v u c b : ℕ) (bs : List ℕ) (low high : ℕ) → value (v + b * p) (k + 1) ≡ value u c → b < 128 → low ≤ b → b < high
    → Again (suc j) k p v u c (b ∷ bs) low high
last j k p v u c b bs low high h q l m =
    record { digits = b; rest = bs; total = cc; bytes = rw (lt-ltb b 128 q); used = rw (lt-ltb b 128 q) (cc); least = l; most = m }

-- a group, and those after it
more : (j k p v u c e b : ℕ) (bs : List ℕ) (low high : ℕ) → b ≡ e + 128 → e < 128 → low ≤ 1 → Again j (k + 1) (128 * p) (v + e * p) u c bs 1 high
    → Again (suc j) k p v u c (b ∷ bs) low (128 * high)
more j k p v u c e b bs low high q l w a =
    record {
      digits = n;
      rest = a.rest;
      total = omega (arith, a.total);
      bytes = rw (le-ltb n 128 big, low_group, high_groups, ← q) (ap (λ (t : List ℕ). b ∷ t) a.bytes);
      used = rw (le-ltb n 128 big, high_groups) (omega (arith, a.used));
      least = omega arith;
      most = omega (arith, a.most);
    }
  where
    n : ℕ
    n = e + 128 * a.digits

    big : 128 ≤ n
    big = omega (arith, a.least)

    low_group : n % 128 ≡ e
    low_group = omega arith

    high_groups : n / 128 ≡ a.digits
    high_groups = omega arith

again₄ : (v u c : ℕ) (bs : List ℕ) → AllByRecursion (λ b. b < 256) bs → groups 1 4 v bs ≡ value u c → Again 1 4 268435456 v u c bs 1 16
again₄ v u c [] y h = absurd (no_value u c h)
again₄ v u c (b ∷ bs) y h =
    elim (cases_Bool (leb 16 b)) [
      | inl s ↦ absurd (too_long u c (rw s at h))
      | inr s ↦
          let q : b < 16 = leb-false 16 b s in
          elim (cases_Bool (eqb b 0)) [
            | inl z ↦ absurd (too_long u c (rw (s, lt-leb 128 b (omega arith), z) at h))
            | inr z ↦ last 0 4 268435456 v u c b bs 1 16 (rw (s, lt-leb 128 b (omega arith), z) at h) (omega arith) (above b z) q
          ]
    ]

again_middle : (left k p high : ℕ) → 1 ≤ high → Middle left k p
    → ((v u c : ℕ) (bs : List ℕ) → AllByRecursion (λ b. b < 256) bs → groups left (k + 1) v bs ≡ value u c → Again left (k + 1) (128 * p) v u c bs 1 high)
    → (v u c : ℕ) (bs : List ℕ) → AllByRecursion (λ b. b < 256) bs → groups (suc left) k v bs ≡ value u c → Again (suc left) k p v u c bs 1 (128 * high)
again_middle left k p high t m next v u c [] y h = absurd (no_value u c h)
again_middle left k p high t m next v u c (b ∷ bs) y h =
    let g = sym (m v b bs) ∙ h in
    elim (cases_Bool (leb 128 b)) [
      | inl s ↦ let q : 128 ≤ b = leb-true 128 b s in
          more left k p v u c (b - 128) b bs 1 high (omega arith) (omega (arith, y.0)) (omega arith) (next (v + (b - 128) * p) u c bs y.1 (rw s at g))
      | inr s ↦
          let q : b < 128 = leb-false 128 b s in
          elim (cases_Bool (eqb b 0)) [
            | inl z ↦ absurd (too_long u c (rw (s, z) at g))
            | inr z ↦ last left k p v u c b bs 1 (128 * high) (rw (s, z) at g) q (above b z) (omega arith)
          ]
    ]

again₃ : (v u c : ℕ) (bs : List ℕ) → AllByRecursion (λ b. b < 256) bs → groups 2 3 v bs ≡ value u c → Again 2 3 2097152 v u c bs 1 2048
again₃ = again_middle 1 3 2097152 16 (omega arith) (λ v b bs. refl) again₄

again₂ : (v u c : ℕ) (bs : List ℕ) → AllByRecursion (λ b. b < 256) bs → groups 3 2 v bs ≡ value u c → Again 3 2 16384 v u c bs 1 262144
again₂ = again_middle 2 2 16384 2048 (omega arith) (λ v b bs. refl) again₃

again₁ : (v u c : ℕ) (bs : List ℕ) → AllByRecursion (λ b. b < 256) bs → groups 4 1 v bs ≡ value u c → Again 4 1 128 v u c bs 1 33554432
again₁ = again_middle 3 1 128 262144 (omega arith) (λ v b bs. refl) again₂

again₀ : (v u c : ℕ) (bs : List ℕ) → AllByRecursion (λ b. b < 256) bs → groups 5 0 v bs ≡ value u c → Again 5 0 1 v u c bs 0 4294967296
again₀ v u c [] y h = absurd (no_value u c h)
again₀ v u c (b ∷ bs) y h =
    elim (cases_Bool (leb 128 b)) [
      | inl s ↦ let q : 128 ≤ b = leb-true 128 b s in
          more 4 0 1 v u c (b - 128) b bs 0 33554432 (omega arith) (omega (arith, y.0)) (omega arith) (again₁ (v + (b - 128) * 1) u c bs y.1 (rw s at h))
      | inr s ↦
          let q : b < 128 = leb-false 128 b s in
          elim (cases_Bool (eqb b 0)) [
            | inl z ↦ last 4 0 1 v u c b bs 0 4294967296 (rw (s, z) at h) q (omega arith) (omega arith)
            | inr z ↦ last 4 0 1 v u c b bs 0 4294967296 (rw (s, z) at h) q (omega arith) (omega arith)
          ]
    ]

-- a number below 2 ^ 32 is read back
pub number_back : (n : ℕ) (rest : List ℕ) → n < 2 ^ 32 → numeral (number_bytes n ++ rest) ≡ value n (length (number_bytes n))
number_back n rest h = back₀ 0 n rest h ∙ same-value (omega arith) (omega arith)

-- and a number that was read is written as the bytes that were read
pub record Counted (bs : List ℕ) (n c : ℕ) : Type 0 where
  pub rest : List ℕ
  pub bytes : bs ≡ number_bytes n ++ rest
  pub used : c ≡ length (number_bytes n)
  pub fits : n < 2 ^ 32

counted : (bs : List ℕ) (n c d : ℕ) (rest : List ℕ) → n ≡ d → bs ≡ written 5 d ++ rest → c ≡ length (written 5 d) → d < 2 ^ 32 → Counted bs n c
counted bs n c d rest e b u l = record {
  rest = rest;
  bytes = b ∙ ap (λ (k : ℕ). number_bytes k ++ rest) (sym e);
  used = u ∙ ap (λ (k : ℕ). length (number_bytes k))
      (sym e);
  fits = omega arith;
}

pub number_again : (bs : List ℕ) (n c : ℕ) → AllByRecursion (λ b. b < 256) bs → numeral bs ≡ value n c → Counted bs n c
number_again bs n c y h =
    let a = again₀ 0 n c bs y h in
    counted bs n c a.digits a.rest (omega (arith, a.total)) a.bytes (omega (arith, a.used)) a.most
