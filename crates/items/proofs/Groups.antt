-- One turn of the loop that reads a number, against one step of `groups`.
use Rattle.std.proofs.Common.{◌≡◌, ℕ, suc, ◌+◌, ◌-◌, ◌*◌, ◌%◌, ◌^◌, ◌<◌, ◌≤◌, cond, ◌&&◌, eqb, leb, ◌≢◌, List, ◌∷◌, length, get_or, drop, sym, ap, ◌∙◌, inl, inr, add-mul, arith}
use Rattle.std.proofs.lemmas.List.{drop_more}
use Rattle.std.proofs.lemmas.Nat.{shl_whole, mul-le, pow-add}
use Rattle.std.proofs.lemmas.Bool.Decides.{nat_tests, eqb_tells}
use Rattle.meaning.specs.Items.{Number, value, long, groups, numeral}

-- what `groups` does at one byte, the recursion left out
step : ℕ → ℕ → ℕ → Number → Number
step k v b more = cond (eqb k 4 && leb 16 b) long (cond (leb 128 b) more (cond (eqb b 0 && leb 1 k) long (value (v + b * 2 ^ (7 * k)) (k + 1))))

module _ (bytes : List ℕ) (k v b : ℕ) (few : k < 5) (there : k < length bytes) (is : b ≡ get_or bytes k 0) (short : k ≡ 4 → b < 16) where
  opened : groups (5 - k) k v (drop k bytes) ≡ step k v b (groups (5 - (k + 1)) (k + 1) (v + (b - 128) * 2 ^ (7 * k)) (drop (k + 1) bytes))
  unfolding step
  opened =
      let n : 5 - k ≡ suc (5 - (k + 1)) = omega arith in
      let l : drop k bytes ≡ b ∷ drop (k + 1) bytes = rw is (drop_more bytes k 0 there) in
      ap (λ m. groups m k v (drop k bytes)) n ∙ ap (λ bs. groups (suc (5 - (k + 1))) k v bs) l

  -- the last byte of a number that is not in its shortest form
  pub padded : b ≡ 0 → 0 < k → groups (5 - k) k v (drop k bytes) ≡ numeral bytes → long ≡ numeral bytes
  unfolding step
  padded z p inv =
      let more : Number = groups (5 - (k + 1)) (k + 1) (v + (b - 128) * 2 ^ (7 * k)) (drop (k + 1) bytes) in
      let h : step k v b more ≡ long = grind (arith, nat_tests) in
      sym h ∙ sym opened ∙ inv

  shifted : (a : ℕ) → a ≤ b → a < 128 → (a * 2 ^ (7 * k)) % 2 ^ 32 ≡ a * 2 ^ (7 * k)
  shifted a le h =
      elim (eqb_tells k 4) [
        | inl t ↦ let small : b < 16 = short t.1 in shl_whole a 4 (7 * k) 32 (omega arith) (omega arith)
        | inr f ↦ let ne : k ≢ 4 = f.1 in shl_whole a 7 (7 * k) 32 h (omega arith)
      ]

  -- the last byte
  pub ended :
      (x : ℕ) → x ≡ b → b < 128 → (b ≡ 0 → k ≡ 0) → groups (5 - k) k v (drop k bytes) ≡ numeral bytes
      → value (v + (x * 2 ^ (7 * k)) % 2 ^ 32) (k + 1) ≡ numeral bytes
  unfolding step
  ended x e low lead inv =
      let more : Number = groups (5 - (k + 1)) (k + 1) (v + (b - 128) * 2 ^ (7 * k)) (drop (k + 1) bytes) in
      let h : step k v b more ≡ value (v + b * 2 ^ (7 * k)) (k + 1) = grind (arith, nat_tests) in
      let leq : b ≤ b = omega arith in
      ap (λ y. value (v + (y * 2 ^ (7 * k)) % 2 ^ 32) (k + 1)) e ∙ ap (λ n. value (v + n) (k + 1)) (shifted b leq low) ∙ sym h ∙ sym opened ∙ inv

  -- a byte that is not the last
  pub goes_on :
      (x : ℕ) → x ≡ b - 128 → 128 ≤ b → b < 256 → v < 2 ^ (7 * k) → groups (5 - k) k v (drop k bytes) ≡ numeral bytes
      → (k + 1 < 5) × (v + (x * 2 ^ (7 * k)) % 2 ^ 32 < 2 ^ (7 * (k + 1)))
      × (groups (5 - (k + 1)) (k + 1) (v + (x * 2 ^ (7 * k)) % 2 ^ 32) (drop (k + 1) bytes) ≡ numeral bytes)
  unfolding step
  goes_on x e high byte small inv =
      let next : ℕ → Number = λ w. groups (5 - (k + 1)) (k + 1) w (drop (k + 1) bytes) in
      let more : Number = next (v + (b - 128) * 2 ^ (7 * k)) in
      let h : step k v b more ≡ more = grind (arith, nat_tests) in
      let s : (x * 2 ^ (7 * k)) % 2 ^ 32 ≡ (b - 128) * 2 ^ (7 * k) = rw e (shifted (b - 128) (omega arith) (omega arith)) in (
        elim (eqb_tells k 4) [
          | inl t ↦ let low = short t.1 in absurd (omega arith)
          | inr f ↦ let ne : k ≢ 4 = f.1 in omega arith
        ],
        rw s (omega (arith, pow-add 2 7 (7 * k), mul_top (b - 128) (2 ^ (7 * k)) (omega arith), ap (λ n. 2 ^ n) (times k))),
        ap (λ n. next (v + n)) s ∙ sym h ∙ sym opened ∙ inv,
      )
    where
      times : (k : ℕ) → 7 * (k + 1) ≡ 7 + 7 * k
      times k = omega arith

      mul_top : (a p : ℕ) → a < 128 → a * p + p ≤ 128 * p
      mul_top a p h = omega (arith, mul-le (a + 1) p 128 p (omega arith) (omega arith), add-mul a 1 p)
