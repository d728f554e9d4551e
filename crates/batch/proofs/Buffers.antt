-- Offsets in a part of the file that holds them all, and in the file.
use Rattle.std.proofs.Common.{◌≡◌, ℕ, zero, suc, ◌+◌, ◌-◌, ◌*◌, ◌/◌, ◌≤◌, List, ◌∷◌, length, take, drop, sym, refl, ap, ◌∙◌, mul-suc, arith}
use Rattle.std.proofs.lemmas.List.{drop-drop, drop-take, length-drop, length-take-le, take-take}
use Rattle.meaning.specs.Columns.{values}
use Rattle.meaning.specs.Items.{little}
use Rattle.items.specs.Cuts.{placed}
use Rattle.items.specs.Widths.{wide}
use Rattle.items.specs.declared.width.Width.{Width}
use Rattle.items.specs.declared.width.Width.TheVariants.{Four, Eight}

module _ (w : ℕ) (file : List ℕ) (start count : ℕ) where
  -- the bytes of all offsets
  abbrev cut : List ℕ
  cut = take (w * count) (drop start file)

  one : (at : ℕ) → at + w ≤ w * count → take w (drop at cut) ≡ take w (drop (start + at) file)
  one at h =
      let n : w * count ≡ at + (w * count - at) = omega arith in
      ap (λ k. take w (drop at (take k (drop start file)))) n ∙ ap (take w) (drop-take at (w * count - at) (drop start file)) ∙ take-take w (w * count - at) (drop at (drop start file)) (omega arith)
      ∙ ap (take w) (drop-drop at start file)

  same : (at k : ℕ) → at + w * k ≤ w * count → values (placed w cut at k) ≡ values (placed w file (start + at) k)
  same at zero h = refl
  same at (suc k) h =
      let e : start + at + w ≡ start + (at + w) = omega arith in
      λ i. little (one at (omega (arith, mul-suc w k)) i) ∷ (same (at + w) k (omega (arith, mul-suc w k)) ∙ ap (λ a. values (placed w file a k)) (sym e)) i

  pub buffered : start + w * count ≤ length file → ((k : ℕ) → w * k / w ≡ k) → (bs : List ℕ) → bs ≡ cut → values (placed w bs 0 (length bs / w)) ≡ values (placed w file start count)
  buffered h whole bs is =
      let l = length-drop start file in
      let n : length cut ≡ w * count = length-take-le (w * count) (drop start file) (omega arith) in
      let z : start + 0 ≡ start = omega arith in
      ap (λ b. values (placed w b 0 (length b / w))) is ∙ ap (λ k. values (placed w cut 0 (k / w))) n ∙ ap (λ k. values (placed w cut 0 k)) (whole count)
      ∙ same 0 count (omega arith) ∙ ap (λ a. values (placed w file a count)) z

quarter : (k : ℕ) → 4 * k / 4 ≡ k
quarter k = omega arith

eighth : (k : ℕ) → 8 * k / 8 ≡ k
eighth k = omega arith

-- the same by the width of the code
pub seen : (width : Width) (file : List ℕ) (start count k : ℕ) (bs : List ℕ) → k ≡ wide width → start + wide width * count ≤ length file → bs ≡ take (k * count) (drop start file)
    → values (placed (wide width) bs 0 (length bs / wide width)) ≡ values (placed (wide width) file start count)
seen Four file start count k bs e h is = buffered 4 file start count h quarter bs (is ∙ ap (λ n. take (n * count) (drop start file)) e)
seen Eight file start count k bs e h is = buffered 8 file start count h eighth bs (is ∙ ap (λ n. take (n * count) (drop start file)) e)

length-values : (w : ℕ) (bytes : List ℕ) (at k : ℕ) → length (values (placed w bytes at k)) ≡ k
length-values w bytes at zero = refl
length-values w bytes at (suc k) = omega (arith, length-values w bytes (at + w) k)

-- a buffer has as many bytes as its offsets need
pub whole : (width : Width) (file : List ℕ) (start count k : ℕ) (bs : List ℕ) → k ≡ wide width → start + wide width * count ≤ length file → bs ≡ take (k * count) (drop start file)
    → length bs ≡ wide width * length (values (placed (wide width) bs 0 (length bs / wide width)))
whole width file start count k bs e h is =
    let n : length bs ≡ wide width * count =
    ap length is ∙ ap (λ k. length (take (k * count) (drop start file))) e ∙ length-take-le (wide width * count) (drop start file) (omega (arith, length-drop start file))
    in
    let v = seen width file start count k bs e h is in
    n ∙ ap (λ c. wide width * c) (sym (ap length v ∙ length-values (wide width) file start count))
