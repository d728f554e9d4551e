-- Offsets one after the other, as chunks of the bytes that hold them, against the definition `past`.
use Rattle.std.proofs.Common.{◌≡◌, ℕ, zero, suc, ◌+◌, ◌-◌, ◌*◌, ◌<◌, ◌≤◌, true, false, cond, ltb, leb, List, length, take, drop, Some, None, Option, sym, refl, ap, ◌∙◌, subst, mul-suc, mul-zero, arith}
use Rattle.std.proofs.lemmas.Bool.Decides.{nat_tests}
use Rattle.std.proofs.lemmas.List.{drop-drop, drop-take, take-take}
use Rattle.std.specs.List.{IsSubsliceAt, slice_range}
use Rattle.std.specs.Option.{IfSome, IsSomeAnd, option_map}
use denote.Ref.{Bor}
use Rattle.meaning.specs.Items.{little}
use Rattle.meaning.specs.Columns.{past}
use Rattle.items.specs.Cuts.{placed}
use Rattle.items.specs.Widths.{wide}
use Rattle.items.specs.declared.width.Width.{Width}
use Rattle.items.specs.declared.width.Width.TheVariants.{Four, Eight}
use Rattle.items.proofs.Taken.{if_true, if_false}

pub some : (w : Width) → 0 < wide w
some Four = omega arith
some Eight = omega arith

-- the test that all offsets stand in the file
pub tested : {A : Type 0} (bs : List ℕ) (k : ℕ) (x y : A) → k ≤ length bs → cond (leb k (length bs)) x y ≡ x
tested bs k x y h = let t : leb k (length bs) ≡ true = grind (arith, nat_tests) in if_true x y t

-- the number that stands at place k
abbrev pub word : List ℕ → ℕ → ℕ → ℕ → ℕ
word bs w start k = little (take w (drop (start + w * k) bs))

module _ (bs : List ℕ) (w limit : ℕ) where
  first : (start : ℕ) → word bs w start 0 ≡ little (take w (drop start bs))
  first start = let e : start + w * 0 ≡ start = omega (arith, mul-zero w) in ap (λ p. little (take w (drop p bs))) e

  next : (start k : ℕ) → word bs w start (k + 1) ≡ word bs w (start + w) k
  next start k =
      let s : k + 1 ≡ suc k = omega arith in
      let e : start + w * (k + 1) ≡ start + w + w * k = omega (arith, ap (λ k. w * k) s, mul-suc w k) in
      ap (λ p. little (take w (drop p bs))) e

  -- none is past the limit
  pub past_none : (count start : ℕ) → ((k : ℕ) → k < count → word bs w start k ≤ limit) → past (placed w bs start count) limit ≡ None
  past_none zero start h = refl
  past_none (suc c) start h =
      let low = h 0 (omega arith) in
      let e = first start in
      let t : ltb limit (little (take w (drop start bs))) ≡ false = grind (arith, nat_tests) in
      if_false _ _ t ∙ past_none c (start + w) (λ k l. subst (λ v. v ≤ limit) (next start k) (h (k + 1) (omega arith)))

  -- the first past the limit is the one at place i
  pub past_first : (count i start : ℕ) → i < count → ((k : ℕ) → k < i → word bs w start k ≤ limit) → limit < word bs w start i → past (placed w bs start count) limit ≡ Some (start + w * i)
  past_first zero i start l h high = absurd (omega arith)
  past_first (suc c) zero start l h high =
      let e = first start in
      let t : ltb limit (little (take w (drop start bs))) ≡ true = grind (arith, nat_tests) in
      let z : start ≡ start + w * 0 = omega (arith, mul-zero w) in
      if_true _ _ t ∙ ap Some z
  past_first (suc c) (suc i) start l h high =
      let low = h 0 (omega arith) in
      let e = first start in
      let t : ltb limit (little (take w (drop start bs))) ≡ false = grind (arith, nat_tests) in
      let s : i + 1 ≡ suc i = omega arith in
      let z : start + w + w * i ≡ start + w * suc i = omega (arith, mul-suc w i) in
      if_false _ _ t
      ∙ past_first c i (start + w) (omega arith) (λ k l. subst (λ v. v ≤ limit) (next start k) (h (k + 1) (omega arith)))
      (subst (λ v. limit < v) (ap (λ i. word bs w start i) (sym s) ∙ next start i) high) ∙ ap Some z

-- a chunk of the bytes from `start` to `end` is the number at its place
chunk : (bs : List ℕ) (w start end k : ℕ) (y : List ℕ) → k * w + w ≤ end - start → y ≡ take w (drop (k * w) (slice_range bs start end)) → little y ≡ word bs w start k
chunk bs w start end k y fits is =
    let m = end - start - k * w in
    let n : end - start ≡ k * w + m = omega arith in
    let p : start + k * w ≡ start + w * k = omega arith in
    ap little (is ∙ ap (λ n. take w (drop (k * w) (take n (drop start bs)))) n ∙ ap (take w) (drop-take (k * w) m (drop start bs)) ∙ take-take w m (drop (k * w) (drop start bs)) (omega arith)
    ∙ ap (take w) (drop-drop (k * w) start bs) ∙ ap (λ p. take w (drop p bs)) p)

module _ {X : Type 0} where
  pub weaker : (o : Option X) (Q : X → Type 0) {P : X → Type 0} → IsSomeAnd o P → ((x : X) → P x → Q x) → IsSomeAnd o Q
  weaker None Q n f = absurd n
  weaker (Some x) Q y f = f x y

  -- a place below the length of a run has an item
  pub there : (o : Option X) (d : X) (P : X → Type 0) → option_map (λ y. y) o ≡ Some d → IfSome o P → IsSomeAnd o P
  there None d P e f = absurd (let z : ◌≡◌ {A = ℕ} 0 1 = cc in omega arith)
  there (Some x) d P e f = f

-- what a run over the chunks has at each place
abbrev pub Chunked : List ℕ → ℕ → (ℕ → Option (Bor (List ℕ))) → Type 0
Chunked part w at = (k : ℕ) → IfSome (at k) (λ x. (length x.now ≡ w) × (k * w + w ≤ length part) × IsSubsliceAt w part (k * w) x.now)

-- a fact of the number in a chunk that is there
pub seen : (P : ℕ → Type 0) (bs : List ℕ) (w start end k : ℕ) (at : ℕ → Option (Bor (List ℕ))) → Chunked (slice_range bs start end) w at → length (slice_range bs start end) + start ≡ end
    → IsSomeAnd (at k) (λ x. P (little x.now)) → P (word bs w start k)
seen P bs w start end k at chunks long there = pick (at k) there (chunks k)
  where
    pick : (o : Option (Bor (List ℕ))) → IsSomeAnd o (λ x. P (little x.now))
        → IfSome o (λ x. (length x.now ≡ w) × (k * w + w ≤ length (slice_range bs start end)) × IsSubsliceAt w (slice_range bs start end) (k * w) x.now) → P (word bs w start k)
    pick None n f = absurd n
    pick (Some x) y f = subst P (chunk bs w start end k x.now (omega (arith, f.1)) f.2.0) y
