-- How many slots are null, slot by slot.
use Rattle.std.proofs.Common.{◌≡◌, ℕ, zero, suc, ◌+◌, ◌*◌, ◌/◌, ◌%◌, ◌^◌, ◌<◌, ◌≤◌, Bool, true, false, cond, not, ◌&&◌, ◌==◌, ltb, List, [], ◌∷◌, map, length, take, get_or, Some, None, sym, refl, ap, ◌∙◌, subst, arith, ◌-◌}
use Rattle.std.proofs.Math.Bool.{and-false}
use lib.Count.{ones_step}
use Rattle.std.specs.Int.RustNames.{count_ones}
use Rattle.std.specs.List.{range_with_len, sum_by}
use Rattle.std.proofs.lemmas.Nat.{ones_le_self, shr-shr}
use Rattle.std.proofs.lemmas.Bool.Decides.{nat_tests}
use Rattle.std.proofs.lemmas.List.{take_more, take_all}
use Rattle.std.proofs.lemmas.List.Sums.{sum_by_push}
use Rattle.std.proofs.lemmas.List.Recursion.{is_sum_by}
use Rattle.meaning.specs.Model.{Column}
use Rattle.meaning.specs.Slots.{bit, null, unset}
use Rattle.meaning.specs.Lists.{tally, upto}
use Rattle.info.specs.Lines.{nulls, unset_in, unset_from}

at_most_one : (b : Bool) → cond b 1 0 ≤ 1
at_most_one true = omega arith
at_most_one false = omega arith

tally-map : (f : ℕ → Bool) (xs : List ℕ) → tally f (map suc xs) ≡ tally (λ i. f (suc i)) xs
tally-map f [] = refl
tally-map f (x ∷ xs) = ap (λ (k : ℕ). cond (f (suc x)) 1 0 + k) (tally-map f xs)

tally-none : (f : ℕ → Bool) (xs : List ℕ) → ((i : ℕ) → f i ≡ false) → tally f xs ≡ 0
tally-none f [] h = refl
tally-none f (x ∷ xs) h = λ i. cond (h x i) 1 0 + tally-none f xs h i

-- a column without validity bits has no null
pub none-null : (x : Column) → x.validity ≡ None → nulls x ≡ 0
none-null x e = tally-none (null x) (upto x.len) (λ i. rw e (and-false (ltb i x.len)))

-- the first n numbers, and how many of them pass
first_step : (f : ℕ → Bool) (n : ℕ) → tally f (upto (suc n)) ≡ cond (f 0) 1 0 + tally (λ i. f (suc i)) (upto n)
first_step f n = ap (λ (k : ℕ). cond (f 0) 1 0 + k) (tally-map f (upto n))

tally-same : (f g : ℕ → Bool) (n : ℕ) → ((i : ℕ) → i < n → f i ≡ g i) → tally f (upto n) ≡ tally g (upto n)
tally-same f g zero h = refl
tally-same f g (suc n) h =
    first_step f n ∙ (λ i. cond (h 0 (omega arith) i) 1 0 + tally-same (λ i. f (suc i)) (λ i. g (suc i)) n (λ i l. h (suc i) (omega arith)) i) ∙ sym (first_step g n)

tally-bound : (f : ℕ → Bool) (n : ℕ) → tally f (upto n) ≤ n
tally-bound f zero = omega arith
tally-bound f (suc n) = let rest = tally-bound (λ i. f (suc i)) n in let one = at_most_one (f 0) in let s = first_step f n in omega arith

-- m numbers and then n more
tally-parts : (f : ℕ → Bool) (m n : ℕ) → tally f (upto (m + n)) ≡ tally f (upto m) + tally (λ i. f (m + i)) (upto n)
tally-parts f zero n =
    let none : tally f (upto 0) ≡ 0 = refl in
    let all : 0 + n ≡ n = omega arith in
    let same = tally-same f (λ i. f (0 + i)) n (λ i l. ap f (omega arith)) in
    ap (λ (k : ℕ). tally f (upto k)) all ∙ omega (arith, none, same)
tally-parts f (suc m) n =
    let a = first_step f (m + n) in
    let b = first_step f m in
    let c = tally-parts (λ i. f (suc i)) m n in
    let d : tally (λ i. f (suc (m + i))) (upto n) ≡ tally (λ i. f (suc m + i)) (upto n) = tally-same _ _ n (λ i l. ap f (omega arith)) in
    let e : suc m + n ≡ suc (m + n) = omega arith in
    ap (λ (k : ℕ). tally f (upto k)) e ∙ omega (arith, a, b, c, d)

-- 1 for each number from a on that passes
pub sum_passing : (p : ℕ → Bool) (a n : ℕ) → sum_by (λ i. cond (p i) 1 0) (range_with_len a n) ≡ tally (λ i. p (a + i)) (upto n)
sum_passing p a n = sym (is_sum_by (tally p) (λ i. cond (p i) 1 0) refl (λ _ _. refl) (range_with_len a n)) ∙ passing a n where
  passing : (a n : ℕ) → tally p (range_with_len a n) ≡ tally (λ i. p (a + i)) (upto n)
  passing a zero = refl
  passing a (suc n) =
      let here : p a ≡ p (a + 0) = ap p (omega arith) in
      let rest = passing (a + 1) n ∙ tally-same (λ i. p (a + 1 + i)) (λ i. p (a + suc i)) n (λ i l. ap p (omega arith)) in
      (λ i. cond (here i) 1 0 + rest i) ∙ sym (first_step (λ i. p (a + i)) n)

pub unset_bound : (bs : List ℕ) (a n : ℕ) → unset_from bs a n ≤ n
unset_bound bs a n = tally-bound (λ i. not (bit bs (a + i))) n

-- a digit of a number, and of what is missing to 255
digit_missing : (x : ℕ) → x < 2 → cond (not (x == 1)) 1 0 + x ≡ 1
digit_missing zero l = refl
digit_missing (suc x) l = let e : x ≡ 0 = omega (arith, l) in subst (λ (y : ℕ). cond (not (suc y == 1)) 1 0 + suc y ≡ 1) (sym e) refl

-- all of d digits are 1
abbrev full : ℕ → ℕ
full zero = 0
full (suc d) = full d * 2 + 1

-- the last digit of a number, where another one is what is missing to all digits
last_missing : (n b m : ℕ) → n + b ≡ m * 2 + 1 → count_ones n ≡ cond (not (b % 2 == 1)) 1 0 + count_ones (n / 2)
last_missing n b m e = let s = ones_step n in let t = digit_missing (b % 2) (omega arith) in omega (arith, e, s, t)

-- the d digits of a number that are 0 are those that are 1 in what is missing to all
ones_missing : (d n b : ℕ) → n + b ≡ full d → count_ones n ≡ tally (λ i. not (b / 2 ^ i % 2 == 1)) (upto d)
ones_missing zero n b e = let f : full 0 ≡ 0 = refl in let z : n ≡ 0 = omega (arith, e, f) in let l = ones_le_self n in omega (arith, z, l)
ones_missing (suc d) n b e =
    let f : ℕ → Bool = λ i. not (b / 2 ^ i % 2 == 1) in
    let one : b / 2 ^ 0 ≡ b = omega arith in
    let here : ◌≡◌ {A = ℕ} (cond (f 0) 1 0) (cond (not (b % 2 == 1)) 1 0) = ap (λ (x : ℕ). cond (not (x % 2 == 1)) 1 0) one in
    let rest = ones_missing d (n / 2) (b / 2) (omega (arith, e)) in
    let next : tally (λ i. not (b / 2 / 2 ^ i % 2 == 1)) (upto d) ≡ tally (λ i. f (suc i)) (upto d) =
    tally-same _ _ d (λ i l. let m : 1 + i ≡ suc i = omega arith in ap (λ (x : ℕ). not (x % 2 == 1)) (shr-shr b 1 i ∙ ap (λ (k : ℕ). b / 2 ^ k) m)) in
    let all = first_step f d in
    omega (arith, last_missing n b (full d) e, here, rest, next, all)

-- the bits of a byte that are 0 are those of its complement that are 1
pub unset_ones : (b : ℕ) → b < 256 → count_ones (255 - b) ≡ unset_in b
unset_ones b small = let f : full 8 ≡ 255 = refl in ones_missing 8 (255 - b) b (omega (arith, small, f))

-- byte by byte is bit by bit
pub unset_bytes : (bs : List ℕ) (k : ℕ) → k ≤ length bs → sum_by unset_in (take k bs) ≡ unset_from bs 0 (8 * k)
unset_bytes bs zero l = let e : 8 * 0 ≡ 0 = omega arith in sym (ap (unset_from bs 0) e)
unset_bytes bs (suc k) l =
    let f : ℕ → Bool = λ i. not (bit bs (0 + i)) in
    let b : ℕ = get_or bs k 0 in
    let front : sum_by unset_in (take (k + 1) bs) ≡ sum_by unset_in (take k bs) + unset_in b = ap (sum_by unset_in) (take_more bs k 0 (omega (arith, l))) ∙ sum_by_push unset_in (take k bs) b in
    let before = unset_bytes bs k (omega (arith, l)) in
    let parts = tally-parts f (8 * k) 8 in
    let last : tally (λ i. f (8 * k + i)) (upto 8) ≡ unset_in b =
    tally-same (λ i. f (8 * k + i)) (λ i. not (b / 2 ^ i % 2 == 1)) 8
    (λ i l.
    let at : (0 + (8 * k + i)) / 8 ≡ k = omega (arith, l) in
    let of : (0 + (8 * k + i)) % 8 ≡ i = omega (arith, l) in
    λ j. not (get_or bs (at j) 0 / 2 ^ of j % 2 == 1)) in
    let e : suc k ≡ k + 1 = omega arith in
    let m : 8 * k + 8 ≡ 8 * suc k = omega arith in
    ap (λ (n : ℕ). sum_by unset_in (take n bs)) e ∙ front ∙ omega (arith, before, parts, last) ∙ ap (unset_from bs 0) m

pub unset_bytes_bound : (bs : List ℕ) → sum_by unset_in bs ≤ 8 * length bs
unset_bytes_bound bs =
    let whole : sum_by unset_in (take (length bs) bs) ≡ sum_by unset_in bs = ap (sum_by unset_in) (take_all (length bs) bs (omega arith)) in
    let e = unset_bytes bs (length bs) (omega arith) in
    let l = unset_bound bs 0 (8 * length bs) in
    omega (arith, whole, e, l)

-- the slots of a column whose bit is not set, in two parts
pub unset_parts : (x : Column) (bs : List ℕ) (k : ℕ) → x.validity ≡ Some bs → 8 * k ≤ x.len → unset_from bs 0 (8 * k) + unset_from bs (8 * k) (x.len - 8 * k) ≡ nulls x
unset_parts x bs k e l =
    let f : ℕ → Bool = λ i. not (bit bs (0 + i)) in
    let n : 8 * k + (x.len - 8 * k) ≡ x.len = omega (arith, l) in
    let parts = tally-parts f (8 * k) (x.len - 8 * k) in
    let rest : tally (λ i. f (8 * k + i)) (upto (x.len - 8 * k)) ≡ unset_from bs (8 * k) (x.len - 8 * k) = tally-same _ _ (x.len - 8 * k) (λ i l. ap (λ (i : ℕ). not (bit bs i)) (omega arith)) in
    let all : tally f (upto x.len) ≡ nulls x =
    tally-same f (null x) x.len (λ i l. let inside : ltb i x.len ≡ true = grind (arith, nat_tests) in let z : 0 + i ≡ i = omega arith in ap (λ (i : ℕ). not (bit bs i)) z ∙ (λ j. sym inside j && unset (sym e j) i)) in
    omega (arith, parts, rest) ∙ ap (λ (m : ℕ). tally f (upto m)) n ∙ all
