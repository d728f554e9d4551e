-- What the steps of a reader do to the bytes that are left.
use Rattle.std.proofs.Common.{◌≡◌, ℕ, ◌+◌, ◌-◌, ◌<◌, ◌≤◌, Bool, true, false, cond, ltb, List, length, take, drop, Ok, Err, Result, sym, refl, ap, ◌∙◌, arith}
use Rattle.std.proofs.lemmas.List.{length-drop, drop-drop}
use Rattle.std.proofs.lemmas.Bool.Decides.{nat_tests}
use Rattle.meaning.specs.Items.{Entry, BatchFault as Fault, Rest, Read, refused, skip, exactly, carry, first, byte}

-- the rest of a file from a byte on
abbrev pub from : List ℕ → ℕ → Rest
from bs at = record { bytes = drop at bs; at = at }

pub if_true : {A : Type 0} {b : Bool} (x y : A) → b ≡ true → cond b x y ≡ x
if_true x y e = ap (λ b. cond b x y) e

pub if_false : {A : Type 0} {b : Bool} (x y : A) → b ≡ false → cond b x y ≡ y
if_false x y e = ap (λ b. cond b x y) e

module _ (bs : List ℕ) (at n : ℕ) (e : Entry) where
  -- n bytes further on
  pub skipped : skip n (from bs at) ≡ from bs (at + n)
  skipped = ap (λ l. record { bytes = l; at = at + n }) (drop-drop n at bs)

  pub short : length bs - at < n → ltb (length (drop at bs)) n ≡ true
  short h = let l = length-drop at bs in grind (arith, nat_tests)

  pub enough : n ≤ length bs - at → ltb (length (drop at bs)) n ≡ false
  enough h = let l = length-drop at bs in grind (arith, nat_tests)

  pub exactly-cut : length bs - at < n → refused {X = List ℕ × Rest} 1 at e ≡ exactly e n (from bs at)
  exactly-cut h = sym (if_true _ _ (short h))

  pub exactly_there : n ≤ length bs - at → Ok (take n (drop at bs), from bs (at + n)) ≡ exactly e n (from bs at)
  exactly_there h = ap (λ r. Ok (take n (drop at bs), r)) (sym skipped) ∙ sym (if_false _ _ (enough h))

-- one reading inside another
pub then_then : {X Y Z : Type 0} (F : Y → Read Z) (G : X → Read Y) (m : Result (X × Rest) Fault) → carry F (carry G m) ≡ carry (λ x r. carry F (G x r)) m
then_then F G (Ok (x, r)) = refl
then_then F G (Err e) = refl

tested : (e : Entry) (listed : ℕ → Bool) (m : Result (List ℕ × Rest) Fault)
    → carry (λ c r. cond (listed c) (Ok (c, r)) (refused 3 (r.at - 1) e)) (carry (λ bs r. Ok (first bs, r)) m)
    ≡ carry (λ bs r. cond (listed (first bs)) (Ok (first bs, r)) (refused 3 (r.at - 1) e)) m
tested e listed (Ok (bs, r)) = refl
tested e listed (Err x) = refl

-- a byte that is tested once it is read
pub listed-byte : (e : Entry) (listed : ℕ → Bool) (c : ℕ) (r r1 : Rest) → Ok (c, r1) ≡ byte e (λ _. true) r → listed c ≡ true → Ok (c, r1) ≡ byte e listed r
listed-byte e listed c r r1 does l =
    sym (if_true (Ok (c, r1)) (refused 3 (r1.at - 1) e) l)
    ∙ ap (carry (λ c r. cond (listed c) (Ok (c, r)) (refused 3 (r.at - 1) e))) does ∙ tested e listed (exactly e 1 r)
