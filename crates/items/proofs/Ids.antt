-- A field's id: the four bytes as the code puts them together.
use Rattle.std.proofs.Common.{◌≡◌, ℕ, suc, ◌+◌, ◌-◌, ◌*◌, ◌≤◌, Bool, true, false, cond, ltb, List, [], ◌∷◌, length, get_or, take, drop, ℤ, pos, negsuc, Ok, sym, refl, ap, ◌∙◌, arith, w32, to_z}
use mir.Val.{sel}
use Rattle.std.specs.Array.{IsFirstChunk}
use Rattle.std.proofs.lemmas.List.{length-drop, length-take-le, take_rest}
use Rattle.meaning.specs.Items.{Entry, carry, give, little, signed}
use Rattle.items.specs.Reading.{id_from}
use Rattle.items.proofs.Taken.{from, exactly_there}

chosen : (b : Bool) (x y : ℤ) → sel b x y ≡ cond b x y
chosen true x y = refl
chosen false x y = refl

-- what the logic takes for a signed number of 32 bits is what the definitions do
signed_is : (n : ℕ) → to_z w32 n ≡ signed 4 n
signed_is n =
    let m : 4294967296 - suc n ≡ 4294967296 - n - 1 = omega arith in
    chosen (ltb n 2147483648) (pos n) (negsuc (4294967296 - suc n)) ∙ ap (λ k. cond (ltb n 2147483648) (pos n) (negsuc k)) m

-- four bytes as one number
four : (ys : List ℕ) → length ys ≡ 4 → little ys ≡ get_or ys 0 0 + get_or ys 1 0 * 256 + get_or ys 2 0 * 65536 + get_or ys 3 0 * 16777216
four [] h = absurd (omega arith)
four (a ∷ []) h = absurd (omega arith)
four (a ∷ b ∷ []) h = absurd (omega arith)
four (a ∷ b ∷ c ∷ []) h = absurd (omega arith)
four (a ∷ b ∷ c ∷ d ∷ []) h = omega arith
four (a ∷ b ∷ c ∷ d ∷ e ∷ ys) h = absurd (omega arith)

pub id-there :
    (bs ys : List ℕ) (at : ℕ) (e : Entry) (z : ℤ) → IsFirstChunk (take (length bs - at) (drop at bs)) ys 4
    → z ≡ to_z w32 (get_or ys 0 0 + get_or ys 1 0 * 256 + get_or ys 2 0 * 65536 + get_or ys 3 0 * 16777216) → Ok (z, from bs (at + 4)) ≡ id_from e (from bs at)
id-there bs ys at e z h is =
    let left = take_rest bs at in
    let fits : 4 ≤ length bs - at = omega (arith, h.enough, ap length left, length-drop at bs) in
    let k : ys ≡ take 4 (drop at bs) = h.same ∙ ap (take 4) left in
    let n : length ys ≡ 4 = ap length k ∙ length-take-le 4 (drop at bs) (omega (arith, length-drop at bs)) in
    let w : z ≡ signed 4 (little ys) = is ∙ ap (λ n. to_z w32 n) (sym (four ys n)) ∙ signed_is (little ys) in
    ap (λ y. Ok (y, from bs (at + 4))) (w ∙ ap (λ y. signed 4 (little y)) k) ∙ ap (carry (λ bs. give (signed 4 (little bs)))) (exactly_there bs at 4 e fits)
