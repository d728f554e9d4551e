-- A number's decimal digits are what `{}` writes of it.
use Rattle.std.proofs.Common.{◌≡◌, ℕ, zero, suc, ◌+◌, ◌/◌, ◌%◌, ◌^◌, ◌<◌, cond, ltb, List, [], ◌∷◌, ◌++◌, ℤ, pos, negsuc, decimal as written, ap, ◌∙◌, arith, rules}
use lib.Signed.{mag}
use Rattle.std.specs.Fmt.{signed_decimal}
use Rattle.std.proofs.lemmas.Fmt.{AppendsLastDigit, decimal_from_appends, length-decimal-le}
use Rattle.meaning.specs.Text.{decimal, integer}

-- the last k digits, as `decimal` takes 40 of them
abbrev tens : ℕ → ℕ → List ℕ
tens zero n = []
tens (suc k) n = cond (ltb n 10) ((48 + n) ∷ []) (tens k (n / 10) ++ ((48 + n % 10) ∷ []))

spells : AppendsLastDigit tens
spells = search rules

tens-written : (k n : ℕ) → n < 2 ^ 64 → 20 < k → tens k n ≡ written n
tens-written k n small some = decimal_from_appends tens spells k n small (omega (arith, length-decimal-le 20 n (omega arith) (omega arith) small))

pub decimal-written : (n : ℕ) → n < 2 ^ 64 → decimal n ≡ written n
decimal-written n small = tens-written 40 n small (omega arith)

pub integer-written : (z : ℤ) → mag z < 2 ^ 63 → integer z ≡ signed_decimal z
integer-written (pos n) small = decimal-written n (omega arith)
integer-written (negsuc n) small = ap (λ (ds : List ℕ). 45 ∷ ds) (decimal-written (n + 1) (omega arith) ∙ ap written (omega arith))
