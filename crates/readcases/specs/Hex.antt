-- What hex digits stand for.
use Rattle.std.specs.Prelude.{◌≡◌, ℕ, List, [], ◌∷◌, ◌+◌, ◌*◌, ◌<◌, ◌≤◌, ◌⊎◌, ⊤}

-- the character c is the digit of the value d: `0` to `9` are 48 to 57, and `a` to `f` are 97 to 102
abbrev pub IsDigit : ℕ → ℕ → Type 0
IsDigit c d = ((d < 10) × (c ≡ 48 + d)) ⊎ ((10 ≤ d) × (d < 16) × (c ≡ 87 + d))

-- two digits are the byte b
abbrev pub IsByte : ℕ → ℕ → ℕ → Type 0
IsByte high low b = (h : ℕ) × (l : ℕ) × IsDigit high h × IsDigit low l × (b ≡ 16 * h + l)

-- the text has two digits for each of the bytes, and no more
abbrev pub IsHex : List ℕ → List ℕ → Type 0
IsHex [] [] = ⊤
IsHex (high ∷ low ∷ text) (b ∷ bytes) = IsByte high low b × IsHex text bytes
IsHex _ _ = ⊥
