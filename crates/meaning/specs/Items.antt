-- The items of a batch file, and how reading one is refused.
use Rattle.std.specs.Prelude.{ℕ, zero, suc, ◌+◌, ◌-◌, ◌*◌, ◌^◌, Bool, cond, ◌&&◌, leb, List, [], ◌∷◌, length, take, drop, ℤ, pos, negsuc, Ok, Err, Result, ◌==◌, nat_le, nat_lt}

-- what holds a byte: the file's own numbers, a field or a column
pub data Entry : Type 0 where
  head : Entry
  field : ℕ → Entry
  column : ℕ → Entry

-- the refusal of a file: its number, the byte at which the item begins, and the entry whose item it is
pub record BatchFault : Type 0 where
  pub number : ℕ
  pub byte : ℕ
  pub entry : Entry

-- the bytes that are left, and how many came before them
pub record Rest : Type 0 where
  pub bytes : List ℕ
  pub at : ℕ

-- refusal n at byte b in entry e
abbrev pub refused : {X : Type 0} → ℕ → ℕ → Entry → Result X BatchFault
refused n b e = Err (record { number = n; byte = b; entry = e })

-- what is left after n bytes
abbrev pub skip : ℕ → Rest → Rest
skip n r = record { bytes = drop n r.bytes; at = r.at + n }

-- a reader of X: what it read and what is left, or a refusal
abbrev pub Read : Type 0 → Type 0
Read X = Rest → Result (X × Rest) BatchFault

-- what goes on with a result; a refusal ends it
abbrev pub carry : {X Y : Type 0} → (X → Read Y) → Result (X × Rest) BatchFault → Result (Y × Rest) BatchFault
carry f (Ok (x, r)) = f x r
carry f (Err e) = Err e

-- one after the other, up to the first refusal
infixl 1 ◌then◌
abbrev pub ◌then◌ : {X Y : Type 0} → Read X → (X → Read Y) → Read Y
(m then f) r = carry f (m r)

-- a reader that reads nothing and gives x
abbrev pub give : {X : Type 0} → X → Read X
give x r = Ok (x, r)

-- n bytes as one item; refusal 1 where the file ends before
abbrev pub exactly : Entry → ℕ → Read (List ℕ)
exactly e n r = cond (nat_lt (length r.bytes) n) (refused 1 r.at e) (Ok (take n r.bytes, skip n r))

-- the first byte
abbrev pub first : List ℕ → ℕ
first [] = 0
first (b ∷ bs) = b

-- a byte that is listed; refusal 3 for another
abbrev pub byte : Entry → (ℕ → Bool) → Read ℕ
byte e listed = exactly e 1 then (λ bs r. cond (listed (first bs)) (Ok (first bs, r)) (refused 3 (r.at - 1) e))

-- a flag byte: 0 or 1
abbrev pub flag : Entry → Read Bool
flag e = byte e (λ b. leb b 1) then (λ b. give (b == 1))

-- a number at the front of bytes: its value and how many bytes it has; or cut off (refusal 1); or too long (refusal 2)
pub data Number : Type 0 where
  value : ℕ → ℕ → Number
  cut : Number
  long : Number

-- groups of seven bits, lowest first, bit 7 set on every byte but the last: at most five bytes, the fifth below 16, and no last byte 0 after another.
-- So many groups may come, the next is group k, and the value of those before it is v
abbrev pub groups : ℕ → ℕ → ℕ → List ℕ → Number
groups zero k v bs = long
groups (suc left) k v [] = cut
groups (suc left) k v (b ∷ bs) =
    cond (k == 4 && nat_le 16 b) long
    (cond (nat_le 128 b) (groups left (k + 1) (v + (b - 128) * 2 ^ (7 * k)) bs)
    (cond (b == 0 && nat_le 1 k) long (value (v + b * 2 ^ (7 * k)) (k + 1))))

-- a number, from its first group on
abbrev pub numeral : List ℕ → Number
numeral bs = groups 5 0 0 bs

-- a number as an item
abbrev pub counted : Entry → Rest → Number → Result (ℕ × Rest) BatchFault
counted e r (value v n) = Ok (v, skip n r)
counted e r cut = refused 1 r.at e
counted e r long = refused 2 r.at e

-- reading a number
abbrev pub number : Entry → Read ℕ
number e r = counted e r (numeral r.bytes)

-- a number with a limit; refusal 4 past it
abbrev pub limited : Entry → ℕ → Read ℕ
limited e most r = carry (λ v r'. cond (nat_le v most) (Ok (v, r')) (refused 4 r.at e)) (number e r)

-- a name or an id text, at most 255 bytes: its number and its bytes are one item, and a cut (1) comes before the limit (4)
abbrev pub text : Entry → Read (List ℕ)
text e r =
    carry (λ n r'. cond (nat_lt (length r'.bytes) n) (refused 1 r.at e) (cond (nat_le n 255) (Ok (take n r'.bytes, skip n r')) (refused 4 r.at e))) (number e r)

-- the number that bytes stand for, low byte first
abbrev pub little : List ℕ → ℕ
little [] = 0
little (b ∷ bs) = b + 256 * little bs

-- the signed number of w bytes that is stored as n (two's complement); `negsuc n` is -1 - n
abbrev pub signed : ℕ → ℕ → ℤ
signed w n = cond (nat_lt n (2 ^ (8 * w - 1))) (pos n) (negsuc (2 ^ (8 * w) - n - 1))
