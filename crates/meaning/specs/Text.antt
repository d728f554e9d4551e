-- The text of numbers, of bytes and of faults, as bytes of ASCII.
use Rattle.std.specs.Prelude.{ℕ, zero, suc, ◌+◌, ◌/◌, ◌%◌, cond, List, [], ◌∷◌, ◌++◌, ℤ, pos, negsuc, codes, nat_lt}
use Rattle.meaning.specs.Items.{Entry, head, field, column, BatchFault}
use Rattle.meaning.specs.Access.{StepFault}

-- the last k decimal digits of a number, without leading zeros
abbrev tens : ℕ → ℕ → List ℕ
tens zero n = []
tens (suc k) n = cond (nat_lt n 10) ((48 + n) ∷ []) (tens k (n / 10) ++ ((48 + n % 10) ∷ []))

-- a number in decimal digits; none here has more than 40
abbrev pub decimal : ℕ → List ℕ
decimal n = tens 40 n

-- a whole number, with a minus sign below 0
abbrev pub integer : ℤ → List ℕ
integer (pos n) = decimal n
integer (negsuc n) = 45 ∷ decimal (n + 1)

-- the character of a hex digit: 0 to 9, then a to f
abbrev digit : ℕ → ℕ
digit d = cond (nat_lt d 10) (48 + d) (87 + d)

-- the last k hex digits of a number, leading zeros included
abbrev pub hex : ℕ → ℕ → List ℕ
hex zero n = []
hex (suc k) n = hex k (n / 16) ++ (digit (n % 16) ∷ [])

-- two hex digits a byte
abbrev pub bytes : List ℕ → List ℕ
bytes [] = []
bytes (b ∷ bs) = hex 2 b ++ bytes bs

-- the entry of a batch fault
abbrev pub entry_text : Entry → List ℕ
entry_text head = codes "head 0"
entry_text (field n) = codes "field " ++ decimal n
entry_text (column n) = codes "column " ++ decimal n

-- the line of a refused file
abbrev pub batch_fault_line : BatchFault → List ℕ
batch_fault_line f = codes "refused " ++ decimal f.number ++ codes " byte " ++ decimal f.byte ++ codes " " ++ entry_text f.entry

-- the line of a refused step
abbrev pub step_fault_line : StepFault → List ℕ
step_fault_line f = codes "refused " ++ decimal f.number ++ codes " field " ++ decimal f.field ++ codes " column " ++ decimal f.column
