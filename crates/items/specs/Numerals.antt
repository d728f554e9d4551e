-- What the code's answer about a number says in the words of the definitions.
use Rattle.std.specs.Prelude.{ℕ, Ok, Err, Result}
use Rattle.meaning.specs.Items as items
use Rattle.fault.specs.declared.refusal.Refusal.{Refusal}
use Rattle.fault.specs.declared.refusal.Refusal.TheVariants as refusal
use Rattle.items.specs.declared.numeral.NoNumber.{NoNumber}
use Rattle.items.specs.declared.numeral.NoNumber.TheVariants.{Cut, Long}

-- a value with the number of its bytes, or why there is none
abbrev pub meant : Result (ℕ × ℕ) NoNumber → items.Number
meant (Ok (v, n)) = items.value v n
meant (Err Cut) = items.cut
meant (Err Long) = items.long

-- the refusal that this is
abbrev pub reason : NoNumber → Refusal
reason Cut = refusal.Cut
reason Long = refusal.LongNumber
