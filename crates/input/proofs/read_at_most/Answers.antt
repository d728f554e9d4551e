use Rattle.std.proofs.Common.{ℕ, ◌+◌, ◌≤◌, List, ◌++◌, Option, Result, Ok, Err, OnErr, arith, length}
use Rattle.std.proofs.lemmas.Grind.{common_steps}
use Rattle.std.specs.Io.KnownBytes.{Consumes}
use Rattle.std.proofs.KnownBytes.{Consumes-trans}
use Rattle.input.proofs.read_at_most.Goals as goal

-- the bytes of two reads, one after the other, are gone where the second cannot be kept
lost : {A E : Type 0} (r : Result A E) (a b c : Option (List ℕ)) (xs ys : List ℕ) (n : ℕ) → Consumes a b xs → Consumes b c ys → length xs + length ys ≤ n
    → OnErr r ((bs : List ℕ) × (length bs ≤ n) × Consumes a c bs)
lost (Ok _) a b c xs ys n p q h = tt
lost (Err _) a b c xs ys n p q h = (xs ++ ys, grind (arith, common_steps), Consumes-trans _ _ _ _ _ p q)

pub returns-in_err-extend_from_slice-in-Ok-clause-err : goal.returns-in_err-extend_from_slice-in-Ok-clause-err
returns-in_err-extend_from_slice-in-Ok-clause-err g c = lost _ _ _ _ _ _ _ c.loop.invariant.1 c.in-Ok.ensures.bytes.0 (grind (arith, common_steps))
