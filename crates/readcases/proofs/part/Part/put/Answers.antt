use Rattle.std.proofs.Common.{◌≡◌, ℕ, suc, zero, List, ◌++◌, ap, sym, ◌∙◌, append-nil, append_assoc, add-one, arith}
use Rattle.std.proofs.lemmas.Grind.{common_steps}
use Rattle.std.specs.List.{repeat}
use Rattle.readcases.proofs.part.Part.put.Goals as goal

repeat_more : (n : ℕ) (xs : List ℕ) → repeat (suc n) xs ≡ repeat n xs ++ xs
repeat_more zero xs = append-nil xs
repeat_more (suc n) xs = ap (λ l. xs ++ l) (repeat_more n xs) ∙ sym (append_assoc xs (repeat n xs) xs)

pub loop-n-preserved : goal.loop-n-preserved
loop-n-preserved c = rw (add-one, repeat_more c.loop-n._n c.args.self.now.unit.items) (grind (arith, common_steps))
