-- The ways through one turn, by the lemmas over plain numbers.
use Rattle.std.proofs.Common.{refl, arith}
use Rattle.items.proofs.Groups.{padded, ended, goes_on}
use Rattle.items.proofs.numeral.number_at.Goals as goal

pub returns-then-k-gt0 : goal.returns-then-k-gt0
returns-then-k-gt0 c =
    padded c.args.bytes.now c.loop-k.k c.loop-k.value _ (omega arith) (omega arith) refl (λ e. omega arith) (omega arith) (omega arith) c.loop-k.invariant.2

pub returns-then-b-lt128 : goal.returns-then-b-lt128
returns-then-b-lt128 c =
    ended c.args.bytes.now c.loop-k.k c.loop-k.value _ (omega arith) (omega arith) refl (λ e. omega arith) _ c.from.ensures (omega arith)
    (λ e. omega arith) c.loop-k.invariant.2

pub loop-k-preserved : goal.loop-k-preserved
loop-k-preserved c =
    goes_on c.args.bytes.now c.loop-k.k c.loop-k.value _ (omega arith) (omega arith) refl (λ e. omega arith) _ c.from-in-loop-k.ensures (omega arith)
    (omega (arith, c.type_inv.bytes c.loop-k.k)) (omega arith) c.loop-k.invariant.2
