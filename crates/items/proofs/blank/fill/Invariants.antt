use Rattle.std.proofs.Common.{◌≡◌, take, replicate}
use Rattle.items.proofs.blank.fill.Given as goal

-- what is passed is written
abbrev pub invariant-loop-item : goal.invariant-loop-item
invariant-loop-item g l = take l.item-index l.items ≡ replicate l.item-index l.x
