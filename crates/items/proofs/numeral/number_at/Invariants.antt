use Rattle.std.proofs.Common.{◌≡◌, ◌-◌, ◌*◌, ◌^◌, ◌<◌, drop}
use Rattle.meaning.specs.Items.{groups, numeral}
use Rattle.items.proofs.numeral.number_at.Given as goal

-- k bytes have been taken, and the groups from k on go on from what they gave
abbrev pub invariant-loop-k : goal.invariant-loop-k
invariant-loop-k l =
    (l.k < 5) × (l.value < 2 ^ (7 * l.k)) × (groups (5 - l.k) l.k l.value (drop l.k l.bytes) ≡ numeral l.bytes)
