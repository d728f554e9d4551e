use Rattle.std.proofs.Common.{◌-◌, string_bytes}
use Rattle.info.proofs.Adding.{Putting}
use Rattle.info.proofs.listing.+put_lines.Given as goal

-- the entries below one are fewer than those beside it
abbrev pub decreases-put_lines : goal.decreases-put_lines
decreases-put_lines g l = l.end - l.first

abbrev pub invariant-loop-n : goal.invariant-loop-n
invariant-loop-n g l =
    Putting (g.L.Listing.forest l.list) g.L.Listing.text l.level l.first l.end l.n (string_bytes l.initial.out) (string_bytes l.out)

abbrev pub decreases-loop-n : goal.decreases-loop-n
decreases-loop-n g l = l.end - l.n
