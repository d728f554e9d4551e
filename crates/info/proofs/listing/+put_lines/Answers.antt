-- Each turn adds the line of an entry and the lines below it.
use Rattle.std.proofs.Common.{arith, rules}
use Rattle.info.proofs.Adding.{not_missing, below_asks, goes_on}
use Rattle.info.proofs.listing.+put_lines.Goals as goal

pub returns-in_default : goal.returns-in_default
returns-in_default g t c = absurd (not_missing _ _ c.loop-n.invariant c.loop-n-test.true g.L.Line.Display.output c.in_default.ensures)

pub put_lines-requires : goal.put_lines-requires
put_lines-requires g t c κs within =
    let below = below_asks _ _ c.loop-n.invariant c.loop-n-test.true g.L.Line.Display.output _ _ c.in-Some.ensures in
    (search rules, (within.0, (within.1, (below.2, (omega arith, omega arith)))))

pub loop-n-preserved : goal.loop-n-preserved
loop-n-preserved g t c =
    goes_on _ _ c.loop-n.invariant c.loop-n-test.true g.L.Line.Display.output _ _ c.in-Some.ensures _ _ c.in_ok-writeln.ensures.bytes c.in_ok-put_lines.ensures
