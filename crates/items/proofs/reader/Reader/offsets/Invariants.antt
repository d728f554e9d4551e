use Rattle.items.specs.Widths.{wide}
use Rattle.items.proofs.Placing.{Passing}
use Rattle.items.proofs.reader.Reader.offsets.Given as goal

abbrev pub invariant-loop : goal.invariant-loop
invariant-loop l = Passing l.initial.self l.self (wide l.width) l.count l.n l.start l.last l.counter
