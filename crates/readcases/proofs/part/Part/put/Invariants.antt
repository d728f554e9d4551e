use Rattle.std.proofs.Common.{◌≡◌, ◌++◌}
use Rattle.std.specs.List.{repeat}
use Rattle.readcases.proofs.part.Part.put.Given as goal

-- the file has grown by a unit in each turn
abbrev pub invariant-loop-n : goal.invariant-loop-n
invariant-loop-n l = l.file.bytes.items ≡ l.initial.file.bytes.items ++ repeat l._n l.self.unit.items
