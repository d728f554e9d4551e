-- What is written is the name of the type.
use Rattle.std.proofs.Common.{arith}
use Rattle.fault.proofs.Decimal.{decimal-written}
use Rattle.schema.proofs.text.PrimitiveDisplay.fmt.Goals as goal

pub returns-in-Fixed-clause-writes : goal.returns-in-Fixed-clause-writes
returns-in-Fixed-clause-writes g c plain ok = rw (c.in-Fixed.is, decimal-written c.in-Fixed.length (omega arith)) (c.write.ensures.writes plain ok)
