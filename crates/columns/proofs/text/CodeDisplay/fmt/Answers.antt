-- What is written is the name of the code.
use Rattle.std.proofs.Common.{arith}
use Rattle.fault.proofs.Decimal.{decimal-written}
use Rattle.columns.proofs.text.CodeDisplay.fmt.Goals as goal

pub returns-in-FixedSizeBinary-clause-writes : goal.returns-in-FixedSizeBinary-clause-writes
returns-in-FixedSizeBinary-clause-writes g c plain ok = rw (c.in-FixedSizeBinary.is, decimal-written c.in-FixedSizeBinary.width (omega arith)) (c.write.ensures.writes plain ok)

pub returns-in-FixedSizeList-clause-writes : goal.returns-in-FixedSizeList-clause-writes
returns-in-FixedSizeList-clause-writes g c plain ok = rw (c.in-FixedSizeList.is, decimal-written c.in-FixedSizeList.size (omega arith)) (c.write-in-FixedSizeList.ensures.writes plain ok)
