-- What the contract demands is the theorem.
use Rattle.meaning.proofs.CountedLaw.{counted_law}
use Rattle.meaning.proofs.counter_stands.Goals as goal

pub returns : goal.returns
returns c = counted_law
