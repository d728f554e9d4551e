-- What the contract demands is the theorem.
use Rattle.meaning.proofs.SumsLaw.{sums_law}
use Rattle.meaning.proofs.sums_stand.Goals as goal

pub returns : goal.returns
returns c = sums_law
