-- What the contract demands is the theorem.
use Rattle.meaning.proofs.ConvertedLaw.{converted_law}
use Rattle.meaning.proofs.conversion_stands.Goals as goal

pub returns : goal.returns
returns c = converted_law
