-- What the contract demands is the theorem.
use Rattle.meaning.proofs.Accepts.{accepts_law}
use Rattle.meaning.proofs.accepts_stand.Goals as goal

pub returns : goal.returns
returns c = accepts_law
