-- What the contract demands is the theorem.
use Rattle.meaning.proofs.RowsLaw.{rows_law}
use Rattle.meaning.proofs.rows_stand.Goals as goal

pub returns : goal.returns
returns c = rows_law
