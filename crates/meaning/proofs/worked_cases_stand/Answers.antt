-- What the contract demands is the theorem.
use Rattle.meaning.proofs.WorkedCases.{worked_cases}
use Rattle.meaning.proofs.worked_cases_stand.Goals as goal

pub returns : goal.returns
returns c = worked_cases
