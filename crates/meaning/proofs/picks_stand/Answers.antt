-- What the contract demands is the theorem.
use Rattle.meaning.proofs.OwnPicks.{own-id, own_name}
use Rattle.meaning.proofs.picks_stand.Goals as goal

pub returns : goal.returns
returns c = record { ids = own-id; names = own_name }
