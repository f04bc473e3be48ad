use Rattle.tt_model.proofs.laws.held_once_stays.Goals as goal
use Rattle.tt_model.proofs.Theorems

pub returns : goal.returns
returns c = Theorems.held_once_stays
