use Rattle.tt_model.proofs.laws.first_change_found_what_is_committed.Goals as goal
use Rattle.tt_model.proofs.Theorems

pub returns : goal.returns
returns c = Theorems.first_change_found_what_is_committed
