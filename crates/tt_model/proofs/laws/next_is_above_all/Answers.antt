use Rattle.tt_model.proofs.laws.next_is_above_all.Goals as goal
use Rattle.tt_model.proofs.Theorems

pub returns : goal.returns
returns c = Theorems.next_is_above_all
