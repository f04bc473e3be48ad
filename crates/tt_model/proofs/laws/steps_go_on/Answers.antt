use Rattle.tt_model.proofs.laws.steps_go_on.Goals as goal
use Rattle.tt_model.proofs.Theorems

pub returns : goal.returns
returns c = Theorems.steps_go_on
