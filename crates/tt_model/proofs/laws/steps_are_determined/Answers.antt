use Rattle.tt_model.proofs.laws.steps_are_determined.Goals as goal
use Rattle.tt_model.proofs.Theorems

pub returns : goal.returns
returns c = Theorems.steps_are_determined
