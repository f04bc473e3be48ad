use Rattle.tt_model.proofs.laws.checkpoints_open.Goals as goal
use Rattle.tt_model.proofs.Theorems

pub returns : goal.returns
returns c = Theorems.checkpoints_open
