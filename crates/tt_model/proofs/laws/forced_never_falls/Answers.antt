use Rattle.tt_model.proofs.laws.forced_never_falls.Goals as goal
use Rattle.tt_model.proofs.Theorems

pub returns : goal.returns
returns c = Theorems.forced_never_falls
