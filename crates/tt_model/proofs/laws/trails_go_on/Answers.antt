use Rattle.tt_model.proofs.laws.trails_go_on.Goals as goal
use Rattle.tt_model.proofs.Theorems

pub returns : goal.returns
returns c = Theorems.trails_go_on
