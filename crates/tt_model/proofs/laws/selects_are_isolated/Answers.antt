use Rattle.tt_model.proofs.laws.selects_are_isolated.Goals as goal
use Rattle.tt_model.proofs.Theorems

pub returns : goal.returns
returns c = Theorems.selects_are_isolated
