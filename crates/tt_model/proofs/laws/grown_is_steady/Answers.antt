use Rattle.tt_model.proofs.laws.grown_is_steady.Goals as goal
use Rattle.tt_model.proofs.Theorems

pub returns : goal.returns
returns c = Theorems.grown_is_steady
