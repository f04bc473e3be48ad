use Rattle.tt_model.proofs.laws.mark_ends_all.Goals as goal
use Rattle.tt_model.proofs.Theorems

pub returns : goal.returns
returns c = Theorems.mark_ends_all
