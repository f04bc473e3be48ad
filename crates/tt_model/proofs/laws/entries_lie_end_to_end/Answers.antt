use Rattle.tt_model.proofs.laws.entries_lie_end_to_end.Goals as goal
use Rattle.tt_model.proofs.Theorems

pub returns : goal.returns
returns c = Theorems.entries_lie_end_to_end
