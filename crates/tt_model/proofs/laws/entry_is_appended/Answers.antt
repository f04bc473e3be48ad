use Rattle.tt_model.proofs.laws.entry_is_appended.Goals as goal
use Rattle.tt_model.proofs.Theorems

pub returns : goal.returns
returns c = Theorems.entry_is_appended
