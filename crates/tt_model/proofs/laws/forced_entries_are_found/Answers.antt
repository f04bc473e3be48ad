use Rattle.tt_model.proofs.laws.forced_entries_are_found.Goals as goal
use Rattle.tt_model.proofs.Theorems

pub returns : goal.returns
returns c = Theorems.forced_entries_are_found
