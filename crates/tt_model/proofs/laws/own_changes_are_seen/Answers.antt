use Rattle.tt_model.proofs.laws.own_changes_are_seen.Goals as goal
use Rattle.tt_model.proofs.Theorems

pub returns : goal.returns
returns c = Theorems.own_changes_are_seen
