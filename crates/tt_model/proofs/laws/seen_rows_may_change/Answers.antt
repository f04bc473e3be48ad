use Rattle.tt_model.proofs.laws.seen_rows_may_change.Goals as goal
use Rattle.tt_model.proofs.Theorems

pub returns : goal.returns
returns c = Theorems.seen_rows_may_change
