use Rattle.tt_model.proofs.laws.good_rows_are_storable.Goals as goal
use Rattle.tt_model.proofs.Theorems

pub returns : goal.returns
returns c = Theorems.good_rows_are_storable
