use Rattle.tt_model.proofs.laws.users_rows_stay_good.Goals as goal
use Rattle.tt_model.proofs.Theorems

pub returns : goal.returns
returns c = Theorems.users_rows_stay_good
