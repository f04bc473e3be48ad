use Rattle.tt_model.proofs.laws.catalog_stays_good.Goals as goal
use Rattle.tt_model.proofs.Theorems

pub returns : goal.returns
returns c = Theorems.catalog_stays_good
