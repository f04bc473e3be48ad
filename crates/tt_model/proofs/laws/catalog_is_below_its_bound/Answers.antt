use Rattle.tt_model.proofs.laws.catalog_is_below_its_bound.Goals as goal
use Rattle.tt_model.proofs.Theorems

pub returns : goal.returns
returns c = Theorems.catalog_is_below_its_bound
