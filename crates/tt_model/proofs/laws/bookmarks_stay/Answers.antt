use Rattle.tt_model.proofs.laws.bookmarks_stay.Goals as goal
use Rattle.tt_model.proofs.Theorems

pub returns : goal.returns
returns c = Theorems.bookmarks_stay
