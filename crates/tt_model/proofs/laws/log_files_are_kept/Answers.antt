use Rattle.tt_model.proofs.laws.log_files_are_kept.Goals as goal
use Rattle.tt_model.proofs.Theorems

pub returns : goal.returns
returns c = Theorems.log_files_are_kept
