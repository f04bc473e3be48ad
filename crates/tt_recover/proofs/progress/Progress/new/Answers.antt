use Rattle.std.proofs.Common.{refl}
use Rattle.tt_model.specs.Live.{next_number}
use Rattle.tt_recover.proofs.progress.Progress.new.Goals as goal

pub returns : goal.returns
unfolding next_number
returns c = record { taken = c.new.ensures; next = refl }
