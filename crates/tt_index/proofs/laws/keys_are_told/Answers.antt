use Rattle.tt_index.proofs.Wholes.{same_key}
use Rattle.tt_index.proofs.laws.keys_are_told.Goals as goal

pub returns : goal.returns
returns c = same_key
