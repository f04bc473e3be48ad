use Rattle.tt_index.proofs.RangeLemmas as lemmas
use Rattle.tt_index.proofs.laws.ranges_are_seen.Goals as goal

pub returns : goal.returns
returns c = lemmas.ranges_are_seen
