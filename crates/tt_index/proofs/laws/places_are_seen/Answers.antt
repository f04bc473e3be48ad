use Rattle.tt_index.proofs.LawLemmas as lemmas
use Rattle.tt_index.proofs.laws.places_are_seen.Goals as goal

pub returns : goal.returns
returns c = lemmas.places_are_seen
