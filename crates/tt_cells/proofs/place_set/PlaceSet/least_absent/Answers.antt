use Rattle.tt_cells.proofs.MarkLemmas.{all_below}
use Rattle.tt_cells.proofs.place_set.PlaceSet.least_absent.Goals as goal

pub least_absent_in-requires-clause-before : goal.least_absent_in-requires-clause-before
least_absent_in-requires-clause-before c = all_below c.self.inside.places c.self.inside.full c.least_absent-word.result c.self.invariant c.least_absent-word.ensures.least
