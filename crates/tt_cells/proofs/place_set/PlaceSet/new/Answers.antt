use Rattle.std.proofs.Common.{arith}
use Rattle.tt_cells.proofs.MarkLemmas.{none_marked}
use Rattle.tt_cells.proofs.place_set.PlaceSet.new.Goals as goal

pub invariant_of-result : goal.invariant_of-result
invariant_of-result c = none_marked c.new.result c.new-2.result c.new.ensures.members c.new-2.ensures.members (omega (arith, c.new.ensures.room))
