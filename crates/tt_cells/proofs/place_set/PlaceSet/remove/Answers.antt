use Rattle.tt_cells.proofs.MarkLemmas.{remove_marked}
use Rattle.tt_cells.proofs.place_set.PlaceSet.remove.Goals as goal

pub invariant_of-self : goal.invariant_of-self
invariant_of-self c =
    remove_marked c.self.inside.places c.self.inside.full c.remove.new.self c.remove-2.new.self c.args.place c.self.invariant c.remove.ensures.members c.remove.ensures.room c.remove-2.ensures.members c.remove-2.ensures.room
