use Rattle.tt_cells.proofs.MarkLemmas.{insert_marked}
use Rattle.tt_cells.proofs.place_set.PlaceSet.insert.Goals as goal

pub invariant_of-self : goal.invariant_of-self
invariant_of-self c =
    insert_marked c.self.inside.places c.self.inside.full c.insert.new.self c.mark.new.full c.args.place c.has_full_word-is_full.result c.self.invariant c.insert.ensures.members c.insert.ensures.room c.has_full_word-is_full.ensures c.mark.ensures.members c.mark.ensures.room
