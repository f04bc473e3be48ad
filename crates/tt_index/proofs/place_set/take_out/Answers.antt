use Rattle.std.proofs.Common.{sym, ap, ◌∙◌}
use Rattle.std.specs.List.{list_any}
use Rattle.std.specs.BTreeMap.{is_at}
use Rattle.std.specs.Ordering.{nat_cmp}
use Rattle.tt_index.proofs.PlaceLists.{removed_place}
use Rattle.tt_index.proofs.place_set.take_out.Goals as goal

pub returns-clause-left : goal.returns-clause-left
returns-clause-left c =
    let kept = c.remove.ensures.keys in
    kept ∙ removed_place c.args.place c.args.places.now.keys (ap (list_any (is_at (nat_cmp c.args.place))) (sym kept) ∙ c.remove.ensures.updates.1)
