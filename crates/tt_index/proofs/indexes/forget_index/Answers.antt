use Rattle.std.proofs.Common.{sym, ap, ◌∙◌}
use Rattle.std.specs.Map.{lookup}
use Rattle.std.specs.BTreeMap.{is_at}
use Rattle.std.specs.Ordering.{nat_cmp}
use Rattle.tt_index.proofs.Changes.{removed}
use Rattle.tt_index.proofs.indexes.forget_index.Goals as goal

pub returns : goal.returns
returns c =
    let kept = c.remove.ensures.entries in
    kept ∙ removed (is_at (nat_cmp c.args.index)) c.args.indexes.now.entries (ap (lookup (is_at (nat_cmp c.args.index))) (sym kept) ∙ c.remove.ensures.updates.1)
