use Rattle.std.proofs.Common.{sym, ap, ◌∙◌}
use Rattle.std.specs.Map.{lookup}
use Rattle.std.specs.BTreeMap.{is_at}
use Rattle.tt_value.specs.Order.{row_cmp}
use Rattle.tt_index.proofs.Changes.{removed}
use Rattle.tt_index.proofs.rows.forget_key.Goals as goal

pub returns : goal.returns
returns c =
    let kept = c.remove.ensures.entries in
    kept ∙ removed (is_at (row_cmp c.args.key.now)) c.args.keys.now.entries (ap (lookup (is_at (row_cmp c.args.key.now))) (sym kept) ∙ c.remove.ensures.updates.1)
