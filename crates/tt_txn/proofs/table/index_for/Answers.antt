use Rattle.std.proofs.Common.{true≢false, sym, ap, ◌∙◌}
use Rattle.std.specs.Option.{is_some}
use Rattle.tt_txn.proofs.Places.{found_at}
use Rattle.tt_txn.proofs.table.index_for.Goals as goal

pub unreachable-requires : goal.unreachable-requires
unreachable-requires c =
    let h = found_at c.args.number c.args.live.now c.in-Ok.field-0 c.in-Ok.ensures.found in
    let live = ap is_some h.transaction in
    true≢false (sym live ∙ c.requires.new)
