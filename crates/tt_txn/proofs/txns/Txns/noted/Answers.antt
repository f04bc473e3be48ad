use Rattle.std.proofs.Common.{◌≡◌, ◌∙◌, ap, sym, Some, None}
use Rattle.std.specs.Prelude.{slice_get, option_map}
use Rattle.tt_txn.specs.Table.{Transactions, noted_by}
use Rattle.tt_txn.specs.Seen.{change_parts}
use Rattle.tt_txn.proofs.Books.{ascends}
use Rattle.tt_txn.proofs.Views.{noted_seen}
use Rattle.tt_txn.proofs.txns.Txns.noted.Goals as goal

pub change_back-requires : goal.change_back-requires
change_back-requires c = ascends c.self.inside.locks c.self.inside.live.items c.as_slice.result.now c.as_slice.ensures.value c.self.invariant.whole

pub returns-in_err-change : goal.returns-in_err-change
returns-in_err-change c =
    let n = c.args.number in
    let none : slice_get (noted_by n c.args.self.now) c.args.back ≡ None =
    sym (c.in_err-change.ensures
    ∙ ap (λ (ls : Transactions). slice_get (noted_by n ls) c.args.back) c.as_slice.ensures.value
    ∙ ap (λ cs. slice_get cs c.args.back) (sym (noted_seen c.self.inside.locks n c.self.inside.live.items))
    ∙ ap (λ (ls : Transactions). slice_get (noted_by n ls) c.args.back) c.self.view_is) in
    rw c.from_residual.ensures (sym (ap (option_map change_parts) none))

pub returns : goal.returns
returns c =
    let n = c.args.number in
    let some : Some c.in_ok-change.change.now ≡ slice_get (noted_by n c.args.self.now) c.args.back =
    c.in_ok-change.ensures
    ∙ ap (λ (ls : Transactions). slice_get (noted_by n ls) c.args.back) c.as_slice.ensures.value
    ∙ ap (λ cs. slice_get cs c.args.back) (sym (noted_seen c.self.inside.locks n c.self.inside.live.items))
    ∙ ap (λ (ls : Transactions). slice_get (noted_by n ls) c.args.back) c.self.view_is in
    ap (option_map change_parts) some
