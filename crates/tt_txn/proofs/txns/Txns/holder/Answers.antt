use Rattle.std.proofs.Common.{◌≤◌, ◌∙◌, ap, sym, arith}
use Rattle.tt_txn.specs.Same.{same_name}
use Rattle.tt_txn.specs.Kept.{seen}
use Rattle.tt_txn.specs.Txns.{holder}
use Rattle.tt_txn.proofs.Books.{holder_seat}
use Rattle.tt_txn.proofs.Views.{none_holder, some_holder}
use Rattle.tt_txn.proofs.txns.Txns.holder.Goals as goal

pub returns-in_err-session-clause-holder : goal.returns-in_err-session-clause-holder
returns-in_err-session-clause-holder c =
    c.from_residual.ensures
    ∙ sym (none_holder c.self.inside.locks c.args.name.now c.self.inside.live.items c.in_err-session.ensures)
    ∙ ap (holder c.args.name.now) c.self.view_is

pub bounds-self-inside-session : goal.bounds-self-inside-session
bounds-self-inside-session c =
    let s = c.in_ok-session.session in
    let in_range : s ≤ 64 =
    (holder_seat c.self.inside.locks (same_name c.args.name.now) s (seen c.self.inside.live.items c.self.inside.locks) c.in_ok-session.ensures c.self.invariant.vacant c.self.invariant.whole).1 in
    omega (arith, in_range)

pub returns-clause-holder : goal.returns-clause-holder
returns-clause-holder c =
    let s = c.in_ok-session.session in
    c.self.invariant.numbers s
    ∙ sym (some_holder c.self.inside.locks c.args.name.now s c.self.inside.live.items c.in_ok-session.ensures)
    ∙ ap (holder c.args.name.now) c.self.view_is
