use Rattle.std.proofs.Common.{◌∙◌, ap, sym, Some}
use Rattle.std.specs.Option.{option_map}
use Rattle.tt_txn.specs.Live.{LiveTransaction}
use Rattle.tt_txn.proofs.Places.{there}
use Rattle.tt_txn.proofs.table.session_of.Goals as goal

pub returns : goal.returns
returns c =
    ap Some (c.session.ensures ∙ ap (λ (l : LiveTransaction). l.session) c.index-live-place_of.is)
    ∙ sym (ap (option_map (λ (l : LiveTransaction). l.session)) (there c.args.number c.args.live.now c.place_of.result c.index-live-place_of.result c.place_of.ensures))
