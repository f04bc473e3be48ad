use Rattle.std.proofs.Common.{rules}
use Rattle.std.proofs.lemmas.List.Sorted.{answers_always}
use Rattle.tt_txn.specs.Live.{LiveTransaction}
use Rattle.tt_txn.proofs.Searches.{searched}
use Rattle.tt_txn.proofs.table.search.Goals as goal

pub returns : goal.returns
returns c =
    let h =
    searched c.args.live.now c.requires c.args.number c.binary_search_by_key.result c.binary_search_by_key.ensures.bound
    (c.binary_search_by_key.ensures.position (λ (l : LiveTransaction). l.number) (answers_always _ _ _ (λ f a r f' called. search rules))) in
    record { found = h.found; none = h.none; belongs = h.belongs }
