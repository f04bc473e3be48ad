use Rattle.std.proofs.Common.{rules}
use Rattle.tt_txn.proofs.Books.{kept_none}
use Rattle.tt_txn.proofs.txns.Txns.new.Goals as goal

pub invariant_of-result : goal.invariant_of-result
invariant_of-result c = kept_none c.new-2.result c.new-3.result c.no_numbers.result c.new.result.items (search rules) c.new-2.ensures c.new-3.ensures.empty c.no_numbers.ensures
