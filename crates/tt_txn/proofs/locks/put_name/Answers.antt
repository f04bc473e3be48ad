use Rattle.std.proofs.Common.{◌∙◌}
use Rattle.indexmap.proofs.CallerLemmas.{insert_entry-new}
use Rattle.tt_txn.specs.Same.{same_name}
use Rattle.tt_txn.proofs.locks.put_name.Goals as goal

pub returns-clause-ok : goal.returns-clause-ok
returns-clause-ok c = c.in_ok-insert.ensures.entries ∙ insert_entry-new same_name c.args.names.now c.args.name c.args.held c.requires
