use Rattle.std.proofs.Common.{◌∙◌, [], List, ap, sym, cond, nat_eq}
use Rattle.tt_txn.specs.declared.lock_name.LockName.{LockName}
use Rattle.tt_txn.specs.Locks.{Holdings, names_of}
use Rattle.tt_txn.proofs.Holdings.{names_of_map}
use Rattle.tt_txn.proofs.locks.Locks.end.Goals as goal

pub returns : goal.returns
returns c =
    λ s.
    names_of_map c.release_all.new.names.entries c.release_all.new.slots s
    ∙ c.release_all.ensures.others s
    ∙ ap (λ (names : List LockName). cond (nat_eq c.args.session s) [] names) (sym (names_of_map c.self.inside.names.entries c.self.inside.slots s) ∙ ap (λ (hs : Holdings). names_of s hs) c.self.view_is)
