use Rattle.std.proofs.Common.{◌∙◌, ap, sym}
use Rattle.std.specs.Set.{remove_key}
use Rattle.tt_txn.specs.Same.{same_name}
use Rattle.tt_txn.specs.Locks.{Holdings, names_of}
use Rattle.tt_txn.proofs.Holdings.{names_of_map}
use Rattle.tt_txn.proofs.locks.Locks.give_back.Goals as goal

pub returns : goal.returns
returns c =
    λ s.
    names_of_map c.give_back_in.new.names.entries c.give_back_in.new.slots s
    ∙ c.give_back_in.ensures.left s
    ∙ ap (remove_key (same_name c.args.name.now)) (sym (names_of_map c.self.inside.names.entries c.self.inside.slots s) ∙ ap (λ (hs : Holdings). names_of s hs) c.self.view_is)
