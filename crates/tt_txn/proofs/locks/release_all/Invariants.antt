use Rattle.std.proofs.Common.{◌≡◌, ◌≢◌, ◌<◌, ℕ, length, List}
use Rattle.std.specs.List.{IsDistinct}
use Rattle.std.specs.Map.{keys_of}
use Rattle.tt_txn.specs.Same.{same_name}
use Rattle.tt_txn.specs.Locks.{names_in, IsTied}
use Rattle.tt_txn.specs.Slots.{slots_of}
use Rattle.tt_txn.proofs.Ties.{Entry, Slots}
use Rattle.tt_txn.proofs.locks.release_all.Given as goal

-- while a session's slots are taken away
pub record IsReleasing (session : ℕ) (first lists : List Slots) (entries es : List Entry) : Type 0 where
  pub in_range : session < length lists
  pub tied : IsTied lists es
  pub unique : IsDistinct same_name (keys_of es)
  pub others : (s : ℕ) → s ≢ session → names_in es (slots_of s lists) ≡ names_in entries (slots_of s first)

abbrev pub invariant-loop : goal.invariant-loop
invariant-loop l = IsReleasing l.session l.initial.slots l.slots l.initial.names.entries l.names.entries

abbrev pub decreases-loop : goal.decreases-loop
decreases-loop l = length (slots_of l.session l.slots)
