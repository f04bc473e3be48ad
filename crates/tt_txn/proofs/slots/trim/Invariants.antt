use Rattle.std.proofs.Common.{◌≡◌, ℕ, vec_len}
use Rattle.tt_txn.specs.Slots.{slot_in}
use Rattle.tt_txn.proofs.slots.trim.Given as goal

abbrev pub invariant-loop-slots : goal.invariant-loop-slots
invariant-loop-slots l = (q : ℕ) → slot_in q l.slots.items ≡ slot_in q l.initial.slots.items

abbrev pub decreases-loop-slots : goal.decreases-loop-slots
decreases-loop-slots l = vec_len l.slots
