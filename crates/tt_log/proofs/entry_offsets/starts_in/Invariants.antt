use Rattle.std.proofs.Common.{◌≤◌, ◌-◌, length}
use Rattle.tt_log.proofs.Skips.{Skipped}
use Rattle.tt_log.proofs.entry_offsets.starts_in.Given as goal

abbrev pub decreases-entries : goal.decreases-entries
decreases-entries l = l.wanted - l.at

abbrev pub invariant-entries : goal.invariant-entries
invariant-entries l = record { inside : l.at ≤ length l.bytes; skipped : Skipped l.bytes l.wanted l.at }
