use Rattle.std.proofs.Common.{◌≡◌, ◌≤◌, ◌-◌, ◌+◌}
use Rattle.tt_cells.proofs.room.more_marks.Given as goal

abbrev pub invariant-loop-stale : goal.invariant-loop-stale
invariant-loop-stale l = record {
  members : l.stale.members ≡ l.fn.stale.members;
  kept : l.fn.stale.room ≤ l.stale.room;
}

abbrev pub decreases-loop-stale : goal.decreases-loop-stale
decreases-loop-stale l = l.page + 1 - l.stale.room
