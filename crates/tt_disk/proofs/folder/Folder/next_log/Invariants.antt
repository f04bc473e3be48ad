use Rattle.std.proofs.Common.{◌≤◌, IfSome}
use Rattle.tt_disk.proofs.folder.Folder.next_log.Given as goal

abbrev pub invariant-loop-entry : goal.invariant-loop-entry
invariant-loop-entry l = record {
  next : (goal.iterator-loop-entry).can_next l.entry-iterator;
  finished : (goal.iterator-loop-entry).is_finite l.entry-iterator;
  from : IfSome l.least (λ n. l.from ≤ n);
}
