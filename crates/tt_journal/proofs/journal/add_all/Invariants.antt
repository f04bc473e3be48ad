use Rattle.std.proofs.Common.{◌≤◌, length}
use Rattle.tt_disk.specs.Faults.{Stays}
use Rattle.tt_log.specs.Log.{IsOpen, write_position_of}
use Rattle.tt_model.specs.State.{State}
use Rattle.tt_journal.specs.LogTrail.{HasTrail}
use Rattle.tt_journal.specs.Journal.{CanFollow, WrittenSoFar}
use Rattle.tt_journal.proofs.journal.add_all.Given as goal

abbrev pub decreases-entries : goal.decreases-entries
decreases-entries g l = length (g.E.Entries.left l.entries)

abbrev pub invariant-entries : goal.invariant-entries
invariant-entries g l = record {
  follow : CanFollow l.log.file_size (write_position_of l.log) (g.E.Entries.left l.entries);
  ready : g.V.Volume.told → IsOpen l.log (g.V.Volume.now l.volume) (g.V.Volume.may l.volume);
  later : g.V.Volume.faults l.initial.volume ≤ g.V.Volume.faults l.volume;
  stays : Stays g.V.Volume.exact (g.V.Volume.faults l.initial.volume) (g.V.Volume.faults l.volume);
  written : g.V.Volume.told → (s : State) → HasTrail l.initial.log (g.V.Volume.now l.initial.volume) s
      → WrittenSoFar g.V.Volume l.initial.log l.initial.volume s l.log l.volume ((g.E.Entries.left l.initial.entries), (g.E.Entries.left l.entries));
}
