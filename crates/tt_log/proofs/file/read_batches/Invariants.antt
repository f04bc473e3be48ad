use Rattle.std.proofs.Common.{◌≤◌, ◌<◌, ◌-◌, ◌^◌}
use Rattle.tt_disk.specs.declared.volume.Name.TheVariants.{Log as LogFile}
use Rattle.tt_disk.specs.Volume.{Keeps}
use Rattle.tt_log.specs.Limits.{file_most}
use Rattle.tt_log.specs.File.{IsReached}
use Rattle.tt_log.specs.Visitor.{VisitsUpTo, at_first}
use Rattle.tt_disk.specs.Faults.{Stays}
use Rattle.tt_log.proofs.file.read_batches.Given as goal

abbrev pub decreases-batches : goal.decreases-batches
decreases-batches g l = 2 ^ 62 - l.at.gate

abbrev pub invariant-batches : goal.invariant-batches
invariant-batches g l = record {
  some : 0 < l.at.gate;
  inside : l.at.gate < 2 ^ 62;
  room : l.at.offset ≤ file_most;
  later : g.V.Volume.faults l.initial.volume ≤ g.V.Volume.faults l.volume;
  stays : Stays g.V.Volume.exact (g.V.Volume.faults l.initial.volume) (g.V.Volume.faults l.volume);
  keeps : g.V.Volume.told → Keeps (g.V.Volume.now l.initial.volume) (g.V.Volume.now l.volume) (g.V.Volume.may l.initial.volume) (g.V.Volume.may l.volume);
  reached : g.V.Volume.told → IsReached l.wanted l.number (g.V.Volume.now l.initial.volume (LogFile l.number)) l.at;
  given : g.V.Volume.told → VisitsUpTo l.number (g.T.EntryVisitor.visited l.initial.visitor) (g.T.EntryVisitor.visited l.visitor) at_first l.at (g.V.Volume.now l.initial.volume (LogFile l.number));
}
