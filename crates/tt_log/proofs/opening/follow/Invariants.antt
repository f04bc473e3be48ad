use Rattle.std.proofs.Common.{◌≤◌, ◌<◌, ◌-◌}
use Rattle.tt_disk.specs.declared.volume.Name.TheVariants.{Log as LogFile}
use Rattle.tt_disk.specs.Volume.{Keeps}
use Rattle.tt_log.specs.Walk.{file_read}
use Rattle.tt_log.specs.File.{IsEnd, IsInRange, Closes}
use Rattle.tt_log.proofs.Following.{GoneTo}
use Rattle.tt_log.proofs.Visiting.{TakesFiles}
use Rattle.tt_disk.specs.Faults.{Stays}
use Rattle.tt_log.proofs.opening.follow.Given as goal

abbrev pub decreases-files : goal.decreases-files
decreases-files g l = 1000000 - l.file

abbrev pub invariant-files : goal.invariant-files
invariant-files g l = record {
  onward : l.number ≤ l.file;
  below : l.file < 1000000;
  range : IsInRange l.file l.end;
  later : g.V.Volume.faults l.initial.volume ≤ g.V.Volume.faults l.volume;
  stays : Stays g.V.Volume.exact (g.V.Volume.faults l.initial.volume) (g.V.Volume.faults l.volume);
  keeps : g.V.Volume.told → Keeps (g.V.Volume.now l.initial.volume) (g.V.Volume.now l.volume) (g.V.Volume.may l.initial.volume) (g.V.Volume.may l.volume);
  gone : g.V.Volume.told → GoneTo l.number l.file (g.V.Volume.now l.initial.volume);
  closed : g.V.Volume.told → Closes (g.V.Volume.now l.initial.volume (LogFile l.file)) l.end;
  end : g.V.Volume.told → IsEnd (file_read l.file (g.V.Volume.now l.initial.volume (LogFile l.file))) l.end;
  given : g.V.Volume.told → TakesFiles l.number l.file (g.T.EntryVisitor.visited l.initial.visitor) (g.T.EntryVisitor.visited l.visitor) (g.V.Volume.now l.initial.volume);
}
