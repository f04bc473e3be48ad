use Rattle.std.proofs.Common.{◌≡◌, ◌⊎◌, ◌≤◌, ◌<◌, ◌-◌, ℕ, None}
use Rattle.tt_disk.specs.declared.volume.Name.TheVariants.{Log as LogFile}
use Rattle.tt_disk.specs.Volume.{File}
use Rattle.tt_log.specs.Log.{OnlyBetween}
use Rattle.tt_disk.specs.Faults.{Stays}
use Rattle.tt_log.proofs.truncation.remove_logs.Given as goal

abbrev pub decreases-logs : goal.decreases-logs
decreases-logs g l = l.end - l.at

abbrev pub invariant-logs : goal.invariant-logs
invariant-logs g l = record {
  above : l.from ≤ l.at;
  later : g.V.Volume.faults l.initial.volume ≤ g.V.Volume.faults l.volume;
  stays : Stays g.V.Volume.exact (g.V.Volume.faults l.initial.volume) (g.V.Volume.faults l.volume);
  gone : g.V.Volume.told → (k : ℕ) → l.from ≤ k → k < l.at → g.V.Volume.now l.volume (LogFile k) ≡ None;
  ahead : g.V.Volume.told → (k : ℕ) → l.at ≤ k → g.V.Volume.now l.volume (LogFile k) ≡ g.V.Volume.now l.initial.volume (LogFile k);
  crash : g.V.Volume.told → (k : ℕ) (c : File) → g.V.Volume.may l.volume (LogFile k) c → g.V.Volume.may l.initial.volume (LogFile k) c ⊎ (c ≡ None);
  others : g.V.Volume.told → OnlyBetween l.from l.end (g.V.Volume.now l.initial.volume) (g.V.Volume.now l.volume) (g.V.Volume.may l.initial.volume) (g.V.Volume.may l.volume);
}
