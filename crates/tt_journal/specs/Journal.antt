-- What entries and forces make of a log and its volume: the log stands for the state behind them; or a call failed on the way there.
use Rattle.std.specs.Prelude.{◌≡◌, ℕ, Bool, List, [], ◌∷◌, map, true, Option, Some, None, Result, OnOk, OnErr}
use Rattle.tt_disk.specs.declared.volume.Name.{Name}
use Rattle.tt_disk.specs.Volume.{Files}
use Rattle.tt_disk.specs.declared.volume.Failed.{Failed}
use Rattle.tt_value.specs.declared.position.Position.{Position}
use Rattle.tt_record.specs.declared.entry.Entry.{Entry}
use Rattle.tt_record.specs.Entry.{length_of}
use Rattle.tt_log.specs.declared.log.Log.{Log}
use Rattle.tt_log.specs.Log.{IsOpen, CrashLeavesForced, write_position_of, file_size_of}
use Rattle.tt_model.specs.Entries.{IsPlain}
use Rattle.tt_model.specs.State.{State, lengths_fit, write_position}
use Rattle.tt_model.specs.WholeRuns.{Each}
use Rattle.tt_model.specs.Works.{performed, with_entries}
use Rattle.tt_journal.specs.LogTrail.{ChangesFrom, HasTrail, IsQuiet, LeavesPrefix}
use Rattle.tt_journal.specs.Onward.{IsOnward}
use Rattle.tt_disk.specs.declared.volume.Volume.{Ghosts}

-- The log, which stood for a state, stands for a later one. A crash leaves just what is forced, if it did before. Where nothing more
-- is forced and no file begins, the volume is as it was; and no file changes but log files from the current one on.
pub record Writes {V : Type 0} (g : Ghosts V) (log : Log) (old : V) (s : State) (log' : Log) (new : V) (after : State) : Type 0 where
  pub stands : HasTrail log' (g.now new) after
  pub kept : CrashLeavesForced log (g.now old) (g.may old) → CrashLeavesForced log' (g.now new) (g.may new)
  pub onward : IsOnward s after
  pub quiet : IsQuiet s after → new ≡ old
  pub others : ChangesFrom (write_position s).file (g.now old) (g.now new) (g.may old) (g.may new)

-- A call failed on the way to a state. A crash leaves a prefix of that one's trail with all that was forced before, if it left just
-- what was forced. Something more was to be forced, or a file to begin.
pub record Breaks {V : Type 0} (g : Ghosts V) (log : Log) (old : V) (s : State) (new : V) (last : State) : Type 0 where
  pub crash : CrashLeavesForced log (g.now old) (g.may old) → LeavesPrefix s.forced last (g.may new)
  pub onward : IsOnward s last
  pub moves : ¬ (IsQuiet s last)
  pub others : ChangesFrom (write_position s).file (g.now old) (g.now new) (g.may old) (g.may new)

-- What came of a call that was to lead the log on. Where it was answered the log is open and, for each state that it stood for, has written on
-- to the state where that one leads; where it failed, it broke on the way there.
pub record Performs {V T : Type 0} (g : Ghosts V) (log : Log) (old : V) (log' : Log) (new : V) (to : State → State) (result : Result T Failed) : Type 0 where
  pub ready : OnOk result (IsOpen log' (g.now new) (g.may new))
  pub written : (s : State) → HasTrail log (g.now old) s → OnOk result (Writes g log old s log' new (to s))
  pub broken : (s : State) → HasTrail log (g.now old) s → OnErr result (Breaks g log old s new (to s))

-- Some of the first entries are written: the log stands for a state from which the second ones, those that are left, lead where
-- all lead.
pub record WrittenSoFar {V : Type 0} (g : Ghosts V) (log : Log) (old : V) (s : State) (log' : Log) (new : V) (entries : List Entry × List Entry) : Type 0 where
  pub mid : State
  pub writes : Writes g log old s log' new mid
  pub same : with_entries entries.0 s ≡ with_entries entries.1 mid

-- These may be appended behind an end, one after another.
pub record CanFollow (size : ℕ) (end : Position) (es : List Entry) : Type 0 where
  pub entries : Each IsPlain es
  pub places : lengths_fit size end (map length_of es) ≡ true

-- What one more call gives of some entries: the first, and leaves the rest; or none, where none is left.
abbrev pub Gives : List Entry → Option Entry → List Entry → Type 0
Gives left None rest = left ≡ []
Gives left (Some e) rest = left ≡ e ∷ rest

abbrev pub listed : Option Entry → List Entry
listed None = []
listed (Some e) = e ∷ []

-- entries that fit behind one of a length fit behind the log's end once it is there
abbrev pub LeavesRoom : Log → ℕ → Log → Type 0
LeavesRoom log n log' = (ns : List ℕ) → lengths_fit (file_size_of log) (write_position_of log) (n ∷ ns) ≡ true → lengths_fit (file_size_of log') (write_position_of log') ns ≡ true

-- a state with these entries behind its trail, forced where that is asked for
abbrev pub written : List Entry → Bool → State → State
written entries force = performed (record { entries = entries; force = force })
