-- How an engine stands for a state, and what a line and the end of a script make of it.
use Rattle.std.specs.Prelude.{◌≡◌, ◌<◌, ◌≤◌, ◌*◌, ◌^◌, ℕ, ℤ, true, false, nat_eq, List, [], ◌∷◌, Option, Some, None, Result, OnOk, OnErr, IfOk, unwrap_or, if◌then◌else◌}
use Rattle.std.specs.BTreeSet.{contains}
use Rattle.std.specs.Ordering.{int_cmp, nat_cmp}
use Rattle.tt_value.specs.declared.reply.Reply.{Reply}
use Rattle.tt_value.specs.declared.value.Cell.TheVariants.{Empty, Full}
use Rattle.tt_record.specs.declared.entry.Entry.{Entry}
use Rattle.tt_record.specs.declared.entry.Entry.TheVariants.{Change}
use Rattle.tt_model.specs.Committed.{changed_by, is_full}
use Rattle.tt_model.specs.Live.{live, touched}
use Rattle.tt_model.specs.Steady.{IsGrown}
use Rattle.tt_model.specs.State.{State, cells_of, is_used, next, scan_held, trail}
use Rattle.tt_model.specs.StepLaws.{AreNumberedFrom}
use Rattle.tt_engine.specs.declared.engine.Engine.{Engine}
use Rattle.tt_engine.specs.declared.memory.Decided.{Decided}
use Rattle.tt_engine.specs.declared.memory.Memory.{Memory}
use Rattle.tt_model.specs.Entries.{IsPlain}
use Rattle.tt_model.specs.Works.{SameLog, performed}
use Rattle.tt_journal.specs.Journal.{Breaks, Writes, listed}
use Rattle.tt_log.specs.Calls.{IsOpenOn}
use Rattle.tt_log.specs.Log.{IsOpen, CrashLeavesForced}
use Rattle.tt_engine.specs.declared.rows.Rows.{Rows}
use Rattle.tt_disk.specs.declared.volume.Failed.{Failed}
use Rattle.tt_disk.specs.Volume.{Files}
use Rattle.tt_recover.specs.Opening.{opened_from}
use Rattle.tt_record.specs.Place.{position}
use Rattle.tt_journal.specs.LogTrail.{HasTrail, IsQuiet}
use Rattle.tt_engine.specs.Prefixes.{LeavesOpening}
use Rattle.tt_engine.specs.declared.request.Request.{Request}
use Rattle.tt_engine.specs.Request.{Answers, answer, kv, row_of, script_ended, sees_key}
use Rattle.tt_engine.specs.Memory.{InMemory}
use Rattle.tt_disk.specs.declared.volume.Volume.{Ghosts}

-- The engine is up on a volume: the files of its log stand there as its last call left them.
abbrev pub IsUpOn : {V : Type 0} → Ghosts V → Engine → V → Type 0
IsUpOn g e logs = IsOpenOn g e.log logs

-- The engine stands for a state: its log for the trail, its memory for the tables.
pub record Represents (e : Engine) (now : Files) (s : State) : Type 0 where
  pub log : HasTrail e.log now s
  pub memory : InMemory e.memory s

-- an engine, and the volume of its log files
pub record Running (V : Type 0) : Type 0 where
  pub engine : Engine
  pub logs : V

abbrev pub at : {V : Type 0} → Engine → V → Running V
at e logs = record { engine = e; logs = logs }

-- The line was answered so. The engine stands for the state behind it, a later one; the log files are as they were, where nothing more
-- is forced and no file begins; no other file changes than log files from the current one on.
pub record Advances {V : Type 0} (g : Ghosts V) (before : Running V) (s : State) (request : Request) (reply : Reply) (behind : Running V) : Type 0 where
  pub after : State
  pub answers : Answers request s reply after
  pub stands : Represents behind.engine (g.now behind.logs) after
  pub writes : Writes g before.engine.log before.logs s behind.engine.log behind.logs after

-- A call failed in the line. Opening what a crash may leave finds a prefix of the trail that the line has, with all that was forced
-- before it. The line has something to force, or a file to begin.
pub record Stops {V : Type 0} (g : Ghosts V) (e : Engine) (old : V) (s : State) (request : Request) (new : V) : Type 0 where
  pub leaves : CrashLeavesForced e.log (g.now old) (g.may old) → LeavesOpening s.forced ((answer request s).1) (g.may new)
  pub breaks : Breaks g e.log old s new ((answer request s).1)

-- The same of the end of a script.
pub record StopsAtEnd {V : Type 0} (g : Ghosts V) (e : Engine) (old : V) (s : State) (new : V) : Type 0 where
  pub leaves : CrashLeavesForced e.log (g.now old) (g.may old) → LeavesOpening s.forced s (g.may new)
  pub breaks : Breaks g e.log old s new (script_ended s)

-- What came of a line. Where it was answered the log is open and, for each state that the engine stood for, it advanced; where a call
-- failed it stopped.
pub record Steps {V : Type 0} (g : Ghosts V) (e : Engine) (old : V) (request : Request) (e' : Engine) (new : V) (result : Result Reply Failed) : Type 0 where
  pub ready : OnOk result (IsOpen e'.log (g.now new) (g.may new))
  pub done : (s : State) → Represents e (g.now old) s → IfOk result (λ reply. Advances g (at e old) s request reply (at e' new))
  pub stopped : (s : State) → Represents e (g.now old) s → OnErr result (Stops g e old s request new)

-- What came of the end of a script.
pub record Ends {V T : Type 0} (g : Ghosts V) (e : Engine) (old : V) (e' : Engine) (new : V) (result : Result T Failed) : Type 0 where
  pub ready : OnOk result (IsOpen e'.log (g.now new) (g.may new))
  pub stands : (s : State) → Represents e (g.now old) s → OnOk result (Represents e' (g.now new) (script_ended s))
  pub written : (s : State) → Represents e (g.now old) s → OnOk result (Writes g e.log old s e'.log new (script_ended s))
  pub stopped : (s : State) → Represents e (g.now old) s → OnErr result (StopsAtEnd g e old s new)
