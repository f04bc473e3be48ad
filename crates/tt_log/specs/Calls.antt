-- The words of `Log` at a bound `V: Volume`: how its files stand on the volume, what a call does to them, and what a crash
-- leaves there. Each ends in `On`. Of a volume that tells nothing they say nothing.
use Rattle.std.specs.Prelude.{◌≡◌, ◌⊎◌, ◌<◌, ◌≤◌, ◌+◌, ◌++◌, ◌∷◌, [], ℕ, filter, Bool, true, false, if◌then◌else◌, IfOk, IfErr, OnOk, OnErr, IsSome, None, Result, Ok, Err}
use Rattle.tt_disk.specs.Volume.{Files, File}
use Rattle.tt_disk.specs.declared.volume.Name.TheVariants.{Log as LogFile}
use Rattle.tt_disk.specs.declared.volume.Volume.{Ghosts}
use Rattle.tt_gate.specs.Calls.{HasCauseOn}
use Rattle.tt_gate.specs.Limits.{new_file_length}
use Rattle.tt_gate.specs.GateFile.{CrashLeavesAtMost}
use Rattle.tt_value.specs.declared.position.Position.{Position}
use Rattle.tt_record.specs.declared.entry.Entry.{Entry}
use Rattle.tt_log.specs.declared.log.Log.{Log}
use Rattle.tt_log.specs.declared.refusal.LogRefusal.{LogRefusal}
use Rattle.tt_log.specs.declared.refusal.LogRefusal.TheVariants.{Failed, NoMemory}
use Rattle.tt_log.specs.declared.visitor.EntryVisitor.{Ghosts as Visitors}
use Rattle.tt_log.specs.Limits.{log_names_end}
use Rattle.tt_log.specs.Walk.{LogContents, file_read, is_since, log_of, nothing, switched, with_more}
use Rattle.tt_log.specs.Opening.{started}
use Rattle.tt_log.specs.Visitor.{Visits, VisitsLog, VisitsPart}
use Rattle.tt_log.specs.Log.{MayLeaveLogs, IsOpen, CrashLeavesLog, CrashLeavesForced, CrashLeavesForcedOrAll, ForcedBeforeNextFile, GoneInOrder, AddsFile, AddsNone, IsUntouched, OnlyTwo, OnlyBetween, current_file_of, entries_in, first_file_of, forced_of, forces_earlier, trail_of, unforced, room_made}

-- this holds of the log file of this number
abbrev pub OfFile : {V : Type 0} → Ghosts V → ℕ → V → (File → Type 0) → Type 0
OfFile g number volume holds = g.told → holds (g.now volume (LogFile number))

-- this holds of the files
abbrev pub OfFiles : {V : Type 0} → Ghosts V → V → (Files → Type 0) → Type 0
OfFiles g volume holds = g.told → holds (g.now volume)

-- the log's files stand as its last call left them
abbrev pub IsOpenOn : {V : Type 0} → Ghosts V → Log → V → Type 0
IsOpenOn g log volume = g.told → IsOpen log (g.now volume) (g.may volume)

-- the walk from file 0 finds the log without entries
abbrev pub IsEmptyOn : {V : Type 0} → Ghosts V → V → Type 0
IsEmptyOn g volume = g.told → log_of 0 (g.now volume) ≡ Ok nothing

-- a crash leaves the log without entries
abbrev pub CrashLeavesEmptyOn : {V : Type 0} → Ghosts V → V → Type 0
CrashLeavesEmptyOn g volume = g.told → CrashLeavesLog 0 (Ok nothing) (g.may volume)

-- a crash leaves no log but the one without entries, where one before left a first file no longer than a new one
abbrev pub CrashLeavesNoEntryOn : {V : Type 0} → Ghosts V → V → V → Type 0
CrashLeavesNoEntryOn g old new = g.told → CrashLeavesAtMost new_file_length (g.may old (LogFile 0))
    → (files : Files) → MayLeaveLogs (g.may new) files → (found : LogContents) → log_of 0 files ≡ Ok found → found ≡ nothing

-- a call of the volume failed, memory was wanting, or the files from that of a position on are refused so
abbrev pub OpeningRefusedOn : {V : Type 0} → Ghosts V → Position → V → LogRefusal → Type 0
OpeningRefusedOn g from volume refusal =
    g.told → (refusal ≡ Failed) ⊎ ((refusal ≡ NoMemory) ⊎ (started from (g.now volume) ≡ Err refusal))

-- just those of the forced entries are left that lie in the log's first file or behind it
abbrev pub KeepsForcedSinceOn : {V : Type 0} → Ghosts V → Log → V → Log → V → Type 0
KeepsForcedSinceOn g log old after new =
    g.told → forced_of after (g.now new) ≡ filter (is_since (first_file_of after)) (forced_of log (g.now old))

-- a crash leaves just the forced entries, where one before left just those that were forced then
abbrev pub KeepsForcedOn : {V : Type 0} → Ghosts V → Log → V → Log → V → Type 0
KeepsForcedOn g log old after new = g.told → CrashLeavesForced log (g.now old) (g.may old) → CrashLeavesForced after (g.now new) (g.may new)

-- the walk finds also the entries that weren't forced
abbrev pub ForcesAllOn : {V : Type 0} → Ghosts V → Log → V → V → Type 0
ForcesAllOn g log old new = g.told → log_of (first_file_of log) (g.now new) ≡ with_more (unforced log) (log_of (first_file_of log) (g.now old))

-- the walk finds also the entries that weren't forced, and ends in the next file
abbrev pub SwitchesFileOn : {V : Type 0} → Ghosts V → Log → V → V → Type 0
SwitchesFileOn g log old new = g.told → log_of (first_file_of log) (g.now new) ≡ switched (with_more (unforced log) (log_of (first_file_of log) (g.now old)))

-- the walk finds what it finds once there is room for an entry
abbrev pub MakesRoomOn : {V : Type 0} → Ghosts V → Log → Entry → V → V → Type 0
MakesRoomOn g log entry old new = g.told → log_of (first_file_of log) (g.now new) ≡ room_made log entry (log_of (first_file_of log) (g.now old))

-- no file but the log file of this number and the next one changed
abbrev pub ChangesTwoLogsOn : {V : Type 0} → Ghosts V → ℕ → V → V → Type 0
ChangesTwoLogsOn g number old new = g.told → OnlyTwo (LogFile number) (LogFile (number + 1)) (g.now old) (g.now new) (g.may old) (g.may new)

-- no file but the log files of this range of numbers changed
abbrev pub ChangesLogsOn : {V : Type 0} → Ghosts V → ℕ → ℕ → V → V → Type 0
ChangesLogsOn g from end old new = g.told → OnlyBetween from end (g.now old) (g.now new) (g.may old) (g.may new)

-- the log files from one number up to another, which is among them, stay as they are
abbrev pub KeepsLogsOn : {V : Type 0} → Ghosts V → ℕ → ℕ → V → V → Type 0
KeepsLogsOn g from last old new =
    g.told → (k : ℕ) → from ≤ k → k ≤ last → IsUntouched (LogFile k) (g.now old) (g.now new) (g.may old) (g.may new)

-- the log files that are there are those that were, and the one of this number
abbrev pub AddsFileOn : {V : Type 0} → Ghosts V → ℕ → V → V → Type 0
AddsFileOn g number old new = g.told → AddsFile number (g.now old) (g.now new)

-- of the log files of this range of numbers those below some number are gone, and those above it are as they were
abbrev pub GoneInOrderOn : {V : Type 0} → Ghosts V → ℕ → ℕ → V → V → Type 0
GoneInOrderOn g from end old new = g.told → GoneInOrder from end (g.now old) (g.now new)

-- a crash leaves of each log file what one before could leave, or none
abbrev pub CrashRemovesLogsOn : {V : Type 0} → Ghosts V → V → V → Type 0
CrashRemovesLogsOn g old new = g.told → (k : ℕ) (c : File) → g.may new (LogFile k) c → g.may old (LogFile k) c ⊎ (c ≡ None)

-- no log file of this range of numbers is there
abbrev pub HasNoLogOn : {V : Type 0} → Ghosts V → ℕ → ℕ → V → Type 0
HasNoLogOn g from end volume = g.told → (k : ℕ) → from ≤ k → k < end → g.now volume (LogFile k) ≡ None

-- no log file with a number above this one is there
abbrev pub HasNoLogAboveOn : {V : Type 0} → Ghosts V → ℕ → V → Type 0
HasNoLogAboveOn g number volume = g.told → (k : ℕ) → number < k → k < log_names_end → g.now volume (LogFile k) ≡ None

-- the log files from one number up to another are there, which is among them
abbrev pub HasLogsOn : {V : Type 0} → Ghosts V → ℕ → ℕ → V → Type 0
HasLogsOn g from last volume = g.told → (k : ℕ) → from ≤ k → k ≤ last → IsSome (g.now volume (LogFile k))

-- a call of the volume failed
abbrev pub FailsOn : {V T : Type 0} → Ghosts V → Result T LogRefusal → Type 0
FailsOn g result = g.told → IfErr result (λ e. e ≡ Failed)

-- a call of the volume failed, or memory was wanting
abbrev pub FailsOrWantsMemoryOn : {V T : Type 0} → Ghosts V → Result T LogRefusal → Type 0
FailsOrWantsMemoryOn g result = g.told → IfErr result (λ e. (e ≡ Failed) ⊎ (e ≡ NoMemory))

-- A log that was opened from a position on: what it stands for in the files.
pub record OpensOn {V : Type 0} (g : Ghosts V) (from : Position) (old : V) (log : Log) (new : V) : Type 0 where
  -- the log's files stand as its last call left them
  pub ready : IsOpenOn g log new
  -- the walk from the log's first file finds what the files from that of the position on were found to be
  pub found : g.told → log_of (first_file_of log) (g.now new) ≡ started from (g.now old)
  -- a crash leaves just the forced entries, where one before left the files from that one on as they read
  pub kept : g.told → CrashLeavesLog from.file (log_of from.file (g.now old)) (g.may old) → CrashLeavesForced log (g.now new) (g.may new)

-- The entries of a log, once one more was appended.
pub record AppendsOn {V E : Type 0} (g : Ghosts V) (entry : Entry) (log : Log) (old : V) (after : Log) (new : V) (result : Result Position E) : Type 0 where
  -- the entry is the last one, at the position that is answered
  pub trail : g.told → IfOk result (λ at. trail_of after (g.now new) ≡ trail_of log (g.now old) ++ (at, entry) ∷ [])
  -- an entry that begins a file, or for which the buffer has no room, forces all entries before it
  pub forced : g.told → OnOk result (forced_of after (g.now new) ≡ (if forces_earlier log entry then trail_of log (g.now old) else forced_of log (g.now old)))
  -- the log files that are there are those that were, and the one that the entry lies in
  pub files : IfOk result (λ at. AddsFileOn g at.file old new)

-- The entries of a log, once all are forced.
pub record ForcesOn {V : Type 0} (g : Ghosts V) (log : Log) (old : V) (after : Log) (new : V) : Type 0 where
  pub trail : g.told → trail_of after (g.now new) ≡ trail_of log (g.now old)
  pub forced : g.told → forced_of after (g.now new) ≡ trail_of log (g.now old)
  -- no log file is new, and none is gone
  pub files : g.told → AddsNone (g.now old) (g.now new)

-- What a call that adds to a log leaves of it on the volume.
pub record LeavesOn {V T E : Type 0} (g : Ghosts V) (log : Log) (old : V) (after : Log) (new : V) (result : Result T E) : Type 0 where
  -- where it was answered, the log's files stand as it left them
  pub ready : OnOk result (IsOpenOn g after new)
  -- where it was answered, a crash leaves just the forced entries, if one before did
  pub kept : OnOk result (KeepsForcedOn g log old after new)
  -- answered or failed, a crash leaves just the entries that were forced before, or all that there were, if one before left just the former
  pub crash : g.told → CrashLeavesForced log (g.now old) (g.may old) → CrashLeavesForcedOrAll log (g.now old) (g.may new)
  -- answered or failed, the next file is touched only once all entries before are forced
  pub order : g.told → ForcedBeforeNextFile log (g.now old) (g.now new) (g.may old) (g.may new)

-- When a call that adds to a log has calls on the volume, and how it can fail.
pub record MovesOn {V T E : Type 0} (g : Ghosts V) (moves : Bool) (old new : V) (result : Result T E) : Type 0 where
  -- where it has nothing to write, the volume had no call,
  pub quiet : moves ≡ false → new ≡ old
  -- and none failed
  pub fails : OnErr result (moves ≡ true)
  -- a failure is one that the volume counted
  pub cause : HasCauseOn g old new result

-- The log files that go: those below a number, and those above the current one.
pub record RemovesOn {V T E : Type 0} (g : Ghosts V) (file : ℕ) (log : Log) (old new : V) (result : Result T E) : Type 0 where
  pub below : OnOk result (HasNoLogOn g 0 file new)
  pub above : OnOk result (HasNoLogAboveOn g (current_file_of log) new)
  -- however it ends, those below went in ascending order
  pub ascending : GoneInOrderOn g 0 file old new
  -- no file but log files changed
  pub others : ChangesLogsOn g 0 log_names_end old new

-- a visitor takes the entries of a file, where a walk through it was answered
abbrev pub VisitsFileOn : {V T A E : Type 0} → Ghosts V → Visitors T → ℕ → V → T → T → Result A E → Type 0
VisitsFileOn g v number volume old new result =
    g.told → OnOk result (VisitsPart number (v.visited old) (v.visited new) (file_read number (g.now volume (LogFile number))))

-- a visitor that has taken the entries of a file takes those of the files behind it, where a walk through these was answered
abbrev pub VisitsBehindOn : {V T A E : Type 0} → Ghosts V → Visitors T → ℕ → V → T → T → Result A E → Type 0
VisitsBehindOn g v number volume old new result = g.told → OnOk result (VisitsLog number (v.visited old) (v.visited new) (g.now volume))

-- a visitor takes the entries from a file on, where a walk through the log was answered
abbrev pub VisitsLogOn : {V T A E : Type 0} → Ghosts V → Visitors T → ℕ → V → T → T → Result A E → Type 0
VisitsLogOn g v number volume old new result =
    g.told → OnOk result (Visits (v.visited old) (v.visited new) (entries_in (log_of number (g.now volume))))
