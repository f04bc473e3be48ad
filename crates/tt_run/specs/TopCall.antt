-- The words of the top call: what `create DIR` and `run DIR` make of their devices. Of a device that tells nothing they say nothing.
use Rattle.std.specs.Prelude.{◌≡◌, ◌≢◌, ◌≤◌, ◌⊎◌, ℕ, List, length, map, String, string_bytes, Option, Some, None, IsSome, Result, Ok, Err}
use Rattle.tt_disk.specs.Calls.{KeepsFiles}
use Rattle.tt_disk.specs.Volume.{Keeps}
use Rattle.tt_disk.specs.declared.volume.Name.TheVariants.{Log as LogFile}
use Rattle.tt_disk.specs.declared.volume.Volume.{Ghosts}
use Rattle.tt_flow.specs.Script.{script_most}
use Rattle.tt_flow.specs.declared.stream.Sink.{Ghosts as SinkGhosts}
use Rattle.tt_flow.specs.declared.stream.Source.{Ghosts as SourceGhosts}
use Rattle.tt_value.specs.declared.reply.Stop.TheVariants.{Logs}
use Rattle.tt_journal.specs.LogTrail.{ChangesFrom}
use Rattle.tt_model.specs.Opened.{Opened}
use Rattle.tt_set.specs.Settings.{Says}
use Rattle.tt_set.specs.declared.settings.Settings.{Settings}
use Rattle.tt_engine.specs.declared.refusal.OpenRefusal.{OpenRefusal}
use Rattle.tt_engine.specs.Prefixes.{LeavesOpening, LogsAreSettled}
use Rattle.tt_engine.specs.Starts.{begun_over, database}
use Rattle.tt_run.specs.Attributes.{EndedInAttributes, ForSettings, IsBadSo, IsRefusedFor, IsSaid}
use Rattle.tt_run.specs.Devices.{DoesNothing, SinkFailed, SourceFailed, VolumeFailed}
use Rattle.tt_run.specs.Openings.{HasNoPlace, IsBeforeLines, IsBeforeOpening, IsCreated, IsCreateText, IsDoneOrWanting, IsOpened, LeavesNoLog, LeavesNoOther, mark_place}
use Rattle.tt_run.specs.Run.{IsRun}
use Rattle.tt_run.specs.ScriptRun.{told_between}
use Rattle.tt_run.specs.Words.{form_of}
use Rattle.tt_run.specs.declared.devices.Devices.{Devices}
use Rattle.tt_run.specs.declared.status.Status.{Status}
use Rattle.tt_run.specs.declared.status.Status.TheVariants.{LogOut, NoMemory, Usage, VolumeFault}
use Rattle.tt_run.specs.declared.words.Action.{Action}
use Rattle.tt_run.specs.declared.words.Action.TheVariants.{Create}

-- ---- words and attributes

-- the words of the command line ask for this
abbrev pub Asks : {Z : Type 0} → List (String Z) → Action → Type 0
Asks words action = form_of (map string_bytes words) ≡ Some action

-- the words of the command line have a form
abbrev pub HaveForm : {Z : Type 0} → List (String Z) → Type 0
HaveForm words = form_of (map string_bytes words) ≢ None

-- attributes that tell their text, in which this is the first name that isn't right, end the run with it, unless they couldn't be read
abbrev pub RefusesWrong : Option (List ℕ) → Status → Type 0
RefusesWrong told status = (text name : List ℕ) → told ≡ Some text → Says text (Err name) → IsRefusedFor name status

-- what attributes that tell their text say is the answer, unless they couldn't be read
abbrev pub SaysOnly : Option (List ℕ) → Result Settings Status → Type 0
SaysOnly told result = (text : List ℕ) (said : Result Settings (List ℕ)) → told ≡ Some text → Says text said → IsSaid said result

-- A run ends with BadAttribute just for the first name that isn't right in the text of its attributes, where they tell it. A fault of the
-- attributes, or want of memory, may come in its place.
pub record JudgesAttributes {A Z : Type 0} (a : SourceGhosts A) (words : List (String Z)) (attributes : A) (status : Status) : Type 0 where
  pub only : (text : List ℕ) → a.left attributes ≡ Some text → IsBadSo text status
  pub always : HaveForm words → RefusesWrong (a.left attributes) status

-- ---- what was left alone

-- nothing was written, and no log file changed
abbrev pub WritesNothing : {K V : Type 0} → Ghosts V → K → K → V → V → Type 0
WritesNothing g sink sink' old new = (sink' ≡ sink) × KeepsFiles g old new

-- By status, what had no call. Nothing was read of the script, written or changed where a status comes before the lines; the log files
-- had no call where it comes before the database is opened. The words come before the attributes, and `create DIR` reads no script.
-- Images and backups aren't used yet.
pub record Untouched {S A K L C B Z : Type 0} (a : SourceGhosts A) (g : Ghosts L) (words : List (String Z)) (old new : Devices S A K L C B) (status : Status) : Type 0 where
  pub before_lines : IsBeforeLines status → DoesNothing g old new
  pub no_place : status ≡ LogOut → HasNoPlace (a.left old.attributes) (g.now old.logs) → DoesNothing g old new
  pub attributes_first : IsBeforeOpening status → new.logs ≡ old.logs
  pub words_first : status ≡ Usage → new.attributes ≡ old.attributes
  pub create_script : Asks words Create → new.script ≡ old.script
  pub images : new.images ≡ old.images
  pub backups : new.backups ≡ old.backups

-- ---- `create DIR`

-- a database was made, or is there, or the log files failed
abbrev pub CreatedOn : {V : Type 0} → Ghosts V → V → V → Status → Type 0
CreatedOn g old new status = g.told → IsCreated (g.now old (LogFile 0)) status (g.now new) (g.may new)

-- a database was made, or is there, or the log files failed, or the run ended in its attributes
abbrev pub CreatesOn : {V : Type 0} → Ghosts V → Option (List ℕ) → V → V → Status → Type 0
CreatesOn g attributes old new status =
    g.told → EndedInAttributes attributes status ⊎ IsCreated (g.now old (LogFile 0)) status (g.now new) (g.may new)

-- a database that is there stays as it is
abbrev pub KeepsDatabase : {V : Type 0} → Ghosts V → V → V → Type 0
KeepsDatabase g old new =
    (file : List ℕ) → g.told → g.now old (LogFile 0) ≡ Some file → Keeps (g.now old) (g.now new) (g.may old) (g.may new)

-- a crash leaves no log that opens as another than a new database, if none could be left before
abbrev pub CrashLeavesNoOtherOn : {V : Type 0} → Ghosts V → V → V → Type 0
CrashLeavesNoOtherOn g old new = g.told → LeavesNoLog (g.may old) → LeavesNoOther (g.may new)

-- what `create` wrote
abbrev pub WritesCreated : {K : Type 0} → SinkGhosts K → K → K → Status → Type 0
WritesCreated k old new status = IsCreateText (k.given old) (k.given new) status (new ≡ old)

-- What `create DIR` makes. Over told files a database is made where there is none. One that is there stays as it is, whatever failed;
-- and however the call ends, a log that a crash leaves opens as a new database, or not at all, if none could be left before. Where no
-- count rose, the attributes are right and there was no first log file, it is done, unless memory is wanting.
pub record Creates {S A K L C B : Type 0} (a : SourceGhosts A) (k : SinkGhosts K) (g : Ghosts L) (old new : Devices S A K L C B) (status : Status) : Type 0 where
  pub made : CreatesOn g (a.left old.attributes) old.logs new.logs status
  pub there : KeepsDatabase g old.logs new.logs
  pub no_other : CrashLeavesNoOtherOn g old.logs new.logs
  pub text_written : WritesCreated k old.sink new.sink status
  pub complete : (text : List ℕ) (settings : Settings) → g.told → a.left old.attributes ≡ Some text → Says text (Ok settings) → g.now old.logs (LogFile 0) ≡ None
      → ¬ (SourceFailed a old.attributes new.attributes) → ¬ (SinkFailed k old.sink new.sink) → ¬ (VolumeFailed g old.logs new.logs) → IsDoneOrWanting status

-- ---- `run DIR`

-- over files that can't be opened nothing is read of the script or written, and no log file changes
abbrev pub KeepsRefused : {S A K L C B : Type 0} → Ghosts L → Devices S A K L C B → Devices S A K L C B → Type 0
KeepsRefused g old new = (refusal : OpenRefusal) → g.told → database (g.now old.logs) ≡ Err refusal → DoesNothing g old new

-- The log files failed at the Mark, before the first line: nothing was read of the script or written, and a crash leaves what was
-- found, and perhaps the Mark.
pub record FailsAtMark {S A K L C B : Type 0} (g : Ghosts L) (settings : Settings) (found : Opened) (old new : Devices S A K L C B) : Type 0 where
  pub script : new.script ≡ old.script
  pub sink : new.sink ≡ old.sink
  pub others : ChangesFrom found.end.file (g.now old.logs) (g.now new.logs) (g.may old.logs) (g.may new.logs)
  pub crash : LogsAreSettled (g.now old.logs) (g.may old.logs) → LeavesOpening (length found.entries) (begun_over settings (g.now old.logs) found) (g.may new.logs)

-- A run over what was found ended before its first line: for want of memory, since the Mark has no place, or in the log files.
abbrev pub EndedEarly : {S A K L C B : Type 0} → Ghosts L → Settings → Opened → Devices S A K L C B → Devices S A K L C B → Status → Type 0
EndedEarly g settings found old new NoMemory = Unit {0}
EndedEarly g settings found old new LogOut = mark_place settings found ≡ None
EndedEarly g settings found old new (VolumeFault Logs) = FailsAtMark g settings found old new
EndedEarly g settings found old new _ = ⊥

-- By these settings, how the database was opened, and what the run then did, unless it ended before the lines.
pub record RunsWith {S A K L C B : Type 0} (s : SourceGhosts S) (k : SinkGhosts K) (g : Ghosts L) (settings : Settings) (old new : Devices S A K L C B) (status : Status) : Type 0 where
  pub opened : IsOpened settings (database (g.now old.logs)) status
  pub ran : (found : Opened) → database (g.now old.logs) ≡ Ok found
      → EndedEarly g settings found old new status ⊎ IsRun g (settings, found) (told_between s k old new) old.logs new.logs status

-- What `run DIR` does. By the settings that the attributes give, it opens the database and does the lines; one that can't be opened
-- stays as it is, whatever failed. Where no count rose, a script that isn't too long is done to its end, unless memory is wanting before
-- the lines.
pub record Runs {S A K L C B : Type 0} (s : SourceGhosts S) (a : SourceGhosts A) (k : SinkGhosts K) (g : Ghosts L) (old new : Devices S A K L C B) (status : Status) : Type 0 where
  pub ran : g.told → ForSettings (a.left old.attributes) status (λ settings. RunsWith s k g settings old new status)
  pub refused : KeepsRefused g old new
  pub complete : (bytes text : List ℕ) (settings : Settings) (found : Opened) → g.told → s.left old.script ≡ Some bytes → length bytes ≤ script_most
      → a.left old.attributes ≡ Some text → Says text (Ok settings) → database (g.now old.logs) ≡ Ok found → IsSome (mark_place settings found)
      → ¬ (SourceFailed s old.script new.script) → ¬ (SourceFailed a old.attributes new.attributes)
      → ¬ (SinkFailed k old.sink new.sink) → ¬ (VolumeFailed g old.logs new.logs) → IsDoneOrWanting status
