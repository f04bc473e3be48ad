-- How a run begins: a database that is made, or opened, or refused.
use Rattle.std.specs.Prelude.{◌<◌, ◌^◌, ◌≡◌, ◌⊎◌, ℕ, List, [], ◌∷◌, ◌++◌, codes, take, length, Option, Some, None, IsSome, Result, Ok, Err}
use Rattle.std.specs.Io.KnownBytes.{Appends}
use Rattle.tt_disk.specs.declared.volume.Name.{Name}
use Rattle.tt_disk.specs.Volume.{Files}
use Rattle.tt_disk.specs.declared.volume.Name.TheVariants.{Log as LogFile}
use Rattle.tt_value.specs.declared.position.Position.{Position}
use Rattle.tt_value.specs.declared.reply.Stop.TheVariants.{Logs, Images, Backups}
use Rattle.tt_record.specs.declared.entry.Entry.TheVariants.{Mark}
use Rattle.tt_record.specs.Entry.{length_of}
use Rattle.tt_record.specs.Place.{position_of, position}
use Rattle.tt_set.specs.declared.settings.Settings.{Settings}
use Rattle.tt_log.specs.Log.{MayLeaveLogs}
use Rattle.tt_model.specs.Opened.{Opened}
use Rattle.tt_recover.specs.Opening.{opened_from, opening}
use Rattle.tt_engine.specs.Prefixes.{LogsAreSettled}
use Rattle.tt_engine.specs.Starts.{database}
use Rattle.tt_engine.specs.declared.refusal.OpenRefusal.{OpenRefusal}
use Rattle.tt_engine.specs.declared.refusal.OpenRefusal.TheVariants as refusal
use Rattle.tt_run.specs.Attributes.{AreSettings}
use Rattle.tt_run.specs.declared.status.Status.{Status}
use Rattle.tt_run.specs.declared.status.Status.TheVariants.{Done, ScriptFault, AttributesFault, SinkFault, VolumeFault, NoMemory, Usage, Damaged, Exists, NoDatabase, BadAttribute, LogOut, ScriptTooLong}

-- ---- statuses

-- Statuses that come before any line was read or any reply written, and before any log file changed. LogOut may be one of them.
abbrev pub IsBeforeLines : Status → Type 0
IsBeforeLines AttributesFault = Unit {0}
IsBeforeLines NoMemory = Unit {0}
IsBeforeLines Usage = Unit {0}
IsBeforeLines (Damaged damage) = Unit {0}
IsBeforeLines Exists = Unit {0}
IsBeforeLines NoDatabase = Unit {0}
IsBeforeLines (BadAttribute name) = Unit {0}
IsBeforeLines _ = ⊥

-- statuses that come before the database is opened, or made
abbrev pub IsBeforeOpening : Status → Type 0
IsBeforeOpening AttributesFault = Unit {0}
IsBeforeOpening Usage = Unit {0}
IsBeforeOpening (BadAttribute name) = Unit {0}
IsBeforeOpening _ = ⊥

-- all was done, or memory was wanting
abbrev pub IsDoneOrWanting : Status → Type 0
IsDoneOrWanting status = (status ≡ Done) ⊎ (status ≡ NoMemory)

-- memory was wanting, or the log files failed, before the database was open
abbrev pub FailedEarly : Status → Type 0
FailedEarly NoMemory = Unit {0}
FailedEarly (VolumeFault Logs) = Unit {0}
FailedEarly _ = ⊥

-- how a run of a script may end
abbrev pub IsScriptRunEnd : Status → Type 0
IsScriptRunEnd Usage = ⊥
IsScriptRunEnd Exists = ⊥
IsScriptRunEnd AttributesFault = ⊥
IsScriptRunEnd (BadAttribute name) = ⊥
IsScriptRunEnd (VolumeFault Images) = ⊥
IsScriptRunEnd (VolumeFault Backups) = ⊥
IsScriptRunEnd _ = Unit {0}

-- how the making of a database may end
abbrev pub IsCreateEnd : Status → Type 0
IsCreateEnd Done = Unit {0}
IsCreateEnd SinkFault = Unit {0}
IsCreateEnd (VolumeFault Logs) = Unit {0}
IsCreateEnd Exists = Unit {0}
IsCreateEnd _ = ⊥

-- the status of a database that can't be opened
abbrev pub refused_as : OpenRefusal → Status
refused_as refusal.NoDatabase = NoDatabase
refused_as (refusal.Damaged damage) = Damaged damage
refused_as refusal.LogOut = LogOut
refused_as refusal.Failed = VolumeFault Logs
refused_as refusal.NoMemory = NoMemory

-- ---- `run DIR`

-- where the Mark would stand with which a run over this begins
abbrev pub mark_place : Settings → Opened → Option Position
mark_place settings found = position_of found.end (length_of Mark) settings.log_file_size

-- How a run may end where the database was opened as this: what can't be opened is refused so, and where there is no place for a
-- Mark, no line is done. Memory may have been wanting before, or the log files failed.
abbrev pub IsOpened : Settings → Result Opened OpenRefusal → Status → Type 0
IsOpened settings (Err refusal) status = (status ≡ refused_as refusal) ⊎ FailedEarly status
IsOpened settings (Ok found) Done = IsSome (mark_place settings found)
IsOpened settings (Ok found) ScriptFault = IsSome (mark_place settings found)
IsOpened settings (Ok found) SinkFault = IsSome (mark_place settings found)
IsOpened settings (Ok found) ScriptTooLong = IsSome (mark_place settings found)
IsOpened settings (Ok found) LogOut = mark_place settings found ≡ None
IsOpened settings (Ok found) NoMemory = Unit {0}
IsOpened settings (Ok found) (VolumeFault Logs) = Unit {0}
IsOpened settings (Ok found) _ = ⊥

-- The attributes are right and the database opens, but the Mark has no place.
pub record HasNoPlace (attributes : Option (List ℕ)) (files : Files) : Type 0 where
  pub settings : Settings
  pub found : Opened
  pub gives : AreSettings attributes settings
  pub opens : database files ≡ Ok found
  pub none : mark_place settings found ≡ None

-- ---- `create DIR`

-- a new database: no entries, and so no rows
abbrev pub new_database : Opened
new_database = opened_from [] (position 0 0)

-- it stands in these files, without another log file, and opening finds the same in each map of files that a crash may leave
abbrev pub HasNewDatabase : Files → (Name → Option (List ℕ) → Type 0) → Type 0
HasNewDatabase now may = (database now ≡ Ok new_database) × ((k : ℕ) → 0 < k → k < 2 ^ 32 → now (LogFile k) ≡ None) × LogsAreSettled now may

-- How `create` ended where the first log file was this: where it was there, it is refused; else a new database was made, unless the
-- log files failed.
abbrev pub IsCreated : Option (List ℕ) → Status → Files → (Name → Option (List ℕ) → Type 0) → Type 0
IsCreated (Some file) Exists now may = Unit {0}
IsCreated None Done now may = HasNewDatabase now may
IsCreated None SinkFault now may = HasNewDatabase now may
IsCreated log (VolumeFault Logs) now may = Unit {0}
IsCreated log _ now may = ⊥

-- a crash leaves no first log file
abbrev pub LeavesNoLog : (Name → Option (List ℕ) → Type 0) → Type 0
LeavesNoLog may = (c : Option (List ℕ)) → may (LogFile 0) c → c ≡ None

-- a crash leaves no log that opens as another than a new database
abbrev pub LeavesNoOther : (Name → Option (List ℕ) → Type 0) → Type 0
LeavesNoOther may = (files : Files) → MayLeaveLogs may files → (found : Opened) → opening files ≡ Ok found → found ≡ new_database

-- what `create` wrote
abbrev pub IsCreateText : Option (List ℕ) → Option (List ℕ) → Status → Type 0 → Type 0
IsCreateText before after Done untouched = Appends before after (codes "created" ++ 10 ∷ [])
IsCreateText before after SinkFault untouched = (n : ℕ) × Appends before after (take n (codes "created" ++ 10 ∷ []))
IsCreateText before after _ untouched = untouched
