-- How a run begins.
use Rattle.std.proofs.Common.{◌≡◌, ◌⊎◌, inl, inr, ◌^◌, ◌<◌, ◌≤◌, ◌∙◌, ℕ, [], List, length, Option, Some, None, Result, Ok, Err, refl, sym, ap, ap₂, subst, arith}
use Rattle.std.specs.Prelude.{IfSome, IsSome, option_map, take}
use Rattle.tt_flow.specs.Script.{ended_lines, script_most}
use Rattle.tt_disk.specs.Volume.{Keeps, size_of, Files, Outcomes}
use Rattle.tt_disk.specs.declared.volume.Name.TheVariants.{Log as LogFile}
use Rattle.tt_gate.specs.GateFile.{CrashLeavesAtMost}
use Rattle.tt_value.specs.declared.reply.Stop.TheVariants.{Logs}
use Rattle.tt_value.specs.declared.position.Position.{Position}
use Rattle.tt_set.specs.declared.settings.Settings.{Settings}
use Rattle.tt_log.specs.declared.refusal.LogRefusal.{LogRefusal}
use Rattle.tt_log.specs.declared.refusal.LogRefusal.TheVariants.{Gap}
use Rattle.tt_log.specs.Walk.{LogContents as Read, log_of, nothing}
use Rattle.tt_log.specs.Log.{CrashLeavesLog, MayLeaveLogs}
use Rattle.tt_model.specs.Opened.{Opened}
use Rattle.tt_model.specs.State.{State, with_entry}
use Rattle.tt_record.specs.Place.{position}
use Rattle.tt_model.specs.Trail.{Trail}
use Rattle.tt_recover.specs.Opening.{opened_from, opened_of, newest_first, opening}
use Rattle.tt_engine.specs.OpeningLaws.{database_found, database_opens, found_is, no_file, read_is, there}
use Rattle.tt_engine.specs.Prefixes.{IsSinceOpening, IsStill, LogsAreSettled, opens, or_none}
use Rattle.tt_journal.specs.LogTrail.{ChangesFrom}
use Rattle.tt_engine.specs.Starts.{begun_over, database, opened_in}
use Rattle.tt_model.specs.Run.{begun}
use Rattle.tt_engine.specs.declared.refusal.OpenRefusal.{OpenRefusal}
use Rattle.tt_flow.specs.declared.stream.Sink.{Ghosts as SinkGhosts}
use Rattle.tt_flow.specs.declared.stream.Source.{Ghosts as SourceGhosts}
use Rattle.tt_value.specs.declared.reply.Reply.{Reply}
use Rattle.tt_engine.specs.declared.request.Request.{Request}
use Rattle.tt_run.specs.declared.devices.Devices.{Devices}
use Rattle.tt_run.specs.declared.run_end.RunEnd.{RunEnd}
use Rattle.tt_run.specs.declared.run_end.RunEnd.TheVariants.{AtEnd, AtLine, AtSink, AtScript, ScriptOver}
use Rattle.tt_run.specs.declared.status.Status.{Status}
use Rattle.tt_run.specs.declared.status.Status.TheVariants.{Done, ScriptFault, SinkFault, VolumeFault, NoMemory, LogOut}
use Rattle.tt_run.specs.Openings.{HasNewDatabase, IsBeforeLines, IsCreated, IsDoneOrWanting, IsOpened, IsScriptRunEnd, LeavesNoOther, LeavesNoLog, mark_place, new_database}
use Rattle.tt_run.specs.Run.{EndsIn, HasDone, IsRun, IsRunFrom, Streams, moment}
use Rattle.tt_run.specs.RunEnd.{status_of}
use Rattle.tt_run.specs.ScriptRun.{IsRunEnd, told_between}
use Rattle.tt_run.specs.TopCall.{EndedEarly, RunsWith}
use Rattle.tt_run.proofs.RunLemmas.{run_changes, run_still, run_under}
use Rattle.tt_disk.specs.declared.volume.Volume.{Ghosts}

-- a database that is refused is one whose log is damaged
pub record IsDamagedLog (files : Files) : Type 0 where
  pub refusal : LogRefusal
  pub is : opening files ≡ Err refusal

pub refused_log : (files : Files) (refusal : OpenRefusal) → database files ≡ Err refusal → IsDamagedLog files
unfolding opening
refused_log files refusal is = by (files (LogFile 0)) (opening files) refl refl is
  where
    by : (o : Option (List ℕ)) (r : Result Opened LogRefusal) → files (LogFile 0) ≡ o → opening files ≡ r → opened_in o r ≡ Err refusal → IsDamagedLog files
    by None r file log refused = record { refusal = Gap 0; is = ap opened_of (no_file files file) }
    by (Some f) (Ok found) file log refused = cc
    by (Some f) (Err e) file log refused = record { refusal = e; is = log }

-- ---- a new database

database_new : (files : Files) → log_of 0 files ≡ Ok nothing → database files ≡ Ok new_database
unfolding opening
database_new files is = ap₂ opened_in (there files nothing is).is (ap opened_of is)

opens_new : (files : Files) → log_of 0 files ≡ Ok nothing → opens files ≡ Some new_database
unfolding opening
opens_new files is = ap (λ (r : Result Read LogRefusal). or_none (opened_of r)) is

pub new_made : (now : Files) (may : Outcomes) → log_of 0 now ≡ Ok nothing → ((k : ℕ) → 0 < k → k < 2 ^ 32 → now (LogFile k) ≡ None) → CrashLeavesLog 0 (Ok nothing) may → HasNewDatabase now may
new_made now may made alone leaves = (database_new now made, alone, (new_database, opens_new now made, λ files left. opens_new files (leaves files left) ∙ sym (opens_new now made)))

-- a file that was sized and isn't there
pub no_size : (o : Option (List ℕ)) → None ≡ option_map length o → o ≡ None
no_size None is = refl
no_size (Some f) is = cc

pub some_size : (o : Option (List ℕ)) (file : List ℕ) → o ≡ Some file → None ≡ option_map length o → ⊥
some_size None file is sized = let bad : ⊥ = cc in bad
some_size (Some f) file is sized = let bad : ⊥ = cc in bad

pub made_done : (o : Option (List ℕ)) (now : Files) (may : Outcomes) → o ≡ None → HasNewDatabase now may → IsCreated o Done now may × IsCreated o SinkFault now may
made_done None now may none made = (made, made)
made_done (Some f) now may none made = cc

pub none_left : (may : Outcomes) → LeavesNoLog may → (files : Files) → MayLeaveLogs may files → (found : Opened) → opening files ≡ Ok found → found ≡ new_database
none_left may none files left found is =
    let read = read_is files found is in
    let refused : log_of 0 files ≡ Err (Gap 0) = no_file files (none (files (LogFile 0)) (left 0)) in
    let read_so : log_of 0 files ≡ Ok read.read = read.is in
    cc

-- where nothing was made
pub no_other_kept : (old now : Files) (may may' : Outcomes) → Keeps old now may may' → LeavesNoLog may → LeavesNoOther may'
no_other_kept old now may may' keeps none files left found is = none_left may none files (λ n. keeps.crash (LogFile n) (files (LogFile n)) (left n)) found is

-- where a log was to be made
pub no_other_made : (old now : Files) (may may' may'' : Outcomes) → Keeps old now may may'
    → (CrashLeavesAtMost 17 (may' (LogFile 0)) → (files : Files) → MayLeaveLogs may'' files → (read : Read) → log_of 0 files ≡ Ok read → read ≡ nothing) → LeavesNoLog may → LeavesNoOther may''
no_other_made old now may may' may'' keeps short none files left found is =
    let read = read_is files found is in
    let few : CrashLeavesAtMost 17 (may' (LogFile 0)) = λ c at. subst (λ (o : Option (List ℕ)). size_of o ≤ 17) (sym (none c (keeps.crash (LogFile 0) c at))) (omega arith) in
    let made = short few files left read.read read.is in
    let entries : found.entries ≡ [] = sym read.entries ∙ ap (λ (r : Read). newest_first r.entries) made in
    let end : found.end ≡ position 0 0 = sym read.end ∙ ap (λ (r : Read). r.end) made in
    found_is files found is ∙ ap (λ (es : Trail). opened_from es found.end) entries ∙ ap (λ (p : Position). opened_from [] p) end

-- ---- how a run may end

opened_end : (settings : Settings) (found : Opened) (end : RunEnd) → IsSome (mark_place settings found) → IsRunEnd end → IsOpened settings (Ok found) (status_of end)
opened_end settings found (AtEnd None) place ends = place
opened_end settings found (AtEnd (Some Logs)) place ends = tt
opened_end settings found (AtLine None Logs) place ends = tt
opened_end settings found (AtSink None) place ends = place
opened_end settings found AtScript place ends = place
opened_end settings found ScriptOver place ends = place
opened_end settings found _ place ends = absurd ends

-- a run whose lines have begun
pub opened_lines : (settings : Settings) (files : Files) (found : Opened) (end : RunEnd) → opening files ≡ Ok found → IsSome (mark_place settings found) → IsRunEnd end
    → IsOpened settings (database files) (status_of end)
opened_lines settings files found end is place ends =
    subst (λ (r : Result Opened OpenRefusal). IsOpened settings r (status_of end)) (sym (database_found files found is)) (opened_end settings found end place ends)

pub opened_refused : (settings : Settings) (r : Result Opened OpenRefusal) (refusal : OpenRefusal) (status : Status) → r ≡ Err refusal → IsOpened settings (Err refusal) status → IsOpened settings r status
opened_refused settings r refusal status is so = subst (λ (r : Result Opened OpenRefusal). IsOpened settings r status) (sym is) so

pub opened_out : (settings : Settings) (files : Files) (found : Opened) → opening files ≡ Ok found → mark_place settings found ≡ None → IsOpened settings (database files) LogOut
opened_out settings files found is none = subst (λ (r : Result Opened OpenRefusal). IsOpened settings r LogOut) (sym (database_found files found is)) none

pub failed_volume : (settings : Settings) (r : Result Opened OpenRefusal) → IsOpened settings r (VolumeFault Logs)
failed_volume settings (Ok found) = tt
failed_volume settings (Err refusal) = inr tt

pub wanted_memory : (settings : Settings) (r : Result Opened OpenRefusal) → IsOpened settings r NoMemory
wanted_memory settings (Ok found) = tt
wanted_memory settings (Err refusal) = inr tt

same_ok : (r : Result Opened LogRefusal) (a b : Opened) → r ≡ Ok a → r ≡ Ok b → a ≡ b
same_ok (Ok x) a b one two = cc
same_ok (Err e) a b one two = cc

pub same_found : (files : Files) (a b : Opened) → opening files ≡ Ok a → database files ≡ Ok b → a ≡ b
same_found files a b opens is = same_ok (opening files) a b opens (database_opens files b is)

pub found_not_refused : (files : Files) (found : Opened) (refusal : OpenRefusal) → opening files ≡ Ok found → database files ≡ Err refusal → ⊥
found_not_refused files found refusal opens is = let found_so : database files ≡ Ok found = database_found files found opens in let no : ⊥ = cc in no

-- what was found is what the run begins over
pub begun_found : (settings : Settings) (files : Files) (found : Opened) → (begun_over settings files found).found ≡ found
unfolding begun with_entry
begun_found settings files found = refl

-- a run, as it is seen from before the database was opened
pub run_over : {V : Type 0} (g : Ghosts V) (P : Type 0) (over : Settings × Opened) (told : Streams) (end : RunEnd) (status : Status) (old opened new : V) → IsSinceOpening (begun_over over.0 (g.now old) over.1)
    → (LogsAreSettled (g.now old) (g.may old) → P) → (IsStill (begun_over over.0 (g.now old) over.1) → Keeps (g.now old) (g.now opened) (g.may old) (g.may opened))
    → ChangesFrom over.1.end.file (g.now old) (g.now opened) (g.may old) (g.may opened)
    → IsRunFrom g P told (moment (begun_over over.0 (g.now old) over.1) opened) end new → status ≡ status_of end → IsRun g over told old new status
run_over g P over told end status old opened new since settled still opening ran is =
    let start = begun_over over.0 (g.now old) over.1 in
    let Q = LogsAreSettled (g.now old) (g.may old) in
    let same : start.found ≡ over.1 = begun_found over.0 (g.now old) over.1 in
    let under : IsRunFrom g Q told (moment start opened) end new = run_under g P Q told (moment start opened) end new settled ran in
    record {
      end = end;
      is = is;
      opened = opened;
      unchanged = still;
      lines = under;
      still = run_still g Q told start end old opened new since still under;
      others = subst (λ (f : Opened). ChangesFrom f.end.file (g.now old) (g.now new) (g.may old) (g.may new)) same
          (run_changes g Q told start end old opened new since (subst (λ (f : Opened). ChangesFrom f.end.file (g.now old) (g.now opened) (g.may old) (g.may opened)) (sym same) opening) under);
    }

none_there : (o : Option Position) → o ≡ None → IsSome o → ⊥
none_there None none some = let bad : ⊥ = cc in bad
none_there (Some at) none some = let bad : ⊥ = cc in bad

-- a script that isn't too long doesn't end a run as one that is
not_over : (script : Option (List ℕ)) (bytes : List ℕ) (lines : List (Option (List ℕ))) → script ≡ Some bytes → length bytes ≤ script_most → IfSome script (λ b. (script_most < length b) × (ended_lines (take script_most b) ≡ lines)) → ⊥
not_over script bytes lines is short over =
    let long : (script_most < length bytes) × (ended_lines (take script_most bytes) ≡ lines) = subst (λ (o : Option (List ℕ)). IfSome o (λ b. (script_most < length b) × (ended_lines (take script_most b) ≡ lines))) is over in
    let more = long.0 in omega (arith, more, short)

-- a run that ended so is done, where nothing failed
run_completes : (told : Streams) (bytes : List ℕ) (replies : List (Request × Reply)) (s last : State) (end : RunEnd) (status : Status) (script sink logs : Type 0) → told.script ≡ Some bytes → length bytes ≤ script_most → status ≡ status_of end
    → HasDone told replies s last end → (status ≡ ScriptFault → script) → (status ≡ SinkFault → sink) → (status ≡ VolumeFault Logs → logs) → ¬ script → ¬ sink → ¬ logs → IsDoneOrWanting status
run_completes told bytes replies s last end status script sink logs is short named done at_script at_sink at_logs no_script no_sink no_logs = by end named done.ends
  where
    by : (end : RunEnd) → status ≡ status_of end → EndsIn told.script told.left done.lines s last end → IsDoneOrWanting status
    by (AtEnd None) named ends = inl named
    by (AtEnd (Some Logs)) named ends = absurd (no_logs (at_logs named))
    by (AtLine None Logs) named ends = absurd (no_logs (at_logs named))
    by (AtSink None) named ends = absurd (no_sink (at_sink named))
    by AtScript named ends = absurd (no_script (at_script named))
    by ScriptOver named ends = absurd (not_over told.script bytes done.lines is short ends.0)
    by _ named ends = absurd ends

-- a run that ended before its lines had no memory, where nothing failed
early_completes : {S A K L C B : Type 0} (g : Ghosts L) (settings : Settings) (found : Opened) (old new : Devices S A K L C B) (status : Status) (logs : Type 0) → EndedEarly g settings found old new status → (status ≡ VolumeFault Logs → logs) → IsSome (mark_place settings found) → ¬ logs → IsDoneOrWanting status
early_completes g settings found old new status logs ended at_logs place no_logs = by status ended at_logs
  where
    by : (status : Status) → EndedEarly g settings found old new status → (status ≡ VolumeFault Logs → logs) → IsDoneOrWanting status
    by NoMemory ended at_logs = inr refl
    by LogOut ended at_logs = absurd (none_there (mark_place settings found) ended place)
    by (VolumeFault Logs) ended at_logs = absurd (no_logs (at_logs refl))
    by _ ended at_logs = absurd ended

-- a run ends well where nothing failed
pub completes : {S A K L C B : Type 0} (s : SourceGhosts S) (k : SinkGhosts K) (g : Ghosts L) (settings : Settings) (found : Opened) (old new : Devices S A K L C B) (status : Status) (bytes : List ℕ) (script sink logs : Type 0)
    → RunsWith s k g settings old new status → database (g.now old.logs) ≡ Ok found → IsSome (mark_place settings found) → s.left old.script ≡ Some bytes → length bytes ≤ script_most
    → (status ≡ ScriptFault → script) → (status ≡ SinkFault → sink) → (status ≡ VolumeFault Logs → logs) → ¬ script → ¬ sink → ¬ logs → IsDoneOrWanting status
completes s k g settings found old new status bytes script sink logs runs is place told short at_script at_sink at_logs no_script no_sink no_logs =
    elim (runs.ran found is) [
      | inl early ↦ early_completes g settings found old new status logs early at_logs place no_logs
      | inr did ↦ run_completes (told_between s k old new) bytes did.lines.replies did.lines.behind.state did.lines.last did.end status script sink logs told short did.is did.lines.done at_script at_sink at_logs no_script no_sink no_logs
    ]

-- a run whose lines were begun didn't end before them
pub not_before_lines : (end : RunEnd) → IsRunEnd end → IsBeforeLines (status_of end) → ⊥
not_before_lines (AtEnd None) ends before = before
not_before_lines (AtEnd (Some Logs)) ends before = before
not_before_lines (AtLine None Logs) ends before = before
not_before_lines (AtSink None) ends before = before
not_before_lines AtScript ends before = before
not_before_lines ScriptOver ends before = before
not_before_lines _ ends before = ends

pub not_out : (end : RunEnd) → IsRunEnd end → status_of end ≡ LogOut → ⊥
not_out (AtEnd None) ends out = let bad : ⊥ = cc in bad
not_out (AtEnd (Some Logs)) ends out = let bad : ⊥ = cc in bad
not_out (AtLine None Logs) ends out = let bad : ⊥ = cc in bad
not_out (AtSink None) ends out = let bad : ⊥ = cc in bad
not_out AtScript ends out = let bad : ⊥ = cc in bad
not_out ScriptOver ends out = let bad : ⊥ = cc in bad
not_out _ ends out = ends

pub script_run_end : (end : RunEnd) → IsRunEnd end → IsScriptRunEnd (status_of end)
script_run_end (AtEnd None) ends = tt
script_run_end (AtEnd (Some Logs)) ends = tt
script_run_end (AtLine None Logs) ends = tt
script_run_end (AtSink None) ends = tt
script_run_end AtScript ends = tt
script_run_end ScriptOver ends = tt
script_run_end _ ends = absurd ends
