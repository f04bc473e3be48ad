-- How a run ends in its attributes, and how it goes on behind them.
use Rattle.std.proofs.Common.{◌≡◌, ◌⊎◌, inl, inr, ℕ, List, Option, Some, None, Result, Ok, Err, String, refl, sym, subst}
use Rattle.tt_disk.specs.Volume.{Files, Keeps, Outcomes}
use Rattle.tt_disk.specs.declared.volume.Volume.{Ghosts}
use Rattle.tt_flow.specs.declared.stream.Sink.{Ghosts as SinkGhosts}
use Rattle.tt_flow.specs.declared.stream.Source.{Ghosts as SourceGhosts}
use Rattle.tt_value.specs.declared.reply.Stop.TheVariants.{Logs}
use Rattle.tt_model.specs.Opened.{Opened}
use Rattle.tt_set.specs.declared.settings.Settings.{Settings}
use Rattle.tt_run.specs.Attributes.{IsBadSo, IsFrom}
use Rattle.tt_run.specs.Devices.{DoesNothing, SourceFailed}
use Rattle.tt_run.specs.Openings.{IsBeforeLines, IsBeforeOpening, IsCreateEnd, IsCreated, IsDoneOrWanting}
use Rattle.tt_run.specs.TopCall.{Asks, Creates, EndedEarly, FailsAtMark, KeepsRefused, Runs, RunsWith, SaysOnly, Untouched}
use Rattle.tt_run.specs.declared.devices.Devices.{Devices}
use Rattle.tt_run.specs.declared.status.Status.{Status}
use Rattle.tt_run.specs.declared.status.Status.TheVariants.{AttributesFault, BadAttribute, Done, Exists, LogOut, NoMemory, SinkFault, Usage, VolumeFault}
use Rattle.tt_run.specs.declared.words.Action.TheVariants.{Create}
use Rattle.tt_run.specs.declared.run_end.RunEnd.{RunEnd}
use Rattle.tt_engine.specs.declared.engine.Engine.{Engine}
use Rattle.tt_engine.specs.OpeningLaws.{settled_reads}
use Rattle.tt_engine.specs.Prefixes.{IsSinceOpening, LogsAreSettled}
use Rattle.tt_engine.specs.Starts.{Opens, begun_over, database}
use Rattle.tt_journal.specs.LogTrail.{ChangesFrom}
use Rattle.tt_run.specs.Openings.{IsOpened, IsScriptRunEnd}
use Rattle.tt_run.specs.Run.{IsRun, moment}
use Rattle.tt_run.specs.RunEnd.{status_of}
use Rattle.tt_run.specs.ScriptRun.{DoesScript, IsRunEnd, WasSettled, told_between}
use Rattle.tt_run.proofs.OpenLemmas.{none_left, opened_lines, run_over, same_found}
use Rattle.tt_run.proofs.SettingsLemmas.{EndedSo, ended_complete, ended_in_attributes, ended_not_usage, ended_text}

same_files : (now : Files) (may : Outcomes) → Keeps now now may may
same_files now may = record { reads = λ n. refl; crash = λ n c at. at }

-- what is said of attributes in which a run ended
pub record EndsInAttributes {A : Type 0} (a : SourceGhosts A) (old new : A) (status : Status) : Type 0 where
  pub ended : EndedSo status
  pub says : (text : List ℕ) → a.left old ≡ Some text → IsFrom text (Err status)
  pub only : SaysOnly (a.left old) (Err status)
  pub failed : status ≡ AttributesFault → SourceFailed a old new

module _ {S A K L C B : Type 0} (s : SourceGhosts S) (a : SourceGhosts A) (k : SinkGhosts K) (g : Ghosts L) (old : Devices S A K L C B) (x : A) (status : Status) where
  -- ---- a run that ended in its attributes

  pub ended_creates : EndsInAttributes a old.attributes x status → Creates a k g old (record old { attributes = x }) status
  ended_creates e = record {
    made = λ told. inl (ended_in_attributes (a.left old.attributes) status e.says e.ended);
    there = λ file told is. same_files (g.now old.logs) (g.may old.logs);
    no_other = λ told none. none_left (g.may old.logs) none;
    text_written = ended_text status _ (k.given old.sink) e.ended refl;
    complete = λ text settings told given says none no_attributes no_sink no_logs. ended_complete status (SourceFailed a old.attributes x) settings e.ended (e.only text (Ok settings) given says) e.failed no_attributes;
  }

  pub ended_runs : EndsInAttributes a old.attributes x status → Runs s a k g old (record old { attributes = x }) status
  ended_runs e = record {
    ran = λ told. inl (ended_in_attributes (a.left old.attributes) status e.says e.ended);
    refused = λ refusal told is. record { script = refl; sink = refl; logs = λ told. same_files (g.now old.logs) (g.may old.logs) };
    complete = λ bytes text settings found told script short given says is place no_script no_attributes no_sink no_logs.
        ended_complete status (SourceFailed a old.attributes x) settings e.ended (e.only text (Ok settings) given says) e.failed no_attributes;
  }

  pub ended_untouched : {Z : Type 0} (words : List (String Z)) → EndedSo status → Untouched a g words old (record old { attributes = x }) status
  ended_untouched words ended = record {
    before_lines = λ before. record { script = refl; sink = refl; logs = λ told. same_files (g.now old.logs) (g.may old.logs) };
    no_place = λ out none. record { script = refl; sink = refl; logs = λ told. same_files (g.now old.logs) (g.may old.logs) };
    attributes_first = λ before. refl;
    words_first = λ usage. absurd (ended_not_usage status ended usage);
    create_script = λ asks. refl;
    images = refl;
    backups = refl;
  }

  -- ---- a run that went on behind them

  early_from : (settings : Settings) (found : Opened) (new : Devices S A K L C B) → EndedEarly g settings found (record old { attributes = x }) new status → EndedEarly g settings found old new status
  early_from settings found new ended = by status ended
    where
      by : (status : Status) → EndedEarly g settings found (record old { attributes = x }) new status → EndedEarly g settings found old new status
      by NoMemory e = e
      by LogOut e = e
      by (VolumeFault Logs) e = record { script = e.script; sink = e.sink; others = e.others; crash = e.crash }
      by _ e = absurd e

  pub runs_from : (settings : Settings) (new : Devices S A K L C B) → RunsWith s k g settings (record old { attributes = x }) new status → RunsWith s k g settings old new status
  runs_from settings new r = record {
    opened = r.opened;
    ran = λ found is. elim (r.ran found is) [ inl early ↦ inl (early_from settings found new early) | inr did ↦ inr did ];
  }

  pub nothing_from : (new : Devices S A K L C B) → DoesNothing g (record old { attributes = x }) new → DoesNothing g old new
  nothing_from new nothing = record { script = nothing.script; sink = nothing.sink; logs = nothing.logs }

-- words that have no form leave all as it is
pub usage_untouched : {S A K L C B Z : Type 0} (a : SourceGhosts A) (g : Ghosts L) (words : List (String Z)) (old : Devices S A K L C B) → Untouched a g words old old Usage
usage_untouched a g words old = record {
  before_lines = λ before. record { script = refl; sink = refl; logs = λ told. same_files (g.now old.logs) (g.may old.logs) };
  no_place = λ out none. record { script = refl; sink = refl; logs = λ told. same_files (g.now old.logs) (g.may old.logs) };
  attributes_first = λ before. refl;
  words_first = λ usage. refl;
  create_script = λ asks. refl;
  images = refl;
  backups = refl;
}

-- a database is made where nothing failed
pub create_completes : (status : Status) (log : Option (List ℕ)) (now : Files) (may : Outcomes) (sink logs : Type 0) → IsCreateEnd status → IsCreated log status now may → log ≡ None → (status ≡ SinkFault → sink) → (status ≡ VolumeFault Logs → logs)
    → ¬ sink → ¬ logs → IsDoneOrWanting status
create_completes status log now may sink logs ends created none at_sink at_logs no_sink no_logs = by status ends (subst (λ (o : Option (List ℕ)). IsCreated o status now may) none created) at_sink at_logs
  where
    by : (status : Status) → IsCreateEnd status → IsCreated None status now may → (status ≡ SinkFault → sink) → (status ≡ VolumeFault Logs → logs) → IsDoneOrWanting status
    by Done ends created at_sink at_logs = inl refl
    by SinkFault ends created at_sink at_logs = absurd (no_sink (at_sink refl))
    by (VolumeFault Logs) ends created at_sink at_logs = absurd (no_logs (at_logs refl))
    by Exists ends created at_sink at_logs = absurd created
    by _ ends created at_sink at_logs = absurd ends

-- the making of a database comes to none of the ends of a run before it
pub create_not_before : (status : Status) → IsCreateEnd status → IsBeforeOpening status → ⊥
create_not_before Done ends before = before
create_not_before SinkFault ends before = before
create_not_before (VolumeFault stop) ends before = before
create_not_before Exists ends before = before
create_not_before _ ends before = ends

-- ---- the lines of a run

-- a run whose lines were begun
pub lines_ran : {S A K L C B : Type 0} (s : SourceGhosts S) (k : SinkGhosts K) (g : Ghosts L) (settings : Settings) (old new : Devices S A K L C B) (engine : Engine) (opened : L) (end : RunEnd) (status : Status)
    → g.told → Opens g settings old.logs opened (Ok engine) → ((found : Opened) → IsSinceOpening (begun_over settings (g.now old.logs) found))
    → DoesScript s k g engine (record old { logs = opened }) new end → IsRunEnd end → status ≡ status_of end → RunsWith s k g settings old new status
lines_ran s k g settings old new engine opened end status told opens since does ends is =
    let started = opens.started in
    let now_old = g.now old.logs in
    let may_old = g.may old.logs in
    let start = begun_over settings now_old started.found in
    let run : IsRun g (settings, started.found) (told_between s k old new) old.logs new.logs status =
    run_over g (WasSettled g engine (moment start opened)) (settings, started.found) (told_between s k old new) end status old.logs opened new.logs (since started.found)
    (λ settled. opens.kept (settled_reads now_old may_old settled)) (λ still. opens.still started.found started.is still) (opens.others started.found started.is) (does told start started.stands) is in
    record {
      opened = subst (λ (t : Status). IsOpened settings (database now_old) t) (sym is) (opened_lines settings now_old started.found end started.is started.place ends);
      ran = λ found found_is. inr (subst (λ (f : Opened). IsRun g (settings, f) (told_between s k old new) old.logs new.logs status) (same_found now_old started.found found started.is found_is) run);
    }

-- ---- attributes that aren't right

pub read_bad : (text : List ℕ) (status : Status) → IsFrom text (Err status) → IsBadSo text status
read_bad text (BadAttribute name) from = from
read_bad text _ from = tt

pub create_not_bad : (text : List ℕ) (status : Status) → IsCreateEnd status → IsBadSo text status
create_not_bad text (BadAttribute name) ends = absurd ends
create_not_bad text _ ends = tt

pub run_not_bad : (text : List ℕ) (status : Status) → IsScriptRunEnd status → IsBadSo text status
run_not_bad text (BadAttribute name) ends = absurd ends
run_not_bad text _ ends = tt
