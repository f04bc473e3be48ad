-- A run, a crash, and the next run: each leaves what the next one asks for.
use Rattle.std.proofs.Common.{◌≡◌, ◌⊎◌, inl, inr, ℕ, List, Option, Some, None, Result, Ok, Err, String, refl, sym, ap, ◌∙◌}
use Rattle.tt_disk.specs.Volume.{IsSettled, Keeps, Outcomes, Files}
use Rattle.tt_disk.specs.declared.volume.Name.{Name}
use Rattle.tt_disk.specs.declared.volume.Name.TheVariants.{Log as LogFile}
use Rattle.tt_disk.specs.declared.volume.Volume.{Ghosts}
use Rattle.tt_flow.specs.declared.stream.Sink.{Ghosts as SinkGhosts}
use Rattle.tt_flow.specs.declared.stream.Source.{Ghosts as SourceGhosts}
use Rattle.tt_value.specs.declared.reply.Stop.TheVariants.{Logs, Images, Backups}
use Rattle.tt_log.specs.Log.{MayLeaveLogs}
use Rattle.tt_model.specs.Opened.{Opened}
use Rattle.tt_model.specs.Prefix.{StandsForPrefix}
use Rattle.tt_model.specs.State.{State}
use Rattle.tt_set.specs.declared.settings.Settings.{Settings}
use Rattle.tt_engine.specs.OpeningLaws.{database_found}
use Rattle.tt_engine.specs.Prefixes.{LeavesOpening, LogsAreSettled, opens, or_none}
use Rattle.tt_engine.specs.Starts.{begun_over, database}
use Rattle.tt_run.specs.Attributes.{AreSettings, EndedInAttributes}
use Rattle.tt_run.specs.Devices.{DoesNothing}
use Rattle.tt_run.specs.Openings.{HasNewDatabase, HasNoPlace, IsBeforeLines, IsCreated, new_database}
use Rattle.tt_run.specs.Run.{EndsIn, IsRun, Streams}
use Rattle.tt_run.specs.RunEnd.{status_of, stop_of}
use Rattle.tt_run.specs.ScriptRun.{told_between}
use Rattle.tt_run.specs.TopCall.{EndedEarly, Runs, RunsWith, Untouched}
use Rattle.tt_run.specs.World.{joined, joined_outcomes}
use Rattle.tt_run.specs.WorldLaws.{database_joined, opening_alike, settled_joined}
use Rattle.tt_run.specs.declared.devices.Devices.{Devices}
use Rattle.tt_run.specs.declared.run_end.RunEnd.{RunEnd}
use Rattle.tt_run.specs.declared.run_end.RunEnd.TheVariants.{AtEnd, AtLine, AtSink, AtScript, ScriptOver, NoPlaceAtEnd}
use Rattle.tt_run.specs.declared.status.Status.{Status}
use Rattle.tt_run.specs.declared.status.Status.TheVariants.{Done, ScriptFault, AttributesFault, SinkFault, VolumeFault, NoMemory, Usage, Damaged, Exists, NoDatabase, BadAttribute, LogOut, ScriptTooLong}

-- What a run asks of the log files that it is begun over: that they open, and that a crash leaves them as they read.
pub record MayRun (now : Files) (may : Outcomes) : Type 0 where
  pub found : Opened
  pub is : database now ≡ Ok found
  pub settled : LogsAreSettled now may

abbrev pub MayRunOn : {V : Type 0} → Ghosts V → V → Type 0
MayRunOn g logs = MayRun (g.now logs) (g.may logs)

-- Where the log files may be run, so may the world.
pub world_may_run : (l c b : Files) (may_l may_c may_b : Outcomes) → MayRun l may_l → MayRun (joined l c b) (joined_outcomes may_l may_c may_b)
world_may_run l c b may_l may_c may_b runs = record { found = runs.found; is = database_joined l c b ∙ runs.is; settled = settled_joined l c b may_l may_c may_b runs.settled }

-- ---- after a database was made

-- a `create` that ends so made a database, also where its sink failed behind it
abbrev pub MadeDatabase : Status → Type 0
MadeDatabase Done = Unit {0}
MadeDatabase SinkFault = Unit {0}
MadeDatabase _ = ⊥

new_runs : (now : Files) (may : Outcomes) → HasNewDatabase now may → MayRun now may
new_runs now may made = record { found = new_database; is = made.0; settled = made.2 }

-- A database that was made may be run.
pub after_create : (log : Option (List ℕ)) (status : Status) (now : Files) (may : Outcomes) → MadeDatabase status → IsCreated log status now may → MayRun now may
after_create None Done now may is made = new_runs now may made
after_create None SinkFault now may is made = new_runs now may made
after_create (Some f) Done now may is made = absurd made
after_create (Some f) SinkFault now may is made = absurd made
after_create log _ now may is made = absurd is

-- ---- after files were only read

-- files that read alike at each name
alike : (a b : Files) → ((n : Name) → a n ≡ b n) → a ≡ b
alike a b same = λ i n. same n i

-- Files that were only read may be run as before.
pub after_keeps : (old now : Files) (may may' : Outcomes) → Keeps old now may may' → MayRun old may → MayRun now may'
after_keeps old now may may' keeps runs =
    let same : now ≡ old = alike now old keeps.reads in
    let (found, is, leaves) = runs.settled in
    record {
      found = runs.found;
      is = ap database same ∙ runs.is;
      settled = (found, ap opens same ∙ is, λ files left. leaves files (λ n. keeps.crash (LogFile n) (files (LogFile n)) (left n)) ∙ sym (ap opens same));
    }

-- ---- after a crash

-- What a crash may leave, once the next volume has it and leaves it as it reads, may be run, and stands for a prefix of the trail.
pub record OpensAgain (least : ℕ) (s : State) (now : Files) (may : Outcomes) : Type 0 where
  pub runs : MayRun now may
  pub stands : StandsForPrefix least s runs.found

pub after_crash : (least : ℕ) (s : State) (may : Outcomes) (now : Files) (may' : Outcomes) → LeavesOpening least s may → MayLeaveLogs may now → ((n : Name) → IsSettled n now may') → OpensAgain least s now may'
after_crash least s may now may' leaves left settled =
    let (found, is, stands) = leaves now left in
    record {
      runs = record {
        found = found;
        is = database_found now found is;
        settled = (found, ap or_none is, λ files l. ap or_none (opening_alike files now (λ n. settled (LogFile n) (files (LogFile n)) (l n))));
      };
      stands = stands;
    }

ok_found : (r : Result Opened _) (found : Opened) → or_none r ≡ Some found → r ≡ Ok found
ok_found (Ok x) found is = ap (λ (o : Option Opened). elim o as (λ _. Result Opened _) [ None ↦ Ok x | Some y ↦ Ok y ]) is
ok_found (Err e) found is = cc

-- Where files may be run, so may what a crash leaves of them.
pub after_stop : (old now : Files) (may may' : Outcomes) → MayRun old may → MayLeaveLogs may now → ((n : Name) → IsSettled n now may') → MayRun now may'
after_stop old now may may' runs left settled =
    let (found, is, leaves) = runs.settled in
    let again : opens now ≡ Some found = leaves now left ∙ is in
    record {
      found = found;
      is = database_found now found (ok_found _ found again);
      settled = (found, again, λ files l. ap or_none (opening_alike files now (λ n. settled (LogFile n) (files (LogFile n)) (l n))));
    }

-- ---- after a run

-- A run ends in its attributes before any line.
before_lines : (attributes : Option (List ℕ)) (status : Status) → EndedInAttributes attributes status → IsBeforeLines status
before_lines attributes AttributesFault ended = tt
before_lines attributes NoMemory ended = tt
before_lines attributes (BadAttribute name) ended = tt
before_lines attributes Done ended = absurd ended
before_lines attributes ScriptFault ended = absurd ended
before_lines attributes SinkFault ended = absurd ended
before_lines attributes (VolumeFault stop) ended = absurd ended
before_lines attributes Usage ended = absurd ended
before_lines attributes (Damaged damage) ended = absurd ended
before_lines attributes Exists ended = absurd ended
before_lines attributes NoDatabase ended = absurd ended
before_lines attributes LogOut ended = absurd ended
before_lines attributes ScriptTooLong ended = absurd ended

-- Where the status names no volume, none stopped the run.
not_stopped : (script left : Option (List ℕ)) (lines : List (Option (List ℕ))) (s last : State) (end : RunEnd) → EndsIn script left lines s last end
    → (status_of end ≡ VolumeFault Logs → ⊥) → stop_of end ≡ None
not_stopped script left lines s last (AtEnd None) ends unfaulted = refl
not_stopped script left lines s last (AtEnd (Some Logs)) ends unfaulted = absurd (unfaulted refl)
not_stopped script left lines s last (AtEnd (Some Images)) ends unfaulted = absurd ends
not_stopped script left lines s last (AtEnd (Some Backups)) ends unfaulted = absurd ends
not_stopped script left lines s last (AtLine None Logs) ends unfaulted = absurd (unfaulted refl)
not_stopped script left lines s last (AtLine None Images) ends unfaulted = absurd ends
not_stopped script left lines s last (AtLine None Backups) ends unfaulted = absurd ends
not_stopped script left lines s last (AtLine (Some reply) stop) ends unfaulted = absurd ends
not_stopped script left lines s last (AtSink None) ends unfaulted = refl
not_stopped script left lines s last (AtSink (Some stop)) ends unfaulted = absurd ends
not_stopped script left lines s last AtScript ends unfaulted = refl
not_stopped script left lines s last ScriptOver ends unfaulted = refl
not_stopped script left lines s last NoPlaceAtEnd ends unfaulted = refl

-- Where the status names the log files, a volume stopped the run.
stopped : (script left : Option (List ℕ)) (lines : List (Option (List ℕ))) (s last : State) (end : RunEnd) → EndsIn script left lines s last end
    → VolumeFault Logs ≡ status_of end → stop_of end ≡ Some Logs
stopped script left lines s last (AtEnd None) ends is = cc
stopped script left lines s last (AtEnd (Some Logs)) ends is = refl
stopped script left lines s last (AtEnd (Some Images)) ends is = absurd ends
stopped script left lines s last (AtEnd (Some Backups)) ends is = absurd ends
stopped script left lines s last (AtLine None Logs) ends is = refl
stopped script left lines s last (AtLine None Images) ends is = absurd ends
stopped script left lines s last (AtLine None Backups) ends is = absurd ends
stopped script left lines s last (AtLine (Some reply) stop) ends is = absurd ends
stopped script left lines s last (AtSink stop) ends is = cc
stopped script left lines s last AtScript ends is = cc
stopped script left lines s last ScriptOver ends is = cc
stopped script left lines s last NoPlaceAtEnd ends is = cc

module _ {S A K L C B Z : Type 0} (s : SourceGhosts S) (a : SourceGhosts A) (k : SinkGhosts K) (g : Ghosts L) (words : List (String Z)) (old new : Devices S A K L C B) (told : g.told) (runs : MayRunOn g old.logs) where
  kept : DoesNothing g old new → MayRunOn g new.logs
  kept nothing = after_keeps (g.now old.logs) (g.now new.logs) (g.may old.logs) (g.may new.logs) (nothing.logs told) runs

  -- A run that ended before its first line without a fault of the log files changed none of them.
  early_kept : (status : Status) (settings : Settings) (found : Opened) → AreSettings (a.left old.attributes) settings → database (g.now old.logs) ≡ Ok found → Untouched a g words old new status
      → (status ≡ VolumeFault Logs → ⊥) → EndedEarly g settings found old new status → DoesNothing g old new
  early_kept NoMemory settings found gives opened rest unfaulted early = rest.before_lines tt
  early_kept LogOut settings found gives opened rest unfaulted early =
      rest.no_place refl (record { settings = settings; found = found; gives = gives; opens = opened; none = early })
  early_kept (VolumeFault Logs) settings found gives opened rest unfaulted early = absurd (unfaulted refl)
  early_kept (VolumeFault Images) settings found gives opened rest unfaulted early = absurd early
  early_kept (VolumeFault Backups) settings found gives opened rest unfaulted early = absurd early
  early_kept Done settings found gives opened rest unfaulted early = absurd early
  early_kept ScriptFault settings found gives opened rest unfaulted early = absurd early
  early_kept AttributesFault settings found gives opened rest unfaulted early = absurd early
  early_kept SinkFault settings found gives opened rest unfaulted early = absurd early
  early_kept Usage settings found gives opened rest unfaulted early = absurd early
  early_kept (Damaged damage) settings found gives opened rest unfaulted early = absurd early
  early_kept Exists settings found gives opened rest unfaulted early = absurd early
  early_kept NoDatabase settings found gives opened rest unfaulted early = absurd early
  early_kept (BadAttribute name) settings found gives opened rest unfaulted early = absurd early
  early_kept ScriptTooLong settings found gives opened rest unfaulted early = absurd early

  lines_done : (status : Status) (settings : Settings) (found : Opened) → (status ≡ VolumeFault Logs → ⊥) → IsRun g (settings, found) (told_between s k old new) old.logs new.logs status → MayRunOn g new.logs
  lines_done status settings found unfaulted did =
      let lines = did.lines in
      let none : stop_of did.end ≡ None = not_stopped _ _ lines.done.lines lines.behind.state lines.last did.end lines.done.ends (λ e. unfaulted (did.is ∙ e)) in
      let holds = lines.leaves.holds none in
      record {
        found = holds.opens.found;
        is = database_found (g.now new.logs) holds.opens.found holds.opens.is;
        settled = holds.settled_again runs.settled;
      }

  -- After a run whose status names no fault of the log files the next may be begun, whatever else failed.
  pub after_run : (status : Status) → Untouched a g words old new status → Runs s a k g old new status → (status ≡ VolumeFault Logs → ⊥) → MayRunOn g new.logs
  after_run status rest did unfaulted = elim (did.ran told) [
    | inl ended ↦ kept (rest.before_lines (before_lines (a.left old.attributes) status ended))
    | inr with_settings ↦
        let settings = with_settings.0 in
        elim ((with_settings.2).ran runs.found runs.is) [
          | inl early ↦ kept (early_kept status settings runs.found (with_settings.1) runs.is rest unfaulted early)
          | inr lines ↦ lines_done status settings runs.found unfaulted lines
        ]
  ]

  -- After a fault of the log files the next run may be begun over whatever a crash leaves.
  pub after_fault : (now : Files) (may : Outcomes) → Runs s a k g old new (VolumeFault Logs) → MayLeaveLogs (g.may new.logs) now → ((n : Name) → IsSettled n now may) → MayRun now may
  after_fault now may did left settled = elim (did.ran told) [
    | inl ended ↦ absurd ended
    | inr with_settings ↦
        let settings = with_settings.0 in
        elim ((with_settings.2).ran runs.found runs.is) [
          | inl early ↦ (after_crash _ _ (g.may new.logs) now may (early.crash runs.settled) left settled).runs
          | inr did ↦
              let run = did.lines in
              let stop = stopped _ _ run.done.lines run.behind.state run.last did.end run.done.ends did.is in
              (after_crash _ _ (g.may new.logs) now may (run.leaves.crash Logs stop runs.settled) left settled).runs
        ]
  ]
