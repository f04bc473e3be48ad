-- Laws of worlds: what holds of the log files alone holds of the world that they are part of, and any three outcomes of a crash are one.
use Rattle.std.proofs.Common.{◌≡◌, ◌∙◌, ◌^◌, ◌+◌, ◌-◌, ℕ, zero, suc, Bool, false, List, [], ◌∷◌, Option, Some, None, Result, Ok, Err, String, refl, sym, ap, subst}
use Rattle.tt_disk.specs.Volume.{File, Files, Keeps, Outcomes}
use Rattle.tt_disk.specs.declared.volume.Name.{Name}
use Rattle.tt_disk.specs.declared.volume.Name.TheVariants.{Ds, Log, SetImage, SetLog}
use Rattle.tt_disk.specs.declared.volume.Volume.{Ghosts}
use Rattle.tt_flow.specs.declared.stream.Source.{Ghosts as SourceGhosts}
use Rattle.tt_value.specs.declared.reply.Reply.{Reply}
use Rattle.tt_record.specs.Limits.{log_files_end}
use Rattle.tt_set.specs.declared.settings.Settings.{Settings}
use Rattle.tt_log.specs.Log.{is_between}
use Rattle.tt_log.specs.Walk.{file_read, log_of, on_part, walk}
use Rattle.tt_journal.specs.LogTrail.{ChangesFrom}
use Rattle.tt_model.specs.Opened.{Opened}
use Rattle.tt_model.specs.State.{State, write_position}
use Rattle.tt_recover.specs.Opening.{opened_of, opening}
use Rattle.tt_engine.specs.Prefixes.{LogsAreSettled, OpensForced, or_none}
use Rattle.tt_engine.specs.Starts.{database, opened_in}
use Rattle.tt_engine.specs.declared.request.Request.{Request}
use Rattle.tt_run.specs.Run.{AreLinesBetween, HasForced, IsLineBetween, IsRun, Leaves, Moment, Streams, moment}
use Rattle.tt_run.specs.TopCall.{Untouched}
use Rattle.tt_run.specs.World.{AtEachMoment, OnlyLogsCalled, World, joined, joined_outcomes, whole, world_of}
use Rattle.tt_run.specs.declared.devices.Devices.{Devices}
use Rattle.tt_run.specs.declared.run_end.RunEnd.{RunEnd}
use Rattle.tt_run.specs.declared.status.Status.{Status}

-- these files may be what a crash leaves
abbrev pub MayLeave : Outcomes → Files → Type 0
MayLeave may files = (name : Name) → may name (files name)

-- Any three maps of files that a crash may leave of the volumes make one that it may leave of all.
pub each_left : (may_l may_c may_b : Outcomes) (l c b : Files) → MayLeave may_l l → MayLeave may_c c → MayLeave may_b b → MayLeave (joined_outcomes may_l may_c may_b) (joined l c b)
each_left may_l may_c may_b l c b x y z (Log n) = x (Log n)
each_left may_l may_c may_b l c b x y z (Ds n) = y (Ds n)
each_left may_l may_c may_b l c b x y z (SetImage n) = z (SetImage n)
each_left may_l may_c may_b l c b x y z (SetLog n) = z (SetLog n)

-- ---- what opening finds

walk_alike : (most n : ℕ) (one other : Files) → ((k : ℕ) → one (Log k) ≡ other (Log k)) → walk most n one ≡ walk most n other
walk_alike zero n one other same = refl
walk_alike (suc most) n one other same =
    ap (λ file. on_part n (file_read n file) (walk most (n + 1) one)) (same n) ∙ ap (on_part n (file_read n (other (Log n)))) (walk_alike most (n + 1) one other same)

log_alike : (n : ℕ) (one other : Files) → ((k : ℕ) → one (Log k) ≡ other (Log k)) → log_of n one ≡ log_of n other
unfolding log_of
log_alike n one other same = walk_alike (log_files_end - n) n one other same

-- Opening reads log files alone.
pub opening_alike : (one other : Files) → ((k : ℕ) → one (Log k) ≡ other (Log k)) → opening one ≡ opening other
unfolding opening
opening_alike one other same = ap opened_of (log_alike 0 one other same)

-- so it finds in a world what it finds in its log files
pub opening_joined : (l c b : Files) → opening (joined l c b) ≡ opening l
opening_joined l c b = opening_alike (joined l c b) l (λ k. refl)

pub database_joined : (l c b : Files) → database (joined l c b) ≡ database l
database_joined l c b = ap (opened_in (l (Log 0))) (opening_joined l c b)

pub opens_joined : (s : State) (l c b : Files) → OpensForced s l → OpensForced s (joined l c b)
opens_joined s l c b opens = record { found = opens.found; is = opening_joined l c b ∙ opens.is; stands = opens.stands }

pub settled_joined : (l c b : Files) (may_l may_c may_b : Outcomes) → LogsAreSettled l may_l → LogsAreSettled (joined l c b) (joined_outcomes may_l may_c may_b)
settled_joined l c b may_l may_c may_b (found, is, leaves) =
    let same = ap or_none (opening_joined l c b) in
    (found, same ∙ is, λ files left. leaves files left ∙ sym same)

pub settled_apart : (l c b : Files) (may_l may_c may_b : Outcomes) → LogsAreSettled (joined l c b) (joined_outcomes may_l may_c may_b) → LogsAreSettled l may_l
settled_apart l c b may_l may_c may_b (found, is, leaves) =
    let same = ap or_none (opening_joined l c b) in
    (found, sym same ∙ is, λ files left. leaves files left ∙ same)

-- ---- what changes

keeps_joined : (l l' c b : Files) (may_l may_l' may_c may_b : Outcomes) → Keeps l l' may_l may_l' → Keeps (joined l c b) (joined l' c b) (joined_outcomes may_l may_c may_b) (joined_outcomes may_l' may_c may_b)
keeps_joined l l' c b may_l may_l' may_c may_b keeps = record { reads = reads; crash = crash }
  where
    reads : (n : Name) → joined l' c b n ≡ joined l c b n
    reads (Log n) = keeps.reads (Log n)
    reads (Ds n) = refl
    reads (SetImage n) = refl
    reads (SetLog n) = refl

    crash : (n : Name) (x : File) → joined_outcomes may_l' may_c may_b n x → joined_outcomes may_l may_c may_b n x
    crash (Log n) x left = keeps.crash (Log n) x left
    crash (Ds n) x left = left
    crash (SetImage n) x left = left
    crash (SetLog n) x left = left

changes_joined : (k : ℕ) (l l' c b : Files) (may_l may_l' may_c may_b : Outcomes) → ChangesFrom k l l' may_l may_l' → ChangesFrom k (joined l c b) (joined l' c b) (joined_outcomes may_l may_c may_b) (joined_outcomes may_l' may_c may_b)
changes_joined k l l' c b may_l may_l' may_c may_b changes = record { reads = reads; crash = crash }
  where
    reads : (n : Name) → is_between k (2 ^ 32) n ≡ false → joined l' c b n ≡ joined l c b n
    reads (Log n) out = changes.reads (Log n) out
    reads (Ds n) out = refl
    reads (SetImage n) out = refl
    reads (SetLog n) out = refl

    crash : (n : Name) → is_between k (2 ^ 32) n ≡ false → (x : File) → joined_outcomes may_l' may_c may_b n x → joined_outcomes may_l may_c may_b n x
    crash (Log n) out x left = changes.crash (Log n) out x left
    crash (Ds n) out x left = left
    crash (SetImage n) out x left = left
    crash (SetLog n) out x left = left

-- ---- a run

-- It is a run over a world in which no volume but that of the log files had a call, neither when it was opened nor in any line.
pub record RunsInWorld {L C B : Type 0} (g : Ghosts (World L C B)) (over : Settings × Opened) (told : Streams) (old new : World L C B) (status : Status) : Type 0 where
  pub run : IsRun g over told old new status
  pub opened : OnlyLogsCalled old run.opened
  pub moments : AtEachMoment g (LogsAreSettled (g.now old) (g.may old)) (OnlyLogsCalled old) _ run.lines.replies run.lines.behind run.lines.answered

-- the log files, beside images and backups that stay as they are
abbrev beside : {L C B : Type 0} → C → B → L → World L C B
beside images backups logs = record { logs = logs; images = images; backups = backups }

module _ {L C B : Type 0} (l : Ghosts L) (c : Ghosts C) (b : Ghosts B) (images : C) (backups : B) where
  abbrev lift : L → World L C B
  lift logs = beside images backups logs

  abbrev lift_moment : Moment L → Moment (World L C B)
  lift_moment m = moment m.state (lift m.logs)

  changes_lifted : (k : ℕ) (old new : L) → ChangesFrom k (l.now old) (l.now new) (l.may old) (l.may new)
      → ChangesFrom k ((whole l c b).now (lift old)) ((whole l c b).now (lift new)) ((whole l c b).may (lift old)) ((whole l c b).may (lift new))
  changes_lifted k old new changes = changes_joined k (l.now old) (l.now new) (c.now images) (b.now backups) (l.may old) (l.may new) (c.may images) (b.may backups) changes

  keeps_lifted : (old new : L) → Keeps (l.now old) (l.now new) (l.may old) (l.may new)
      → Keeps ((whole l c b).now (lift old)) ((whole l c b).now (lift new)) ((whole l c b).may (lift old)) ((whole l c b).may (lift new))
  keeps_lifted old new keeps = keeps_joined (l.now old) (l.now new) (c.now images) (b.now backups) (l.may old) (l.may new) (c.may images) (b.may backups) keeps

  holds_lifted : (P Q : Type 0) (m : Moment L) → (Q → P) → HasForced l P m → HasForced (whole l c b) Q (lift_moment m)
  holds_lifted P Q m from holds = record {
    files = holds.files;
    opens = opens_joined m.state (l.now m.logs) (c.now images) (b.now backups) holds.opens;
    settled_again = λ q. settled_joined (l.now m.logs) (c.now images) (b.now backups) (l.may m.logs) (c.may images) (b.may backups) (holds.settled_again (from q));
  }

  line_lifted : (m next : Moment L) (line : Request × Reply) → IsLineBetween l m line next → IsLineBetween (whole l c b) (lift_moment m) line (lift_moment next)
  line_lifted m next line is = record {
    answers = is.answers;
    onward = is.onward;
    quiet = λ quiet. ap lift (is.quiet quiet);
    others = changes_lifted (write_position m.state).file m.logs next.logs is.others;
  }

  lines_lifted : (P Q : Type 0) (m after : Moment L) (lines : List (Request × Reply)) → (Q → P) → AreLinesBetween l P m lines after → AreLinesBetween (whole l c b) Q (lift_moment m) lines (lift_moment after)
  lines_lifted P Q m after [] from (is, holds) = (ap lift_moment is, holds_lifted P Q m from holds)
  lines_lifted P Q m after (line ∷ lines) from (holds, (next, is, more)) =
      (holds_lifted P Q m from holds, (lift_moment next, line_lifted m next line is, lines_lifted P Q next after lines from more))

  -- at each moment images and backups are these
  moments_lifted : (P Q : Type 0) (m after : Moment L) (lines : List (Request × Reply)) (from : Q → P) (held : AreLinesBetween l P m lines after) (old : L)
      → AtEachMoment (whole l c b) Q (OnlyLogsCalled (lift old)) (lift_moment m) lines (lift_moment after) (lines_lifted P Q m after lines from held)
  unfolding lines_lifted
  moments_lifted P Q m after [] from (is, holds) old = record { images = refl; backups = refl }
  moments_lifted P Q m after (line ∷ lines) from (holds, (next, is, more)) old = (record { images = refl; backups = refl }, moments_lifted P Q next after lines from more old)

  leaves_lifted : (P Q : Type 0) (behind : Moment L) (last : State) (end : RunEnd) (new : L) → (Q → P) → Leaves l P behind last end new → Leaves (whole l c b) Q (lift_moment behind) last end (lift new)
  leaves_lifted P Q behind last end new from left = record {
    onward = left.onward;
    holds = λ none. holds_lifted P Q (moment last new) from (left.holds none);
    quiet = λ none quiet. ap lift (left.quiet none quiet);
    crash = λ stop is q files may. left.crash stop is (from q) files may;
    others = changes_lifted (write_position behind.state).file behind.logs new left.others;
  }

  run_lifted : (over : Settings × Opened) (told : Streams) (old new : L) (status : Status) → IsRun l over told old new status → RunsInWorld (whole l c b) over told (lift old) (lift new) status
  run_lifted over told old new status run =
      let P = LogsAreSettled (l.now old) (l.may old) in
      let Q = LogsAreSettled ((whole l c b).now (lift old)) ((whole l c b).may (lift old)) in
      let from : Q → P = settled_apart (l.now old) (c.now images) (b.now backups) (l.may old) (c.may images) (b.may backups) in
      let lines = run.lines in
      record {
        run = record {
          end = run.end;
          is = run.is;
          opened = lift run.opened;
          unchanged = λ still. keeps_lifted old run.opened (run.unchanged still);
          lines = record {
            replies = lines.replies;
            behind = lift_moment lines.behind;
            last = lines.last;
            answered = lines_lifted P Q _ lines.behind lines.replies from lines.answered;
            done = lines.done;
            leaves = leaves_lifted P Q lines.behind lines.last run.end new from lines.leaves;
          };
          still = λ still none. keeps_lifted old new (run.still still none);
          others = changes_lifted over.1.end.file old new run.others;
        };
        opened = record { images = refl; backups = refl };
        moments = moments_lifted P Q _ lines.behind lines.replies from lines.answered old;
      }

-- A run over the volume of the log files, of which images and backups had no call, is one over the world, and no line of it, nor its
-- opening, had a call on them.
pub run_in_world : {S A K L C B Z : Type 0} (a : SourceGhosts A) (l : Ghosts L) (c : Ghosts C) (b : Ghosts B) (words : List (String Z)) (old new : Devices S A K L C B) (status : Status) (over : Settings × Opened) (told : Streams)
    → Untouched a l words old new status → IsRun l over told old.logs new.logs status → RunsInWorld (whole l c b) over told (world_of old) (world_of new) status
run_in_world {S} {A} {K} {L} {C} {B} a l c b words old new status over told rest run =
    let same : beside old.images old.backups new.logs ≡ world_of new = λ i. record { logs = new.logs; images = sym rest.images i; backups = sym rest.backups i } in
    subst (λ (world : World L C B). RunsInWorld (whole l c b) over told (world_of old) world status) same (run_lifted l c b old.images old.backups over told old.logs new.logs status run)
