-- What a run of a script writes, and what its lines leave of the log files.
use Rattle.std.specs.Prelude.{◌≤◌, ◌≡◌, ◌<◌, ◌-◌, ℕ, List, [], ◌∷◌, ◌++◌, length, take, map, flat_map, filter, true, Option, Some, None, IfSome}
use Rattle.std.specs.Io.KnownBytes.{Appends}
use Rattle.tt_disk.specs.Volume.{Keeps}
use Rattle.tt_disk.specs.declared.volume.Volume.{Ghosts}
use Rattle.tt_flow.specs.Script.{script_lines, ended_lines, script_most}
use Rattle.tt_value.specs.declared.reply.Reply.{Reply}
use Rattle.tt_value.specs.declared.reply.Stop.{Stop}
use Rattle.tt_value.specs.declared.reply.Stop.TheVariants.{Logs}
use Rattle.tt_model.specs.Opened.{Opened}
use Rattle.tt_model.specs.State.{State, write_position}
use Rattle.tt_set.specs.declared.settings.Settings.{Settings}
use Rattle.tt_engine.specs.declared.request.Request.{Request}
use Rattle.tt_journal.specs.LogTrail.{ChangesFrom, HasFiles, IsQuiet}
use Rattle.tt_engine.specs.Prefixes.{IsStill, LeavesOpening, LogsAreSettled, OpensForced}
use Rattle.tt_journal.specs.Onward.{IsOnward}
use Rattle.tt_engine.specs.Request.{Answers, answer, script_ended}
use Rattle.tt_engine.specs.Starts.{begun_over}
use Rattle.tt_run.specs.declared.run_end.RunEnd.{RunEnd}
use Rattle.tt_run.specs.declared.run_end.RunEnd.TheVariants.{AtEnd, AtLine, AtSink, AtScript, ScriptOver}
use Rattle.tt_run.specs.RunEnd.{status_of, stop_of}
use Rattle.tt_run.specs.Reply.{text_of}
use Rattle.tt_run.specs.Request.{IsRequest, AreRequests, is_answered}
use Rattle.tt_run.specs.declared.status.Status.{Status}

-- ---- moments

-- A moment between two lines: the state of the model, and the volume of the log files.
pub record Moment (V : Type 0) : Type 0 where
  pub state : State
  pub logs : V

abbrev pub moment : {V : Type 0} → State → V → Moment V
moment s logs = record { state = s; logs = logs }

-- At this moment the log files have what the state has forced: those files are there that are the state's; opening finds just its
-- forced entries; and it finds the same in each map of files that a crash may leave, where that was so at the start.
pub record HasForced {V : Type 0} (g : Ghosts V) (settled : Type 0) (m : Moment V) : Type 0 where
  pub files : HasFiles m.state (g.now m.logs)
  pub opens : OpensForced m.state (g.now m.logs)
  pub settled_again : settled → LogsAreSettled (g.now m.logs) (g.may m.logs)

-- What the streams of a run tell: the bytes of its script, those that are left of it, and what the sink was given before and after.
pub record Streams : Type 0 where
  pub script : Option (List ℕ)
  pub left : Option (List ℕ)
  pub before : Option (List ℕ)
  pub after : Option (List ℕ)

abbrev pub streams : Option (List ℕ) → Option (List ℕ) → Option (List ℕ) → Option (List ℕ) → Streams
streams script left before after = record { script = script; left = left; before = before; after = after }

-- ---- lines and replies

-- the texts of the replies, one behind the other
abbrev pub texts : List (Request × Reply) → List ℕ
texts answered = flat_map (λ line. text_of line.1) answered

-- At one moment a line has a reply that it may have there, and it leads to the next moment. A line that forces nothing more and begins
-- no file leaves the volume as it was; and no line changes another file than the log files from the current one on.
pub record IsLineBetween {V : Type 0} (g : Ghosts V) (m : Moment V) (line : Request × Reply) (next : Moment V) : Type 0 where
  pub answers : Answers line.0 m.state line.1 next.state
  pub onward : IsOnward m.state next.state
  pub quiet : IsQuiet m.state next.state → next.logs ≡ m.logs
  pub others : ChangesFrom (write_position m.state).file (g.now m.logs) (g.now next.logs) (g.may m.logs) (g.may next.logs)

-- From a moment on, each line leads to the next moment; behind the last line it is this one. At each of these moments, the first and
-- the last among them, the log files have what is forced.
abbrev pub AreLinesBetween : {V : Type 0} → Ghosts V → Type 0 → Moment V → List (Request × Reply) → Moment V → Type 0
AreLinesBetween g settled m [] after = (after ≡ m) × HasForced g settled m
AreLinesBetween {V} g settled m (line ∷ lines) after =
    HasForced g settled m × ((next : Moment V) × IsLineBetween g m line next × AreLinesBetween g settled next lines after)

-- Which lines of a script were done when the run ended so, where the script tells its bytes. At a fault of the script each line whose
-- line feed was taken was; at a stop, and at a fault of the sink, there may be more.
abbrev pub AreLinesDone : Option (List ℕ) → Option (List ℕ) → List (Option (List ℕ)) → RunEnd → Type 0
AreLinesDone script left lines ScriptOver = IfSome script (λ bytes. (script_most < length bytes) × (ended_lines (take script_most bytes) ≡ lines))
AreLinesDone script left lines AtScript = IfSome script (λ bytes. (rest : List ℕ) × (left ≡ Some rest) × (ended_lines (take (length bytes - length rest) bytes) ≡ lines))
AreLinesDone script left lines (AtLine reply stop) = IfSome script (λ bytes. (more : List (Option (List ℕ))) × (script_lines bytes ≡ lines ++ more))
AreLinesDone script left lines (AtSink stop) = IfSome script (λ bytes. (more : List (Option (List ℕ))) × (script_lines bytes ≡ lines ++ more))
AreLinesDone script left lines _ = IfSome script (λ bytes. (length bytes ≤ script_most) × (script_lines bytes ≡ lines))

-- A line behind these is one that is answered. From this state it leads to that one, and it forces more or begins a file.
pub record LeadsTo (script : Option (List ℕ)) (lines : List (Option (List ℕ))) (s last : State) : Type 0 where
  pub line : Option (List ℕ)
  pub request : Request
  pub next : IfSome script (λ bytes. (more : List (Option (List ℕ))) × (script_lines bytes ≡ lines ++ line ∷ more))
  pub is_one : is_answered line ≡ true
  pub asks : IsRequest line request
  pub leads : last ≡ (answer request s).1
  pub calls : ¬ (IsQuiet s last)

-- In which state the run ended so, where the lines that were answered led to the first one. The log files stopped it at the end of the
-- script, with all lines done and something to force, or in the next line, which had then made a part of its entries, and forces
-- more or begins a file. The lines that there are have no call on another volume, none behind their reply, and at the end of a script
-- there is always a place: so no run ends otherwise.
abbrev pub EndsIn : Option (List ℕ) → Option (List ℕ) → List (Option (List ℕ)) → State → State → RunEnd → Type 0
EndsIn script left lines s last (AtEnd None) = AreLinesDone script left lines (AtEnd None) × (last ≡ script_ended s)
EndsIn script left lines s last (AtEnd (Some Logs)) = AreLinesDone script left lines (AtEnd (Some Logs)) × (last ≡ s) × ¬ (IsQuiet s (script_ended s))
EndsIn script left lines s last (AtLine None Logs) = LeadsTo script lines s last
EndsIn script left lines s last (AtSink None) = AreLinesDone script left lines (AtSink None) × (last ≡ s)
EndsIn script left lines s last AtScript = AreLinesDone script left lines AtScript × (last ≡ s)
EndsIn script left lines s last ScriptOver = AreLinesDone script left lines ScriptOver × (last ≡ s)
EndsIn script left lines s last _ = ⊥

-- What was written when the run ended so: the text of each reply; of the last one a part, where the sink failed.
abbrev pub AreTexts : Option (List ℕ) → Option (List ℕ) → List (Request × Reply) → RunEnd → Type 0
AreTexts before after answered (AtSink stop) = (front : List (Request × Reply)) × (last : Request × Reply) × (n : ℕ) × (answered ≡ front ++ last ∷ []) × Appends before after (texts front ++ take n (text_of last.1))
AreTexts before after answered _ = Appends before after (texts answered)

-- When the run ended so, these lines of the script were done, and those of them that are neither blank nor comments had these replies,
-- whose texts were written. The replies led to one state, and the run ended in the other.
pub record HasDone (told : Streams) (replies : List (Request × Reply)) (s last : State) (end : RunEnd) : Type 0 where
  pub lines : List (Option (List ℕ))
  pub requests : AreRequests (filter is_answered lines) (map (λ line. line.0) replies)
  pub ends : EndsIn told.script told.left lines s last end
  pub texts_written : AreTexts told.before told.after replies end

-- ---- what is left of the log files

-- What is left behind the last reply when the run ended so. Where no volume stopped it, the log files have what the last state has
-- forced, and where nothing more was forced, the volume is as the lines left it. Where one did, opening what a crash may leave finds
-- what a prefix of the last state's trail stands for, which has all entries that were forced before. No file changed but the log
-- files from the current one on.
pub record Leaves {V : Type 0} (g : Ghosts V) (settled : Type 0) (behind : Moment V) (last : State) (end : RunEnd) (new : V) : Type 0 where
  pub onward : IsOnward behind.state last
  pub holds : stop_of end ≡ None → HasForced g settled (moment last new)
  pub quiet : stop_of end ≡ None → IsQuiet behind.state last → new ≡ behind.logs
  pub crash : (stop : Stop) → stop_of end ≡ Some stop → settled → LeavesOpening behind.state.forced last (g.may new)
  pub others : ChangesFrom (write_position behind.state).file (g.now behind.logs) (g.now new) (g.may behind.logs) (g.may new)

-- From a moment on the lines of a script were done, up to this end: what was answered, written and left, all of one list of lines with
-- their replies, and of the moments between them.
pub record IsRunFrom {V : Type 0} (g : Ghosts V) (settled : Type 0) (told : Streams) (start : Moment V) (end : RunEnd) (new : V) : Type 0 where
  pub replies : List (Request × Reply)
  pub behind : Moment V
  pub last : State
  pub answered : AreLinesBetween g settled start replies behind
  pub done : HasDone told replies behind.state last end
  pub leaves : Leaves g settled behind last end new

-- A run of a script by these settings, over what opening found: it is one run of the model, and the status is that of its end. Where its
-- Mark forces nothing and begins no file, opening changed no file; and where nothing was forced up to the last state, and no file began,
-- the whole run didn't, unless a volume stopped it. However it ended, it changed no file but the log files from the one on in which
-- the log that was found ends.
pub record IsRun {V : Type 0} (g : Ghosts V) (over : Settings × Opened) (told : Streams) (old new : V) (status : Status) : Type 0 where
  pub end : RunEnd
  pub is : status ≡ status_of end
  pub opened : V
  pub unchanged : IsStill (begun_over over.0 (g.now old) over.1) → Keeps (g.now old) (g.now opened) (g.may old) (g.may opened)
  pub lines : IsRunFrom g (LogsAreSettled (g.now old) (g.may old)) told (moment (begun_over over.0 (g.now old) over.1) opened) end new
  pub still : IsStill lines.last → stop_of end ≡ None → Keeps (g.now old) (g.now new) (g.may old) (g.may new)
  pub others : ChangesFrom over.1.end.file (g.now old) (g.now new) (g.may old) (g.may new)
