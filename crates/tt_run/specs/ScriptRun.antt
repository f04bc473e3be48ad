-- A script that is being done: what one line more, and the end of the script, make of it.
use Rattle.std.specs.Prelude.{◌≡◌, ◌⊎◌, ℕ, List, [], ◌∷◌, ◌++◌, filter, map, take, true, false, Option, Some, None, IfSome, Result, Ok, Err}
use Rattle.std.specs.Io.KnownBytes.{Appends}
use Rattle.tt_disk.specs.declared.volume.Failed.{Failed}
use Rattle.tt_disk.specs.declared.volume.Volume.{Ghosts}
use Rattle.tt_flow.specs.Lines.{HasGiven, HasGivenTold}
use Rattle.tt_flow.specs.declared.lines.LineReader.{LineReader}
use Rattle.tt_flow.specs.declared.stream.Sink.{Ghosts as SinkGhosts}
use Rattle.tt_flow.specs.declared.stream.Source.{Ghosts as SourceGhosts}
use Rattle.tt_value.specs.declared.reply.Reply.{Reply}
use Rattle.tt_value.specs.declared.reply.Stop.{Stop}
use Rattle.tt_value.specs.declared.reply.Stop.TheVariants.{Logs}
use Rattle.tt_log.specs.Log.{IsOpen, CrashLeavesForced}
use Rattle.tt_model.specs.State.{State}
use Rattle.tt_engine.specs.declared.engine.Engine.{Engine}
use Rattle.tt_engine.specs.declared.request.Request.{Request}
use Rattle.tt_engine.specs.Engine.{Represents, Steps}
use Rattle.tt_engine.specs.Request.{script_ended}
use Rattle.tt_journal.specs.LogTrail.{IsQuiet}
use Rattle.tt_disk.specs.Faults.{HasCause}
use Rattle.tt_run.specs.Devices.{KeepsRest, SinkRose, SourceRose, VolumeRose}
use Rattle.tt_run.specs.declared.devices.Devices.{Devices}
use Rattle.tt_run.specs.declared.run_end.Round.{Round}
use Rattle.tt_run.specs.declared.run_end.RunEnd.{RunEnd}
use Rattle.tt_run.specs.declared.run_end.RunEnd.TheVariants.{AtEnd, AtLine, AtSink, AtScript, ScriptOver}
use Rattle.tt_run.specs.declared.script_run.NextLine.{NextLine}
use Rattle.tt_run.specs.declared.script_run.NextLine.TheVariants.{Asks, Skipped, End, ScriptTooLong as TooLong}
use Rattle.tt_run.specs.declared.script_run.ScriptRun.{ScriptRun}
use Rattle.tt_run.specs.declared.status.Status.{Status}
use Rattle.tt_run.specs.RunEnd.{end_of, status_of}
use Rattle.tt_run.specs.Reply.{text_of}
use Rattle.tt_run.specs.Request.{AreRequests, IsRequest, is_answered}
use Rattle.tt_run.specs.Run.{AreLinesBetween, AreLinesDone, IsRunFrom, Leaves, Moment, Streams, moment, streams, texts}

-- ---- what stays

-- The log of the run stands as its last call left it.
abbrev pub IsReady : {S A K L C B : Type 0} → Ghosts L → ScriptRun S A K L C B → Type 0
IsReady g run = g.told → IsOpen run.engine.log (g.now run.devices.now.logs) (g.may run.devices.now.logs)

-- a reader that has read no line yet
abbrev pub IsAtStart : LineReader → Type 0
IsAtStart reader = (bytes : List ℕ) → HasGiven bytes [] reader bytes

-- The run borrows the devices that it borrowed before.
abbrev pub KeepsReferences : {S A K L C B : Type 0} → ScriptRun S A K L C B → ScriptRun S A K L C B → Type 0
KeepsReferences old new =
    new.devices.ghost_name ≡ old.devices.ghost_name

-- Nothing had a call but the script and its reader.
pub record OnlyScript {S A K L C B : Type 0} (old new : ScriptRun S A K L C B) : Type 0 where
  pub engine : new.engine ≡ old.engine
  pub sink : new.devices.now.sink ≡ old.devices.now.sink
  pub logs : new.devices.now.logs ≡ old.devices.now.logs
  pub rest : KeepsRest old.devices.now new.devices.now

-- Nothing had a call but the sink.
pub record OnlySink {S A K L C B : Type 0} (old new : ScriptRun S A K L C B) : Type 0 where
  pub engine : new.engine ≡ old.engine
  pub reader : new.reader ≡ old.reader
  pub script : new.devices.now.script ≡ old.devices.now.script
  pub logs : new.devices.now.logs ≡ old.devices.now.logs
  pub rest : KeepsRest old.devices.now new.devices.now

-- Nothing had a call but the engine and the log files.
pub record OnlyLogs {S A K L C B : Type 0} (old new : ScriptRun S A K L C B) : Type 0 where
  pub reader : new.reader ≡ old.reader
  pub script : new.devices.now.script ≡ old.devices.now.script
  pub sink : new.devices.now.sink ≡ old.devices.now.sink
  pub rest : KeepsRest old.devices.now new.devices.now

-- ---- counts of faults

-- the count of the run's script rose where this holds
abbrev pub ScriptRose : {S A K L C B : Type 0} → SourceGhosts S → Type 0 → ScriptRun S A K L C B → ScriptRun S A K L C B → Type 0
ScriptRose s P old new = SourceRose s P old.devices.now.script new.devices.now.script

-- the count of the run's sink rose where this holds
abbrev pub RepliesRose : {S A K L C B : Type 0} → SinkGhosts K → Type 0 → ScriptRun S A K L C B → ScriptRun S A K L C B → Type 0
RepliesRose k P old new = SinkRose k P old.devices.now.sink new.devices.now.sink

-- the count of the run's log files rose where this holds
abbrev pub LogsRose : {S A K L C B : Type 0} → Ghosts L → Type 0 → ScriptRun S A K L C B → ScriptRun S A K L C B → Type 0
LogsRose g P old new = VolumeRose g P old.devices.now.logs new.devices.now.logs

-- the count of the run's script rose where reading it failed
abbrev pub HasScriptCause : {S A K L C B T : Type 0} → SourceGhosts S → ScriptRun S A K L C B → ScriptRun S A K L C B → Result T Failed → Type 0
HasScriptCause s old new result = HasCause s.exact (s.faults old.devices.now.script) (s.faults new.devices.now.script) result

-- the count of the run's sink rose where writing to it failed
abbrev pub HasSinkCause : {S A K L C B T : Type 0} → SinkGhosts K → ScriptRun S A K L C B → ScriptRun S A K L C B → Result T Failed → Type 0
HasSinkCause k old new result = HasCause k.exact (k.faults old.devices.now.sink) (k.faults new.devices.now.sink) result

-- ---- a run while it goes on

-- When the run began a crash could leave the log only as it read.
abbrev pub WasSettled : {V : Type 0} → Ghosts V → Engine → Moment V → Type 0
WasSettled g first start = CrashLeavesForced first.log (g.now start.logs) (g.may start.logs)

-- These lines were given of a script, where it tells its bytes.
abbrev pub IsGivenOf : Option (List ℕ) → List (Option (List ℕ)) → LineReader → Option (List ℕ) → Type 0
IsGivenOf script lines reader left = IfSome script (λ bytes. HasGivenTold bytes lines reader left)

-- The lines of a script were answered so since the run began, the texts of the replies were written, and the run goes on from this
-- moment. The engine stands for its state.
pub record IsRunning {V : Type 0} (g : Ghosts V) (first : Engine) (start : Moment V) (told : Streams) (reader : LineReader) (e : Engine) (m : Moment V) : Type 0 where
  pub lines : List (Option (List ℕ))
  pub replies : List (Request × Reply)
  pub given : IsGivenOf told.script lines reader told.left
  pub requests : AreRequests (filter is_answered lines) (map (λ line. line.0) replies)
  pub answered : AreLinesBetween g (WasSettled g first start) start replies m
  pub texts_written : Appends told.before told.after (texts replies)
  pub stands : Represents e (g.now m.logs) m.state
  pub kept : WasSettled g first start → CrashLeavesForced e.log (g.now m.logs) (g.may m.logs)

-- After one line more, which was answered or skipped, the run goes on, or has ended.
abbrev pub IsStep : {S A K L C B : Type 0} → Ghosts L → Engine → Moment L → Streams → ScriptRun S A K L C B → Option RunEnd → Type 0
IsStep g first start told run None = (s : State) × IsRunning g first start told run.reader run.engine (moment s run.devices.now.logs)
IsStep g first start told run (Some end) = IsRunFrom g (WasSettled g first start) told start end run.devices.now.logs

-- what the streams tell of a run whose script had these bytes and whose sink had been given those
abbrev pub told_by : {S A K L C B : Type 0} → SourceGhosts S → SinkGhosts K → Option (List ℕ) → Option (List ℕ) → ScriptRun S A K L C B → Streams
told_by s k script before run = streams script (s.left run.devices.now.script) before (k.given run.devices.now.sink)

-- The next line was done: a run that went on takes one more step.
abbrev pub DoesLine : {S A K L C B : Type 0} → SourceGhosts S → SinkGhosts K → Ghosts L → ScriptRun S A K L C B → ScriptRun S A K L C B → Option RunEnd → Type 0
DoesLine {S} {A} {K} {L} s k g old new result =
    g.told → (first : Engine) (start : Moment L) (script before : Option (List ℕ)) (state : State)
    → IsRunning g first start (told_by s k script before old) old.reader old.engine (moment state old.devices.now.logs)
    → IsStep g first start (told_by s k script before new) new result

-- The lines of the script were done: it is a run from each state that the engine stands for.
abbrev pub DoesLines : {S A K L C B : Type 0} → SourceGhosts S → SinkGhosts K → Ghosts L → ScriptRun S A K L C B → ScriptRun S A K L C B → RunEnd → Type 0
DoesLines s k g old new end =
    g.told → (state : State) → Represents old.engine (g.now old.devices.now.logs) state
    → IsRunFrom g (WasSettled g old.engine (moment state old.devices.now.logs)) (told_by s k (s.left old.devices.now.script) (k.given old.devices.now.sink) new) (moment state old.devices.now.logs) end new.devices.now.logs

-- what the streams of a run tell
abbrev pub told_between : {S A K L C B : Type 0} → SourceGhosts S → SinkGhosts K → Devices S A K L C B → Devices S A K L C B → Streams
told_between s k old new = streams (s.left old.script) (s.left new.script) (k.given old.sink) (k.given new.sink)

-- The script was done on an open database: it is a run from each state that the engine stands for.
abbrev pub DoesScript : {S A K L C B : Type 0} → SourceGhosts S → SinkGhosts K → Ghosts L → Engine → Devices S A K L C B → Devices S A K L C B → RunEnd → Type 0
DoesScript s k g engine old new end =
    g.told → (state : State) → Represents engine (g.now old.logs) state
    → IsRunFrom g (WasSettled g engine (moment state old.logs)) (told_between s k old new) (moment state old.logs) end new.logs

-- ---- how a run may end

-- Once lines have begun a run ends at the end of its script, or where the script, the sink or the log files failed.
abbrev pub IsRunEnd : RunEnd → Type 0
IsRunEnd (AtEnd None) = Unit {0}
IsRunEnd (AtEnd (Some Logs)) = Unit {0}
IsRunEnd (AtLine None Logs) = Unit {0}
IsRunEnd (AtSink None) = Unit {0}
IsRunEnd AtScript = Unit {0}
IsRunEnd ScriptOver = Unit {0}
IsRunEnd _ = ⊥

-- At the end of its script a run is done, or the log files failed.
abbrev pub IsEnd : RunEnd → Type 0
IsEnd (AtEnd None) = Unit {0}
IsEnd (AtEnd (Some Logs)) = Unit {0}
IsEnd _ = ⊥

-- the run ended, with this status
abbrev pub EndsWith : Status → Option RunEnd → Type 0
EndsWith status None = ⊥
EndsWith status (Some end) = status_of end ≡ status

-- what the end of a script leaves, where the lines led to this moment
abbrev pub HasEnded : {V : Type 0} → Ghosts V → Engine → Moment V → V → RunEnd → Type 0
HasEnded g e m new (AtEnd None) = Leaves g (WasSettled g e m) m (script_ended m.state) (AtEnd None) new
HasEnded g e m new (AtEnd (Some Logs)) = Leaves g (WasSettled g e m) m m.state (AtEnd (Some Logs)) new × ¬ (IsQuiet m.state (script_ended m.state))
HasEnded g e m new _ = ⊥

-- The end of the script was done, for each state that the engine stands for.
abbrev pub EndsScript : {S A K L C B : Type 0} → Ghosts L → ScriptRun S A K L C B → ScriptRun S A K L C B → RunEnd → Type 0
EndsScript g old new end =
    g.told → (state : State) → Represents old.engine (g.now old.devices.now.logs) state → HasEnded g old.engine (moment state old.devices.now.logs) new.devices.now.logs end

-- ---- the next line

-- what came next in a script of which these lines were given: a line that is skipped, one that asks for something, or none any more
abbrev pub IsNext : Option (List ℕ) → List (Option (List ℕ)) → Result NextLine Failed → LineReader → Option (List ℕ) → Type 0
IsNext script given (Ok Skipped) reader left = (line : Option (List ℕ)) × (is_answered line ≡ false) × IsGivenOf script (given ++ line ∷ []) reader left
IsNext script given (Ok (Asks request)) reader left = (line : Option (List ℕ)) × (is_answered line ≡ true) × IsRequest line request × IsGivenOf script (given ++ line ∷ []) reader left
IsNext script given (Ok End) reader left = AreLinesDone script left given (AtEnd None)
IsNext script given (Ok TooLong) reader left = AreLinesDone script left given ScriptOver
IsNext script given (Err failed) reader left = AreLinesDone script left given AtScript

-- what came next in a script of which some lines were given
abbrev pub ReadsNext : {S A K L C B : Type 0} → SourceGhosts S → ScriptRun S A K L C B → ScriptRun S A K L C B → Result NextLine Failed → Type 0
ReadsNext s old new result =
    (script : Option (List ℕ)) (given : List (Option (List ℕ))) → IsGivenOf script given old.reader (s.left old.devices.now.script)
    → IsNext script given result new.reader (s.left new.devices.now.script)

-- there was a line
abbrev pub IsLine : NextLine → Type 0
IsLine Skipped = Unit {0}
IsLine (Asks request) = Unit {0}
IsLine _ = ⊥

-- ---- what a line asks for, and its reply

abbrev pub round : Option Reply → Option Stop → Round
round reply stop = record { reply = reply; stop = stop }

-- the round of a line that the engine answered, or in which a call on the log files failed
abbrev pub IsRoundOf : Result Reply Failed → Round → Type 0
IsRoundOf (Ok reply) r = r ≡ round (Some reply) None
IsRoundOf (Err failed) r = r ≡ round None (Some Logs)

-- The engine did what a line asks for, and this is its round.
pub record MakesRound {S A K L C B : Type 0} (g : Ghosts L) (request : Request) (old new : ScriptRun S A K L C B) (r : Round) : Type 0 where
  pub result : Result Reply Failed
  pub steps : g.told → Steps g old.engine old.devices.now.logs request new.engine new.devices.now.logs result
  pub is : IsRoundOf result r

-- The text of a reply was written, or a part of it where the sink failed.
abbrev pub PutsReply : {K T : Type 0} → SinkGhosts K → Reply → K → K → Result T Failed → Type 0
PutsReply k reply old new (Ok done) = Appends (k.given old) (k.given new) (text_of reply)
PutsReply k reply old new (Err failed) = (n : ℕ) × Appends (k.given old) (k.given new) (take n (text_of reply))

-- A round was written, and how the run goes on. The reply is written also where a volume stopped the line; then the run ends with the
-- stop, and where the sink fails, with the sink.
pub record WritesRound {K : Type 0} (k : SinkGhosts K) (r : Round) (old new : K) (result : Option RunEnd) : Type 0 where
  pub unanswered : r.reply ≡ None → (new ≡ old) × (result ≡ end_of None r.stop)
  pub answered : (reply : Reply) → r.reply ≡ Some reply
      → (Appends (k.given old) (k.given new) (text_of reply) × (result ≡ end_of (Some reply) r.stop))
      ⊎ ((n : ℕ) × Appends (k.given old) (k.given new) (take n (text_of reply)) × (result ≡ Some (AtSink r.stop)))

-- a round of the run was written to its sink, and how the run goes on
abbrev pub WritesIn : {S A K L C B : Type 0} → SinkGhosts K → Round → ScriptRun S A K L C B → ScriptRun S A K L C B → Option RunEnd → Type 0
WritesIn k r old new result = WritesRound k r old.devices.now.sink new.devices.now.sink result
