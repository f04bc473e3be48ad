-- One line of a script that is being done: it is read, done by the engine, and its reply is written.
use Rattle.std.proofs.Common.{◌≡◌, ◌⊎◌, inl, inr, ℕ, List, Option, Some, None, Result, Ok, Err, refl, sym, ap, ◌∙◌, subst}
use Rattle.std.specs.Prelude.{IfNone, IfSome}
use Rattle.tt_disk.specs.Faults.{HasCause, RoseWhere}
use Rattle.tt_disk.specs.declared.volume.Failed.{Failed}
use Rattle.tt_disk.specs.declared.volume.Volume.{Ghosts}
use Rattle.tt_flow.specs.declared.lines.LineReader.{LineReader}
use Rattle.tt_flow.specs.declared.stream.Sink.{Ghosts as SinkGhosts}
use Rattle.tt_flow.specs.declared.stream.Source.{Ghosts as SourceGhosts}
use Rattle.tt_value.specs.declared.reply.Reply.{Reply}
use Rattle.tt_value.specs.declared.reply.Stop.{Stop}
use Rattle.tt_value.specs.declared.reply.Stop.TheVariants.{Logs}
use Rattle.tt_model.specs.State.{State}
use Rattle.tt_engine.specs.declared.engine.Engine.{Engine}
use Rattle.tt_engine.specs.declared.request.Request.{Request}
use Rattle.tt_engine.specs.Engine.{Represents, Steps}
use Rattle.tt_engine.specs.RepresentsLaws.{forced_now, forced_settled}
use Rattle.tt_run.specs.declared.devices.Devices.{Devices}
use Rattle.tt_run.specs.declared.run_end.Round.{Round}
use Rattle.tt_run.specs.declared.run_end.RunEnd.{RunEnd}
use Rattle.tt_run.specs.declared.run_end.RunEnd.TheVariants.{AtEnd, AtLine, AtSink, AtScript, ScriptOver}
use Rattle.tt_run.specs.declared.script_run.NextLine.{NextLine}
use Rattle.tt_run.specs.declared.script_run.NextLine.TheVariants.{Asks, Skipped, End, ScriptTooLong as TooLong}
use Rattle.tt_run.specs.declared.script_run.ScriptRun.{ScriptRun}
use Rattle.tt_run.specs.declared.status.Status.{Status}
use Rattle.tt_run.specs.declared.status.Status.TheVariants.{ScriptFault, SinkFault, VolumeFault}
use Rattle.tt_run.specs.Devices.{KeepsRest, SourceRose, VolumeRose}
use Rattle.tt_run.specs.Run.{IsRunFrom, Moment, Streams, moment, streams}
use Rattle.tt_run.specs.RunEnd.{end_of}
use Rattle.tt_run.specs.ScriptRun.{DoesLine, DoesLines, DoesScript, EndsScript, EndsWith, HasEnded, IsNext, IsReady, IsRoundOf, IsRunEnd, IsRunning, IsStep, MakesRound, OnlyLogs, OnlyScript, OnlySink, ReadsNext, WasSettled, WritesRound, round, told_by}
use Rattle.tt_run.proofs.FaultLemmas.{rose_if}
use Rattle.tt_run.proofs.RunLemmas.{ended_script, failed_line, failed_put, failed_script, goes_on, goes_past, has_moved, long_script}

-- ---- what stays

-- over two calls
pub rest_then : {S A K L C B : Type 0} (a b c : Devices S A K L C B) → KeepsRest a b → KeepsRest b c → KeepsRest a c
rest_then a b c first second = record { attributes = second.attributes ∙ first.attributes; images = second.images ∙ first.images; backups = second.backups ∙ first.backups }

-- ---- what came of a round

-- how the run goes on behind a round of this engine: no volume stopped the line, and the sink may have failed; or the log files did
pub data RoundEnds (r : Round) (result : Option RunEnd) : Type 0 where
  goes : r.stop ≡ None → result ≡ None → RoundEnds r result
  sinks : r.stop ≡ None → result ≡ Some (AtSink None) → RoundEnds r result
  stops : r.stop ≡ Some Logs → result ≡ Some (AtLine None Logs) → RoundEnds r result

pub round_ends : {S A K L C B : Type 0} (k : SinkGhosts K) (g : Ghosts L) (request : Request) (b c z : ScriptRun S A K L C B) (r : Round) (result : Option RunEnd) → MakesRound g request b c r → WritesRound k r c.devices.now.sink z.devices.now.sink result → RoundEnds r result
round_ends k g request b c z r result made written = by made.result made.is
  where
    by : (res : Result Reply Failed) → IsRoundOf res r → RoundEnds r result
    by (Ok reply) is =
        let unstopped : r.stop ≡ None = ap (λ (x : Round). x.stop) is in
        elim (written.answered reply (ap (λ (x : Round). x.reply) is)) [
          | inl w ↦ goes unstopped (w.1 ∙ ap (λ (o : Option Stop). end_of (Some reply) o) unstopped)
          | inr w ↦ sinks unstopped (w.2 ∙ ap (λ (o : Option Stop). Some (AtSink o)) unstopped)
        ]
    by (Err failed) is =
        let stopped : r.stop ≡ Some Logs = ap (λ (x : Round). x.stop) is in
        stops stopped ((written.unanswered (ap (λ (x : Round). x.reply) is)).1 ∙ ap (λ (o : Option Stop). end_of None o) stopped)

-- such an end is one that a run may have
pub round_run_end : (r : Round) (result : Option RunEnd) → RoundEnds r result → IfSome result IsRunEnd
round_run_end r result (goes unstopped is) = subst (λ (o : Option RunEnd). IfSome o IsRunEnd) (sym is) tt
round_run_end r result (sinks unstopped is) = subst (λ (o : Option RunEnd). IfSome o IsRunEnd) (sym is) tt
round_run_end r result (stops stopped is) = subst (λ (o : Option RunEnd). IfSome o IsRunEnd) (sym is) tt

-- it names no script
pub round_no_script : (r : Round) (result : Option RunEnd) → RoundEnds r result → EndsWith ScriptFault result → ⊥
round_no_script r result (goes unstopped is) named = subst (λ (o : Option RunEnd). EndsWith ScriptFault o) is named
round_no_script r result (sinks unstopped is) named = let other : SinkFault ≡ ScriptFault = subst (λ (o : Option RunEnd). EndsWith ScriptFault o) is named in let bad : ⊥ = cc in bad
round_no_script r result (stops stopped is) named = let other : VolumeFault Logs ≡ ScriptFault = subst (λ (o : Option RunEnd). EndsWith ScriptFault o) is named in let bad : ⊥ = cc in bad

-- it names the log files just where they stopped the line
pub round_stop_named : (r : Round) (result : Option RunEnd) → RoundEnds r result → r.stop ≡ Some Logs → EndsWith (VolumeFault Logs) result
round_stop_named r result (goes unstopped is) stopped = let other : None ≡ Some Logs = sym unstopped ∙ stopped in let bad : ⊥ = cc in absurd bad
round_stop_named r result (sinks unstopped is) stopped = let other : None ≡ Some Logs = sym unstopped ∙ stopped in let bad : ⊥ = cc in absurd bad
round_stop_named r result (stops so is) stopped = subst (λ (o : Option RunEnd). EndsWith (VolumeFault Logs) o) (sym is) refl

pub round_named_stop : (r : Round) (result : Option RunEnd) → RoundEnds r result → EndsWith (VolumeFault Logs) result → r.stop ≡ Some Logs
round_named_stop r result (goes unstopped is) named = absurd (subst (λ (o : Option RunEnd). EndsWith (VolumeFault Logs) o) is named)
round_named_stop r result (sinks unstopped is) named = let other : SinkFault ≡ VolumeFault Logs = subst (λ (o : Option RunEnd). EndsWith (VolumeFault Logs) o) is named in let bad : ⊥ = cc in absurd bad
round_named_stop r result (stops so is) named = so

-- ---- one line

-- a line that was skipped
pub skipped_done : {S A K L C B : Type 0} (s : SourceGhosts S) (k : SinkGhosts K) (g : Ghosts L) (a b : ScriptRun S A K L C B) → ReadsNext s a b (Ok Skipped) → OnlyScript a b → DoesLine s k g a b None
skipped_done s k g a b read only told first start script before state running =
    let on : IsRunning g first start (streams script (s.left b.devices.now.script) before (k.given a.devices.now.sink)) b.reader a.engine (moment state a.devices.now.logs) =
    goes_past g first start script (s.left a.devices.now.script) (s.left b.devices.now.script) before (k.given a.devices.now.sink) a.reader b.reader a.engine (moment state a.devices.now.logs) running (read script running.lines running.given) in
    (state, rw (only.engine, only.sink, only.logs) on)

-- a script that couldn't be read on
pub script_failed : {S A K L C B : Type 0} (s : SourceGhosts S) (k : SinkGhosts K) (g : Ghosts L) (a b : ScriptRun S A K L C B) (failed : Failed) → ReadsNext s a b (Err failed) → OnlyScript a b → DoesLine s k g a b (Some AtScript)
script_failed s k g a b failed read only told first start script before state running =
    let on : IsRunFrom g (WasSettled g first start) (streams script (s.left b.devices.now.script) before (k.given a.devices.now.sink)) start AtScript a.devices.now.logs =
    failed_script g first start script (s.left a.devices.now.script) (s.left b.devices.now.script) before (k.given a.devices.now.sink) a.reader a.engine (moment state a.devices.now.logs) running (read script running.lines running.given) in
    rw (only.sink, only.logs) on

-- a script that is too long
pub script_over : {S A K L C B : Type 0} (s : SourceGhosts S) (k : SinkGhosts K) (g : Ghosts L) (a b : ScriptRun S A K L C B) → ReadsNext s a b (Ok TooLong) → OnlyScript a b → DoesLine s k g a b (Some ScriptOver)
script_over s k g a b read only told first start script before state running =
    let on : IsRunFrom g (WasSettled g first start) (streams script (s.left b.devices.now.script) before (k.given a.devices.now.sink)) start ScriptOver a.devices.now.logs =
    long_script g first start script (s.left a.devices.now.script) (s.left b.devices.now.script) before (k.given a.devices.now.sink) a.reader a.engine (moment state a.devices.now.logs) running (read script running.lines running.given) in
    rw (only.sink, only.logs) on

-- the end of the script
pub script_ends : {S A K L C B : Type 0} (s : SourceGhosts S) (k : SinkGhosts K) (g : Ghosts L) (a b z : ScriptRun S A K L C B) (end : RunEnd) → ReadsNext s a b (Ok End) → OnlyScript a b → EndsScript g b z end → OnlyLogs b z → DoesLine s k g a z (Some end)
script_ends s k g a b z end read only ended rest told first start script before state running =
    let stands : Represents b.engine (g.now b.devices.now.logs) state = rw (only.engine, only.logs) (running.stands) in
    let left : HasEnded g a.engine (moment state a.devices.now.logs) z.devices.now.logs end = rw (sym only.engine, sym only.logs) (ended told state stands) in
    let on : IsRunFrom g (WasSettled g first start) (streams script (s.left b.devices.now.script) before (k.given a.devices.now.sink)) start end z.devices.now.logs =
    ended_script g first start script (s.left a.devices.now.script) (s.left b.devices.now.script) before (k.given a.devices.now.sink) a.reader a.engine (moment state a.devices.now.logs) z.devices.now.logs end running (read script running.lines running.given) left in
    rw (rest.script, rest.sink, only.sink) on

-- a line that asks for something
pub line_done : {S A K L C B : Type 0} (s : SourceGhosts S) (k : SinkGhosts K) (g : Ghosts L) (a b c z : ScriptRun S A K L C B) (request : Request) (r : Round) (result : Option RunEnd)
    → ReadsNext s a b (Ok (Asks request)) → OnlyScript a b → MakesRound g request b c r → OnlyLogs b c → WritesRound k r c.devices.now.sink z.devices.now.sink result → OnlySink c z → DoesLine s k g a z result
line_done {S} {A} {K} {L} s k g a b c z request r result read only made rest written put told first start script before state running =
    by made.result (rw (sym only.engine, sym only.logs, put.engine, put.logs) (made.steps told)) made.is
  where
    m : Moment L
    m = moment state a.devices.now.logs

    before_line : Streams
    before_line = streams script (s.left a.devices.now.script) before (k.given a.devices.now.sink)

    next : IsNext script running.lines (Ok (Asks request)) z.reader (s.left z.devices.now.script)
    next = rw (put.reader, rest.reader, put.script, rest.script) (read script running.lines running.given)

    same_sink : c.devices.now.sink ≡ a.devices.now.sink
    same_sink = rest.sink ∙ only.sink

    by : (res : Result Reply Failed) → Steps g a.engine a.devices.now.logs request z.engine z.devices.now.logs res → IsRoundOf res r → IsStep g first start (told_by s k script before z) z result
    by (Ok reply) steps is =
        let so = steps.done state running.stands in
        let unstopped : r.stop ≡ None = ap (λ (x : Round). x.stop) is in
        let moved = has_moved g a.engine m z.engine request reply z.devices.now.logs so
        (λ t h. forced_now z.engine (g.now z.devices.now.logs) (g.may z.devices.now.logs) t h steps.ready) (λ t h. forced_settled z.engine (g.now z.devices.now.logs) (g.may z.devices.now.logs) t h steps.ready) in
        elim (written.answered reply (ap (λ (x : Round). x.reply) is)) [
          | inl w ↦ subst (λ (o : Option RunEnd). IsStep g first start (told_by s k script before z) z o) (sym (w.1 ∙ ap (λ (o : Option Stop). end_of (Some reply) o) unstopped))
              (so.after, goes_on g first start script (s.left a.devices.now.script) (s.left z.devices.now.script) before (k.given a.devices.now.sink) (k.given z.devices.now.sink) a.reader z.reader a.engine z.engine m (moment so.after z.devices.now.logs) request reply running next moved (rw (sym same_sink) w.0))
          | inr w ↦ subst (λ (o : Option RunEnd). IsStep g first start (told_by s k script before z) z o) (sym (w.2 ∙ ap (λ (o : Option Stop). Some (AtSink o)) unstopped))
              (failed_put g first start script (s.left a.devices.now.script) (s.left z.devices.now.script) before (k.given a.devices.now.sink) (k.given z.devices.now.sink) a.reader z.reader a.engine z.engine m (moment so.after z.devices.now.logs) request reply w.0 running next moved (rw (sym same_sink) w.1))
        ]
    by (Err failed) steps is =
        let stopped : r.stop ≡ Some Logs = ap (λ (x : Round). x.stop) is in
        let unwritten = written.unanswered (ap (λ (x : Round). x.reply) is) in
        let on : IsRunFrom g (WasSettled g first start) (streams script (s.left z.devices.now.script) before (k.given a.devices.now.sink)) start (AtLine None Logs) z.devices.now.logs =
        failed_line g first start script (s.left a.devices.now.script) (s.left z.devices.now.script) before (k.given a.devices.now.sink) a.reader z.reader a.engine m z.devices.now.logs request running next (steps.stopped state running.stands) in
        subst (λ (o : Option RunEnd). IsStep g first start (told_by s k script before z) z o) (sym (unwritten.1 ∙ ap (λ (o : Option Stop). end_of None o) stopped))
        (rw (unwritten.0, same_sink) on)

-- behind a line with which the run goes on the log is open
pub line_ready : {S A K L C B : Type 0} (k : SinkGhosts K) (g : Ghosts L) (b c z : ScriptRun S A K L C B) (request : Request) (r : Round) (result : Option RunEnd) → MakesRound g request b c r → WritesRound k r c.devices.now.sink z.devices.now.sink result → OnlySink c z
    → IfNone result (IsReady g z)
line_ready k g b c z request r result made written put = by result (round_ends k g request b c z r result made written)
  where
    unstopped_ready : (res : Result Reply Failed) → (g.told → Steps g b.engine b.devices.now.logs request c.engine c.devices.now.logs res) → IsRoundOf res r → r.stop ≡ None → IsReady g c
    unstopped_ready (Ok reply) steps is none = λ told. (steps told).ready
    unstopped_ready (Err failed) steps is none = let other : Some Logs ≡ None = sym (ap (λ (x : Round). x.stop) is) ∙ none in let bad : ⊥ = cc in absurd bad

    by : (result : Option RunEnd) → RoundEnds r result → IfNone result (IsReady g z)
    by None (goes unstopped is) = rw (put.engine, put.logs) (unstopped_ready made.result made.steps made.is unstopped)
    by None (sinks unstopped is) = let bad : ⊥ = cc in absurd bad
    by None (stops stopped is) = let bad : ⊥ = cc in absurd bad
    by (Some end) ends = tt

-- ---- counts of faults

-- of the script, over a line that was read
pub line_script : {S A K L C B : Type 0} (s : SourceGhosts S) (a b c z : ScriptRun S A K L C B) (request : Request) (next : Result NextLine Failed) (r : Round) (result : Option RunEnd) → next ≡ Ok (Asks request)
    → HasCause s.exact (s.faults a.devices.now.script) (s.faults b.devices.now.script) next → OnlyLogs b c → OnlySink c z → RoundEnds r result → SourceRose s (EndsWith ScriptFault result) a.devices.now.script z.devices.now.script
line_script s a b c z request next r result is cause rest put ends =
    let answered : HasCause s.exact (s.faults a.devices.now.script) (s.faults b.devices.now.script) (Ok (Asks request)) = subst (λ (n : Result NextLine Failed). HasCause s.exact (s.faults a.devices.now.script) (s.faults b.devices.now.script) n) is cause in
    let rose : RoseWhere s.exact (EndsWith ScriptFault result) (s.faults a.devices.now.script) (s.faults b.devices.now.script) =
    record { later = answered.later; failed = λ named. absurd (round_no_script r result ends named); stays = inr answered.stays } in
    rw (put.script, rest.script) rose

-- of the log files, over a line
pub line_logs : {S A K L C B : Type 0} (g : Ghosts L) (a b c z : ScriptRun S A K L C B) (r : Round) (result : Option RunEnd) → OnlyScript a b → VolumeRose g (r.stop ≡ Some Logs) b.devices.now.logs c.devices.now.logs → OnlySink c z → RoundEnds r result
    → VolumeRose g (EndsWith (VolumeFault Logs) result) a.devices.now.logs z.devices.now.logs
line_logs g a b c z r result only fault put ends =
    let rose : RoseWhere g.exact (EndsWith (VolumeFault Logs) result) (g.faults b.devices.now.logs) (g.faults c.devices.now.logs) =
    rose_if g.exact (r.stop ≡ Some Logs) (EndsWith (VolumeFault Logs) result) (g.faults b.devices.now.logs) (g.faults c.devices.now.logs) (round_stop_named r result ends) (round_named_stop r result ends) fault in
    rw (sym only.logs, put.logs) rose

-- ---- a whole script

-- the lines were done of a run that was made over these devices, and left them so
pub script_done : {S A K L C B : Type 0} (s : SourceGhosts S) (k : SinkGhosts K) (g : Ghosts L) (engine : Engine) (old new : Devices S A K L C B) (first last : ScriptRun S A K L C B) (end : RunEnd)
    → first.devices.now ≡ old → first.engine ≡ engine → DoesLines s k g first last end → last.devices.now ≡ new → DoesScript s k g engine old new end
script_done s k g engine old new first last end same_devices same_engine does left told state stands =
    let begun : Represents first.engine (g.now first.devices.now.logs) state = rw (same_engine, same_devices) stands in
    rw (sym same_devices, sym same_engine, sym left) (does told state begun)
