-- How the run of a script ended: its status, and the volume that stopped it.
use Rattle.std.specs.Prelude.{Option, Some, None}
use Rattle.tt_value.specs.declared.reply.Reply.{Reply}
use Rattle.tt_value.specs.declared.reply.Stop.{Stop}
use Rattle.tt_run.specs.declared.run_end.RunEnd.{RunEnd}
use Rattle.tt_run.specs.declared.run_end.RunEnd.TheVariants.{AtEnd, AtLine, AtSink, AtScript, ScriptOver, NoPlaceAtEnd}
use Rattle.tt_run.specs.declared.status.Status.{Status}
use Rattle.tt_run.specs.declared.status.Status.TheVariants.{Done, ScriptFault, SinkFault, VolumeFault, LogOut, ScriptTooLong}

-- the status of a run that ended so; where a line was stopped and the sink failed at its reply, it names the sink
abbrev pub status_of : RunEnd → Status
status_of (AtEnd None) = Done
status_of (AtEnd (Some stop)) = VolumeFault stop
status_of (AtLine reply stop) = VolumeFault stop
status_of (AtSink stop) = SinkFault
status_of AtScript = ScriptFault
status_of ScriptOver = ScriptTooLong
status_of NoPlaceAtEnd = LogOut

-- the volume of which a call failed
abbrev pub stop_of : RunEnd → Option Stop
stop_of (AtEnd stop) = stop
stop_of (AtLine reply stop) = Some stop
stop_of (AtSink stop) = stop
stop_of AtScript = None
stop_of ScriptOver = None
stop_of NoPlaceAtEnd = None

-- how the run ends with a line that has this reply, which was written, and was stopped so; it doesn't where nothing stopped it
abbrev pub end_of : Option Reply → Option Stop → Option RunEnd
end_of reply None = None
end_of reply (Some stop) = Some (AtLine reply stop)
