use Rattle.tt_run.proofs.RunLemmas.{ended_leaves, stopped_leaves}
use Rattle.tt_run.proofs.script_run.ScriptRun.end_script.Goals as goal

pub returns-in-Ok-clause-ended : goal.returns-in-Ok-clause-ended
returns-in-Ok-clause-ended g c = λ told s stands.
    let ended = c.in-Ok.ensures.ends told in
    ended_leaves g.L.Volume c.args.self.now.engine c.args.self.now.devices.now.logs c.end.new.self c.end.new.logs s (ended.stands s stands) (ended.written s stands) ended.ready

pub returns-in-Err-clause-ended : goal.returns-in-Err-clause-ended
returns-in-Err-clause-ended g c = λ told s stands.
    stopped_leaves g.L.Volume c.args.self.now.engine c.args.self.now.devices.now.logs c.end.new.logs s ((c.in-Err.ensures.ends told).stopped s stands)
