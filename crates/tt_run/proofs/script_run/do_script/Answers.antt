use Rattle.std.proofs.Common.{◌≡◌, rules, sym}
use Rattle.tt_run.proofs.LineLemmas.{script_done}
use Rattle.tt_run.proofs.script_run.do_script.Goals as goal

pub returns-clause-ran : goal.returns-clause-ran
returns-clause-ran g c =
    let back : c.do_lines-end.new.self.devices.now ≡ c.devices-1.given.0 = search rules in
    script_done g.S.Source g.K.Sink g.L.Volume c.args.engine c.args.devices.now c.devices-1.given.0 c.new-run.result c.do_lines-end.new.self c.do_lines-end.result c.new-run.ensures.devices c.new-run.ensures.engine c.do_lines-end.ensures.ran
    back
