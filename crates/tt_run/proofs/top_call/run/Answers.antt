use Rattle.std.proofs.Common.{◌≡◌, ◌∙◌, ap, inl, inr, refl, sym, subst, Ok, Err, Result}
use Rattle.tt_set.specs.declared.settings.Settings.{Settings}
use Rattle.std.specs.Prelude.{IsSome}
use Rattle.tt_run.specs.Devices.{SinkFailed, SourceFailed, VolumeFailed}
use Rattle.tt_run.specs.Openings.{mark_place}
use Rattle.tt_run.specs.declared.status.Status.{Status}
use Rattle.tt_run.proofs.OpenLemmas.{completes}
use Rattle.tt_run.proofs.SettingsLemmas.{are_settings, ended_bad, ended_so, said_not_bad, same_settings}
use Rattle.tt_run.proofs.TopLemmas.{create_not_bad, ended_creates, ended_runs, nothing_from, read_bad, run_not_bad, runs_from}
use Rattle.tt_run.proofs.top_call.run.Goals as goal

pub returns-in-Err-clause-attributes : goal.returns-in-Err-clause-attributes
returns-in-Err-clause-attributes g c = record {
  only = λ text told. read_bad text c.in-Err.status (c.in-Err.ensures.says text told);
  always = λ form text name told says. ended_bad c.in-Err.status name (ended_so c.in-Err.status c.in-Err.ensures.statuses) (c.in-Err.ensures.only text (Err name) told says);
}

pub returns-in-Err-clause-creates : goal.returns-in-Err-clause-creates
returns-in-Err-clause-creates g c = λ asks.
    ended_creates g.S.Source g.A.Source g.K.Sink g.L.Volume c.args.devices.now c.settings_of.new.attributes c.in-Err.status
    (record { ended = ended_so c.in-Err.status c.in-Err.ensures.statuses; says = c.in-Err.ensures.says; only = c.in-Err.ensures.only; failed = λ is. c.in-Err.ensures.fault.failed (ap (λ (status : Status). Err status) is) })

pub returns-in-Err-clause-runs : goal.returns-in-Err-clause-runs
returns-in-Err-clause-runs g c = λ asks.
    ended_runs g.S.Source g.A.Source g.K.Sink g.L.Volume c.args.devices.now c.settings_of.new.attributes c.in-Err.status
    (record { ended = ended_so c.in-Err.status c.in-Err.ensures.statuses; says = c.in-Err.ensures.says; only = c.in-Err.ensures.only; failed = λ is. c.in-Err.ensures.fault.failed (ap (λ (status : Status). Err status) is) })

pub returns-in-Create-clause-attributes : goal.returns-in-Create-clause-attributes
returns-in-Create-clause-attributes g c = record {
  only = λ text told. create_not_bad text c.create.result c.create.ensures.statuses;
  always = λ form text name told says. absurd (said_not_bad name c.in-Ok.settings (c.in-Ok.ensures.only text (Err name) told says));
}

pub returns-in-Run-clause-attributes : goal.returns-in-Run-clause-attributes
returns-in-Run-clause-attributes g c = record {
  only = λ text told. run_not_bad text c.run_script.result c.run_script.ensures.statuses;
  always = λ form text name told says. absurd (said_not_bad name c.in-Ok.settings (c.in-Ok.ensures.only text (Err name) told says));
}

pub returns-in-Run-clause-runs : goal.returns-in-Run-clause-runs
returns-in-Run-clause-runs g c = λ asks. record {
  ran = λ told. inr (
    c.in-Ok.settings,
    are_settings (g.A.Source.left c.args.devices.now.attributes) c.in-Ok.settings c.in-Ok.ensures.range c.in-Ok.ensures.says,
    runs_from g.S.Source g.A.Source g.K.Sink g.L.Volume c.args.devices.now c.settings_of.new.attributes c.run_script.result c.in-Ok.settings c.run_script.new.devices (c.run_script.ensures.ran told),
  );
  refused = λ refusal told is. nothing_from g.S.Source g.A.Source g.K.Sink g.L.Volume c.args.devices.now c.settings_of.new.attributes c.run_script.result c.run_script.new.devices (c.run_script.ensures.refused refusal told is);
  complete = λ bytes text settings found told script short given says is place no_script no_attributes no_sink no_logs.
      completes g.S.Source g.K.Sink g.L.Volume c.in-Ok.settings found c.args.devices.now c.run_script.new.devices c.run_script.result bytes
      (SourceFailed g.S.Source c.args.devices.now.script c.run_script.new.devices.script) (SinkFailed g.K.Sink c.args.devices.now.sink c.run_script.new.devices.sink) (VolumeFailed g.L.Volume c.args.devices.now.logs c.run_script.new.devices.logs)
      (runs_from g.S.Source g.A.Source g.K.Sink g.L.Volume c.args.devices.now c.settings_of.new.attributes c.run_script.result c.in-Ok.settings c.run_script.new.devices (c.run_script.ensures.ran told)) is
      (subst (λ (s : Settings). IsSome (mark_place s found)) (same_settings settings c.in-Ok.settings (c.in-Ok.ensures.only text (Ok settings) given says)) place) script short
      c.run_script.ensures.script_fault.failed c.run_script.ensures.sink_fault.failed c.run_script.ensures.logs_fault.failed no_script no_sink no_logs;
}
