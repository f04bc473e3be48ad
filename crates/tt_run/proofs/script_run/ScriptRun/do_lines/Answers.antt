use Rattle.std.proofs.Common.{◌∙◌, refl}
use Rattle.tt_engine.specs.RepresentsLaws.{forced_now, forced_settled}
use Rattle.tt_run.specs.Run.{moment}
use Rattle.tt_run.proofs.FaultLemmas.{none_failed, not_called, rose_behind}
use Rattle.tt_run.proofs.RunLemmas.{begins_run}
use Rattle.tt_run.proofs.LineLemmas.{rest_then}
use Rattle.tt_run.proofs.script_run.ScriptRun.do_lines.Goals as goal

pub lines-init : goal.lines-init
lines-init g c = record {
  ready = c.requires.open;
  references = refl;
  rest = record { attributes = refl; images = refl; backups = refl };
  scripts = not_called _ ⊥ _ (λ none. none);
  sinks = not_called _ ⊥ _ (λ none. none);
  volumes = not_called _ ⊥ _ (λ none. none);
  running = λ told start stands. (
    start,
    begins_run g.L.Volume c.args.self.now.engine (moment start c.args.self.now.devices.now.logs) (g.S.Source.left c.args.self.now.devices.now.script) (g.K.Sink.given c.args.self.now.devices.now.sink) c.args.self.now.reader c.requires.start stands
        (record {
          files = stands.log.files;
          opens = forced_now c.args.self.now.engine (g.L.Volume.now c.args.self.now.devices.now.logs) (g.L.Volume.may c.args.self.now.devices.now.logs) start stands (c.requires.open told);
          settled_again = forced_settled c.args.self.now.engine (g.L.Volume.now c.args.self.now.devices.now.logs) (g.L.Volume.may c.args.self.now.devices.now.logs) start stands (c.requires.open told);
        }),
  );
}

pub returns-in-Some-clause-ran : goal.returns-in-Some-clause-ran
returns-in-Some-clause-ran g c = λ told start stands.
    let (s, running) = c.lines.invariant.running told start stands in
    c.in-Some.ensures.step told c.args.self.now.engine (moment start c.args.self.now.devices.now.logs) (g.S.Source.left c.args.self.now.devices.now.script) (g.K.Sink.given c.args.self.now.devices.now.sink) s running

pub lines-preserved : goal.lines-preserved
lines-preserved g c = record {
  ready = c.in-None.ensures.open;
  references = c.in-None.ensures.references ∙ c.lines.invariant.references;
  rest = rest_then _ _ _ c.lines.invariant.rest c.in-None.ensures.rest;
  scripts = rose_behind _ ⊥ _ _ _ c.lines.invariant.scripts (none_failed _ _ _ _ (λ named. named) c.in-None.ensures.script_fault);
  sinks = rose_behind _ ⊥ _ _ _ c.lines.invariant.sinks (none_failed _ _ _ _ (λ named. named) c.in-None.ensures.sink_fault);
  volumes = rose_behind _ ⊥ _ _ _ c.lines.invariant.volumes (none_failed _ _ _ _ (λ named. named) c.in-None.ensures.logs_fault);
  running = λ told start stands.
      let (s, running) = c.lines.invariant.running told start stands in
      c.in-None.ensures.step told c.args.self.now.engine (moment start c.args.self.now.devices.now.logs) (g.S.Source.left c.args.self.now.devices.now.script) (g.K.Sink.given c.args.self.now.devices.now.sink) s running;
}

pub returns-in-Some-clause-script_fault : goal.returns-in-Some-clause-script_fault
returns-in-Some-clause-script_fault g c = rose_behind _ _ _ _ _ c.lines.invariant.scripts c.in-Some.ensures.script_fault

pub returns-in-Some-clause-sink_fault : goal.returns-in-Some-clause-sink_fault
returns-in-Some-clause-sink_fault g c = rose_behind _ _ _ _ _ c.lines.invariant.sinks c.in-Some.ensures.sink_fault

pub returns-in-Some-clause-logs_fault : goal.returns-in-Some-clause-logs_fault
returns-in-Some-clause-logs_fault g c = rose_behind _ _ _ _ _ c.lines.invariant.volumes c.in-Some.ensures.logs_fault

pub returns-in-Some-clause-rest : goal.returns-in-Some-clause-rest
returns-in-Some-clause-rest g c = rest_then _ _ _ c.lines.invariant.rest c.in-Some.ensures.rest

pub returns-in-Some-clause-same_devices : goal.returns-in-Some-clause-same_devices
returns-in-Some-clause-same_devices g c = c.in-Some.ensures.references ∙ c.lines.invariant.references
