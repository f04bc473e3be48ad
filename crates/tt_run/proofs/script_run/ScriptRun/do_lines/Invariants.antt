use Rattle.tt_disk.specs.Faults.{RoseWhere}
use Rattle.tt_flow.specs.Lines.{bytes_to_come}
use Rattle.tt_model.specs.State.{State}
use Rattle.tt_engine.specs.Engine.{Represents}
use Rattle.tt_run.specs.Run.{moment}
use Rattle.tt_run.specs.Devices.{KeepsRest}
use Rattle.tt_run.specs.ScriptRun.{IsReady, IsRunning, KeepsReferences, told_by}
use Rattle.tt_run.proofs.script_run.ScriptRun.do_lines.Given as goal

abbrev pub decreases-lines : goal.decreases-lines
decreases-lines g l = bytes_to_come l.self.reader

abbrev pub invariant-lines : goal.invariant-lines
invariant-lines g l = record {
  ready : IsReady g.L.Volume l.self;
  references : KeepsReferences l.initial.self l.self;
  rest : KeepsRest l.initial.self.devices.now l.self.devices.now;
  scripts : RoseWhere g.S.Source.exact ⊥ (g.S.Source.faults l.initial.self.devices.now.script) (g.S.Source.faults l.self.devices.now.script);
  sinks : RoseWhere g.K.Sink.exact ⊥ (g.K.Sink.faults l.initial.self.devices.now.sink) (g.K.Sink.faults l.self.devices.now.sink);
  volumes : RoseWhere g.L.Volume.exact ⊥ (g.L.Volume.faults l.initial.self.devices.now.logs) (g.L.Volume.faults l.self.devices.now.logs);
  running : g.L.Volume.told → (start : State) → Represents l.initial.self.engine (g.L.Volume.now l.initial.self.devices.now.logs) start
      → (s : State) × IsRunning g.L.Volume l.initial.self.engine (moment start l.initial.self.devices.now.logs) (told_by g.S.Source g.K.Sink (g.S.Source.left l.initial.self.devices.now.script) (g.K.Sink.given l.initial.self.devices.now.sink) l.self) l.self.reader l.self.engine (moment s l.self.devices.now.logs);
}
