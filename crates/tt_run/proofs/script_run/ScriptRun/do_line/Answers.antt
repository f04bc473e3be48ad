use Rattle.std.proofs.Common.{◌≡◌, ◌∙◌, Ok, Err, Result, ap, subst}
use Rattle.tt_disk.specs.declared.volume.Failed.{Failed}
use Rattle.tt_run.specs.declared.script_run.NextLine.{NextLine}
use Rattle.tt_run.specs.declared.script_run.NextLine.TheVariants.{Asks, Skipped, End, ScriptTooLong}
use Rattle.tt_run.specs.ScriptRun.{ReadsNext}
use Rattle.tt_run.proofs.LineLemmas.{line_done, line_logs, line_ready, line_script, rest_then, round_ends, round_run_end, script_ends, script_failed, script_over, skipped_done}
use Rattle.tt_run.proofs.script_run.ScriptRun.do_line.Goals as goal

pub returns-in-Ok-Skipped-clause-step : goal.returns-in-Ok-Skipped-clause-step
returns-in-Ok-Skipped-clause-step g c =
    skipped_done g.S.Source g.K.Sink g.L.Volume c.args.self.now c.next_line.new.self
    (subst (λ (r : Result NextLine Failed). ReadsNext g.S.Source c.args.self.now c.next_line.new.self r) (c.in-Ok-Skipped.is ∙ ap (λ (n : NextLine). Ok n) c.in-Ok-Skipped.field-0-is) c.next_line.ensures.read) c.next_line.ensures.rest

pub returns-in-Ok-End-clause-step : goal.returns-in-Ok-End-clause-step
returns-in-Ok-End-clause-step g c =
    script_ends g.S.Source g.K.Sink g.L.Volume c.args.self.now c.next_line.new.self c.end_script.new.self c.end_script.result
    (subst (λ (r : Result NextLine Failed). ReadsNext g.S.Source c.args.self.now c.next_line.new.self r) (c.in-Ok-End.is ∙ ap (λ (n : NextLine). Ok n) c.in-Ok-End.field-0-is) c.next_line.ensures.read) c.next_line.ensures.rest c.end_script.ensures.ended c.end_script.ensures.rest

pub returns-in-Ok-ScriptTooLong-clause-step : goal.returns-in-Ok-ScriptTooLong-clause-step
returns-in-Ok-ScriptTooLong-clause-step g c =
    script_over g.S.Source g.K.Sink g.L.Volume c.args.self.now c.next_line.new.self
    (subst (λ (r : Result NextLine Failed). ReadsNext g.S.Source c.args.self.now c.next_line.new.self r) (c.in-Ok-ScriptTooLong.is ∙ ap (λ (n : NextLine). Ok n) c.in-Ok-ScriptTooLong.field-0-is) c.next_line.ensures.read) c.next_line.ensures.rest

pub returns-in-Err-clause-step : goal.returns-in-Err-clause-step
returns-in-Err-clause-step g c =
    script_failed g.S.Source g.K.Sink g.L.Volume c.args.self.now c.next_line.new.self c.in-Err.field-0
    (subst (λ (r : Result NextLine Failed). ReadsNext g.S.Source c.args.self.now c.next_line.new.self r) c.in-Err.is c.next_line.ensures.read) c.next_line.ensures.rest

pub returns-clause-step : goal.returns-clause-step
returns-clause-step g c =
    line_done g.S.Source g.K.Sink g.L.Volume c.args.self.now c.next_line.new.self c.round_of-round.new.self c.write_round.new.self c.in-Ok-Asks.request c.round_of-round.result c.write_round.result
    (subst (λ (r : Result NextLine Failed). ReadsNext g.S.Source c.args.self.now c.next_line.new.self r) (c.in-Ok-Asks.is ∙ ap (λ (n : NextLine). Ok n) c.in-Ok-Asks.field-0-is) c.next_line.ensures.read) c.next_line.ensures.rest
    c.round_of-round.ensures.made c.round_of-round.ensures.rest c.write_round.ensures.written c.write_round.ensures.rest

pub returns-clause-open : goal.returns-clause-open
returns-clause-open g c = line_ready g.K.Sink g.L.Volume c.next_line.new.self c.round_of-round.new.self c.write_round.new.self c.in-Ok-Asks.request c.round_of-round.result c.write_round.result c.round_of-round.ensures.made c.write_round.ensures.written c.write_round.ensures.rest

pub returns-clause-ends : goal.returns-clause-ends
returns-clause-ends g c =
    round_run_end c.round_of-round.result c.write_round.result
    (round_ends g.K.Sink g.L.Volume c.in-Ok-Asks.request c.next_line.new.self c.round_of-round.new.self c.write_round.new.self c.round_of-round.result c.write_round.result c.round_of-round.ensures.made c.write_round.ensures.written)

pub returns-clause-script_fault : goal.returns-clause-script_fault
returns-clause-script_fault g c =
    line_script g.S.Source c.args.self.now c.next_line.new.self c.round_of-round.new.self c.write_round.new.self c.in-Ok-Asks.request c.next_line.result c.round_of-round.result c.write_round.result
    (c.in-Ok-Asks.is ∙ ap (λ (n : NextLine). Ok n) c.in-Ok-Asks.field-0-is) c.next_line.ensures.cause c.round_of-round.ensures.rest c.write_round.ensures.rest
    (round_ends g.K.Sink g.L.Volume c.in-Ok-Asks.request c.next_line.new.self c.round_of-round.new.self c.write_round.new.self c.round_of-round.result c.write_round.result c.round_of-round.ensures.made c.write_round.ensures.written)

pub returns-clause-logs_fault : goal.returns-clause-logs_fault
returns-clause-logs_fault g c =
    line_logs g.L.Volume c.args.self.now c.next_line.new.self c.round_of-round.new.self c.write_round.new.self c.round_of-round.result c.write_round.result c.next_line.ensures.rest c.round_of-round.ensures.fault c.write_round.ensures.rest
    (round_ends g.K.Sink g.L.Volume c.in-Ok-Asks.request c.next_line.new.self c.round_of-round.new.self c.write_round.new.self c.round_of-round.result c.write_round.result c.round_of-round.ensures.made c.write_round.ensures.written)

pub returns-clause-rest : goal.returns-clause-rest
returns-clause-rest g c = rest_then _ _ _ c.next_line.ensures.rest.rest (rest_then _ _ _ c.round_of-round.ensures.rest.rest c.write_round.ensures.rest.rest)

pub returns-in-Ok-End-clause-rest : goal.returns-in-Ok-End-clause-rest
returns-in-Ok-End-clause-rest g c = rest_then _ _ _ c.next_line.ensures.rest.rest c.end_script.ensures.rest.rest
