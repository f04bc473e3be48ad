use Rattle.std.proofs.Common.{◌∙◌, Ok, Err, None, ap, refl}
use Rattle.tt_flow.specs.declared.lines.LineRead.{LineRead}
use Rattle.tt_flow.specs.declared.lines.LineRead.TheVariants.{Line, TooLong, End, ScriptTooLong}
use Rattle.tt_run.proofs.RunLemmas.{asked_next, asked_not_skipped, failed_next, next_reads, skipped_next}
use Rattle.tt_run.proofs.script_run.ScriptRun.next_line.Goals as goal

pub returns-in-Ok-TooLong-clause-read : goal.returns-in-Ok-TooLong-clause-read
returns-in-Ok-TooLong-clause-read g c = λ script given has. (
  None,
  refl,
  refl,
  next_reads script given _ _ _ _ _ c.next.result (Ok TooLong) (c.in-Ok-TooLong.is ∙ ap (λ (l : LineRead). Ok l) c.in-Ok-TooLong.field-0-is) c.next.ensures.read has,
)

pub returns-in-Ok-End-clause-read : goal.returns-in-Ok-End-clause-read
returns-in-Ok-End-clause-read g c = λ script given has. next_reads script given _ _ _ _ _ c.next.result (Ok End) (c.in-Ok-End.is ∙ ap (λ (l : LineRead). Ok l) c.in-Ok-End.field-0-is) c.next.ensures.read has

pub returns-in-Ok-ScriptTooLong-clause-read : goal.returns-in-Ok-ScriptTooLong-clause-read
returns-in-Ok-ScriptTooLong-clause-read g c = λ script given has.
    next_reads script given _ _ _ _ _ c.next.result (Ok ScriptTooLong) (c.in-Ok-ScriptTooLong.is ∙ ap (λ (l : LineRead). Ok l) c.in-Ok-ScriptTooLong.field-0-is) c.next.ensures.read has

pub returns-in-Err-clause-read : goal.returns-in-Err-clause-read
returns-in-Err-clause-read g c = λ script given has.
    failed_next script given c.next.new.self (g.S.Source.left c.next.new.source) c.next.new.line c.in-Err.failed (next_reads script given _ _ _ _ _ c.next.result (Err c.in-Err.failed) c.in-Err.is c.next.ensures.read has)

pub returns-in-Some-clause-read : goal.returns-in-Some-clause-read
returns-in-Some-clause-read g c = λ script given has.
    let read = next_reads script given _ _ _ _ _ c.next.result (Ok Line) (c.in-Ok-Line.is ∙ ap (λ (l : LineRead). Ok l) c.in-Ok-Line.field-0-is) c.next.ensures.read has in
    asked_next script given c.line.result.now c.next.new.line c.in-Some.request c.next.new.self (g.S.Source.left c.next.new.source) c.line.ensures.line (asked_not_skipped c.line.result.now c.in-Some.request c.read_request.result c.in-Some.is c.read_request.ensures.skipped) c.in-Some.ensures.request read

pub returns-in-None-clause-read : goal.returns-in-None-clause-read
returns-in-None-clause-read g c = λ script given has.
    let read = next_reads script given _ _ _ _ _ c.next.result (Ok Line) (c.in-Ok-Line.is ∙ ap (λ (l : LineRead). Ok l) c.in-Ok-Line.field-0-is) c.next.ensures.read has in
    skipped_next script given c.line.result.now c.next.new.line c.next.new.self (g.S.Source.left c.next.new.source) c.line.ensures.line (c.read_request.ensures.skipped.0 c.in-None.is) read
