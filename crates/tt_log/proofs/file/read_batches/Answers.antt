use Rattle.std.proofs.Common.{◌∙◌, ap, sym, subst, arith}
use Rattle.tt_disk.specs.declared.volume.Name.TheVariants.{Log as LogFile}
use Rattle.tt_disk.specs.Laws.{count_stays, keeps_then_keeps}
use Rattle.tt_log.specs.Visitor.{VisitsUpTo, VisitsBatch, at_first}
use Rattle.tt_log.proofs.Reaching.{read_is, end_closes}
use Rattle.tt_log.specs.Batch.{IsRefused, rest_read}
use Rattle.tt_log.specs.File.{HasEnd}
use Rattle.tt_log.specs.Walk.{Part}
use Rattle.tt_log.proofs.Heads.{file_headed}
use Rattle.tt_log.proofs.Visiting.{part_same, up_to_more, up_to_end, visited_is}
use Rattle.tt_log.proofs.file.read_batches.Goals as goal

pub returns-in-Ok-Ends-clause-exact : goal.returns-in-Ok-Ends-clause-exact
returns-in-Ok-Ends-clause-exact g c told =
    subst (λ (p : Part). HasEnd c.args.wanted p c.in-Ok-Ends.end) (sym (file_headed c.args.number _ (c.requires.headed told)))
    (read_is c.args.wanted c.args.number _ _ c.read_next_batch.result c.in-Ok-Ends.field-0 (c.read_next_batch.ensures.exact told) c.in-Ok-Ends.is c.in-Ok-Ends.field-0-is ((c.batches.invariant.keeps told).reads (LogFile c.args.number)))

pub returns-in-Err-clause-exact : goal.returns-in-Err-clause-exact
returns-in-Err-clause-exact g c told =
    subst (λ (p : Part). IsRefused c.in-Err.refusal p) (ap (rest_read c.args.number 16 0) ((c.batches.invariant.keeps told).reads (LogFile c.args.number)) ∙ sym (file_headed c.args.number _ (c.requires.headed told))) (c.in-Err.ensures.exact told)

pub returns-in-Ok-Ends-clause-closed : goal.returns-in-Ok-Ends-clause-closed
returns-in-Ok-Ends-clause-closed g c told =
    end_closes _ _ c.in-Ok-Ends.field-0 c.in-Ok-Ends.end (c.in-Ok-Ends.ensures.closed told) c.in-Ok-Ends.field-0-is ((c.batches.invariant.keeps told).reads (LogFile c.args.number))

pub batches-preserved : goal.batches-preserved
batches-preserved g c =
    let within = rw c.in-Ok-On.field-0-is at c.in-Ok-On.ensures.within in
    let old = g.T.EntryVisitor.visited c.args.visitor.now in
    let mid = g.T.EntryVisitor.visited c.batches.visitor in
    let new = g.T.EntryVisitor.visited c.read_next_batch.new.visitor in
    record {
      some = omega (arith, within.0);
      inside = within.1;
      room = within.2;
      later = omega (arith, c.in-Ok-On.ensures.cause.later, c.batches.invariant.later);
      stays = λ exact. count_stays _ _ _ _ _ c.in-Ok-On.ensures.cause exact ∙ c.batches.invariant.stays exact;
      keeps = λ told. keeps_then_keeps _ _ _ _ _ _ (c.batches.invariant.keeps told) (c.read_next_batch.ensures.keeps told);
      reached = λ told. read_is c.args.wanted c.args.number _ _ c.read_next_batch.result c.in-Ok-On.field-0 (c.read_next_batch.ensures.exact told) c.in-Ok-On.is c.in-Ok-On.field-0-is ((c.batches.invariant.keeps told).reads (LogFile c.args.number));
      given = λ told.
          up_to_more c.args.number old mid new at_first c.batches.at c.in-Ok-On.next (g.V.Volume.now c.args.volume.now (LogFile c.args.number)) (c.batches.invariant.given told)
          (subst (λ o. VisitsUpTo c.args.number mid new c.batches.at c.in-Ok-On.next o) ((c.batches.invariant.keeps told).reads (LogFile c.args.number))
          (visited_is g.T.EntryVisitor.visited c.batches.visitor c.read_next_batch.new.visitor c.args.number c.batches.at _ c.read_next_batch.result c.in-Ok-On.field-0 (c.read_next_batch.ensures.given told) c.in-Ok-On.is c.in-Ok-On.field-0-is));
    }

pub returns-in-Ok-Ends-clause-given : goal.returns-in-Ok-Ends-clause-given
returns-in-Ok-Ends-clause-given g c told =
    let old = g.T.EntryVisitor.visited c.args.visitor.now in
    let mid = g.T.EntryVisitor.visited c.batches.visitor in
    let new = g.T.EntryVisitor.visited c.read_next_batch.new.visitor in
    part_same c.args.number old new _ _ (sym (file_headed c.args.number _ (c.requires.headed told)))
    (up_to_end c.args.number old mid new c.batches.at c.in-Ok-Ends.end (g.V.Volume.now c.args.volume.now (LogFile c.args.number)) (c.batches.invariant.given told)
    (visited_is g.T.EntryVisitor.visited c.batches.visitor c.read_next_batch.new.visitor c.args.number c.batches.at _ c.read_next_batch.result c.in-Ok-Ends.field-0
    (subst (λ o. VisitsBatch c.args.number g.T.EntryVisitor.visited c.batches.visitor c.read_next_batch.new.visitor c.batches.at c.read_next_batch.result o) ((c.batches.invariant.keeps told).reads (LogFile c.args.number)) (c.read_next_batch.ensures.given told)) c.in-Ok-Ends.is c.in-Ok-Ends.field-0-is))
