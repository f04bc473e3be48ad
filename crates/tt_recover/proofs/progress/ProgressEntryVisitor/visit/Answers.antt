use Rattle.std.proofs.Common.{max, ap, ◌∙◌}
use Rattle.tt_model.specs.Live.{after_number, next_number}
use Rattle.tt_recover.proofs.RecoveryLemmas.{read_one}
use Rattle.tt_recover.proofs.progress.ProgressEntryVisitor.visit.Goals as goal

pub returns : goal.returns
unfolding next_number
returns c = record {
  visited = λ ps read. read_one _ _ ps _ c.args.entry read (λ trail h. record {
    taken = c.in_ok-take.ensures.taken trail _ h.taken;
    next = c.next_number-next.ensures.next ∙ ap (max (after_number c.args.entry)) h.next;
  });
}
