use Rattle.std.proofs.Common.{◌∙◌, subst}
use Rattle.std.proofs.lemmas.Result.{on_ok_weaker}
use Rattle.tt_disk.specs.Volume.{Removed}
use Rattle.tt_disk.specs.Files.{IsAt}
use Rattle.tt_disk.proofs.File.{if_noted_weaker}
use Rattle.tt_disk.proofs.Files.{now_set, steps_index, reaches_index}
use Rattle.tt_disk.proofs.memory.files.remove_file.Goals as goal

pub returns-in-Some-clause-done : goal.returns-in-Some-clause-done
returns-in-Some-clause-done c =
    let at = subst (λ l. IsAt l c.args.name c.in-Some.i) c.deref.ensures.value c.in-Some.ensures in
    on_ok_weaker c.remove.result (λ done. now_set c.args.files.now.items c.args.name c.in-Some.i at _ c.index_mut.ensures.value _ c.remove.ensures.steps.name ∙ done) c.remove.ensures.done

pub returns-in-Some-clause-steps : goal.returns-in-Some-clause-steps
returns-in-Some-clause-steps c =
    let at = subst (λ l. IsAt l c.args.name c.in-Some.i) c.deref.ensures.value c.in-Some.ensures in
    steps_index c.args.files.now.items c.args.name c.in-Some.i at _ c.index_mut.ensures.value Removed _ c.remove.ensures.steps

pub returns-in-Some-clause-reaches : goal.returns-in-Some-clause-reaches
returns-in-Some-clause-reaches c =
    let at = subst (λ l. IsAt l c.args.name c.in-Some.i) c.deref.ensures.value c.in-Some.ensures in
    if_noted_weaker c.remove.result (λ reaches. reaches_index c.args.files.now.items c.args.name c.in-Some.i at _ c.index_mut.ensures.value _ c.remove.ensures.steps.name Removed reaches) c.remove.ensures.reaches
