use Rattle.std.proofs.Common.{◌≤◌, sym, ◌∙◌, ap, subst, length}
use Rattle.std.proofs.lemmas.Result.{on_ok_weaker}
use Rattle.std.specs.Prelude.{IsSome}
use Rattle.tt_disk.specs.Volume.{Torn, written, size_of}
use Rattle.tt_disk.specs.Files.{IsAt}
use Rattle.tt_disk.proofs.File.{if_noted_weaker}
use Rattle.tt_disk.proofs.Files.{now_index, now_set, steps_index, reaches_index}
use Rattle.tt_disk.proofs.memory.files.write_file.Goals as goal

pub write_at-requires-clause-there : goal.write_at-requires-clause-there
write_at-requires-clause-there c =
    let at = subst (λ l. IsAt l c.args.name c.in-Some.i) c.deref.ensures.value c.in-Some.ensures in
    subst (λ o. IsSome o) (now_index c.args.files.now.items c.args.name c.in-Some.i at _ c.index_mut.ensures.value) c.requires.there

pub write_at-requires-clause-within : goal.write_at-requires-clause-within
write_at-requires-clause-within c =
    let at = subst (λ l. IsAt l c.args.name c.in-Some.i) c.deref.ensures.value c.in-Some.ensures in
    subst (λ o. c.args.at ≤ size_of o) (now_index c.args.files.now.items c.args.name c.in-Some.i at _ c.index_mut.ensures.value) c.requires.within

pub returns-in-Some-clause-done : goal.returns-in-Some-clause-done
returns-in-Some-clause-done c =
    let at = subst (λ l. IsAt l c.args.name c.in-Some.i) c.deref.ensures.value c.in-Some.ensures in
    on_ok_weaker c.write_at.result (λ done.
    now_set c.args.files.now.items c.args.name c.in-Some.i at _ c.index_mut.ensures.value _ c.write_at.ensures.steps.name ∙ done
    ∙ ap (written c.args.at c.args.bytes.now) (sym (now_index c.args.files.now.items c.args.name c.in-Some.i at _ c.index_mut.ensures.value))) c.write_at.ensures.done

pub returns-in-Some-clause-steps : goal.returns-in-Some-clause-steps
returns-in-Some-clause-steps c =
    let at = subst (λ l. IsAt l c.args.name c.in-Some.i) c.deref.ensures.value c.in-Some.ensures in
    steps_index c.args.files.now.items c.args.name c.in-Some.i at _ c.index_mut.ensures.value (Torn c.args.at (length c.args.bytes.now)) _ c.write_at.ensures.steps

pub returns-in-Some-clause-reaches : goal.returns-in-Some-clause-reaches
returns-in-Some-clause-reaches c =
    let at = subst (λ l. IsAt l c.args.name c.in-Some.i) c.deref.ensures.value c.in-Some.ensures in
    if_noted_weaker c.write_at.result (λ reaches. reaches_index c.args.files.now.items c.args.name c.in-Some.i at _ c.index_mut.ensures.value _ c.write_at.ensures.steps.name (Torn c.args.at (length c.args.bytes.now)) reaches) c.write_at.ensures.reaches
