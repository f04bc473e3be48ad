use Rattle.std.proofs.Common.{◌≡◌, ◌++◌, [], ◌∷◌, sym, ◌∙◌, ap, subst, refl, arith, List, set, None}
use Rattle.std.proofs.lemmas.Result.{on_ok_weaker}
use Rattle.std.proofs.lemmas.Grind.{common_steps}
use Rattle.tt_disk.specs.Steps.{contents}
use Rattle.tt_disk.specs.Volume.{CreatedFrom, Steps}
use Rattle.tt_disk.specs.Files.{IsAt, found, now_of, files_now, files_may}
use Rattle.tt_disk.specs.Memory.{ReachesAll}
use Rattle.tt_disk.specs.declared.memory.file.MemFile.{MemFile}
use Rattle.tt_disk.proofs.File.{if_noted_weaker}
use Rattle.tt_disk.proofs.Files.{now_set, was_now, steps_index, now_added, steps_added, reaches_index, reaches_added}
use Rattle.tt_disk.specs.Failing.{IfNoted}
use Rattle.tt_disk.proofs.memory.files.create_file.Goals as goal

pub returns-in-Some-clause-done : goal.returns-in-Some-clause-done
returns-in-Some-clause-done c =
    let at = subst (λ l. IsAt l c.args.name c.in-Some.i) c.deref.ensures.value c.in-Some.ensures in
    on_ok_weaker c.create.result (λ done. now_set c.args.files.now.items c.args.name c.in-Some.i at _ c.index_mut.ensures.value _ c.create.ensures.steps.name ∙ done) c.create.ensures.done

pub returns-in-Some-clause-steps : goal.returns-in-Some-clause-steps
returns-in-Some-clause-steps c =
    let at = subst (λ l. IsAt l c.args.name c.in-Some.i) c.deref.ensures.value c.in-Some.ensures in
    let files = c.args.files.now.items in
    let file = c.index_mut.result.now in
    let after = set files c.in-Some.i c.create.new.self in
    subst (λ o. Steps (CreatedFrom o) c.args.name (files_now files) (files_now after) (files_may files) (files_may after)) (sym (was_now files c.args.name c.in-Some.i at file c.index_mut.ensures.value))
    (steps_index files c.args.name c.in-Some.i at file c.index_mut.ensures.value (CreatedFrom (contents file.bytes)) c.create.new.self c.create.ensures.steps)

pub returns-else-is_err-clause-done : goal.returns-else-is_err-clause-done
returns-else-is_err-clause-done c =
    let pushed : c.push.new.self.items ≡ c.args.files.now.items ++ c.create-result.new.self ∷ [] = grind (arith, common_steps) in
    on_ok_weaker c.create-result.result (λ done. ap (λ (l : List MemFile). files_now l c.args.name) pushed ∙ now_added c.args.files.now.items c.args.name (ap (λ (l : List MemFile). found l c.args.name) (sym c.deref.ensures.value) ∙ c.in-None.ensures) _ c.create-result.ensures.steps.name ∙ done) c.create-result.ensures.done

pub returns-else-is_err-clause-steps : goal.returns-else-is_err-clause-steps
returns-else-is_err-clause-steps c =
    let pushed : c.push.new.self.items ≡ c.args.files.now.items ++ c.create-result.new.self ∷ [] = grind (arith, common_steps) in
    let none = ap (λ (l : List MemFile). found l c.args.name) (sym c.deref.ensures.value) ∙ c.in-None.ensures in
    let files = c.args.files.now.items in
    let after = files ++ c.create-result.new.self ∷ [] in
    subst (λ l. Steps (CreatedFrom (files_now files c.args.name)) c.args.name (files_now files) (files_now l) (files_may files) (files_may l)) (sym pushed)
    (subst (λ o. Steps (CreatedFrom o) c.args.name (files_now files) (files_now after) (files_may files) (files_may after)) (sym (ap now_of none))
    (steps_added files c.args.name none _ c.create-result.ensures.steps.name (CreatedFrom None) _ refl refl c.new.ensures.items c.create-result.ensures.steps))

pub returns-in-Some-clause-reaches : goal.returns-in-Some-clause-reaches
returns-in-Some-clause-reaches c =
    let at = subst (λ l. IsAt l c.args.name c.in-Some.i) c.deref.ensures.value c.in-Some.ensures in
    let files = c.args.files.now.items in
    let file = c.index_mut.result.now in
    let after = set files c.in-Some.i c.create.new.self in
    if_noted_weaker c.create.result (λ reaches.
    subst (λ o. ReachesAll (CreatedFrom o) c.args.name (files_may files) (files_may after)) (sym (was_now files c.args.name c.in-Some.i at file c.index_mut.ensures.value))
    (reaches_index files c.args.name c.in-Some.i at file c.index_mut.ensures.value c.create.new.self c.create.ensures.steps.name (CreatedFrom (contents file.bytes)) reaches)) c.create.ensures.reaches

pub returns-else-is_err-clause-reaches : goal.returns-else-is_err-clause-reaches
returns-else-is_err-clause-reaches c =
    let pushed : c.push.new.self.items ≡ c.args.files.now.items ++ c.create-result.new.self ∷ [] = grind (arith, common_steps) in
    let none = ap (λ (l : List MemFile). found l c.args.name) (sym c.deref.ensures.value) ∙ c.in-None.ensures in
    let files = c.args.files.now.items in
    let after = files ++ c.create-result.new.self ∷ [] in
    subst (λ l. IfNoted c.create-result.result (ReachesAll (CreatedFrom (files_now files c.args.name)) c.args.name (files_may files) (files_may l))) (sym pushed)
    (if_noted_weaker c.create-result.result (λ reaches.
    subst (λ o. ReachesAll (CreatedFrom o) c.args.name (files_may files) (files_may after)) (sym (ap now_of none))
    (reaches_added files c.args.name none _ c.create-result.ensures.steps.name (CreatedFrom None) _ refl reaches)) c.create-result.ensures.reaches)
