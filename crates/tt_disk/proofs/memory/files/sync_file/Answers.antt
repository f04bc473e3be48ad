use Rattle.std.proofs.Common.{subst}
use Rattle.tt_disk.specs.Files.{IsAt}
use Rattle.tt_disk.proofs.Files.{settled_set, keeps_set, others_index, keeps_all_index}
use Rattle.tt_disk.proofs.memory.files.sync_file.Goals as goal

pub returns-in-Ok-clause-settled : goal.returns-in-Ok-clause-settled
returns-in-Ok-clause-settled c =
    let at = subst (λ l. IsAt l c.args.name c.in-Some.i) c.deref.ensures.value c.in-Some.ensures in
    settled_set c.args.files.now.items c.args.name c.in-Some.i at _ c.index_mut.ensures.value _ c.sync.ensures.name c.in-Ok.ensures.settled

pub returns-in-Ok-clause-keeps : goal.returns-in-Ok-clause-keeps
returns-in-Ok-clause-keeps c =
    let at = subst (λ l. IsAt l c.args.name c.in-Some.i) c.deref.ensures.value c.in-Some.ensures in
    keeps_set c.args.files.now.items c.args.name c.in-Some.i at _ c.index_mut.ensures.value _ c.sync.ensures.name c.sync.ensures.unchanged c.sync.ensures.crash

pub returns-in-Err-clause-keeps : goal.returns-in-Err-clause-keeps
returns-in-Err-clause-keeps c =
    let at = subst (λ l. IsAt l c.args.name c.in-Some.i) c.deref.ensures.value c.in-Some.ensures in
    keeps_set c.args.files.now.items c.args.name c.in-Some.i at _ c.index_mut.ensures.value _ c.sync.ensures.name c.sync.ensures.unchanged c.sync.ensures.crash

pub returns-in-Ok-clause-others : goal.returns-in-Ok-clause-others
returns-in-Ok-clause-others c =
    let at = subst (λ l. IsAt l c.args.name c.in-Some.i) c.deref.ensures.value c.in-Some.ensures in
    others_index c.args.files.now.items c.args.name c.in-Some.i at _ c.index_mut.ensures.value _ c.sync.ensures.name

pub returns-in-Err-clause-others : goal.returns-in-Err-clause-others
returns-in-Err-clause-others c =
    let at = subst (λ l. IsAt l c.args.name c.in-Some.i) c.deref.ensures.value c.in-Some.ensures in
    others_index c.args.files.now.items c.args.name c.in-Some.i at _ c.index_mut.ensures.value _ c.sync.ensures.name

pub returns-in-Err-clause-unsettled : goal.returns-in-Err-clause-unsettled
returns-in-Err-clause-unsettled c =
    let at = subst (λ l. IsAt l c.args.name c.in-Some.i) c.deref.ensures.value c.in-Some.ensures in
    keeps_all_index c.args.files.now.items c.args.name c.in-Some.i at _ c.index_mut.ensures.value _ c.sync.ensures.name c.in-Err.ensures.unsettled
