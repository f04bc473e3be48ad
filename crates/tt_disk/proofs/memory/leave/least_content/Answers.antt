use Rattle.std.proofs.Common.{◌≡◌, sym, subst, arith, Some}
use Rattle.std.proofs.lemmas.Grind.{common_steps}
use Rattle.std.specs.Prelude.{IfOk}
use Rattle.tt_disk.specs.Leave.{least_of}
use Rattle.tt_disk.specs.Steps.{contents}
use Rattle.tt_disk.specs.File.{file_may}
use Rattle.tt_disk.proofs.Leave.{least_may, least_left_may}
use Rattle.tt_disk.proofs.memory.leave.least_content.Goals.{else-is_some-via-then-is_some+else-was_emptied, else-is_some-via-else-is_some}
use Rattle.tt_disk.proofs.memory.leave.least_content.Goals as goal

pub returns-then-was_emptied-clause-left : goal.returns-then-was_emptied-clause-left
returns-then-was_emptied-clause-left c =
    let is : Some c.new.result.items ≡ least_of c.args.file.now = grind (arith, common_steps) in
    subst (λ o. file_may c.args.file.now o) (sym is) (least_may c.args.file.now)

pub returns-else-is_some-clause-left : goal.returns-else-is_some-clause-left
returns-else-is_some-clause-left c =
    let is : IfOk c.copy_of.result (λ left. contents left ≡ least_of c.args.file.now) = grind (arith, common_steps) in
    least_left_may c.copy_of.result c.args.file.now is
