use Rattle.std.proofs.Common.{◌≡◌, subst, map}
use Rattle.tt_disk.specs.Leave.{each_contents, AreLeft, least_of}
use Rattle.tt_disk.proofs.Leave.{all_left, reads_same, reads_least}
use Rattle.tt_disk.proofs.memory.MemVolume.leave.Goals as goal

pub returns-clause-left : goal.returns-clause-left
returns-clause-left c n =
    let left = subst (λ l. AreLeft l c.in_ok-left_files.field-0.items) c.deref.ensures.value c.in_ok-left_files.ensures.left in
    (all_left c.args.self.now.files.items c.in_ok-left_files.field-0.items left n).0

pub returns-clause-settled : goal.returns-clause-settled
returns-clause-settled c n =
    let left = subst (λ l. AreLeft l c.in_ok-left_files.field-0.items) c.deref.ensures.value c.in_ok-left_files.ensures.left in
    (all_left c.args.self.now.files.items c.in_ok-left_files.field-0.items left n).1

pub returns-clause-as_read : goal.returns-clause-as_read
returns-clause-as_read c one n =
    let left = subst (λ l. AreLeft l c.in_ok-left_files.field-0.items) c.deref.ensures.value c.in_ok-left_files.ensures.left in
    let same = subst (λ l. each_contents c.in_ok-left_files.field-0.items ≡ each_contents l) c.deref.ensures.value (c.in_ok-left_files.ensures.as_read one) in
    reads_same c.args.self.now.files.items c.in_ok-left_files.field-0.items left same n

pub returns-clause-least : goal.returns-clause-least
returns-clause-least c none n =
    let left = subst (λ l. AreLeft l c.in_ok-left_files.field-0.items) c.deref.ensures.value c.in_ok-left_files.ensures.left in
    let same = subst (λ l. each_contents c.in_ok-left_files.field-0.items ≡ map least_of l) c.deref.ensures.value (c.in_ok-left_files.ensures.least none) in
    reads_least c.args.self.now.files.items c.in_ok-left_files.field-0.items left same n
