use Rattle.std.proofs.Common.{◌≡◌, ◌<◌, ◌∙◌, ℕ, List, length, set, ap, arith}
use Rattle.tt_cells.specs.Limits.{page_size}
use Rattle.tt_cells.specs.Copies.{put_at, with_copy, numbered}
use Rattle.tt_cells.specs.CopyLaws.{next_within, one_within, put_copies}
use Rattle.tt_cells.proofs.copies.PageCopies.push.Goals as goal

pub put-requires-clause-number : goal.put-requires-clause-number
put-requires-clause-number c =
    let s = c.self.inside in
    let less : s.count < length s.numbers.items = next_within s.count s.numbers.items s.bytes.items c.args.self.now c.self.invariant c.self.view_is c.requires.room in
    omega (arith, less, ap length c.deref_mut.ensures.value)

pub put-requires-clause-bytes : goal.put-requires-clause-bytes
put-requires-clause-bytes c =
    let s = c.self.inside in
    let less : s.count < length s.numbers.items = next_within s.count s.numbers.items s.bytes.items c.args.self.now c.self.invariant c.self.view_is c.requires.room in
    omega (arith, one_within page_size s.count (length s.numbers.items) less, c.self.invariant.buffer, ap length c.deref_mut-2.ensures.value)

pub returns : goal.returns
returns c =
    let s = c.self.inside in
    let less : s.count < length s.numbers.items = next_within s.count s.numbers.items s.bytes.items c.args.self.now c.self.invariant c.self.view_is c.requires.room in
    let copy = numbered c.args.page c.args.bytes.now in
    let number : c.put.new.numbers ≡ set s.numbers.items s.count copy.page = c.put.ensures.number ∙ ap (λ (l : List ℕ). set l s.count copy.page) c.deref_mut.ensures.value in
    let bytes : c.put.new.bytes ≡ put_at page_size s.count copy.bytes s.bytes.items = c.put.ensures.bytes ∙ ap (put_at page_size s.count copy.bytes) c.deref_mut-2.ensures.value in
    put_copies s.numbers s.bytes s.count c.put.new.numbers c.put.new.bytes copy c.self.invariant less c.requires.bytes number bytes ∙ ap (with_copy copy) c.self.view_is
