use Rattle.std.proofs.Common.{◌≤◌, ◌+◌, ◌*◌, ◌∙◌, ℕ, List, length, take, drop, ap, sym, arith}
use Rattle.tt_cells.specs.Limits.{page_size}
use Rattle.tt_cells.specs.Copies.{Copies, joined}
use Rattle.tt_cells.specs.CopyLaws.{joined_run, length-copies_in, within_buffer}
use Rattle.std.proofs.lemmas.List.{length-take-le}
use Rattle.tt_cells.proofs.copies.PageCopies.bytes_of_run.Goals as goal

pub piece-requires : goal.piece-requires
piece-requires c =
    let s = c.self.inside in
    let counted = length-copies_in s.count s.numbers.items s.bytes.items c.self.invariant.few in
    let same = ap (λ (x : Copies). length x.copies) c.self.view_is in
    let within : c.args.from + c.args.count ≤ length s.numbers.items = omega (arith, c.requires, c.self.invariant.few, counted, same) in
    omega (arith, within_buffer page_size (c.args.from + c.args.count) (length s.numbers.items) within, c.self.invariant.buffer, ap length c.deref.ensures.value)

pub returns : goal.returns
returns c =
    let s = c.self.inside in
    let counted = length-copies_in s.count s.numbers.items s.bytes.items c.self.invariant.few in
    let same = ap (λ (x : Copies). length x.copies) c.self.view_is in
    let within : c.args.from + c.args.count ≤ length (take s.count s.numbers.items) =
    omega (arith, c.requires, counted, same, length-take-le s.count s.numbers.items c.self.invariant.few) in
    c.piece.ensures ∙ ap (λ (l : List ℕ). take (page_size * c.args.count) (drop (page_size * c.args.from) l)) c.deref.ensures.value
    ∙ sym (joined_run page_size c.args.from c.args.count (take s.count s.numbers.items) s.bytes.items within)
    ∙ ap (λ (x : Copies). joined (take c.args.count (drop c.args.from x.copies))) c.self.view_is
