use Rattle.std.proofs.Common.{◌≡◌, ◌<◌, ◌∙◌, length, slice_index, ap, sym, arith}
use Rattle.std.proofs.lemmas.List.{get_or_read}
use Rattle.tt_cells.specs.Copies.{Copies, pages_of}
use Rattle.tt_cells.specs.CopyLaws.{length-copies_in, page-copies_in}
use Rattle.tt_cells.proofs.copies.PageCopies.page.Goals as goal

pub index-requires : goal.index-requires
index-requires c =
    let s = c.self.inside in
    omega (arith, c.requires, c.self.invariant.few, length-copies_in s.count s.numbers.items s.bytes.items c.self.invariant.few, ap (λ (x : Copies). length x.copies) c.self.view_is, s.numbers.ok.0)

pub returns : goal.returns
returns c =
    let s = c.self.inside in
    let less : c.args.at < s.count =
    omega (arith, c.requires, length-copies_in s.count s.numbers.items s.bytes.items c.self.invariant.few, ap (λ (x : Copies). length x.copies) c.self.view_is) in
    let read : c.index.result.now ≡ slice_index s.numbers.items c.args.at = get_or_read s.numbers.items c.args.at c.index.result.now (omega (arith, less, c.self.invariant.few)) c.index.ensures 0 in
    read ∙ sym (page-copies_in s.count c.args.at s.numbers.items s.bytes.items less) ∙ ap (λ (x : Copies). slice_index (pages_of x.copies) c.args.at) c.self.view_is
