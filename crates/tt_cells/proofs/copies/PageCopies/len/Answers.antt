use Rattle.std.proofs.Common.{◌∙◌, length, ap, subst, sym}
use Rattle.tt_cells.specs.Copies.{AreSound, Copies}
use Rattle.tt_cells.specs.CopyLaws.{length-copies_in, kept_sound}
use Rattle.tt_cells.proofs.copies.PageCopies.len.Goals as goal

pub returns-clause-len : goal.returns-clause-len
returns-clause-len c =
    let s = c.self.inside in
    sym (length-copies_in s.count s.numbers.items s.bytes.items c.self.invariant.few) ∙ ap (λ (x : Copies). length x.copies) c.self.view_is

pub returns-clause-sound : goal.returns-clause-sound
returns-clause-sound c =
    let s = c.self.inside in
    subst AreSound c.self.view_is (kept_sound s.count s.numbers.items s.bytes.items c.self.invariant)
