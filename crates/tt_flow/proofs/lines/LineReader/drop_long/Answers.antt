use Rattle.std.proofs.Common.{◌≡◌, ◌≤◌, ◌-◌, length, arith, refl, false}
use Rattle.tt_flow.specs.Lines.{kept_bytes}
use Rattle.tt_flow.proofs.Kept.{length-kept}
use Rattle.tt_flow.proofs.Given.{given_dropped}
use Rattle.tt_flow.proofs.lines.LineReader.drop_long.Goals.{else-not-self-via-then-not-self+else-kept, else-not-self-via-else-not-self}
use Rattle.tt_flow.proofs.lines.LineReader.drop_long.Goals as goal

pub returns-clause-given : goal.returns-clause-given
returns-clause-given c =
    let self = c.args.self.now in
    let long : length (kept_bytes c.args.self.now) ≡ self.end - self.start = length-kept self.start self.end self.buffer self.ordered (omega arith) in
    let most : self.skipping ≡ false → 4098 ≤ length (kept_bytes c.args.self.now) =
    elim c.else-not-self.branch [
      | else-not-self-via-then-not-self+else-kept w ↦ λ _. omega arith
      | else-not-self-via-else-not-self w ↦ λ e. cc
    ] in
    given_dropped self _ c.requires refl most refl refl refl
