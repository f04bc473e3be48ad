use Rattle.std.proofs.Common.{◌≡◌, ◌<◌, length, arith, refl, false}
use Rattle.tt_flow.proofs.Kept.{kept_none, length-kept}
use Rattle.tt_flow.proofs.Given.{given_last, Reads-put}
use Rattle.tt_flow.specs.Lines.{kept_bytes}
use Rattle.tt_flow.proofs.lines.LineReader.give_last.Goals.{else-self-via-then-self+else-not-self, else-self-via-else-self}
use Rattle.tt_flow.proofs.lines.LineReader.give_last.Goals as goal

pub returns-clause-read : goal.returns-clause-read
returns-clause-read c = λ script left given h.
    let self = c.args.self.now in
    let few : self.skipping ≡ false → self.start < self.end =
    elim c.else-self.branch [
      | else-self-via-then-self+else-not-self w ↦ λ e. cc
      | else-self-via-else-self w ↦ λ _. omega arith
    ] in
    let long : self.skipping ≡ false → 0 < length (kept_bytes c.args.self.now) =
    λ e. (let l : self.start < self.end = few e in omega (arith, length-kept self.start self.end self.buffer self.ordered (omega arith))) in
    Reads-put script left (kept_bytes c.args.self.now) c.put_line-answer.new.line given self.skipping c.put_line-answer.result _ c.put_line-answer.ensures
    (given_last self _ c.requires.none (kept_none self.end self.buffer) long c.requires.ended refl refl refl script left given h)
