use Rattle.std.proofs.Common.{◌≡◌, ◌+◌, ◌≤◌, ◌-◌, ◌++◌, ◌∷◌, List, ℕ, sym, ap, ◌∙◌, subst, take, drop, arith, refl}
use Rattle.tt_flow.proofs.Kept.{kept_after, kept_front, length-kept}
use Rattle.tt_flow.proofs.Given.{given_line, Reads-put}
use Rattle.tt_flow.specs.PutsLine.{PutsLine}
use Rattle.tt_flow.specs.Lines.{kept_bytes}
use Rattle.std.specs.Str.Lines.{strip_carriage_return}
use Rattle.tt_flow.proofs.lines.LineReader.give.Goals as goal

pub returns-clause-read : goal.returns-clause-read
returns-clause-read c = λ script left given h.
    let self = c.args.self.now in
    let kept : List ℕ = kept_bytes c.args.self.now in
    let body : List ℕ = take c.args.at kept in
    let few : self.start + (c.args.at + 1) ≤ self.end = omega (arith, c.requires.within, length-kept self.start self.end self.buffer self.ordered (omega arith)) in
    let rest : drop (c.args.at + 1) kept ≡ take (self.end - (self.start + (c.args.at + 1))) (drop (self.start + (c.args.at + 1)) self.buffer) =
    kept_after self.start self.end (c.args.at + 1) self.buffer few in
    let front : body ≡ take (self.start + c.args.at - self.start) (drop self.start self.buffer) =
    kept_front self.start self.end c.args.at self.buffer (omega arith) in
    let put : PutsLine (strip_carriage_return body) self.skipping c.put_line-answer.result c.put_line-answer.new.line =
    subst (λ b. PutsLine b self.skipping c.put_line-answer.result c.put_line-answer.new.line) (c.without_return-body.ensures ∙ ap strip_carriage_return (sym front)) c.put_line-answer.ensures in
    Reads-put script left (strip_carriage_return body) c.put_line-answer.new.line given self.skipping c.put_line-answer.result _ put
    (given_line self _ body (c.requires.whole ∙ ap (λ r. body ++ 10 ∷ r) rest) c.requires.before refl refl refl script left given h)
