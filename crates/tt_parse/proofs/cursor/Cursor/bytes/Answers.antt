use Rattle.std.proofs.Common.{ℕ, List, IsUtf8, sym, ap, subst, ◌∙◌, ◌-◌, take, drop, false}
use Rattle.tt_parse.specs.Cursor.{next_bytes, next_kind}
use Rattle.tt_parse.specs.Symbols.{undoubled, inside}
use Rattle.tt_parse.proofs.Cursors.{next_bytes-shown, next_kind-shown, take-min}
use Rattle.tt_parse.proofs.Texts.{text_utf8}
use Rattle.tt_parse.proofs.cursor.Cursor.bytes.Goals as goal

pub returns-clause-value : goal.returns-clause-value
returns-clause-value c =
    let line = c.self.inside.line.now in
    let lexeme = c.self.inside.next in
    ap (λ e. take (e - lexeme.at) (drop lexeme.at line)) c.min-end.ensures ∙ take-min line lexeme.at lexeme.end
    ∙ sym (next_bytes-shown line lexeme (λ e. (c.self.invariant.at_end e).1) (λ e. (c.self.invariant.at_end e).0)) ∙ ap next_bytes c.self.view_is

pub returns-clause-text : goal.returns-clause-text
returns-clause-text c = λ kind.
    let line = c.self.inside.line.now in
    let lexeme = c.self.inside.next in
    let text = c.self.invariant.text (sym (next_kind-shown line lexeme) ∙ ap next_kind c.self.view_is ∙ kind) in
    subst (λ (y : List ℕ). IsUtf8 (undoubled false (inside y)))
    (sym (ap (λ e. take (e - lexeme.at) (drop lexeme.at line)) c.min-end.ensures ∙ take-min line lexeme.at lexeme.end))
    (text_utf8 line lexeme.at lexeme.end c.self.invariant.utf8 text.0 text.1 text.2)
