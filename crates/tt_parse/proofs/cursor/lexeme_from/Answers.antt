use Rattle.std.proofs.Common.{length, refl, sym, ap, ◌∙◌, arith}
use Rattle.std.proofs.lemmas.List.{take_rest}
use Rattle.tt_parse.specs.Tokens.{first}
use Rattle.tt_parse.specs.declared.kind.Kind.TheVariants.{End}
use Rattle.tt_parse.specs.declared.cursor.Lexeme.{Lexeme}
use Rattle.tt_parse.proofs.Cursors.{behind-short, behind-end, shown-unclosed, shown-end, shown-behind}
use Rattle.tt_parse.proofs.cursor.lexeme_from.Goals as goal

pub returns-then-from-len-clause-shown : goal.returns-then-from-len-clause-shown
returns-then-from-len-clause-shown c = shown-unclosed c.args.line.now ∙ sym (behind-short c.args.line.now c.args.from (omega arith))

pub returns-then-at-len-clause-shown : goal.returns-then-at-len-clause-shown
returns-then-at-len-clause-shown c =
    let lexeme : Lexeme = record { at = c.past-at.result; kind = End; end = c.past-at.result } in
    shown-end c.args.line.now lexeme refl ∙ sym (behind-end c.args.line.now c.args.from c.past-at.result c.if-from-len.false c.past-at.ensures.value c.if-at-len.true)

pub returns-clause-shown : goal.returns-clause-shown
returns-clause-shown c =
    shown-behind c.args.line.now c.args.from c.past-at.result c.first-kind.result c.if-from-len.false c.past-at.ensures.value (omega arith)
    (c.first-kind.ensures.value ∙ ap first (take_rest c.args.line.now c.past-at.result))
    (omega arith) (omega (arith, ap length (take_rest c.args.line.now c.past-at.result))) c.first-kind.ensures.kind.0
