use Rattle.std.proofs.Common.{sym, ap, ◌∙◌}
use Rattle.tt_parse.specs.Cursor.{past_next}
use Rattle.tt_parse.proofs.Cursors.{past_next-shown}
use Rattle.tt_parse.proofs.cursor.Cursor.advance.Goals as goal

pub returns : goal.returns
returns c =
    c.lexeme_from-self-inside.ensures.shown ∙ sym (past_next-shown c.self.inside.line.now c.self.inside.next (λ e. (c.self.invariant.at_end e).1)) ∙ ap past_next c.self.view_is
