use Rattle.std.proofs.Common.{◌∙◌, arith}
use Rattle.tt_parse.proofs.Cursors.{behind-at}
use Rattle.tt_parse.proofs.cursor.Cursor.new.Goals as goal

pub returns : goal.returns
returns c = c.lexeme_from.ensures.shown ∙ behind-at c.args.line.now 0 (omega arith)
