use Rattle.std.proofs.Common.{sym, ◌∙◌}
use Rattle.tt_parse.proofs.Next.{sees_word_is}
use Rattle.tt_parse.proofs.cursor.Cursor.sees_word.Goals as goal

pub returns-then-is : goal.returns-then-is
returns-then-is c =
    sees_word_is c.args.word.now c.args.self.now c.eq_ignore_ascii_case.result c.requires (sym c.is.ensures ∙ c.if-is.true) (rw c.bytes.ensures.value at c.eq_ignore_ascii_case.ensures.test)
