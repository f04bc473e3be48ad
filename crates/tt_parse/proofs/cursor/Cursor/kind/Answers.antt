use Rattle.std.proofs.Common.{sym, ap, ◌∙◌}
use Rattle.tt_parse.specs.Cursor.{next_kind}
use Rattle.tt_parse.proofs.Cursors.{next_kind-shown}
use Rattle.tt_parse.proofs.cursor.Cursor.kind.Goals as goal

pub returns : goal.returns
returns c = sym (next_kind-shown c.self.inside.line.now c.self.inside.next) ∙ ap next_kind c.self.view_is
