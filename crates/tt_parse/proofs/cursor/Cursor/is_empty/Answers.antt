use Rattle.std.proofs.Common.{sym, ◌∙◌}
use Rattle.tt_parse.specs.Tokens.{same_kind}
use Rattle.tt_parse.proofs.Cursors.{next_kind-end, shown-nil}
use Rattle.tt_parse.proofs.cursor.Cursor.is_empty.Goals as goal

pub returns : goal.returns
unfolding same_kind
returns c = (
  λ t. sym c.self.view_is ∙ next_kind-end c.self.inside.line.now c.self.inside.next (sym c.eq.ensures ∙ t),
  λ e. c.eq.ensures ∙ shown-nil c.self.inside.line.now c.self.inside.next (c.self.view_is ∙ e),
)
