use Rattle.std.proofs.Common.{List, subst}
use Rattle.tt_parse.specs.Tokens.{Token}
use Rattle.tt_parse.specs.Cursor.{IsOffset}
use Rattle.tt_parse.proofs.Cursors.{offset-shown}
use Rattle.tt_parse.proofs.cursor.Cursor.offset.Goals as goal

pub returns : goal.returns
returns c =
    subst (λ (ts : List Token). IsOffset ts c.self.inside.next.at) c.self.view_is (offset-shown c.self.inside.line.now c.self.inside.next)
