-- What a cursor stands for.
use Rattle.std.specs.Prelude.{◌≡◌, ◌+◌, ◌≤◌, List, length, IsUtf8}
use Rattle.tt_parse.specs.declared.cursor.Cursor.TheInside.{Inside}
use Rattle.tt_parse.specs.declared.kind.Kind.TheVariants.{End, Text}
use Rattle.tt_parse.specs.Tokens.{Token}
use Rattle.tt_parse.specs.Cursor.{shown, IsText}

abbrev pub left_of : Inside → List Token
left_of c = shown c.line.now c.next

-- The next token lies within the line, or it is a text that isn't closed, which ends a byte past the line.
pub record IsReady (c : Inside) : Type 0 where
  pub order : c.next.at ≤ c.next.end
  pub begins : c.next.at ≤ length c.line.now
  pub ends : c.next.end ≤ length c.line.now + 1
  pub at_end : c.next.kind ≡ End → (c.next.at ≡ length c.line.now) × (c.next.end ≡ length c.line.now)
  pub utf8 : IsUtf8 c.line.now
  pub text : c.next.kind ≡ Text → IsText c.line.now c.next
