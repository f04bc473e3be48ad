-- The tokens of a line. Each is as long as it can be.
use Rattle.std.specs.Prelude.{ℕ, zero, suc, ◌+◌, ◌-◌, Bool, true, false, not, ◌&&◌, ◌||◌, if◌then◌else◌, ◌==◌, nat_le, List, [], ◌∷◌, take, drop, slice_index}
use Rattle.std.specs.Char.{is_ascii_alphanumeric}
use Rattle.std.specs.List.{prefix_len}
use denote.Enum.Bare.{sameb}
use Rattle.tt_parse.specs.contracts.kind.Kind.{the_type}
use Rattle.tt_parse.specs.declared.kind.Kind.{Kind}
use Rattle.tt_parse.specs.declared.kind.Kind.TheVariants as k
use Rattle.tt_parse.specs.declared.tokens.Class.{Class}
use Rattle.tt_parse.specs.declared.tokens.Class.TheVariants as class

unfoldable pub same_kind : Kind → Kind → Bool
same_kind = sameb the_type

abbrev pub is_in : Class → ℕ → Bool
is_in class.Blank b = b == 32 || b == 9
is_in class.Digit b = nat_le 48 b && nat_le b 57
is_in class.Word b = is_ascii_alphanumeric b || b == 95
is_in class.Continuation b = nat_le 128 b && not (nat_le 192 b)

-- the first offset from `at` on whose byte is not of the class
abbrev pub past : Class → List ℕ → ℕ → ℕ
past c z at = at + prefix_len (is_in c) (drop at z)

-- digits, and behind a dot more digits
abbrev pub number_len : List ℕ → ℕ
number_len z =
    let whole = past class.Digit z 0 in
    if slice_index z whole == 46 && is_in class.Digit (slice_index z (whole + 1)) then past class.Digit z (whole + 1) else whole

-- How much of a text stands behind its opening quote, with the closing one. Two quotes together stand for one and
-- don't close it. A closing quote that is missing counts, so such a text is longer than the line.
abbrev pub text_rest : Bool → List ℕ → ℕ
text_rest is_second [] = 1
text_rest true (b ∷ z) = 1 + text_rest false z
text_rest false (b ∷ z) = if b == 39 && not (slice_index z 0 == 39) then 1 else 1 + text_rest (b == 39) z

abbrev pub less : ℕ → Kind × ℕ
less next = if next == 61 then (k.LessEqual, 2) else (if next == 62 then (k.NotEqual, 2) else (k.Less, 1))

abbrev pub greater : ℕ → Kind × ℕ
greater next = if next == 61 then (k.GreaterEqual, 2) else (k.Greater, 1)

abbrev pub single : ℕ → Kind
single b =
    if b == 64 then k.At else (if b == 40 then k.Open else (if b == 41 then k.Close else (if b == 44 then k.Comma
    else (if b == 59 then k.Semicolon else (if b == 42 then k.Star else (if b == 61 then k.Equal else (if b == 43 then k.Plus
    else (if b == 45 then k.Minus else k.Other))))))))

-- the kind and the length of the token at the front
unfoldable pub first : List ℕ → Kind × ℕ
first z =
    let b = slice_index z 0 in
    if is_in class.Digit b then (k.Number, number_len z)
    else (if is_in class.Word b then (k.Word, past class.Word z 0)
    else (if b == 39 then (k.Text, 1 + text_rest false (drop 1 z))
    else (if b == 60 then less (slice_index z 1)
    else (if b == 62 then greater (slice_index z 1)
    else (single b, past class.Continuation z 1)))))

-- a token: its offset in the line, its kind and its bytes
pub record Token : Type 0 where
  pub at : ℕ
  pub kind : Kind
  pub bytes : List ℕ

-- The tokens from an offset on. The first number counts the bytes that are left of a token that began before.
-- Where the line ends within a token, that is within a text, its end is a token of its own.
unfoldable pub tokens_from : ℕ → ℕ → List ℕ → List Token
tokens_from zero at [] = []
tokens_from (suc left) at [] = record { at = at; kind = k.Unclosed; bytes = [] } ∷ []
tokens_from (suc left) at (b ∷ z) = tokens_from left (at + 1) z
tokens_from zero at (b ∷ z) =
    if is_in class.Blank b then tokens_from zero (at + 1) z
    else record { at = at; kind = (first (b ∷ z)).0; bytes = take (first (b ∷ z)).1 (b ∷ z) } ∷ tokens_from ((first (b ∷ z)).1 - 1) (at + 1) z

abbrev pub tokens_of : List ℕ → List Token
tokens_of line = tokens_from 0 0 line
