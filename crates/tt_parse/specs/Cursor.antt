-- What a cursor shows of a line from an offset on.
use Rattle.std.specs.Prelude.{◌≡◌, ℕ, ◌+◌, ◌-◌, ◌^◌, ◌<◌, false, min, slice_index, List, [], ◌∷◌, length, take, drop, Option, None, if◌then◌else◌}
use Rattle.tt_parse.specs.declared.kind.Kind.{Kind}
use Rattle.tt_parse.specs.declared.kind.Kind.TheVariants.{End}
use Rattle.tt_parse.specs.declared.cursor.Lexeme.{Lexeme}
use Rattle.tt_parse.specs.Tokens.{Token, tokens_from, same_kind, text_rest}

-- the tokens behind one that ends there, also where it ends past the line
unfoldable pub behind : List ℕ → ℕ → List Token
behind line from = tokens_from (from - length line) (min from (length line)) (drop from line)

abbrev pub token_of : List ℕ → Lexeme → Token
token_of line c = record { at = c.at; kind = c.kind; bytes = take (c.end - c.at) (drop c.at line) }

unfoldable pub shown : List ℕ → Lexeme → List Token
shown line c = if same_kind c.kind End then [] else token_of line c ∷ behind line c.end

abbrev pub past_next : List Token → List Token
past_next [] = []
past_next (s ∷ ts) = ts

abbrev pub next_kind : List Token → Kind
next_kind [] = End
next_kind (s ∷ ts) = s.kind

abbrev pub next_bytes : List Token → List ℕ
next_bytes [] = []
next_bytes (s ∷ ts) = s.bytes

-- A text begins at a quote of the line, and is as long as it can be.
abbrev pub IsText : List ℕ → Lexeme → Type 0
IsText line c = (c.at < length line) × (slice_index line c.at ≡ 39) × (c.end ≡ c.at + 1 + text_rest false (drop (c.at + 1) line))

-- what a test finds in the next token
abbrev pub next_found : {A : Type 0} → (Token → Option A) → List Token → Option A
next_found test [] = None
next_found test (s ∷ ts) = test s

-- the offset of the next token, if there is one
abbrev pub IsOffset : List Token → ℕ → Type 0
IsOffset [] at = Unit {0}
IsOffset (s ∷ ts) at = at ≡ s.at

-- an offset as a refusal tells it: a number of 32 bits, the greatest of them where it is past that
abbrev pub told_offset : ℕ → ℕ
told_offset at = min at (2 ^ 32 - 1)

-- the offset of the next token, or else the line's length, as a refusal tells it
abbrev pub offset_in : ℕ → List Token → ℕ
offset_in length [] = told_offset length
offset_in length (s ∷ ts) = told_offset s.at
