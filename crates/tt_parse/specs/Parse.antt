-- What a line gives.
use Rattle.std.specs.Prelude.{◌≡◌, ◌≢◌, ℕ, List, [], ◌∷◌, ◌++◌, Result, Ok, Err, length, IsUtf8, ◌⊎◌, Bool, true, false, not, ◌&&◌, ◌==◌}
use Rattle.std.specs.List.{filter}
use Rattle.tt_parse.specs.declared.tokens.Class.TheVariants.{Blank}
use Rattle.tt_parse.specs.declared.command.Command.{Command}
use Rattle.tt_parse.specs.declared.command.Command.TheVariants as c
use Rattle.tt_parse.specs.Grammar.{IsOff}
use Rattle.tt_parse.specs.Reader.{Read, next_is}
use Rattle.tt_parse.specs.Reading as read
use Rattle.tt_parse.specs.declared.fault.ParseError.{ParseError}
use Rattle.tt_parse.specs.declared.fault.ParseError.TheVariants as error
use Rattle.tt_value.specs.declared.refusal.Refusal.{Refusal}
use Rattle.tt_value.specs.declared.refusal.Refusal.TheVariants.{Syntax, NoMemory}
use Rattle.tt_parse.specs.declared.command.LineKind.{LineKind}
use Rattle.tt_parse.specs.declared.command.LineKind.TheVariants.{Skip, Run}
use Rattle.std.specs.Str.{IsValidUpTo}
use Rattle.tt_parse.specs.Tokens.{Token, tokens_of, is_in}
use Rattle.tt_parse.specs.Cursor.{offset_in, told_offset}
use Rattle.tt_parse.specs.Script as g

abbrev pub RefusedAt : ParseError → ℕ → Refusal → Type 0
RefusedAt error.NoMemory at refusal = refusal ≡ NoMemory
RefusedAt error.Off at refusal = refusal ≡ Syntax at

-- a whole line was read, or the offset at which reading stopped
abbrev pub WentTo : Read Token Command → ℕ → Refusal → Type 0
WentTo outcome length NoMemory = Unit {0}
WentTo (Ok x) length (Syntax at) = (x.1 ≡ [] → ⊥) × (at ≡ offset_in length x.1)
WentTo (Err rest) length (Syntax at) = at ≡ offset_in length rest
WentTo outcome length _ = ⊥

abbrev pub Ends : Read Token Command → ℕ → Result Command Refusal → Type 0
Ends outcome length (Ok command) = outcome ≡ Ok (command, [])
Ends outcome length (Err refusal) = WentTo outcome length refusal

abbrev pub commands : Read Token (ℕ × Command) → Read Token Command
commands (Ok x) = Ok (x.0.1, x.1)
commands (Err rest) = Err rest

-- the session of the prefix, or session 1
abbrev pub session_of : Read Token ℕ → ℕ
session_of (Ok x) = x.0
session_of (Err rest) = 1

-- ---- by the grammar alone

-- The line is in the grammar with this session and command; or it is off it, and the offset is that of the first
-- token with which no line goes on, or the line's length where it ends too early.
abbrev pub Says : List ℕ → ℕ → Result Command Refusal → Type 0
Says line session (Ok command) = g.line (tokens_of line) (session, command)
Says line session (Err (Syntax at)) = (behind : List Token) × IsOff g.line (tokens_of line) behind × (at ≡ offset_in (length line) behind)
Says line session (Err NoMemory) = Unit {0}
Says line session (Err _) = ⊥

-- a command of the grammar is read, and its session, unless memory is wanting
abbrev pub ReadsAll : List ℕ → ℕ → Result Command Refusal → Type 0
ReadsAll line session what = (n : ℕ) (command : Command) → g.line (tokens_of line) (n, command) → what ≢ Err NoMemory → (session ≡ n) × (what ≡ Ok command)

-- a line off the grammar is refused at its offset, unless memory is wanting
abbrev pub RefusesAll : List ℕ → Result Command Refusal → Type 0
RefusesAll line what = (behind : List Token) → IsOff g.line (tokens_of line) behind → what ≢ Err NoMemory → what ≡ Err (Syntax (offset_in (length line) behind))

-- some line gives the command
abbrev pub IsGiven : Command → Type 0
IsGiven command = (line : List ℕ) × (session : ℕ) × IsUtf8 line × g.line (tokens_of line) (session, command)

-- The session is that of the prefix with which the tokens begin, and session 1 where they begin with none.
abbrev pub IsSession : List Token → ℕ → Type 0
IsSession ts session =
    ((front : List Token) × (behind : List Token) × (ts ≡ front ++ behind) × g.prefix front session)
    ⊎ ((session ≡ 1) × ¬ ((front : List Token) × (behind : List Token) × (n : ℕ) × (ts ≡ front ++ behind) × g.prefix front n))

-- the session is that of the line's prefix, and session 1 where it has none
abbrev pub IsSessionOf : List ℕ → ℕ → Type 0
IsSessionOf line session = IsSession (tokens_of line) session

-- a line in which a command of one word stands behind the prefix is read without memory
abbrev pub TakesNoMemoryBehind : List ℕ → Result Command Refusal → Type 0
TakesNoMemoryBehind line what =
    (n : ℕ) → (mid : List Token) → read.session (tokens_of line) ≡ Ok (n, mid) → next_is read.is_bare mid ≡ true → what ≢ Err NoMemory

-- the commands that are one word
unfoldable pub is_bare : Command → Bool
is_bare c.Commit = true
is_bare c.Rollback = true
is_bare c.Flush = true
is_bare c.DurableCommit = true
is_bare c.Ckpt = true
is_bare c.CkptBlocking = true
is_bare c.LogHolds = true
is_bare c.Bookmark = true
is_bare c.XlaAcknowledge = true
is_bare c.XlaClose = true
is_bare _ = false

-- a command of one word is read without memory
abbrev pub TakesNoMemory : List ℕ → Result Command Refusal → Type 0
TakesNoMemory line what = (n : ℕ) (command : Command) → g.line (tokens_of line) (n, command) → is_bare command ≡ true → what ≢ Err NoMemory

-- ---- lines that are skipped

abbrev pub is_comment : List ℕ → Bool
is_comment [] = true
is_comment (a ∷ []) = false
is_comment (a ∷ b ∷ more) = a == 45 && b == 45

-- a line of blanks only, or whose first two other bytes are `--`
unfoldable pub is_skipped : List ℕ → Bool
is_skipped line = is_comment (filter (λ b. not (is_in Blank b)) line)

abbrev pub IsSkip : LineKind → Type 0
IsSkip Skip = Unit {0}
IsSkip (Run session what) = ⊥

abbrev pub IfRun : LineKind → (ℕ → Result Command Refusal → Type 0) → Type 0
IfRun Skip P = Unit {0}
IfRun (Run session what) P = P session what

-- in session 1, off at the offset behind the longest front that is UTF-8
abbrev pub IsOffAtByte : List ℕ → ℕ → Result Command Refusal → Type 0
IsOffAtByte line session (Ok command) = ⊥
IsOffAtByte line session (Err (Syntax at)) = (session ≡ 1) × ((n : ℕ) × IsValidUpTo line n × (at ≡ told_offset n))
IsOffAtByte line session (Err _) = ⊥
