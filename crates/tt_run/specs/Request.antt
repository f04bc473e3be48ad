-- What a line asks for.
use Rattle.std.specs.Prelude.{◌≡◌, ◌==◌, ℕ, Bool, true, not, if◌then◌else◌, List, [], ◌∷◌, codes, Option, Some, None, Result, Ok, Err, IsUtf8}
use Rattle.std.specs.Str.{bytes_eq}
use Rattle.tt_parse.specs.declared.command.Command.{Command}
use Rattle.tt_parse.specs.declared.command.Command.TheVariants as command
use Rattle.tt_parse.specs.Parse.{Says, IsOffAtByte, is_bare, is_skipped}
use Rattle.tt_parse.specs.Script as script
use Rattle.tt_parse.specs.Tokens.{tokens_of}
use Rattle.tt_engine.specs.declared.request.Request.{Request}
use Rattle.tt_engine.specs.declared.request.Request.TheVariants.{Insert, Commit, Flush, DurableCommit, Bookmark, Refused}
use Rattle.tt_value.specs.declared.refusal.Refusal.{Refusal}
use Rattle.tt_value.specs.declared.refusal.Refusal.TheVariants.{NoTable, WrongType, NullRefused, LineTooLong, NoMemory, NotBuilt}
use Rattle.tt_value.specs.declared.value.Value.{Value}
use Rattle.tt_value.specs.declared.value.Value.TheVariants.{Null, Int}

-- the row that an insert into kv has, which takes two whole numbers and no Null
abbrev pub row_request : List Value → Request
row_request (Int key ∷ Int value ∷ []) = Insert key value
row_request (Null ∷ Null ∷ []) = Refused NullRefused
row_request (Null ∷ Int value ∷ []) = Refused NullRefused
row_request (Int key ∷ Null ∷ []) = Refused NullRefused
row_request _ = Refused WrongType

-- what a command asks for in session 1; there is no table but kv
abbrev pub command_request : Command → Request
command_request command.Commit = Commit
command_request command.Flush = Flush
command_request command.DurableCommit = DurableCommit
command_request command.Bookmark = Bookmark
command_request (command.Insert table values) = if bytes_eq table (codes "kv") then row_request values else Refused NoTable
command_request _ = Refused NotBuilt

-- what a line asks for that is read so in a session
abbrev pub request_of : ℕ → Result Command Refusal → Request
request_of session (Err refusal) = Refused refusal
request_of session (Ok command) = if session == 1 then command_request command else Refused NotBuilt

-- The line is read so in this session: by the grammar, where it is UTF-8. Memory is never wanting for a command of one word.
pub record IsRead (line : List ℕ) (session : ℕ) (what : Result Command Refusal) : Type 0 where
  pub says : IsUtf8 line → Says line session what
  pub bytes : ¬ IsUtf8 line → IsOffAtByte line session what
  pub without_memory : IsUtf8 line → (n : ℕ) → (c : Command) → script.line (tokens_of line) (n, c) → is_bare c ≡ true → what ≡ Err NoMemory → ⊥

-- what a line asks for, where None is one that is too long
abbrev pub IsRequest : Option (List ℕ) → Request → Type 0
IsRequest None request = request ≡ Refused LineTooLong
IsRequest (Some line) request = (session : ℕ) × (what : Result Command Refusal) × IsRead line session what × (request ≡ request_of session what)

-- a line that is answered: one that is too long, and each that is neither blank nor a comment
abbrev pub is_answered : Option (List ℕ) → Bool
is_answered None = true
is_answered (Some line) = not (is_skipped line)

-- the same of each line
abbrev pub AreRequests : List (Option (List ℕ)) → List Request → Type 0
AreRequests [] [] = Unit {0}
AreRequests (line ∷ lines) (request ∷ requests) = IsRequest line request × AreRequests lines requests
AreRequests _ _ = ⊥
