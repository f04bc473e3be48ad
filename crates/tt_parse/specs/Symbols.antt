-- What one token of a line means.
use Rattle.std.specs.Prelude.{ℕ, zero, suc, ◌+◌, ◌-◌, ◌*◌, ◌^◌, ℤ, pos, negsuc, Bool, true, false, not, ◌&&◌, if◌then◌else◌, ◌==◌, nat_le, List, [], ◌∷◌, length, map, take, drop, Option, Some, None, codes}
use Rattle.std.specs.Char.{to_ascii_lowercase}
use Rattle.std.specs.List.{fold}
use Rattle.std.specs.Str.{bytes_eq}
use Rattle.tt_value.specs.Ident.{is_name}
use Rattle.tt_value.specs.declared.value.Value.{Value}
use Rattle.tt_value.specs.declared.value.Value.TheVariants as v
use Rattle.tt_parse.specs.declared.cond.Op.{Op}
use Rattle.tt_parse.specs.declared.cond.Op.TheVariants as op
use Rattle.tt_parse.specs.declared.command.BackupKind.{BackupKind}
use Rattle.tt_parse.specs.declared.command.BackupKind.TheVariants as backup
use Rattle.tt_parse.specs.declared.command.Command.{Command}
use Rattle.tt_parse.specs.declared.command.Command.TheVariants as commands
use Rattle.tt_parse.specs.declared.kind.Kind.{Kind}
use Rattle.tt_parse.specs.declared.kind.Kind.TheVariants as k
use Rattle.tt_parse.specs.declared.tokens.Class.TheVariants as class
use Rattle.tt_parse.specs.Tokens.{Token, same_kind, is_in, past, text_rest}

-- ---- words, marks and names

abbrev pub when : {A : Type 0} → Bool → A → Option A
when b a = if b then Some a else None

abbrev pub folded : Token → List ℕ
folded s = map to_ascii_lowercase s.bytes

unfoldable pub is_word : List ℕ → Token → Bool
is_word w s = same_kind s.kind k.Word && bytes_eq (folded s) w

unfoldable pub is_mark : Kind → Token → Bool
is_mark kind s = same_kind s.kind kind

abbrev pub the_word : List ℕ → Token → Option (Unit {0})
the_word w s = when (is_word w s) tt

abbrev pub the_mark : Kind → Token → Option (Unit {0})
the_mark kind s = when (is_mark kind s) tt

unfoldable pub is_a_name : Token → Bool
is_a_name s = same_kind s.kind k.Word && is_name (folded s)

abbrev pub the_name : Token → Option (List ℕ)
the_name s = when (is_a_name s) (folded s)

-- ---- numbers: digits, and behind a dot more digits

-- the number that the digits spell, whatever else stands between them
abbrev pub one_digit_more : ℕ → ℕ → ℕ
one_digit_more n b = if is_in class.Digit b then 10 * n + (b - 48) else n

unfoldable pub units : List ℕ → ℕ
units bytes = fold one_digit_more 0 bytes

-- the offset of the dot, which is the length where there is none
abbrev pub whole_len : List ℕ → ℕ
whole_len bytes = past class.Digit bytes 0

abbrev pub has_dot : List ℕ → Bool
has_dot bytes = not (whole_len bytes == length bytes)

-- how many digits stand behind the dot
abbrev pub decimals : List ℕ → ℕ
decimals bytes = length bytes - whole_len bytes - 1

unfoldable pub is_between : ℕ → ℕ → List ℕ → Bool
is_between low high bytes = not (has_dot bytes) && nat_le low (units bytes) && nat_le (units bytes) high

unfoldable pub the_digits : ℕ → ℕ → Token → Option ℕ
the_digits low high s = when (same_kind s.kind k.Number && is_between low high s.bytes) (units s.bytes)

-- sessions are numbered from 1 to this
abbrev pub session_most : ℕ
session_most = 64

-- up to the least number of i64, or up to the greatest
abbrev pub most : Bool → ℕ
most true = 2 ^ 63
most false = 2 ^ 63 - 1

unfoldable pub signed : Bool → ℕ → ℤ
signed false n = pos n
signed true zero = pos 0
signed true (suc n) = negsuc n

unfoldable pub number_value : Bool → List ℕ → Value
number_value minus bytes = if has_dot bytes then v.Number (decimals bytes) (signed minus (units bytes)) else v.Int (signed minus (units bytes))

unfoldable pub fits : Bool → List ℕ → Bool
fits minus bytes = nat_le (units bytes) (most minus) && nat_le (decimals bytes) 18

-- the digits `18`, spelled so
unfoldable pub the_eighteen : Token → Option (Unit {0})
the_eighteen s = when (same_kind s.kind k.Number && bytes_eq s.bytes (codes "18")) tt

unfoldable pub the_number : Bool → Token → Option Value
the_number minus s = when (same_kind s.kind k.Number && fits minus s.bytes) (number_value minus s.bytes)

-- ---- texts

-- one quote for each two
unfoldable pub undoubled : Bool → List ℕ → List ℕ
undoubled is_second [] = []
undoubled true (b ∷ z) = undoubled false z
undoubled false (b ∷ z) = b ∷ undoubled (b == 39) z

-- what stands between the quotes, also where the closing one is missing
unfoldable pub inside : List ℕ → List ℕ
inside bytes = take (text_rest false (drop 1 bytes) - 1) (drop 1 bytes)

-- In a line that is UTF-8 each text is UTF-8 too.
unfoldable pub the_text : Token → Option Value
the_text s = when (same_kind s.kind k.Text) (v.Text (undoubled false (inside s.bytes)))

abbrev pub op_of : Kind → Option Op
op_of k.Equal = Some op.Eq
op_of k.NotEqual = Some op.Ne
op_of k.Less = Some op.Lt
op_of k.LessEqual = Some op.Le
op_of k.Greater = Some op.Gt
op_of k.GreaterEqual = Some op.Ge
op_of _ = None

unfoldable pub the_op : Token → Option Op
the_op s = op_of s.kind

-- ---- words of which one is chosen

-- is the order that of decreasing values?
unfoldable pub the_direction : Token → Option Bool
the_direction s =
    if is_word (codes "asc") s then Some false
    else (if is_word (codes "desc") s then Some true
    else None)

unfoldable pub the_backup_kind : Token → Option BackupKind
the_backup_kind s =
    if is_word (codes "filefull") s then Some backup.Full
    else (if is_word (codes "filefullenable") s then Some backup.FullEnable
    else (if is_word (codes "fileincremental") s then Some backup.Incremental
    else (if is_word (codes "fileincrorfull") s then Some backup.IncrOrFull
    else (if is_word (codes "incrementalstop") s then Some backup.Stop
    else None))))

-- the commands that are one word
unfoldable pub the_bare : Token → Option Command
the_bare s =
    if is_word (codes "commit") s then Some commands.Commit
    else (if is_word (codes "rollback") s then Some commands.Rollback
    else (if is_word (codes "flush") s then Some commands.Flush
    else (if is_word (codes "ttdurablecommit") s then Some commands.DurableCommit
    else (if is_word (codes "ttckpt") s then Some commands.Ckpt
    else (if is_word (codes "ttckptblocking") s then Some commands.CkptBlocking
    else (if is_word (codes "ttlogholds") s then Some commands.LogHolds
    else (if is_word (codes "ttbookmark") s then Some commands.Bookmark
    else (if is_word (codes "ttxlaacknowledge") s then Some commands.XlaAcknowledge
    else (if is_word (codes "ttxlaclose") s then Some commands.XlaClose
    else None)))))))))
