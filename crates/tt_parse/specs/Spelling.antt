-- The canonical spelling of a command: its words as the grammar has them, with one blank between two tokens but none
-- before `,` or `)` and none behind `(` or the sign of a literal, no `;`, no session, no `asc`, and parentheses only
-- where the condition needs them.
use Rattle.std.specs.Prelude.{ℕ, zero, suc, ◌+◌, ◌/◌, ◌%◌, ℤ, pos, negsuc, Bool, true, false, not, ◌||◌, if◌then◌else◌, ◌==◌, List, [], ◌∷◌, ◌++◌, Option, Some, None, codes}
use Rattle.std.specs.Fmt.{decimal}
use Rattle.std.specs.Int.RustNames.{unsigned_abs}
use Rattle.tt_value.specs.declared.value.Value.{Value}
use Rattle.tt_value.specs.declared.value.Value.TheVariants as v
use Rattle.tt_value.specs.declared.value.ColumnType.{ColumnType}
use Rattle.tt_value.specs.declared.value.ColumnType.TheVariants as column_types
use Rattle.tt_parse.specs.declared.cond.Cond.{Cond, fold-Cond}
use Rattle.tt_parse.specs.declared.cond.Cond.TheOpen.{Cond-F}
use Rattle.tt_parse.specs.declared.cond.Cond.TheOpen as c
use Rattle.tt_parse.specs.declared.cond.Op.{Op}
use Rattle.tt_parse.specs.declared.cond.Op.TheVariants as ops
use Rattle.tt_parse.specs.declared.cond.Operand.{Operand}
use Rattle.tt_parse.specs.declared.cond.Operand.TheVariants as operands
use Rattle.tt_parse.specs.declared.printer.Context.{Context}
use Rattle.tt_parse.specs.declared.printer.Context.TheVariants as context
use Rattle.tt_parse.specs.declared.command.ColumnText.{ColumnText}
use Rattle.tt_parse.specs.declared.command.SetItem.{SetItem}
use Rattle.tt_parse.specs.declared.command.SetSource.{SetSource}
use Rattle.tt_parse.specs.declared.command.SetSource.TheVariants as source
use Rattle.tt_parse.specs.declared.command.Items.{Items}
use Rattle.tt_parse.specs.declared.command.Items.TheVariants as item_kinds
use Rattle.tt_parse.specs.declared.command.Aggregate.{Aggregate}
use Rattle.tt_parse.specs.declared.command.Aggregate.TheVariants as aggregates
use Rattle.tt_parse.specs.declared.command.OrderItem.{OrderItem}
use Rattle.tt_parse.specs.declared.command.BackupKind.{BackupKind}
use Rattle.tt_parse.specs.declared.command.BackupKind.TheVariants as backups
use Rattle.tt_parse.specs.declared.command.Command.{Command}
use Rattle.tt_parse.specs.declared.command.Command.TheVariants as commands
use Rattle.tt_parse.specs.declared.kind.Kind.{Kind}
use Rattle.tt_parse.specs.declared.kind.Kind.TheVariants as k

-- ---- tokens and the blanks between them

-- a token of a spelling, and whether the next one stands right behind it
pub record Piece : Type 0 where
  pub kind : Kind
  pub bytes : List ℕ
  pub joins : Bool

abbrev pub mark : Kind → List ℕ → Piece
mark kind bytes = record { kind = kind; bytes = bytes; joins = false }

abbrev pub word : List ℕ → Piece
word w = mark k.Word w

abbrev pub number : List ℕ → Piece
number digits = mark k.Number digits

abbrev pub open_mark : Piece
open_mark = record { kind = k.Open; bytes = codes "("; joins = true }

abbrev pub close_mark : Piece
close_mark = mark k.Close (codes ")")

abbrev pub comma : Piece
comma = mark k.Comma (codes ",")

abbrev pub star : Piece
star = mark k.Star (codes "*")

-- the `-` of a literal
abbrev pub sign : Piece
sign = record { kind = k.Minus; bytes = codes "-"; joins = true }

-- does no blank stand before it?
abbrev pub is_unspaced : Kind → Bool
is_unspaced k.Comma = true
is_unspaced k.Close = true
is_unspaced _ = false

-- a piece behind a blank or behind none
abbrev pub spaced : Bool → Piece → List ℕ
spaced joins p = if joins || is_unspaced p.kind then p.bytes else 32 ∷ p.bytes

-- a piece that is there or not
abbrev pub if_there : Piece → Bool → List Piece
if_there p true = p ∷ []
if_there p false = []

-- the pieces in a row, the first right behind what stands before it or not
unfoldable pub joined : Bool → List Piece → List ℕ
joined joins [] = []
joined joins (p ∷ ps) = spaced joins p ++ joined p.joins ps

-- ---- literals

-- each quote twice
unfoldable pub doubled : List ℕ → List ℕ
doubled [] = []
doubled (b ∷ z) = if b == 39 then 39 ∷ 39 ∷ doubled z else b ∷ doubled z

-- the digits of a number with a dot before the last so many
unfoldable pub dotted : ℕ → ℕ → List ℕ
dotted zero n = decimal n ++ 46 ∷ []
dotted (suc scale) n = dotted scale (n / 10) ++ (48 + n % 10) ∷ []

abbrev pub signed : ℤ → List ℕ → List Piece
signed (pos n) digits = number digits ∷ []
signed (negsuc n) digits = sign ∷ number digits ∷ []

abbrev pub text : List ℕ → Piece
text t = mark k.Text (39 ∷ doubled t ++ 39 ∷ [])

abbrev pub literal : Value → List Piece
literal v.Null = word (codes "null") ∷ []
literal (v.Int n) = signed n (decimal (unsigned_abs n))
literal (v.Number scale n) = signed n (dotted scale (unsigned_abs n))
literal (v.Text t) = text t ∷ []

-- ---- lists

abbrev pub name : List ℕ → List Piece
name n = word n ∷ []

-- each behind a comma
unfoldable pub more_items : {A : Type 0} → (A → List Piece) → List A → List Piece
more_items spell [] = []
more_items spell (x ∷ xs) = comma ∷ (spell x ++ more_items spell xs)

-- with a comma between two
unfoldable pub list : {A : Type 0} → (A → List Piece) → List A → List Piece
list spell [] = []
list spell (x ∷ xs) = spell x ++ more_items spell xs

abbrev pub names : List (List ℕ) → List Piece
names ns = open_mark ∷ (list name ns ++ close_mark ∷ [])

-- ---- conditions

abbrev pub op_piece : Op → Piece
op_piece ops.Eq = mark k.Equal (codes "=")
op_piece ops.Ne = mark k.NotEqual (codes "<>")
op_piece ops.Lt = mark k.Less (codes "<")
op_piece ops.Le = mark k.LessEqual (codes "<=")
op_piece ops.Gt = mark k.Greater (codes ">")
op_piece ops.Ge = mark k.GreaterEqual (codes ">=")

abbrev pub operand : Operand → List Piece
operand (operands.Literal value) = literal value
operand (operands.Column column) = name column

-- `is null` or `is not null`
abbrev pub null_test : Bool → List Piece
null_test true = word (codes "is") ∷ word (codes "not") ∷ word (codes "null") ∷ []
null_test false = word (codes "is") ∷ word (codes "null") ∷ []

-- where neither `or` nor `and` may stand without parentheses
abbrev pub is_part : Context → Bool
is_part context.Part = true
is_part _ = false

-- where no `or` may
abbrev pub is_under_and : Context → Bool
is_under_and context.Or = false
is_under_and _ = true

-- each condition within it given by its spelling in each context
abbrev pub condition_of : Cond-F (Context → List Piece) → Context → List Piece
condition_of (c.Compare column op right) here = word column ∷ op_piece op ∷ operand right
condition_of (c.IsNull column not) here = word column ∷ null_test not
condition_of (c.Not inner) here = word (codes "not") ∷ inner context.Part
condition_of (c.And a b) here = if_there open_mark (is_part here) ++ (a context.And ++ word (codes "and") ∷ (b context.Part ++ if_there close_mark (is_part here)))
condition_of (c.Or a b) here = if_there open_mark (is_under_and here) ++ (a context.Or ++ word (codes "or") ∷ (b context.And ++ if_there close_mark (is_under_and here)))

unfoldable pub condition : Cond → Context → List Piece
condition = fold-Cond (Context → List Piece) condition_of

abbrev pub filter : Option Cond → List Piece
filter None = []
filter (Some cond) = word (codes "where") ∷ condition cond context.Or

-- ---- tables and indexes

abbrev pub column_type : ColumnType → List Piece
column_type column_types.BigInt = word (codes "bigint") ∷ []
column_type (column_types.Varchar bytes) = word (codes "varchar") ∷ open_mark ∷ number (decimal bytes) ∷ close_mark ∷ []
column_type (column_types.Number scale) = word (codes "number") ∷ open_mark ∷ number (codes "18") ∷ comma ∷ number (decimal scale) ∷ close_mark ∷ []

abbrev pub required : Bool → List Piece
required true = word (codes "not") ∷ word (codes "null") ∷ []
required false = []

abbrev pub column : ColumnText → List Piece
column x = word x.name ∷ (column_type x.kind ++ required x.required)

-- each with a comma behind it
unfoldable pub columns : List ColumnText → List Piece
columns [] = []
columns (x ∷ xs) = column x ++ comma ∷ columns xs

-- ---- rows

abbrev pub set_source : SetSource → List Piece
set_source (source.Literal value) = literal value
set_source (source.Column column) = name column
set_source (source.Plus column by) = word column ∷ mark k.Plus (codes "+") ∷ literal by
set_source (source.Minus column by) = word column ∷ mark k.Minus (codes "-") ∷ literal by

abbrev pub set_item : SetItem → List Piece
set_item x = word x.column ∷ mark k.Equal (codes "=") ∷ set_source x.source

abbrev pub aggregate : Aggregate → List Piece
aggregate aggregates.Count = word (codes "count") ∷ open_mark ∷ star ∷ close_mark ∷ []
aggregate (aggregates.Sum column) = word (codes "sum") ∷ open_mark ∷ word column ∷ close_mark ∷ []

abbrev pub select_items : Items → List Piece
select_items item_kinds.All = star ∷ []
select_items (item_kinds.Columns names) = list name names
select_items (item_kinds.Sums sums) = list aggregate sums

abbrev pub order_item : OrderItem → List Piece
order_item x = word x.column ∷ if_there (word (codes "desc")) x.down

abbrev pub order : List OrderItem → List Piece
order [] = []
order (x ∷ xs) = word (codes "order") ∷ word (codes "by") ∷ list order_item (x ∷ xs)

-- ---- commands

abbrev pub backup_kind : BackupKind → Piece
backup_kind backups.Full = word (codes "fileFull")
backup_kind backups.FullEnable = word (codes "fileFullEnable")
backup_kind backups.Incremental = word (codes "fileIncremental")
backup_kind backups.IncrOrFull = word (codes "fileIncrOrFull")
backup_kind backups.Stop = word (codes "incrementalStop")

unfoldable pub pieces : Command → List Piece
pieces (commands.CreateTable table cols key) = word (codes "create") ∷ word (codes "table") ∷ word table ∷ open_mark ∷ (columns cols ++ word (codes "primary") ∷ word (codes "key") ∷ (names key ++ close_mark ∷ []))
pieces (commands.DropTable table) = word (codes "drop") ∷ word (codes "table") ∷ word table ∷ []
pieces (commands.CreateIndex index table columns is_unique) = word (codes "create") ∷ (if_there (word (codes "unique")) is_unique ++ word (codes "index") ∷ word index ∷ word (codes "on") ∷ word table ∷ names columns)
pieces (commands.DropIndex index) = word (codes "drop") ∷ word (codes "index") ∷ word index ∷ []
pieces (commands.Insert table values) = word (codes "insert") ∷ word (codes "into") ∷ word table ∷ word (codes "values") ∷ open_mark ∷ (list literal values ++ close_mark ∷ [])
pieces (commands.Update table sets cond) = word (codes "update") ∷ word table ∷ word (codes "set") ∷ (list set_item sets ++ filter cond)
pieces (commands.Delete table cond) = word (codes "delete") ∷ word (codes "from") ∷ word table ∷ filter cond
pieces (commands.Select table items cond by) = word (codes "select") ∷ (select_items items ++ word (codes "from") ∷ word table ∷ (filter cond ++ order by))
pieces commands.Commit = word (codes "commit") ∷ []
pieces commands.Rollback = word (codes "rollback") ∷ []
pieces commands.DurableCommit = word (codes "ttDurableCommit") ∷ []
pieces commands.Flush = word (codes "flush") ∷ []
pieces commands.Ckpt = word (codes "ttCkpt") ∷ []
pieces commands.CkptBlocking = word (codes "ttCkptBlocking") ∷ []
pieces commands.LogHolds = word (codes "ttLogHolds") ∷ []
pieces commands.Bookmark = word (codes "ttBookmark") ∷ []
pieces (commands.Backup set kind) = word (codes "ttBackup") ∷ number (decimal set) ∷ backup_kind kind ∷ []
pieces (commands.XlaCreate bookmark) = word (codes "ttXlaBookmarkCreate") ∷ word bookmark ∷ []
pieces (commands.XlaDelete bookmark) = word (codes "ttXlaBookmarkDelete") ∷ word bookmark ∷ []
pieces (commands.XlaSubscribe table bookmark) = word (codes "ttXlaSubscribe") ∷ word table ∷ word bookmark ∷ []
pieces (commands.XlaUnsubscribe table bookmark) = word (codes "ttXlaUnsubscribe") ∷ word table ∷ word bookmark ∷ []
pieces (commands.XlaOpen bookmark) = word (codes "ttXlaOpen") ∷ word bookmark ∷ []
pieces (commands.XlaNext count) = word (codes "ttXlaNextUpdate") ∷ number (decimal count) ∷ []
pieces commands.XlaAcknowledge = word (codes "ttXlaAcknowledge") ∷ []
pieces commands.XlaClose = word (codes "ttXlaClose") ∷ []

unfoldable pub spelling : Command → List ℕ
spelling command = joined true (pieces command)
