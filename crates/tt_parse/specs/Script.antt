-- The grammar of a line, over its tokens.
use Rattle.std.specs.Prelude.{ℕ, zero, suc, Bool, true, false, List, [], ◌∷◌, Option, Some, None, codes}
use Rattle.std.specs.List.{fold}
use Rattle.tt_value.specs.declared.value.Value.{Value}
use Rattle.tt_value.specs.declared.value.Value.TheVariants as v
use Rattle.tt_value.specs.declared.value.ColumnType.{ColumnType}
use Rattle.tt_value.specs.declared.value.ColumnType.TheVariants as column_types
use Rattle.tt_parse.specs.declared.cond.Cond.{Cond}
use Rattle.tt_parse.specs.declared.cond.Cond.TheVariants as c
use Rattle.tt_parse.specs.declared.cond.Operand.{Operand}
use Rattle.tt_parse.specs.declared.cond.Operand.TheVariants as operand
use Rattle.tt_parse.specs.declared.command.ColumnText.{ColumnText}
use Rattle.tt_parse.specs.declared.command.SetItem.{SetItem}
use Rattle.tt_parse.specs.declared.command.SetSource.{SetSource}
use Rattle.tt_parse.specs.declared.command.SetSource.TheVariants as source
use Rattle.tt_parse.specs.declared.command.Items.{Items}
use Rattle.tt_parse.specs.declared.command.Items.TheVariants as items
use Rattle.tt_parse.specs.declared.command.Aggregate.{Aggregate}
use Rattle.tt_parse.specs.declared.command.Aggregate.TheVariants as aggregates
use Rattle.tt_parse.specs.declared.command.OrderItem.{OrderItem}
use Rattle.tt_parse.specs.declared.command.Command.{Command}
use Rattle.tt_parse.specs.declared.command.Command.TheVariants as commands
use Rattle.tt_parse.specs.Grammar.{Grammar, nothing, one, ◌>>=◌, ◌>>◌, ◌or_else◌, many}
use Rattle.tt_parse.specs.declared.kind.Kind.{Kind}
use Rattle.tt_parse.specs.declared.kind.Kind.TheVariants as k
use Rattle.tt_parse.specs.Tokens.{Token}
use Rattle.tt_parse.specs.Symbols.{the_word, the_mark, the_name, the_digits, the_eighteen, the_number, the_text, the_op, the_direction, the_backup_kind, the_bare, session_most}

abbrev pub G : Type 0 → Type 1
G A = Grammar Token A

unfoldable pub word : List ℕ → G (Unit {0})
word w = one (the_word w)

unfoldable pub mark : Kind → G (Unit {0})
mark kind = one (the_mark kind)

unfoldable pub name : G (List ℕ)
name = one the_name

unfoldable pub digits : ℕ → ℕ → G ℕ
digits low high = one (the_digits low high)

-- is the word there?
unfoldable pub optional_word : List ℕ → G Bool
optional_word w = (do word w; nothing true) or_else nothing false

-- item {, item}
unfoldable pub comma_list : {A : Type 0} → G A → G (List A)
comma_list item = do
  first ← item
  more ← many (do mark k.Comma; item)
  nothing (first ∷ more)

-- ( name {, name} )
unfoldable pub names : G (List (List ℕ))
names = do
  mark k.Open
  names ← comma_list name
  mark k.Close
  nothing names

-- 'null' | ['-'] number | text
unfoldable pub literal : G Value
literal =
    (do word (codes "null"); nothing v.Null)
    or_else (do mark k.Minus; one (the_number true))
    or_else one the_text
    or_else one (the_number false)

-- ---- conditions

-- literal | name
unfoldable pub right_side : G Operand
right_side = (do value ← literal; nothing (operand.Literal value)) or_else (do column ← name; nothing (operand.Column column))

-- name ( op (literal | name) | 'is' ['not'] 'null' )
unfoldable pub test : G Cond
test = do
  column ← name
  (do op ← one the_op; right ← right_side; nothing (c.Compare column op right))
      or_else (do word (codes "is"); not ← optional_word (codes "not"); word (codes "null"); nothing (c.IsNull column not))

-- item {word item}, joined from the left
unfoldable pub chain : List ℕ → (Cond → Cond → Cond) → G Cond → G Cond
chain between join item = do
  first ← item
  more ← many (do word between; item)
  nothing (fold join first more)

unfoldable pub cond_of : G Cond → G Cond
cond_of part = chain (codes "or") c.Or (chain (codes "and") c.And part)

-- with at most this many levels open
unfoldable pub part : ℕ → G Cond
part zero = test
part (suc levels) =
    (do word (codes "not"); inner ← part levels; nothing (c.Not inner))
    or_else (do mark k.Open; inner ← cond_of (part levels); mark k.Close; nothing inner)
    or_else test

unfoldable pub cond : G Cond
cond = cond_of (part 64)

-- ['where' cond]
unfoldable pub filter : G (Option Cond)
filter = (do word (codes "where"); test ← cond; nothing (Some test)) or_else nothing None

-- ---- tables and indexes

-- 'bigint' | 'varchar' '(' digits ')' | 'number' '(' '18' ',' digits ')'
unfoldable pub column_type : G ColumnType
column_type =
    (do word (codes "bigint"); nothing column_types.BigInt)
    or_else (do word (codes "varchar"); mark k.Open; bytes ← digits 1 200; mark k.Close; nothing (column_types.Varchar bytes))
    or_else (do word (codes "number"); mark k.Open; one the_eighteen; mark k.Comma; scale ← digits 0 18; mark k.Close; nothing (column_types.Number scale))

-- ['not' 'null']
unfoldable pub required : G Bool
required = (do word (codes "not"); word (codes "null"); nothing true) or_else nothing false

-- name type ['not' 'null'] ','
unfoldable pub column : G ColumnText
column = do
  name ← name
  kind ← column_type
  required ← required
  mark k.Comma
  nothing (record { name = name; kind = kind; required = required })

-- Each column has a comma behind it, since `primary` follows them.
unfoldable pub create_table : G Command
create_table = do
  word (codes "table")
  name ← name
  mark k.Open
  first ← column
  more ← many column
  word (codes "primary")
  word (codes "key")
  key ← names
  mark k.Close
  nothing (commands.CreateTable name (first ∷ more) key)

unfoldable pub create_index : G Command
create_index = do
  unique ← optional_word (codes "unique")
  word (codes "index")
  index ← name
  word (codes "on")
  table ← name
  columns ← names
  nothing (commands.CreateIndex index table columns unique)

unfoldable pub create : G Command
create = do
  word (codes "create")
  create_table or_else create_index

unfoldable pub drop : G Command
drop = do
  word (codes "drop")
  (do word (codes "table"); name ← name; nothing (commands.DropTable name))
      or_else (do word (codes "index"); name ← name; nothing (commands.DropIndex name))

-- ---- rows

unfoldable pub insert : G Command
insert = do
  word (codes "insert")
  word (codes "into")
  table ← name
  word (codes "values")
  mark k.Open
  values ← comma_list literal
  mark k.Close
  nothing (commands.Insert table values)

-- of a column: ['+' number | '-' number]
unfoldable pub column_source : List ℕ → G SetSource
column_source column =
    (do mark k.Plus; by ← one (the_number false); nothing (source.Plus column by))
    or_else (do mark k.Minus; by ← one (the_number false); nothing (source.Minus column by))
    or_else nothing (source.Column column)

-- literal | name ['+' number | '-' number]
unfoldable pub set_source : G SetSource
set_source = (do value ← literal; nothing (source.Literal value)) or_else (do column ← name; column_source column)

unfoldable pub set_item : G SetItem
set_item = do
  column ← name
  mark k.Equal
  source ← set_source
  nothing (record { column = column; source = source })

unfoldable pub update : G Command
update = do
  word (codes "update")
  table ← name
  word (codes "set")
  sets ← comma_list set_item
  cond ← filter
  nothing (commands.Update table sets cond)

unfoldable pub delete : G Command
delete = do
  word (codes "delete")
  word (codes "from")
  table ← name
  cond ← filter
  nothing (commands.Delete table cond)

-- '*' | name {, name}
unfoldable pub columns : G Items
columns = (do mark k.Star; nothing items.All) or_else (do names ← comma_list name; nothing (items.Columns names))

-- 'count' '(' '*' ')' | 'sum' '(' name ')'
unfoldable pub aggregate : G Aggregate
aggregate =
    (do word (codes "count"); mark k.Open; mark k.Star; mark k.Close; nothing aggregates.Count)
    or_else (do word (codes "sum"); mark k.Open; column ← name; mark k.Close; nothing (aggregates.Sum column))

-- name ['asc' | 'desc']
unfoldable pub order_item : G OrderItem
order_item = do
  column ← name
  down ← one the_direction or_else nothing false
  nothing (record { column = column; down = down })

-- ['order' 'by' by {, by}]
unfoldable pub order : G (List OrderItem)
order = (do word (codes "order"); word (codes "by"); comma_list order_item) or_else nothing []

unfoldable pub select_sums : G Command
select_sums = do
  sums ← comma_list aggregate
  word (codes "from")
  table ← name
  cond ← filter
  nothing (commands.Select table (items.Sums sums) cond [])

unfoldable pub select_rows : G Command
select_rows = do
  columns ← columns
  word (codes "from")
  table ← name
  cond ← filter
  order ← order
  nothing (commands.Select table columns cond order)

unfoldable pub select : G Command
select = do
  word (codes "select")
  select_sums or_else select_rows

-- ---- backups and readers of changes

unfoldable pub backup : G Command
backup = do
  word (codes "ttbackup")
  set ← digits 1 999
  kind ← one the_backup_kind
  nothing (commands.Backup set kind)

-- a word and a bookmark
unfoldable pub on_bookmark : List ℕ → (List ℕ → Command) → G Command
on_bookmark w make = do
  word w
  bookmark ← name
  nothing (make bookmark)

-- a word, a table and a bookmark
unfoldable pub on_table : List ℕ → (List ℕ → List ℕ → Command) → G Command
on_table w make = do
  word w
  table ← name
  bookmark ← name
  nothing (make table bookmark)

unfoldable pub next_update : G Command
next_update = do
  word (codes "ttxlanextupdate")
  count ← digits 1 1000
  nothing (commands.XlaNext count)

unfoldable pub utility : G Command
utility =
    backup
    or_else on_bookmark (codes "ttxlabookmarkcreate") commands.XlaCreate
    or_else on_bookmark (codes "ttxlabookmarkdelete") commands.XlaDelete
    or_else on_table (codes "ttxlasubscribe") commands.XlaSubscribe
    or_else on_table (codes "ttxlaunsubscribe") commands.XlaUnsubscribe
    or_else on_bookmark (codes "ttxlaopen") commands.XlaOpen
    or_else next_update

-- ---- a line

-- a command of more than one word
unfoldable pub statement : G Command
statement = create or_else drop or_else insert or_else update or_else delete or_else select or_else utility

unfoldable pub command : G Command
command = one the_bare or_else statement

-- '@' digits
unfoldable pub prefix : G ℕ
prefix = do
  mark k.At
  digits 1 session_most

-- ['@' digits]
unfoldable pub session : G ℕ
session = prefix or_else nothing 1

-- [';']
unfoldable pub semicolon : G (Unit {0})
semicolon = mark k.Semicolon or_else nothing tt

-- command [';']
unfoldable pub body : G Command
body = do
  command ← command
  semicolon
  nothing command

unfoldable pub line : G (ℕ × Command)
line = do
  session ← session
  command ← body
  nothing (session, command)
