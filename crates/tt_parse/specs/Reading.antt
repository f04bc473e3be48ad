-- Reading a line from the left by one token ahead. Each reader reads what the grammar's definition of its name says.
use Rattle.std.specs.Prelude.{◌≡◌, ◌≢◌, ℕ, zero, suc, Bool, true, false, not, ◌&&◌, ◌||◌, List, [], ◌∷◌, ◌++◌, Option, Some, None, Result, Ok, Err, codes}
use Rattle.std.specs.List.{fold}
use Rattle.tt_value.specs.declared.value.Value.{Value}
use Rattle.tt_value.specs.declared.value.Value.TheVariants as v
use Rattle.tt_value.specs.declared.value.ColumnType.{ColumnType}
use Rattle.tt_value.specs.declared.value.ColumnType.TheVariants as column_types
use Rattle.tt_parse.specs.declared.cond.Cond.{Cond}
use Rattle.tt_parse.specs.declared.cond.Cond.TheVariants as c
use Rattle.tt_parse.specs.declared.cond.Op.{Op}
use Rattle.tt_parse.specs.declared.cond.Operand.{Operand}
use Rattle.tt_parse.specs.declared.cond.Operand.TheVariants as operand
use Rattle.tt_parse.specs.declared.command.ColumnText.{ColumnText}
use Rattle.tt_parse.specs.declared.command.SetItem.{SetItem}
use Rattle.tt_parse.specs.declared.command.SetSource.{SetSource}
use Rattle.tt_parse.specs.declared.command.SetSource.TheVariants as source
use Rattle.tt_parse.specs.declared.command.Items.{Items}
use Rattle.tt_parse.specs.declared.command.Items.TheVariants as items
use Rattle.tt_parse.specs.declared.command.Aggregate.{Aggregate}
use Rattle.tt_parse.specs.declared.command.Aggregate.TheVariants as aggregates
use Rattle.tt_parse.specs.declared.command.OrderItem.{OrderItem}
use Rattle.tt_parse.specs.declared.command.BackupKind.{BackupKind}
use Rattle.tt_parse.specs.declared.command.Command.{Command}
use Rattle.tt_parse.specs.declared.command.Command.TheVariants as commands
use Rattle.tt_parse.specs.Reader.{Read, Reader, read_nothing, read_one, ◌>>=◌, ◌>>◌, read_if, read_many}
use Rattle.tt_parse.specs.declared.kind.Kind.{Kind}
use Rattle.tt_parse.specs.declared.kind.Kind.TheVariants as k
use Rattle.tt_parse.specs.declared.fault.ParseError.{ParseError}
use Rattle.tt_parse.specs.declared.fault.ParseError.TheVariants.{NoMemory}
use Rattle.tt_parse.specs.Tokens.{Token}
use Rattle.tt_parse.specs.Symbols.{the_word, the_mark, the_name, the_digits, the_eighteen, the_number, the_text, the_op, the_direction, the_backup_kind, the_bare, is_word, is_mark, session_most}

abbrev pub R : Type 0 → Type 0
R A = Reader Token A

-- what a function that reads ensures: the reader's outcome, unless memory fails
abbrev pub Reads : {A : Type 0} → Read Token A → Result A ParseError → List Token → Type 0
Reads outcome (Ok a) new = outcome ≡ Ok (a, new)
Reads outcome (Err e) new = e ≢ NoMemory → outcome ≡ Err new

-- with these values before those that are read
abbrev pub prepend : {A : Type 0} → List A → Read Token (List A) → Read Token (List A)
prepend front (Ok x) = Ok (front ++ x.0, x.1)
prepend front (Err rest) = Err rest

-- joined to the conditions that are read
abbrev pub joined : (Cond → Cond → Cond) → Cond → Read Token (List Cond) → Read Token Cond
joined join first (Ok x) = Ok (fold join first x.0, x.1)
joined join first (Err rest) = Err rest

-- ---- tests of the next token

abbrev pub has_some : {A : Type 0} → Option A → Bool
has_some (Some a) = true
has_some None = false

unfoldable pub is_literal : Token → Bool
is_literal s = is_mark k.Minus s || is_mark k.Text s || is_mark k.Number s || is_word (codes "null") s

unfoldable pub is_op : Token → Bool
is_op s = is_mark k.Equal s || is_mark k.NotEqual s || is_mark k.Less s || is_mark k.LessEqual s || is_mark k.Greater s || is_mark k.GreaterEqual s

-- a word that may begin a column, where else `primary` stands
unfoldable pub is_column : Token → Bool
is_column s = is_mark k.Word s && not (is_word (codes "primary") s)

unfoldable pub is_aggregate : Token → Bool
is_aggregate s = is_word (codes "count") s || is_word (codes "sum") s

unfoldable pub is_direction : Token → Bool
is_direction s = has_some (the_direction s)

unfoldable pub is_bare : Token → Bool
is_bare s = has_some (the_bare s)

-- ---- words, names and literals

unfoldable pub word : List ℕ → R (Unit {0})
word w = read_one (the_word w)

unfoldable pub mark : Kind → R (Unit {0})
mark kind = read_one (the_mark kind)

unfoldable pub name : R (List ℕ)
name = read_one the_name

unfoldable pub digits : ℕ → ℕ → R ℕ
digits low high = read_one (the_digits low high)

unfoldable pub eighteen : R (Unit {0})
eighteen = read_one the_eighteen

unfoldable pub number : Bool → R Value
number minus = read_one (the_number minus)

unfoldable pub text : R Value
text = read_one the_text

unfoldable pub optional_word : List ℕ → R Bool
optional_word w = read_if (is_word w) (do word w; read_nothing true) (read_nothing false)

unfoldable pub comma_item : {A : Type 0} → R A → R A
comma_item item = do
  mark k.Comma
  item

unfoldable pub more_items : {A : Type 0} → R A → R (List A)
more_items item = read_many (is_mark k.Comma) (comma_item item)

unfoldable pub comma_list : {A : Type 0} → R A → R (List A)
comma_list item = do
  first ← item
  more ← more_items item
  read_nothing (first ∷ more)

unfoldable pub names : R (List (List ℕ))
names = do
  mark k.Open
  names ← comma_list name
  mark k.Close
  read_nothing names

unfoldable pub null : R Value
null = do
  word (codes "null")
  read_nothing v.Null

unfoldable pub negative : R Value
negative = do
  mark k.Minus
  number true

unfoldable pub literal : R Value
literal =
    read_if (is_word (codes "null")) null (read_if (is_mark k.Minus) negative (read_if (is_mark k.Text) text (number false)))

-- ---- conditions

unfoldable pub literal_side : R Operand
literal_side = do
  value ← literal
  read_nothing (operand.Literal value)

unfoldable pub name_side : R Operand
name_side = do
  column ← name
  read_nothing (operand.Column column)

unfoldable pub right_side : R Operand
right_side = read_if is_literal literal_side name_side

unfoldable pub is_null : List ℕ → R Cond
is_null column = do
  word (codes "is")
  not ← optional_word (codes "not")
  word (codes "null")
  read_nothing (c.IsNull column not)

unfoldable pub op : R Op
op = read_one the_op

unfoldable pub comparison : List ℕ → R Cond
comparison column = do
  op ← op
  right ← right_side
  read_nothing (c.Compare column op right)

unfoldable pub test : R Cond
test = do
  column ← name
  read_if is_op (comparison column) (is_null column)

unfoldable pub link : List ℕ → R Cond → R Cond
link between item = do
  word between
  item

unfoldable pub chain : List ℕ → (Cond → Cond → Cond) → R Cond → R Cond
chain between join item = do
  first ← item
  more ← read_many (is_word between) (link between item)
  read_nothing (fold join first more)

unfoldable pub both : R Cond → R Cond
both part = chain (codes "and") c.And part

unfoldable pub cond_of : R Cond → R Cond
cond_of part = chain (codes "or") c.Or (both part)

unfoldable pub negation : R Cond → R Cond
negation part = do
  word (codes "not")
  inner ← part
  read_nothing (c.Not inner)

unfoldable pub parenthesized : R Cond → R Cond
parenthesized part = do
  mark k.Open
  inner ← cond_of part
  mark k.Close
  read_nothing inner

unfoldable pub part : ℕ → R Cond
part zero = test
part (suc levels) = read_if (is_word (codes "not")) (negation (part levels)) (read_if (is_mark k.Open) (parenthesized (part levels)) test)

unfoldable pub cond : R Cond
cond = cond_of (part 64)

unfoldable pub given_filter : R (Option Cond)
given_filter = do
  word (codes "where")
  test ← cond
  read_nothing (Some test)

unfoldable pub filter : R (Option Cond)
filter = read_if (is_word (codes "where")) given_filter (read_nothing None)

-- ---- tables and indexes

unfoldable pub bigint : R ColumnType
bigint = do
  word (codes "bigint")
  read_nothing column_types.BigInt

unfoldable pub varchar : R ColumnType
varchar = do
  word (codes "varchar")
  mark k.Open
  bytes ← digits 1 200
  mark k.Close
  read_nothing (column_types.Varchar bytes)

unfoldable pub decimal : R ColumnType
decimal = do
  word (codes "number")
  mark k.Open
  eighteen
  mark k.Comma
  scale ← digits 0 18
  mark k.Close
  read_nothing (column_types.Number scale)

unfoldable pub column_type : R ColumnType
column_type = read_if (is_word (codes "bigint")) bigint (read_if (is_word (codes "varchar")) varchar decimal)

unfoldable pub not_null : R Bool
not_null = do
  word (codes "not")
  word (codes "null")
  read_nothing true

unfoldable pub required : R Bool
required = read_if (is_word (codes "not")) not_null (read_nothing false)

unfoldable pub column : R ColumnText
column = do
  name ← name
  kind ← column_type
  required ← required
  mark k.Comma
  read_nothing (record { name = name; kind = kind; required = required })

unfoldable pub more_columns : R (List ColumnText)
more_columns = read_many is_column column

unfoldable pub columns_and_key : List ℕ → R Command
columns_and_key name = do
  mark k.Open
  first ← column
  more ← more_columns
  word (codes "primary")
  word (codes "key")
  key ← names
  mark k.Close
  read_nothing (commands.CreateTable name (first ∷ more) key)

unfoldable pub create_table : R Command
create_table = do
  word (codes "table")
  name ← name
  columns_and_key name

unfoldable pub create_index : R Command
create_index = do
  unique ← optional_word (codes "unique")
  word (codes "index")
  index ← name
  word (codes "on")
  table ← name
  columns ← names
  read_nothing (commands.CreateIndex index table columns unique)

unfoldable pub create : R Command
create = do
  word (codes "create")
  read_if (is_word (codes "table")) create_table create_index

unfoldable pub drop_table : R Command
drop_table = do
  word (codes "table")
  name ← name
  read_nothing (commands.DropTable name)

unfoldable pub drop_index : R Command
drop_index = do
  word (codes "index")
  name ← name
  read_nothing (commands.DropIndex name)

unfoldable pub drop : R Command
drop = do
  word (codes "drop")
  read_if (is_word (codes "table")) drop_table drop_index

-- ---- rows

unfoldable pub insert : R Command
insert = do
  word (codes "insert")
  word (codes "into")
  table ← name
  word (codes "values")
  mark k.Open
  values ← comma_list literal
  mark k.Close
  read_nothing (commands.Insert table values)

unfoldable pub plus : List ℕ → R SetSource
plus column = do
  mark k.Plus
  by ← number false
  read_nothing (source.Plus column by)

unfoldable pub minus : List ℕ → R SetSource
minus column = do
  mark k.Minus
  by ← number false
  read_nothing (source.Minus column by)

unfoldable pub column_source : List ℕ → R SetSource
column_source column = read_if (is_mark k.Plus) (plus column) (read_if (is_mark k.Minus) (minus column) (read_nothing (source.Column column)))

unfoldable pub literal_source : R SetSource
literal_source = do
  value ← literal
  read_nothing (source.Literal value)

unfoldable pub name_source : R SetSource
name_source = do
  column ← name
  column_source column

unfoldable pub set_source : R SetSource
set_source = read_if is_literal literal_source name_source

unfoldable pub set_item : R SetItem
set_item = do
  column ← name
  mark k.Equal
  source ← set_source
  read_nothing (record { column = column; source = source })

unfoldable pub update : R Command
update = do
  word (codes "update")
  table ← name
  word (codes "set")
  sets ← comma_list set_item
  cond ← filter
  read_nothing (commands.Update table sets cond)

unfoldable pub delete : R Command
delete = do
  word (codes "delete")
  word (codes "from")
  table ← name
  cond ← filter
  read_nothing (commands.Delete table cond)

unfoldable pub all_columns : R Items
all_columns = do
  mark k.Star
  read_nothing items.All

unfoldable pub named_columns : R Items
named_columns = do
  names ← comma_list name
  read_nothing (items.Columns names)

unfoldable pub columns : R Items
columns = read_if (is_mark k.Star) all_columns named_columns

unfoldable pub count : R Aggregate
count = do
  word (codes "count")
  mark k.Open
  mark k.Star
  mark k.Close
  read_nothing aggregates.Count

unfoldable pub sum : R Aggregate
sum = do
  word (codes "sum")
  mark k.Open
  column ← name
  mark k.Close
  read_nothing (aggregates.Sum column)

unfoldable pub aggregate : R Aggregate
aggregate = read_if (is_word (codes "count")) count sum

unfoldable pub direction : R Bool
direction = read_if is_direction (read_one the_direction) (read_nothing false)

unfoldable pub order_item : R OrderItem
order_item = do
  column ← name
  down ← direction
  read_nothing (record { column = column; down = down })

unfoldable pub given_order : R (List OrderItem)
given_order = do
  word (codes "order")
  word (codes "by")
  comma_list order_item

unfoldable pub order : R (List OrderItem)
order = read_if (is_word (codes "order")) given_order (read_nothing [])

unfoldable pub select_sums : R Command
select_sums = do
  sums ← comma_list aggregate
  word (codes "from")
  table ← name
  cond ← filter
  read_nothing (commands.Select table (items.Sums sums) cond [])

unfoldable pub select_rows : R Command
select_rows = do
  columns ← columns
  word (codes "from")
  table ← name
  cond ← filter
  order ← order
  read_nothing (commands.Select table columns cond order)

unfoldable pub select : R Command
select = do
  word (codes "select")
  read_if is_aggregate select_sums select_rows

-- ---- backups and readers of changes

unfoldable pub backup_kind : R BackupKind
backup_kind = read_one the_backup_kind

unfoldable pub backup : R Command
backup = do
  word (codes "ttbackup")
  set ← digits 1 999
  kind ← backup_kind
  read_nothing (commands.Backup set kind)

unfoldable pub on_bookmark : List ℕ → (List ℕ → Command) → R Command
on_bookmark w make = do
  word w
  bookmark ← name
  read_nothing (make bookmark)

unfoldable pub on_table : List ℕ → (List ℕ → List ℕ → Command) → R Command
on_table w make = do
  word w
  table ← name
  bookmark ← name
  read_nothing (make table bookmark)

abbrev pub create_bookmark : R Command
create_bookmark = on_bookmark (codes "ttxlabookmarkcreate") commands.XlaCreate

abbrev pub delete_bookmark : R Command
delete_bookmark = on_bookmark (codes "ttxlabookmarkdelete") commands.XlaDelete

unfoldable pub next_update : R Command
next_update = do
  word (codes "ttxlanextupdate")
  count ← digits 1 1000
  read_nothing (commands.XlaNext count)

unfoldable pub utility : R Command
utility =
    read_if (is_word (codes "ttbackup")) backup
    (read_if (is_word (codes "ttxlabookmarkcreate")) (on_bookmark (codes "ttxlabookmarkcreate") commands.XlaCreate)
    (read_if (is_word (codes "ttxlabookmarkdelete")) (on_bookmark (codes "ttxlabookmarkdelete") commands.XlaDelete)
    (read_if (is_word (codes "ttxlasubscribe")) (on_table (codes "ttxlasubscribe") commands.XlaSubscribe)
    (read_if (is_word (codes "ttxlaunsubscribe")) (on_table (codes "ttxlaunsubscribe") commands.XlaUnsubscribe)
    (read_if (is_word (codes "ttxlaopen")) (on_bookmark (codes "ttxlaopen") commands.XlaOpen)
    next_update)))))

-- ---- a line

unfoldable pub bare : R Command
bare = read_one the_bare

unfoldable pub statement : R Command
statement =
    read_if (is_word (codes "create")) create
    (read_if (is_word (codes "drop")) drop
    (read_if (is_word (codes "insert")) insert
    (read_if (is_word (codes "update")) update
    (read_if (is_word (codes "delete")) delete
    (read_if (is_word (codes "select")) select
    utility)))))

unfoldable pub command : R Command
command = read_if is_bare bare statement

unfoldable pub prefix : R ℕ
prefix = do
  mark k.At
  digits 1 session_most

unfoldable pub session : R ℕ
session = read_if (is_mark k.At) prefix (read_nothing 1)

unfoldable pub semicolon : R (Unit {0})
semicolon = read_if (is_mark k.Semicolon) (mark k.Semicolon) (read_nothing tt)

unfoldable pub body : R Command
body = do
  command ← command
  semicolon
  read_nothing command

unfoldable pub line : R (ℕ × Command)
line = do
  session ← session
  command ← body
  read_nothing (session, command)
