-- A command that a line gives is given by the tokens of its spelling.
use Rattle.std.proofs.Common.{◌≡◌, ℕ, Bool, true, false, List, [], ◌∷◌, ◌++◌, Option, Some, None, map, refl, sym, ap, subst, ◌∙◌, append_assoc, arith, inl, inr}
use Rattle.std.specs.Prelude.{codes, if◌then◌else◌}
use Rattle.std.specs.Char.{to_ascii_lowercase}
use Rattle.std.specs.Str.{bytes_eq}
use Rattle.std.specs.Fmt.{decimal}
use Rattle.tt_value.specs.declared.value.ColumnType.TheVariants as column_types
use Rattle.tt_parse.specs.declared.command.ColumnText.{ColumnText}
use Rattle.tt_parse.specs.declared.command.SetSource.TheVariants as source
use Rattle.tt_parse.specs.declared.command.Items.TheVariants as item_kinds
use Rattle.tt_parse.specs.declared.command.Aggregate.TheVariants as aggregates
use Rattle.tt_parse.specs.declared.command.BackupKind.{BackupKind}
use Rattle.tt_parse.specs.declared.command.BackupKind.TheVariants as backups
use Rattle.tt_parse.specs.declared.command.Command.{Command}
use Rattle.tt_parse.specs.declared.command.Command.TheVariants as commands
use Rattle.tt_parse.specs.declared.kind.Kind.TheVariants as k
use Rattle.tt_parse.specs.Tokens.{Token}
use Rattle.tt_parse.specs.Grammar.{nothing, one, ◌>>=◌, ◌or_else◌}
use Rattle.tt_parse.specs.Script as g
use Rattle.tt_parse.specs.Script.{G}
use Rattle.tt_parse.specs.Symbols.{is_word, the_eighteen, the_direction, the_backup_kind, the_bare}
use Rattle.tt_parse.specs.Spelling as spell
use Rattle.tt_parse.specs.Spelling.{Piece}
use Rattle.tt_parse.proofs.Exact.{append-[]}
use Rattle.tt_parse.proofs.Pieces.{Shows, spells_left, spells_right, spells_nothing, Cut, Spells, Respells, Behind, spells_one, respells_many, respelled, rows, next, done, either}
use Rattle.tt_parse.proofs.Cuts.{cut_open, cut_close, cut_comma, cut_star, cut_equal, cut_plus, cut_minus, cut_word, cut_digits, is_like_word}
use Rattle.tt_parse.proofs.Spelled.{respell_word, respell_mark, respell_name, respell_literal, respell_digits, respell_list, respell_unsigned, respell_comma_item, rows_more}
use Rattle.tt_parse.proofs.SpelledConditions.{respell_filter, respell_optional}
use Rattle.tt_parse.proofs.TokenTests.{kind_is}

next_word : {B : Type 0} {front : List Piece} {rest : Unit {0} → G B} {all : B → List Piece} (w bytes : List ℕ) → is_like_word bytes ≡ true → bytes_eq (map to_ascii_lowercase bytes) w ≡ true →
    Behind (front ++ spell.word bytes ∷ []) (rest tt) all → Behind front (g.word w >>= rest) all
next_word {B} {front} {rest} {all} w bytes like same x = next (λ _. spell.word bytes ∷ []) (respell_word w bytes like same) (λ _. x)

next_mark : {B : Type 0} {front : List Piece} {rest : Unit {0} → G B} {all : B → List Piece} (p : Piece) → Cut p →
    Behind (front ++ p ∷ []) (rest tt) all → Behind front (g.mark p.kind >>= rest) all
next_mark {B} {front} {rest} {all} p cut x = next (λ _. p ∷ []) (respell_mark p cut) (λ _. x)

next_name : {B : Type 0} {front : List Piece} {rest : List ℕ → G B} {all : B → List Piece} →
    ((n : List ℕ) → Behind (front ++ spell.name n) (rest n) all) → Behind front (g.name >>= rest) all
next_name {B} {front} {rest} {all} x = next spell.name respell_name x

respell_drop : Respells g.drop spell.pieces
unfolding g.drop spell.pieces
respell_drop =
    respelled (next_word (codes "drop") (codes "drop") refl refl (either
    (next_word (codes "table") (codes "table") refl refl (next_name (λ n. done (commands.DropTable n) refl)))
    (next_word (codes "index") (codes "index") refl refl (next_name (λ n. done (commands.DropIndex n) refl)))))

respell_eighteen : Respells (one the_eighteen) (λ _. spell.number (codes "18") ∷ [])
unfolding the_eighteen
respell_eighteen ts a fine h =
    spells_one the_eighteen (spell.number (codes "18")) a (cut_digits (codes "18") refl (omega arith)) (λ t s. rw (s.0, s.1, kind_is k.Number k.Number refl) refl)

respell_column_type : Respells g.column_type spell.column_type
unfolding g.column_type
respell_column_type =
    respelled (either
    (next_word (codes "bigint") (codes "bigint") refl refl (done column_types.BigInt refl))
    (either
    (next_word (codes "varchar") (codes "varchar") refl refl (next_mark spell.open_mark cut_open
    (next (λ n. spell.number (decimal n) ∷ []) (respell_digits 1 200 (omega arith)) (λ n. next_mark spell.close_mark cut_close (done (column_types.Varchar n) refl)))))
    (next_word (codes "number") (codes "number") refl refl (next_mark spell.open_mark cut_open (next (λ _. spell.number (codes "18") ∷ []) respell_eighteen (λ _. next_mark spell.comma cut_comma
    (next (λ n. spell.number (decimal n) ∷ []) (respell_digits 0 18 (omega arith)) (λ n. next_mark spell.close_mark cut_close (done (column_types.Number n) refl)))))))))

respell_required : Respells g.required spell.required
unfolding g.required
respell_required =
    respelled (either
    (next_word (codes "not") (codes "not") refl refl (next_word (codes "null") (codes "null") refl refl (done true refl)))
    (done false refl))

-- a column and the comma behind it
column_comma : ColumnText → List Piece
column_comma x = spell.column x ++ spell.comma ∷ []

respell_column : Respells g.column column_comma
unfolding g.column column_comma
respell_column =
    respelled (next_name (λ n. next spell.column_type respell_column_type (λ kind. next spell.required respell_required (λ needed.
    next_mark spell.comma cut_comma (done (record { name = n; kind = kind; required = needed }) refl)))))

columns_rows : (xs : List ColumnText) → rows column_comma xs ≡ spell.columns xs
unfolding column_comma spell.columns
columns_rows [] = refl
columns_rows (x ∷ xs) = append_assoc (spell.column x) (spell.comma ∷ []) (rows column_comma xs) ∙ ap (λ (ps : List Piece). spell.column x ++ spell.comma ∷ ps) (columns_rows xs)

respell_names : Respells g.names spell.names
unfolding g.names
respell_names = respelled (next_mark spell.open_mark cut_open (next (spell.list spell.name) (respell_list g.name spell.name respell_name) (λ ns. next_mark spell.close_mark cut_close (done ns refl))))

tail_pieces : (a d : List Piece) (p q r : Piece) → (((a ++ p ∷ []) ++ q ∷ []) ++ d) ++ r ∷ [] ≡ a ++ p ∷ q ∷ (d ++ r ∷ [])
tail_pieces a d p q r =
    append_assoc ((a ++ p ∷ []) ++ q ∷ []) d (r ∷ []) ∙ append_assoc (a ++ p ∷ []) (q ∷ []) (d ++ r ∷ []) ∙ append_assoc a (p ∷ []) (q ∷ (d ++ r ∷ []))

table_pieces : (n : List ℕ) (first : ColumnText) (more : List ColumnText) (key : List (List ℕ)) →
    (((((spell.word (codes "create") ∷ spell.word (codes "table") ∷ spell.word n ∷ spell.open_mark ∷ column_comma first) ++ rows column_comma more) ++ spell.word (codes "primary") ∷ []) ++ spell.word (codes "key") ∷ []) ++ spell.names key) ++ spell.close_mark ∷ []
    ≡ spell.pieces (commands.CreateTable n (first ∷ more) key)
unfolding spell.pieces
table_pieces n first more key =
    let cols : column_comma first ++ rows column_comma more ≡ spell.columns (first ∷ more) = columns_rows (first ∷ more) in
    tail_pieces (spell.word (codes "create") ∷ spell.word (codes "table") ∷ spell.word n ∷ spell.open_mark ∷ (column_comma first ++ rows column_comma more)) (spell.names key) (spell.word (codes "primary")) (spell.word (codes "key")) spell.close_mark
    ∙ ap (λ (ps : List Piece). spell.word (codes "create") ∷ spell.word (codes "table") ∷ spell.word n ∷ spell.open_mark ∷ (ps ++ spell.word (codes "primary") ∷ spell.word (codes "key") ∷ (spell.names key ++ spell.close_mark ∷ []))) cols

respell_create_table : Behind (spell.word (codes "create") ∷ []) g.create_table spell.pieces
unfolding g.create_table
respell_create_table =
    next_word (codes "table") (codes "table") refl refl (next_name (λ n. next_mark spell.open_mark cut_open
    (next column_comma respell_column (λ first. next (rows column_comma) (respells_many column_comma respell_column) (λ more.
    next_word (codes "primary") (codes "primary") refl refl (next_word (codes "key") (codes "key") refl refl (next spell.names respell_names (λ key.
    next_mark spell.close_mark cut_close (done (commands.CreateTable n (first ∷ more) key) (table_pieces n first more key))))))))))

index_pieces : (b : Bool) (n t : List ℕ) (cols : List (List ℕ)) →
    (((((spell.word (codes "create") ∷ spell.if_there (spell.word (codes "unique")) b) ++ spell.word (codes "index") ∷ []) ++ spell.name n) ++ spell.word (codes "on") ∷ []) ++ spell.name t) ++ spell.names cols
    ≡ spell.pieces (commands.CreateIndex n t cols b)
unfolding spell.pieces
index_pieces true n t cols = refl
index_pieces false n t cols = refl

respell_create_index : Behind (spell.word (codes "create") ∷ []) g.create_index spell.pieces
unfolding g.create_index
respell_create_index =
    next (spell.if_there (spell.word (codes "unique"))) (respell_optional (codes "unique") refl (respell_word (codes "unique") (codes "unique") refl refl)) (λ b.
    next_word (codes "index") (codes "index") refl refl (next_name (λ n. next_word (codes "on") (codes "on") refl refl (next_name (λ t.
    next spell.names respell_names (λ cols. done (commands.CreateIndex n t cols b) (index_pieces b n t cols)))))))

respell_create : Respells g.create spell.pieces
unfolding g.create
respell_create = respelled (next_word (codes "create") (codes "create") refl refl (either respell_create_table respell_create_index))

-- ---- rows

respell_insert : Respells g.insert spell.pieces
unfolding g.insert spell.pieces
respell_insert =
    respelled (next_word (codes "insert") (codes "insert") refl refl (next_word (codes "into") (codes "into") refl refl (next_name (λ t.
    next_word (codes "values") (codes "values") refl refl (next_mark spell.open_mark cut_open (next (spell.list spell.literal) (respell_list g.literal spell.literal respell_literal) (λ values.
    next_mark spell.close_mark cut_close (done (commands.Insert t values) refl))))))))

respell_column_source : (column : List ℕ) → Behind (spell.name column) (g.column_source column) spell.set_source
unfolding g.column_source
respell_column_source column =
    either (next_mark (spell.mark k.Plus (codes "+")) cut_plus (next spell.literal respell_unsigned (λ by. done (source.Plus column by) refl)))
    (either (next_mark (spell.mark k.Minus (codes "-")) cut_minus (next spell.literal respell_unsigned (λ by. done (source.Minus column by) refl)))
    (done (source.Column column) refl))

respell_set_source : Respells g.set_source spell.set_source
unfolding g.set_source
respell_set_source =
    respelled (either (next spell.literal respell_literal (λ value. done (source.Literal value) refl)) (next_name (λ column. respell_column_source column)))

respell_set_item : Respells g.set_item spell.set_item
unfolding g.set_item
respell_set_item =
    respelled (next_name (λ column. next_mark (spell.mark k.Equal (codes "=")) cut_equal (next spell.set_source respell_set_source (λ from.
    done (record { column = column; source = from }) refl))))

respell_update : Respells g.update spell.pieces
unfolding g.update spell.pieces
respell_update =
    respelled (next_word (codes "update") (codes "update") refl refl (next_name (λ t. next_word (codes "set") (codes "set") refl refl
    (next (spell.list spell.set_item) (respell_list g.set_item spell.set_item respell_set_item) (λ sets. next spell.filter respell_filter (λ cond. done (commands.Update t sets cond) refl))))))

respell_delete : Respells g.delete spell.pieces
unfolding g.delete spell.pieces
respell_delete =
    respelled (next_word (codes "delete") (codes "delete") refl refl (next_word (codes "from") (codes "from") refl refl (next_name (λ t.
    next spell.filter respell_filter (λ cond. done (commands.Delete t cond) refl)))))

-- ---- selects

respell_columns : Respells g.columns spell.select_items
unfolding g.columns
respell_columns =
    respelled (either (next_mark spell.star cut_star (done item_kinds.All refl)) (next (spell.list spell.name) (respell_list g.name spell.name respell_name) (λ ns. done (item_kinds.Columns ns) refl)))

respell_aggregate : Respells g.aggregate spell.aggregate
unfolding g.aggregate
respell_aggregate =
    respelled (either
    (next_word (codes "count") (codes "count") refl refl (next_mark spell.open_mark cut_open (next_mark spell.star cut_star (next_mark spell.close_mark cut_close (done aggregates.Count refl)))))
    (next_word (codes "sum") (codes "sum") refl refl (next_mark spell.open_mark cut_open (next_name (λ column. next_mark spell.close_mark cut_close (done (aggregates.Sum column) refl))))))

-- from the least value on, whether that is said or not
spells_down : Spells (one the_direction) (spell.word (codes "desc") ∷ []) true
unfolding the_direction is_word
spells_down =
    spells_one the_direction (spell.word (codes "desc")) true (cut_word (codes "desc") refl) (λ t s. rw (s.0, s.1, kind_is k.Word k.Word refl) refl)

respell_direction : Respells (one the_direction or_else nothing false) (spell.if_there (spell.word (codes "desc")))
respell_direction ts true fine (inl h) = spells_left spells_down
respell_direction ts false fine h = spells_right (spells_nothing false)
respell_direction ts true fine (inr h) = absurd (let e : true ≡ false = h.1 in cc)

respell_order_item : Respells g.order_item spell.order_item
unfolding g.order_item
respell_order_item = respelled (next_name (λ column. next (spell.if_there (spell.word (codes "desc"))) respell_direction (λ down. done (record { column = column; down = down }) refl)))

abbrev order_front : List Piece
order_front = spell.word (codes "order") ∷ spell.word (codes "by") ∷ []

respell_by : Behind order_front (g.comma_list g.order_item) spell.order
unfolding g.comma_list spell.list
respell_by =
    next spell.order_item respell_order_item (λ first.
    next (rows (λ a. spell.comma ∷ spell.order_item a)) (respells_many (λ a. spell.comma ∷ spell.order_item a) (respell_comma_item g.order_item spell.order_item respell_order_item)) (λ more.
    done (first ∷ more) (ap (λ (ps : List Piece). order_front ++ (spell.order_item first ++ ps)) (rows_more spell.order_item more))))

respell_order : Respells g.order spell.order
unfolding g.order
respell_order = respelled (either (next_word (codes "order") (codes "order") refl refl (next_word (codes "by") (codes "by") refl refl respell_by)) (done [] refl))

from_pieces : (a d : List Piece) (p q : Piece) → ((a ++ p ∷ []) ++ q ∷ []) ++ d ≡ a ++ p ∷ q ∷ d
from_pieces a d p q = append_assoc (a ++ p ∷ []) (q ∷ []) d ∙ append_assoc a (p ∷ []) (q ∷ d)

abbrev select_front : List Piece
select_front = spell.word (codes "select") ∷ []

respell_sums : Behind select_front g.select_sums spell.pieces
unfolding g.select_sums spell.pieces
respell_sums =
    next (spell.list spell.aggregate) (respell_list g.aggregate spell.aggregate respell_aggregate) (λ sums.
    next_word (codes "from") (codes "from") refl refl (next_name (λ t. next spell.filter respell_filter (λ cond.
    done (commands.Select t (item_kinds.Sums sums) cond [])
    (from_pieces (spell.word (codes "select") ∷ spell.list spell.aggregate sums) (spell.filter cond) (spell.word (codes "from")) (spell.word t)
    ∙ ap (λ (ps : List Piece). spell.word (codes "select") ∷ (spell.list spell.aggregate sums ++ spell.word (codes "from") ∷ spell.word t ∷ ps)) (sym (append-[] (spell.filter cond))))))))

respell_rows : Behind select_front g.select_rows spell.pieces
unfolding g.select_rows spell.pieces
respell_rows =
    next spell.select_items respell_columns (λ taken.
    next_word (codes "from") (codes "from") refl refl (next_name (λ t. next spell.filter respell_filter (λ cond. next spell.order respell_order (λ by.
    done (commands.Select t taken cond by)
    (append_assoc (((spell.word (codes "select") ∷ spell.select_items taken) ++ spell.word (codes "from") ∷ []) ++ spell.word t ∷ []) (spell.filter cond) (spell.order by)
    ∙ from_pieces (spell.word (codes "select") ∷ spell.select_items taken) (spell.filter cond ++ spell.order by) (spell.word (codes "from")) (spell.word t)))))))

respell_select : Respells g.select spell.pieces
unfolding g.select
respell_select = respelled (next_word (codes "select") (codes "select") refl refl (either respell_sums respell_rows))

-- ---- backups and readers of changes

spells_kind : (w : List ℕ) (kind : BackupKind) → is_like_word w ≡ true → ((t : Token) → Shows (spell.word w) t → the_backup_kind t ≡ Some kind) → Spells (one the_backup_kind) (spell.word w ∷ []) kind
spells_kind w kind like h = spells_one the_backup_kind (spell.word w) kind (cut_word w like) h

respell_kind : Respells (one the_backup_kind) (λ kind. spell.backup_kind kind ∷ [])
unfolding the_backup_kind is_word
respell_kind ts backups.Full fine h = spells_kind (codes "fileFull") backups.Full refl (λ t s. rw (s.0, s.1, kind_is k.Word k.Word refl) refl)
respell_kind ts backups.FullEnable fine h = spells_kind (codes "fileFullEnable") backups.FullEnable refl (λ t s. rw (s.0, s.1, kind_is k.Word k.Word refl) refl)
respell_kind ts backups.Incremental fine h = spells_kind (codes "fileIncremental") backups.Incremental refl (λ t s. rw (s.0, s.1, kind_is k.Word k.Word refl) refl)
respell_kind ts backups.IncrOrFull fine h = spells_kind (codes "fileIncrOrFull") backups.IncrOrFull refl (λ t s. rw (s.0, s.1, kind_is k.Word k.Word refl) refl)
respell_kind ts backups.Stop fine h = spells_kind (codes "incrementalStop") backups.Stop refl (λ t s. rw (s.0, s.1, kind_is k.Word k.Word refl) refl)

respell_backup : Respells g.backup spell.pieces
unfolding g.backup spell.pieces
respell_backup =
    respelled (next_word (codes "ttbackup") (codes "ttBackup") refl refl (next (λ n. spell.number (decimal n) ∷ []) (respell_digits 1 999 (omega arith)) (λ n.
    next (λ kind. spell.backup_kind kind ∷ []) respell_kind (λ kind. done (commands.Backup n kind) refl))))

respell_next_update : Respells g.next_update spell.pieces
unfolding g.next_update spell.pieces
respell_next_update =
    respelled (next_word (codes "ttxlanextupdate") (codes "ttXlaNextUpdate") refl refl (next (λ n. spell.number (decimal n) ∷ []) (respell_digits 1 1000 (omega arith)) (λ n. done (commands.XlaNext n) refl)))

respell_bookmark : (w bytes : List ℕ) (make : List ℕ → Command) → is_like_word bytes ≡ true → bytes_eq (map to_ascii_lowercase bytes) w ≡ true →
    ((n : List ℕ) → spell.word bytes ∷ spell.name n ≡ spell.pieces (make n)) → Respells (g.on_bookmark w make) spell.pieces
unfolding g.on_bookmark
respell_bookmark w bytes make like same h = respelled (next_word w bytes like same (next_name (λ n. done (make n) (h n))))

respell_table : (w bytes : List ℕ) (make : List ℕ → List ℕ → Command) → is_like_word bytes ≡ true → bytes_eq (map to_ascii_lowercase bytes) w ≡ true →
    ((t n : List ℕ) → spell.word bytes ∷ spell.word t ∷ spell.name n ≡ spell.pieces (make t n)) → Respells (g.on_table w make) spell.pieces
unfolding g.on_table
respell_table w bytes make like same h = respelled (next_word w bytes like same (next_name (λ t. next_name (λ n. done (make t n) (h t n)))))

respell_utility : Respells g.utility spell.pieces
unfolding g.utility spell.pieces
respell_utility ts a fine (inl h) = spells_left (respell_backup ts a fine h)
respell_utility ts a fine (inr (inl h)) = spells_right (spells_left (respell_bookmark (codes "ttxlabookmarkcreate") (codes "ttXlaBookmarkCreate") commands.XlaCreate refl refl (λ n. refl) ts a fine h))
respell_utility ts a fine (inr (inr (inl h))) = spells_right (spells_right (spells_left (respell_bookmark (codes "ttxlabookmarkdelete") (codes "ttXlaBookmarkDelete") commands.XlaDelete refl refl (λ n. refl) ts a fine h)))
respell_utility ts a fine (inr (inr (inr (inl h)))) = spells_right (spells_right (spells_right (spells_left (respell_table (codes "ttxlasubscribe") (codes "ttXlaSubscribe") commands.XlaSubscribe refl refl (λ t n. refl) ts a fine h))))
respell_utility ts a fine (inr (inr (inr (inr (inl h))))) = spells_right (spells_right (spells_right (spells_right (spells_left (respell_table (codes "ttxlaunsubscribe") (codes "ttXlaUnsubscribe") commands.XlaUnsubscribe refl refl (λ t n. refl) ts a fine h)))))
respell_utility ts a fine (inr (inr (inr (inr (inr (inl h)))))) = spells_right (spells_right (spells_right (spells_right (spells_right (spells_left (respell_bookmark (codes "ttxlaopen") (codes "ttXlaOpen") commands.XlaOpen refl refl (λ n. refl) ts a fine h))))))
respell_utility ts a fine (inr (inr (inr (inr (inr (inr h)))))) = spells_right (spells_right (spells_right (spells_right (spells_right (spells_right (respell_next_update ts a fine h))))))

-- ---- commands of one word

chosen : (P : Command → Type 0) (b : Bool) (x a : Command) (rest : Option Command) → P x → (rest ≡ Some a → P a) → (if b then Some x else rest) ≡ Some a → P a
chosen P true x a rest p others h = let e : x ≡ a = cc in subst P e p
chosen P false x a rest p others h = others h

abbrev Bare : Command → Type 0
Bare a = Spells (one the_bare) (spell.pieces a) a

spells_bare : (w : List ℕ) (a : Command) → is_like_word w ≡ true → spell.word w ∷ [] ≡ spell.pieces a → ((t : Token) → Shows (spell.word w) t → the_bare t ≡ Some a) → Bare a
spells_bare w a like e h = subst (λ (ps : List Piece). Spells (one the_bare) ps a) e (spells_one the_bare (spell.word w) a (cut_word w like) h)

bare_cases : (a : Command) (t : Token) → the_bare t ≡ Some a → Bare a
unfolding the_bare is_word spell.pieces
bare_cases a t =
    chosen Bare _ commands.Commit a _ (spells_bare (codes "commit") commands.Commit refl refl (λ t s. rw (s.0, s.1, kind_is k.Word k.Word refl) refl))
    (chosen Bare _ commands.Rollback a _ (spells_bare (codes "rollback") commands.Rollback refl refl (λ t s. rw (s.0, s.1, kind_is k.Word k.Word refl) refl))
    (chosen Bare _ commands.Flush a _ (spells_bare (codes "flush") commands.Flush refl refl (λ t s. rw (s.0, s.1, kind_is k.Word k.Word refl) refl))
    (chosen Bare _ commands.DurableCommit a _ (spells_bare (codes "ttDurableCommit") commands.DurableCommit refl refl (λ t s. rw (s.0, s.1, kind_is k.Word k.Word refl) refl))
    (chosen Bare _ commands.Ckpt a _ (spells_bare (codes "ttCkpt") commands.Ckpt refl refl (λ t s. rw (s.0, s.1, kind_is k.Word k.Word refl) refl))
    (chosen Bare _ commands.CkptBlocking a _ (spells_bare (codes "ttCkptBlocking") commands.CkptBlocking refl refl (λ t s. rw (s.0, s.1, kind_is k.Word k.Word refl) refl))
    (chosen Bare _ commands.LogHolds a _ (spells_bare (codes "ttLogHolds") commands.LogHolds refl refl (λ t s. rw (s.0, s.1, kind_is k.Word k.Word refl) refl))
    (chosen Bare _ commands.Bookmark a _ (spells_bare (codes "ttBookmark") commands.Bookmark refl refl (λ t s. rw (s.0, s.1, kind_is k.Word k.Word refl) refl))
    (chosen Bare _ commands.XlaAcknowledge a _ (spells_bare (codes "ttXlaAcknowledge") commands.XlaAcknowledge refl refl (λ t s. rw (s.0, s.1, kind_is k.Word k.Word refl) refl))
    (chosen Bare _ commands.XlaClose a _ (spells_bare (codes "ttXlaClose") commands.XlaClose refl refl (λ t s. rw (s.0, s.1, kind_is k.Word k.Word refl) refl))
    (λ none. absurd (let e : ◌≡◌ {A = Option Command} None (Some a) = none in cc)))))))))))

respell_bare : Respells (one the_bare) spell.pieces
respell_bare ts a fine h = bare_cases a h.0 h.2

-- ---- commands

respell_statement : Respells g.statement spell.pieces
unfolding g.statement
respell_statement ts a fine (inl h) = spells_left (respell_create ts a fine h)
respell_statement ts a fine (inr (inl h)) = spells_right (spells_left (respell_drop ts a fine h))
respell_statement ts a fine (inr (inr (inl h))) = spells_right (spells_right (spells_left (respell_insert ts a fine h)))
respell_statement ts a fine (inr (inr (inr (inl h)))) = spells_right (spells_right (spells_right (spells_left (respell_update ts a fine h))))
respell_statement ts a fine (inr (inr (inr (inr (inl h))))) = spells_right (spells_right (spells_right (spells_right (spells_left (respell_delete ts a fine h)))))
respell_statement ts a fine (inr (inr (inr (inr (inr (inl h)))))) = spells_right (spells_right (spells_right (spells_right (spells_right (spells_left (respell_select ts a fine h))))))
respell_statement ts a fine (inr (inr (inr (inr (inr (inr h)))))) = spells_right (spells_right (spells_right (spells_right (spells_right (spells_right (respell_utility ts a fine h))))))

pub respell_command : Respells g.command spell.pieces
unfolding g.command
respell_command ts a fine (inl h) = spells_left (respell_bare ts a fine h)
respell_command ts a fine (inr h) = spells_right (respell_statement ts a fine h)
