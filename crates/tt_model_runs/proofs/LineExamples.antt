-- What single lines are answered, by computing: small runs with the refusals of their lines.
use Rattle.std.proofs.Common.{◌≡◌, ℕ, nat_eq, if◌then◌else◌, take, drop, true, false, List, [], ◌∷◌, ◌++◌, codes, Some, None, refl, ap, ap₂, ◌∙◌}
use Rattle.tt_value.specs.BigEndian.{big_endian}
use Rattle.tt_value.specs.declared.value.Value.TheVariants.{Null, Text}
use Rattle.tt_value.specs.declared.refusal.Refusal.TheVariants.{NoColumn, TooMany, NotIncremental, SetThere, NoSet, NoReader, NotSubscribed, BookmarkThere, NoBookmark, CkptOpen, NoTable, NullRefused, WrongType, NameThere, DuplicateKey, LockConflict, InTransaction, BookmarkBusy}
use Rattle.tt_value.specs.declared.reply.Reply.{Reply}
use Rattle.tt_value.specs.declared.reply.Reply.TheVariants.{Done, Changed, Rows, Checkpoint, Positions, Holds, Backup, Refused}
use Rattle.tt_value.specs.declared.reply.HoldKind.TheVariants.{Checkpoint as OfCheckpoint, Backup as OfBackup, Xla as OfBookmark, Transaction as OfTransaction}
use Rattle.tt_parse.specs.declared.command.Command.{Command}
use Rattle.tt_parse.specs.declared.command.Command.TheVariants.{DropTable, CreateIndex, Insert, Update, Select, Commit, Flush, Ckpt, CkptBlocking, LogHolds, Bookmark, Backup as BackupLine, XlaCreate, XlaUnsubscribe, XlaOpen, XlaNext, XlaAcknowledge, DurableCommit, XlaDelete, XlaClose}
use Rattle.tt_parse.specs.declared.command.BackupKind.TheVariants.{Full as FullOnce, FullEnable, Incremental, IncrOrFull, Stop}
use Rattle.tt_parse.specs.declared.command.SetSource.TheVariants.{Column, Plus, Minus}
use Rattle.tt_parse.specs.declared.command.Items.TheVariants.{Columns, Sums}
use Rattle.tt_parse.specs.declared.command.Aggregate.TheVariants.{Count, Sum}
use Rattle.tt_parse.specs.declared.cond.Op.TheVariants.{Eq, Gt, Le}
use Rattle.tt_parse.specs.declared.cond.Operand.TheVariants.{Literal as OfLiteral, Column as OfColumn}
use Rattle.tt_parse.specs.declared.cond.Cond.{Cond, roll-Cond}
use Rattle.tt_parse.specs.declared.cond.Cond.TheOpen.{Compare, IsNull, And, Or}
use Rattle.tt_record.specs.Place.{position}
use Rattle.tt_record.specs.declared.entry.Entry.{Entry}
use Rattle.tt_record.specs.declared.entry.Entry.TheVariants.{Mark as MarkEntry}
use Rattle.tt_model.specs.Opened.{only_first, first_head}
use Rattle.tt_model.specs.Trail.{Trail, before}
use Rattle.tt_model.specs.Committed.{no_cells, committed, current}
use Rattle.tt_model.specs.Live.{live, in_use, next_number}
use Rattle.tt_model.specs.Holders.{holder, other_holder}
use Rattle.tt_model.specs.Forced.{forced_for}
use Rattle.tt_model.specs.Tables.{rows_of, catalog_of}
use Rattle.tt_model.specs.Holds.{first_entry, low, holds_of}
use Rattle.tt_model.specs.Conditions.{truth, has_columns, has_kinds}
use Rattle.tt_model.specs.Meaning.{meant_by_insert, meant_by_update, meant_by_delete, meant_by_select}
use Rattle.tt_model.specs.System.{meant_by_create_table, meant_by_drop_table, meant_by_create_index, meant_by_drop_index, meant_by_create_bookmark, meant_by_delete_bookmark, meant_by_subscribe, meant_by_unsubscribe, meant_by_acknowledge}
use Rattle.tt_model.specs.Backups.{backup_refusal}
use Rattle.tt_model.specs.Due.{due, open_after}
use Rattle.tt_model.specs.Checkpoint.{with_copies, with_all_copies, with_completion, begin_checkpoint, completed}
use Rattle.tt_model.specs.State.{State, trail, with_entry, all_forced, reversals}
use Rattle.tt_model.specs.Step.{line}
use Rattle.tt_model.specs.Run.{begun, ended}
use Rattle.tt_model.specs.Standing.{standing, log_of}
use Rattle.tt_model.specs.Opening.{FilesRead, opening}
use Rattle.tt_model_runs.proofs.ConditionRuns.{Line, Meaning, replies, after, meaning, comparison, means-comparison, null_test, means-null_test, conjunction, means-conjunction, disjunction, means-disjunction, conds_in, AreMeant, lines_by, replies_told, replies-by}
use Rattle.tt_model_runs.proofs.ExampleWords.{is_number, equals, number_means, key_is, key_means, usual, durable, one_page_a_round, start, again, whole, create_kv, pair, pairs, all_kv, row_of, pair_row, held}

-- ---- commits and forces

-- A commit that isn't forced is lost where the run stops.
abbrev unforced_commit_lines : List Line
unforced_commit_lines =
    (1, create_kv)
    ∷ (1, Flush)
    ∷ (1, pair 1 10)
    ∷ (1, Commit)
    ∷ []

unforced_commit : replies unforced_commit_lines (start usual) ≡
    Done
    ∷ Done
    ∷ Changed 1
    ∷ Done
    ∷ []
unfolding begun with_entry all_forced reversals forced_for line with_copies with_all_copies with_completion begin_checkpoint completed meant_by_create_table meant_by_drop_table meant_by_create_index meant_by_drop_index meant_by_create_bookmark meant_by_delete_bookmark meant_by_subscribe meant_by_unsubscribe meant_by_acknowledge backup_refusal meant_by_insert meant_by_update meant_by_delete meant_by_select truth has_columns has_kinds catalog_of rows_of committed live in_use next_number holder other_holder holds_of first_entry before low due open_after big_endian
unforced_commit = refl

unforced_commit_is_lost : replies ((1, all_kv) ∷ []) (again (after unforced_commit_lines (start usual))) ≡ Rows [] ∷ []
unfolding begun with_entry all_forced reversals forced_for line with_copies with_all_copies with_completion begin_checkpoint completed meant_by_create_table meant_by_drop_table meant_by_create_index meant_by_drop_index meant_by_create_bookmark meant_by_delete_bookmark meant_by_subscribe meant_by_unsubscribe meant_by_acknowledge backup_refusal meant_by_insert meant_by_update meant_by_delete meant_by_select truth has_columns has_kinds catalog_of rows_of committed live in_use next_number holder other_holder holds_of first_entry before low due open_after big_endian standing
unforced_commit_is_lost = refl

-- With a flush behind it, it is there.
flushed_commit_is_kept : replies ((1, all_kv) ∷ []) (again (after (unforced_commit_lines ++ (1, Flush) ∷ []) (start usual))) ≡ Rows (pair_row 1 10 ∷ []) ∷ []
unfolding begun with_entry all_forced reversals forced_for line with_copies with_all_copies with_completion begin_checkpoint completed meant_by_create_table meant_by_drop_table meant_by_create_index meant_by_drop_index meant_by_create_bookmark meant_by_delete_bookmark meant_by_subscribe meant_by_unsubscribe meant_by_acknowledge backup_refusal meant_by_insert meant_by_update meant_by_delete meant_by_select truth has_columns has_kinds catalog_of rows_of committed live in_use next_number holder other_holder holds_of first_entry before low due open_after big_endian standing
flushed_commit_is_kept = refl

-- A session's wish makes its next commit durable, and no later one.
abbrev wish_for_one_commit_lines : List Line
wish_for_one_commit_lines =
    (1, create_kv)
    ∷ (1, pair 1 10)
    ∷ (1, DurableCommit)
    ∷ (1, Commit)
    ∷ (1, Bookmark)
    ∷ (1, pair 2 20)
    ∷ (1, Commit)
    ∷ (1, Bookmark)
    ∷ []

wish_for_one_commit : replies wish_for_one_commit_lines (start usual) ≡
    Done
    ∷ Changed 1
    ∷ Done
    ∷ Done
    ∷ Positions (position 0 255) (position 0 255) (position 0 0)
    ∷ Changed 1
    ∷ Done
    ∷ Positions (position 0 304) (position 0 255) (position 0 0)
    ∷ []
unfolding begun with_entry all_forced reversals forced_for line with_copies with_all_copies with_completion begin_checkpoint completed meant_by_create_table meant_by_drop_table meant_by_create_index meant_by_drop_index meant_by_create_bookmark meant_by_delete_bookmark meant_by_subscribe meant_by_unsubscribe meant_by_acknowledge backup_refusal meant_by_insert meant_by_update meant_by_delete meant_by_select truth has_columns has_kinds catalog_of rows_of committed live in_use next_number holder other_holder holds_of first_entry before low due open_after big_endian
wish_for_one_commit = refl

-- ---- tables, indexes and rows

-- An update that finds no row writes nothing. A table that was dropped isn't there.
abbrev dropped_table_is_gone_lines : List Line
dropped_table_is_gone_lines =
    (1, create_kv)
    ∷ (1, Bookmark)
    ∷ (1, Update (codes "kv") (record { column = codes "v"; source = Plus (codes "v") (whole 1) } ∷ []) None)
    ∷ (1, Bookmark)
    ∷ (1, DropTable (codes "kv"))
    ∷ (1, all_kv)
    ∷ []

dropped_table_is_gone : replies dropped_table_is_gone_lines (start usual) ≡
    Done
    ∷ Positions (position 0 206) (position 0 0) (position 0 0)
    ∷ Changed 0
    ∷ Positions (position 0 206) (position 0 0) (position 0 0)
    ∷ Done
    ∷ Refused NoTable
    ∷ []
unfolding begun with_entry all_forced reversals forced_for line with_copies with_all_copies with_completion begin_checkpoint completed meant_by_create_table meant_by_drop_table meant_by_create_index meant_by_drop_index meant_by_create_bookmark meant_by_delete_bookmark meant_by_subscribe meant_by_unsubscribe meant_by_acknowledge backup_refusal meant_by_insert meant_by_update meant_by_delete meant_by_select truth has_columns has_kinds catalog_of rows_of committed live in_use next_number holder other_holder holds_of first_entry before low due open_after big_endian
dropped_table_is_gone = refl

-- What an insert is refused by, in its order: the table, the number of values, Null in a key, the key.
abbrev inserts_are_refused_lines : List Line
inserts_are_refused_lines =
    (1, create_kv)
    ∷ (1, create_kv)
    ∷ (1, Insert (codes "zz") (whole 1 ∷ whole 1 ∷ []))
    ∷ (1, Insert (codes "kv") (whole 1 ∷ []))
    ∷ (1, Insert (codes "kv") (Null ∷ whole 1 ∷ []))
    ∷ (1, pair 1 1)
    ∷ (1, pair 1 2)
    ∷ []

inserts_are_refused : replies inserts_are_refused_lines (start usual) ≡
    Done
    ∷ Refused NameThere
    ∷ Refused NoTable
    ∷ Refused WrongType
    ∷ Refused NullRefused
    ∷ Changed 1
    ∷ Refused DuplicateKey
    ∷ []
unfolding begun with_entry all_forced reversals forced_for line with_copies with_all_copies with_completion begin_checkpoint completed meant_by_create_table meant_by_drop_table meant_by_create_index meant_by_drop_index meant_by_create_bookmark meant_by_delete_bookmark meant_by_subscribe meant_by_unsubscribe meant_by_acknowledge backup_refusal meant_by_insert meant_by_update meant_by_delete meant_by_select truth has_columns has_kinds catalog_of rows_of committed live in_use next_number holder other_holder holds_of first_entry before low due open_after big_endian
inserts_are_refused = refl

-- A column is set to another one, to itself with a number more, and with a number less. Null stays Null.
abbrev sources_of_an_update_lines : List Line
sources_of_an_update_lines =
    (1, create_kv)
    ∷ (1, pair 1 10)
    ∷ (1, pair 2 20)
    ∷ (1, Insert (codes "kv") (whole 3 ∷ Null ∷ []))
    ∷ (1, Update (codes "kv") (record { column = codes "v"; source = Plus (codes "v") (whole 1) } ∷ []) None)
    ∷ (1, all_kv)
    ∷ (1, Update (codes "kv") (record { column = codes "v"; source = Column (codes "k") } ∷ []) None)
    ∷ (1, all_kv)
    ∷ (1, Update (codes "kv") (record { column = codes "v"; source = Minus (codes "v") (whole 1) } ∷ []) None)
    ∷ (1, all_kv)
    ∷ []

sources_of_an_update : drop 4 (replies sources_of_an_update_lines (start usual)) ≡
    Changed 3
    ∷ Rows (pair_row 1 11 ∷ pair_row 2 21 ∷ row_of (whole 3 ∷ Null ∷ []) ∷ [])
    ∷ Changed 3
    ∷ Rows (pair_row 1 1 ∷ pair_row 2 2 ∷ pair_row 3 3 ∷ [])
    ∷ Changed 3
    ∷ Rows (pair_row 1 0 ∷ pair_row 2 1 ∷ pair_row 3 2 ∷ [])
    ∷ []
unfolding begun with_entry all_forced reversals forced_for line with_copies with_all_copies with_completion begin_checkpoint completed meant_by_create_table meant_by_drop_table meant_by_create_index meant_by_drop_index meant_by_create_bookmark meant_by_delete_bookmark meant_by_subscribe meant_by_unsubscribe meant_by_acknowledge backup_refusal meant_by_insert meant_by_update meant_by_delete meant_by_select truth has_columns has_kinds catalog_of rows_of committed live in_use next_number holder other_holder holds_of first_entry before low due open_after big_endian
sources_of_an_update = refl

-- Rows in the order of a column: Null stands behind all values, and before them where the order is turned round. A sum leaves it out.
abbrev ordered_rows_lines : List Line
ordered_rows_lines =
    (1, create_kv)
    ∷ (1, Insert (codes "kv") (whole 1 ∷ Null ∷ []))
    ∷ (1, pair 2 5)
    ∷ (1, pair 3 4)
    ∷ (1, Select (codes "kv") (Columns (codes "k" ∷ [])) None (record { column = codes "v"; down = false } ∷ []))
    ∷ (1, Select (codes "kv") (Columns (codes "k" ∷ [])) None (record { column = codes "v"; down = true } ∷ []))
    ∷ (1, Select (codes "kv") (Sums (Count ∷ Sum (codes "v") ∷ [])) None [])
    ∷ []

ordered_rows : drop 4 (replies ordered_rows_lines (start usual)) ≡
    Rows (row_of (whole 3 ∷ []) ∷ row_of (whole 2 ∷ []) ∷ row_of (whole 1 ∷ []) ∷ [])
    ∷ Rows (row_of (whole 1 ∷ []) ∷ row_of (whole 2 ∷ []) ∷ row_of (whole 3 ∷ []) ∷ [])
    ∷ Rows (row_of (whole 3 ∷ whole 9 ∷ []) ∷ [])
    ∷ []
unfolding begun with_entry all_forced reversals forced_for line with_copies with_all_copies with_completion begin_checkpoint completed meant_by_create_table meant_by_drop_table meant_by_create_index meant_by_drop_index meant_by_create_bookmark meant_by_delete_bookmark meant_by_subscribe meant_by_unsubscribe meant_by_acknowledge backup_refusal meant_by_insert meant_by_update meant_by_delete meant_by_select truth has_columns has_kinds catalog_of rows_of committed live in_use next_number holder other_holder holds_of first_entry before low due open_after big_endian
ordered_rows = refl

-- A value of a unique index is held by who inserted it, and is there once that one committed. Null is never held.
abbrev unique_value_is_held_lines : List Line
unique_value_is_held_lines =
    (1, create_kv)
    ∷ (1, CreateIndex (codes "u") (codes "kv") (codes "v" ∷ []) true)
    ∷ (1, pair 1 10)
    ∷ (2, pair 2 10)
    ∷ (2, Insert (codes "kv") (whole 2 ∷ Null ∷ []))
    ∷ (1, Insert (codes "kv") (whole 3 ∷ Null ∷ []))
    ∷ (1, Commit)
    ∷ (2, pair 4 10)
    ∷ []

unique_value_is_held : replies unique_value_is_held_lines (start usual) ≡
    Done
    ∷ Done
    ∷ Changed 1
    ∷ Refused (LockConflict 3)
    ∷ Changed 1
    ∷ Changed 1
    ∷ Done
    ∷ Refused DuplicateKey
    ∷ []
unfolding begun with_entry all_forced reversals forced_for line with_copies with_all_copies with_completion begin_checkpoint completed meant_by_create_table meant_by_drop_table meant_by_create_index meant_by_drop_index meant_by_create_bookmark meant_by_delete_bookmark meant_by_subscribe meant_by_unsubscribe meant_by_acknowledge backup_refusal meant_by_insert meant_by_update meant_by_delete meant_by_select truth has_columns has_kinds catalog_of rows_of committed live in_use next_number holder other_holder holds_of first_entry before low due open_after big_endian
unique_value_is_held = refl

abbrev index_on_v : ℕ → Command
index_on_v letter = CreateIndex (letter ∷ []) (codes "kv") (codes "v" ∷ []) false

-- A table has eight indexes and no more.
abbrev ninth_index_lines : List Line
ninth_index_lines =
    (1, create_kv)
    ∷ (1, index_on_v 97)
    ∷ (1, index_on_v 98)
    ∷ (1, index_on_v 99)
    ∷ (1, index_on_v 100)
    ∷ (1, index_on_v 101)
    ∷ (1, index_on_v 102)
    ∷ (1, index_on_v 103)
    ∷ (1, index_on_v 104)
    ∷ (1, index_on_v 105)
    ∷ []

ninth_index : drop 8 (replies ninth_index_lines (start usual)) ≡
    Done
    ∷ Refused (TooMany 8)
    ∷ []
unfolding begun with_entry all_forced reversals forced_for line with_copies with_all_copies with_completion begin_checkpoint completed meant_by_create_table meant_by_drop_table meant_by_create_index meant_by_drop_index meant_by_create_bookmark meant_by_delete_bookmark meant_by_subscribe meant_by_unsubscribe meant_by_acknowledge backup_refusal meant_by_insert meant_by_update meant_by_delete meant_by_select truth has_columns has_kinds catalog_of rows_of committed live in_use next_number holder other_holder holds_of first_entry before low due open_after big_endian
ninth_index = refl

-- ---- conditions

-- The rows (1, 5), (2, Null) and (3, 3), and what selects with each form of condition give. A column that isn't there goes before a
-- kind that doesn't fit.
abbrev v_above : ℕ → Cond
v_above n = roll-Cond (Compare (codes "v") Gt (OfLiteral (whole n)))

abbrev v_below_k : Cond
v_below_k = roll-Cond (Compare (codes "v") Le (OfColumn (codes "k")))

abbrev v_is_text : Cond
v_is_text = roll-Cond (Compare (codes "v") Eq (OfLiteral (Text (codes "x"))))

abbrev no_column : Cond
no_column = roll-Cond (Compare (codes "zz") Eq (OfLiteral (whole 1)))

abbrev keys_where : Cond → Line
keys_where cond = (1, Select (codes "kv") (Columns (codes "k" ∷ [])) (Some cond) [])

abbrev forms_of_condition_lines : List Line
forms_of_condition_lines =
    (1, create_kv)
    ∷ (1, pair 1 5)
    ∷ (1, Insert (codes "kv") (whole 2 ∷ Null ∷ []))
    ∷ (1, pair 3 3)
    ∷ keys_where v_below_k
    ∷ keys_where (roll-Cond (IsNull (codes "v") false))
    ∷ keys_where (roll-Cond (IsNull (codes "v") true))
    ∷ keys_where (roll-Cond (And (v_above 2) (is_number (codes "k") 1)))
    ∷ keys_where (roll-Cond (Or (v_above 4) (is_number (codes "k") 2)))
    ∷ keys_where v_is_text
    ∷ keys_where (roll-Cond (And v_is_text no_column))
    ∷ []

abbrev above : ℕ → Meaning
above n = comparison (codes "v") Gt (OfLiteral (whole n))

abbrev a_text : Meaning
a_text = comparison (codes "v") Eq (OfLiteral (Text (codes "x")))

abbrev forms_of_condition_meanings : List Meaning
forms_of_condition_meanings =
    comparison (codes "v") Le (OfColumn (codes "k"))
    ∷ null_test (codes "v") false
    ∷ null_test (codes "v") true
    ∷ conjunction (above 2) (key_is 1)
    ∷ disjunction (above 4) (key_is 2)
    ∷ a_text
    ∷ conjunction a_text (equals (codes "zz") 1)
    ∷ []

means_above : (n : ℕ) → meaning (v_above n) ≡ above n
means_above n = means-comparison (codes "v") Gt (OfLiteral (whole n))

means_text : meaning v_is_text ≡ a_text
means_text = means-comparison (codes "v") Eq (OfLiteral (Text (codes "x")))

forms_of_condition_means : AreMeant (conds_in forms_of_condition_lines) forms_of_condition_meanings
forms_of_condition_means = (
  means-comparison (codes "v") Le (OfColumn (codes "k")),
  (
    means-null_test (codes "v") false,
    (
      means-null_test (codes "v") true,
      (
        means-conjunction (v_above 2) (is_number (codes "k") 1) ∙ ap₂ conjunction (means_above 2) (key_means 1),
        (
          means-disjunction (v_above 4) (is_number (codes "k") 2) ∙ ap₂ disjunction (means_above 4) (key_means 2),
          (
            means_text,
            (means-conjunction v_is_text no_column ∙ ap₂ conjunction means_text (number_means (codes "zz") 1), tt),
          ),
        ),
      ),
    ),
  ),
)

abbrev forms_of_condition_replies : List Reply
forms_of_condition_replies =
    Rows (row_of (whole 3 ∷ []) ∷ [])
    ∷ Rows (row_of (whole 2 ∷ []) ∷ [])
    ∷ Rows (row_of (whole 1 ∷ []) ∷ row_of (whole 3 ∷ []) ∷ [])
    ∷ Rows (row_of (whole 1 ∷ []) ∷ [])
    ∷ Rows (row_of (whole 1 ∷ []) ∷ row_of (whole 2 ∷ []) ∷ [])
    ∷ Refused WrongType
    ∷ Refused NoColumn
    ∷ []

forms_of_condition_told : drop 4 (replies_told (lines_by forms_of_condition_meanings forms_of_condition_lines) (start usual)) ≡ forms_of_condition_replies
unfolding begun with_entry all_forced reversals forced_for line with_copies with_all_copies with_completion begin_checkpoint completed meant_by_create_table meant_by_drop_table meant_by_create_index meant_by_drop_index meant_by_create_bookmark meant_by_delete_bookmark meant_by_subscribe meant_by_unsubscribe meant_by_acknowledge backup_refusal meant_by_insert meant_by_update meant_by_delete meant_by_select catalog_of rows_of committed live in_use next_number holder other_holder holds_of first_entry before low due open_after big_endian
forms_of_condition_told = refl

forms_of_condition : drop 4 (replies forms_of_condition_lines (start usual)) ≡ forms_of_condition_replies
forms_of_condition =
    ap (λ (rs : List Reply). drop 4 rs) (replies-by forms_of_condition_meanings forms_of_condition_lines (start usual) forms_of_condition_means)
    ∙ forms_of_condition_told

-- ---- checkpoints

-- While a checkpoint is under way none begins; a line that is refused is a round all the same.
abbrev checkpoint_is_open_lines : List Line
checkpoint_is_open_lines = (1, create_kv) ∷ pairs 1 70 1 10 ++ (1, Commit) ∷ (1, Ckpt) ∷ (1, Ckpt) ∷ (1, CkptBlocking) ∷ (1, Flush) ∷ (1, LogHolds) ∷ []

checkpoint_is_open : drop 72 (replies checkpoint_is_open_lines (start one_page_a_round)) ≡
    Checkpoint 2 3
    ∷ Refused (CkptOpen 2)
    ∷ Refused (CkptOpen 2)
    ∷ Done
    ∷ Holds (held (OfCheckpoint 0) (position 0 0) ∷ held (OfCheckpoint 1) (position 0 3015) ∷ [])
    ∷ []
unfolding begun with_entry all_forced reversals forced_for line with_copies with_all_copies with_completion begin_checkpoint completed meant_by_create_table meant_by_drop_table meant_by_create_index meant_by_drop_index meant_by_create_bookmark meant_by_delete_bookmark meant_by_subscribe meant_by_unsubscribe meant_by_acknowledge backup_refusal meant_by_insert meant_by_update meant_by_delete meant_by_select truth has_columns has_kinds catalog_of rows_of committed live in_use next_number holder other_holder holds_of first_entry before low due open_after big_endian
checkpoint_is_open = refl

-- ---- the next run

-- A run with three blocking checkpoints, and what its end leaves in the files: two whole images and one log file.
abbrev three_checkpoints : State
three_checkpoints = (ended (after ((1, create_kv) ∷ (1, pair 1 10) ∷ (1, Commit) ∷ (1, CkptBlocking) ∷ (1, CkptBlocking) ∷ (1, CkptBlocking) ∷ []) (start durable))).1

abbrev oldest_first : Trail → List Entry → List Entry
oldest_first [] newer = newer
oldest_first (e ∷ older) newer = oldest_first older (e.entry ∷ newer)

abbrev files_left : State → FilesRead
files_left s = record {
  heads = s.heads;
  images = λ file. current s.found.cells s.entries;
  entries_in = λ n. if nat_eq n 0 then Some (oldest_first (trail s) []) else None;
}

abbrev replies_opened : List Line → FilesRead → State → List Reply
replies_opened lines files s = elim (opening files) [ None ↦ [] | Some found ↦ replies lines (begun s.settings found s.files s.sets) ]

-- The next run finds the rows, and its first checkpoint takes the older file, all of whose pages are to be copied.
older_file_is_taken : replies_opened ((1, all_kv) ∷ (1, CkptBlocking) ∷ []) (files_left three_checkpoints) three_checkpoints ≡ Rows (pair_row 1 10 ∷ []) ∷ Checkpoint 5 1 ∷ []
unfolding begun with_entry all_forced reversals forced_for line with_copies with_all_copies with_completion begin_checkpoint completed meant_by_create_table meant_by_drop_table meant_by_create_index meant_by_drop_index meant_by_create_bookmark meant_by_delete_bookmark meant_by_subscribe meant_by_unsubscribe meant_by_acknowledge backup_refusal meant_by_insert meant_by_update meant_by_delete meant_by_select truth has_columns has_kinds catalog_of rows_of committed live in_use next_number holder other_holder holds_of first_entry before low due open_after big_endian standing log_of opening current ended
older_file_is_taken = refl

-- Without a whole image nothing is opened, nor without a log file that one needs.
no_image : opening (record (files_left three_checkpoints) { heads = λ file. None }) ≡ None
unfolding begun with_entry all_forced reversals forced_for line with_copies with_all_copies with_completion begin_checkpoint completed meant_by_create_table meant_by_drop_table meant_by_create_index meant_by_drop_index meant_by_create_bookmark meant_by_delete_bookmark meant_by_subscribe meant_by_unsubscribe meant_by_acknowledge backup_refusal meant_by_insert meant_by_update meant_by_delete meant_by_select truth has_columns has_kinds catalog_of rows_of committed live in_use next_number holder other_holder holds_of first_entry before low due open_after big_endian standing log_of opening current ended
no_image = refl

no_log : opening (record (files_left three_checkpoints) { entries_in = λ n. None }) ≡ None
unfolding begun with_entry all_forced reversals forced_for line with_copies with_all_copies with_completion begin_checkpoint completed meant_by_create_table meant_by_drop_table meant_by_create_index meant_by_drop_index meant_by_create_bookmark meant_by_delete_bookmark meant_by_subscribe meant_by_unsubscribe meant_by_acknowledge backup_refusal meant_by_insert meant_by_update meant_by_delete meant_by_select truth has_columns has_kinds catalog_of rows_of committed live in_use next_number holder other_holder holds_of first_entry before low due open_after big_endian standing log_of opening current ended
no_log = refl

-- A run with one row and no checkpoint, and the files that its end leaves: the empty image of the creation, and a log.
abbrev one_row : State
one_row = (ended (after ((1, create_kv) ∷ (1, pair 1 10) ∷ (1, Commit) ∷ []) (start durable))).1

abbrev with_log : List Entry → FilesRead
with_log entries = record (files_left one_row) { images = λ file. no_cells; entries_in = λ n. if nat_eq n 0 then Some entries else None }

-- Where the log ends behind the table's commit, there is the table without its row. Where it is empty, there is none.
row_is_cut_off : replies_opened ((1, all_kv) ∷ []) (with_log (take 5 (oldest_first (trail one_row) []))) one_row ≡ Rows [] ∷ []
unfolding begun with_entry all_forced reversals forced_for line with_copies with_all_copies with_completion begin_checkpoint completed meant_by_create_table meant_by_drop_table meant_by_create_index meant_by_drop_index meant_by_create_bookmark meant_by_delete_bookmark meant_by_subscribe meant_by_unsubscribe meant_by_acknowledge backup_refusal meant_by_insert meant_by_update meant_by_delete meant_by_select truth has_columns has_kinds catalog_of rows_of committed live in_use next_number holder other_holder holds_of first_entry before low due open_after big_endian standing log_of opening current ended
row_is_cut_off = refl

table_is_cut_off : replies_opened ((1, all_kv) ∷ []) (with_log []) one_row ≡ Refused NoTable ∷ []
unfolding begun with_entry all_forced reversals forced_for line with_copies with_all_copies with_completion begin_checkpoint completed meant_by_create_table meant_by_drop_table meant_by_create_index meant_by_drop_index meant_by_create_bookmark meant_by_delete_bookmark meant_by_subscribe meant_by_unsubscribe meant_by_acknowledge backup_refusal meant_by_insert meant_by_update meant_by_delete meant_by_select truth has_columns has_kinds catalog_of rows_of committed live in_use next_number holder other_holder holds_of first_entry before low due open_after big_endian standing log_of opening current ended
table_is_cut_off = refl

-- A log file that none before it names isn't part of the log.
file_that_none_names : replies_opened ((1, all_kv) ∷ []) (record (files_left one_row) { images = λ file. no_cells; entries_in = λ n. if nat_eq n 0 then Some (oldest_first (trail one_row) []) else Some (MarkEntry ∷ []) }) one_row ≡
    Rows (pair_row 1 10 ∷ [])
    ∷ []
unfolding begun with_entry all_forced reversals forced_for line with_copies with_all_copies with_completion begin_checkpoint completed meant_by_create_table meant_by_drop_table meant_by_create_index meant_by_drop_index meant_by_create_bookmark meant_by_delete_bookmark meant_by_subscribe meant_by_unsubscribe meant_by_acknowledge backup_refusal meant_by_insert meant_by_update meant_by_delete meant_by_select truth has_columns has_kinds catalog_of rows_of committed live in_use next_number holder other_holder holds_of first_entry before low due open_after big_endian standing log_of opening current ended
file_that_none_names = refl

-- A scan position inside an entry is damage, and so are two images with one number.
scan_inside_an_entry : opening (record (with_log (oldest_first (trail one_row) [])) { heads = only_first (record (first_head 0 1) { scan = position 0 5 }) }) ≡ None
unfolding begun with_entry all_forced reversals forced_for line with_copies with_all_copies with_completion begin_checkpoint completed meant_by_create_table meant_by_drop_table meant_by_create_index meant_by_drop_index meant_by_create_bookmark meant_by_delete_bookmark meant_by_subscribe meant_by_unsubscribe meant_by_acknowledge backup_refusal meant_by_insert meant_by_update meant_by_delete meant_by_select truth has_columns has_kinds catalog_of rows_of committed live in_use next_number holder other_holder holds_of first_entry before low due open_after big_endian standing log_of opening current ended
scan_inside_an_entry = refl

one_number_twice : opening (record (with_log (oldest_first (trail one_row) [])) { heads = λ file. Some (first_head 0 1) }) ≡ None
unfolding begun with_entry all_forced reversals forced_for line with_copies with_all_copies with_completion begin_checkpoint completed meant_by_create_table meant_by_drop_table meant_by_create_index meant_by_drop_index meant_by_create_bookmark meant_by_delete_bookmark meant_by_subscribe meant_by_unsubscribe meant_by_acknowledge backup_refusal meant_by_insert meant_by_update meant_by_delete meant_by_select truth has_columns has_kinds catalog_of rows_of committed live in_use next_number holder other_holder holds_of first_entry before low due open_after big_endian standing log_of opening current ended
one_number_twice = refl

-- ---- change readers

-- A bookmark holds the log, and is deleted only once its reader is closed.
abbrev bookmark_holds_the_log_lines : List Line
bookmark_holds_the_log_lines =
    (1, create_kv)
    ∷ (1, pair 1 10)
    ∷ (2, XlaCreate (codes "bm"))
    ∷ (2, XlaCreate (codes "bm"))
    ∷ (2, LogHolds)
    ∷ (2, XlaNext 1)
    ∷ (2, XlaAcknowledge)
    ∷ (2, XlaUnsubscribe (codes "kv") (codes "bm"))
    ∷ (2, XlaOpen (codes "bm"))
    ∷ (3, XlaDelete (codes "bm"))
    ∷ (2, XlaClose)
    ∷ (2, XlaClose)
    ∷ (3, XlaDelete (codes "bm"))
    ∷ (3, XlaDelete (codes "bm"))
    ∷ (2, XlaOpen (codes "bm"))
    ∷ (2, LogHolds)
    ∷ []

bookmark_holds_the_log : replies bookmark_holds_the_log_lines (start usual) ≡
    Done
    ∷ Changed 1
    ∷ Done
    ∷ Refused BookmarkThere
    ∷ Holds (held (OfCheckpoint 0) (position 0 0) ∷ held (OfBookmark (codes "bm")) (position 0 206) ∷ held (OfTransaction 2) (position 0 206) ∷ [])
    ∷ Refused NoReader
    ∷ Refused NoReader
    ∷ Refused NotSubscribed
    ∷ Done
    ∷ Refused (BookmarkBusy 2)
    ∷ Done
    ∷ Refused NoReader
    ∷ Done
    ∷ Refused NoBookmark
    ∷ Refused NoBookmark
    ∷ Holds (held (OfCheckpoint 0) (position 0 0) ∷ held (OfTransaction 2) (position 0 206) ∷ [])
    ∷ []
unfolding begun with_entry all_forced reversals forced_for line with_copies with_all_copies with_completion begin_checkpoint completed meant_by_create_table meant_by_drop_table meant_by_create_index meant_by_drop_index meant_by_create_bookmark meant_by_delete_bookmark meant_by_subscribe meant_by_unsubscribe meant_by_acknowledge backup_refusal meant_by_insert meant_by_update meant_by_delete meant_by_select truth has_columns has_kinds catalog_of rows_of committed live in_use next_number holder other_holder holds_of first_entry before low due open_after big_endian
bookmark_holds_the_log = refl

-- ---- backups

-- The kinds of backup: one that adds nothing new but the set's own row, the end of the adding, a full one, and the one that chooses.
abbrev kinds_of_backup_lines : List Line
kinds_of_backup_lines =
    (1, create_kv)
    ∷ (1, pair 1 10)
    ∷ (1, Commit)
    ∷ (1, BackupLine 1 FullEnable)
    ∷ (1, pair 2 20)
    ∷ (1, Commit)
    ∷ (1, BackupLine 1 Incremental)
    ∷ (1, BackupLine 1 Incremental)
    ∷ (1, BackupLine 1 Stop)
    ∷ (1, LogHolds)
    ∷ (1, BackupLine 1 Incremental)
    ∷ (1, BackupLine 1 FullOnce)
    ∷ (1, BackupLine 1 Stop)
    ∷ (1, BackupLine 2 FullOnce)
    ∷ (1, BackupLine 3 IncrOrFull)
    ∷ (1, BackupLine 3 IncrOrFull)
    ∷ (1, BackupLine 4 Incremental)
    ∷ (1, LogHolds)
    ∷ (1, pair 3 30)
    ∷ (1, BackupLine 5 FullOnce)
    ∷ []

kinds_of_backup : drop 6 (replies kinds_of_backup_lines (start usual)) ≡
    Backup 1 false (position 0 362)
    ∷ Backup 1 false (position 0 454)
    ∷ Done
    ∷ Holds (held (OfCheckpoint 0) (position 0 0) ∷ [])
    ∷ Refused NotIncremental
    ∷ Refused SetThere
    ∷ Refused NotIncremental
    ∷ Backup 2 true (position 0 604)
    ∷ Backup 3 true (position 0 604)
    ∷ Backup 3 false (position 0 662)
    ∷ Refused NoSet
    ∷ Holds (held (OfCheckpoint 0) (position 0 0) ∷ held (OfBackup 3) (position 0 662) ∷ [])
    ∷ Changed 1
    ∷ Refused InTransaction
    ∷ []
unfolding begun with_entry all_forced reversals forced_for line with_copies with_all_copies with_completion begin_checkpoint completed meant_by_create_table meant_by_drop_table meant_by_create_index meant_by_drop_index meant_by_create_bookmark meant_by_delete_bookmark meant_by_subscribe meant_by_unsubscribe meant_by_acknowledge backup_refusal meant_by_insert meant_by_update meant_by_delete meant_by_select truth has_columns has_kinds catalog_of rows_of committed live in_use next_number holder other_holder holds_of first_entry before low due open_after big_endian
kinds_of_backup = refl
