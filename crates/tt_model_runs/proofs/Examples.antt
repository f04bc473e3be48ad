-- What the definitions give for small runs, by computing. Each line is a session and its command. Where lines have conditions, the
-- replies are computed from what these mean.
use Rattle.std.proofs.Common.{◌≡◌, ℕ, zero, suc, nat_lt, if◌then◌else◌, take, drop, pos, true, false, List, [], ◌∷◌, ◌++◌, map, codes, Option, Some, None, refl, ap, ◌∙◌, Less, Greater, Equal}
use Rattle.tt_value.specs.Order.{value_cmp, compared}
use Rattle.tt_value.specs.Truth.{negated}
use Rattle.tt_value.specs.BigEndian.{big_endian}
use Rattle.tt_value.specs.declared.value.Value.TheVariants.{Null, Int, Number, Text}
use Rattle.tt_value.specs.declared.value.Row.{Row}
use Rattle.tt_value.specs.declared.value.Cell.TheVariants.{Full}
use Rattle.tt_value.specs.declared.value.ColumnType.TheVariants.{BigInt, Varchar}
use Rattle.tt_value.specs.declared.truth.Truth.{Truth}
use Rattle.tt_value.specs.declared.refusal.Refusal.TheVariants.{TooWide, DuplicateKey, KeyUpdate, NotEmpty, LockConflict, PermFull, InTransaction, BookmarkBusy, TransactionOpen, OutOfRange, LogOut, NoIndex}
use Rattle.tt_value.specs.declared.reply.Reply.{Reply}
use Rattle.tt_value.specs.declared.reply.Reply.TheVariants.{Done, Changed, Rows, Checkpoint, Positions, Holds, Updates, Backup, Refused}
use Rattle.tt_value.specs.declared.reply.HoldKind.TheVariants.{Checkpoint as OfCheckpoint, Transaction as OfTransaction}
use Rattle.tt_parse.specs.declared.command.Command.TheVariants.{CreateTable, DropTable, CreateIndex, DropIndex, Insert, Update, Select, Commit, Rollback, Flush, Ckpt, CkptBlocking, LogHolds, Bookmark, Backup as BackupLine, XlaCreate, XlaSubscribe, XlaUnsubscribe, XlaOpen, XlaNext, XlaAcknowledge}
use Rattle.tt_parse.specs.declared.command.BackupKind.TheVariants.{FullEnable, Incremental}
use Rattle.tt_parse.specs.declared.command.SetSource.TheVariants.{Literal}
use Rattle.tt_parse.specs.declared.command.Items.TheVariants.{Columns, Sums}
use Rattle.tt_parse.specs.declared.command.Aggregate.TheVariants.{Count, Sum}
use Rattle.tt_parse.specs.declared.cond.Op.TheVariants.{Eq}
use Rattle.tt_parse.specs.declared.cond.Operand.TheVariants.{Literal as OfLiteral}
use Rattle.tt_parse.specs.declared.cond.Cond.{Cond, roll-Cond, fold-roll-Cond}
use Rattle.tt_parse.specs.declared.cond.Cond.TheOpen.{Compare, Not}
use Rattle.tt_record.specs.Place.{position}
use Rattle.tt_record.specs.declared.entry.Entry.{Entry}
use Rattle.tt_record.specs.declared.entry.Entry.TheVariants.{Mark as MarkEntry, Commit as CommitEntry, Switch as SwitchEntry}
use Rattle.tt_model.specs.Trail.{oldest, since, before}
use Rattle.tt_model.specs.Committed.{Cells, committed, current}
use Rattle.tt_model.specs.Live.{live, in_use, next_number}
use Rattle.tt_model.specs.Values.{is_yes}
use Rattle.tt_model.specs.Holders.{holder, other_holder}
use Rattle.tt_model.specs.Forced.{forced_for}
use Rattle.tt_model.specs.Tables.{Table, rows_of, catalog_of}
use Rattle.tt_model.specs.Holds.{first_entry, low, holds_of}
use Rattle.tt_model.specs.Conditions.{takes, truth_at, truth, has_columns, has_kinds}
use Rattle.tt_model.specs.Opened.{Opened, created, only_first, first_head}
use Rattle.tt_model.specs.Sets.{SetStanding, Readable, Unreadable, set_cells, restored}
use Rattle.tt_model.specs.Meaning.{meant_by_insert, meant_by_update, meant_by_delete, meant_by_select}
use Rattle.tt_model.specs.System.{meant_by_create_table, meant_by_drop_table, meant_by_create_index, meant_by_drop_index, meant_by_create_bookmark, meant_by_delete_bookmark, meant_by_subscribe, meant_by_unsubscribe, meant_by_acknowledge}
use Rattle.tt_model.specs.Backups.{backup_refusal}
use Rattle.tt_model.specs.Due.{due, open_after}
use Rattle.tt_model.specs.Checkpoint.{with_copies, with_all_copies, with_completion, begin_checkpoint, completed}
use Rattle.tt_model.specs.State.{State, trail, force_position, write_position, with_entry, all_forced, reversals}
use Rattle.tt_model.specs.Step.{line}
use Rattle.tt_model.specs.Run.{begun, ended, opened}
use Rattle.tt_model.specs.Standing.{standing, log_of}
use Rattle.tt_model_runs.proofs.ConditionRuns.{Line, Meaning, Told, replies, after, negation, means-negation, conds_in, AreMeant, lines_by, replies_told, after_told, replies-by, after-by}
use Rattle.tt_model_runs.proofs.ExampleWords.{settings_of, usual, durable, small_files, one_page_a_round, one_page_filled, start, left_by, again_with, again, column, whole, create_kv, pair, pairs, set_v, is_number, equals, number_means, key_is, key_means, set_v_of, delete_of, all_kv, row_of, pair_row, create_t, letters, text_row, text_rows, given, held}

-- ---- positions and forces

-- A durable commit forces all that it ends; nothing holds the log but the first checkpoint file.
abbrev durable_commit_lines : List Line
durable_commit_lines =
    (1, create_kv)
    ∷ (1, pair 1 10)
    ∷ (1, Commit)
    ∷ (1, Bookmark)
    ∷ []

durable_commit : replies durable_commit_lines (start durable) ≡
    Done
    ∷ Changed 1
    ∷ Done
    ∷ Positions (position 0 255) (position 0 255) (position 0 0)
    ∷ []
unfolding begun with_entry all_forced reversals forced_for line with_copies with_all_copies with_completion begin_checkpoint completed meant_by_create_table meant_by_drop_table meant_by_create_index meant_by_drop_index meant_by_create_bookmark meant_by_delete_bookmark meant_by_subscribe meant_by_unsubscribe meant_by_acknowledge backup_refusal meant_by_insert meant_by_update meant_by_delete meant_by_select truth has_columns has_kinds catalog_of rows_of committed live in_use next_number holder other_holder holds_of first_entry before low due open_after big_endian
durable_commit = refl

-- The next run finds the row.
abbrev found_in_the_next_run_lines : List Line
found_in_the_next_run_lines =
    (1, pair 1 10)
    ∷ (1, all_kv)
    ∷ []

found_in_the_next_run : replies found_in_the_next_run_lines (again (after durable_commit_lines (start durable))) ≡
    Refused DuplicateKey
    ∷ Rows (pair_row 1 10 ∷ [])
    ∷ []
unfolding begun with_entry all_forced reversals forced_for line with_copies with_all_copies with_completion begin_checkpoint completed meant_by_create_table meant_by_drop_table meant_by_create_index meant_by_drop_index meant_by_create_bookmark meant_by_delete_bookmark meant_by_subscribe meant_by_unsubscribe meant_by_acknowledge backup_refusal meant_by_insert meant_by_update meant_by_delete meant_by_select truth has_columns has_kinds catalog_of rows_of committed live in_use next_number holder other_holder holds_of first_entry before low due open_after big_endian standing
found_in_the_next_run = refl

-- A run without a line leaves one Mark, and its end forces it.
empty_run : trail ((ended (start usual)).1) ≡ record { at = position 0 0; entry = MarkEntry } ∷ []
unfolding begun with_entry all_forced forced_for live ended big_endian
empty_run = refl

empty_run_forced : force_position ((ended (start usual)).1) ≡ position 0 1
unfolding begun with_entry all_forced forced_for live ended big_endian
empty_run_forced = refl

-- A run begins at the end that was found, also where that is the head of a file whose first entry was never written.
begun_at_the_next_file : write_position (opened usual (record (created 1) { entries = record { at = position 0 0; entry = MarkEntry } ∷ []; end = position 1 0 }) (λ n. true) (λ n. None)) ≡ position 1 0
begun_at_the_next_file = refl

-- A file that is just full begins no new one.
full_file : drop 36 (replies ((1, create_t) ∷ text_rows 1 33 1 200 ++ (1, text_row 34 100) ∷ (1, text_row 35 97) ∷ (1, Bookmark) ∷ []) (start (settings_of false 8192 1024 8))) ≡ Positions (position 0 8192) (position 0 0) (position 0 0) ∷ []
unfolding begun with_entry all_forced reversals forced_for line with_copies with_all_copies with_completion begin_checkpoint completed meant_by_create_table meant_by_drop_table meant_by_create_index meant_by_drop_index meant_by_create_bookmark meant_by_delete_bookmark meant_by_subscribe meant_by_unsubscribe meant_by_acknowledge backup_refusal meant_by_insert meant_by_update meant_by_delete meant_by_select truth has_columns has_kinds catalog_of rows_of committed live in_use next_number holder other_holder holds_of first_entry before low due open_after big_endian
full_file = refl

-- One byte more goes to the next file, and the entries before it are forced.
next_file : drop 36 (replies ((1, create_t) ∷ text_rows 1 33 1 200 ++ (1, text_row 34 100) ∷ (1, text_row 35 98) ∷ (1, Bookmark) ∷ []) (start (settings_of false 8192 1024 8))) ≡ Positions (position 1 132) (position 0 8061) (position 0 0) ∷ []
unfolding begun with_entry all_forced reversals forced_for line with_copies with_all_copies with_completion begin_checkpoint completed meant_by_create_table meant_by_drop_table meant_by_create_index meant_by_drop_index meant_by_create_bookmark meant_by_delete_bookmark meant_by_subscribe meant_by_unsubscribe meant_by_acknowledge backup_refusal meant_by_insert meant_by_update meant_by_delete meant_by_select truth has_columns has_kinds catalog_of rows_of committed live in_use next_number holder other_holder holds_of first_entry before low due open_after big_endian
next_file = refl

-- ---- transactions and locks

-- A conflict carries the holder; a rollback lets go.
abbrev conflict_and_rollback_lines : List Line
conflict_and_rollback_lines =
    (1, create_kv)
    ∷ (1, pair 1 10)
    ∷ (1, Commit)
    ∷ (1, set_v_of 1 11)
    ∷ (2, set_v_of 1 12)
    ∷ (1, Rollback)
    ∷ (2, set_v_of 1 12)
    ∷ (2, Commit)
    ∷ (1, all_kv)
    ∷ []

abbrev conflict_and_rollback_replies : List Reply
conflict_and_rollback_replies =
    Done
    ∷ Changed 1
    ∷ Done
    ∷ Changed 1
    ∷ Refused (LockConflict 3)
    ∷ Done
    ∷ Changed 1
    ∷ Done
    ∷ Rows (pair_row 1 12 ∷ [])
    ∷ []

conflict_and_rollback_told : replies_told (lines_by (key_is 1 ∷ key_is 1 ∷ key_is 1 ∷ []) conflict_and_rollback_lines) (start durable) ≡ conflict_and_rollback_replies
unfolding begun with_entry all_forced reversals forced_for line with_copies with_all_copies with_completion begin_checkpoint completed meant_by_create_table meant_by_drop_table meant_by_create_index meant_by_drop_index meant_by_create_bookmark meant_by_delete_bookmark meant_by_subscribe meant_by_unsubscribe meant_by_acknowledge backup_refusal meant_by_insert meant_by_update meant_by_delete meant_by_select catalog_of rows_of committed live in_use next_number holder other_holder holds_of first_entry before low due open_after big_endian
conflict_and_rollback_told = refl

conflict_and_rollback : replies conflict_and_rollback_lines (start durable) ≡ conflict_and_rollback_replies
conflict_and_rollback = replies-by (key_is 1 ∷ key_is 1 ∷ key_is 1 ∷ []) conflict_and_rollback_lines (start durable) (key_means 1, (key_means 1, (key_means 1, tt))) ∙ conflict_and_rollback_told

-- A deleted key is held; its own session may insert it again.
abbrev deleted_key_is_held_lines : List Line
deleted_key_is_held_lines =
    (1, create_kv)
    ∷ (1, pair 1 10)
    ∷ (1, Commit)
    ∷ (1, delete_of 1)
    ∷ (2, pair 1 20)
    ∷ (1, pair 1 30)
    ∷ []

abbrev deleted_key_is_held_replies : List Reply
deleted_key_is_held_replies =
    Done
    ∷ Changed 1
    ∷ Done
    ∷ Changed 1
    ∷ Refused (LockConflict 3)
    ∷ Changed 1
    ∷ []

deleted_key_is_held_told : replies_told (lines_by (key_is 1 ∷ []) deleted_key_is_held_lines) (start durable) ≡ deleted_key_is_held_replies
unfolding begun with_entry all_forced reversals forced_for line with_copies with_all_copies with_completion begin_checkpoint completed meant_by_create_table meant_by_drop_table meant_by_create_index meant_by_drop_index meant_by_create_bookmark meant_by_delete_bookmark meant_by_subscribe meant_by_unsubscribe meant_by_acknowledge backup_refusal meant_by_insert meant_by_update meant_by_delete meant_by_select catalog_of rows_of committed live in_use next_number holder other_holder holds_of first_entry before low due open_after big_endian
deleted_key_is_held_told = refl

deleted_key_is_held : replies deleted_key_is_held_lines (start durable) ≡ deleted_key_is_held_replies
deleted_key_is_held = replies-by (key_is 1 ∷ []) deleted_key_is_held_lines (start durable) (key_means 1, tt) ∙ deleted_key_is_held_told

-- Only the own session sees a row that isn't committed.
abbrev own_changes_are_seen_lines : List Line
own_changes_are_seen_lines =
    (1, create_kv)
    ∷ (1, pair 1 10)
    ∷ (1, Commit)
    ∷ (1, set_v 11)
    ∷ (2, Select (codes "kv") (Columns (codes "v" ∷ [])) None [])
    ∷ (1, Select (codes "kv") (Columns (codes "v" ∷ [])) None [])
    ∷ []

own_changes_are_seen : replies own_changes_are_seen_lines (start durable) ≡
    Done
    ∷ Changed 1
    ∷ Done
    ∷ Changed 1
    ∷ Rows (row_of (whole 10 ∷ []) ∷ [])
    ∷ Rows (row_of (whole 11 ∷ []) ∷ [])
    ∷ []
unfolding begun with_entry all_forced reversals forced_for line with_copies with_all_copies with_completion begin_checkpoint completed meant_by_create_table meant_by_drop_table meant_by_create_index meant_by_drop_index meant_by_create_bookmark meant_by_delete_bookmark meant_by_subscribe meant_by_unsubscribe meant_by_acknowledge backup_refusal meant_by_insert meant_by_update meant_by_delete meant_by_select truth has_columns has_kinds catalog_of rows_of committed live in_use next_number holder other_holder holds_of first_entry before low due open_after big_endian
own_changes_are_seen = refl

-- A table with a live change isn't dropped, and a session with one makes no table. A rollback writes the reversed change and an Abort.
abbrev rollback_writes_the_reverse_lines : List Line
rollback_writes_the_reverse_lines =
    (1, create_kv)
    ∷ (1, pair 1 10)
    ∷ (2, DropTable (codes "kv"))
    ∷ (1, CreateTable (codes "t") (column (codes "k") BigInt ∷ []) (codes "k" ∷ []))
    ∷ (1, Rollback)
    ∷ (1, Bookmark)
    ∷ []

rollback_writes_the_reverse : replies rollback_writes_the_reverse_lines (start usual) ≡
    Done
    ∷ Changed 1
    ∷ Refused (TransactionOpen 2)
    ∷ Refused InTransaction
    ∷ Done
    ∷ Positions (position 0 295) (position 0 0) (position 0 0)
    ∷ []
unfolding begun with_entry all_forced reversals forced_for line with_copies with_all_copies with_completion begin_checkpoint completed meant_by_create_table meant_by_drop_table meant_by_create_index meant_by_drop_index meant_by_create_bookmark meant_by_delete_bookmark meant_by_subscribe meant_by_unsubscribe meant_by_acknowledge backup_refusal meant_by_insert meant_by_update meant_by_delete meant_by_select truth has_columns has_kinds catalog_of rows_of committed live in_use next_number holder other_holder holds_of first_entry before low due open_after big_endian
rollback_writes_the_reverse = refl

-- ---- checkpoints

-- A checkpoint copies its pages while lines go on, and completes in the third round.
abbrev checkpoint_between_lines_lines : List Line
checkpoint_between_lines_lines =
    (1, create_kv) ∷ pairs 1 70 1 10
    ++ (1, Commit) ∷ (1, Ckpt) ∷ (1, set_v_of 70 0) ∷ (2, Select (codes "kv") (Sums (Count ∷ [])) (Some (is_number (codes "v") 0)) []) ∷ (2, Flush) ∷ (2, LogHolds) ∷ []

abbrev checkpoint_between_lines_replies : List Reply
checkpoint_between_lines_replies =
    Done
    ∷ Checkpoint 2 3
    ∷ Changed 1
    ∷ Rows (row_of (whole 0 ∷ []) ∷ [])
    ∷ Done
    ∷ Holds (held (OfCheckpoint 0) (position 0 0) ∷ held (OfCheckpoint 1) (position 0 3015) ∷ held (OfTransaction 3) (position 0 3015) ∷ [])
    ∷ []

checkpoint_between_lines_told : drop 71 (replies_told (lines_by (key_is 70 ∷ equals (codes "v") 0 ∷ []) checkpoint_between_lines_lines) (start one_page_a_round)) ≡ checkpoint_between_lines_replies
unfolding begun with_entry all_forced reversals forced_for line with_copies with_all_copies with_completion begin_checkpoint completed meant_by_create_table meant_by_drop_table meant_by_create_index meant_by_drop_index meant_by_create_bookmark meant_by_delete_bookmark meant_by_subscribe meant_by_unsubscribe meant_by_acknowledge backup_refusal meant_by_insert meant_by_update meant_by_delete meant_by_select catalog_of rows_of committed live in_use next_number holder other_holder holds_of first_entry before low due open_after big_endian
checkpoint_between_lines_told = refl

checkpoint_between_lines : drop 71 (replies checkpoint_between_lines_lines (start one_page_a_round)) ≡ checkpoint_between_lines_replies
checkpoint_between_lines = ap (λ (rs : List Reply). drop 71 rs) (replies-by (key_is 70 ∷ equals (codes "v") 0 ∷ []) checkpoint_between_lines_lines (start one_page_a_round) (key_means 70, (number_means (codes "v") 0, tt))) ∙ checkpoint_between_lines_told

-- That checkpoint has copied the last page behind the update, which was never committed. What it copied: the first page as it was
-- held before the update, the two others as they were held behind it.
abbrev copied_image : State → State → Cells
copied_image begun updated place = if nat_lt place 32 then current begun.found.cells begun.entries place else current updated.found.cells updated.entries place

-- What opening finds of it where the run stops: the image with the forced entries from its scan position on.
abbrev found_by_image : Cells → State → Opened
found_by_image image s =
    let entries = oldest s.forced (trail s) in
    record { cells = standing image (since (position 0 3015) entries); entries = entries; end = force_position s; next = next_number 1 entries; heads = s.heads }

abbrev opened_by_image : State → State → State → State
opened_by_image begun_at updated stopped = begun one_page_a_round (found_by_image (copied_image begun_at updated) stopped) stopped.files stopped.sets

abbrev last_row : List Line
last_row = (1, Select (codes "kv") (Columns (codes "v" ∷ [])) (Some (is_number (codes "k") 70)) []) ∷ []

abbrev last_row_told : List (ℕ × Told)
last_row_told = lines_by (key_is 70 ∷ []) last_row

abbrev run_told : ℕ → State
run_told n = after_told (lines_by (key_is 70 ∷ equals (codes "v") 0 ∷ []) (take n checkpoint_between_lines_lines)) (start one_page_a_round)

abbrev run_to : ℕ → State
run_to n = after (take n checkpoint_between_lines_lines) (start one_page_a_round)

image_holds_the_update : copied_image (run_told 73) (run_told 74) 72 ≡ Full 16 (pair_row 70 0)
unfolding begun with_entry all_forced reversals forced_for line with_copies with_all_copies with_completion begin_checkpoint completed meant_by_create_table meant_by_drop_table meant_by_create_index meant_by_drop_index meant_by_create_bookmark meant_by_delete_bookmark meant_by_subscribe meant_by_unsubscribe meant_by_acknowledge backup_refusal meant_by_insert meant_by_update meant_by_delete meant_by_select catalog_of rows_of committed live in_use next_number holder other_holder holds_of first_entry before low due open_after big_endian current
image_holds_the_update = refl

update_is_taken_back_told : replies_told last_row_told (opened_by_image (run_told 73) (run_told 74) (run_told 77)) ≡ Rows (row_of (whole 10 ∷ []) ∷ []) ∷ []
unfolding begun with_entry all_forced reversals forced_for line with_copies with_all_copies with_completion begin_checkpoint completed meant_by_create_table meant_by_drop_table meant_by_create_index meant_by_drop_index meant_by_create_bookmark meant_by_delete_bookmark meant_by_subscribe meant_by_unsubscribe meant_by_acknowledge backup_refusal meant_by_insert meant_by_update meant_by_delete meant_by_select catalog_of rows_of committed live in_use next_number holder other_holder holds_of first_entry before low due open_after big_endian standing current
update_is_taken_back_told = refl

same_run : (n : ℕ) → AreMeant (conds_in (take n checkpoint_between_lines_lines)) (key_is 70 ∷ equals (codes "v") 0 ∷ []) → run_to n ≡ run_told n
same_run n are = after-by (key_is 70 ∷ equals (codes "v") 0 ∷ []) (take n checkpoint_between_lines_lines) (start one_page_a_round) are

-- After the stop opening takes the update back.
update_is_taken_back : replies last_row (opened_by_image (run_to 73) (run_to 74) (run_to 77)) ≡ Rows (row_of (whole 10 ∷ []) ∷ []) ∷ []
update_is_taken_back =
    replies-by (key_is 70 ∷ []) last_row (opened_by_image (run_to 73) (run_to 74) (run_to 77)) (key_means 70, tt)
    ∙ (ap (λ (s : State). replies_told last_row_told (opened_by_image s (run_to 74) (run_to 77))) (same_run 73 tt)
    ∙ (ap (λ (s : State). replies_told last_row_told (opened_by_image (run_told 73) s (run_to 77))) (same_run 74 (key_means 70, tt))
    ∙ (ap (λ (s : State). replies_told last_row_told (opened_by_image (run_told 73) (run_told 74) s)) (same_run 77 (key_means 70, (number_means (codes "v") 0, tt)))
    ∙ update_is_taken_back_told)))

-- Blocking checkpoints write the two files in turn; after both have all pages, none is left to copy.
abbrev blocking_checkpoints_lines : List Line
blocking_checkpoints_lines =
    (1, create_kv)
    ∷ (1, pair 1 10)
    ∷ (1, Commit)
    ∷ (1, CkptBlocking)
    ∷ (1, LogHolds)
    ∷ (1, CkptBlocking)
    ∷ (1, CkptBlocking)
    ∷ []

blocking_checkpoints : replies blocking_checkpoints_lines (start durable) ≡
    Done
    ∷ Changed 1
    ∷ Done
    ∷ Checkpoint 2 1
    ∷ Holds (held (OfCheckpoint 0) (position 0 0) ∷ held (OfCheckpoint 1) (position 0 255) ∷ [])
    ∷ Checkpoint 3 1
    ∷ Checkpoint 4 0
    ∷ []
unfolding begun with_entry all_forced reversals forced_for line with_copies with_all_copies with_completion begin_checkpoint completed meant_by_create_table meant_by_drop_table meant_by_create_index meant_by_drop_index meant_by_create_bookmark meant_by_delete_bookmark meant_by_subscribe meant_by_unsubscribe meant_by_acknowledge backup_refusal meant_by_insert meant_by_update meant_by_delete meant_by_select truth has_columns has_kinds catalog_of rows_of committed live in_use next_number holder other_holder holds_of first_entry before low due open_after big_endian
blocking_checkpoints = refl

-- An open transaction holds the log over three files, and keeps a blocking checkpoint out.
abbrev holds_over_files_lines : List Line
holds_over_files_lines =
    (1, create_t) ∷ (1, text_row 1 1) ∷ text_rows 2 72 2 200
    ++ (2, Commit) ∷ (2, CkptBlocking) ∷ (2, Ckpt) ∷ (2, LogHolds) ∷ (2, Ckpt) ∷ (1, Commit) ∷ (1, CkptBlocking) ∷ (1, CkptBlocking) ∷ (1, LogHolds) ∷ []

holds_over_files : drop 74 (replies holds_over_files_lines (start small_files)) ≡
    Done
    ∷ Refused (TransactionOpen 2)
    ∷ Checkpoint 2 3
    ∷ Holds (held (OfCheckpoint 0) (position 0 0) ∷ held (OfCheckpoint 1) (position 0 205) ∷ held (OfTransaction 2) (position 0 205) ∷ [])
    ∷ Checkpoint 3 3
    ∷ Done
    ∷ Checkpoint 4 0
    ∷ Checkpoint 5 0
    ∷ Holds (held (OfCheckpoint 0) (position 2 954) ∷ held (OfCheckpoint 1) (position 2 954) ∷ [])
    ∷ []
unfolding begun with_entry all_forced reversals forced_for line with_copies with_all_copies with_completion begin_checkpoint completed meant_by_create_table meant_by_drop_table meant_by_create_index meant_by_drop_index meant_by_create_bookmark meant_by_delete_bookmark meant_by_subscribe meant_by_unsubscribe meant_by_acknowledge backup_refusal meant_by_insert meant_by_update meant_by_delete meant_by_select truth has_columns has_kinds catalog_of rows_of committed live in_use next_number holder other_holder holds_of first_entry before low due open_after big_endian
holds_over_files = refl

-- Before the last checkpoint of that run its three log files are there.
files_held : map (λ n. (after (take 81 holds_over_files_lines) (start small_files)).files n) (0 ∷ 1 ∷ 2 ∷ 3 ∷ []) ≡ true ∷ true ∷ true ∷ false ∷ []
unfolding begun with_entry all_forced reversals forced_for line with_copies with_all_copies with_completion begin_checkpoint completed meant_by_create_table meant_by_drop_table meant_by_create_index meant_by_drop_index meant_by_create_bookmark meant_by_delete_bookmark meant_by_subscribe meant_by_unsubscribe meant_by_acknowledge backup_refusal meant_by_insert meant_by_update meant_by_delete meant_by_select truth has_columns has_kinds catalog_of rows_of committed live in_use next_number holder other_holder holds_of first_entry before low due open_after big_endian
files_held = refl

-- Its completion removes those that nothing holds.
files_removed : map (λ n. (after (take 82 holds_over_files_lines) (start small_files)).files n) (0 ∷ 1 ∷ 2 ∷ 3 ∷ []) ≡ false ∷ false ∷ true ∷ false ∷ []
unfolding begun with_entry all_forced reversals forced_for line with_copies with_all_copies with_completion begin_checkpoint completed meant_by_create_table meant_by_drop_table meant_by_create_index meant_by_drop_index meant_by_create_bookmark meant_by_delete_bookmark meant_by_subscribe meant_by_unsubscribe meant_by_acknowledge backup_refusal meant_by_insert meant_by_update meant_by_delete meant_by_select truth has_columns has_kinds catalog_of rows_of committed live in_use next_number holder other_holder holds_of first_entry before low due open_after big_endian
files_removed = refl

-- ---- change readers

-- A reader is given what was logged before its place and committed after. A bookmark has one reader.
abbrev changes_before_the_bookmark_lines : List Line
changes_before_the_bookmark_lines =
    (1, create_kv)
    ∷ (1, pair 1 10)
    ∷ (2, XlaCreate (codes "bm"))
    ∷ (2, XlaSubscribe (codes "kv") (codes "bm"))
    ∷ (1, pair 2 20)
    ∷ (1, Commit)
    ∷ (2, Flush)
    ∷ (2, XlaOpen (codes "bm"))
    ∷ (2, XlaNext 10)
    ∷ (3, XlaOpen (codes "bm"))
    ∷ []

changes_before_the_bookmark : replies changes_before_the_bookmark_lines (start usual) ≡
    Done
    ∷ Changed 1
    ∷ Done
    ∷ Done
    ∷ Changed 1
    ∷ Done
    ∷ Done
    ∷ Done
    ∷ Updates (given true false 2 1 10 ∷ given false true 2 2 20 ∷ [])
    ∷ Refused (BookmarkBusy 2)
    ∷ []
unfolding begun with_entry all_forced reversals forced_for line with_copies with_all_copies with_completion begin_checkpoint completed meant_by_create_table meant_by_drop_table meant_by_create_index meant_by_drop_index meant_by_create_bookmark meant_by_delete_bookmark meant_by_subscribe meant_by_unsubscribe meant_by_acknowledge backup_refusal meant_by_insert meant_by_update meant_by_delete meant_by_select truth has_columns has_kinds catalog_of rows_of committed live in_use next_number holder other_holder holds_of first_entry before low due open_after big_endian
changes_before_the_bookmark = refl

-- A reader takes the first two of five changes, and acknowledges them.
abbrev read_in_part_lines : List Line
read_in_part_lines =
    (1, create_kv)
    ∷ (1, XlaCreate (codes "bm"))
    ∷ (1, XlaSubscribe (codes "kv") (codes "bm"))
    ∷ (1, pair 1 10)
    ∷ (1, pair 2 20)
    ∷ (1, pair 3 30)
    ∷ (1, pair 4 40)
    ∷ (1, pair 5 50)
    ∷ (1, Commit)
    ∷ (2, XlaOpen (codes "bm"))
    ∷ (2, XlaNext 2)
    ∷ (2, XlaAcknowledge)
    ∷ []

read_in_part : drop 9 (replies read_in_part_lines (start durable)) ≡
    Done
    ∷ Updates (given true false 4 1 10 ∷ given false false 4 2 20 ∷ [])
    ∷ Done
    ∷ []
unfolding begun with_entry all_forced reversals forced_for line with_copies with_all_copies with_completion begin_checkpoint completed meant_by_create_table meant_by_drop_table meant_by_create_index meant_by_drop_index meant_by_create_bookmark meant_by_delete_bookmark meant_by_subscribe meant_by_unsubscribe meant_by_acknowledge backup_refusal meant_by_insert meant_by_update meant_by_delete meant_by_select truth has_columns has_kinds catalog_of rows_of committed live in_use next_number holder other_holder holds_of first_entry before low due open_after big_endian
read_in_part = refl

-- After a stop it goes on behind them.
abbrev read_on_after_a_stop_lines : List Line
read_on_after_a_stop_lines =
    (2, XlaOpen (codes "bm"))
    ∷ (2, XlaNext 10)
    ∷ []

read_on_after_a_stop : replies read_on_after_a_stop_lines (again (after read_in_part_lines (start durable))) ≡
    Done
    ∷ Updates (given false false 4 3 30 ∷ given false false 4 4 40 ∷ given false true 4 5 50 ∷ [])
    ∷ []
unfolding begun with_entry all_forced reversals forced_for line with_copies with_all_copies with_completion begin_checkpoint completed meant_by_create_table meant_by_drop_table meant_by_create_index meant_by_drop_index meant_by_create_bookmark meant_by_delete_bookmark meant_by_subscribe meant_by_unsubscribe meant_by_acknowledge backup_refusal meant_by_insert meant_by_update meant_by_delete meant_by_select truth has_columns has_kinds catalog_of rows_of committed live in_use next_number holder other_holder holds_of first_entry before low due open_after big_endian standing
read_on_after_a_stop = refl

-- A reader is given nothing that isn't forced, and nothing without a subscription.
abbrev only_forced_commits_are_given_lines : List Line
only_forced_commits_are_given_lines =
    (1, create_kv)
    ∷ (1, pair 1 10)
    ∷ (2, XlaCreate (codes "bm"))
    ∷ (2, XlaSubscribe (codes "kv") (codes "bm"))
    ∷ (1, pair 2 20)
    ∷ (1, Commit)
    ∷ (2, XlaOpen (codes "bm"))
    ∷ (2, XlaNext 10)
    ∷ (2, Flush)
    ∷ (2, XlaNext 10)
    ∷ (2, XlaUnsubscribe (codes "kv") (codes "bm"))
    ∷ (1, pair 3 30)
    ∷ (1, Commit)
    ∷ (1, Flush)
    ∷ (2, XlaNext 10)
    ∷ []

only_forced_commits_are_given : drop 7 (replies only_forced_commits_are_given_lines (start usual)) ≡
    Updates []
    ∷ Done
    ∷ Updates (given true false 2 1 10 ∷ given false true 2 2 20 ∷ [])
    ∷ Done
    ∷ Changed 1
    ∷ Done
    ∷ Done
    ∷ Updates []
    ∷ []
unfolding begun with_entry all_forced reversals forced_for line with_copies with_all_copies with_completion begin_checkpoint completed meant_by_create_table meant_by_drop_table meant_by_create_index meant_by_drop_index meant_by_create_bookmark meant_by_delete_bookmark meant_by_subscribe meant_by_unsubscribe meant_by_acknowledge backup_refusal meant_by_insert meant_by_update meant_by_delete meant_by_select truth has_columns has_kinds catalog_of rows_of committed live in_use next_number holder other_holder holds_of first_entry before low due open_after big_endian
only_forced_commits_are_given = refl

-- ---- backups

-- A full backup and an incremental one, with the positions that they reach.
abbrev full_and_incremental_lines : List Line
full_and_incremental_lines =
    (1, create_kv)
    ∷ (1, pair 1 10)
    ∷ (1, Commit)
    ∷ (1, BackupLine 1 FullEnable)
    ∷ (1, pair 2 20)
    ∷ (1, Commit)
    ∷ (1, BackupLine 1 Incremental)
    ∷ []

full_and_incremental : replies full_and_incremental_lines (start usual) ≡
    Done
    ∷ Changed 1
    ∷ Done
    ∷ Backup 1 true (position 0 255)
    ∷ Changed 1
    ∷ Done
    ∷ Backup 1 false (position 0 362)
    ∷ []
unfolding begun with_entry all_forced reversals forced_for line with_copies with_all_copies with_completion begin_checkpoint completed meant_by_create_table meant_by_drop_table meant_by_create_index meant_by_drop_index meant_by_create_bookmark meant_by_delete_bookmark meant_by_subscribe meant_by_unsubscribe meant_by_acknowledge backup_refusal meant_by_insert meant_by_update meant_by_delete meant_by_select truth has_columns has_kinds catalog_of rows_of committed live in_use next_number holder other_holder holds_of first_entry before low due open_after big_endian
full_and_incremental = refl

-- The rows of kv that a set stands for, and those that restoring it leaves.
abbrev rows_in : Option SetStanding → List (List Row)
rows_in None = []
rows_in (Some Unreadable) = []
rows_in (Some (Readable set)) = map (λ r. r.1) (rows_of 16 32 (set_cells set)) ∷ map (λ r. r.1) (rows_of 16 32 (restored set 1).cells) ∷ []

-- The set has the first row after the full backup, and both after the incremental one.
rows_of_the_full_set : rows_in ((after (take 4 full_and_incremental_lines) (start usual)).sets 1) ≡ (pair_row 1 10 ∷ []) ∷ (pair_row 1 10 ∷ []) ∷ []
unfolding begun with_entry all_forced reversals forced_for line with_copies with_all_copies with_completion begin_checkpoint completed meant_by_create_table meant_by_drop_table meant_by_create_index meant_by_drop_index meant_by_create_bookmark meant_by_delete_bookmark meant_by_subscribe meant_by_unsubscribe meant_by_acknowledge backup_refusal meant_by_insert meant_by_update meant_by_delete meant_by_select truth has_columns has_kinds catalog_of rows_of committed live in_use next_number holder other_holder holds_of first_entry before low due open_after big_endian standing current
rows_of_the_full_set = refl

rows_of_the_extended_set : rows_in ((after full_and_incremental_lines (start usual)).sets 1) ≡ (pair_row 1 10 ∷ pair_row 2 20 ∷ []) ∷ (pair_row 1 10 ∷ pair_row 2 20 ∷ []) ∷ []
unfolding begun with_entry all_forced reversals forced_for line with_copies with_all_copies with_completion begin_checkpoint completed meant_by_create_table meant_by_drop_table meant_by_create_index meant_by_drop_index meant_by_create_bookmark meant_by_delete_bookmark meant_by_subscribe meant_by_unsubscribe meant_by_acknowledge backup_refusal meant_by_insert meant_by_update meant_by_delete meant_by_select truth has_columns has_kinds catalog_of rows_of committed live in_use next_number holder other_holder holds_of first_entry before low due open_after big_endian standing current
rows_of_the_extended_set = refl

-- ---- places and limits

-- A deleted row's place is in use until its transaction ends.
abbrev places_in_use_lines : List Line
places_in_use_lines =
    (1, create_kv) ∷ pairs 1 29 1 1
    ++ (1, Commit) ∷ (1, pair 30 1) ∷ (1, delete_of 1) ∷ (1, pair 30 1) ∷ (1, Commit) ∷ (1, pair 30 1) ∷ []

abbrev places_in_use_replies : List Reply
places_in_use_replies =
    Changed 1
    ∷ Done
    ∷ Refused (PermFull 32)
    ∷ Changed 1
    ∷ Refused (PermFull 32)
    ∷ Done
    ∷ Changed 1
    ∷ []

places_in_use_told : drop 29 (replies_told (lines_by (key_is 1 ∷ []) places_in_use_lines) (start one_page_filled)) ≡ places_in_use_replies
unfolding begun with_entry all_forced reversals forced_for line with_copies with_all_copies with_completion begin_checkpoint completed meant_by_create_table meant_by_drop_table meant_by_create_index meant_by_drop_index meant_by_create_bookmark meant_by_delete_bookmark meant_by_subscribe meant_by_unsubscribe meant_by_acknowledge backup_refusal meant_by_insert meant_by_update meant_by_delete meant_by_select catalog_of rows_of committed live in_use next_number holder other_holder holds_of first_entry before low due open_after big_endian
places_in_use_told = refl

places_in_use : drop 29 (replies places_in_use_lines (start one_page_filled)) ≡ places_in_use_replies
places_in_use = ap (λ (rs : List Reply). drop 29 rs) (replies-by (key_is 1 ∷ []) places_in_use_lines (start one_page_filled) (key_means 1, tt)) ∙ places_in_use_told

-- A database with more rows than it may now fill takes updates and no insert.
abbrev more_rows_than_pages_lines : List Line
more_rows_than_pages_lines =
    (1, set_v_of 40 2)
    ∷ (1, pair 50 1)
    ∷ []

abbrev forty_rows : State
forty_rows = again_with one_page_filled (after ((1, create_kv) ∷ pairs 1 40 1 1 ++ (1, Commit) ∷ (1, Flush) ∷ []) (start usual))

abbrev more_rows_than_pages_replies : List Reply
more_rows_than_pages_replies =
    Changed 1
    ∷ Refused (PermFull 32)
    ∷ []

more_rows_than_pages_told : replies_told (lines_by (key_is 40 ∷ []) more_rows_than_pages_lines) forty_rows ≡ more_rows_than_pages_replies
unfolding begun with_entry all_forced reversals forced_for line with_copies with_all_copies with_completion begin_checkpoint completed meant_by_create_table meant_by_drop_table meant_by_create_index meant_by_drop_index meant_by_create_bookmark meant_by_delete_bookmark meant_by_subscribe meant_by_unsubscribe meant_by_acknowledge backup_refusal meant_by_insert meant_by_update meant_by_delete meant_by_select catalog_of rows_of committed live in_use next_number holder other_holder holds_of first_entry before low due open_after big_endian standing
more_rows_than_pages_told = refl

more_rows_than_pages : replies more_rows_than_pages_lines forty_rows ≡ more_rows_than_pages_replies
more_rows_than_pages = replies-by (key_is 40 ∷ []) more_rows_than_pages_lines forty_rows (key_means 40, tt) ∙ more_rows_than_pages_told

-- A row has at most 240 bytes.
abbrev widths_lines : List Line
widths_lines =
    (1, CreateTable (codes "w") (column (codes "k") BigInt ∷ column (codes "a") (Varchar 200) ∷ column (codes "b") (Varchar 40) ∷ []) (codes "k" ∷ []))
    ∷ (1, Insert (codes "w") (whole 1 ∷ letters 200 ∷ letters 24 ∷ []))
    ∷ (1, Insert (codes "w") (whole 2 ∷ letters 200 ∷ letters 25 ∷ []))
    ∷ []

widths : replies widths_lines (start usual) ≡
    Done
    ∷ Changed 1
    ∷ Refused (TooWide 241)
    ∷ []
unfolding begun with_entry all_forced reversals forced_for line with_copies with_all_copies with_completion begin_checkpoint completed meant_by_create_table meant_by_drop_table meant_by_create_index meant_by_drop_index meant_by_create_bookmark meant_by_delete_bookmark meant_by_subscribe meant_by_unsubscribe meant_by_acknowledge backup_refusal meant_by_insert meant_by_update meant_by_delete meant_by_select truth has_columns has_kinds catalog_of rows_of committed live in_use next_number holder other_holder holds_of first_entry before low due open_after big_endian
widths = refl

-- A sum is taken exactly, and then tested.
abbrev sum_out_of_range_lines : List Line
sum_out_of_range_lines =
    (1, create_kv)
    ∷ (1, pair 1 9223372036854775807)
    ∷ (1, Select (codes "kv") (Sums (Sum (codes "v") ∷ [])) None [])
    ∷ (1, pair 2 1)
    ∷ (1, Select (codes "kv") (Sums (Sum (codes "v") ∷ [])) None [])
    ∷ []

sum_out_of_range : replies sum_out_of_range_lines (start usual) ≡
    Done
    ∷ Changed 1
    ∷ Rows (row_of (whole 9223372036854775807 ∷ []) ∷ [])
    ∷ Changed 1
    ∷ Refused OutOfRange
    ∷ []
unfolding begun with_entry all_forced reversals forced_for line with_copies with_all_copies with_completion begin_checkpoint completed meant_by_create_table meant_by_drop_table meant_by_create_index meant_by_drop_index meant_by_create_bookmark meant_by_delete_bookmark meant_by_subscribe meant_by_unsubscribe meant_by_acknowledge backup_refusal meant_by_insert meant_by_update meant_by_delete meant_by_select truth has_columns has_kinds catalog_of rows_of committed live in_use next_number holder other_holder holds_of first_entry before low due open_after big_endian
sum_out_of_range = refl

-- Refusals of tables and indexes.
abbrev tables_and_indexes_lines : List Line
tables_and_indexes_lines =
    (1, create_kv)
    ∷ (1, pair 1 10)
    ∷ (1, Commit)
    ∷ (1, pair 2 10)
    ∷ (1, Commit)
    ∷ (1, CreateIndex (codes "u") (codes "kv") (codes "v" ∷ []) true)
    ∷ (1, DropTable (codes "kv"))
    ∷ (1, DropIndex (codes "zz"))
    ∷ (1, Update (codes "kv") (record { column = codes "k"; source = Literal (whole 2) } ∷ []) None)
    ∷ []

tables_and_indexes : drop 5 (replies tables_and_indexes_lines (start durable)) ≡
    Refused DuplicateKey
    ∷ Refused NotEmpty
    ∷ Refused NoIndex
    ∷ Refused KeyUpdate
    ∷ []
unfolding begun with_entry all_forced reversals forced_for line with_copies with_all_copies with_completion begin_checkpoint completed meant_by_create_table meant_by_drop_table meant_by_create_index meant_by_drop_index meant_by_create_bookmark meant_by_delete_bookmark meant_by_subscribe meant_by_unsubscribe meant_by_acknowledge backup_refusal meant_by_insert meant_by_update meant_by_delete meant_by_select truth has_columns has_kinds catalog_of rows_of committed live in_use next_number holder other_holder holds_of first_entry before low due open_after big_endian
tables_and_indexes = refl

-- The last file of the log is full: there is no place for a Commit, and none for a rollback at the end.
abbrev last_file : State
last_file = begun (settings_of false 8192 1024 8) (record (left_by (trail (after ((1, create_kv) ∷ []) (start durable))) (start durable)) { end = position 999999 8151; heads = only_first (record (first_head 0 1) { scan = position 0 0 }) }) (λ n. true) (λ n. None)

log_out : replies ((1, pair 1 1) ∷ (1, Bookmark) ∷ (1, Commit) ∷ []) last_file ≡
    Changed 1
    ∷ Positions (position 999999 8192) (position 999999 8151) (position 0 0)
    ∷ Refused LogOut
    ∷ []
unfolding begun with_entry all_forced reversals forced_for line with_copies with_all_copies with_completion begin_checkpoint completed meant_by_create_table meant_by_drop_table meant_by_create_index meant_by_drop_index meant_by_create_bookmark meant_by_delete_bookmark meant_by_subscribe meant_by_unsubscribe meant_by_acknowledge backup_refusal meant_by_insert meant_by_update meant_by_delete meant_by_select truth has_columns has_kinds catalog_of rows_of committed live in_use next_number holder other_holder holds_of first_entry before low due open_after big_endian standing
log_out = refl

log_out_at_the_end : (ended (after ((1, pair 1 1) ∷ []) last_file)).0 ≡ false
unfolding begun with_entry all_forced reversals forced_for line with_copies with_all_copies with_completion begin_checkpoint completed meant_by_create_table meant_by_drop_table meant_by_create_index meant_by_drop_index meant_by_create_bookmark meant_by_delete_bookmark meant_by_subscribe meant_by_unsubscribe meant_by_acknowledge backup_refusal meant_by_insert meant_by_update meant_by_delete meant_by_select truth has_columns has_kinds catalog_of rows_of committed live in_use next_number holder other_holder holds_of first_entry before low due open_after big_endian standing ended
log_out_at_the_end = refl

-- ---- opening

-- After a stop a forced change that was never committed isn't there.
abbrev uncommitted_is_gone_lines : List Line
uncommitted_is_gone_lines =
    (1, all_kv)
    ∷ (1, pair 3 1)
    ∷ (1, Bookmark)
    ∷ []

uncommitted_is_gone : replies uncommitted_is_gone_lines (again (after ((1, create_kv) ∷ pairs 1 3 1 10 ++ (1, Commit) ∷ (1, set_v 0) ∷ (2, Flush) ∷ []) (start usual))) ≡
    Rows (pair_row 1 10 ∷ pair_row 2 10 ∷ pair_row 3 10 ∷ [])
    ∷ Refused DuplicateKey
    ∷ Positions (position 0 531) (position 0 530) (position 0 0)
    ∷ []
unfolding begun with_entry all_forced reversals forced_for line with_copies with_all_copies with_completion begin_checkpoint completed meant_by_create_table meant_by_drop_table meant_by_create_index meant_by_drop_index meant_by_create_bookmark meant_by_delete_bookmark meant_by_subscribe meant_by_unsubscribe meant_by_acknowledge backup_refusal meant_by_insert meant_by_update meant_by_delete meant_by_select truth has_columns has_kinds catalog_of rows_of committed live in_use next_number holder other_holder holds_of first_entry before low due open_after big_endian standing
uncommitted_is_gone = refl

-- The walk through two files, and its end; from the second one alone; and none where a file is absent.
abbrev in_files : ℕ → Option (List Entry)
in_files zero = Some (MarkEntry ∷ CommitEntry 1 ∷ SwitchEntry 1 ∷ [])
in_files (suc zero) = Some (CommitEntry 2 ∷ [])
in_files _ = None

two_files : log_of in_files 0 ≡ Some (record { at = position 1 0; entry = CommitEntry 2 } ∷ record { at = position 0 1; entry = CommitEntry 1 } ∷ record { at = position 0 0; entry = MarkEntry } ∷ [], position 1 9)
unfolding log_of big_endian
two_files = refl

one_file : log_of in_files 1 ≡ Some (record { at = position 1 0; entry = CommitEntry 2 } ∷ [], position 1 9)
unfolding log_of big_endian
one_file = refl

no_file : log_of in_files 2 ≡ None
unfolding log_of
no_file = refl

-- ---- values and conditions

abbrev kv : Table
kv = record { id = 16; name = codes "kv"; columns = record { name = codes "k"; kind = BigInt; required = true } ∷ column (codes "v") BigInt ∷ []; key = 0 ∷ [] }

abbrev is_five : Cond
is_five = roll-Cond (Compare (codes "v") Eq (OfLiteral (whole 5)))

-- Of Null `not v = 5` is Unknown, and the row isn't taken; of 7 it is.
null_not_five : takes (Some (roll-Cond (Not is_five))) kv (row_of (whole 1 ∷ Null ∷ [])) ≡ false
unfolding truth
null_not_five =
    ap (λ (f : Table → Row → Truth). is_yes (f kv (row_of (whole 1 ∷ Null ∷ [])))) (fold-roll-Cond (Table → Row → Truth) truth_at (Not is_five))
    ∙ ap (λ (f : Table → Row → Truth). is_yes (negated (f kv (row_of (whole 1 ∷ Null ∷ []))))) (fold-roll-Cond (Table → Row → Truth) truth_at (Compare (codes "v") Eq (OfLiteral (whole 5))))

seven_not_five : takes (Some (roll-Cond (Not is_five))) kv (pair_row 1 7) ≡ true
unfolding truth
seven_not_five =
    ap (λ (f : Table → Row → Truth). is_yes (f kv (pair_row 1 7))) (fold-roll-Cond (Table → Row → Truth) truth_at (Not is_five))
    ∙ ap (λ (f : Table → Row → Truth). is_yes (negated (f kv (pair_row 1 7)))) (fold-roll-Cond (Table → Row → Truth) truth_at (Compare (codes "v") Eq (OfLiteral (whole 5))))

-- So a select of the rows that aren't 5 leaves the Null out.
abbrev null_is_left_out_lines : List Line
null_is_left_out_lines =
    (1, create_kv)
    ∷ (1, Insert (codes "kv") (whole 1 ∷ Null ∷ []))
    ∷ (1, pair 2 7)
    ∷ (1, pair 3 5)
    ∷ (1, Select (codes "kv") (Columns (codes "k" ∷ [])) (Some (roll-Cond (Not is_five))) [])
    ∷ []

abbrev not_five : Meaning
not_five = negation (equals (codes "v") 5)

abbrev null_is_left_out_replies : List Reply
null_is_left_out_replies =
    Done
    ∷ Changed 1
    ∷ Changed 1
    ∷ Changed 1
    ∷ Rows (row_of (whole 2 ∷ []) ∷ [])
    ∷ []

null_is_left_out_told : replies_told (lines_by (not_five ∷ []) null_is_left_out_lines) (start usual) ≡ null_is_left_out_replies
unfolding begun with_entry all_forced reversals forced_for line with_copies with_all_copies with_completion begin_checkpoint completed meant_by_create_table meant_by_drop_table meant_by_create_index meant_by_drop_index meant_by_create_bookmark meant_by_delete_bookmark meant_by_subscribe meant_by_unsubscribe meant_by_acknowledge backup_refusal meant_by_insert meant_by_update meant_by_delete meant_by_select catalog_of rows_of committed live in_use next_number holder other_holder holds_of first_entry before low due open_after big_endian
null_is_left_out_told = refl

null_is_left_out : replies null_is_left_out_lines (start usual) ≡ null_is_left_out_replies
null_is_left_out = replies-by (not_five ∷ []) null_is_left_out_lines (start usual) (means-negation is_five ∙ ap negation (number_means (codes "v") 5), tt) ∙ null_is_left_out_told

-- Numbers of any scales compare exactly; a key orders equal numbers by scale, an Int before a Number, Null after all.
exact : compared (Number 1 (pos 25)) (Number 2 (pos 249)) ≡ Some (Some Greater)
exact = refl

level : compared (Int (pos 2)) (Number 2 (pos 200)) ≡ Some (Some Equal)
level = refl

by_scale : value_cmp (Int (pos 2)) (Number 0 (pos 2)) ≡ Less
by_scale = refl

null_last : value_cmp Null (Text (codes "z")) ≡ Greater
null_last = refl
