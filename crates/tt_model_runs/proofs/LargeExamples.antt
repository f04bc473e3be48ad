-- Runs with hundreds and thousands of rows. What their inserts leave is known by induction; the lines behind them are computed from it.
use Rattle.std.proofs.Common.{◌≡◌, ◌≤◌, ℕ, zero, suc, pos, Bool, true, false, cond, if◌then◌else◌, ◌&&◌, ◌||◌, nat_eq, nat_lt, nat_le, List, [], ◌∷◌, ◌++◌, replicate, Option, Some, None, refl, sym, ap, ◌∙◌, true≢false, arith}
use Rattle.std.proofs.lemmas.Bool.{and_right, le-ltb, le-leb, lt-leb}
use Rattle.std.specs.Ordering.{int_eq}
use Rattle.tt_value.specs.BigEndian.{big_endian}
use Rattle.tt_value.specs.declared.value.Cell.TheVariants.{Full}
use Rattle.tt_value.specs.declared.refusal.Refusal.{Refusal}
use Rattle.tt_value.specs.declared.refusal.Refusal.TheVariants.{TransactionOpen}
use Rattle.tt_value.specs.declared.reply.Reply.{Reply}
use Rattle.tt_value.specs.declared.reply.Reply.TheVariants.{Done, Changed, Checkpoint, Holds, Refused}
use Rattle.tt_value.specs.declared.reply.HoldKind.TheVariants.{Checkpoint as OfCheckpoint, Transaction as OfTransaction}
use Rattle.tt_parse.specs.declared.command.Command.TheVariants.{Commit, Ckpt, CkptBlocking, LogHolds}
use Rattle.tt_set.specs.declared.settings.Settings.{Settings}
use Rattle.tt_record.specs.Place.{position}
use Rattle.tt_record.specs.declared.entry.Entry.TheVariants.{Commit as CommitEntry}
use Rattle.tt_model.specs.Trail.{trail_end}
use Rattle.tt_model.specs.Committed.{Cells, put, is_full, committed}
use Rattle.tt_model.specs.Live.{live, without_number, in_use, next_number}
use Rattle.tt_model.specs.Holders.{has_held, other_holder}
use Rattle.tt_model.specs.Forced.{forced_for}
use Rattle.tt_model.specs.Tables.{rows_of, catalog_of}
use Rattle.tt_model.specs.Holds.{first_entry, low, holds_of}
use Rattle.tt_model.specs.Meaning.{meant_by_insert}
use Rattle.tt_model.specs.System.{meant_by_create_table}
use Rattle.tt_model.specs.Checkpoint.{with_copies, with_all_copies, with_completion, begin_checkpoint, completed}
use Rattle.tt_model.specs.State.{State, trail, live_in, low_now, write_position, at_one, with_entry, all_forced}
use Rattle.tt_model.specs.Step.{line, stepped, unless_refused, session_ended, end_length, completion_after}
use Rattle.tt_model.specs.Run.{begun, stale_at_start}
use Rattle.tt_model_runs.proofs.ConditionRuns.{Line, replies, after}
use Rattle.tt_model_runs.proofs.ExampleWords.{settings_of, small_files, start, create_kv, pair, pairs, pair_row, held}
use Rattle.tt_model_runs.proofs.InsertRuns.{Inserter, are_plain, place-none, int-differs, kv_cells, IsInserting, Filled, key_named, key-differs, differs, by_number, replies-append, after-append, counted_up, end_behind}
use Rattle.tt_model_runs.proofs.InsertedRows.{Written, put_in, put-in, RowsAreWritten, rows-written, blocking-alone, told-step, left-step, one_alone, low-none, low-one, bookmarks-none, sets-none}

-- ---- what the first rows leave, at any place and for any key

-- The first row of the first session, and that of the second one.
abbrev first_of_first : Cells
first_of_first = put 3 (Full 16 (pair_row 1 1)) kv_cells

abbrev first_of_second : Cells
first_of_second = put 4 (Full 16 (pair_row 2 1)) kv_cells

first_seen : (j q : ℕ) → 2 ≤ j → has_held (key_named j) (first_of_first q) ≡ false
first_seen j q l =
    by_number (λ x. has_held (key_named j) (first_of_first x) ≡ false) 4 (key-differs 1 j l, (refl, (refl, (refl, tt))))
    (λ x k. rw (differs x 3 (omega (arith, k)), differs x 2 (omega (arith, k)), differs x 1 (omega (arith, k)), differs x 0 (omega (arith, k))) refl) q

second_seen : (j q : ℕ) → 3 ≤ j → has_held (key_named j) (first_of_second q) ≡ false
second_seen j q l =
    by_number (λ x. has_held (key_named j) (first_of_second x) ≡ false) 5 (key-differs 2 j l, (refl, (refl, (refl, (refl, tt)))))
    (λ x k. rw (differs x 4 (omega (arith, k)), differs x 2 (omega (arith, k)), differs x 1 (omega (arith, k)), differs x 0 (omega (arith, k))) refl) q

first_used : (q : ℕ) → (is_full (kv_cells q) || (nat_eq q 3 || false || false)) ≡ nat_lt q 4
first_used =
    by_number (λ q. (is_full (kv_cells q) || (nat_eq q 3 || false || false)) ≡ nat_lt q 4) 4 (refl, (refl, (refl, (refl, tt))))
    (λ q k. rw (differs q 3 (omega (arith, k)), differs q 2 (omega (arith, k)), differs q 1 (omega (arith, k)), differs q 0 (omega (arith, k))) (sym (le-ltb q 4 k)))

second_used : (q : ℕ) → (is_full (kv_cells q) || ((nat_eq q 3 || false) || ((nat_eq q 4 || false) || false))) ≡ nat_lt q 5
second_used =
    by_number (λ q. (is_full (kv_cells q) || ((nat_eq q 3 || false) || ((nat_eq q 4 || false) || false))) ≡ nat_lt q 5) 5 (refl, (refl, (refl, (refl, (refl, tt)))))
    (λ q k. rw (differs q 4 (omega (arith, k)), differs q 3 (omega (arith, k)), differs q 2 (omega (arith, k)), differs q 1 (omega (arith, k)), differs q 0 (omega (arith, k))) (sym (le-ltb q 5 k)))

none_other : (x : Bool) → cond {A = Option ℕ} (x && false) (Some 2) None ≡ None
none_other true = refl
none_other false = refl

page_by : (page : ℕ) → nat_lt page 0 ≡ false → (c : Bool) → (if c then (nat_le 0 page && nat_lt page 0) else nat_lt page 0) ≡ false
page_by page h true = and_right (nat_le 0 page) (nat_lt page 0) h
page_by page h false = h

later_page : (file page : ℕ) → 1 ≤ page → stale_at_start 0 0 0 [] file page ≡ nat_lt page 1
later_page file page l = page_by page (le-ltb page 0 (omega arith)) (nat_eq file 0) ∙ sym (le-ltb page 1 l)

-- So many Changes in the first page.
abbrev named_by : ℕ → Bool → Bool → Bool
named_by zero here before = before
named_by (suc n) here before = here || named_by n here before

stale_by : (n file page : ℕ) → named_by (suc n) (nat_eq page 0) (stale_at_start 0 0 0 [] file page) ≡ nat_lt page 1
stale_by n file = by_number (λ page. named_by (suc n) (nat_eq page 0) (stale_at_start 0 0 0 [] file page) ≡ nat_lt page 1) 1 (refl, tt)
    (λ page l. unnamed (suc n) (nat_eq page 0) (stale_at_start 0 0 0 [] file page) (differs page 0 l) ∙ later_page file page l)
  where
    unnamed : (m : ℕ) (here before : Bool) → here ≡ false → named_by m here before ≡ before
    unnamed zero here before h = refl
    unnamed (suc m) here before h = ap (λ b. b || named_by m here before) h ∙ unnamed m here before h

-- So many entries in the first file.
abbrev filed_by : ℕ → Bool → Bool
filed_by zero here = here
filed_by (suc n) here = if here then true else filed_by n here

files_by : (n file : ℕ) → filed_by n (nat_eq file 0) ≡ nat_le file 0
files_by n file = same n (nat_eq file 0) ∙ by_number (λ x. nat_eq x 0 ≡ nat_le x 0) 1 (refl, tt) (λ x l. differs x 0 l ∙ sym (lt-leb x 0 l)) file
  where
    same : (m : ℕ) (here : Bool) → filed_by m here ≡ here
    same zero here = refl
    same (suc m) true = refl
    same (suc m) false = same m false

-- ---- three hundred rows

abbrev eight_a_round : Settings
eight_a_round = settings_of false 8192 1024 8

abbrev first_row_lines : List Line
first_row_lines = (1, create_kv) ∷ (1, pair 1 1) ∷ []

abbrev one_row : State
one_row = after first_row_lines (start eight_a_round)

abbrev only_session : Inserter
only_session = record { session = 1; number = 2; own = at_one 1 (Some 2) (λ session. None); live = 2 ∷ []; settings = eight_a_round }

only_session_inserts : IsInserting only_session
only_session_inserts = record { own = refl; live = refl; among = refl }

one_row_told : replies first_row_lines (start eight_a_round) ≡ Done ∷ Changed 1 ∷ []
unfolding begun with_entry forced_for line with_copies with_completion meant_by_create_table meant_by_insert catalog_of rows_of committed live in_use next_number other_holder big_endian
one_row_told = refl

one_row_free : (j : ℕ) → 2 ≤ j → other_holder (Some 2) (key_named j) (trail one_row) ≡ None
unfolding begun with_entry forced_for line with_copies with_completion meant_by_create_table meant_by_insert catalog_of rows_of committed live in_use next_number other_holder big_endian
one_row_free j l = none_other (int_eq (pos 1) (pos j) && true || false)

one_row_stale : (file page : ℕ) → one_row.stale file page ≡ nat_lt page 1
unfolding begun with_entry forced_for line with_copies with_completion meant_by_create_table meant_by_insert catalog_of rows_of committed live in_use next_number other_holder big_endian
one_row_stale = stale_by 3

one_row_files : (n : ℕ) → one_row.files n ≡ nat_le n 0
unfolding begun with_entry forced_for line with_copies with_completion meant_by_create_table meant_by_insert catalog_of rows_of committed live in_use next_number other_holder big_endian
one_row_files = files_by 6

one_row_filled : Filled only_session 4 2 (position 0 246) one_row
unfolding begun with_entry forced_for line with_copies with_completion meant_by_create_table meant_by_insert catalog_of rows_of committed live in_use next_number other_holder big_endian first_entry
one_row_filled = record {
  settings = refl;
  found = refl;
  own = λ session. refl;
  wish = λ session. refl;
  heads = refl;
  newest = refl;
  database = refl;
  underway = refl;
  cells = refl;
  live = refl;
  free = one_row_free;
  seen = λ q j l. first_seen j q l;
  used = first_used;
  some = omega arith;
  least = omega arith;
  most = omega arith;
  stale = one_row_stale;
  files = one_row_files;
  end = refl;
  first = refl;
  plain = refl;
}

-- Nobody has a transaction behind its commit.
abbrev none_own : ℕ → Option ℕ
none_own = at_one 1 None (at_one 1 (Some 2) (λ session. None))

abbrev checkpoint_lines : List Line
checkpoint_lines = (1, CkptBlocking) ∷ (1, CkptBlocking) ∷ (1, LogHolds) ∷ []

module _ (s : State) (h : Written eight_a_round none_own [] 10 (position 1 4049) s) where
  committed_state : State
  committed_state = put_in eight_a_round none_own 10 (position 1 4049) s

  is_committed_state : s ≡ committed_state
  unfolding committed_state
  is_committed_state = put-in eight_a_round none_own [] 10 (position 1 4049) s h

  none_live : live (s.entries ++ []) ≡ []
  unfolding committed_state
  none_live = ap live_in (sym is_committed_state) ∙ h.live

  log_end : trail_end (position 0 0) s.entries ≡ position 1 4049
  unfolding committed_state
  log_end = ap write_position (sym is_committed_state) ∙ h.end

  log_low : low (trail_end (position 0 0) s.entries) (s.entries ++ []) ≡ position 1 4049
  log_low = low-none s.entries (position 1 4049) log_end none_live

  checkpoints_told : replies checkpoint_lines committed_state ≡
      Checkpoint 2 10
      ∷ Checkpoint 3 10
      ∷ Holds (held (OfCheckpoint 0) (position 1 4049) ∷ held (OfCheckpoint 1) (position 1 4049) ∷ [])
      ∷ []
  unfolding committed_state line with_copies with_all_copies with_completion begin_checkpoint completed all_forced holds_of
  checkpoints_told = rw (none_live, none_live, none_live, log_low, sets-none 320 s.entries h.plain, bookmarks-none 320 s.entries h.plain) refl

  -- Files 0 and 1 are kept by the first one, and file 1 alone by the second.
  first_checkpoint_files : (n : ℕ) → (after ((1, CkptBlocking) ∷ []) committed_state).files n ≡ nat_le n 1
  unfolding committed_state line with_copies with_all_copies with_completion begin_checkpoint completed all_forced holds_of
  first_checkpoint_files n =
      rw (none_live, none_live, log_low, sets-none 320 s.entries h.plain, bookmarks-none 320 s.entries h.plain, log_end) (ap (λ b. b && nat_le n 1) (le-leb 0 n (omega arith)))

  second_checkpoint_files : (n : ℕ) → (after ((1, CkptBlocking) ∷ (1, CkptBlocking) ∷ []) committed_state).files n ≡ nat_eq n 1
  unfolding committed_state line with_copies with_all_copies with_completion begin_checkpoint completed all_forced holds_of
  second_checkpoint_files n =
      rw (none_live, none_live, none_live, log_low, sets-none 320 s.entries h.plain, bookmarks-none 320 s.entries h.plain, log_end) (one_alone 1 n)

-- A table, three hundred rows in it, their commit, and lines behind that. It doesn't unfold by itself: so a statement that names it is
-- read without computing its lines.
three_hundred_rows_and : List Line → List Line
three_hundred_rows_and rest = (1, create_kv) ∷ pairs 1 300 1 1 ++ (1, Commit) ∷ rest

rows_after_first : ℕ → List Line → List Line
rows_after_first n rest = pairs 1 n 2 1 ++ (1, Commit) ∷ rest

first_and_more : (n : ℕ) → n ≡ 299 → (rest : List Line) → three_hundred_rows_and rest ≡ first_row_lines ++ rows_after_first n rest
unfolding three_hundred_rows_and rows_after_first
first_and_more n e rest = ap (λ m. first_row_lines ++ (pairs 1 m 2 1 ++ (1, Commit) ∷ rest)) (sym e)

three_hundred_changed : (n : ℕ) → n ≡ 299 → (rest : List Reply) → Done ∷ Changed 1 ∷ replicate n (Changed 1) ++ rest ≡ Done ∷ replicate 300 (Changed 1) ++ rest
three_hundred_changed n e rest = ap (λ m. Done ∷ Changed 1 ∷ replicate m (Changed 1) ++ rest) e

three_hundred_written : (n : ℕ) → n ≡ 299 → RowsAreWritten only_session n 2 10 (position 1 4049) one_row
three_hundred_written n e =
    rows-written only_session only_session_inserts refl n 4 2 303 10 (position 0 246) (position 1 4040) one_row one_row_filled (omega (arith, e)) (omega (arith, e)) (omega (arith, e))
    (ap (λ m. counted_up m 4) e) (omega arith) (omega arith) (ap (λ m. end_behind only_session m (position 0 246)) e) (omega arith)

module _ (n : ℕ) (e : n ≡ 299) where
  rows : RowsAreWritten only_session n 2 10 (position 1 4049) one_row
  rows = three_hundred_written n e

  rows_told : (rest : List Line) → replies (three_hundred_rows_and rest) (start eight_a_round) ≡ Done ∷ replicate 300 (Changed 1) ++ Done ∷ replies rest rows.state
  unfolding rows_after_first
  rows_told rest =
      ap (λ (ls : List Line). replies ls (start eight_a_round)) (first_and_more n e rest)
      ∙ (replies-append first_row_lines (rows_after_first n rest) (start eight_a_round)
      ∙ (ap (λ (rs : List Reply). rs ++ replies (rows_after_first n rest) one_row) one_row_told
      ∙ (ap (λ (rs : List Reply). Done ∷ Changed 1 ∷ rs) (rows.told rest)
      ∙ three_hundred_changed n e (Done ∷ replies rest rows.state))))

  rows_left : (rest : List Line) → after (three_hundred_rows_and rest) (start eight_a_round) ≡ after rest rows.state
  unfolding rows_after_first
  rows_left rest =
      ap (λ (ls : List Line). after ls (start eight_a_round)) (first_and_more n e rest)
      ∙ (after-append first_row_lines (rows_after_first n rest) (start eight_a_round) ∙ rows.left rest)

  rows_state : rows.state ≡ committed_state rows.state rows.written
  rows_state = is_committed_state rows.state rows.written

  all_told : replies (three_hundred_rows_and checkpoint_lines) (start eight_a_round) ≡
      Done
      ∷ replicate 300 (Changed 1)
      ++ Done
      ∷ Checkpoint 2 10
      ∷ Checkpoint 3 10
      ∷ Holds (held (OfCheckpoint 0) (position 1 4049) ∷ held (OfCheckpoint 1) (position 1 4049) ∷ [])
      ∷ []
  all_told =
      rows_told checkpoint_lines
      ∙ ap (λ (rs : List Reply). Done ∷ replicate 300 (Changed 1) ++ Done ∷ rs) (ap (replies checkpoint_lines) rows_state ∙ checkpoints_told rows.state rows.written)

  files_first : (file : ℕ) → (after (three_hundred_rows_and ((1, CkptBlocking) ∷ [])) (start eight_a_round)).files file ≡ nat_le file 1
  files_first file =
      ap (λ (x : State). x.files file) (rows_left ((1, CkptBlocking) ∷ []) ∙ ap (after ((1, CkptBlocking) ∷ [])) rows_state)
      ∙ first_checkpoint_files rows.state rows.written file

  files_second : (file : ℕ) → (after (three_hundred_rows_and ((1, CkptBlocking) ∷ (1, CkptBlocking) ∷ [])) (start eight_a_round)).files file ≡ nat_eq file 1
  files_second file =
      ap (λ (x : State). x.files file) (rows_left ((1, CkptBlocking) ∷ (1, CkptBlocking) ∷ []) ∙ ap (after ((1, CkptBlocking) ∷ (1, CkptBlocking) ∷ [])) rows_state)
      ∙ second_checkpoint_files rows.state rows.written file

-- Each of two blocking checkpoints copies all pages, since either file has none of them before. The log is then read from its end on.
both_checkpoints_copy_all_pages : replies (three_hundred_rows_and checkpoint_lines) (start eight_a_round) ≡
    Done
    ∷ replicate 300 (Changed 1)
    ++ Done
    ∷ Checkpoint 2 10
    ∷ Checkpoint 3 10
    ∷ Holds (held (OfCheckpoint 0) (position 1 4049) ∷ held (OfCheckpoint 1) (position 1 4049) ∷ [])
    ∷ []
both_checkpoints_copy_all_pages = all_told 299 refl

-- Log files 0 and 1 are there behind the first, and log file 1 alone behind the second.
first_checkpoint_keeps_both_files : (file : ℕ) → (after (three_hundred_rows_and ((1, CkptBlocking) ∷ [])) (start eight_a_round)).files file ≡ nat_le file 1
first_checkpoint_keeps_both_files = files_first 299 refl

second_checkpoint_keeps_the_last_file : (file : ℕ) → (after (three_hundred_rows_and ((1, CkptBlocking) ∷ (1, CkptBlocking) ∷ [])) (start eight_a_round)).files file ≡ nat_eq file 1
second_checkpoint_keeps_the_last_file = files_second 299 refl

-- ---- two thousand rows

abbrev two_rows_lines : List Line
two_rows_lines = (1, create_kv) ∷ (1, pair 1 1) ∷ (2, pair 2 1) ∷ []

abbrev two_rows : State
two_rows = after two_rows_lines (start small_files)

abbrev second_session : Inserter
second_session = record { session = 2; number = 3; own = at_one 2 (Some 3) (at_one 1 (Some 2) (λ session. None)); live = 2 ∷ 3 ∷ []; settings = small_files }

second_session_inserts : IsInserting second_session
second_session_inserts = record { own = refl; live = refl; among = refl }

two_rows_told : replies two_rows_lines (start small_files) ≡ Done ∷ Changed 1 ∷ Changed 1 ∷ []
unfolding begun with_entry forced_for line with_copies with_completion meant_by_create_table meant_by_insert catalog_of rows_of committed live in_use next_number other_holder big_endian
two_rows_told = refl

two_others : (x y : Bool) → x ≡ false → cond {A = Option ℕ} (x && true) (Some 2) (cond (y && false) (Some 3) None) ≡ None
two_others true y h = absurd (true≢false h)
two_others false true h = refl
two_others false false h = refl

two_rows_free : (j : ℕ) → 3 ≤ j → other_holder (Some 3) (key_named j) (trail two_rows) ≡ None
unfolding begun with_entry forced_for line with_copies with_completion meant_by_create_table meant_by_insert catalog_of rows_of committed live in_use next_number other_holder big_endian
two_rows_free j l = two_others (int_eq (pos 1) (pos j) && true || false) (int_eq (pos 2) (pos j) && true || false) (ap (λ b. b && true || false) (int-differs 1 j (omega (arith, l))))

two_rows_stale : (file page : ℕ) → two_rows.stale file page ≡ nat_lt page 1
unfolding begun with_entry forced_for line with_copies with_completion meant_by_create_table meant_by_insert catalog_of rows_of committed live in_use next_number other_holder big_endian
two_rows_stale = stale_by 4

two_rows_files : (n : ℕ) → two_rows.files n ≡ nat_le n 0
unfolding begun with_entry forced_for line with_copies with_completion meant_by_create_table meant_by_insert catalog_of rows_of committed live in_use next_number other_holder big_endian
two_rows_files = files_by 7

two_rows_filled : Filled second_session 5 3 (position 0 286) two_rows
unfolding begun with_entry forced_for line with_copies with_completion meant_by_create_table meant_by_insert catalog_of rows_of committed live in_use next_number other_holder big_endian first_entry
two_rows_filled = record {
  settings = refl;
  found = refl;
  own = λ session. refl;
  wish = λ session. refl;
  heads = refl;
  newest = refl;
  database = refl;
  underway = refl;
  cells = refl;
  live = refl;
  free = two_rows_free;
  seen = λ q j l. second_seen j q l;
  used = second_used;
  some = omega arith;
  least = omega arith;
  most = omega arith;
  stale = two_rows_stale;
  files = two_rows_files;
  end = refl;
  first = refl;
  plain = refl;
}

-- The first session alone has a transaction behind the commit of the second one.
abbrev first_own : ℕ → Option ℕ
first_own = at_one 2 None second_session.own

-- Checkpoints while the first session's transaction is live, and its commit.
abbrev held_lines : List Line
held_lines = (2, CkptBlocking) ∷ (2, Ckpt) ∷ (2, LogHolds) ∷ (2, Ckpt) ∷ (1, Commit) ∷ []

abbrev held_replies : List Reply
held_replies =
    Refused (TransactionOpen 2)
    ∷ Checkpoint 2 63
    ∷ Holds (held (OfCheckpoint 0) (position 0 0) ∷ held (OfCheckpoint 1) (position 0 206) ∷ held (OfTransaction 2) (position 0 206) ∷ [])
    ∷ Checkpoint 3 63
    ∷ Done
    ∷ []

-- Checkpoints of which nothing is to be copied.
abbrev free_lines : List Line
free_lines = (1, CkptBlocking) ∷ (1, CkptBlocking) ∷ (1, LogHolds) ∷ []

abbrev free_replies : List Reply
free_replies =
    Checkpoint 4 0
    ∷ Checkpoint 5 0
    ∷ Holds (held (OfCheckpoint 0) (position 9 6818) ∷ held (OfCheckpoint 1) (position 9 6818) ∷ [])
    ∷ []

module _ (s : State) (h : Written small_files first_own (2 ∷ []) 63 (position 9 6809) s) where
  state_before : State
  state_before = put_in small_files first_own 63 (position 9 6809) s

  is_state_before : s ≡ state_before
  unfolding state_before
  is_state_before = put-in small_files first_own (2 ∷ []) 63 (position 9 6809) s h

  -- with the first transaction live
  live_before : live (s.entries ++ []) ≡ 2 ∷ []
  unfolding state_before
  live_before = ap live_in (sym is_state_before) ∙ h.live

  first_before : first_entry 2 (s.entries ++ []) ≡ Some (position 0 206)
  unfolding state_before
  first_before = ap (λ (x : State). first_entry 2 (trail x)) (sym is_state_before) ∙ h.first

  end_before : trail_end (position 0 0) s.entries ≡ position 9 6809
  unfolding state_before
  end_before = ap write_position (sym is_state_before) ∙ h.end

  low_before : low (trail_end (position 0 0) s.entries) (s.entries ++ []) ≡ position 0 206
  low_before = low-one 2 s.entries (position 9 6809) (position 0 206) end_before live_before first_before

  -- A blocking checkpoint is refused.
  refused_told : stepped 2 CkptBlocking state_before ≡ (Refused (TransactionOpen 2), state_before)
  unfolding state_before line with_copies
  refused_told = rw live_before refl

  -- The first checkpoint begins, and is completed behind the next line.
  begun_first : State
  begun_first = begin_checkpoint state_before

  ended_first : State
  ended_first = with_completion (with_copies begun_first)

  first_begins : stepped 2 Ckpt state_before ≡ (Checkpoint 2 63, begun_first)
  unfolding state_before line with_copies begun_first
  first_begins = refl

  first_holds : (stepped 2 LogHolds begun_first).0 ≡
      Holds (held (OfCheckpoint 0) (position 0 0) ∷ held (OfCheckpoint 1) (position 0 206) ∷ held (OfTransaction 2) (position 0 206) ∷ [])
  unfolding state_before line with_copies begin_checkpoint begun_first holds_of
  first_holds = rw (low_before, sets-none 2016 s.entries h.plain, bookmarks-none 2016 s.entries h.plain, live_before, first_before) refl

  first_ends : (stepped 2 LogHolds begun_first).1 ≡ ended_first
  unfolding state_before line begin_checkpoint begun_first ended_first
  first_ends = refl

  -- So does the second one, and is completed behind the first transaction's commit.
  begun_second : State
  begun_second = begin_checkpoint ended_first

  ended_second : State
  ended_second = with_completion (session_ended 1 (with_entry (CommitEntry 2) (with_copies begun_second)))

  second_begins : stepped 2 Ckpt ended_first ≡ (Checkpoint 3 63, begun_second)
  unfolding state_before line with_copies begin_checkpoint begun_first with_completion completed all_forced ended_first begun_second
  second_begins = refl

  second_end : write_position (with_copies begun_second) ≡ position 9 6809
  unfolding state_before with_copies begin_checkpoint begun_first with_completion completed all_forced ended_first begun_second
  second_end = end_before

  second_ends : stepped 1 Commit begun_second ≡ (Done, ended_second)
  unfolding state_before line with_copies begin_checkpoint begun_first with_completion completed all_forced ended_first begun_second ended_second
  second_ends =
      let mid : State = with_copies begun_second in
      ap (λ (o : Option Refusal).
      ((unless_refused o (Done, session_ended 1 (with_entry (CommitEntry 2) mid)) mid).0, completion_after begun_second.underway ((unless_refused o (Done, session_ended 1 (with_entry (CommitEntry 2) mid)) mid).1)))
      (place-none end_length mid (position 9 6809) second_end (omega arith))

  -- with no transaction live
  end_ended : write_position ended_second ≡ position 9 6818
  unfolding state_before with_copies begin_checkpoint begun_first with_completion completed all_forced ended_first begun_second ended_second with_entry big_endian
  end_ended = rw end_before refl

  live_ended : live_in ended_second ≡ []
  unfolding state_before with_copies begin_checkpoint begun_first with_completion completed all_forced ended_first begun_second ended_second with_entry live
  live_ended = ap (without_number 2) live_before

  plain_ended : are_plain ended_second.entries ≡ true
  unfolding state_before with_copies begin_checkpoint begun_first with_completion completed all_forced ended_first begun_second ended_second with_entry
  plain_ended = h.plain

  low_ended : low_now ended_second ≡ position 9 6818
  unfolding state_before with_copies begin_checkpoint begun_first with_completion completed all_forced ended_first begun_second ended_second with_entry
  low_ended = low-none ended_second.entries (position 9 6818) end_ended live_ended

  -- Files 0 to 9 are there, since both checkpoints hold the log from the first transaction's first entry on.
  held_files : (n : ℕ) → ended_second.files n ≡ nat_le n 9
  unfolding state_before with_copies begin_checkpoint begun_first with_completion completed all_forced ended_first begun_second ended_second with_entry big_endian holds_of
  held_files n =
      rw (low_before, sets-none 2016 ended_second.entries plain_ended, bookmarks-none 2016 ended_second.entries plain_ended, live_ended, end_before)
      (ap (λ b. b && nat_le n 9) (le-leb 0 n (omega arith)))

  -- Two blocking checkpoints.
  behind_third : State
  behind_third = with_completion (with_all_copies (begin_checkpoint ended_second))

  behind_fourth : State
  behind_fourth = with_completion (with_all_copies (begin_checkpoint behind_third))

  third_told : stepped 1 CkptBlocking ended_second ≡ (Checkpoint 4 0, behind_third)
  unfolding state_before with_copies begin_checkpoint begun_first with_completion completed all_forced ended_first begun_second ended_second with_entry line with_all_copies behind_third
  third_told = blocking-alone 1 ended_second refl live_ended refl

  fourth_told : stepped 1 CkptBlocking behind_third ≡ (Checkpoint 5 0, behind_fourth)
  unfolding state_before with_copies begin_checkpoint begun_first with_completion completed all_forced ended_first begun_second ended_second with_entry line with_all_copies behind_third behind_fourth
  fourth_told = blocking-alone 1 behind_third refl live_ended refl

  last_holds : (stepped 1 LogHolds behind_fourth).0 ≡ Holds (held (OfCheckpoint 0) (position 9 6818) ∷ held (OfCheckpoint 1) (position 9 6818) ∷ [])
  unfolding state_before with_copies begin_checkpoint begun_first with_completion completed all_forced ended_first begun_second ended_second with_entry line with_all_copies behind_third behind_fourth holds_of
  last_holds = rw (low_ended, sets-none 2016 ended_second.entries plain_ended, bookmarks-none 2016 ended_second.entries plain_ended, live_ended) refl

  last_files : (n : ℕ) → behind_fourth.files n ≡ nat_eq n 9
  unfolding state_before with_copies begin_checkpoint begun_first with_completion completed all_forced ended_first begun_second ended_second with_entry with_all_copies behind_third behind_fourth holds_of big_endian
  last_files n =
      rw (low_ended, sets-none 2016 ended_second.entries plain_ended, bookmarks-none 2016 ended_second.entries plain_ended, live_ended, end_before) (one_alone 9 n)

  -- all these lines
  held_and_told : (rest : List Line) → replies (held_lines ++ rest) state_before ≡ held_replies ++ replies rest ended_second
  held_and_told rest =
      told-step (2, CkptBlocking) ((2, Ckpt) ∷ (2, LogHolds) ∷ (2, Ckpt) ∷ (1, Commit) ∷ rest) state_before state_before (Refused (TransactionOpen 2)) _ refused_told
      (told-step (2, Ckpt) ((2, LogHolds) ∷ (2, Ckpt) ∷ (1, Commit) ∷ rest) state_before begun_first (Checkpoint 2 63) _ first_begins
      (told-step (2, LogHolds) ((2, Ckpt) ∷ (1, Commit) ∷ rest) begun_first ended_first
      (Holds (held (OfCheckpoint 0) (position 0 0) ∷ held (OfCheckpoint 1) (position 0 206) ∷ held (OfTransaction 2) (position 0 206) ∷ [])) _ (λ i. (first_holds i, first_ends i))
      (told-step (2, Ckpt) ((1, Commit) ∷ rest) ended_first begun_second (Checkpoint 3 63) _ second_begins
      (told-step (1, Commit) rest begun_second ended_second Done (replies rest ended_second) second_ends refl))))

  held_left : after held_lines state_before ≡ ended_second
  held_left =
      left-step (2, CkptBlocking) ((2, Ckpt) ∷ (2, LogHolds) ∷ (2, Ckpt) ∷ (1, Commit) ∷ []) state_before (Refused (TransactionOpen 2), state_before) refused_told
      ∙ (left-step (2, Ckpt) ((2, LogHolds) ∷ (2, Ckpt) ∷ (1, Commit) ∷ []) state_before (Checkpoint 2 63, begun_first) first_begins
      ∙ (ap (after ((2, Ckpt) ∷ (1, Commit) ∷ [])) first_ends
      ∙ (left-step (2, Ckpt) ((1, Commit) ∷ []) ended_first (Checkpoint 3 63, begun_second) second_begins
      ∙ left-step (1, Commit) [] begun_second (Done, ended_second) second_ends)))

  free_told : replies free_lines ended_second ≡ free_replies
  free_told =
      told-step (1, CkptBlocking) ((1, CkptBlocking) ∷ (1, LogHolds) ∷ []) ended_second behind_third (Checkpoint 4 0) _ third_told
      (told-step (1, CkptBlocking) ((1, LogHolds) ∷ []) behind_third behind_fourth (Checkpoint 5 0) _ fourth_told (ap (λ (r : Reply). r ∷ []) last_holds))

  free_left : after ((1, CkptBlocking) ∷ (1, CkptBlocking) ∷ []) ended_second ≡ behind_fourth
  free_left =
      left-step (1, CkptBlocking) ((1, CkptBlocking) ∷ []) ended_second (Checkpoint 4 0, behind_third) third_told
      ∙ left-step (1, CkptBlocking) [] behind_third (Checkpoint 5 0, behind_fourth) fourth_told

-- A table, a row of the first session, two thousand of the second, its commit, and lines behind that.
two_thousand_rows_and : List Line → List Line
two_thousand_rows_and rest = (1, create_kv) ∷ (1, pair 1 1) ∷ pairs 2 2000 2 1 ++ (2, Commit) ∷ rest

rows_after_two : ℕ → List Line → List Line
rows_after_two n rest = pairs 2 n 3 1 ++ (2, Commit) ∷ rest

two_and_more : (n : ℕ) → n ≡ 1999 → (rest : List Line) → two_thousand_rows_and rest ≡ two_rows_lines ++ rows_after_two n rest
unfolding two_thousand_rows_and rows_after_two
two_and_more n e rest = ap (λ m. two_rows_lines ++ (pairs 2 m 3 1 ++ (2, Commit) ∷ rest)) (sym e)

two_thousand_changed : (n : ℕ) → n ≡ 1999 → (rest : List Reply) → Done ∷ Changed 1 ∷ Changed 1 ∷ replicate n (Changed 1) ++ rest ≡ Done ∷ Changed 1 ∷ replicate 2000 (Changed 1) ++ rest
two_thousand_changed n e rest = ap (λ m. Done ∷ Changed 1 ∷ Changed 1 ∷ replicate m (Changed 1) ++ rest) e

two_thousand_written : (n : ℕ) → n ≡ 1999 → RowsAreWritten second_session n 3 63 (position 9 6809) two_rows
two_thousand_written n e =
    rows-written second_session second_session_inserts refl n 5 3 2004 63 (position 0 286) (position 9 6800) two_rows two_rows_filled (omega (arith, e)) (omega (arith, e)) (omega (arith, e))
    (ap (λ m. counted_up m 5) e) (omega arith) (omega arith) (ap (λ m. end_behind second_session m (position 0 286)) e) (omega arith)

module _ (n : ℕ) (e : n ≡ 1999) where
  written : RowsAreWritten second_session n 3 63 (position 9 6809) two_rows
  written = two_thousand_written n e

  both_told : (rest : List Line) → replies (two_thousand_rows_and rest) (start small_files) ≡ Done ∷ Changed 1 ∷ replicate 2000 (Changed 1) ++ Done ∷ replies rest written.state
  unfolding rows_after_two
  both_told rest =
      ap (λ (ls : List Line). replies ls (start small_files)) (two_and_more n e rest)
      ∙ (replies-append two_rows_lines (rows_after_two n rest) (start small_files)
      ∙ (ap (λ (rs : List Reply). rs ++ replies (rows_after_two n rest) two_rows) two_rows_told
      ∙ (ap (λ (rs : List Reply). Done ∷ Changed 1 ∷ Changed 1 ∷ rs) (written.told rest)
      ∙ two_thousand_changed n e (Done ∷ replies rest written.state))))

  both_left : (rest : List Line) → after (two_thousand_rows_and rest) (start small_files) ≡ after rest written.state
  unfolding rows_after_two
  both_left rest =
      ap (λ (ls : List Line). after ls (start small_files)) (two_and_more n e rest)
      ∙ (after-append two_rows_lines (rows_after_two n rest) (start small_files) ∙ written.left rest)

  state_written : written.state ≡ state_before written.state written.written
  state_written = is_state_before written.state written.written

  both_told_all : replies (two_thousand_rows_and (held_lines ++ free_lines)) (start small_files) ≡
      Done ∷ Changed 1 ∷ replicate 2000 (Changed 1) ++ Done ∷ held_replies ++ free_replies
  both_told_all =
      both_told (held_lines ++ free_lines)
      ∙ ap (λ (rs : List Reply). Done ∷ Changed 1 ∷ replicate 2000 (Changed 1) ++ Done ∷ rs)
      (ap (replies (held_lines ++ free_lines)) state_written
      ∙ (held_and_told written.state written.written free_lines ∙ ap (λ (rs : List Reply). held_replies ++ rs) (free_told written.state written.written)))

  both_held_left : after (two_thousand_rows_and held_lines) (start small_files) ≡ ended_second written.state written.written
  both_held_left = both_left held_lines ∙ (ap (after held_lines) state_written ∙ held_left written.state written.written)

  both_held_files : (file : ℕ) → (after (two_thousand_rows_and held_lines) (start small_files)).files file ≡ nat_le file 9
  both_held_files file = ap (λ (x : State). x.files file) both_held_left ∙ held_files written.state written.written file

  both_last_files : (file : ℕ) → (after (two_thousand_rows_and (held_lines ++ (1, CkptBlocking) ∷ (1, CkptBlocking) ∷ [])) (start small_files)).files file ≡ nat_eq file 9
  both_last_files file =
      ap (λ (x : State). x.files file)
      (both_left (held_lines ++ (1, CkptBlocking) ∷ (1, CkptBlocking) ∷ [])
      ∙ (after-append held_lines ((1, CkptBlocking) ∷ (1, CkptBlocking) ∷ []) written.state
      ∙ (ap (λ (x : State). after ((1, CkptBlocking) ∷ (1, CkptBlocking) ∷ []) (after held_lines x)) state_written
      ∙ (ap (after ((1, CkptBlocking) ∷ (1, CkptBlocking) ∷ [])) (held_left written.state written.written) ∙ free_left written.state written.written))))
      ∙ last_files written.state written.written file

-- While a transaction is live, a blocking checkpoint is refused, and each other one holds the log from its first entry on. Once it has
-- ended, two checkpoints of which nothing is to be copied leave the last file of the log alone.
live_transaction_holds_the_log : replies (two_thousand_rows_and (held_lines ++ free_lines)) (start small_files) ≡
    Done
    ∷ Changed 1
    ∷ replicate 2000 (Changed 1)
    ++ Done
    ∷ Refused (TransactionOpen 2)
    ∷ Checkpoint 2 63
    ∷ Holds (held (OfCheckpoint 0) (position 0 0) ∷ held (OfCheckpoint 1) (position 0 206) ∷ held (OfTransaction 2) (position 0 206) ∷ [])
    ∷ Checkpoint 3 63
    ∷ Done
    ∷ Checkpoint 4 0
    ∷ Checkpoint 5 0
    ∷ Holds (held (OfCheckpoint 0) (position 9 6818) ∷ held (OfCheckpoint 1) (position 9 6818) ∷ [])
    ∷ []
live_transaction_holds_the_log = both_told_all 1999 refl

-- Log files 0 to 9 are there while the log is held, and then log file 9 alone.
held_log_is_kept : (file : ℕ) → (after (two_thousand_rows_and held_lines) (start small_files)).files file ≡ nat_le file 9
held_log_is_kept = both_held_files 1999 refl

last_file_is_left : (file : ℕ) → (after (two_thousand_rows_and (held_lines ++ (1, CkptBlocking) ∷ (1, CkptBlocking) ∷ [])) (start small_files)).files file ≡ nat_eq file 9
last_file_is_left = both_last_files 1999 refl
