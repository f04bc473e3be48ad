-- Lines and rounds keep the bookmarks of open readers.
use Rattle.std.proofs.Common.{◌≡◌, ◌≤◌, ◌<◌, ◌+◌, inl, inr, ℕ, zero, suc, Bool, true, false, cond, nat_eq, map, List, [], ◌∷◌, ◌++◌, length, Option, Some, None, unwrap_or, if◌then◌else◌, refl, sym, ap, ◌∙◌, subst, arith, lit<, true≢false}
use Rattle.std.proofs.lemmas.Bool.{cases_Bool, eqb-true, or_left, or_right, and_parts, both_ways}
use Rattle.std.proofs.lemmas.Slice.Eq.{bytes_eq-Decides}
use Rattle.std.specs.Prelude.{◌==◌, bytes_eq, option_map, is_some, Result, Ok, Err}
use Rattle.std.specs.List.{list_any}
use Rattle.std.specs.Option.{option_or}
use Rattle.tt_value.specs.Order.{text_of}
use Rattle.tt_value.specs.declared.position.Position.{Position}
use Rattle.tt_value.specs.declared.value.Cell.TheVariants.{Full as FullCell}
use Rattle.tt_value.specs.declared.refusal.Refusal.{Refusal}
use Rattle.tt_value.specs.declared.refusal.Refusal.TheVariants.{BookmarkBusy}
use Rattle.tt_value.specs.declared.reply.Reply.{Reply}
use Rattle.tt_value.specs.declared.reply.Reply.TheVariants.{Done}
use Rattle.tt_parse.specs.declared.command.Command.{Command}
use Rattle.tt_parse.specs.declared.command.Command.TheVariants.{CreateTable, DropTable, CreateIndex, DropIndex, Insert, Update, Delete, Select, Commit as CommitLine, Rollback, DurableCommit, Flush, Ckpt, CkptBlocking, LogHolds, Bookmark, Backup as BackupLine, XlaCreate, XlaDelete, XlaSubscribe, XlaUnsubscribe, XlaOpen, XlaNext, XlaAcknowledge, XlaClose}
use Rattle.tt_record.specs.declared.entry.Entry.TheVariants.{Commit}
use Rattle.tt_set.specs.declared.settings.Settings.{Settings}
use Rattle.tt_model.specs.Live.{numbers_from}
use Rattle.tt_model.specs.Holders.{value_at}
use Rattle.tt_model.specs.Opened.{Opened}
use Rattle.tt_model.specs.Sets.{Readable, SetStanding}
use Rattle.tt_model.specs.Tables.{Table, Index, PlacedRow, by_number, by_text, with_number_at, with_text_at, text_at, table_named, index_named}
use Rattle.tt_model.specs.State.{State, Reader, Underway, live_in, next, cells_of, catalog, write_position, with_entry, with_edits, all_forced, reversals}
use Rattle.tt_model.specs.declared.definition.CellEdit.{CellEdit}
use Rattle.tt_model.specs.Meaning.{Meant, Makes, Refuses, unless, first_of, meant_by_select}
use Rattle.tt_model.specs.System.{system_rows, in_transaction, deletes, bookmark, reader_on, reads, subscription, delete_bookmark, unsubscribe, acknowledge, bookmark_values, rewrites, drop_table, drop_index, meant_by_delete_bookmark, meant_by_unsubscribe, meant_by_acknowledge, meant_by_drop_table, meant_by_drop_index, reader_at, reader_row}
use Rattle.tt_model.specs.Backups.{row_of_set, set_edit, full_now, extended_now, with_set, backup_refusal, SetWork, MakesSet, ContinuesSet, EndsSet, set_work}
use Rattle.tt_model.specs.Sound.{IsSound, MayEdit}
use Rattle.tt_model.specs.Checkpoint.{begin_checkpoint, copied, with_copies, with_all_copies, complete_where_due, completed, with_completion}
use Rattle.tt_model.specs.Step.{Step, Answers, WantsMemory, line, unless_refused, forced_where, statement, made, made_in, number_for, no_number_for, no_position, no_system_position, edit_length, session_ended, is_durable, commit_of, rollback_of, rolled_back, rollback_lengths, end_length, system, system_done, open_at, given, closed, refused, kept_read, next_read_of, with_reader, backed_up, backup_position, checkpoint_open, no_checkpoint_number, least_open, begun_reply, completion_after, no_skip, given_to, backup_line}
use Rattle.tt_model.specs.Run.{Line, Run, begun}
use Rattle.tt_model.specs.WholeRuns.{IsSession, AreOfSessions, ReadersHaveBookmarks, BookmarksStay}
use Rattle.tt_model.proofs.AppendLemmas.{cells-Abort}
use Rattle.tt_model.proofs.CatalogLemmas.{not_held_user}
use Rattle.tt_model.proofs.ConflictLemmas.{none_passes}
use Rattle.tt_model.proofs.EditLemmas.{AreNew, new-MayEdit}
use Rattle.tt_model.proofs.StatementLemmas.{unless-makes, makes_same, each_none}
use Rattle.tt_model.proofs.SoundLines.{sound-with_copies}
use Rattle.tt_model.proofs.StepLemmas.{sound-step}
use Rattle.tt_model.proofs.SystemLemmas.{of_rows-MayEdit}
use Rattle.tt_model.proofs.LineLemmas.{create_table-new, create_index_new, create_bookmark-new, subscribe_new, selected-has}
use Rattle.tt_model.proofs.SystemLines.{AreGood, refuses_none, set-lies, sound-with_set, rewrite-good, rows-good, one_row, drop_table-good, drop_index-good, delete_bookmark-good, unsubscribe-good, acknowledge-good}
use Rattle.tt_model.proofs.GrowLemmas.{readers-command, readers-memory, readers-with_copies, readers-completion_after}
use Rattle.tt_model.proofs.BookmarkLemmas.{is_bookmark, is_named, HasIn, AllKeep, find-passes, there-in, bookmark-in, in-bookmark, keeps-Commit, cells-with_edits, cells_forced, keeps-system_done}

-- ---- edits that keep a bookmark's row

new-keep : (name : List ℕ) (edits : List CellEdit) → AreNew edits → AllKeep name edits
new-keep name [] n = tt
new-keep name (e ∷ es) n = ((λ y. absurd (true≢false (sym y ∙ ap (is_bookmark name) (n.1)))), new-keep name es (n.2))

deletes-keep : (name : List ℕ) (table : ℕ) (rows : List PlacedRow) → nat_eq 4 table ≡ false → AllKeep name (map (deletes table) rows)
deletes-keep name table [] n = tt
deletes-keep name table (r ∷ rows) n = (
  (λ y. absurd (both_ways (nat_eq 4 table) n ((and_parts (nat_eq 4 table) (bytes_eq (text_of (value_at (r.1) 0)) name) y).0))),
  deletes-keep name table rows n,
)

keep-append : (name : List ℕ) (xs ys : List CellEdit) → AllKeep name xs → AllKeep name ys → AllKeep name (xs ++ ys)
keep-append name [] ys a b = b
keep-append name (x ∷ xs) ys a b = (a.0, keep-append name xs ys (a.1) b)

keep_or_refused : (name : List ℕ) (o : Option Refusal) (es edits : List CellEdit) → AllKeep name es → unless o (Makes es) ≡ Makes edits → AllKeep name edits
keep_or_refused name o es edits k h = subst (AllKeep name) (makes_same es edits ((unless-makes o (Makes es) edits h).1)) k

drop_table_keep : (name : List ℕ) (session : ℕ) (s : State) (o : Option Table) (edits : List CellEdit) → drop_table session s o ≡ Makes edits → AllKeep name edits
drop_table_keep name session s None edits h = absurd (refuses_none _ _ edits h)
drop_table_keep name session s (Some t) edits h =
    let five : List PlacedRow = by_text 0 (with_number_at 1 t.id (system_rows 5 s)) in
    let three : List PlacedRow = by_number 0 (with_number_at 1 t.id (system_rows 3 s)) in
    let two : List PlacedRow = by_number 1 (with_number_at 0 t.id (system_rows 2 s)) in
    let one : List PlacedRow = with_number_at 0 t.id (system_rows 1 s) in
    let last : List CellEdit = map (deletes 2) two ++ map (deletes 1) one in
    keep_or_refused name _ (map (deletes 5) five ++ (map (deletes 3) three ++ last)) edits
    (keep-append name (map (deletes 5) five) (map (deletes 3) three ++ last) (deletes-keep name 5 five refl)
    (keep-append name (map (deletes 3) three) last (deletes-keep name 3 three refl)
    (keep-append name (map (deletes 2) two) (map (deletes 1) one) (deletes-keep name 2 two refl) (deletes-keep name 1 one refl)))) h

drop_index_keep : (name : List ℕ) (session : ℕ) (s : State) (o : Option Index) (edits : List CellEdit) → drop_index session s o ≡ Makes edits → AllKeep name edits
drop_index_keep name session s None edits h = absurd (refuses_none _ _ edits h)
drop_index_keep name session s (Some i) edits h =
    let rows : List PlacedRow = with_number_at 0 i.id (system_rows 3 s) in keep_or_refused name _ (map (deletes 3) rows) edits (deletes-keep name 3 rows refl) h

unsubscribe_keep : (name : List ℕ) (session : ℕ) (s : State) (other : List ℕ) (o : Option Table) (edits : List CellEdit) → unsubscribe session s other o ≡ Makes edits → AllKeep name edits
unsubscribe_keep name session s other None edits h = absurd (refuses_none _ _ edits h)
unsubscribe_keep name session s other (Some t) edits h = keep_or_refused name _ (map (deletes 5) (subscription other t.id s)) edits (deletes-keep name 5 (subscription other t.id s) refl) h

-- An acknowledgement writes the row of its bookmark anew.
acknowledged_keep : (name : List ℕ) (session : ℕ) (s : State) (r : Reader) (o : Option PlacedRow) (edits : List CellEdit) → bookmark r.bookmark s ≡ o →
    acknowledge session s (reader_at r o) ≡ Makes edits → AllKeep name edits
acknowledged_keep name session s r None edits e h = absurd (refuses_none _ _ edits h)
acknowledged_keep name session s r (Some at) edits e h =
    let own : bytes_eq (text_at 0 at) r.bookmark ≡ true = find-passes (is_named r.bookmark) (system_rows 4 s) at e in
    keep_or_refused name (first_of (in_transaction session s ∷ [])) (rewrites 4 at (bookmark_values r.bookmark r.place) ∷ []) edits (
      (λ y.
          let named : bytes_eq (text_at 0 at) name ≡ true = (and_parts true (bytes_eq (text_at 0 at) name) y).1 in
          let same : r.bookmark ≡ name = sym ((bytes_eq-Decides (text_at 0 at) r.bookmark).0 own) ∙ (bytes_eq-Decides (text_at 0 at) name).0 named in
          (bytes_eq-Decides r.bookmark name).1 same),
      tt,
    ) h

acknowledge_keep : (name : List ℕ) (session : ℕ) (s : State) (o : Option Reader) (edits : List CellEdit) → acknowledge session s (reader_row s o) ≡ Makes edits → AllKeep name edits
acknowledge_keep name session s None edits h = absurd (refuses_none _ _ edits h)
acknowledge_keep name session s (Some r) edits h = acknowledged_keep name session s r (bookmark r.bookmark s) edits refl h

-- ---- a bookmark that is read isn't deleted

-- A session has a reader open on it.
pub record ReadBy (name : List ℕ) (s : State) : Type 0 where
  pub session : ℕ
  pub reader : Reader
  pub is_session : IsSession session
  pub is_open : s.reader session ≡ Some reader
  pub bookmark_is : reader.bookmark ≡ name

pub among : (k n from : ℕ) → from ≤ k → k < from + n → list_any (nat_eq k) (numbers_from n from) ≡ true
among k zero from l m = let no : ⊥ = omega (arith, l, m) in absurd no
among k (suc n) from l m = elim (cases_Bool (nat_eq k from)) [
  | inl y ↦ or_left (nat_eq k from) (list_any (nat_eq k) (numbers_from n (suc from))) y
  | inr d ↦ or_right (nat_eq k from) (list_any (nat_eq k) (numbers_from n (suc from))) (among k n (suc from) (above from k l d) (omega (arith, m)))
]
  where
    above : (from k : ℕ) → from ≤ k → nat_eq k from ≡ false → from < k
    above from k l n = grind (arith, l, n)

nobody_reads : (name other : List ℕ) (s : State) → ReadBy name s → reader_on other s ≡ None → other ≡ name → ⊥
nobody_reads name other s b none same =
    let k : ℕ = b.session in
    let low : 1 ≤ k = (b.is_session).0 in
    let high : k ≤ 64 = (b.is_session).1 in
    let not_read : reads other (s.reader k) ≡ false = none_passes (λ session. reads other (s.reader session)) (numbers_from 64 1) none k (among k 64 1 low (omega (arith, high))) in
    let read : bytes_eq other b.reader.bookmark ≡ true = (bytes_eq-Decides other b.reader.bookmark).1 (same ∙ sym b.bookmark_is) in
    both_ways (bytes_eq other b.reader.bookmark) (ap (reads other) (sym b.is_open) ∙ not_read) read

not_busy : (o : Option ℕ) → option_map BookmarkBusy o ≡ None → o ≡ None
not_busy None h = refl
not_busy (Some k) h = let no : ⊥ = cc in absurd no

delete_bookmark_keep : (name : List ℕ) (session : ℕ) (s : State) (other : List ℕ) (o : Option PlacedRow) (edits : List CellEdit) → ReadBy name s → bookmark other s ≡ o →
    delete_bookmark session s other o ≡ Makes edits → AllKeep name edits
delete_bookmark_keep name session s other None edits b e h = absurd (refuses_none _ _ edits h)
delete_bookmark_keep name session s other (Some r) edits b e h =
    let tests : List (Option Refusal) = in_transaction session s ∷ option_map BookmarkBusy (reader_on other s) ∷ [] in
    let passed : first_of tests ≡ None = (unless-makes (first_of tests) _ edits h).0 in
    let nobody : reader_on other s ≡ None = not_busy (reader_on other s) (((each_none tests passed).1).0) in
    let own : bytes_eq (text_at 0 r) other ≡ true = find-passes (is_named other) (system_rows 4 s) r e in
    let rows : List PlacedRow = by_number 1 (with_text_at 0 other (system_rows 5 s)) in
    keep_or_refused name (first_of tests) (map (deletes 5) rows ++ deletes 4 r ∷ []) edits
    (keep-append name (map (deletes 5) rows) (deletes 4 r ∷ []) (deletes-keep name 5 rows refl) (
      (λ y.
          let named : bytes_eq (text_at 0 r) name ≡ true = (and_parts true (bytes_eq (text_at 0 r) name) y).1 in
          absurd (nobody_reads name other s b nobody (sym ((bytes_eq-Decides (text_at 0 r) other).0 own) ∙ (bytes_eq-Decides (text_at 0 r) name).0 named))),
      tt,
    )) h

-- ---- transactions of their own

keeps-unless : (name : List ℕ) (o : Option Refusal) (reply : Reply) (after s : State) → HasIn name (cells_of s) → HasIn name (cells_of after) → HasIn name (cells_of ((unless_refused o (reply, after) s).1))
keeps-unless name None reply after s i j = j
keeps-unless name (Some r) reply after s i j = i

system-keeps : (name : List ℕ) (m : Meant) (s : State) → IsSound s → ((edits : List CellEdit) → m ≡ Makes edits → MayEdit (next s) edits s × AllKeep name edits) →
    HasIn name (cells_of s) → HasIn name (cells_of ((system m s).1))
system-keeps name (Refuses r) s h f i = i
system-keeps name (Makes edits) s h f i =
    keeps-unless name (no_system_position edits s) Done (system_done edits s) s i (keeps-system_done name edits s h ((f edits refl).0) ((f edits refl).1) i)

pub may_new : (s : State) (edits : List CellEdit) → IsSound s → AreNew edits → MayEdit (next s) edits s
may_new s edits h n = new-MayEdit (next s) edits s h.entries (inr refl) n

pub may_good : (s : State) (edits : List CellEdit) → IsSound s → AreGood s edits → MayEdit (next s) edits s
may_good s edits h g = of_rows-MayEdit s edits h g.of_rows g.apart

set_edit_keeps : (name : List ℕ) (o : Option PlacedRow) (set : ℕ) (end : Position) (s : State) → IsSound s → ((r : PlacedRow) → o ≡ Some r → cells_of s (r.0) ≡ FullCell 6 (r.1)) →
    HasIn name (cells_of s) → HasIn name (cells_of (system_done (set_edit o set end ∷ []) s))
set_edit_keeps name None set end s h l i =
    keeps-system_done name (set_edit None set end ∷ []) s h (may_new s (set_edit None set end ∷ []) h (refl, refl, tt)) (new-keep name (set_edit None set end ∷ []) (refl, refl, tt)) i
set_edit_keeps name (Some r) set end s h l i =
    keeps-system_done name (set_edit (Some r) set end ∷ []) s h
    (may_good s (set_edit (Some r) set end ∷ []) h (rewrite-good s 6 r _ (lit< tt) (l r refl) (not_held_user _ refl, tt)))
    ((λ y. absurd (true≢false (sym y))), tt) i

with_set_keeps : (name : List ℕ) (set : ℕ) (standing : Option SetStanding) (s : State) → HasIn name (cells_of s) → HasIn name (cells_of (with_set set standing (all_forced s)))
unfolding all_forced
with_set_keeps name set standing s i = i

set_keeps : (name : List ℕ) (set : ℕ) (standing : Option SetStanding) (s : State) → IsSound s → HasIn name (cells_of s) →
    HasIn name (cells_of (system_done (set_edit (row_of_set set s) set (write_position s) ∷ []) (with_set set standing (all_forced s))))
unfolding all_forced
set_keeps name set standing s h i =
    set_edit_keeps name (row_of_set set s) set (write_position s) (with_set set standing (all_forced s)) (sound-with_set set standing s h) (λ r e. set-lies set s r e) i

stop_keeps : (name : List ℕ) (set : ℕ) (s : State) (o : Option PlacedRow) → row_of_set set s ≡ o → IsSound s → HasIn name (cells_of s) →
    HasIn name (cells_of (elim o as (λ x. State) [ None ↦ s | Some r ↦ system_done (deletes 6 r ∷ []) s ]))
stop_keeps name set s None e h i = i
stop_keeps name set s (Some r) e h i =
    keeps-system_done name (map (deletes 6) (r ∷ [])) s h (may_good s (map (deletes 6) (r ∷ [])) h (rows-good s 6 (r ∷ []) (lit< tt) (one_row 6 s r (set-lies set s r e)) tt))
    (deletes-keep name 6 (r ∷ []) refl) i

backed_up_keeps : (name : List ℕ) (set : ℕ) (work : SetWork) (s : State) → IsSound s → HasIn name (cells_of s) → HasIn name (cells_of ((backed_up set work s).1))
backed_up_keeps name set (MakesSet false) s h i = with_set_keeps name set (Some (Readable (full_now s))) s i
backed_up_keeps name set (MakesSet true) s h i = set_keeps name set (Some (Readable (full_now s))) s h i
backed_up_keeps name set ContinuesSet s h i = set_keeps name set (extended_now (s.sets set) s) s h i
backed_up_keeps name set EndsSet s h i = stop_keeps name set s (row_of_set set s) refl h i

backup_keeps : (name : List ℕ) (session set : ℕ) (work : SetWork) (s : State) → IsSound s → HasIn name (cells_of s) → HasIn name (cells_of ((backup_line session set work s).1))
backup_keeps name session set work s h i =
    keeps-unless name (option_or (backup_refusal session s set work) (backup_position set work s)) ((backed_up set work s).0) ((backed_up set work s).1) s i (backed_up_keeps name set work s h i)

-- ---- statements, commits and rollbacks

made_keeps : (name : List ℕ) (session : ℕ) (edits : List CellEdit) (s : State) → HasIn name (cells_of s) → HasIn name (cells_of ((made session edits s).1))
made_keeps name session [] s i = i
made_keeps name session (e ∷ es) s i =
    let t : ℕ = number_for (s.own session) s in
    keeps-unless name (option_or (no_number_for (s.own session) s) (no_position (map edit_length (e ∷ es)) s)) _ (made_in session t (e ∷ es) s) s i
    (subst (HasIn name) (sym (cells-with_edits t (e ∷ es) s)) i)

statement_keeps : (name : List ℕ) (session : ℕ) (m : Meant) (s : State) → HasIn name (cells_of s) → HasIn name (cells_of ((statement session m s).1))
statement_keeps name session (Refuses r) s i = i
statement_keeps name session (Makes edits) s i = made_keeps name session edits s i

commit_keeps : (name : List ℕ) (session : ℕ) (o : Option ℕ) (s : State) → IsSound s → s.own session ≡ o → HasIn name (cells_of s) → HasIn name (cells_of ((commit_of session o s).1))
commit_keeps name session None s h e i = subst (HasIn name) (sym (cells_forced (is_durable session s) s)) i
commit_keeps name session (Some t) s h e i =
    let mid : State = with_entry (Commit t) s in
    keeps-unless name (no_position (end_length ∷ []) s) Done (session_ended session (forced_where (is_durable session s) mid)) s i
    (subst (HasIn name) (sym (cells_forced (is_durable session s) mid)) (keeps-Commit name s t h ((h.owned).live session t e) i))

rollback_keeps : (name : List ℕ) (session : ℕ) (o : Option ℕ) (s : State) → HasIn name (cells_of s) → HasIn name (cells_of ((rollback_of session o s).1))
rollback_keeps name session None s i = i
rollback_keeps name session (Some t) s i =
    let made : State = with_edits t (reversals t s.entries) s in
    keeps-unless name (no_position (rollback_lengths t s) s) Done (session_ended session (rolled_back t s)) s i
    (subst (HasIn name) (sym (cells-Abort t made ∙ cells-with_edits t (reversals t s.entries) s)) i)

-- ---- checkpoints and forces

cells_copied : (n : ℕ) (o : Option Underway) (s : State) → cells_of (copied n o s) ≡ cells_of s
cells_copied n None s = refl
cells_copied n (Some b) s = refl

pub cells-with_copies : (s : State) → cells_of (with_copies s) ≡ cells_of s
unfolding with_copies
cells-with_copies s = cells_copied s.settings.ckpt_pages s.underway s

pub cells_all_copies : (s : State) → cells_of (with_all_copies s) ≡ cells_of s
unfolding with_all_copies
cells_all_copies s = cells_copied s.pages s.underway s

pub cells_begin : (s : State) → cells_of (begin_checkpoint s) ≡ cells_of s
unfolding begin_checkpoint
cells_begin s = refl

cells_completed : (b : Underway) (s : State) → cells_of (completed b s) ≡ cells_of s
unfolding completed all_forced
cells_completed b s = refl

cells_due : (b : Underway) (s : State) (c : Bool) → cells_of (if c then completed b s else s) ≡ cells_of s
cells_due b s true = cells_completed b s
cells_due b s false = refl

cells_where : (o : Option Underway) (s : State) → cells_of (complete_where_due o s) ≡ cells_of s
cells_where None s = refl
cells_where (Some b) s = cells_due b s (length b.left == 0)

pub cells_with_completion : (s : State) → cells_of (with_completion s) ≡ cells_of s
unfolding with_completion
cells_with_completion s = cells_where s.underway s

cells-completion_after : (o : Option Underway) (s : State) → cells_of (completion_after o s) ≡ cells_of s
cells-completion_after None s = refl
cells-completion_after (Some b) s = cells_with_completion s

pub cells_all_forced : (s : State) → cells_of (all_forced s) ≡ cells_of s
unfolding all_forced
cells_all_forced s = refl

blocking_keeps : (name : List ℕ) (s : State) → HasIn name (cells_of s) → HasIn name (cells_of (with_completion (with_all_copies (begin_checkpoint s))))
blocking_keeps name s i =
    let begun : State = begin_checkpoint s in
    subst (HasIn name) (sym (cells_with_completion (with_all_copies begun) ∙ (cells_all_copies begun ∙ cells_begin s))) i

-- ---- the lines of readers

pub cells_unless : (o : Option Refusal) (reply : Reply) (after s : State) → cells_of after ≡ cells_of s → cells_of ((unless_refused o (reply, after) s).1) ≡ cells_of s
cells_unless None reply after s e = e
cells_unless (Some r) reply after s e = refl

cells_open_at : (session : ℕ) (name : List ℕ) (o : Option PlacedRow) (s : State) → cells_of ((open_at session name o s).1) ≡ cells_of s
cells_open_at session name None s = refl
cells_open_at session name (Some r) s = cells_unless (option_map BookmarkBusy (reader_on name s)) Done (with_reader session (Some (record { bookmark = name; place = kept_read r })) s) s refl

pub cells_opened : (session : ℕ) (name : List ℕ) (s : State) (c : Bool) → cells_of ((cond c (refused (BookmarkBusy session) s) (open_at session name (bookmark name s) s)).1) ≡ cells_of s
cells_opened session name s true = refl
cells_opened session name s false = cells_open_at session name (bookmark name s) s

pub cells_given : (session : ℕ) (o : Option Reader) (n : ℕ) (s : State) → cells_of ((given session o n s).1) ≡ cells_of s
cells_given session None n s = refl
cells_given session (Some r) n s =
    cells_unless (no_skip (next_read_of r n s)) ((given_to session r n s).0) ((given_to session r n s).1) s refl

pub cells_closed : (session : ℕ) (o : Option Reader) (s : State) → cells_of ((closed session o s).1) ≡ cells_of s
cells_closed session None s = refl
cells_closed session (Some r) s = refl

-- ---- each line

line_keeps : (name : List ℕ) (session : ℕ) (command : Command) (s : State) → IsSound s → ReadBy name s → HasIn name (cells_of s) →
    HasIn name (cells_of ((line session command s).1))
unfolding line meant_by_drop_table meant_by_drop_index meant_by_delete_bookmark meant_by_unsubscribe meant_by_acknowledge
line_keeps name session (Insert table values) s h b i = statement_keeps name session _ s i
line_keeps name session (Update table sets cond) s h b i = statement_keeps name session _ s i
line_keeps name session (Delete table cond) s h b i = statement_keeps name session _ s i
line_keeps name session (Select table items cond order) s h b i = selected-has (λ (after : State). HasIn name (cells_of after)) (meant_by_select session s table items cond order) s i
line_keeps name session CommitLine s h b i = commit_keeps name session (s.own session) s h refl i
line_keeps name session Rollback s h b i = rollback_keeps name session (s.own session) s i
line_keeps name session DurableCommit s h b i = i
line_keeps name session Flush s h b i = subst (HasIn name) (sym (cells_all_forced s)) i
line_keeps name session LogHolds s h b i = i
line_keeps name session Bookmark s h b i = i
line_keeps name session (CreateTable x columns key) s h b i =
    system-keeps name _ s h (λ edits m. let p = create_table-new session s x columns key edits m in (may_new s edits h (p.1), new-keep name edits (p.1))) i
line_keeps name session (CreateIndex x table columns unique) s h b i =
    system-keeps name _ s h (λ edits m. let p = create_index_new session s x table columns unique edits m in (may_new s edits h (p.1), new-keep name edits (p.1))) i
line_keeps name session (XlaCreate x) s h b i =
    system-keeps name _ s h (λ edits m. let p = create_bookmark-new session s x edits m in (may_new s edits h (p.1), new-keep name edits (p.1))) i
line_keeps name session (XlaSubscribe table x) s h b i =
    system-keeps name _ s h (λ edits m. let p = subscribe_new session s table x edits m in (may_new s edits h (p.1), new-keep name edits (p.1))) i
line_keeps name session (DropTable x) s h b i =
    system-keeps name _ s h (λ edits m. (may_good s edits h (drop_table-good session s x edits m), drop_table_keep name session s (table_named x (catalog s)) edits m)) i
line_keeps name session (DropIndex x) s h b i =
    system-keeps name _ s h (λ edits m. (may_good s edits h (drop_index-good session s x edits m), drop_index_keep name session s (index_named x (catalog s)) edits m)) i
line_keeps name session (XlaDelete x) s h b i =
    system-keeps name _ s h (λ edits m. (may_good s edits h (delete_bookmark-good session s x edits m), delete_bookmark_keep name session s x (bookmark x s) edits b refl m)) i
line_keeps name session (XlaUnsubscribe table x) s h b i =
    system-keeps name _ s h (λ edits m. (may_good s edits h (unsubscribe-good session s table x edits m), unsubscribe_keep name session s x (table_named table (catalog s)) edits m)) i
line_keeps name session XlaAcknowledge s h b i =
    system-keeps name _ s h (λ edits m. (may_good s edits h (acknowledge-good session s edits m), acknowledge_keep name session s (s.reader session) edits m)) i
line_keeps name session (XlaOpen x) s h b i = subst (HasIn name) (sym (cells_opened session x s (is_some (s.reader session)))) i
line_keeps name session (XlaNext count) s h b i = subst (HasIn name) (sym (cells_given session (s.reader session) count s)) i
line_keeps name session XlaClose s h b i = subst (HasIn name) (sym (cells_closed session (s.reader session) s)) i
line_keeps name session (BackupLine set kind) s h b i = backup_keeps name session set (set_work kind set s) s h i
line_keeps name session Ckpt s h b i =
    keeps-unless name (option_or (checkpoint_open s) (no_checkpoint_number s)) (begun_reply s) (begin_checkpoint s) s i (subst (HasIn name) (sym (cells_begin s)) i)
line_keeps name session CkptBlocking s h b i =
    keeps-unless name (option_or (checkpoint_open s) (option_or (least_open (live_in s)) (no_checkpoint_number s))) (begun_reply s) (with_completion (with_all_copies (begin_checkpoint s))) s i (blocking_keeps name s i)

-- ---- readers and their bookmarks

-- Each open reader is a session's, and a row of its bookmark is there.
abbrev Kept : State → Type 0
Kept s = (session : ℕ) (r : Reader) → s.reader session ≡ Some r → IsSession session × HasIn r.bookmark (cells_of s)

kept-from : (s : State) → ReadersHaveBookmarks s → Kept s
kept-from s k session r e = ((k session r e).0, bookmark-in r.bookmark s ((k session r e).1))

kept-to : (s : State) → IsSound s → Kept s → ReadersHaveBookmarks s
kept-to s h k session r e = ((k session r e).0, in-bookmark r.bookmark s h ((k session r e).1))

kept-same : (s after : State) → after.reader ≡ s.reader → cells_of after ≡ cells_of s → Kept s → Kept after
kept-same s after r c k session x e =
    let there : IsSession session × HasIn x.bookmark (cells_of s) = k session x (ap (λ (f : ℕ → Option Reader). f session) (sym r) ∙ e) in
    (there.0, subst (HasIn x.bookmark) (sym c) (there.1))

some_reader : (a b : Reader) → Some a ≡ Some b → a ≡ b
some_reader a b h = ap (λ o. unwrap_or o a) h

-- One session's reader is another, whose bookmark is there.
kept_one : (s : State) (who : ℕ) (o : Option Reader) → IsSession who → Kept s → ((r : Reader) → o ≡ Some r → HasIn r.bookmark (cells_of s)) → Kept (with_reader who o s)
kept_one s who o w k f session r e = by_session (nat_eq session who) refl e
  where
    by_session : (c : Bool) → nat_eq session who ≡ c → cond c o (s.reader session) ≡ Some r → IsSession session × HasIn r.bookmark (cells_of s)
    by_session true same e = (subst IsSession (sym (eqb-true session who same)) w, f r e)
    by_session false other e = k session r e

kept_closed : (s : State) (who : ℕ) (o : Option Reader) → IsSession who → Kept s → Kept ((closed who o s).1)
kept_closed s who None w k = k
kept_closed s who (Some x) w k = kept_one s who None w k (λ r same. let no : ⊥ = cc in absurd no)

kept_unless : (o : Option Refusal) (reply : Reply) (after s : State) → Kept s → Kept after → Kept ((unless_refused o (reply, after) s).1)
kept_unless None reply after s k j = j
kept_unless (Some r) reply after s k j = k

kept_given : (s : State) (who n : ℕ) (o : Option Reader) → s.reader who ≡ o → IsSession who → Kept s → Kept ((given who o n s).1)
kept_given s who n None e w k = k
kept_given s who n (Some x) e w k =
    kept_unless (no_skip (next_read_of x n s)) ((given_to who x n s).0) ((given_to who x n s).1) s k
    (kept_one s who (Some (record x { place = next_read_of x n s })) w k
    (λ r same. subst (λ (y : Reader). HasIn y.bookmark (cells_of s)) (some_reader (record x { place = next_read_of x n s }) r same) ((k who x e).1)))

kept_open : (s : State) (who : ℕ) (name : List ℕ) (o : Option PlacedRow) → bookmark name s ≡ o → IsSession who → Kept s → Kept ((open_at who name o s).1)
kept_open s who name None e w k = k
kept_open s who name (Some r) e w k =
    let reader : Reader = record { bookmark = name; place = kept_read r } in
    kept_unless (option_map BookmarkBusy (reader_on name s)) Done (with_reader who (Some reader) s) s k
    (kept_one s who (Some reader) w k (λ x same. subst (λ (y : Reader). HasIn y.bookmark (cells_of s)) (some_reader reader x same) (there-in name s r e)))

kept_opened : (s : State) (who : ℕ) (name : List ℕ) (c : Bool) → IsSession who → Kept s → Kept ((cond c (refused (BookmarkBusy who) s) (open_at who name (bookmark name s) s)).1)
kept_opened s who name true w k = k
kept_opened s who name false w k = kept_open s who name (bookmark name s) refl w k

kept_plain : (s : State) (who : ℕ) (command : Command) → IsSound s → ((line who command s).1).reader ≡ s.reader → Kept s → Kept ((line who command s).1)
kept_plain s who command h same k session r e =
    let now : s.reader session ≡ Some r = ap (λ (f : ℕ → Option Reader). f session) (sym same) ∙ e in
    let there : IsSession session × HasIn r.bookmark (cells_of s) = k session r now in (
      there.0,
      line_keeps r.bookmark who command s h (record { session = session; reader = r; is_session = there.0; is_open = now; bookmark_is = refl }) (there.1),
    )

kept-command : (s : State) (who : ℕ) (command : Command) → IsSession who → IsSound s → Kept s → Kept ((line who command s).1)
unfolding line
kept-command s who (XlaNext n) w h k = kept_given s who n (s.reader who) refl w k
kept-command s who (XlaOpen name) w h k = kept_opened s who name (is_some (s.reader who)) w k
kept-command s who XlaClose w h k = kept_closed s who (s.reader who) w k
kept-command s who command w h k = kept_plain s who command h (readers-command who command s refl) k

cells_memory : (session : ℕ) (what : Result Command Refusal) (s : State) (reply : Reply) (after : State) → WantsMemory session what s reply after → cells_of after ≡ cells_of s
cells_memory session (Err r) s reply after w = absurd w
cells_memory session (Ok command) s reply after w = elim (w.2) [
  | inl same ↦ ap cells_of same
  | inr forced ↦ ap cells_of (forced.1) ∙ cells_all_forced s
]

kept-answers : (s : State) (who : ℕ) (what : Result Command Refusal) (reply : Reply) (after : State) → IsSession who → IsSound s → Kept s →
    Answers who what s reply after → Kept after
kept-answers s who what reply after w h k (inr m) = kept-same s after (readers-memory who what s reply after m) (cells_memory who what s reply after m) k
kept-answers s who (Ok command) reply after w h k (inl t) = subst Kept (sym (t.1)) (kept-command s who command w h k)
kept-answers s who (Err r) reply after w h k (inl t) = subst Kept (sym (t.1)) k

stay-step : (s : State) (who : ℕ) (what : Result Command Refusal) (reply : Reply) (after : State) → IsSession who → IsSound s → ReadersHaveBookmarks s → Step s who what reply after →
    IsSound after × ReadersHaveBookmarks after
stay-step s who what reply after w h k st =
    let copied_sound : IsSound (with_copies s) = sound-with_copies s h in
    let copied_kept : Kept (with_copies s) = kept-same s (with_copies s) (readers-with_copies s) (cells-with_copies s) (kept-from s k) in
    let sound : IsSound after = sound-step s who what reply after h st in
    let between : Kept st.between = kept-answers (with_copies s) who what reply st.between w copied_sound copied_kept st.line in
    let done : Kept (completion_after s.underway st.between)
    = kept-same st.between (completion_after s.underway st.between) (readers-completion_after s.underway st.between) (cells-completion_after s.underway st.between) between in
    (sound, kept-to after sound (subst Kept (sym st.is) done))

stay-run : (lines : List Line) (replies : List Reply) (s after : State) → AreOfSessions lines → IsSound s → ReadersHaveBookmarks s → Run s lines replies after → IsSound after × ReadersHaveBookmarks after
stay-run [] [] s after w h k run = (subst IsSound (sym run) h, subst ReadersHaveBookmarks (sym run) k)
stay-run (l ∷ ls) (r ∷ rs) s after w h k run =
    let step : IsSound (run.0) × ReadersHaveBookmarks (run.0) = stay-step s l.session l.what r (run.0) (w.0) h k (run.1) in
    stay-run ls rs (run.0) after (w.1) (step.0) (step.1) (run.2)
stay-run [] (r ∷ rs) s after w h k run = absurd run
stay-run (l ∷ ls) [] s after w h k run = absurd run

stay-begun : (settings : Settings) (found : Opened) (files : ℕ → Bool) (sets : ℕ → Option SetStanding) → ReadersHaveBookmarks (begun settings found files sets)
unfolding begun with_entry
stay-begun settings found files sets session r e = let no : ⊥ = cc in absurd no

pub bookmarks_stay : BookmarksStay
bookmarks_stay = record { begun = stay-begun; step = stay-step; run = stay-run }
