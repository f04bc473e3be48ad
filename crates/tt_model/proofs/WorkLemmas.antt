-- A line leaves the log as its works do.
use Rattle.std.proofs.Common.{◌≡◌, ◌∙◌, ◌*◌, ℕ, suc, Bool, true, false, cond, List, [], ◌∷◌, ◌++◌, map, length, drop, Option, Some, None, refl, sym, ap, ap₂, subst, true≢false}
use Rattle.std.specs.Prelude.{◌==◌, option_map, is_some}
use Rattle.std.specs.Option.{option_or}
use Rattle.tt_value.specs.declared.refusal.Refusal.{Refusal}
use Rattle.tt_value.specs.declared.refusal.Refusal.TheVariants.{BookmarkBusy}
use Rattle.tt_value.specs.declared.reply.Reply.{Reply}
use Rattle.tt_value.specs.declared.reply.Reply.TheVariants.{Done, Changed}
use Rattle.tt_parse.specs.declared.command.Command.{Command}
use Rattle.tt_parse.specs.declared.command.Command.TheVariants.{CreateTable, DropTable, CreateIndex, DropIndex, Insert, Update, Delete, Select, Commit as CommitLine, Rollback, DurableCommit, Flush, Ckpt, CkptBlocking, LogHolds, Bookmark, Backup as BackupLine, XlaCreate, XlaDelete, XlaSubscribe, XlaUnsubscribe, XlaOpen, XlaNext, XlaAcknowledge, XlaClose}
use Rattle.tt_record.specs.declared.entry.Entry.{Entry}
use Rattle.tt_record.specs.declared.entry.Entry.TheVariants.{Change, Commit, Abort}
use Rattle.tt_record.specs.Entry.{length_of}
use Rattle.tt_record.specs.Place.{next_position}
use Rattle.tt_set.specs.declared.settings.Settings.{Settings}
use Rattle.tt_model.specs.Trail.{Trail, trail_end}
use Rattle.tt_model.specs.Opened.{Opened}
use Rattle.tt_model.specs.Forced.{forced_for}
use Rattle.tt_model.specs.Live.{least_free, in_use, pages_after}
use Rattle.tt_model.specs.Committed.{committed}
use Rattle.tt_model.specs.Meaning.{Meant, Refuses, Makes, meant_by_select}
use Rattle.tt_model.specs.Tables.{PlacedRow}
use Rattle.tt_model.specs.Sets.{SetStanding, Readable}
use Rattle.tt_model.specs.System.{bookmark, deletes, reader_on}
use Rattle.tt_model.specs.Checkpoint.{begin_checkpoint, begun_in, completed, copied, with_all_copies, with_completion}
use Rattle.tt_model.specs.Backups.{backup_refusal, row_of_set, set_edit, full_now, extended_now, with_set, SetWork, MakesSet, ContinuesSet, EndsSet, set_work}
use Rattle.tt_model.specs.State.{State, Underway, Reader, all_forced, at_one, free_place, live_in, next, place_for, placed, reversals, trail, with_edit, with_edits, with_entry, write_position}
use Rattle.tt_model.specs.declared.definition.CellEdit.{CellEdit}
use Rattle.tt_model.specs.Step.{backed_up, backup_position, begun_reply, checkpoint_open, closed, commit_of, edit_length, end_length, forced_where, given, is_durable, least_open, line, made, made_in, no_checkpoint_number, no_number_for, no_position, no_system_position, number_for, open_at, refused, rollback_lengths, rollback_of, rolled_back, session_ended, statement, system, system_done, unless_refused as answer_unless, no_skip, given_to, next_read_of, backup_line}
use Rattle.tt_model.specs.Run.{ended, ended_one, has_position, roll_all}
use Rattle.tt_model.proofs.FileLemmas.{none_left}
use Rattle.tt_model.specs.Works.{LinesAreWorks, SameLog, Work, all_performed, changes, force_where, is_blocking_line, no_work, performed, rolled_entries, stop_works, system_work, unless_refused, with_entries, work_behind, work_of_all, work_of_commit, work_of_edits, work_of_end, work_of_rollback, work_of_statement, work_of_system, works_of, works_of_backup, works_unless, works_of_set}
use Rattle.tt_model.proofs.LineLemmas.{selected-has}

-- ---- states that have the same log

pub same_log : (s : State) → SameLog s s
same_log s = record { settings = refl; found = refl; entries = refl; forced = refl; pages = refl; files = refl }

pub same_then : (a b c : State) → SameLog a b → SameLog b c → SameLog a c
same_then a b c x y = record {
  settings = x.settings ∙ y.settings;
  found = x.found ∙ y.found;
  entries = x.entries ∙ y.entries;
  forced = x.forced ∙ y.forced;
  pages = x.pages ∙ y.pages;
  files = x.files ∙ y.files;
}

end_same : (a b : State) → SameLog a b → write_position a ≡ write_position b
end_same a b x = ap₂ (λ (f : Opened) (es : Trail). trail_end f.end es) x.found x.entries

trail_same : (a b : State) → SameLog a b → trail a ≡ trail b
trail_same a b x = ap₂ (λ (es : Trail) (f : Opened). es ++ f.entries) x.entries x.found

size_same : (a b : State) → SameLog a b → a.settings.log_file_size ≡ b.settings.log_file_size
size_same a b x = ap (λ (t : Settings). t.log_file_size) x.settings

forced_same : (n : ℕ) (a b : State) → SameLog a b
    → forced_for a.settings.log_file_size a.settings.log_buf_size (write_position a) n (trail a) a.forced ≡ forced_for b.settings.log_file_size b.settings.log_buf_size (write_position b) n (trail b) b.forced
forced_same n a b x =
    ap₂ (λ size buffer. forced_for size buffer (write_position a) n (trail a) a.forced) (size_same a b x) (ap (λ (t : Settings). t.log_buf_size) x.settings)
    ∙ ap₂ (λ end es. forced_for b.settings.log_file_size b.settings.log_buf_size end n es a.forced) (end_same a b x) (trail_same a b x)
    ∙ ap (λ k. forced_for b.settings.log_file_size b.settings.log_buf_size (write_position b) n (trail b) k) x.forced

placed_same : (e : Entry) (a b : State) → SameLog a b → placed e a ≡ placed e b
placed_same e a b x = ap₂ (λ end size. record { at = next_position end (length_of e) size; entry = e }) (end_same a b x) (size_same a b x)

pub entry_same : (e : Entry) (a b : State) → SameLog a b → SameLog (with_entry e a) (with_entry e b)
unfolding with_entry
entry_same e a b x = record {
  settings = x.settings;
  found = x.found;
  entries = ap₂ (λ p (es : Trail). p ∷ es) (placed_same e a b x) x.entries;
  forced = forced_same (length_of e) a b x;
  pages = ap (pages_after e) x.pages;
  files = ap₂ (λ p files. at_one (p.at.file) true files) (placed_same e a b x) x.files;
}

pub entries_same : (es : List Entry) (a b : State) → SameLog a b → SameLog (with_entries es a) (with_entries es b)
entries_same [] a b x = x
entries_same (e ∷ es) a b x = entries_same es (with_entry e a) (with_entry e b) (entry_same e a b x)

pub all_same : (a b : State) → SameLog a b → SameLog (all_forced a) (all_forced b)
unfolding all_forced
all_same a b x = record { settings = x.settings; found = x.found; entries = x.entries; forced = ap length (trail_same a b x); pages = x.pages; files = x.files }

pub where_same : (c : Bool) (a b : State) → SameLog a b → SameLog (forced_where c a) (forced_where c b)
where_same true a b x = all_same a b x
where_same false a b x = x

pub performed_same : (w : Work) (a b : State) → SameLog a b → SameLog (performed w a) (performed w b)
performed_same w a b x = where_same w.force (with_entries w.entries a) (with_entries w.entries b) (entries_same w.entries a b x)

free_same : (a b : State) → SameLog a b → free_place a ≡ free_place b
free_same a b x =
    ap₂ (λ (f : Opened) (es : Trail). least_free (in_use (committed f.cells es) (es ++ f.entries)) (32 * a.pages)) x.found x.entries
    ∙ ap (λ k. least_free (in_use (committed b.found.cells b.entries) (trail b)) (32 * k)) x.pages

place_same : (o : Option ℕ) (a b : State) → SameLog a b → place_for o a ≡ place_for o b
place_same None a b x = free_same a b x
place_same (Some p) a b x = refl

-- ---- edits and their Changes

pub edits_are : (t : ℕ) (edits : List CellEdit) (s : State) → with_edits t edits s ≡ with_entries (changes t edits s) s
edits_are t [] s = refl
edits_are t (edit ∷ edits) s = edits_are t edits (with_edit t edit s)

pub entries_then : (xs ys : List Entry) (s : State) → with_entries (xs ++ ys) s ≡ with_entries ys (with_entries xs s)
entries_then [] ys s = refl
entries_then (x ∷ xs) ys s = entries_then xs ys (with_entry x s)

-- edits, and an entry behind them
pub edits_then : (t : ℕ) (edits : List CellEdit) (e : Entry) (s : State) → with_entry e (with_edits t edits s) ≡ with_entries (changes t edits s ++ e ∷ []) s
edits_then t edits e s = ap (with_entry e) (edits_are t edits s) ∙ sym (entries_then (changes t edits s) (e ∷ []) s)

-- where two states are the same, they have the same log
equal_log : (a b : State) → a ≡ b → SameLog a b
equal_log a b is = subst (λ (x : State). SameLog a x) is (same_log a)

-- ---- lines

unless_same : (o : Option Refusal) (reply : Reply) (after s : State) (w : Work) → SameLog after (performed w s) → SameLog ((answer_unless o (reply, after) s).1) (performed (unless_refused o w) s)
unless_same None reply after s w x = x
unless_same (Some r) reply after s w x = same_log s

made_same : (session : ℕ) (edits : List CellEdit) (s : State) → SameLog ((made session edits s).1) (performed (work_of_edits session edits s) s)
made_same session [] s = same_log s
made_same session (e ∷ es) s =
    let t : ℕ = number_for (s.own session) s in
    unless_same (option_or (no_number_for (s.own session) s) (no_position (map edit_length (e ∷ es)) s)) (Changed (suc (length es))) (made_in session t (e ∷ es) s) s (record { entries = changes t (e ∷ es) s; force = false })
    (beside t (equal_log (with_edits t (e ∷ es) s) (with_entries (changes t (e ∷ es) s) s) (edits_are t (e ∷ es) s)))
  where
    beside : (t : ℕ) → SameLog (with_edits t (e ∷ es) s) (with_entries (changes t (e ∷ es) s) s) → SameLog (made_in session t (e ∷ es) s) (with_entries (changes t (e ∷ es) s) s)
    beside t x = record { settings = x.settings; found = x.found; entries = x.entries; forced = x.forced; pages = x.pages; files = x.files }

statement_same : (session : ℕ) (m : Meant) (s : State) → SameLog ((statement session m s).1) (performed (work_of_statement session m s) s)
statement_same session (Refuses r) s = same_log s
statement_same session (Makes edits) s = made_same session edits s

settled_same : (session : ℕ) (a b : State) → SameLog a b → SameLog (session_ended session a) b
settled_same session a b x = record { settings = x.settings; found = x.found; entries = x.entries; forced = x.forced; pages = x.pages; files = x.files }

commit_same : (session : ℕ) (o : Option ℕ) (s : State) → SameLog ((commit_of session o s).1) (performed (work_of_commit session o s) s)
commit_same session None s = settled_same session (forced_where (is_durable session s) s) (forced_where (is_durable session s) s) (same_log (forced_where (is_durable session s) s))
commit_same session (Some t) s =
    let end : State = forced_where (is_durable session s) (with_entry (Commit t) s) in
    unless_same (no_position (end_length ∷ []) s) Done (session_ended session end) s (record { entries = Commit t ∷ []; force = is_durable session s }) (settled_same session end end (same_log end))

pub rolled_same : (t : ℕ) (s : State) → SameLog (rolled_back t s) (with_entries (rolled_entries t s) s)
rolled_same t s = equal_log (rolled_back t s) (with_entries (rolled_entries t s) s) (edits_then t (reversals t s.entries) (Abort t) s)

rollback_same : (session : ℕ) (o : Option ℕ) (s : State) → SameLog ((rollback_of session o s).1) (performed (work_of_rollback o s) s)
rollback_same session None s = settled_same session s s (same_log s)
rollback_same session (Some t) s =
    unless_same (no_position (rollback_lengths t s) s) Done (session_ended session (rolled_back t s)) s (record { entries = rolled_entries t s; force = false })
    (settled_same session (rolled_back t s) (with_entries (rolled_entries t s) s) (rolled_same t s))

system_done_same : (edits : List CellEdit) (s : State) → SameLog (system_done edits s) (performed (system_work edits s) s)
system_done_same edits s =
    equal_log (system_done edits s) (performed (system_work edits s) s) (ap (forced_where s.settings.durable_commits) (edits_then (next s) edits (Commit (next s)) s))

system_same : (m : Meant) (s : State) → SameLog ((system m s).1) (performed (work_of_system m s) s)
system_same (Refuses r) s = same_log s
system_same (Makes edits) s = unless_same (no_system_position edits s) Done (system_done edits s) s (system_work edits s) (system_done_same edits s)

-- ---- readers

answer_same : (o : Option Refusal) (reply : Reply) (after s : State) → SameLog after s → SameLog ((answer_unless o (reply, after) s).1) s
answer_same None reply after s x = x
answer_same (Some r) reply after s x = same_log s

reader_same : (reader : ℕ → Option Reader) (s : State) → SameLog (record s { reader = reader }) s
reader_same reader s = record { settings = refl; found = refl; entries = refl; forced = refl; pages = refl; files = refl }

open_same : (session : ℕ) (name : List ℕ) (o : Option PlacedRow) (s : State) → SameLog ((open_at session name o s).1) s
open_same session name None s = same_log s
open_same session name (Some r) s = answer_same (option_map BookmarkBusy (reader_on name s)) Done _ s (reader_same _ s)

opened_same : (session : ℕ) (name : List ℕ) (s : State) (c : Bool) → SameLog ((cond c (refused (BookmarkBusy session) s) (open_at session name (bookmark name s) s)).1) s
opened_same session name s true = same_log s
opened_same session name s false = open_same session name (bookmark name s) s

given_same : (session : ℕ) (o : Option Reader) (n : ℕ) (s : State) → SameLog ((given session o n s).1) s
given_same session None n s = same_log s
given_same session (Some r) n s = answer_same (no_skip (next_read_of r n s)) ((given_to session r n s).0) ((given_to session r n s).1) s (reader_same _ s)

closed_same : (session : ℕ) (o : Option Reader) (s : State) → SameLog ((closed session o s).1) s
closed_same session None s = same_log s
closed_same session (Some r) s = reader_same _ s

-- ---- backups

set_same : (set : ℕ) (standing : Option SetStanding) (s : State) → SameLog (with_set set standing s) s
set_same set standing s = record { settings = refl; found = refl; entries = refl; forced = refl; pages = refl; files = refl }

pub changes_same : (t : ℕ) (edits : List CellEdit) (a b : State) → SameLog a b → changes t edits a ≡ changes t edits b
changes_same t [] a b x = refl
changes_same t (edit ∷ edits) a b x =
    let place : place_for edit.place a ≡ place_for edit.place b = place_same edit.place a b x in
    let same : SameLog (with_edit t edit a) (with_edit t edit b) =
    subst (λ p. SameLog (with_edit t edit a) (with_entry (Change t p edit.before edit.after) b)) place (entry_same (Change t (place_for edit.place a) edit.before edit.after) a b x) in
    ap₂ (λ p (es : List Entry). Change t p edit.before edit.after ∷ es) place (changes_same t edits (with_edit t edit a) (with_edit t edit b) same)

-- a transaction of its own, once the log is forced and the set is written
row_same : (set : ℕ) (standing : Option SetStanding) (edits : List CellEdit) (s : State) → SameLog (system_done edits (with_set set standing (all_forced s))) (performed (system_work edits (all_forced s)) (all_forced s))
row_same set standing edits s =
    let beside : State = with_set set standing (all_forced s) in
    let same : system_work edits beside ≡ system_work edits (all_forced s) = work_same edits beside (all_forced s) (set_same set standing (all_forced s)) refl in
    same_then (system_done edits beside) (performed (system_work edits beside) beside) (performed (system_work edits (all_forced s)) (all_forced s)) (system_done_same edits beside)
    (subst (λ (w : Work). SameLog (performed (system_work edits beside) beside) (performed w (all_forced s))) same
    (performed_same (system_work edits beside) beside (all_forced s) (set_same set standing (all_forced s))))
  where
    work_same : (edits : List CellEdit) (a b : State) → SameLog a b → next a ≡ next b → system_work edits a ≡ system_work edits b
    work_same edits a b x is =
        ap₂ (λ (es : List Entry) c. record { entries = es; force = c })
        (ap₂ (λ (es : List Entry) t. es ++ Commit t ∷ []) (ap (λ t. changes t edits a) is ∙ changes_same (next b) edits a b x) is)
        (ap (λ (t : Settings). t.durable_commits) x.settings)

stop_same : (s : State) (o : Option PlacedRow) → SameLog (elim o [ None ↦ s | Some r ↦ system_done (deletes 6 r ∷ []) s ]) (all_performed (stop_works s o) s)
stop_same s None = same_log s
stop_same s (Some r) = system_done_same (deletes 6 r ∷ []) s

backed_same : (set : ℕ) (work : SetWork) (s : State) → SameLog ((backed_up set work s).1) (all_performed (works_of_set set work s) s)
backed_same set (MakesSet false) s = set_same set (Some (Readable (full_now s))) (all_forced s)
backed_same set (MakesSet true) s = row_same set (Some (Readable (full_now s))) (set_edit (row_of_set set s) set (write_position s) ∷ []) s
backed_same set ContinuesSet s = row_same set (extended_now (s.sets set) s) (set_edit (row_of_set set s) set (write_position s) ∷ []) s
backed_same set EndsSet s = stop_same s (row_of_set set s)

works_same : (o : Option Refusal) (reply : Reply) (after s : State) (ws : List Work) → SameLog after (all_performed ws s) → SameLog ((answer_unless o (reply, after) s).1) (all_performed (works_unless o ws) s)
works_same None reply after s ws x = x
works_same (Some r) reply after s ws x = same_log s

backup_same : (session set : ℕ) (work : SetWork) (s : State) → SameLog ((backup_line session set work s).1) (all_performed (works_of_backup session set work s) s)
backup_same session set work s =
    works_same (option_or (backup_refusal session s set work) (backup_position set work s)) ((backed_up set work s).0) ((backed_up set work s).1) s (works_of_set set work s) (backed_same set work s)

-- ---- all lines

begin_same : (s : State) → SameLog (begin_checkpoint s) s
unfolding begin_checkpoint
begin_same s = record { settings = refl; found = refl; entries = refl; forced = refl; pages = refl; files = refl }

line_same : (session : ℕ) (command : Command) (s : State) → is_blocking_line command ≡ false → SameLog ((line session command s).1) (all_performed (works_of session command s) s)
unfolding line works_of
line_same session (Insert table values) s n = statement_same session _ s
line_same session (Update table sets cond) s n = statement_same session _ s
line_same session (Delete table cond) s n = statement_same session _ s
line_same session (Select table items cond order) s n = selected-has (λ (after : State). SameLog after s) (meant_by_select session s table items cond order) s (same_log s)
line_same session CommitLine s n = commit_same session (s.own session) s
line_same session Rollback s n = rollback_same session (s.own session) s
line_same session DurableCommit s n = record { settings = refl; found = refl; entries = refl; forced = refl; pages = refl; files = refl }
line_same session Flush s n = same_log (all_forced s)
line_same session LogHolds s n = same_log s
line_same session Bookmark s n = same_log s
line_same session (CreateTable name columns key) s n = system_same _ s
line_same session (DropTable name) s n = system_same _ s
line_same session (CreateIndex name table columns unique) s n = system_same _ s
line_same session (DropIndex name) s n = system_same _ s
line_same session (XlaCreate name) s n = system_same _ s
line_same session (XlaDelete name) s n = system_same _ s
line_same session (XlaSubscribe table name) s n = system_same _ s
line_same session (XlaUnsubscribe table name) s n = system_same _ s
line_same session XlaAcknowledge s n = system_same _ s
line_same session (XlaOpen name) s n = opened_same session name s (is_some (s.reader session))
line_same session (XlaNext count) s n = given_same session (s.reader session) count s
line_same session XlaClose s n = closed_same session (s.reader session) s
line_same session (BackupLine set kind) s n = backup_same session set (set_work kind set s) s
line_same session Ckpt s n = answer_same (option_or (checkpoint_open s) (no_checkpoint_number s)) (begun_reply s) (begin_checkpoint s) s (begin_same s)
line_same session CkptBlocking s n = absurd (true≢false n)

-- ---- checkpoints that complete at once

whole_same : (b : Underway) (s t : State) (files : ℕ → Bool) → SameLog s t → SameLog (record (completed b s) { files = files }) (record (all_forced t) { files = files })
unfolding completed all_forced
whole_same b s t files x = record { settings = x.settings; found = x.found; entries = x.entries; forced = ap length (trail_same s t x); pages = x.pages; files = refl }

whole_where : (b : Underway) (s t : State) (c : Bool) → c ≡ true → SameLog s t → SameLog (record (cond c (completed b s) s) { files = t.files }) (all_forced t)
unfolding all_forced
whole_where b s t c is x =
    subst (λ c. SameLog (record (cond c (completed b s) s) { files = t.files }) (all_forced t)) (sym is) (whole_same b s t t.files x)

completes_same : (s : State) → SameLog (record (with_completion (with_all_copies (begin_checkpoint s))) { files = s.files }) (all_forced s)
unfolding with_completion with_all_copies begin_checkpoint
completes_same s =
    let b : Underway = record (begun_in s) { left = drop s.pages ((begun_in s).left) } in
    whole_where b (copied s.pages (Some (begun_in s)) (begin_checkpoint s)) s (length b.left == 0) (ap (λ (l : List ℕ). length l == 0) (none_left s))
    (record { settings = refl; found = refl; entries = refl; forced = refl; pages = refl; files = refl })

blocking_same : (session : ℕ) (s : State) → SameLog (record ((line session CkptBlocking s).1) { files = s.files }) (all_performed (works_of session CkptBlocking s) s)
unfolding line works_of
blocking_same session s = by (option_or (checkpoint_open s) (option_or (least_open (live_in s)) (no_checkpoint_number s)))
  where
    by : (o : Option Refusal) → SameLog (record ((answer_unless o (begun_reply s, with_completion (with_all_copies (begin_checkpoint s))) s).1) { files = s.files }) (performed (unless_refused o (force_where true)) s)
    by None = completes_same s
    by (Some r) = record { settings = refl; found = refl; entries = refl; forced = refl; pages = refl; files = refl }

-- ---- the end of a run

roll_same : (ts : List ℕ) (s : State) → SameLog ((roll_all ts s).1) (performed (work_of_all ts s) s)
roll_same [] s = same_log (all_forced s)
roll_same (t ∷ ts) s = by (has_position t s) (roll_same ts (ended_one t s))
  where
    rolled : State
    rolled = with_entries (rolled_entries t s) s

    aside : SameLog (ended_one t s) rolled
    aside = let x = rolled_same t s in record { settings = x.settings; found = x.found; entries = x.entries; forced = x.forced; pages = x.pages; files = x.files }

    by : (c : Bool) → SameLog ((roll_all ts (ended_one t s)).1) (performed (work_of_all ts (ended_one t s)) (ended_one t s)) → SameLog ((elim c as (λ x. Bool × State) [ true ↦ roll_all ts (ended_one t s) | false ↦ (false, s) ]).1) (performed (elim c [ true ↦ work_behind (rolled_entries t s) (work_of_all ts (ended_one t s)) | false ↦ no_work ]) s)
    by false rest = same_log s
    by true rest =
        let w : Work = work_of_all ts (ended_one t s) in
        same_then ((roll_all ts (ended_one t s)).1) (performed w (ended_one t s)) (performed (work_behind (rolled_entries t s) w) s) rest
        (same_then (performed w (ended_one t s)) (performed w rolled) (performed (work_behind (rolled_entries t s) w) s) (performed_same w (ended_one t s) rolled aside)
        (equal_log (performed w rolled) (performed (work_behind (rolled_entries t s) w) s) (ap (forced_where w.force) (sym (entries_then (rolled_entries t s) w.entries s)))))

end_same_log : (s : State) → SameLog ((ended s).1) (performed (work_of_end s) s)
unfolding ended
end_same_log s =
    let start : State = record s { underway = None } in
    let beside : SameLog start s = record { settings = refl; found = refl; entries = refl; forced = refl; pages = refl; files = refl } in
    same_then ((roll_all (live_in s) start).1) (performed (work_of_end s) start) (performed (work_of_end s) s) (roll_same (live_in s) start) (performed_same (work_of_end s) start s beside)

pub lines_leave : LinesAreWorks
lines_leave = record { each = line_same; blocking = blocking_same; end = end_same_log }
