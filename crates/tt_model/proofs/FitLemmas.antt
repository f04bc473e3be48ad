-- The works of a line fit into the log.
use Rattle.std.proofs.Common.{◌≡◌, ◌∙◌, ℕ, Bool, true, false, not, List, [], ◌∷◌, ◌++◌, map, Option, Some, None, refl, sym, ap}
use Rattle.std.specs.Prelude.{nat_lt, if◌then◌else◌}
use Rattle.std.specs.Option.{option_or}
use Rattle.tt_value.specs.declared.position.Position.{Position}
use Rattle.tt_record.specs.Place.{end_of, next_position}
use Rattle.tt_set.specs.declared.settings.Settings.{Settings}
use Rattle.tt_model.specs.Run.{ended_one, has_position}
use Rattle.tt_model.proofs.WorkLemmas.{edits_then, rolled_same}
use Rattle.tt_value.specs.BigEndian.{big_endian}
use Rattle.tt_value.specs.declared.refusal.Refusal.{Refusal}
use Rattle.tt_value.specs.declared.refusal.Refusal.TheVariants.{LogOut}
use Rattle.tt_value.specs.declared.value.Cell.{Cell}
use Rattle.tt_parse.specs.declared.command.Command.TheVariants.{CreateTable, DropTable, CreateIndex, DropIndex, Insert, Update, Delete, Select, Commit as CommitLine, Rollback, DurableCommit, Flush, Ckpt, CkptBlocking, LogHolds, Bookmark, Backup as BackupLine, XlaCreate, XlaDelete, XlaSubscribe, XlaUnsubscribe, XlaOpen, XlaNext, XlaAcknowledge, XlaClose}
use Rattle.tt_record.specs.declared.entry.Entry.{Entry}
use Rattle.tt_record.specs.declared.entry.Entry.TheVariants.{Change, Commit, Abort}
use Rattle.tt_record.specs.Entry.{length_of}
use Rattle.tt_model.specs.Meaning.{Meant, Refuses, Makes, refused_if}
use Rattle.tt_model.specs.Tables.{PlacedRow}
use Rattle.tt_model.specs.Backups.{backup_refusal, row_of_set, set_edit, SetWork, MakesSet, ContinuesSet, EndsSet, set_work}
use Rattle.tt_model.specs.System.{deletes}
use Rattle.tt_model.specs.State.{State, all_forced, with_entry, lengths_fit, live_in, next, place_for, reversals, with_edit, write_position}
use Rattle.tt_model.specs.declared.definition.CellEdit.{CellEdit}
use Rattle.tt_model.specs.Step.{backup_position, checkpoint_open, edit_length, end_length, is_durable, least_open, no_checkpoint_number, no_number, no_number_for, no_position, no_system_position, number_for, rollback_lengths, rolled_back}
use Rattle.tt_model.specs.Works.{AllFit, EndFits, Fits, Work, with_entries, work_behind, work_of_all, WorksFit, changes, force_where, no_work, rolled_entries, row_work, stop_works, system_work, unless_refused, work_of_blocking, work_of_commit, work_of_edits, work_of_rollback, work_of_statement, work_of_system, works_of, works_of_backup, works_unless, works_of_set}

change_length : (t p : ℕ) (b a : Cell) → length_of (Change t p b a) ≡ length_of (Change 1 0 b a)
unfolding big_endian
change_length t p b a = refl

commit_length : (t : ℕ) → length_of (Commit t) ≡ end_length
unfolding big_endian
commit_length t = refl

abort_length : (t : ℕ) → length_of (Abort t) ≡ end_length
unfolding big_endian
abort_length t = refl

pub lengths_are : (t : ℕ) (edits : List CellEdit) (s : State) → map length_of (changes t edits s) ≡ map edit_length edits
lengths_are t [] s = refl
lengths_are t (e ∷ es) s =
    ap (λ n. n ∷ map length_of (changes t es (with_edit t e s))) (change_length t (place_for e.place s) e.before e.after) ∙ ap (λ (ns : List ℕ). edit_length e ∷ ns) (lengths_are t es (with_edit t e s))

lengths_then : (es : List Entry) (e : Entry) → map length_of (es ++ e ∷ []) ≡ map length_of es ++ length_of e ∷ []
lengths_then [] e = refl
lengths_then (x ∷ es) e = ap (λ (ns : List ℕ). length_of x ∷ ns) (lengths_then es e)

-- the lengths of edits with an entry behind them
behind : (t : ℕ) (edits : List CellEdit) (e : Entry) (s : State) → length_of e ≡ end_length → map length_of (changes t edits s ++ e ∷ []) ≡ map edit_length edits ++ end_length ∷ []
behind t edits e s is =
    lengths_then (changes t edits s) e ∙ ap (λ (ns : List ℕ). ns ++ length_of e ∷ []) (lengths_are t edits s) ∙ ap (λ n. map edit_length edits ++ n ∷ []) is

fits_where : (b : Bool) → refused_if (not b) LogOut ≡ None → b ≡ true
fits_where true is = refl
fits_where false is = cc

placed_so : (ns : List ℕ) (s : State) → no_position ns s ≡ None → lengths_fit s.settings.log_file_size (write_position s) ns ≡ true
placed_so ns s is = fits_where (lengths_fit s.settings.log_file_size (write_position s) ns) is

last_none : (a b : Option Refusal) → option_or a b ≡ None → b ≡ None
last_none None b is = is
last_none (Some r) b is = cc

unless_fits : (o : Option Refusal) (w : Work) (s : State) → (o ≡ None → Fits w s) → Fits (unless_refused o w) s
unless_fits None w s fits = fits refl
unless_fits (Some r) w s fits = refl

by_lengths : (w : Work) (ns : List ℕ) (s : State) → map length_of w.entries ≡ ns → no_position ns s ≡ None → Fits w s
by_lengths w ns s is none = ap (λ (ms : List ℕ). lengths_fit s.settings.log_file_size (write_position s) ms) is ∙ placed_so ns s none

edits_fit : (session : ℕ) (edits : List CellEdit) (s : State) → Fits (work_of_edits session edits s) s
edits_fit session [] s = refl
edits_fit session (e ∷ es) s =
    let t : ℕ = number_for (s.own session) s in
    let w : Work = record { entries = changes t (e ∷ es) s; force = false } in
    unless_fits (option_or (no_number_for (s.own session) s) (no_position (map edit_length (e ∷ es)) s)) w s
    (λ none. by_lengths w (map edit_length (e ∷ es)) s (lengths_are t (e ∷ es) s) (last_none (no_number_for (s.own session) s) (no_position (map edit_length (e ∷ es)) s) none))

statement_fits : (session : ℕ) (m : Meant) (s : State) → Fits (work_of_statement session m s) s
statement_fits session (Refuses r) s = refl
statement_fits session (Makes edits) s = edits_fit session edits s

commit_fits : (session : ℕ) (o : Option ℕ) (s : State) → Fits (work_of_commit session o s) s
commit_fits session None s = refl
commit_fits session (Some t) s =
    let w : Work = record { entries = Commit t ∷ []; force = is_durable session s } in
    unless_fits (no_position (end_length ∷ []) s) w s (λ none. by_lengths w (end_length ∷ []) s (ap (λ n. n ∷ []) (commit_length t)) none)

rollback_fits : (o : Option ℕ) (s : State) → Fits (work_of_rollback o s) s
rollback_fits None s = refl
rollback_fits (Some t) s =
    let w : Work = record { entries = rolled_entries t s; force = false } in
    unless_fits (no_position (rollback_lengths t s) s) w s (λ none. by_lengths w (rollback_lengths t s) s (behind t (reversals t s.entries) (Abort t) s (abort_length t)) none)

system_work_fits : (edits : List CellEdit) (s : State) → no_system_position edits s ≡ None → Fits (system_work edits s) s
system_work_fits edits s none =
    by_lengths (system_work edits s) (map edit_length edits ++ end_length ∷ []) s (behind (next s) edits (Commit (next s)) s (commit_length (next s)))
    (last_none (no_number s) (no_position (map edit_length edits ++ end_length ∷ []) s) none)

system_fits : (m : Meant) (s : State) → Fits (work_of_system m s) s
system_fits (Refuses r) s = refl
system_fits (Makes edits) s = unless_fits (no_system_position edits s) (system_work edits s) s (λ none. system_work_fits edits s none)

-- ---- backups

row_fits : (set : ℕ) (s : State) → no_system_position (set_edit (row_of_set set s) set (write_position s) ∷ []) s ≡ None → Fits (row_work set s) (all_forced s)
unfolding all_forced
row_fits set s none = system_work_fits (set_edit (row_of_set set s) set (write_position s) ∷ []) (all_forced s) none

stop_fit : (o : Option PlacedRow) (s : State) → (elim o as (λ x. Option Refusal) [ None ↦ None | Some r ↦ no_system_position (deletes 6 r ∷ []) s ]) ≡ None → AllFit (stop_works s o) s
stop_fit None s none = tt
stop_fit (Some r) s none = (system_work_fits (deletes 6 r ∷ []) s none, tt)

backup_fit : (set : ℕ) (work : SetWork) (s : State) → backup_position set work s ≡ None → AllFit (works_of_set set work s) s
backup_fit set (MakesSet false) s none = (refl, tt)
backup_fit set (MakesSet true) s none = (refl, (row_fits set s none, tt))
backup_fit set ContinuesSet s none = (refl, (row_fits set s none, tt))
backup_fit set EndsSet s none = stop_fit (row_of_set set s) s none

works_fit_unless : (o : Option Refusal) (ws : List Work) (s : State) → (o ≡ None → AllFit ws s) → AllFit (works_unless o ws) s
works_fit_unless None ws s fit = fit refl
works_fit_unless (Some r) ws s fit = tt

kind_fits : (session set : ℕ) (work : SetWork) (s : State) → AllFit (works_of_backup session set work s) s
kind_fits session set work s =
    works_fit_unless (option_or (backup_refusal session s set work) (backup_position set work s)) (works_of_set set work s) s
    (λ none. backup_fit set work s (last_none (backup_refusal session s set work) (backup_position set work s) none))

blocking_fits : (s : State) → Fits (work_of_blocking s) s
blocking_fits s = unless_fits (option_or (checkpoint_open s) (option_or (least_open (live_in s)) (no_checkpoint_number s))) (force_where true) s (λ none. refl)

-- ---- all lines

pub works_fit : WorksFit
unfolding works_of
works_fit session (Insert table values) s = (statement_fits session _ s, tt)
works_fit session (Update table sets cond) s = (statement_fits session _ s, tt)
works_fit session (Delete table cond) s = (statement_fits session _ s, tt)
works_fit session (Select table items cond order) s = tt
works_fit session CommitLine s = (commit_fits session (s.own session) s, tt)
works_fit session Rollback s = (rollback_fits (s.own session) s, tt)
works_fit session DurableCommit s = tt
works_fit session Flush s = (refl, tt)
works_fit session LogHolds s = tt
works_fit session Bookmark s = tt
works_fit session (CreateTable name columns key) s = (system_fits _ s, tt)
works_fit session (DropTable name) s = (system_fits _ s, tt)
works_fit session (CreateIndex name table columns unique) s = (system_fits _ s, tt)
works_fit session (DropIndex name) s = (system_fits _ s, tt)
works_fit session (XlaCreate name) s = (system_fits _ s, tt)
works_fit session (XlaDelete name) s = (system_fits _ s, tt)
works_fit session (XlaSubscribe table name) s = (system_fits _ s, tt)
works_fit session (XlaUnsubscribe table name) s = (system_fits _ s, tt)
works_fit session XlaAcknowledge s = (system_fits _ s, tt)
works_fit session (XlaOpen name) s = tt
works_fit session (XlaNext count) s = tt
works_fit session XlaClose s = tt
works_fit session (BackupLine set kind) s = kind_fits session set (set_work kind set s) s
works_fit session Ckpt s = tt
works_fit session CkptBlocking s = (blocking_fits s, tt)

-- ---- the end of a run

-- Entries get places, and behind them these lengths do: so all do, one behind the other.
fits_on : (es : List Entry) (s : State) (ns : List ℕ) → lengths_fit s.settings.log_file_size (write_position s) (map length_of es) ≡ true
    → lengths_fit s.settings.log_file_size (write_position (with_entries es s)) ns ≡ true → lengths_fit s.settings.log_file_size (write_position s) (map length_of es ++ ns) ≡ true
unfolding with_entry
fits_on [] s ns first rest = rest
fits_on (e ∷ es) s ns first rest = by (nat_lt at.file 1000000) first (λ h. fits_on es (with_entry e s) ns h rest)
  where
    size : ℕ
    size = s.settings.log_file_size

    at : Position
    at = next_position (write_position s) (length_of e) size

    by : (b : Bool) → (elim (if b then Some at else None) as (λ x. Bool) [ None ↦ false | Some p ↦ lengths_fit size (end_of p (length_of e)) (map length_of es) ]) ≡ true
        → (lengths_fit size (end_of at (length_of e)) (map length_of es) ≡ true → lengths_fit size (end_of at (length_of e)) (map length_of es ++ ns) ≡ true)
        → (elim (if b then Some at else None) as (λ x. Bool) [ None ↦ false | Some p ↦ lengths_fit size (end_of p (length_of e)) (map length_of es ++ ns) ]) ≡ true
    by true h more = more h
    by false h more = cc

entries_kept : (es : List Entry) (s : State) → (with_entries es s).settings ≡ s.settings
unfolding with_entry
entries_kept [] s = refl
entries_kept (e ∷ es) s = entries_kept es (with_entry e s)

lengths_both : (xs ys : List Entry) → map length_of (xs ++ ys) ≡ map length_of xs ++ map length_of ys
lengths_both [] ys = refl
lengths_both (x ∷ xs) ys = ap (λ (ns : List ℕ). length_of x ∷ ns) (lengths_both xs ys)

roll_fits : (ts : List ℕ) (s : State) → Fits (work_of_all ts s) s
roll_fits [] s = refl
roll_fits (t ∷ ts) s = by (has_position t s) refl (roll_fits ts (ended_one t s))
  where
    size : ℕ
    size = s.settings.log_file_size

    rolled : List Entry
    rolled = rolled_entries t s

    rest : Work
    rest = work_of_all ts (ended_one t s)

    by : (c : Bool) → has_position t s ≡ c → lengths_fit (ended_one t s).settings.log_file_size (write_position (ended_one t s)) (map length_of rest.entries) ≡ true
        → Fits (elim c as (λ x. Work) [ true ↦ work_behind rolled rest | false ↦ no_work ]) s
    by false is more = refl
    by true is more =
        let lengths : map length_of rolled ≡ rollback_lengths t s = behind t (reversals t s.entries) (Abort t) s (abort_length t) in
        let first : lengths_fit size (write_position s) (map length_of rolled) ≡ true = ap (λ (ns : List ℕ). lengths_fit size (write_position s) ns) lengths ∙ is in
        let same : rolled_back t s ≡ with_entries rolled s = edits_then t (reversals t s.entries) (Abort t) s in
        let kept : (rolled_back t s).settings ≡ s.settings = (rolled_same t s).settings ∙ (entries_kept rolled s) in
        let second : lengths_fit size (write_position (with_entries rolled s)) (map length_of rest.entries) ≡ true =
        ap (λ (x : State). lengths_fit size (write_position x) (map length_of rest.entries)) (sym same)
        ∙ ap (λ (x : Settings). lengths_fit x.log_file_size (write_position (rolled_back t s)) (map length_of rest.entries)) (sym kept) ∙ more in
        ap (λ (ns : List ℕ). lengths_fit size (write_position s) ns) (lengths_both rolled rest.entries) ∙ fits_on rolled s (map length_of rest.entries) first second

pub end_fits : EndFits
end_fits s = roll_fits (live_in s) (record s { underway = None })
