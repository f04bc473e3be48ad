-- A table in which a live transaction changed a row is there, and no round changes what the system tables say of it.
use Rattle.std.proofs.Common.{◌≡◌, inl, inr, ◌⊎◌, ℕ, Bool, true, false, cond, ◌||◌, ◌&&◌, nat_eq, List, [], ◌∷◌, map, Option, Some, None, if◌then◌else◌, refl, sym, ap, ◌∙◌, subst, lit<}
use Rattle.std.specs.Prelude.{◌==◌, length, is_some, option_map, Result, Ok, Err}
use Rattle.std.specs.Option.{option_or}
use Rattle.std.proofs.lemmas.Bool.{cases_Bool, eqb-true, or_cases, and_parts, both_ways}
use Rattle.tt_value.specs.declared.refusal.Refusal.{Refusal}
use Rattle.tt_value.specs.declared.refusal.Refusal.TheVariants.{BookmarkBusy}
use Rattle.tt_value.specs.declared.reply.Reply.{Reply}
use Rattle.tt_value.specs.declared.reply.Reply.TheVariants.{Done}
use Rattle.tt_value.specs.declared.position.Position.{Position}
use Rattle.tt_value.specs.declared.value.Cell.TheVariants.{Full as FullCell}
use Rattle.tt_parse.specs.declared.command.Command.{Command}
use Rattle.tt_parse.specs.declared.command.Command.TheVariants.{CreateTable, DropTable, CreateIndex, DropIndex, Insert, Update, Delete, Select, Commit as CommitLine, Rollback, DurableCommit, Flush, Ckpt, CkptBlocking, LogHolds, Bookmark, Backup as BackupLine, XlaCreate, XlaDelete, XlaSubscribe, XlaUnsubscribe, XlaOpen, XlaNext, XlaAcknowledge, XlaClose}
use Rattle.tt_record.specs.declared.entry.Entry.TheVariants.{Commit, Abort}
use Rattle.tt_model.specs.Trail.{Trail}
use Rattle.tt_model.specs.Committed.{Cells}
use Rattle.tt_model.specs.Live.{live, is_live}
use Rattle.tt_model.specs.Holders.{has_held, is_held_by}
use Rattle.tt_model.specs.Sets.{Readable, SetStanding}
use Rattle.tt_model.specs.Tables.{PlacedRow, table_named, index_named}
use Rattle.tt_model.specs.State.{State, Reader, Underway, live_in, next, catalog, cells_of, write_position, with_entry, with_edit, with_edits, all_forced, reversals}
use Rattle.tt_model.specs.declared.definition.CellEdit.{CellEdit}
use Rattle.tt_model.specs.Meaning.{Meant, Makes, Refuses, meant_by_insert, meant_by_update, meant_by_delete, meant_by_select}
use Rattle.tt_model.specs.System.{bookmark, reader_on, deletes, meant_by_create_index, meant_by_subscribe, meant_by_drop_table, meant_by_drop_index, meant_by_delete_bookmark, meant_by_unsubscribe, meant_by_acknowledge}
use Rattle.tt_model.specs.Backups.{row_of_set, set_edit, full_now, extended_now, with_set, backup_refusal, SetWork, MakesSet, ContinuesSet, EndsSet, set_work}
use Rattle.tt_model.specs.Sound.{whole_table, IsSound, MayEdit}
use Rattle.tt_model.specs.Checkpoint.{begin_checkpoint, copied, with_copies, with_all_copies, complete_where_due, completed, with_completion}
use Rattle.tt_model.specs.Step.{Step, Answers, line, unless_refused, forced_where, statement, made, made_in, number_for, no_number_for, no_position, no_system_position, edit_length, session_ended, is_durable, commit_of, rollback_of, rolled_back, rollback_lengths, end_length, system, system_done, open_at, given, closed, refused, kept_read, with_reader, backed_up, backup_position, checkpoint_open, no_checkpoint_number, least_open, begun_reply, completion_after, no_skip, given_to, next_read_of, backup_line}
use Rattle.tt_model.proofs.AppendLemmas.{cells-Abort}
use Rattle.tt_model.proofs.SteadyLemmas.{is_in-without}
use Rattle.tt_model.proofs.CatalogLemmas.{next-holds_nothing, not_held_user}
use Rattle.tt_model.proofs.EndLemmas.{left_edits}
use Rattle.tt_model.proofs.SoundLines.{writes}
use Rattle.tt_model.proofs.LineLemmas.{create_table-new, create_index_new, create_bookmark-new, subscribe_new, selected-has}
use Rattle.tt_model.proofs.SystemLines.{set-lies, sound-with_set, rewrite-good, rows-good, one_row, drop_table-good, drop_index-good, delete_bookmark-good, unsubscribe-good, acknowledge-good}
use Rattle.tt_model.proofs.BookmarkLemmas.{cells-with_edits, cells_forced}
use Rattle.tt_model.proofs.BookmarkLines.{may_new, may_good}
use Rattle.tt_model.proofs.OneHolderLines.{held_edits}
use Rattle.tt_model.proofs.TableRows.{HasTable, AreAlike, AreElsewhere, alike-pointwise, has-alike, alike-system_done, alike-Commit}
use Rattle.tt_model.proofs.TableLines.{AllOf, table-there, insert-of, update-of, delete-of, deletes-elsewhere, create_table-elsewhere, create_index-elsewhere, create_bookmark-elsewhere, subscribe-elsewhere, drop_table-elsewhere, drop_index-elsewhere, unsubscribe-elsewhere, delete_bookmark-elsewhere, acknowledge-elsewhere, set-elsewhere}

-- A table in which a live transaction changed a row is there.
abbrev pub TablesAreThere : State → Type 0
TablesAreThere s = (m u : ℕ) → is_live u s.entries ≡ true → is_held_by (whole_table m) s.entries u ≡ true → HasTable m (cells_of s)

-- A table in which a live transaction changed a row, after some line, was there before, and the system tables say the same of it.
abbrev pub KeepsTables : State → State → Type 0
KeepsTables s after = (m u : ℕ) → is_live u after.entries ≡ true → is_held_by (whole_table m) after.entries u ≡ true → HasTable m (cells_of s) × AreAlike m (cells_of s) (cells_of after)

pub there-after : (s after : State) → KeepsTables s after → TablesAreThere after
there-after s after k m u l h = let both : HasTable m (cells_of s) × AreAlike m (cells_of s) (cells_of after) = k m u l h in has-alike m (cells_of s) (cells_of after) (both.1) (both.0)

same_alike : (m : ℕ) (cells : Cells) → AreAlike m cells cells
same_alike m cells = alike-pointwise m cells cells (λ q. refl)

leaves-self : (s : State) → TablesAreThere s → KeepsTables s s
leaves-self s k m u l h = (k m u l h, same_alike m (cells_of s))

leaves-beside : (s mid after : State) → after.entries ≡ mid.entries → cells_of after ≡ cells_of mid → KeepsTables s mid → KeepsTables s after
leaves-beside s mid after e c k m u l h =
    let both : HasTable m (cells_of s) × AreAlike m (cells_of s) (cells_of mid)
    = k m u (subst (λ (es : Trail). is_live u es ≡ true) e l) (subst (λ (es : Trail). is_held_by (whole_table m) es u ≡ true) e h) in
    (both.0, subst (AreAlike m (cells_of s)) (sym c) (both.1))

leaves-unless : (o : Option Refusal) (reply : Reply) (after s : State) → TablesAreThere s → KeepsTables s after → KeepsTables s ((unless_refused o (reply, after) s).1)
leaves-unless None reply after s k f = f
leaves-unless (Some r) reply after s k f = leaves-self s k

entries_forced : (c : Bool) (s : State) → (forced_where c s).entries ≡ s.entries
unfolding all_forced
entries_forced true s = refl
entries_forced false s = refl

leaves-forced : (c : Bool) (s mid : State) → KeepsTables s mid → KeepsTables s (forced_where c mid)
leaves-forced c s mid k = leaves-beside s mid (forced_where c mid) (entries_forced c mid) (cells_forced c mid) k

-- ---- statements

held_of : (T : ℕ → Type 0) (m u t : ℕ) (edits : List CellEdit) (s : State) → AllOf T edits → is_held_by (whole_table m) ((with_edits t edits s).entries) u ≡ true →
    T m ⊎ (is_held_by (whole_table m) s.entries u ≡ true)
unfolding with_entry
held_of T m u t [] s f h = inr h
held_of T m u t (e ∷ es) s f h = elim (held_of T m u t es (with_edit t e s) (f.1) h) [
  | inl y ↦ inl y
  | inr k ↦ elim (or_cases (nat_eq u t && (has_held (whole_table m) e.before || has_held (whole_table m) e.after)) (is_held_by (whole_table m) s.entries u) k) [
    | inl y ↦ inl ((f.0) m ((and_parts (nat_eq u t) (has_held (whole_table m) e.before || has_held (whole_table m) e.after) y).1))
    | inr n ↦ inr n
  ]
]

-- Who changed something before and is live now, was live before.
was_live : (m u t : ℕ) (edits : List CellEdit) (s : State) → (is_live t s.entries ≡ true) ⊎ (t ≡ next s) → is_live u ((with_edits t edits s).entries) ≡ true →
    is_held_by (whole_table m) s.entries u ≡ true → is_live u s.entries ≡ true
was_live m u t edits s w l h = elim (cases_Bool (nat_eq t u)) [
  | inr n ↦ left_edits u t edits s n l
  | inl y ↦
      let same : t ≡ u = eqb-true t u y in
      elim w [
        | inl lives ↦ ap (λ x. is_live x s.entries) (sym same) ∙ lives
        | inr fresh ↦ absurd (both_ways (is_held_by (whole_table m) s.entries (next s)) (next-holds_nothing (whole_table m) s)
            (ap (is_held_by (whole_table m) s.entries) (sym fresh ∙ same) ∙ h))
      ]
]

leaves_edits : (t : ℕ) (edits : List CellEdit) (s : State) → TablesAreThere s → (is_live t s.entries ≡ true) ⊎ (t ≡ next s) → AllOf (λ m. HasTable m (cells_of s)) edits → KeepsTables s (with_edits t edits s)
leaves_edits t edits s k w f m u l h =
    let there : HasTable m (cells_of s) = elim (held_of (λ n. HasTable n (cells_of s)) m u t edits s f h) [
      | inl y ↦ y
      | inr before ↦ k m u (was_live m u t edits s w l before) before
    ] in
    (there, subst (AreAlike m (cells_of s)) (sym (cells-with_edits t edits s)) (same_alike m (cells_of s)))

leaves-made : (session : ℕ) (edits : List CellEdit) (s : State) → IsSound s → TablesAreThere s → AllOf (λ m. HasTable m (cells_of s)) edits → KeepsTables s ((made session edits s).1)
leaves-made session [] s h k f = leaves-self s k
leaves-made session (e ∷ es) s h k f =
    let t : ℕ = number_for (s.own session) s in
    leaves-unless (option_or (no_number_for (s.own session) s) (no_position (map edit_length (e ∷ es)) s)) _ (made_in session t (e ∷ es) s) s k
    (leaves-beside s (with_edits t (e ∷ es) s) (made_in session t (e ∷ es) s) refl refl (leaves_edits t (e ∷ es) s k (writes s session h) f))

leaves-statement : (session : ℕ) (m : Meant) (s : State) → IsSound s → TablesAreThere s → ((edits : List CellEdit) → m ≡ Makes edits → AllOf (λ n. HasTable n (cells_of s)) edits) →
    KeepsTables s ((statement session m s).1)
leaves-statement session (Refuses r) s h k f = leaves-self s k
leaves-statement session (Makes edits) s h k f = leaves-made session edits s h k (f edits refl)

-- ---- commits and rollbacks

leaves_Commit : (t : ℕ) (s : State) → IsSound s → is_live t s.entries ≡ true → TablesAreThere s → KeepsTables s (with_entry (Commit t) s)
unfolding with_entry live
leaves_Commit t s h lives k m u l held = (k m u ((is_in-without t u (live s.entries) l).1) held, alike-Commit s t h lives m)

leaves-commit : (session : ℕ) (o : Option ℕ) (s : State) → IsSound s → s.own session ≡ o → TablesAreThere s → KeepsTables s ((commit_of session o s).1)
leaves-commit session None s h e k =
    leaves-beside s (forced_where (is_durable session s) s) (session_ended session (forced_where (is_durable session s) s)) refl refl (leaves-forced (is_durable session s) s s (leaves-self s k))
leaves-commit session (Some t) s h e k =
    let mid : State = with_entry (Commit t) s in
    let end : State = forced_where (is_durable session s) mid in
    leaves-unless (no_position (end_length ∷ []) s) Done (session_ended session end) s k
    (leaves-beside s end (session_ended session end) refl refl (leaves-forced (is_durable session s) s mid (leaves_Commit t s h ((h.owned).live session t e) k)))

leaves_Abort : (t : ℕ) (edits : List CellEdit) (s : State) → TablesAreThere s → KeepsTables s (with_entry (Abort t) (with_edits t edits s))
unfolding with_entry live
leaves_Abort t edits s k m u l h =
    let left : (nat_eq t u ≡ false) × (is_live u ((with_edits t edits s).entries) ≡ true) = is_in-without t u (live ((with_edits t edits s).entries)) l in (
      k m u (left_edits u t edits s (left.0) (left.1)) (held_edits (whole_table m) u t edits s (left.0) h),
      subst (AreAlike m (cells_of s)) (sym (cells-Abort t (with_edits t edits s) ∙ cells-with_edits t edits s)) (same_alike m (cells_of s)),
    )

leaves-rollback : (session : ℕ) (o : Option ℕ) (s : State) → TablesAreThere s → KeepsTables s ((rollback_of session o s).1)
leaves-rollback session None s k = leaves-beside s s (session_ended session s) refl refl (leaves-self s k)
leaves-rollback session (Some t) s k =
    leaves-unless (no_position (rollback_lengths t s) s) Done (session_ended session (rolled_back t s)) s k
    (leaves-beside s (rolled_back t s) (session_ended session (rolled_back t s)) refl refl (leaves_Abort t (reversals t s.entries) s k))

-- ---- transactions of their own

-- The edits leave a table in which a live transaction changed a row.
abbrev LeaveHeld : State → List CellEdit → Type 0
LeaveHeld s edits = (m u : ℕ) → is_live u s.entries ≡ true → is_held_by (whole_table m) s.entries u ≡ true → AreElsewhere m edits

system_left : (m u t : ℕ) (edits : List CellEdit) (s : State) → is_live u ((with_entry (Commit t) (with_edits t edits s)).entries) ≡ true →
    is_held_by (whole_table m) ((with_entry (Commit t) (with_edits t edits s)).entries) u ≡ true → (is_live u s.entries ≡ true) × (is_held_by (whole_table m) s.entries u ≡ true)
unfolding with_entry live
system_left m u t edits s l h =
    let left : (nat_eq t u ≡ false) × (is_live u ((with_edits t edits s).entries) ≡ true) = is_in-without t u (live ((with_edits t edits s).entries)) l in
    (left_edits u t edits s (left.0) (left.1), held_edits (whole_table m) u t edits s (left.0) h)

leaves_system_done : (edits : List CellEdit) (s : State) → IsSound s → TablesAreThere s → MayEdit (next s) edits s → LeaveHeld s edits → KeepsTables s (system_done edits s)
leaves_system_done edits s h k may elsewhere m u l held =
    let done : State = with_entry (Commit (next s)) (with_edits (next s) edits s) in
    let same : (system_done edits s).entries ≡ done.entries = entries_forced s.settings.durable_commits done in
    let left : (is_live u s.entries ≡ true) × (is_held_by (whole_table m) s.entries u ≡ true)
    = system_left m u (next s) edits s (subst (λ (es : Trail). is_live u es ≡ true) same l) (subst (λ (es : Trail). is_held_by (whole_table m) es u ≡ true) same held) in
    (k m u (left.0) (left.1), alike-system_done m edits s h may (elsewhere m u (left.0) (left.1)))

leaves-system : (m : Meant) (s : State) → IsSound s → TablesAreThere s → ((edits : List CellEdit) → m ≡ Makes edits → MayEdit (next s) edits s × LeaveHeld s edits) → KeepsTables s ((system m s).1)
leaves-system (Refuses r) s h k f = leaves-self s k
leaves-system (Makes edits) s h k f =
    leaves-unless (no_system_position edits s) Done (system_done edits s) s k (leaves_system_done edits s h k ((f edits refl).0) ((f edits refl).1))

-- ---- backups

set_may : (o : Option PlacedRow) (set : ℕ) (end : Position) (s : State) → IsSound s → ((r : PlacedRow) → o ≡ Some r → cells_of s (r.0) ≡ FullCell 6 (r.1)) → MayEdit (next s) (set_edit o set end ∷ []) s
set_may None set end s h l = may_new s (set_edit None set end ∷ []) h (refl, refl, tt)
set_may (Some r) set end s h l = may_good s (set_edit (Some r) set end ∷ []) h (rewrite-good s 6 r _ (lit< tt) (l r refl) (not_held_user _ refl, tt))

leaves_with_set : (set : ℕ) (standing : Option SetStanding) (s : State) → TablesAreThere s → KeepsTables s (with_set set standing (all_forced s))
unfolding all_forced
leaves_with_set set standing s k = leaves-self s k

leaves_set : (set : ℕ) (standing : Option SetStanding) (s : State) → IsSound s → TablesAreThere s →
    KeepsTables s (system_done (set_edit (row_of_set set s) set (write_position s) ∷ []) (with_set set standing (all_forced s)))
unfolding all_forced
leaves_set set standing s h k =
    let mid : State = with_set set standing (all_forced s) in
    let edits : List CellEdit = set_edit (row_of_set set s) set (write_position s) ∷ [] in
    leaves_system_done edits mid (sound-with_set set standing s h) k
    (set_may (row_of_set set s) set (write_position s) mid (sound-with_set set standing s h) (λ r e. set-lies set s r e))
    (λ m u l held. set-elsewhere m (row_of_set set s) set (write_position s))

leaves_stop : (set : ℕ) (s : State) (o : Option PlacedRow) → row_of_set set s ≡ o → IsSound s → TablesAreThere s → KeepsTables s (elim o as (λ x. State) [ None ↦ s | Some r ↦ system_done (deletes 6 r ∷ []) s ])
leaves_stop set s None e h k = leaves-self s k
leaves_stop set s (Some r) e h k =
    leaves_system_done (map (deletes 6) (r ∷ [])) s h k (may_good s (map (deletes 6) (r ∷ [])) h (rows-good s 6 (r ∷ []) (lit< tt) (one_row 6 s r (set-lies set s r e)) tt))
    (λ m u l held. deletes-elsewhere m 6 (r ∷ []) refl refl)

leaves_backed_up : (set : ℕ) (work : SetWork) (s : State) → IsSound s → TablesAreThere s → KeepsTables s ((backed_up set work s).1)
leaves_backed_up set (MakesSet false) s h k = leaves_with_set set (Some (Readable (full_now s))) s k
leaves_backed_up set (MakesSet true) s h k = leaves_set set (Some (Readable (full_now s))) s h k
leaves_backed_up set ContinuesSet s h k = leaves_set set (extended_now (s.sets set) s) s h k
leaves_backed_up set EndsSet s h k = leaves_stop set s (row_of_set set s) refl h k

leaves-backup : (session set : ℕ) (work : SetWork) (s : State) → IsSound s → TablesAreThere s → KeepsTables s ((backup_line session set work s).1)
leaves-backup session set work s h k =
    leaves-unless (option_or (backup_refusal session s set work) (backup_position set work s)) ((backed_up set work s).0) ((backed_up set work s).1) s k (leaves_backed_up set work s h k)

-- ---- readers

leaves_open_at : (session : ℕ) (name : List ℕ) (o : Option PlacedRow) (s : State) → TablesAreThere s → KeepsTables s ((open_at session name o s).1)
leaves_open_at session name None s k = leaves-self s k
leaves_open_at session name (Some r) s k =
    leaves-unless (option_map BookmarkBusy (reader_on name s)) Done (with_reader session (Some (record { bookmark = name; place = kept_read r })) s) s k (leaves-self s k)

leaves_opened : (session : ℕ) (name : List ℕ) (s : State) (c : Bool) → TablesAreThere s → KeepsTables s ((cond c (refused (BookmarkBusy session) s) (open_at session name (bookmark name s) s)).1)
leaves_opened session name s true k = leaves-self s k
leaves_opened session name s false k = leaves_open_at session name (bookmark name s) s k

leaves_given : (session : ℕ) (o : Option Reader) (n : ℕ) (s : State) → TablesAreThere s → KeepsTables s ((given session o n s).1)
leaves_given session None n s k = leaves-self s k
leaves_given session (Some r) n s k =
    leaves-unless (no_skip (next_read_of r n s)) ((given_to session r n s).0) ((given_to session r n s).1) s k (leaves-self s k)

leaves_closed : (session : ℕ) (o : Option Reader) (s : State) → TablesAreThere s → KeepsTables s ((closed session o s).1)
leaves_closed session None s k = leaves-self s k
leaves_closed session (Some r) s k = leaves-self s k

-- ---- checkpoints

through_copied : (base : State) (n : ℕ) (o : Option Underway) (s : State) → KeepsTables base s → KeepsTables base (copied n o s)
through_copied base n None s k = k
through_copied base n (Some b) s k = k

through_all_copies : (base s : State) → KeepsTables base s → KeepsTables base (with_all_copies s)
unfolding with_all_copies
through_all_copies base s k = through_copied base s.pages s.underway s k

through_begin : (base s : State) → KeepsTables base s → KeepsTables base (begin_checkpoint s)
unfolding begin_checkpoint
through_begin base s k = k

through_completed : (base : State) (b : Underway) (s : State) → KeepsTables base s → KeepsTables base (completed b s)
unfolding completed all_forced
through_completed base b s k = k

through_due : (base : State) (b : Underway) (s : State) (c : Bool) → KeepsTables base s → KeepsTables base (if c then completed b s else s)
through_due base b s true k = through_completed base b s k
through_due base b s false k = k

through_where : (base : State) (o : Option Underway) (s : State) → KeepsTables base s → KeepsTables base (complete_where_due o s)
through_where base None s k = k
through_where base (Some b) s k = through_due base b s (length b.left == 0) k

through_completion : (base s : State) → KeepsTables base s → KeepsTables base (with_completion s)
unfolding with_completion
through_completion base s k = through_where base s.underway s k

through_after : (base : State) (o : Option Underway) (s : State) → KeepsTables base s → KeepsTables base (completion_after o s)
through_after base None s k = k
through_after base (Some b) s k = through_completion base s k

through_forced : (base s : State) → KeepsTables base s → KeepsTables base (all_forced s)
unfolding all_forced
through_forced base s k = k

-- ---- each line

leaves-line : (session : ℕ) (command : Command) (s : State) → IsSound s → TablesAreThere s → KeepsTables s ((line session command s).1)
unfolding line meant_by_insert meant_by_update meant_by_delete meant_by_select meant_by_create_index meant_by_subscribe meant_by_drop_table meant_by_drop_index meant_by_delete_bookmark meant_by_unsubscribe meant_by_acknowledge
leaves-line session (Insert table values) s h k =
    leaves-statement session _ s h k (λ edits m. insert-of (λ x. HasTable x (cells_of s)) session s values (table_named table (catalog s)) edits (λ t e. table-there s table t e) m)
leaves-line session (Update table sets condition) s h k =
    leaves-statement session _ s h k (λ edits m. update-of (λ x. HasTable x (cells_of s)) session s sets condition (table_named table (catalog s)) edits (λ t e. table-there s table t e) m)
leaves-line session (Delete table condition) s h k =
    leaves-statement session _ s h k (λ edits m. delete-of (λ x. HasTable x (cells_of s)) session s condition (table_named table (catalog s)) edits (λ t e. table-there s table t e) m)
leaves-line session (Select table items condition order) s h k = selected-has (KeepsTables s) (meant_by_select session s table items condition order) s (leaves-self s k)
leaves-line session CommitLine s h k = leaves-commit session (s.own session) s h refl k
leaves-line session Rollback s h k = leaves-rollback session (s.own session) s k
leaves-line session DurableCommit s h k = leaves-self s k
leaves-line session Flush s h k = through_forced s s (leaves-self s k)
leaves-line session LogHolds s h k = leaves-self s k
leaves-line session Bookmark s h k = leaves-self s k
leaves-line session (CreateTable x columns key) s h k =
    leaves-system _ s h k (λ edits e. let p = create_table-new session s x columns key edits e in (may_new s edits h (p.1), λ m u l held. create_table-elsewhere m session s x columns key edits h (k m u l held) e))
leaves-line session (CreateIndex x table columns unique) s h k =
    leaves-system _ s h k (λ edits e. let p = create_index_new session s x table columns unique edits e in (
      may_new s edits h (p.1),
      λ m u l held. create_index-elsewhere m u session s x columns unique (table_named table (catalog s)) edits h l held e,
    ))
leaves-line session (XlaCreate x) s h k =
    leaves-system _ s h k (λ edits e. let p = create_bookmark-new session s x edits e in (may_new s edits h (p.1), λ m u l held. create_bookmark-elsewhere m session s x edits e))
leaves-line session (XlaSubscribe table x) s h k =
    leaves-system _ s h k (λ edits e. let p = subscribe_new session s table x edits e in (may_new s edits h (p.1), λ m u l held. subscribe-elsewhere m session s x (table_named table (catalog s)) edits e))
leaves-line session (DropTable x) s h k =
    leaves-system _ s h k (λ edits e. (may_good s edits h (drop_table-good session s x edits e), λ m u l held. drop_table-elsewhere m u session s (table_named x (catalog s)) edits h l held e))
leaves-line session (DropIndex x) s h k =
    leaves-system _ s h k (λ edits e. (may_good s edits h (drop_index-good session s x edits e), λ m u l held. drop_index-elsewhere m session s (index_named x (catalog s)) edits e))
leaves-line session (XlaDelete x) s h k =
    leaves-system _ s h k (λ edits e. (may_good s edits h (delete_bookmark-good session s x edits e), λ m u l held. delete_bookmark-elsewhere m session s x (bookmark x s) edits e))
leaves-line session (XlaUnsubscribe table x) s h k =
    leaves-system _ s h k (λ edits e. (may_good s edits h (unsubscribe-good session s table x edits e), λ m u l held. unsubscribe-elsewhere m session s x (table_named table (catalog s)) edits e))
leaves-line session XlaAcknowledge s h k =
    leaves-system _ s h k (λ edits e. (may_good s edits h (acknowledge-good session s edits e), λ m u l held. acknowledge-elsewhere m session s (s.reader session) edits e))
leaves-line session (XlaOpen x) s h k = leaves_opened session x s (is_some (s.reader session)) k
leaves-line session (XlaNext count) s h k = leaves_given session (s.reader session) count s k
leaves-line session XlaClose s h k = leaves_closed session (s.reader session) s k
leaves-line session (BackupLine set kind) s h k = leaves-backup session set (set_work kind set s) s h k
leaves-line session Ckpt s h k =
    leaves-unless (option_or (checkpoint_open s) (no_checkpoint_number s)) (begun_reply s) (begin_checkpoint s) s k (through_begin s s (leaves-self s k))
leaves-line session CkptBlocking s h k =
    let begun : State = begin_checkpoint s in
    leaves-unless (option_or (checkpoint_open s) (option_or (least_open (live_in s)) (no_checkpoint_number s))) (begun_reply s) (with_completion (with_all_copies begun)) s k
    (through_completion s (with_all_copies begun) (through_all_copies s begun (through_begin s s (leaves-self s k))))

leaves-answers : (session : ℕ) (what : Result Command Refusal) (s : State) (reply : Reply) (after : State) → IsSound s → TablesAreThere s →
    Answers session what s reply after → KeepsTables s after
leaves-answers session (Ok command) s reply after h k (inl t) = subst (KeepsTables s) (sym (t.1)) (leaves-line session command s h k)
leaves-answers session (Err r) s reply after h k (inl t) = subst (KeepsTables s) (sym (t.1)) (leaves-self s k)
leaves-answers session (Err r) s reply after h k (inr w) = absurd w
leaves-answers session (Ok command) s reply after h k (inr w) = elim (w.2) [
  | inl same ↦ subst (KeepsTables s) (sym same) (leaves-self s k)
  | inr forced ↦ subst (KeepsTables s) (sym (forced.1)) (through_forced s s (leaves-self s k))
]

-- ---- each round

there_copied : (n : ℕ) (o : Option Underway) (s : State) → TablesAreThere s → TablesAreThere (copied n o s)
there_copied n None s k = k
there_copied n (Some b) s k = k

from_copied : (n : ℕ) (o : Option Underway) (s after : State) → KeepsTables (copied n o s) after → KeepsTables s after
from_copied n None s after k = k
from_copied n (Some b) s after k = k

pub leaves-step : (s : State) (session : ℕ) (what : Result Command Refusal) (reply : Reply) (after : State) → IsSound (with_copies s) → TablesAreThere s →
    Step s session what reply after → KeepsTables s after
unfolding with_copies
leaves-step s session what reply after h k st =
    let mid : State = copied s.settings.ckpt_pages s.underway s in
    subst (KeepsTables s) (sym st.is)
    (through_after s s.underway st.between
    (from_copied s.settings.ckpt_pages s.underway s st.between
    (leaves-answers session what mid reply st.between h (there_copied s.settings.ckpt_pages s.underway s k) st.line)))
