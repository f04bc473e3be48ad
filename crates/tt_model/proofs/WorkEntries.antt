-- A property of the entries of a line's works, from that of the Changes which its edits make and of the ends of its transactions.
use Rattle.std.proofs.Common.{◌≡◌, inl, inr, ℕ, Bool, true, false, List, [], ◌∷◌, ◌++◌, map, Option, Some, None, refl, sym, ap, ◌∙◌, subst}
use Rattle.std.specs.Option.{option_or}
use Rattle.tt_value.specs.declared.refusal.Refusal.{Refusal}
use Rattle.tt_parse.specs.declared.command.Command.{Command}
use Rattle.tt_parse.specs.declared.command.Command.TheVariants.{CreateTable, DropTable, CreateIndex, DropIndex, Insert, Update, Delete, Select, Commit as CommitLine, Rollback, DurableCommit, Flush, Ckpt, CkptBlocking, LogHolds, Bookmark, Backup as BackupLine, XlaCreate, XlaDelete, XlaSubscribe, XlaUnsubscribe, XlaOpen, XlaNext, XlaAcknowledge, XlaClose}
use Rattle.tt_parse.specs.declared.command.BackupKind.{BackupKind}
use Rattle.tt_record.specs.declared.entry.Entry.{Entry}
use Rattle.tt_record.specs.declared.entry.Entry.TheVariants.{Commit, Abort}
use Rattle.tt_model.specs.Trail.{Placed}
use Rattle.tt_model.specs.Tables.{PlacedRow}
use Rattle.tt_model.specs.Meaning.{Meant, Refuses, Makes}
use Rattle.tt_model.specs.Live.{is_live}
use Rattle.tt_model.specs.Sound.{MayWrite}
use Rattle.tt_model.specs.Meant.{meant}
use Rattle.tt_model.specs.System.{deletes}
use Rattle.tt_model.specs.Backups.{backup_refusal, row_of_set, set_edit, SetWork, MakesSet, ContinuesSet, EndsSet, set_work}
use Rattle.tt_model.specs.State.{State, all_forced, live_in, next, reversals, with_entry, write_position}
use Rattle.tt_model.specs.declared.definition.CellEdit.{CellEdit}
use Rattle.tt_model.specs.Step.{backup_position, checkpoint_open, edit_length, end_length, forced_where, is_durable, least_open, no_checkpoint_number, no_number, no_number_for, no_position, no_system_position, number_for, rollback_lengths}
use Rattle.tt_model.specs.Run.{ended_one, has_position}
use Rattle.tt_model.specs.WholeRuns.{Each}
use Rattle.tt_model.specs.StepLaws.{EachOfWorks}
use Rattle.tt_model.specs.Works.{Work, all_performed, changes, force_where, no_work, performed, rolled_entries, row_work, stop_works, system_work, unless_refused, with_entries, work_behind, work_of_all, work_of_blocking, work_of_commit, work_of_edits, work_of_rollback, work_of_statement, work_of_system, works_of, works_of_backup, works_unless, works_of_set}

pub each-append : {X : Type 0} (P : X → Type 0) (xs ys : List X) → Each P xs → Each P ys → Each P (xs ++ ys)
each-append P [] ys a b = b
each-append P (x ∷ xs) ys a b = (a.0, each-append P xs ys (a.1) b)

pub none-first : (a b : Option Refusal) → option_or a b ≡ None → a ≡ None
none-first None b is = refl
none-first (Some r) b is = cc

pub none-second : (a b : Option Refusal) → option_or a b ≡ None → b ≡ None
none-second None b is = is
none-second (Some r) b is = cc

-- ---- the trail behind works

-- Each new entry of a state has a property.
abbrev pub NewHave : (Entry → Type 0) → State → Type 0
NewHave P s = Each (λ (e : Placed). P e.entry) s.entries

pub have-entry : (P : Entry → Type 0) (e : Entry) (s : State) → P e → NewHave P s → NewHave P (with_entry e s)
unfolding with_entry
have-entry P e s p h = (p, h)

pub have-entries : (P : Entry → Type 0) (es : List Entry) (s : State) → Each P es → NewHave P s → NewHave P (with_entries es s)
have-entries P [] s ps h = h
have-entries P (e ∷ es) s ps h = have-entries P es (with_entry e s) (ps.1) (have-entry P e s (ps.0) h)

have-forced : (P : Entry → Type 0) (c : Bool) (s : State) → NewHave P s → NewHave P (forced_where c s)
unfolding all_forced
have-forced P true s h = h
have-forced P false s h = h

pub have-performed : (P : Entry → Type 0) (w : Work) (s : State) → Each P w.entries → NewHave P s → NewHave P (performed w s)
have-performed P w s ps h = have-forced P w.force (with_entries w.entries s) (have-entries P w.entries s ps h)

pub have-all : (P : Entry → Type 0) (ws : List Work) (s : State) → EachOfWorks P ws → NewHave P s → NewHave P (all_performed ws s)
have-all P [] s ps h = h
have-all P (w ∷ ws) s ps h = have-all P ws (performed w s) (ps.1) (have-performed P w s (ps.0) h)

-- ---- the works of a line

-- A backup writes the row of its set where incremental ones are to follow.
abbrev pub writes_row : SetWork → Bool
writes_row (MakesSet enabled) = enabled
writes_row ContinuesSet = true
writes_row EndsSet = false

-- What is known of a line's parts: its transaction's number is such that its end has the property, and so have the Changes of its edits.
pub record PartsHave (P : Entry → Type 0) (N : ℕ → Type 0) (session : ℕ) (command : Command) (s : State) : Type 0 where
  pub commit : (t : ℕ) → N t → P (Commit t)
  pub abort : (t : ℕ) → N t → P (Abort t)
  pub own : (t : ℕ) → s.own session ≡ Some t → N t
  pub next : no_number s ≡ None → N (next s)
  pub may : (t : ℕ) → s.own session ≡ Some t → is_live t s.entries ≡ true
  pub edits : (edits : List CellEdit) (t : ℕ) → meant session command s ≡ Makes edits → MayWrite t s → N t → Each P (changes t edits s)
  pub reversed : (t : ℕ) → s.own session ≡ Some t → Each P (changes t (reversals t s.entries) s)
  pub row : (set t : ℕ) (kind : BackupKind) → command ≡ BackupLine set kind → writes_row (set_work kind set s) ≡ true → backup_refusal session s set (set_work kind set s) ≡ None → N t →
      Each P (changes t (set_edit (row_of_set set s) set (write_position s) ∷ []) (all_forced s))
  pub stopped : (set t : ℕ) (r : PlacedRow) → row_of_set set s ≡ Some r → N t → Each P (changes t (deletes 6 r ∷ []) s)

module _ (P : Entry → Type 0) (N : ℕ → Type 0) (session : ℕ) (command : Command) (s : State) (parts : PartsHave P N session command s) where
  unless_each : (o : Option Refusal) (w : Work) → (o ≡ None → Each P w.entries) → Each P (unless_refused o w).entries
  unless_each None w h = h refl
  unless_each (Some r) w h = tt

  number_is : (o : Option ℕ) → s.own session ≡ o → no_number_for o s ≡ None → N (number_for o s)
  number_is None is none = parts.next none
  number_is (Some t) is none = parts.own t is

  may_is : (o : Option ℕ) → s.own session ≡ o → MayWrite (number_for o s) s
  may_is None is = inr refl
  may_is (Some t) is = inl (parts.may t is)

  edits_each : (edits : List CellEdit) → meant session command s ≡ Makes edits → Each P (work_of_edits session edits s).entries
  edits_each [] is = tt
  edits_each (e ∷ es) is =
      let first : Option Refusal = no_number_for (s.own session) s in
      let second : Option Refusal = no_position (map edit_length (e ∷ es)) s in
      unless_each (option_or first second) (record { entries = changes (number_for (s.own session) s) (e ∷ es) s; force = false })
      (λ none. parts.edits (e ∷ es) (number_for (s.own session) s) is (may_is (s.own session) refl) (number_is (s.own session) refl (none-first first second none)))

  statement_each : (m : Meant) → meant session command s ≡ m → Each P (work_of_statement session m s).entries
  statement_each (Refuses r) is = tt
  statement_each (Makes edits) is = edits_each edits is

  commit_each : (o : Option ℕ) → s.own session ≡ o → Each P (work_of_commit session o s).entries
  commit_each None is = tt
  commit_each (Some t) is = unless_each (no_position (end_length ∷ []) s) (record { entries = Commit t ∷ []; force = is_durable session s }) (λ none. (parts.commit t (parts.own t is), tt))

  rollback_each : (o : Option ℕ) → s.own session ≡ o → Each P (work_of_rollback o s).entries
  rollback_each None is = tt
  rollback_each (Some t) is =
      unless_each (no_position (rollback_lengths t s) s) (record { entries = rolled_entries t s; force = false })
      (λ none. each-append P (changes t (reversals t s.entries) s) (Abort t ∷ []) (parts.reversed t is) (parts.abort t (parts.own t is), tt))

  system_each : (m : Meant) → meant session command s ≡ m → Each P (work_of_system m s).entries
  system_each (Refuses r) is = tt
  system_each (Makes edits) is =
      let second : Option Refusal = no_position (map edit_length edits ++ end_length ∷ []) s in
      unless_each (no_system_position edits s) (system_work edits s)
      (λ none. let number : N (next s) = parts.next (none-first (no_number s) second none) in
      each-append P (changes (next s) edits s) (Commit (next s) ∷ []) (parts.edits edits (next s) is (inr refl) number) (parts.commit (next s) number, tt))

  -- ---- backups

  works_each : (o : Option Refusal) (ws : List Work) → (o ≡ None → EachOfWorks P ws) → EachOfWorks P (works_unless o ws)
  works_each None ws h = h refl
  works_each (Some r) ws h = tt

  next_forced : next (all_forced s) ≡ next s
  unfolding all_forced
  next_forced = refl

  row_each : (set : ℕ) (kind : BackupKind) → command ≡ BackupLine set kind → writes_row (set_work kind set s) ≡ true → backup_refusal session s set (set_work kind set s) ≡ None → no_number s ≡ None → Each P (row_work set s).entries
  row_each set kind is writes allowed none =
      let edits : List CellEdit = set_edit (row_of_set set s) set (write_position s) ∷ [] in
      let number : N (next (all_forced s)) = subst N (sym next_forced) (parts.next none) in
      each-append P (changes (next (all_forced s)) edits (all_forced s)) (Commit (next (all_forced s)) ∷ []) (parts.row set (next (all_forced s)) kind is writes allowed number)
      (parts.commit (next (all_forced s)) number, tt)

  abbrev no_stop : Option PlacedRow → Option Refusal
  no_stop o = elim o [ None ↦ None | Some r ↦ no_system_position (deletes 6 r ∷ []) s ]

  stop_each : (set : ℕ) (o : Option PlacedRow) → row_of_set set s ≡ o → no_stop o ≡ None → EachOfWorks P (stop_works s o)
  stop_each set None is none = tt
  stop_each set (Some r) is none =
      let number : N (next s) = parts.next (none-first (no_number s) (no_position (map edit_length (deletes 6 r ∷ []) ++ end_length ∷ []) s) none) in (
        each-append P (changes (next s) (deletes 6 r ∷ []) s) (Commit (next s) ∷ []) (parts.stopped set (next s) r is number) (parts.commit (next s) number, tt),
        tt,
      )

  backup_each : (set : ℕ) (kind : BackupKind) (done : SetWork) → command ≡ BackupLine set kind → set_work kind set s ≡ done → backup_refusal session s set done ≡ None → backup_position set done s ≡ None →
      EachOfWorks P (works_of_set set done s)
  backup_each set kind (MakesSet false) is same allowed none = (tt, tt)
  backup_each set kind (MakesSet true) is same allowed none =
      let second : Option Refusal = no_position (map edit_length (set_edit (row_of_set set s) set (write_position s) ∷ []) ++ end_length ∷ []) s in
      (tt, (row_each set kind is (ap writes_row same) (ap (backup_refusal session s set) same ∙ allowed) (none-first (no_number s) second none), tt))
  backup_each set kind ContinuesSet is same allowed none =
      let second : Option Refusal = no_position (map edit_length (set_edit (row_of_set set s) set (write_position s) ∷ []) ++ end_length ∷ []) s in
      (tt, (row_each set kind is (ap writes_row same) (ap (backup_refusal session s set) same ∙ allowed) (none-first (no_number s) second none), tt))
  backup_each set kind EndsSet is same allowed none = stop_each set (row_of_set set s) refl none

  kind_each : (set : ℕ) (kind : BackupKind) → command ≡ BackupLine set kind → EachOfWorks P (works_of_backup session set (set_work kind set s) s)
  kind_each set kind is =
      let done : SetWork = set_work kind set s in
      let first : Option Refusal = backup_refusal session s set done in
      let second : Option Refusal = backup_position set done s in
      works_each (option_or first second) (works_of_set set done s)
      (λ none. backup_each set kind done is refl (none-first first second none) (none-second first second none))

  blocking_each : Each P (work_of_blocking s).entries
  blocking_each = unless_each (option_or (checkpoint_open s) (option_or (least_open (live_in s)) (no_checkpoint_number s))) (force_where true) (λ none. tt)

  line_each : (c : Command) → command ≡ c → EachOfWorks P (works_of session c s)
  unfolding works_of
  line_each (Insert table values) is = (statement_each _ (ap (λ c. meant session c s) is), tt)
  line_each (Update table sets cond) is = (statement_each _ (ap (λ c. meant session c s) is), tt)
  line_each (Delete table cond) is = (statement_each _ (ap (λ c. meant session c s) is), tt)
  line_each (Select table items cond order) is = tt
  line_each CommitLine is = (commit_each (s.own session) refl, tt)
  line_each Rollback is = (rollback_each (s.own session) refl, tt)
  line_each DurableCommit is = tt
  line_each Flush is = (tt, tt)
  line_each LogHolds is = tt
  line_each Bookmark is = tt
  line_each (CreateTable name columns key) is = (system_each _ (ap (λ c. meant session c s) is), tt)
  line_each (DropTable name) is = (system_each _ (ap (λ c. meant session c s) is), tt)
  line_each (CreateIndex name table columns unique) is = (system_each _ (ap (λ c. meant session c s) is), tt)
  line_each (DropIndex name) is = (system_each _ (ap (λ c. meant session c s) is), tt)
  line_each (XlaCreate name) is = (system_each _ (ap (λ c. meant session c s) is), tt)
  line_each (XlaDelete name) is = (system_each _ (ap (λ c. meant session c s) is), tt)
  line_each (XlaSubscribe table name) is = (system_each _ (ap (λ c. meant session c s) is), tt)
  line_each (XlaUnsubscribe table name) is = (system_each _ (ap (λ c. meant session c s) is), tt)
  line_each XlaAcknowledge is = (system_each _ (ap (λ c. meant session c s) is), tt)
  line_each (XlaOpen name) is = tt
  line_each (XlaNext n) is = tt
  line_each XlaClose is = tt
  line_each (BackupLine set kind) is = kind_each set kind is
  line_each Ckpt is = tt
  line_each CkptBlocking is = (blocking_each, tt)

  pub works-have : EachOfWorks P (works_of session command s)
  works-have = line_each command refl

-- ---- the end of a run

module _ (P : Entry → Type 0) (N : ℕ → Type 0) (I : State → Type 0) (abort : (t : ℕ) → N t → P (Abort t))
    (reversed : (t : ℕ) (s : State) → I s → N t → Each P (changes t (reversals t s.entries) s)) (keeps : (t : ℕ) (s : State) → I s → N t → I (ended_one t s)) where
  rolled-have : (t : ℕ) (s : State) → I s → N t → Each P (rolled_entries t s)
  rolled-have t s h n = each-append P (changes t (reversals t s.entries) s) (Abort t ∷ []) (reversed t s h n) (abort t n, tt)

  next-have : (t : ℕ) (s : State) (w : Work) → Each P (rolled_entries t s) → Each P w.entries → (c : Bool) →
      Each P (let x : Work = elim c [ true ↦ work_behind (rolled_entries t s) w | false ↦ no_work ] in x).entries
  next-have t s w a b true = each-append P (rolled_entries t s) w.entries a b
  next-have t s w a b false = tt

  pub end-have : (ts : List ℕ) (s : State) → I s → Each N ts → Each P (work_of_all ts s).entries
  end-have [] s h ns = tt
  end-have (t ∷ ts) s h ns =
      next-have t s (work_of_all ts (ended_one t s)) (rolled-have t s h (ns.0)) (end-have ts (ended_one t s) (keeps t s h (ns.0)) (ns.1)) (has_position t s)
