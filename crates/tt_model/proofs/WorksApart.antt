-- The works of a line are the same before and behind the copies of its round.
use Rattle.std.proofs.Common.{◌≡◌, ℕ, Bool, true, false, List, [], ◌∷◌, ◌++◌, map, take, drop, Option, Some, None, refl, sym, ap, ap₂, ◌∙◌}
use Rattle.std.specs.Prelude.{option_map}
use Rattle.std.specs.Option.{option_or}
use Rattle.tt_value.specs.declared.refusal.Refusal.TheVariants.{CkptOpen}
use Rattle.tt_parse.specs.declared.command.Command.{Command}
use Rattle.tt_parse.specs.declared.command.Command.TheVariants.{CreateTable, DropTable, CreateIndex, DropIndex, Insert, Update, Delete, Select, Commit as CommitLine, Rollback, DurableCommit, Flush, Ckpt, CkptBlocking, LogHolds, Bookmark, Backup as BackupLine, XlaCreate, XlaDelete, XlaSubscribe, XlaUnsubscribe, XlaOpen, XlaNext, XlaAcknowledge, XlaClose}
use Rattle.tt_parse.specs.declared.command.BackupKind.{BackupKind}
use Rattle.tt_record.specs.declared.entry.Entry.{Entry}
use Rattle.tt_record.specs.declared.entry.Entry.TheVariants.{Commit, Abort}
use Rattle.tt_model.specs.Tables.{PlacedRow}
use Rattle.tt_model.specs.State.{State, Underway, all_forced, at_one, live_in, next, reversals, write_position}
use Rattle.tt_model.specs.declared.definition.CellEdit.{CellEdit}
use Rattle.tt_model.specs.Checkpoint.{copied, with_copies, without_pages}
use Rattle.tt_model.specs.Meaning.{Meant, Refuses, Makes}
use Rattle.tt_model.specs.Meant.{meant}
use Rattle.tt_model.specs.System.{deletes}
use Rattle.tt_model.specs.Backups.{row_of_set, set_edit, SetWork, MakesSet, ContinuesSet, EndsSet, set_work}
use Rattle.tt_model.specs.Step.{edit_length, least_open, no_checkpoint_number, no_number_for, no_position, no_system_position, number_for, rollback_lengths}
use Rattle.tt_model.specs.Works.{SameLog, Work, changes, force_where, row_work, stop_works, unless_refused, work_of_blocking, work_of_commit, work_of_edits, work_of_rollback, work_of_statement, work_of_system, works_of, works_of_backup, works_unless, works_of_set}
use Rattle.tt_model.proofs.MeantApart.{aside, backup_place-aside, kind-aside, meant-aside, refusal-aside}
use Rattle.tt_model.proofs.WorkLemmas.{changes_same}

module _ (stale : ℕ → ℕ → Bool) (u : Option Underway) (s : State) where
  abbrev other : State
  other = aside stale u s

  same : SameLog other s
  same = record { settings = refl; found = refl; entries = refl; forced = refl; pages = refl; files = refl }

  edits_alike : (t : ℕ) (edits : List CellEdit) → changes t edits other ≡ changes t edits s
  edits_alike t edits = changes_same t edits other s same

  abbrev work_for : Option ℕ → List CellEdit → State → Work
  work_for o edits x = unless_refused (option_or (no_number_for o x) (no_position (map edit_length edits) x)) (record { entries = changes (number_for o x) edits x; force = false })

  for_alike : (o : Option ℕ) (edits : List CellEdit) → work_for o edits other ≡ work_for o edits s
  for_alike None edits = ap (λ (es : List Entry). unless_refused (option_or (no_number_for None s) (no_position (map edit_length edits) s)) (record { entries = es; force = false })) (edits_alike (next s) edits)
  for_alike (Some t) edits = ap (λ (es : List Entry). unless_refused (option_or None (no_position (map edit_length edits) s)) (record { entries = es; force = false })) (edits_alike t edits)

  of_edits : (session : ℕ) (edits : List CellEdit) → work_of_edits session edits other ≡ work_of_edits session edits s
  of_edits session [] = refl
  of_edits session (e ∷ es) = for_alike (s.own session) (e ∷ es)

  of_statement : (session : ℕ) (m : Meant) → work_of_statement session m other ≡ work_of_statement session m s
  of_statement session (Refuses r) = refl
  of_statement session (Makes edits) = of_edits session edits

  of_commit : (session : ℕ) (o : Option ℕ) → work_of_commit session o other ≡ work_of_commit session o s
  of_commit session None = refl
  of_commit session (Some t) = refl

  of_rollback : (o : Option ℕ) → work_of_rollback o other ≡ work_of_rollback o s
  of_rollback None = refl
  of_rollback (Some t) =
      ap (λ (es : List Entry). unless_refused (no_position (rollback_lengths t s) s) (record { entries = es ++ Abort t ∷ []; force = false })) (edits_alike t (reversals t s.entries))

  of_system : (m : Meant) → work_of_system m other ≡ work_of_system m s
  of_system (Refuses r) = refl
  of_system (Makes edits) =
      ap (λ (es : List Entry). unless_refused (no_system_position edits s) (record { entries = es ++ Commit (next s) ∷ []; force = s.settings.durable_commits })) (edits_alike (next s) edits)

  -- ---- backups

  same_forced : SameLog (all_forced other) (all_forced s)
  unfolding all_forced
  same_forced = record { settings = refl; found = refl; entries = refl; forced = refl; pages = refl; files = refl }

  of_row : (set : ℕ) → row_work set other ≡ row_work set s
  unfolding all_forced
  of_row set =
      ap (λ (es : List Entry). record { entries = es ++ Commit (next s) ∷ []; force = s.settings.durable_commits })
      (changes_same (next s) (set_edit (row_of_set set s) set (write_position s) ∷ []) (all_forced other) (all_forced s) same_forced)

  of_stop : (o : Option PlacedRow) → stop_works other o ≡ stop_works s o
  of_stop None = refl
  of_stop (Some r) = ap (λ (es : List Entry). record { entries = es ++ Commit (next s) ∷ []; force = s.settings.durable_commits } ∷ []) (edits_alike (next s) (deletes 6 r ∷ []))

  of_backup : (set : ℕ) (work : SetWork) → works_of_set set work other ≡ works_of_set set work s
  of_backup set (MakesSet false) = refl
  of_backup set (MakesSet true) = ap (λ w. force_where true ∷ w ∷ []) (of_row set)
  of_backup set ContinuesSet = ap (λ w. force_where true ∷ w ∷ []) (of_row set)
  of_backup set EndsSet = of_stop (row_of_set set s)

  of_kind : (session set : ℕ) (kind : BackupKind) → works_of_backup session set (set_work kind set other) other ≡ works_of_backup session set (set_work kind set s) s
  of_kind session set kind =
      let done : SetWork = set_work kind set s in
      ap (λ k. works_of_backup session set k other) (kind-aside set kind stale u s)
      ∙ ap₂ works_unless (ap₂ option_or (refusal-aside session set done stale u s) (backup_place-aside set done stale u s)) (of_backup set done)

  by_statement : (session : ℕ) (command : Command) → work_of_statement session (meant session command other) other ≡ work_of_statement session (meant session command s) s
  by_statement session command = ap (λ m. work_of_statement session m other) (meant-aside session command stale u s) ∙ of_statement session (meant session command s)

  by_system : (session : ℕ) (command : Command) → work_of_system (meant session command other) other ≡ work_of_system (meant session command s) s
  by_system session command = ap (λ m. work_of_system m other) (meant-aside session command stale u s) ∙ of_system (meant session command s)

  abbrev alone : Work → List Work
  alone w = w ∷ []

  works-aside : (session : ℕ) (command : Command) → work_of_blocking other ≡ work_of_blocking s → works_of session command other ≡ works_of session command s
  unfolding works_of
  works-aside session (Insert table values) h = ap alone (by_statement session (Insert table values))
  works-aside session (Update table sets cond) h = ap alone (by_statement session (Update table sets cond))
  works-aside session (Delete table cond) h = ap alone (by_statement session (Delete table cond))
  works-aside session (Select table items cond order) h = refl
  works-aside session CommitLine h = ap alone (of_commit session (s.own session))
  works-aside session Rollback h = ap alone (of_rollback (s.own session))
  works-aside session DurableCommit h = refl
  works-aside session Flush h = refl
  works-aside session LogHolds h = refl
  works-aside session Bookmark h = refl
  works-aside session (CreateTable name columns key) h = ap alone (by_system session (CreateTable name columns key))
  works-aside session (DropTable name) h = ap alone (by_system session (DropTable name))
  works-aside session (CreateIndex name table columns unique) h = ap alone (by_system session (CreateIndex name table columns unique))
  works-aside session (DropIndex name) h = ap alone (by_system session (DropIndex name))
  works-aside session (XlaCreate name) h = ap alone (by_system session (XlaCreate name))
  works-aside session (XlaDelete name) h = ap alone (by_system session (XlaDelete name))
  works-aside session (XlaSubscribe table name) h = ap alone (by_system session (XlaSubscribe table name))
  works-aside session (XlaUnsubscribe table name) h = ap alone (by_system session (XlaUnsubscribe table name))
  works-aside session XlaAcknowledge h = ap alone (by_system session XlaAcknowledge)
  works-aside session (XlaOpen name) h = refl
  works-aside session (XlaNext n) h = refl
  works-aside session XlaClose h = refl
  works-aside session (BackupLine set kind) h = of_kind session set kind
  works-aside session Ckpt h = refl
  works-aside session CkptBlocking h = ap alone h

-- A blocking checkpoint is refused, where one is under way.
blocking_alike : (stale : ℕ → ℕ → Bool) (b : Underway) (left : List ℕ) (s : State) → s.underway ≡ Some b → work_of_blocking (aside stale (Some (record b { left = left })) s) ≡ work_of_blocking s
blocking_alike stale b left s is =
    ap (λ (o : Option Underway). unless_refused (option_or (option_map (λ (x : Underway). CkptOpen x.number) o) (option_or (least_open (live_in s)) (no_checkpoint_number s))) (force_where true)) (sym is)

copied_works : (session : ℕ) (command : Command) (n : ℕ) (s : State) (o : Option Underway) → s.underway ≡ o → works_of session command (copied n o s) ≡ works_of session command s
copied_works session command n s None is = refl
copied_works session command n s (Some b) is =
    let stale : ℕ → ℕ → Bool = at_one b.file (without_pages (take n b.left) (s.stale b.file)) s.stale in
    works-aside stale (Some (record b { left = drop n b.left })) s session command (blocking_alike stale b (drop n b.left) s is)

pub works-apart : (session : ℕ) (command : Command) (s : State) → works_of session command (with_copies s) ≡ works_of session command s
unfolding with_copies
works-apart session command s = copied_works session command s.settings.ckpt_pages s s.underway refl
