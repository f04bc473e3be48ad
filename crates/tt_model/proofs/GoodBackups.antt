-- A backup leaves a good catalog.
use Rattle.std.proofs.Common.{◌≡◌, ◌≤◌, ℕ, Bool, true, false, List, [], ◌∷◌, length, Option, Some, None, refl, sym, ap, ◌∙◌, true≢false}
use Rattle.std.specs.Prelude.{nat_le, is_some, is_none, if◌then◌else◌}
use Rattle.std.specs.Option.{option_or}
use Rattle.tt_value.specs.declared.refusal.Refusal.{Refusal}
use Rattle.tt_value.specs.declared.refusal.Refusal.TheVariants.{SetThere, NoSet, NotIncremental, TooMany}
use Rattle.tt_model.specs.Sets.{Readable, Unreadable, SetStanding}
use Rattle.tt_model.specs.Tables.{PlacedRow}
use Rattle.tt_model.specs.State.{State, write_position, all_forced}
use Rattle.tt_model.specs.Meaning.{refused_if, first_of, no_room}
use Rattle.tt_model.specs.System.{in_transaction, system_rows, deletes}
use Rattle.tt_model.specs.Backups.{row_of_set, set_edit, full_now, extended_now, with_set, backup_refusal, first_row_refusal, is_not_incremental, SetWork, MakesSet, ContinuesSet, EndsSet}
use Rattle.tt_model.specs.Step.{system_done, backed_up, backup_position, unless_refused, backup_line}
use Rattle.tt_model.specs.Sound.{IsSound}
use Rattle.tt_model.specs.Entries.{HasLogInRange}
use Rattle.tt_model.proofs.StatementLemmas.{each_none}
use Rattle.tt_model.proofs.SystemLines.{not_refused, sound-with_set}
use Rattle.tt_model.proofs.GoodDeletes.{HasGood, good-stop}
use Rattle.tt_model.proofs.GoodAdds.{good-set_again, good-set_first}

good_forced : (set : ℕ) (standing : Option SetStanding) (s : State) → HasGood s → HasGood (with_set set standing (all_forced s))
unfolding all_forced
good_forced set standing s g = g

set_row_by : (set : ℕ) (standing : Option SetStanding) (s : State) (o : Option PlacedRow) → IsSound s → HasLogInRange s → 1 ≤ set → set ≤ 999 → row_of_set set s ≡ o →
    (is_some o ≡ false → nat_le 64 (length (system_rows 6 s)) ≡ false) → HasGood s → HasGood (system_done (set_edit o set (write_position s) ∷ []) (with_set set standing (all_forced s)))
unfolding all_forced
set_row_by set standing s (Some r) h log a b e f g = good-set_again (with_set set standing (all_forced s)) set (write_position s) r (sound-with_set set standing s h) a b log.end e g
set_row_by set standing s None h log a b e f g =
    good-set_first (with_set set standing (all_forced s)) set (write_position s) (sound-with_set set standing s h) a b log.end (ap (λ (o : Option PlacedRow). is_some o) e) (f refl) g

stop_by : (set : ℕ) (s : State) (o : Option PlacedRow) → row_of_set set s ≡ o → IsSound s → HasGood s → HasGood (elim o as (λ x. State) [ None ↦ s | Some r ↦ system_done (deletes 6 r ∷ []) s ])
stop_by set s None e h g = g
stop_by set s (Some r) e h g = good-stop set s r h e g

few_by : (b : Bool) (s : State) → (if b then None else first_of (refused_if (nat_le 64 (length (system_rows 6 s))) (TooMany 64) ∷ no_room 1 s ∷ [])) ≡ None → b ≡ false → nat_le 64 (length (system_rows 6 s)) ≡ false
few_by true s h e = absurd (true≢false e)
few_by false s h e = not_refused (nat_le 64 (length (system_rows 6 s))) (TooMany 64) ((each_none (refused_if (nat_le 64 (length (system_rows 6 s))) (TooMany 64) ∷ no_room 1 s ∷ []) h).0)

few_enabled : (session set : ℕ) (s : State) → backup_refusal session s set (MakesSet true) ≡ None → is_some (row_of_set set s) ≡ false → nat_le 64 (length (system_rows 6 s)) ≡ false
unfolding backup_refusal
few_enabled session set s h e =
    few_by (is_some (row_of_set set s)) s (((each_none (in_transaction session s ∷ refused_if (is_some (s.sets set)) SetThere ∷ first_row_refusal set s ∷ []) h).1).1).0 e

-- An incremental backup finds its row.
never_without : (o : Option SetStanding) (s : State) → is_none o ≡ false → is_not_incremental None o s ≡ false → ⊥
never_without None s a b = true≢false a
never_without (Some (Readable x)) s a b = true≢false b
never_without (Some Unreadable) s a b = true≢false b

row_there : (session set : ℕ) (s : State) (o : Option PlacedRow) → row_of_set set s ≡ o → backup_refusal session s set ContinuesSet ≡ None → is_some o ≡ false → ⊥
unfolding backup_refusal
row_there session set s (Some r) e h n = true≢false n
row_there session set s None e h n =
    let tests : List (Option Refusal) = in_transaction session s ∷ refused_if (is_none (s.sets set)) NoSet ∷ refused_if (is_not_incremental (row_of_set set s) (s.sets set) s) NotIncremental ∷ [] in
    let passed = each_none tests h in
    never_without (s.sets set) s (not_refused (is_none (s.sets set)) NoSet ((passed.1).0))
    (ap (λ (o : Option PlacedRow). is_not_incremental o (s.sets set) s) (sym e) ∙ not_refused (is_not_incremental (row_of_set set s) (s.sets set) s) NotIncremental (((passed.1).1).0))

backed_up_good : (session set : ℕ) (work : SetWork) (s : State) → IsSound s → HasLogInRange s → 1 ≤ set → set ≤ 999 → backup_refusal session s set work ≡ None → HasGood s → HasGood ((backed_up set work s).1)
backed_up_good session set (MakesSet false) s h log a b passed g = good_forced set (Some (Readable (full_now s))) s g
backed_up_good session set (MakesSet true) s h log a b passed g =
    set_row_by set (Some (Readable (full_now s))) s (row_of_set set s) h log a b refl (λ n. few_enabled session set s passed n) g
backed_up_good session set ContinuesSet s h log a b passed g =
    set_row_by set (extended_now (s.sets set) s) s (row_of_set set s) h log a b refl (λ n. absurd (row_there session set s (row_of_set set s) refl passed n)) g
backed_up_good session set EndsSet s h log a b passed g = stop_by set s (row_of_set set s) refl h g

backup_by : (session set : ℕ) (work : SetWork) (s : State) (first second : Option Refusal) → backup_refusal session s set work ≡ first → IsSound s → HasLogInRange s → 1 ≤ set → set ≤ 999 → HasGood s →
    HasGood ((unless_refused (option_or first second) (backed_up set work s) s).1)
backup_by session set work s (Some r) second e h log a b g = g
backup_by session set work s None (Some r) e h log a b g = g
backup_by session set work s None None e h log a b g = backed_up_good session set work s h log a b e g

pub good-backup : (session set : ℕ) (work : SetWork) (s : State) → IsSound s → HasLogInRange s → 1 ≤ set → set ≤ 999 → HasGood s → HasGood ((backup_line session set work s).1)
good-backup session set work s h log a b g = backup_by session set work s (backup_refusal session s set work) (backup_position set work s) refl h log a b g
