-- What lines mean depends neither on the stale pages nor on the checkpoint under way.
use Rattle.std.proofs.Common.{◌≡◌, ℕ, Bool, true, false, [], ◌∷◌, Option, Some, None, refl, ap}
use Rattle.tt_value.specs.declared.refusal.Refusal.TheVariants.{NoSet, NotIncremental}
use Rattle.tt_parse.specs.declared.command.Command.{Command}
use Rattle.tt_parse.specs.declared.command.Command.TheVariants.{CreateTable, DropTable, CreateIndex, DropIndex, Insert, Update, Delete, Select, XlaCreate, XlaDelete, XlaSubscribe, XlaUnsubscribe, XlaAcknowledge}
use Rattle.tt_parse.specs.declared.command.BackupKind.{BackupKind}
use Rattle.tt_parse.specs.declared.command.BackupKind.TheVariants.{Full, FullEnable, Incremental, IncrOrFull, Stop}
use Rattle.std.specs.Prelude.{is_none}
use Rattle.tt_model.specs.Tables.{PlacedRow}
use Rattle.tt_model.specs.Sets.{SetStanding, Readable, Unreadable}
use Rattle.tt_model.specs.State.{State, Underway}
use Rattle.tt_model.specs.Meant.{meant}
use Rattle.tt_model.specs.Meaning.{first_of, meant_by_delete, meant_by_insert, meant_by_select, meant_by_update, refused_if}
use Rattle.tt_model.specs.System.{in_transaction, meant_by_acknowledge, meant_by_create_bookmark, meant_by_create_index, meant_by_create_table, meant_by_delete_bookmark, meant_by_drop_index, meant_by_drop_table, meant_by_subscribe, meant_by_unsubscribe}
use Rattle.tt_model.specs.Backups.{backup_refusal, is_not_incremental, row_of_set, SetWork, MakesSet, ContinuesSet, EndsSet, set_work}
use Rattle.tt_model.specs.Step.{backup_position}

abbrev pub aside : (ℕ → ℕ → Bool) → Option Underway → State → State
aside stale underway s = record s { stale = stale; underway = underway }

pub meant-aside : (session : ℕ) (command : Command) (stale : ℕ → ℕ → Bool) (u : Option Underway) (s : State) → meant session command (aside stale u s) ≡ meant session command s
unfolding meant_by_insert meant_by_update meant_by_delete meant_by_select meant_by_create_table meant_by_drop_table meant_by_create_index meant_by_drop_index meant_by_create_bookmark meant_by_delete_bookmark meant_by_subscribe meant_by_unsubscribe meant_by_acknowledge
meant-aside session (Insert table values) stale u s = refl
meant-aside session (Update table sets cond) stale u s = refl
meant-aside session (Delete table cond) stale u s = refl
meant-aside session (Select table items cond order) stale u s = refl
meant-aside session (CreateTable name columns key) stale u s = refl
meant-aside session (DropTable name) stale u s = refl
meant-aside session (CreateIndex name table columns unique) stale u s = refl
meant-aside session (DropIndex name) stale u s = refl
meant-aside session (XlaCreate name) stale u s = refl
meant-aside session (XlaDelete name) stale u s = refl
meant-aside session (XlaSubscribe table name) stale u s = refl
meant-aside session (XlaUnsubscribe table name) stale u s = refl
meant-aside session XlaAcknowledge stale u s = refl
meant-aside session _ stale u s = refl

-- ---- backups

not_incremental-aside : (row : Option PlacedRow) (standing : Option SetStanding) (stale : ℕ → ℕ → Bool) (u : Option Underway) (s : State) →
    is_not_incremental row standing (aside stale u s) ≡ is_not_incremental row standing s
not_incremental-aside row None stale u s = refl
not_incremental-aside row (Some Unreadable) stale u s = refl
not_incremental-aside None (Some (Readable b)) stale u s = refl
not_incremental-aside (Some r) (Some (Readable b)) stale u s = refl

pub refusal-aside : (session set : ℕ) (work : SetWork) (stale : ℕ → ℕ → Bool) (u : Option Underway) (s : State) → backup_refusal session (aside stale u s) set work ≡ backup_refusal session s set work
unfolding backup_refusal
refusal-aside session set (MakesSet false) stale u s = refl
refusal-aside session set (MakesSet true) stale u s = refl
refusal-aside session set ContinuesSet stale u s =
    ap (λ c. first_of (in_transaction session s ∷ refused_if (is_none (s.sets set)) NoSet ∷ refused_if c NotIncremental ∷ [])) (not_incremental-aside (row_of_set set s) (s.sets set) stale u s)
refusal-aside session set EndsSet stale u s = refl

pub backup_place-aside : (set : ℕ) (work : SetWork) (stale : ℕ → ℕ → Bool) (u : Option Underway) (s : State) → backup_position set work (aside stale u s) ≡ backup_position set work s
backup_place-aside set (MakesSet false) stale u s = refl
backup_place-aside set (MakesSet true) stale u s = refl
backup_place-aside set ContinuesSet stale u s = refl
backup_place-aside set EndsSet stale u s = refl

pub kind-aside : (set : ℕ) (kind : BackupKind) (stale : ℕ → ℕ → Bool) (u : Option Underway) (s : State) → set_work kind set (aside stale u s) ≡ set_work kind set s
kind-aside set Full stale u s = refl
kind-aside set FullEnable stale u s = refl
kind-aside set Incremental stale u s = refl
kind-aside set Stop stale u s = refl
kind-aside set IncrOrFull stale u s = refl
