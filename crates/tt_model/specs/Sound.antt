-- What always holds of a state that lines lead to, and which changes a transaction may make.
use Rattle.std.specs.Prelude.{◌≡◌, ◌≤◌, ◌<◌, ◌⊎◌, ◌*◌, ◌++◌, ℕ, Bool, true, false, List, [], ◌∷◌, length, Option, Some}
use Rattle.std.specs.List.{list_any}
use Rattle.tt_record.specs.declared.entry.Entry.{Entry}
use Rattle.tt_record.specs.declared.entry.Entry.TheVariants.{Mark}
use Rattle.tt_model.specs.Trail.{Trail, IsOrdered}
use Rattle.tt_model.specs.Committed.{Cells, committed}
use Rattle.tt_model.specs.Holders.{Held, is_held_by, value_at}
use Rattle.tt_model.specs.Tables.{whole_number_of}
use Rattle.tt_value.specs.declared.value.Row.{Row}
use Rattle.tt_value.specs.declared.value.Cell.{Cell}
use Rattle.tt_value.specs.declared.value.Cell.TheVariants.{Full}
use Rattle.tt_model.specs.Live.{is_live, in_use}
use Rattle.tt_model.specs.Opened.{Opened}
use Rattle.tt_model.specs.Steady.{IsGrown, MayChange}
use Rattle.tt_model.specs.State.{State, next, place_for, with_edit}
use Rattle.tt_model.specs.declared.definition.CellEdit.{CellEdit}

abbrev pub is_mark : Entry → Bool
is_mark Mark = true
is_mark _ = false

abbrev pub has_mark : Trail → Bool
has_mark entries = list_any (λ e. is_mark e.entry) entries

-- The new entries might come one after another, with the Mark of the opening among them, and their positions ascend. The forced
-- part has what opening found, and no more than there is. Every place in use lies in the pages.
pub record IsSoundLog (found : Opened) (entries : Trail) (forced pages : ℕ) : Type 0 where
  pub grown : IsGrown found.cells entries
  pub marked : has_mark entries ≡ true
  pub ordered : IsOrdered found.end entries
  pub forced_least : length found.entries ≤ forced
  pub forced_most : forced ≤ length (entries ++ found.entries)
  pub below : (q : ℕ) → in_use (committed found.cells entries) (entries ++ found.entries) q ≡ true → q < 32 * pages

-- Each session's transaction is live, and of no other session.
pub record IsOwned (own : ℕ → Option ℕ) (entries : Trail) : Type 0 where
  pub live : (session t : ℕ) → own session ≡ Some t → is_live t entries ≡ true
  pub once : (a b t : ℕ) → own a ≡ Some t → own b ≡ Some t → a ≡ b

-- A whole table, as a thing that is held: every row of it has it.
abbrev pub whole_table : ℕ → Held
whole_table table = record { table = table; columns = []; values = [] }

-- A cell with a row of TABLES has the number of a user's table, which is 16 or more.
abbrev pub IsUserTable : Cell → Type 0
IsUserTable cell = (row : Row) → cell ≡ Full 1 row → 16 ≤ whole_number_of (value_at row 0)

-- Live transactions have changed rows of users' tables alone, and these have numbers from 16 on.
pub record KeepsCatalog (base : Cells) (entries : Trail) : Type 0 where
  pub users : (t table : ℕ) → is_live t entries ≡ true → table < 16 → is_held_by (whole_table table) entries t ≡ false
  pub tables : (place : ℕ) → IsUserTable (committed base entries place)

pub record IsSound (s : State) : Type 0 where
  pub entries : IsSoundLog s.found s.entries s.forced s.pages
  pub owned : IsOwned s.own s.entries
  pub catalog : KeepsCatalog s.found.cells s.entries

-- The numbers in which changes may be made: those of live transactions, and the next one.
abbrev pub MayWrite : ℕ → State → Type 0
MayWrite t s = (is_live t s.entries ≡ true) ⊎ (t ≡ next s)

-- The transaction may make these edits, one after another.
abbrev pub MayEdit : ℕ → List CellEdit → State → Type 0
MayEdit t [] s = Unit {0}
MayEdit t (edit ∷ edits) s = MayChange s.found.cells s.entries t (place_for edit.place s) edit.before × MayEdit t edits (with_edit t edit s)
