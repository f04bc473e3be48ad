-- What always holds of the rows of a database that lines lead to: none of them is damaged, in no first part of the trail and in nothing
-- that a session sees.
use Rattle.std.specs.Prelude.{◌≡◌, ◌≤◌, ◌<◌, ℕ, Bool, true, false, ◌∷◌, ◌++◌, length, Option, Some, None, Result}
use Rattle.tt_value.specs.declared.value.Row.{Row}
use Rattle.tt_value.specs.declared.value.Cell.{Cell}
use Rattle.tt_value.specs.declared.value.Cell.TheVariants.{Full}
use Rattle.tt_value.specs.declared.refusal.Refusal.{Refusal}
use Rattle.tt_value.specs.declared.reply.Reply.{Reply}
use Rattle.tt_parse.specs.declared.command.Command.{Command}
use Rattle.tt_record.specs.declared.entry.Entry.TheVariants.{Change}
use Rattle.tt_set.specs.declared.settings.Settings.{Settings}
use Rattle.tt_model.specs.Trail.{Trail}
use Rattle.tt_model.specs.Committed.{Cells, changed_by, committed, is_full}
use Rattle.tt_model.specs.Live.{is_live}
use Rattle.tt_model.specs.Opened.{Opened}
use Rattle.tt_model.specs.Sets.{SetStanding}
use Rattle.tt_model.specs.Tables.{Catalog, Table, table_with}
use Rattle.tt_model.specs.State.{State, bound, catalog, cells_of, new_among, trail}
use Rattle.tt_model.specs.Damage.{first_bad_catalog, first_bad_row, has_misfit}
use Rattle.tt_model.specs.Entries.{HasKeptReaders, HasLogInRange, IsOfGrammar}
use Rattle.tt_model.specs.GoodCatalog.{HasGoodCatalog}
use Rattle.tt_model.specs.Sound.{IsSound}
use Rattle.tt_model.specs.WholeRuns.{HeldOnce, IsSession, ReadersHaveBookmarks}
use Rattle.tt_model.specs.Step.{Step}
use Rattle.tt_model.specs.Run.{begun, ended, opened}

-- No row below a bound is damaged.
pub record AreGood (bound : ℕ) (cells : Cells) : Type 0 where
  pub catalog : first_bad_catalog bound cells ≡ None
  pub rows : first_bad_row bound cells ≡ None

-- A user's row is of a table that is there, and fits its columns.
abbrev pub FitsIn : Catalog → Cell → Type 0
FitsIn catalog cell = (table : ℕ) (row : Row) → cell ≡ Full table row → 16 ≤ table → (t : Table) × (table_with table catalog ≡ Some t) × (has_misfit t row ≡ false)

-- ---- users' rows

-- No user's row is damaged in what is committed, nor in what a live transaction sees, and the rows that it found and left fit their
-- tables.
pub record HasFittingRows (s : State) : Type 0 where
  pub rows : first_bad_row (bound s) (cells_of s) ≡ None
  pub seen : (t : ℕ) → is_live t s.entries ≡ true → first_bad_row (bound s) (changed_by t s.entries (cells_of s)) ≡ None
  pub changes : (t place : ℕ) (before after : Cell) (newer older : Trail) (at : _) → is_live t s.entries ≡ true →
      s.entries ≡ newer ++ record { at = at; entry = Change t place before after } ∷ older → FitsIn (catalog s) before × FitsIn (catalog s) after

-- Nor is one damaged in any first part of the trail that has what opening found, below any bound of the part's rows.
abbrev pub FirstPartsFit : State → Type 0
FirstPartsFit s =
    (n b : ℕ) → length s.found.entries ≤ n → n ≤ length (trail s) → ((q : ℕ) → is_full (committed s.found.cells (new_among n s) q) ≡ true → q < b) →
    first_bad_row b (committed s.found.cells (new_among n s)) ≡ None

-- A run over a database whose users' rows are good begins so. Each round keeps it, whatever its line, where no system row is damaged
-- before and behind it; and so does the end of a run.
pub record UsersRowsStayGood : Type 0 where
  pub begun : (settings : Settings) (found : Opened) (files : ℕ → Bool) (sets : ℕ → Option SetStanding) → IsSound (begun settings found files sets) →
      first_bad_row (bound (opened settings found files sets)) found.cells ≡ None → HasFittingRows (begun settings found files sets) × FirstPartsFit (begun settings found files sets)
  pub step : (s : State) (session : ℕ) (what : Result Command Refusal) (reply : Reply) (after : State) → IsSession session → IsOfGrammar what →
      IsSound s → ReadersHaveBookmarks s → HeldOnce (catalog s) s.entries → first_bad_catalog (bound s) (cells_of s) ≡ None → first_bad_catalog (bound after) (cells_of after) ≡ None →
      HasFittingRows s → FirstPartsFit s → Step s session what reply after → HasFittingRows after × FirstPartsFit after
  pub end : (s : State) → IsSound s → HasFittingRows s → FirstPartsFit s → HasFittingRows ((ended s).1) × FirstPartsFit ((ended s).1)

-- ---- all rows

-- No row is damaged in any first part of the trail that has what opening found, below any bound of the part's rows: of whichever of them
-- opening finds.
abbrev pub FirstPartsAreGood : State → Type 0
FirstPartsAreGood s =
    (n b : ℕ) → length s.found.entries ≤ n → n ≤ length (trail s) → ((q : ℕ) → is_full (committed s.found.cells (new_among n s) q) ≡ true → q < b) →
    AreGood b (committed s.found.cells (new_among n s))

-- No row is damaged, in what is committed, in what live transactions see, and in the first parts of the trail; and rows of bookmarks can
-- keep the places of all readers.
pub record HasGoodRows (s : State) : Type 0 where
  pub catalog : HasGoodCatalog s
  pub rows : HasFittingRows s
  pub parts : FirstPartsAreGood s
  pub readers : HasKeptReaders s

-- A run over a good database begins so, each round keeps it, whatever its line, and so does the end of a run.
pub record RowsStayGood : Type 0 where
  pub begun : (settings : Settings) (found : Opened) (files : ℕ → Bool) (sets : ℕ → Option SetStanding) →
      IsSound (begun settings found files sets) → AreGood (bound (opened settings found files sets)) found.cells → HasGoodRows (begun settings found files sets)
  pub step : (s : State) (session : ℕ) (what : Result Command Refusal) (reply : Reply) (after : State) → IsSession session → IsOfGrammar what →
      IsSound s → HasLogInRange s → ReadersHaveBookmarks s → HeldOnce (catalog s) s.entries → HasGoodRows s → Step s session what reply after → HasGoodRows after
  pub end : (s : State) → IsSound s → HasGoodRows s → HasGoodRows ((ended s).1)
