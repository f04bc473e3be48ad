-- Which entries lines append: each has the grammar of entries, a number of its own run, and a place in a log file.
use Rattle.std.specs.Prelude.{◌≡◌, ◌≤◌, ◌<◌, ◌^◌, ℕ, Bool, true, false, List, ◌∷◌, ◌++◌, length, Some, is_some, Result, Ok, Err}
use Rattle.tt_value.specs.Stored.{IsCell}
use Rattle.tt_value.specs.declared.position.Position.{Position}
use Rattle.tt_value.specs.declared.refusal.Refusal.{Refusal}
use Rattle.tt_parse.specs.declared.command.Command.{Command}
use Rattle.tt_record.specs.declared.entry.Entry.{Entry}
use Rattle.tt_record.specs.declared.entry.Entry.TheVariants.{Switch}
use Rattle.tt_record.specs.Entry.{IsEntry}
use Rattle.tt_model.specs.Trail.{Placed, Trail, placed_end}
use Rattle.tt_model.specs.Ranges.{HasRanges, IsType}
use Rattle.tt_model.specs.Tables.{Table}
use Rattle.tt_model.specs.WholeRuns.{Each}
use Rattle.tt_parse.specs.declared.command.ColumnText.{ColumnText}
use Rattle.tt_model.specs.State.{Reader, State, catalog, trail, write_position}
use Rattle.tt_model.specs.System.{bookmark}
use Rattle.tt_record.specs.Limits.{transactions_end}

abbrev pub IsOfGrammar : Result Command Refusal → Type 0
IsOfGrammar (Ok command) = HasRanges command
IsOfGrammar (Err r) = Unit {0}

-- An entry that a line may append: it has the grammar of entries, and isn't a Switch, which the log writes itself.
abbrev pub is_switch : Entry → Bool
is_switch (Switch file) = true
is_switch _ = false

pub record IsPlain (e : Entry) : Type 0 where
  pub entry : IsEntry e
  pub plain : is_switch e ≡ false

-- A position that rows of the system can keep: log files have the numbers 0 to 999,999 and at most 67,108,864 bytes of entries.
pub record IsKept (p : Position) : Type 0 where
  pub file : p.file ≤ 999999
  pub offset : p.offset ≤ 67108864

abbrev pub IsFileSize : ℕ → Type 0
IsFileSize size = (8192 ≤ size) × (size ≤ 67108864)

-- Of a state in which the log has its ranges: the ends that opening found and that it has now, and each entry with its own end, stand in
-- them, and each entry has the grammar of entries.
pub record HasLogInRange (s : State) : Type 0 where
  pub size : IsFileSize s.settings.log_file_size
  pub found : IsKept s.found.end
  pub end : IsKept (write_position s)
  pub entries : (newer older : Trail) (e : Placed) → trail s ≡ newer ++ e ∷ older → IsKept e.at × IsKept (placed_end e) × IsPlain e.entry

-- Of a state in which all can be stored: the rows that opening found, the pages that lie in 65,536 of 32 places each, and the numbers of
-- transactions, which are at most 2^48.
pub record HoldsStorable (s : State) : Type 0 where
  pub found : (place : ℕ) → IsCell (s.found.cells place)
  pub perm_pages : s.settings.perm_pages ≤ 65536
  pub pages : s.pages ≤ 65536
  pub first : 1 ≤ s.found.next
  pub next : s.found.next ≤ transactions_end

-- A table whose rows can be stored: it has a number, and 1 to 16 columns of types in their ranges.
pub record IsStorableTable (t : Table) : Type 0 where
  pub some_id : 1 ≤ t.id
  pub id : t.id < 2 ^ 32
  pub some : 1 ≤ length t.columns
  pub few : length t.columns ≤ 16
  pub types : Each (λ (c : ColumnText). IsType c.kind) t.columns

abbrev pub HasStorableTables : State → Type 0
HasStorableTables s = Each IsStorableTable (catalog s).tables

-- The place of each open reader can be kept in its bookmark's row.
abbrev pub HasKeptReaders : State → Type 0
HasKeptReaders s = (session : ℕ) (r : Reader) → s.reader session ≡ Some r → IsKept r.place.at × IsKept r.place.hold × (r.place.skip ≤ 4294967295)

-- Each bookmark that is there has a name of 30 bytes at most.
abbrev pub HasNamedBookmarks : State → Type 0
HasNamedBookmarks s = (name : List ℕ) → is_some (bookmark name s) ≡ true → length name ≤ 30

-- What lines rest on that store rows, which holds of a database with good rows.
pub record HasStorableRows (s : State) : Type 0 where
  pub tables : HasStorableTables s
  pub bookmarks : HasNamedBookmarks s
  pub readers : HasKeptReaders s
