-- Laws on what lines append and leave, entry by entry.
use Rattle.std.specs.Prelude.{◌≡◌, ◌⊎◌, ◌≤◌, ◌<◌, ◌+◌, ℕ, Bool, true, false, List, [], ◌∷◌, ◌++◌, Option, Some, None, Result, Ok, Err, nat_eq, ◌&&◌, if◌then◌else◌}
use Rattle.std.specs.Option.{option_or}
use Rattle.tt_value.specs.declared.value.Cell.{Cell}
use Rattle.tt_value.specs.declared.position.Position.{Position}
use Rattle.tt_value.specs.declared.refusal.Refusal.{Refusal}
use Rattle.tt_value.specs.declared.refusal.Refusal.TheVariants.{NoMemory}
use Rattle.tt_value.specs.declared.reply.Reply.{Reply}
use Rattle.tt_value.specs.declared.reply.Reply.TheVariants.{Refused}
use Rattle.tt_parse.specs.declared.command.Command.{Command}
use Rattle.tt_record.specs.declared.entry.Entry.{Entry}
use Rattle.tt_record.specs.declared.entry.Entry.TheVariants.{Change, Commit, Abort, Mark, Switch}
use Rattle.tt_record.specs.Place.{position}
use Rattle.tt_set.specs.declared.settings.Settings.{Settings}
use Rattle.tt_model.specs.Trail.{Placed, Trail, position_le, trail_end}
use Rattle.tt_model.specs.Committed.{Cells, committed, is_full}
use Rattle.tt_model.specs.Live.{is_live, touched}
use Rattle.tt_model.specs.Steady.{IsGrown}
use Rattle.tt_model.specs.Checkpoint.{with_copies}
use Rattle.tt_model.specs.Opened.{Opened}
use Rattle.tt_model.specs.Sets.{SetStanding}
use Rattle.tt_model.specs.State.{State, all_forced, free_place, lengths_fit, used_count, write_position}
use Rattle.tt_model.specs.Tables.{bookmark_row, catalog_of, row_in, rows_of, set_row}
use Rattle.tt_model.specs.Damage.{first_bad_catalog, first_bad_row}
use Rattle.tt_model.specs.Sound.{IsSound}
use Rattle.tt_model.specs.Step.{Step, completion_after, forces_first, is_refused, line}
use Rattle.tt_model.specs.Run.{Line, Run, begun, ended, opened}
use Rattle.tt_model.specs.WholeRuns.{Each, GoesOn, completes}
use Rattle.tt_model.specs.Works.{Work, work_of_end, works_of}
use Rattle.tt_model.specs.Ranges.{HasRanges}
use Rattle.tt_model.specs.GoodRows.{HasGoodRows}
use Rattle.tt_model.specs.Entries.{HasLogInRange, HasStorableRows, HoldsStorable, IsOfGrammar, IsPlain}
use Rattle.tt_record.specs.Entry.{length_of}

-- ---- where entries stand

-- An entry stands at the end of the one before, or at the head of the next file.
abbrev pub StandsBehind : Position → Position → Type 0
StandsBehind end at = (at ≡ end) ⊎ (at ≡ position (end.file + 1) 0)

abbrev pub LieEndToEnd : Position → Trail → Type 0
LieEndToEnd opened [] = Unit {0}
LieEndToEnd opened (e ∷ older) = StandsBehind (trail_end opened older) e.at × LieEndToEnd opened older

-- The new entries of a state lie so from the end that opening found.
abbrev pub NewLieEndToEnd : State → Type 0
NewLieEndToEnd s = LieEndToEnd s.found.end s.entries

-- The entries of a run lie end to end: those that it begins with, and with those of each round, of further rounds and of its end.
pub record EntriesLieEndToEnd : Type 0 where
  pub each : (s : State) (newer older : Trail) (e : Placed) → NewLieEndToEnd s → s.entries ≡ newer ++ e ∷ older → StandsBehind (trail_end s.found.end older) e.at
  pub begun : (settings : Settings) (found : Opened) (files : ℕ → Bool) (sets : ℕ → Option SetStanding) → NewLieEndToEnd (begun settings found files sets)
  pub step : (s : State) (session : ℕ) (what : Result Command Refusal) (reply : Reply) (after : State) → NewLieEndToEnd s → Step s session what reply after → NewLieEndToEnd after
  pub run : (lines : List Line) (replies : List Reply) (s after : State) → NewLieEndToEnd s → Run s lines replies after → NewLieEndToEnd after
  pub end : (s : State) → NewLieEndToEnd s → NewLieEndToEnd ((ended s).1)

-- ---- a step only goes on

-- The trail goes on, and it ends no earlier.
pub record EndsNoEarlier (s after : State) : Type 0 where
  pub on : GoesOn s after
  pub file : (write_position s).file ≤ (write_position after).file
  pub end : position_le (write_position s) (write_position after) ≡ true

-- So it is over each round, over each run, and at its end. Log files are only added, where no checkpoint completes.
pub record StepsGoOn : Type 0 where
  pub step : (s : State) (session : ℕ) (what : Result Command Refusal) (reply : Reply) (after : State) → Step s session what reply after → EndsNoEarlier s after
  pub run : (lines : List Line) (replies : List Reply) (s after : State) → Run s lines replies after → EndsNoEarlier s after
  pub end : (s : State) → EndsNoEarlier s ((ended s).1)
  pub files : (s : State) (session : ℕ) (what : Result Command Refusal) (reply : Reply) (after : State) → Step s session what reply after →
      completes s what reply after ≡ false → (n : ℕ) → s.files n ≡ true → after.files n ≡ true

-- ---- which numbers entries have

-- An entry's transaction, where it has one, has at least this number.
abbrev pub IsNumberedFrom : ℕ → Entry → Type 0
IsNumberedFrom first (Change t place before after) = first ≤ t
IsNumberedFrom first (Commit t) = first ≤ t
IsNumberedFrom first (Abort t) = first ≤ t
IsNumberedFrom first Mark = Unit {0}
IsNumberedFrom first (Switch file) = Unit {0}

-- Each transaction of a trail has at least this number.
abbrev pub AreNumberedFrom : ℕ → Trail → Type 0
AreNumberedFrom first [] = Unit {0}
AreNumberedFrom first (e ∷ older) = IsNumberedFrom first e.entry × AreNumberedFrom first older

-- The new entries of a state have numbers from the one on that opening found to be the next.
abbrev pub NewAreNumbered : State → Type 0
NewAreNumbered s = AreNumberedFrom s.found.next s.entries

abbrev pub EachOfWorks : (Entry → Type 0) → List Work → Type 0
EachOfWorks P works = Each (λ (w : Work). Each P w.entries) works

-- So are the entries of the works of each line and of the end of a run; a run begins so, and each round and its end keep it. What is live in
-- the new entries, and what sessions have, is numbered so.
pub record WorksAreNumbered : Type 0 where
  pub works : (session : ℕ) (command : Command) (s : State) → IsSound s → NewAreNumbered s → EachOfWorks (IsNumberedFrom s.found.next) (works_of session command s)
  pub end_works : (s : State) → IsSound s → NewAreNumbered s → Each (IsNumberedFrom s.found.next) (work_of_end s).entries
  pub begun : (settings : Settings) (found : Opened) (files : ℕ → Bool) (sets : ℕ → Option SetStanding) → NewAreNumbered (begun settings found files sets)
  pub step : (s : State) (session : ℕ) (what : Result Command Refusal) (reply : Reply) (after : State) → IsSound s → NewAreNumbered s → Step s session what reply after → NewAreNumbered after
  pub end : (s : State) → IsSound s → NewAreNumbered s → NewAreNumbered ((ended s).1)
  pub live : (s : State) (t : ℕ) → NewAreNumbered s → is_live t s.entries ≡ true → s.found.next ≤ t
  pub own : (s : State) (session t : ℕ) → IsSound s → NewAreNumbered s → s.own session ≡ Some t → s.found.next ≤ t

-- ---- what refused lines leave, and what is determined

abbrev pub forces_before : Result Command Refusal → Bool
forces_before (Ok command) = forces_first command
forces_before (Err r) = false

-- A line that is refused leaves the state as it was. So its round has the copies and the completion of a checkpoint under way, and nothing
-- else; but a backup that finds no memory may have forced the log.
pub record RefusedLinesLeaveAll : Type 0 where
  pub line : (session : ℕ) (command : Command) (s : State) → is_refused ((line session command s).0) ≡ true → (line session command s).1 ≡ s
  pub step : (s : State) (session : ℕ) (what : Result Command Refusal) (reply : Reply) (after : State) → Step s session what reply after → is_refused reply ≡ true →
      (after ≡ completion_after s.underway (with_copies s))
      ⊎ ((reply ≡ Refused NoMemory) × (forces_before what ≡ true) × (after ≡ completion_after s.underway (all_forced (with_copies s))))

-- Two rounds of one line from one state have one reply and leave one state, unless one is answered that memory is wanting.
abbrev pub StepsAreDetermined : Type 0
StepsAreDetermined =
    (s : State) (session : ℕ) (what : Result Command Refusal) (reply other_reply : Reply) (after other_after : State)
    → Step s session what reply after → Step s session what other_reply other_after
    → (reply ≡ Refused NoMemory) ⊎ ((other_reply ≡ Refused NoMemory) ⊎ ((reply ≡ other_reply) × (after ≡ other_after)))

-- Two states differ in the stale pages and in the checkpoint under way alone.
abbrev pub DifferInCopies : State → State → Type 0
DifferInCopies s other = other ≡ record s { stale = other.stale; underway = other.underway }

-- The copies of a round and its line are apart: behind the copies the line is answered so as before them, does the same to the log, and
-- leaves the same but for stale pages and the checkpoint under way.
pub record CopiesAndLinesAreApart : Type 0 where
  pub reply : (session : ℕ) (command : Command) (s : State) → (line session command (with_copies s)).0 ≡ (line session command s).0
  pub state : (session : ℕ) (command : Command) (s : State) → DifferInCopies ((line session command s).1) ((line session command (with_copies s)).1)
  pub works : (session : ℕ) (command : Command) (s : State) → works_of session command (with_copies s) ≡ works_of session command s

-- ---- what first Changes found

abbrev pub before_of : ℕ → ℕ → Entry → Option Cell
before_of t place (Change u q before after) = if nat_eq t u && nat_eq place q then Some before else None
before_of t place _ = None

-- The row before of the first Change of a transaction at a place.
abbrev pub first_before_of : ℕ → ℕ → Trail → Option Cell
first_before_of t place [] = None
first_before_of t place (e ∷ older) = option_or (first_before_of t place older) (before_of t place e.entry)

-- While a transaction is live, the row before of its first Change at a place is what is committed there.
pub record FirstChangesFoundCommitted : Type 0 where
  pub first : (base : Cells) (entries : Trail) (t place : ℕ) → IsGrown base entries → is_live t entries ≡ true → touched t place entries ≡ true →
      first_before_of t place entries ≡ Some (committed base entries place)
  pub each : (base : Cells) (newer older : Trail) (at : Position) (t place : ℕ) (before after : Cell) →
      IsGrown base (newer ++ record { at = at; entry = Change t place before after } ∷ older) →
      is_live t (newer ++ record { at = at; entry = Change t place before after } ∷ older) ≡ true → touched t place older ≡ false →
      committed base (newer ++ record { at = at; entry = Change t place before after } ∷ older) place ≡ before

-- ---- what lies below a bound

-- Where no row of a table lies at or above a bound, its rows are the same below a greater one. Where no row at all does, so are the catalog, the
-- rows of bookmarks and sets, and what is wrong with rows.
pub record CatalogIsBelowItsBound : Type 0 where
  pub rows : (table bound more : ℕ) (cells : Cells) → ((q : ℕ) → bound ≤ q → row_in table (cells q) ≡ None) → rows_of table (bound + more) cells ≡ rows_of table bound cells
  pub catalog : (bound more : ℕ) (cells : Cells) → ((q : ℕ) → is_full (cells q) ≡ true → q < bound) → catalog_of (bound + more) cells ≡ catalog_of bound cells
  pub bookmark : (name : List ℕ) (bound more : ℕ) (cells : Cells) → ((q : ℕ) → is_full (cells q) ≡ true → q < bound) → bookmark_row name (bound + more) cells ≡ bookmark_row name bound cells
  pub set : (set bound more : ℕ) (cells : Cells) → ((q : ℕ) → is_full (cells q) ≡ true → q < bound) → set_row set (bound + more) cells ≡ set_row set bound cells
  pub bad_catalog : (bound more : ℕ) (cells : Cells) → ((q : ℕ) → is_full (cells q) ≡ true → q < bound) → first_bad_catalog (bound + more) cells ≡ first_bad_catalog bound cells
  pub bad_row : (bound more : ℕ) (cells : Cells) → ((q : ℕ) → is_full (cells q) ≡ true → q < bound) → first_bad_row (bound + more) cells ≡ first_bad_row bound cells

-- ---- which places are given

-- The least free place is at most the count of places in use. So no place lies far behind.
abbrev pub FreePlaceIsAmongUsed : Type 0
FreePlaceIsAmongUsed = (s : State) → free_place s ≤ used_count s

-- ---- which entries lines append

-- Each entry of the works of a line, and of the end of a run, has the grammar of entries. So a run begins with a log in its ranges, where its
-- Mark finds a place, and each round and the end of the run keep that, with what can be stored.
pub record WorksArePlain : Type 0 where
  pub works : (session : ℕ) (command : Command) (s : State) → HasRanges command → IsSound s → HasLogInRange s → HoldsStorable s → HasStorableRows s → EachOfWorks IsPlain (works_of session command s)
  pub end_works : (s : State) → IsSound s → HasLogInRange s → HoldsStorable s → Each IsPlain (work_of_end s).entries
  pub begun : (settings : Settings) (found : Opened) (files : ℕ → Bool) (sets : ℕ → Option SetStanding) → HasLogInRange (opened settings found files sets) → HoldsStorable (opened settings found files sets) →
      lengths_fit settings.log_file_size found.end (length_of Mark ∷ []) ≡ true → HasLogInRange (begun settings found files sets) × HoldsStorable (begun settings found files sets)
  pub step : (s : State) (session : ℕ) (what : Result Command Refusal) (reply : Reply) (after : State) → IsOfGrammar what → IsSound s → HasLogInRange s → HoldsStorable s → HasStorableRows s →
      Step s session what reply after → HasLogInRange after × HoldsStorable after
  pub end : (s : State) → IsSound s → HasLogInRange s → HoldsStorable s → HasLogInRange ((ended s).1) × HoldsStorable ((ended s).1)

-- What lines rest on that store rows holds in a sound state with good rows.
abbrev pub GoodRowsAreStorable : Type 0
GoodRowsAreStorable = (s : State) → IsSound s → HasGoodRows s → HasStorableRows s
