-- The state of the machine, and what one more entry, a force and a whole transaction do to it.
use Rattle.std.specs.Prelude.{ℕ, ◌-◌, ◌*◌, ◌/◌, Bool, true, false, ◌||◌, nat_eq, List, [], ◌∷◌, ◌++◌, length, Option, Some, None, if◌then◌else◌}
use Rattle.tt_value.specs.declared.position.Position.{Position}
use Rattle.tt_value.specs.declared.reply.Hold.{Hold}
use Rattle.tt_record.specs.declared.entry.Entry.{Entry}
use Rattle.tt_record.specs.declared.entry.Entry.TheVariants.{Change}
use Rattle.tt_set.specs.declared.settings.Settings.{Settings}
use Rattle.tt_record.specs.Entry.{length_of}
use Rattle.tt_record.specs.Place.{next_position, position_of, end_of}
use Rattle.tt_model.specs.Trail.{Trail, Placed, trail_end, oldest}
use Rattle.tt_model.specs.Committed.{Cells, committed}
use Rattle.tt_model.specs.Live.{live, view_of, in_use, least_free, taken_count, next_number, pages_after}
use Rattle.tt_model.specs.Forced.{forced_for}
use Rattle.tt_model.specs.Holds.{holds_of, least_hold_of, low}
use Rattle.tt_model.specs.Tables.{catalog_of, Catalog}
use Rattle.tt_model.specs.declared.definition.CellEdit.{CellEdit}
use Rattle.tt_model.specs.Opened.{Head, Opened, scan_of, number_of}
use Rattle.tt_model.specs.Sets.{SetStanding}

-- A checkpoint under way: the file that it writes, what its header will have, and the pages left, in ascending order.
pub record Underway : Type 0 where
  pub file : ℕ
  pub number : ℕ
  pub scan : Position
  pub pages : ℕ
  pub next : ℕ
  pub left : List ℕ

-- A read place, and the reader of a session.
pub record ReadPlace : Type 0 where
  pub at : Position
  pub skip : ℕ
  pub hold : Position

pub record Reader : Type 0 where
  pub bookmark : List ℕ
  pub place : ReadPlace

-- The found part, the new entries, and all that a run keeps beside them.
pub record State : Type 0 where
  pub settings : Settings
  pub found : Opened
  -- the new entries, the newest first
  pub entries : Trail
  -- how many entries of the trail are forced
  pub forced : ℕ
  -- of each session: its live transaction, its wish for a durable commit, its reader
  pub own : ℕ → Option ℕ
  pub wish : ℕ → Bool
  pub reader : ℕ → Option Reader
  -- of the checkpoints: each whole file, which is the newest, the pages stale in each, the count of pages, the one under way
  pub heads : ℕ → Option Head
  pub newest : ℕ
  pub stale : ℕ → ℕ → Bool
  pub pages : ℕ
  pub underway : Option Underway
  -- the log files that are there, the backup sets, the number of the database
  pub files : ℕ → Bool
  pub sets : ℕ → Option SetStanding
  pub database : ℕ

-- the trail: the entries that opening found, and the new ones
abbrev pub trail : State → Trail
trail s = s.entries ++ s.found.entries

-- the new entries among the first n of the trail
abbrev pub new_among : ℕ → State → Trail
new_among n s = oldest (n - length s.found.entries) s.entries

-- the end of the last entry; the end that opening found where none is new, which may lie at the head of the next file
abbrev pub write_position : State → Position
write_position s = trail_end s.found.end s.entries

-- the end of the forced part
abbrev pub force_position : State → Position
force_position s = trail_end s.found.end (new_among s.forced s)

-- the tables: what is committed
abbrev pub cells_of : State → Cells
cells_of s = committed s.found.cells s.entries

abbrev pub view : ℕ → State → Cells
view session s = view_of (s.own session) s.entries (cells_of s)

-- every place that was ever named lies below it
abbrev pub bound : State → ℕ
bound s = 32 * s.pages

abbrev pub is_used : State → ℕ → Bool
is_used s = in_use (cells_of s) (trail s)

abbrev pub used_count : State → ℕ
used_count s = taken_count (is_used s) (bound s)

abbrev pub free_place : State → ℕ
free_place s = least_free (is_used s) (bound s)

abbrev pub next : State → ℕ
next s = next_number s.found.next (trail s)

abbrev pub live_in : State → List ℕ
live_in s = live (trail s)

abbrev pub catalog : State → Catalog
catalog s = catalog_of (bound s) (cells_of s)

abbrev pub low_now : State → Position
low_now s = low (write_position s) (trail s)

-- the number of the newest whole checkpoint file
abbrev pub newest_number : State → ℕ
newest_number s = number_of (s.heads s.newest)

-- The scan positions that checkpoint files hold: of one under way that of its round, of any other that of its header.
abbrev pub scan_held_by : Option Underway → (ℕ → Option Head) → ℕ → Option Position
scan_held_by None heads file = scan_of (heads file)
scan_held_by (Some b) heads file = if nat_eq b.file file then Some b.scan else scan_of (heads file)

abbrev pub scan_held : State → ℕ → Option Position
scan_held s file = scan_held_by s.underway s.heads file

abbrev pub holds : State → List Hold
holds s = holds_of (scan_held s) (bound s) (cells_of s) (trail s)

abbrev pub least_hold : State → Position
least_hold s = least_hold_of (write_position s) (holds s)

-- One session's part, or one file's, is changed.
abbrev pub at_one : {X : Type 0} → ℕ → X → (ℕ → X) → ℕ → X
at_one k x f j = if nat_eq j k then x else f j

-- A Change adds its page to the stale pages of both files.
abbrev pub stale_after : Entry → (ℕ → ℕ → Bool) → ℕ → ℕ → Bool
stale_after (Change t place before after) stale file page = nat_eq page (place / 32) || stale file page
stale_after _ stale file page = stale file page

-- An entry with the position that it gets behind the last one.
abbrev pub placed : Entry → State → Placed
placed e s = record { at = next_position (write_position s) (length_of e) s.settings.log_file_size; entry = e }

-- One more entry.
unfoldable pub with_entry : Entry → State → State
with_entry e s = record s {
  entries = placed e s ∷ s.entries;
  forced = forced_for s.settings.log_file_size s.settings.log_buf_size (write_position s) (length_of e) (trail s) s.forced;
  stale = stale_after e s.stale;
  pages = pages_after e s.pages;
  files = at_one ((placed e s).at.file) true s.files;
}

-- The whole trail is forced.
unfoldable pub all_forced : State → State
all_forced s = record s { forced = length (trail s) }

abbrev pub place_for : Option ℕ → State → ℕ
place_for None s = free_place s
place_for (Some place) s = place

abbrev pub with_edit : ℕ → CellEdit → State → State
with_edit t edit s = with_entry (Change t (place_for edit.place s) edit.before edit.after) s

-- A transaction's edits, one after another.
abbrev pub with_edits : ℕ → List CellEdit → State → State
with_edits t [] s = s
with_edits t (edit ∷ edits) s = with_edits t edits (with_edit t edit s)

-- The Changes of a transaction reversed, from the last to the first. The trail has the last in front.
abbrev pub reversed : ℕ → Entry → List CellEdit → List CellEdit
reversed t (Change u place before after) rest = if nat_eq t u then record { place = Some place; before = after; after = before } ∷ rest else rest
reversed t _ rest = rest

unfoldable pub reversals : ℕ → Trail → List CellEdit
reversals t [] = []
reversals t (e ∷ older) = reversed t e.entry (reversals t older)

-- Whether entries of these lengths all get a place behind an end.
abbrev pub lengths_fit : ℕ → Position → List ℕ → Bool
lengths_fit size end [] = true
lengths_fit size end (n ∷ ns) =
    elim (position_of end n size) [ None ↦ false | Some at ↦ lengths_fit size (end_of at n) ns ]
