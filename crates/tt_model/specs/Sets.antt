-- Backup sets: what the files of one stand for, what a backup makes of it, and what restoring it leaves.
use Rattle.std.specs.Prelude.{ℕ, suc, ◌*◌, ◌/◌, ◌&&◌, nat_le, List, [], ◌∷◌, ◌++◌, max, if◌then◌else◌}
use Rattle.tt_value.specs.declared.value.Cell.{Cell}
use Rattle.tt_value.specs.declared.value.Cell.TheVariants.{Empty, Full}
use Rattle.tt_value.specs.declared.position.Position.{Position}
use Rattle.tt_model.specs.Trail.{Trail, since}
use Rattle.tt_model.specs.Committed.{Cells, is_full}
use Rattle.tt_model.specs.Live.{numbers_below, pages_named}
use Rattle.tt_model.specs.Standing.{standing}
use Rattle.tt_model.specs.Opened.{Head, Opened, fresh}

-- A batch of a set's log: the entries from one position to another.
pub record Batch : Type 0 where
  pub from : Position
  pub to : Position
  pub entries : Trail

-- A set: the header and the cells of its image, and its batches, the newest first.
pub record BackupSet : Type 0 where
  pub head : Head
  pub image : Cells
  pub batches : List Batch

-- What a set whose image is whole stands for; a bad header or a damaged log makes it unsound.
pub data SetStanding : Type 0 where
  Readable : BackupSet → SetStanding
  Unreadable : SetStanding

-- A set ends where its last batch does.
abbrev pub last_to : Position → List Batch → Position
last_to scan [] = scan
last_to scan (b ∷ older) = b.to

abbrev pub set_end : BackupSet → Position
set_end set = last_to set.head.scan set.batches

-- The entries of all batches, the newest first.
abbrev pub all_entries : List Batch → Trail
all_entries [] = []
all_entries (b ∷ older) = b.entries ++ all_entries older

-- The cells that a set stands for: those that its image and the entries of all its batches give.
abbrev pub set_cells : BackupSet → Cells
set_cells set = standing set.image (all_entries set.batches)

-- The set that a full backup makes: one batch, with the entries of the trail from a position on.
abbrev pub full_set : Head → Cells → Position → Position → Trail → BackupSet
full_set head image from to trail = record { head = head; image = image; batches = record { from = from; to = to; entries = since from trail } ∷ [] }

-- The batches with one more, which has the entries since the set's end; with none, where nothing lies between.
abbrev pub with_batch : Position → Position → Trail → List Batch → List Batch
with_batch from to [] batches = batches
with_batch from to (e ∷ older) batches = record { from = from; to = to; entries = e ∷ older } ∷ batches

abbrev pub extended : BackupSet → Position → Trail → BackupSet
extended set to trail = record set { batches = with_batch (set_end set) to (since (set_end set) trail) set.batches }

-- ---- restore

-- The rows of bookmarks, subscriptions and sets aren't restored.
abbrev pub restored_cell : Cell → Cell
restored_cell Empty = Empty
restored_cell (Full table row) = if nat_le 4 table && nat_le table 6 then Empty else Full table row

abbrev pub restored_cells : BackupSet → Cells
restored_cells set place = restored_cell (set_cells set place)

-- The least count of pages that holds the rows at these places.
abbrev pub pages_holding : Cells → List ℕ → ℕ
pages_holding cells [] = 0
pages_holding cells (place ∷ places) = max (if is_full (cells place) then suc (place / 32) else 0) (pages_holding cells places)

-- Every place of a row of the set lies in these pages.
abbrev pub set_pages : BackupSet → ℕ
set_pages set = pages_named set.head.pages (all_entries set.batches)

-- The database that restoring a set leaves: its rows, each at its place, and no log.
abbrev pub restored : BackupSet → ℕ → Opened
restored set database = fresh (restored_cells set) (pages_holding (restored_cells set) (numbers_below (32 * set_pages set))) database
