-- How pages are added before they are used: what they keep, and the room that their marks have.
use Rattle.std.specs.Prelude.{◌≡◌, ◌≤◌, ℕ, List, length}
use Rattle.tt_value.specs.declared.value.Cell.{Cell}
use Rattle.tt_cells.specs.Cells.{full_in}
use Rattle.tt_cells.specs.Limits.{pages_end}
use Rattle.tt_cells.specs.NumberSet.{Numbers}

-- the pages are no more than there may be, and each set has room for a mark of each of them
pub record HaveMarks (kept : List (List Cell)) (stale_0 stale_1 : Numbers) : Type 0 where
  pub small : length kept ≤ pages_end
  pub marks_0 : length kept ≤ stale_0.room
  pub marks_1 : length kept ≤ stale_1.room

-- pages that were added have no rows, and mark nothing
pub record AddsBlank (kept : List (List Cell)) (stale_0 stale_1 : Numbers) (grown : List (List Cell)) (grown_0 grown_1 : Numbers) : Type 0 where
  pub cells : full_in grown ≡ full_in kept
  pub pages : length kept ≤ length grown
  pub members_0 : grown_0.members ≡ stale_0.members
  pub members_1 : grown_1.members ≡ stale_1.members
