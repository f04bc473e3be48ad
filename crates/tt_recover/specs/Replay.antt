-- What a replay has taken, and the rows that it finds.
use Rattle.std.specs.Prelude.{◌≡◌, ℕ, Bool, nat_eq, List, [], ◌∷◌, ◌++◌, map, Option, Some, if◌then◌else◌}
use Rattle.std.specs.List.Sorted.{IsStrictlySortedBy}
use Rattle.std.specs.Option.{option_or}
use Rattle.std.specs.Ordering.{nat_cmp}
use Rattle.std.specs.BTreeSet.{contains}
use Rattle.tt_value.specs.declared.value.Cell.{Cell}
use Rattle.tt_value.specs.declared.value.Cell.TheVariants.{Empty, Full}
use Rattle.tt_value.specs.declared.position.Position.{Position}
use Rattle.tt_record.specs.declared.entry.Entry.{Entry}
use Rattle.tt_record.specs.declared.entry.Entry.TheVariants.{Change, Commit, Abort, Mark, Switch}
use Rattle.tt_model.specs.Trail.{Trail}
use Rattle.tt_model.specs.Committed.{Cells, no_cells}
use Rattle.tt_model.specs.Standing.{is_ended, standing}
use Rattle.tt_recover.specs.declared.replay.RecoveredRow.{RecoveredRow}
use Rattle.tt_recover.specs.declared.replay.TakenChange.{TakenChange}
use Rattle.tt_recover.specs.declared.replay.Replay.{Replay}

-- the Change of an entry, if it is one
abbrev pub change_in : Entry → List TakenChange
change_in (Change t p b a) = record { transaction = t; place = p; before = b; after = a } ∷ []
change_in (Commit t) = []
change_in (Abort t) = []
change_in Mark = []
change_in (Switch file) = []

-- the Changes of a trail, the oldest first
abbrev pub changes_in : Trail → List TakenChange
changes_in [] = []
changes_in (e ∷ older) = changes_in older ++ change_in e.entry

-- The replay has taken the entries of a trail, one after another. Where they stood plays no part.
pub record HasTaken (replay : Replay) (trail : Trail) : Type 0 where
  pub changes : replay.changes.items ≡ changes_in trail
  pub ended : (t : ℕ) → contains nat_cmp replay.ended t ≡ is_ended t trail

-- the cell that these rows show at a place
abbrev pub cell_shown : List RecoveredRow → Cells
cell_shown [] q = Empty
cell_shown (r ∷ rows) q = if nat_eq q r.place then Full r.table r.row else cell_shown rows q

-- each place is above those before it
abbrev pub AreInOrder : List RecoveredRow → Type 0
AreInOrder rows = IsStrictlySortedBy nat_cmp (map (λ r. r.place) rows)

-- ---- Changes laid over one another

-- what one more Change leaves in a place
abbrev pub laid_one : (ℕ → Bool) → ℕ → Option Cell → TakenChange → Option Cell
laid_one ended q o c = if nat_eq q c.place then (if ended c.transaction then Some c.after else option_or o (Some c.before)) else o

abbrev pub laid : (ℕ → Bool) → ℕ → Option Cell → List TakenChange → Option Cell
laid ended q o [] = o
laid ended q o (c ∷ cs) = laid ended q (laid_one ended q o c) cs

-- the rows of the places that have one
abbrev pub row_in : ℕ → Cell → List RecoveredRow
row_in place Empty = []
row_in place (Full table row) = record { place = place; table = table; row = row } ∷ []

abbrev pub rows_in : List (ℕ × Cell) → List RecoveredRow
rows_in [] = []
rows_in (e ∷ es) = row_in e.0 e.1 ++ rows_in es

-- these rows show what a trail stands for
abbrev pub ShowTrail : List RecoveredRow → Trail → Type 0
ShowTrail rows trail = (q : ℕ) → cell_shown rows q ≡ standing no_cells trail q
