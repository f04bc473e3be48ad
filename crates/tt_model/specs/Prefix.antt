-- Which prefix of a trail a Found stands for, and when what opening finds is settled.
use Rattle.std.specs.Prelude.{◌≡◌, ◌⊎◌, ◌≤◌, ℕ, ◌+◌, [], length, Option, Some}
use Rattle.tt_value.specs.declared.position.Position.{Position}
use Rattle.tt_record.specs.Place.{position}
use Rattle.tt_model.specs.Trail.{Trail, trail_end, oldest, since}
use Rattle.tt_model.specs.Committed.{committed}
use Rattle.tt_model.specs.Live.{next_number}
use Rattle.tt_model.specs.Holds.{holds_of, least_hold_of}
use Rattle.tt_model.specs.Opened.{Opened, scan_of}
use Rattle.tt_model.specs.State.{State, trail, new_among, bound}

-- The least position that a Found's own rows and headers hold.
abbrev pub found_hold : ℕ → Opened → Position
found_hold bound f = least_hold_of f.end (holds_of (λ file. scan_of (f.heads file)) bound f.cells [])

-- The entries from the file of a position on.
abbrev pub from_file : Position → Trail → Trail
from_file p entries = since (position p.file 0) entries

-- A Found stands for the first n entries of a state's trail.
pub record StandsForFirst (n : ℕ) (s : State) (f : Opened) : Type 0 where
  pub least : length s.found.entries ≤ n
  pub most : n ≤ length (trail s)
  pub cells : (place : ℕ) → f.cells place ≡ committed s.found.cells (new_among n s) place
  pub entries : f.entries ≡ from_file (found_hold (bound s) f) (oldest n (trail s))
  pub end : (f.end ≡ trail_end s.found.end (new_among n s)) ⊎ (f.end ≡ position ((trail_end s.found.end (new_among n s)).file + 1) 0)
  pub next : f.next ≡ next_number s.found.next (oldest n (trail s))

-- It stands for a prefix that has at least the forced entries.
abbrev pub StandsForPrefix : ℕ → State → Opened → Type 0
StandsForPrefix forced s f = (n : ℕ) × (forced ≤ n) × StandsForFirst n s f

-- What is read of the files is one and the same in every map that a crash may leave, and in the present one. So it may be that nothing is
-- there, as of a backup set that wasn't made.
abbrev pub IsSame : {M R : Type 0} → (M → R) → (M → Type 0) → M → Type 0
IsSame {M} {R} read may now = (m : M) → may m → read m ≡ read now

-- Something is read, and the same: what opening finds of the log and the images.
abbrev pub IsSettled : {M R : Type 0} → (M → Option R) → (M → Type 0) → M → Type 0
IsSettled {M} {R} read may now = (found : R) × (read now ≡ Some found) × IsSame read may now
