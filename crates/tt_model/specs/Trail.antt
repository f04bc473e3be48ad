-- The trail: the list of all entries with their positions, the newest first. So an entry is appended in front.
use Rattle.std.specs.Prelude.{◌≡◌, ℕ, ◌-◌, Bool, true, List, [], ◌∷◌, length, drop, take, if◌then◌else◌}
use Rattle.std.specs.Ordering.{is_eq, is_le, is_lt}
use Rattle.tt_value.specs.Position.{position_cmp}
use Rattle.tt_value.specs.declared.position.Position.{Position}
use Rattle.tt_record.specs.Entry.{length_of}
use Rattle.tt_record.specs.Place.{end_of}
use Rattle.tt_record.specs.declared.entry.Entry.{Entry}

-- An entry with its position.
pub record Placed : Type 0 where
  pub at : Position
  pub entry : Entry

-- The newest entry first.
abbrev pub Trail : Type 0
Trail = List Placed

-- ---- positions

abbrev pub position_lt : Position → Position → Bool
position_lt p q = is_lt (position_cmp p q)

abbrev pub position_le : Position → Position → Bool
position_le p q = is_le (position_cmp p q)

abbrev pub position_eq : Position → Position → Bool
position_eq p q = is_eq (position_cmp p q)

abbrev pub least_position : Position → Position → Position
least_position p q = if position_lt p q then p else q

abbrev pub greatest_position : Position → Position → Position
greatest_position p q = if position_lt p q then q else p

-- ---- ends

-- how many bytes an entry has
abbrev pub placed_length : Placed → ℕ
placed_length e = length_of e.entry

-- the end of an entry: its position, with its length added to the offset
abbrev pub placed_end : Placed → Position
placed_end e = end_of e.at (length_of e.entry)

-- the end of a trail; of the empty one, the end that opening found
abbrev pub trail_end : Position → Trail → Position
trail_end opened [] = opened
trail_end opened (e ∷ older) = placed_end e

-- each entry stands at or behind the end of the one before
abbrev pub IsOrdered : Position → Trail → Type 0
IsOrdered opened [] = Unit {0}
IsOrdered opened (e ∷ older) = (position_le (trail_end opened older) e.at ≡ true) × IsOrdered opened older

-- ---- parts of a trail

-- the first n entries of a trail
abbrev pub oldest : ℕ → Trail → Trail
oldest n trail = drop (length trail - n) trail

-- the entries after the first n
abbrev pub newest : ℕ → Trail → Trail
newest n trail = take (length trail - n) trail

-- the entries that begin before a position
unfoldable pub before : Position → Trail → Trail
before p [] = []
before p (e ∷ older) = if position_lt e.at p then e ∷ older else before p older

-- the entries at or after a position
abbrev pub since : Position → Trail → Trail
since p [] = []
since p (e ∷ older) = if position_le p e.at then e ∷ since p older else []
