-- Live transactions, what they see, and the places in use.
use Rattle.std.specs.Prelude.{ℕ, zero, suc, ◌/◌, Bool, true, false, not, ◌&&◌, ◌||◌, nat_eq, nat_lt, List, [], ◌∷◌, filter, count_by, max, Option, Some, None, if◌then◌else◌}
use Rattle.std.specs.List.{list_any}
use Rattle.tt_record.specs.declared.entry.Entry.{Entry}
use Rattle.tt_record.specs.declared.entry.Entry.TheVariants.{Change, Commit, Abort, Mark, Switch}
use Rattle.tt_model.specs.Trail.{Trail}
use Rattle.tt_model.specs.Committed.{Cells, changed_by, is_full}

-- The numbers in ascending order, with one more, each once.
abbrev pub with_number : ℕ → List ℕ → List ℕ
with_number t [] = t ∷ []
with_number t (u ∷ us) = if nat_lt t u then t ∷ u ∷ us else (if nat_eq t u then u ∷ us else u ∷ with_number t us)

abbrev pub without_number : ℕ → List ℕ → List ℕ
without_number t us = filter (λ u. not (nat_eq t u)) us

-- A Change makes its transaction live; its Commit or Abort ends it, and a Mark ends all.
abbrev pub live_after : Entry → List ℕ → List ℕ
live_after (Change t place before after) us = with_number t us
live_after (Commit t) us = without_number t us
live_after (Abort t) us = without_number t us
live_after Mark us = []
live_after (Switch file) us = us

-- Whether an entry ends a transaction.
abbrev pub ends : ℕ → Entry → Bool
ends t (Commit u) = nat_eq t u
ends t (Abort u) = nat_eq t u
ends t Mark = true
ends t _ = false

-- The live transactions in ascending number.
unfoldable pub live : Trail → List ℕ
live [] = []
live (e ∷ older) = live_after e.entry (live older)

abbrev pub is_live : ℕ → Trail → Bool
is_live t trail = list_any (nat_eq t) (live trail)

-- Whether an entry is a Change of this transaction that names this place.
abbrev pub names : ℕ → ℕ → Entry → Bool
names t place (Change u q before after) = nat_eq t u && nat_eq place q
names t place _ = false

abbrev pub touched : ℕ → ℕ → Trail → Bool
touched t place trail = list_any (λ e. names t place e.entry) trail

-- What a session sees: what is committed, with the Changes of its own live transaction over it.
abbrev pub view_of : Option ℕ → Trail → Cells → Cells
view_of None trail cells = cells
view_of (Some t) trail cells = changed_by t trail cells

-- A place is in use where a row is committed there or a Change of a live transaction names it.
unfoldable pub in_use : Cells → Trail → ℕ → Bool
in_use cells trail place = is_full (cells place) || list_any (λ t. touched t place trail) (live trail)

abbrev pub least_from : (ℕ → Bool) → ℕ → ℕ → ℕ
least_from taken zero place = place
least_from taken (suc more) place = if taken place then least_from taken more (suc place) else place

-- The least place below a bound that isn't taken; the bound where each is.
abbrev pub least_free : (ℕ → Bool) → ℕ → ℕ
least_free taken bound = least_from taken bound 0

-- The numbers below n, in order.
abbrev pub numbers_from : ℕ → ℕ → List ℕ
numbers_from zero from = []
numbers_from (suc n) from = from ∷ numbers_from n (suc from)

abbrev pub numbers_below : ℕ → List ℕ
numbers_below n = numbers_from n 0

-- How many places below a bound are taken.
abbrev pub taken_count : (ℕ → Bool) → ℕ → ℕ
taken_count taken bound = count_by taken (numbers_below bound)

-- One more than the transaction number of an entry. An entry without one gives 0, which no greatest number is changed by.
abbrev pub after_number : Entry → ℕ
after_number (Change t place before after) = suc t
after_number (Commit t) = suc t
after_number (Abort t) = suc t
after_number Mark = 0
after_number (Switch file) = 0

-- The next transaction number: above each in the trail, and at least the one that opening found.
unfoldable pub next_number : ℕ → Trail → ℕ
next_number opened [] = opened
next_number opened (e ∷ older) = max (after_number e.entry) (next_number opened older)

-- Above the page of the place that an entry names, and no less than before.
abbrev pub pages_after : Entry → ℕ → ℕ
pages_after (Change t place before after) pages = max (suc (place / 32)) pages
pages_after _ pages = pages

-- At least a count of pages, and above the page of each place that a Change names.
abbrev pub pages_named : ℕ → Trail → ℕ
pages_named pages [] = pages
pages_named pages (e ∷ older) = pages_after e.entry (pages_named pages older)
