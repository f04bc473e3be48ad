-- An index whose keys are whole numbers and Null, as an index of rows.
use Rattle.std.specs.Prelude.{◌≡◌, ℕ, ℤ, Bool, true, false, List, [], ◌∷◌, ◌++◌, map, cond, int_lt, Option, Some, None}
use Rattle.std.specs.declared.cmp.Ordering.{Ordering}
use Rattle.std.specs.declared.cmp.Ordering.TheVariants.{Less, Greater}
use Rattle.std.specs.Ordering.{int_cmp}
use Rattle.std.specs.BTreeMap.{insert_entry}
use Rattle.std.specs.BTreeMap.Range.{is_from_start, is_past_end, range_contains}
use Rattle.std.specs.declared.ops.Bound.{Bound}
use Rattle.tt_value.specs.Order.{row_cmp}
use Rattle.tt_value.specs.declared.value.Value.{Value}
use Rattle.tt_value.specs.declared.value.Value.TheVariants.{Int, Null}
use Rattle.tt_value.specs.declared.value.Row.{Row}
use Rattle.tt_index.specs.Indexes.{Entries}
use Rattle.tt_index.specs.declared.whole.Cut.{Cut}
use Rattle.tt_index.specs.declared.whole.Cut.TheVariants.{Below, At, After, Above}
use Rattle.tt_index.specs.Nulls.{null_entries}
use Rattle.tt_index.specs.Whole.{whole_row}

-- entries of whole numbers, as those of an index
abbrev pub as_rows : List (ℤ × List ℕ) → Entries
as_rows es = map (λ (e : ℤ × List ℕ). (whole_row e.0, e.1)) es

-- entries with these places of a whole number
abbrev pub with_whole : ℤ → List ℕ → Entries → Entries
with_whole n places entries = insert_entry row_cmp entries (whole_row n) places

-- Null stands behind all whole numbers.
abbrev pub with_nulls : List (ℤ × List ℕ) → Option (List ℕ) → Entries
with_nulls es nulls = as_rows es ++ null_entries nulls
