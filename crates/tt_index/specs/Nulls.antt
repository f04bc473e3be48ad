-- The places of the key Null.
use Rattle.std.specs.Prelude.{ℕ, ℤ, Bool, true, false, List, [], ◌∷◌, ◌++◌, map, cond, int_lt, Option, Some, None}
use Rattle.std.specs.declared.cmp.Ordering.{Ordering}
use Rattle.std.specs.declared.cmp.Ordering.TheVariants.{Less, Greater}
use Rattle.std.specs.Ordering.{int_cmp}
use Rattle.std.specs.BTreeMap.{insert_entry}
use Rattle.tt_value.specs.Order.{row_cmp}
use Rattle.tt_value.specs.declared.value.Value.{Value}
use Rattle.tt_value.specs.declared.value.Value.TheVariants.{Int, Null}
use Rattle.tt_value.specs.declared.value.Row.{Row}
use Rattle.tt_index.specs.Indexes.{Entries}
use Rattle.tt_index.specs.declared.whole.Cut.{Cut}
use Rattle.tt_index.specs.declared.whole.Cut.TheVariants.{Below, At, After, Above}

abbrev pub null_row : Row
null_row = record { values = Null ∷ [] }

abbrev pub is_null_list : List Value → Bool
is_null_list (Null ∷ []) = true
is_null_list vs = false

-- whether a row is one Null
abbrev pub is_null_row : Row → Bool
is_null_row row = is_null_list row.values

-- the entry of Null, where it has places
abbrev pub null_entries : Option (List ℕ) → Entries
null_entries None = []
null_entries (Some places) = (null_row, places) ∷ []

-- the entries with that of Null, where it has places
abbrev pub joined_by_null : Option (List ℕ) → Entries → Entries
joined_by_null None es = es
joined_by_null (Some places) es = insert_entry row_cmp es null_row places

-- places of Null, where there are any
abbrev pub some_places : List ℕ → Option (List ℕ)
some_places [] = None
some_places (place ∷ more) = Some (place ∷ more)
