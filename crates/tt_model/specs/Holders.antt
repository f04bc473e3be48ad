-- Which live transaction holds a key or the value of a unique index.
use Rattle.std.specs.Prelude.{◌≡◌, ℕ, Bool, true, false, not, ◌&&◌, ◌||◌, nat_eq, List, map, find, slice_get, unwrap_or, Option, Some, None}
use Rattle.std.specs.List.{list_any}
use Rattle.tt_value.specs.declared.value.Value.{Value}
use Rattle.tt_value.specs.declared.value.Value.TheVariants.{Null}
use Rattle.tt_value.specs.declared.value.Row.{Row}
use Rattle.tt_value.specs.declared.value.Cell.{Cell}
use Rattle.tt_value.specs.declared.value.Cell.TheVariants.{Empty, Full}
use Rattle.tt_record.specs.declared.entry.Entry.{Entry}
use Rattle.tt_record.specs.declared.entry.Entry.TheVariants.{Change}
use Rattle.tt_model.specs.Values.{same_values, is_null}
use Rattle.tt_model.specs.Trail.{Trail}
use Rattle.tt_model.specs.Live.{live, is_live}

-- The value of a row in a column.
abbrev pub value_at : Row → ℕ → Value
value_at row column = unwrap_or (slice_get row.values column) Null

abbrev pub values_at : List ℕ → Row → List Value
values_at columns row = map (value_at row) columns

-- What can be held: in a table, these values in these columns. A key is held so, and the value of a unique index.
pub record Held : Type 0 where
  pub table : ℕ
  pub columns : List ℕ
  pub values : List Value

-- A value with a Null in it is never held.
abbrev pub has_null : List Value → Bool
has_null values = list_any is_null values

abbrev pub has_held : Held → Cell → Bool
has_held name Empty = false
has_held name (Full table row) = nat_eq name.table table && same_values (values_at name.columns row) name.values

-- Whether an entry is a Change of this transaction whose row before or after has it.
abbrev pub holds_by : Held → ℕ → Entry → Bool
holds_by name t (Change u place before after) = nat_eq t u && (has_held name before || has_held name after)
holds_by name t _ = false

abbrev pub is_held_by : Held → Trail → ℕ → Bool
is_held_by name trail t = list_any (λ e. holds_by name t e.entry) trail

-- The live transaction that holds it.
unfoldable pub holder : Held → Trail → Option ℕ
holder name trail = find (is_held_by name trail) (live trail)

-- At most one live transaction holds it.
abbrev pub HasOneHolder : Held → Trail → Type 0
HasOneHolder name trail =
    (t u : ℕ) → is_live t trail ≡ true → is_live u trail ≡ true → is_held_by name trail t ≡ true → is_held_by name trail u ≡ true → t ≡ u

-- Whether a number is that of the own transaction.
abbrev pub is_own : Option ℕ → ℕ → Bool
is_own None t = false
is_own (Some own) t = nat_eq own t

-- Another live transaction than the own that holds it.
unfoldable pub other_holder : Option ℕ → Held → Trail → Option ℕ
other_holder own name trail = find (λ t. is_held_by name trail t && not (is_own own t)) (live trail)
