-- The names of tables, columns, indexes and bookmarks: 1 to 30 letters, digits and `_`, no digit first, in lower case,
-- and no word that the script keeps for itself.
use Rattle.std.specs.Prelude.{ℕ, Bool, not, ◌&&◌, ◌||◌, nat_le, nat_eq, List, [], ◌∷◌, length, codes, slice_index}
use Rattle.std.specs.List.{list_all, list_any}
use Rattle.std.specs.Str.{bytes_eq}
use Rattle.tt_value.specs.Limits.{name_most}

abbrev pub is_digit : ℕ → Bool
is_digit b = nat_le 48 b && nat_le b 57

-- a small letter, a digit or `_`
abbrev pub is_letter : ℕ → Bool
is_letter b = nat_eq b 95 || ((nat_le 97 b && nat_le b 122) || is_digit b)

-- the words that aren't names
abbrev pub reserved_words : List (List ℕ)
reserved_words =
    codes "and" ∷ codes "as" ∷ codes "asc" ∷ codes "bigint" ∷ codes "by" ∷ codes "commit" ∷ codes "count" ∷ codes "create"
    ∷ codes "delete" ∷ codes "desc" ∷ codes "drop" ∷ codes "from" ∷ codes "index" ∷ codes "insert" ∷ codes "into" ∷ codes "is"
    ∷ codes "key" ∷ codes "not" ∷ codes "null" ∷ codes "number" ∷ codes "on" ∷ codes "or" ∷ codes "order" ∷ codes "primary"
    ∷ codes "rollback" ∷ codes "select" ∷ codes "set" ∷ codes "sum" ∷ codes "table" ∷ codes "unique" ∷ codes "update"
    ∷ codes "values" ∷ codes "varchar" ∷ codes "where" ∷ []

unfoldable pub is_reserved : List ℕ → Bool
is_reserved bs = list_any (bytes_eq bs) reserved_words

unfoldable pub is_name : List ℕ → Bool
is_name bs =
    ((nat_le 1 (length bs) && nat_le (length bs) name_most) && not (is_digit (slice_index bs 0)))
    && (list_all is_letter bs && not (is_reserved bs))
