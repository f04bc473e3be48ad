-- Keys, each with the values that it has. A key that has none isn't there.
use Rattle.std.specs.Prelude.{◌≡◌, Bool, not, List, [], ◌∷◌, unwrap_or}
use Rattle.std.specs.List.{filter}
use Rattle.std.specs.Map.{lookup}
use Rattle.std.specs.BTreeMap.{is_at, insert_entry}
use Rattle.std.specs.declared.cmp.Ordering.{Ordering}

module _ {K V : Type 0} where
  -- the entries of the keys that fail a test
  abbrev pub without : (K → Bool) → List (K × List V) → List (K × List V)
  without test entries = filter (λ (e : K × List V). not (test e.0)) entries

  -- only the entry of a key that passes a test may be another
  abbrev pub SameBut : (K → Bool) → List (K × List V) → List (K × List V) → Type 0
  SameBut test old new = without test new ≡ without test old

  module _ (cmp : K → K → Ordering) where
    -- the values of a key
    abbrev pub values_at : K → List (K × List V) → List V
    values_at key entries = unwrap_or (lookup (is_at (cmp key)) entries) []

    -- the entries with these values of a key, in the order of the keys
    abbrev pub with_values : K → List V → List (K × List V) → List (K × List V)
    with_values key [] entries = without (is_at (cmp key)) entries
    with_values key (value ∷ more) entries = insert_entry cmp entries key (value ∷ more)

    -- the entries with the values of one key changed
    abbrev pub changed : (List V → List V) → K → List (K × List V) → List (K × List V)
    changed change key entries = with_values key (change (values_at key entries)) entries
