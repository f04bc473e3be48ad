-- What the rows that were found make known.
use Rattle.std.specs.Prelude.{◌≡◌, ◌≤◌, ◌<◌, ℕ, ℤ, Bool, true, false, nat_eq, List}
use Rattle.std.specs.List.{list_any}
use Rattle.std.specs.BTreeSet.{contains, Updates}
use Rattle.std.specs.Ordering.{int_cmp, nat_cmp}
use Rattle.tt_recover.specs.declared.replay.RecoveredRow.{RecoveredRow}
use Rattle.tt_engine.specs.declared.rows.Rows.{Rows}
use Rattle.tt_engine.specs.Keys.{is_key, key_in}
use Rattle.tt_record.specs.Limits.{places_end}

-- one of these rows lies in a place
abbrev pub has_place : List RecoveredRow → ℕ → Bool
has_place found q = list_any (λ (r : RecoveredRow). nat_eq r.place q) found

-- one of these rows has a key
abbrev pub has_found_key : List RecoveredRow → ℤ → Bool
has_found_key found key = list_any (λ (r : RecoveredRow). is_key key (key_in r)) found

-- The keys and places of just these rows are known, and the least free place.
pub record HaveFound (rows : Rows) (found : List RecoveredRow) : Type 0 where
  pub keys : (key : ℤ) → contains int_cmp rows.keys key ≡ has_found_key found key
  pub places : (q : ℕ) → contains nat_cmp rows.used q ≡ has_place found q
  pub below : (q : ℕ) → q < rows.free → has_place found q ≡ true
  pub free : rows.free < places_end → has_place found rows.free ≡ false
  pub range : rows.free ≤ places_end

-- A row with this key has taken the free place.
pub record Takes (old new : Rows) (key : ℤ) : Type 0 where
  pub keys : Updates int_cmp old.keys new.keys key true
  pub place : old.free < new.free
  pub before : (q : ℕ) → old.free < q → q < new.free → contains nat_cmp old.used q ≡ true
  pub free : new.free < places_end → contains nat_cmp old.used new.free ≡ false
  pub used : new.used ≡ old.used
