-- Which places a range gives.
use Rattle.std.proofs.Common.{◌≡◌, ℕ, Bool, true, false, cond, nat_eq, List, [], ◌∷◌, Option, Some, None, refl, sym, ap, ◌∙◌, unwrap_or, inl, inr}
use Rattle.std.specs.List.{list_any, flat_map}
use Rattle.std.specs.List.Sorted.{IsStrictlySortedBy}
use Rattle.std.specs.Map.{lookup, keys_of}
use Rattle.std.specs.BTreeMap.{is_at}
use Rattle.std.specs.BTreeMap.Range.{range_contains, entries_between}
use Rattle.std.specs.declared.ops.Bound.{Bound}
use Rattle.std.specs.Ordering.{is_eq}
use Rattle.std.proofs.lemmas.Bool.{or_left, or_right, or_cases}
use Rattle.std.proofs.lemmas.Cmp.{tied_itself, eq_by_cmp_equiv}
use Rattle.std.proofs.lemmas.List.Folds.{list_any-append}
use Rattle.std.proofs.lemmas.Map.{lookup-none}
use Rattle.std.proofs.lemmas.Map.Entries.{none_past_head}
use Rattle.std.proofs.lemmas.Map.Keys.{sorted_tail, IsDistinct-from_sorted}
use Rattle.tt_value.specs.Order.{row_cmp}
use Rattle.tt_value.specs.OrderLaws.{row_total}
use Rattle.tt_value.specs.declared.value.Row.{Row}
use Rattle.tt_index.specs.Indexes.{Entries, places_at, places_between}
use Rattle.tt_index.specs.Laws.{RangesAreSeen}
use Rattle.tt_index.proofs.Wholes.{same_key}

itself : (r : Row) → is_at (row_cmp r) r ≡ true
itself r = ap is_eq (tied_itself row_total r)

module _ (low high : Bound Row) where
  abbrev inside : Row → Bool
  inside key = range_contains row_cmp low high key

  abbrev gives : Entries → ℕ → Bool
  gives entries place = list_any (nat_eq place) (places_between low high entries)

  all_given : (entries : Entries) (key : Row) (place : ℕ) → inside key ≡ true → list_any (nat_eq place) (places_at key entries) ≡ true → list_any (nat_eq place) (places_between low high entries) ≡ true
  all_given [] key place within h = cc
  all_given (e ∷ es) key place within h = by (is_at (row_cmp key) e.0) refl h (all_given es key place within)
    where
      first : (b : Bool) → inside e.0 ≡ b → b ≡ true → list_any (nat_eq place) e.1 ≡ true → gives (e ∷ es) place ≡ true
      first false w t g = cc
      first true w t g =
          ap (λ c. list_any (nat_eq place) (flat_map (λ (x : Row × List ℕ). x.1) (cond c (e ∷ entries_between row_cmp low high es) (entries_between row_cmp low high es)))) w
          ∙ list_any-append (nat_eq place) e.1 (places_between low high es) ∙ or_left (list_any (nat_eq place) e.1) (gives es place) g

      later : (b : Bool) → inside e.0 ≡ b → gives es place ≡ true → gives (e ∷ es) place ≡ true
      later false w g = ap (λ c. list_any (nat_eq place) (flat_map (λ (x : Row × List ℕ). x.1) (cond c (e ∷ entries_between row_cmp low high es) (entries_between row_cmp low high es)))) w ∙ g
      later true w g =
          ap (λ c. list_any (nat_eq place) (flat_map (λ (x : Row × List ℕ). x.1) (cond c (e ∷ entries_between row_cmp low high es) (entries_between row_cmp low high es)))) w
          ∙ list_any-append (nat_eq place) e.1 (places_between low high es) ∙ or_right (list_any (nat_eq place) e.1) (gives es place) g

      by : (b : Bool) → is_at (row_cmp key) e.0 ≡ b → list_any (nat_eq place) (unwrap_or (cond b (Some e.1) (lookup (is_at (row_cmp key)) es)) []) ≡ true →
          (list_any (nat_eq place) (places_at key es) ≡ true → gives es place ≡ true) → gives (e ∷ es) place ≡ true
      by true at g go = first (inside e.0) refl (ap inside (sym (same_key key e.0 at)) ∙ within) g
      by false at g go = later (inside e.0) refl (go g)

  abbrev Given : Entries → ℕ → Type 0
  Given entries place = (key : Row) × (inside key ≡ true) × (list_any (nat_eq place) (places_at key entries) ≡ true)

  only_given : (entries : Entries) (place : ℕ) → IsStrictlySortedBy row_cmp (keys_of entries) → list_any (nat_eq place) (places_between low high entries) ≡ true → Given entries place
  only_given [] place s h = cc
  only_given (e ∷ es) place s h = by (inside e.0) refl (only_given es place (sorted_tail row_cmp e.0 (keys_of es) s)) h
    where
      -- a key of a later entry is another
      kept : (key : Row) (b : Bool) → is_at (row_cmp key) e.0 ≡ b → list_any (nat_eq place) (places_at key es) ≡ true → list_any (nat_eq place) (places_at key (e ∷ es)) ≡ true
      kept key false at g = ap (λ c. list_any (nat_eq place) (unwrap_or (cond c (Some e.1) (lookup (is_at (row_cmp key)) es)) [])) at ∙ g
      kept key true at g =
          let gone : lookup (is_at (row_cmp key)) es ≡ None =
          ap (λ k. lookup (is_at (row_cmp k)) es) (same_key key e.0 at) ∙ lookup-none (is_at (row_cmp e.0)) es (none_past_head (eq_by_cmp_equiv row_total) e.0 e es (IsDistinct-from_sorted row_cmp (keys_of (e ∷ es)) s) (itself e.0)) in
          let none : false ≡ true = sym (ap (λ (o : Option (List ℕ)). list_any (nat_eq place) (unwrap_or o [])) gone) ∙ g in
          cc

      later : Given es place → Given (e ∷ es) place
      later given =
          let (key, within, has) = given in
          (key, within, kept key (is_at (row_cmp key) e.0) refl has)

      by : (b : Bool) → inside e.0 ≡ b → (gives es place ≡ true → Given es place) → list_any (nat_eq place) (flat_map (λ (x : Row × List ℕ). x.1) (cond b (e ∷ entries_between row_cmp low high es) (entries_between row_cmp low high es))) ≡ true → Given (e ∷ es) place
      by false w go g = later (go g)
      by true w go g =
          elim (or_cases (list_any (nat_eq place) e.1) (gives es place) (sym (list_any-append (nat_eq place) e.1 (places_between low high es)) ∙ g)) [
            | inl first ↦ (e.0, w, ap (λ c. list_any (nat_eq place) (unwrap_or (cond c (Some e.1) (lookup (is_at (row_cmp e.0)) es)) [])) (itself e.0) ∙ first)
            | inr second ↦ later (go second)
          ]

pub ranges_are_seen : RangesAreSeen
ranges_are_seen = record {
  all = λ low high entries key place. all_given low high entries key place;
  only = λ low high entries place. only_given low high entries place;
}
