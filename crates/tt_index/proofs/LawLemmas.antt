-- Which values keys have where those of one are changed, and which pairs there are then.
use Rattle.std.proofs.Common.{◌≡◌, ℕ, Bool, true, false, cond, not, ◌&&◌, ◌||◌, nat_eq, if◌then◌else◌, List, [], ◌∷◌, Option, Some, None, refl, sym, ap, ◌∙◌, unwrap_or, is_some}
use Rattle.std.specs.List.{list_any}
use Rattle.std.specs.Map.{lookup}
use Rattle.std.specs.BTreeMap.{is_at, insert_entry}
use Rattle.std.specs.Cmp.{IsTotalOrder}
use Rattle.std.specs.Ordering.{nat_cmp, is_eq, match_ordering, ordering_reverse}
use Rattle.std.specs.declared.cmp.Ordering.{Ordering}
use Rattle.std.specs.declared.cmp.Ordering.TheVariants.{Less, Equal, Greater}
use Rattle.std.proofs.lemmas.Bool.{eqb-true, true≢false}
use Rattle.std.proofs.lemmas.Cmp.{tied_itself, nat_cmp_total}
use Rattle.std.proofs.lemmas.Map.Entries.{lookup-filter-keys}
use Rattle.tt_value.specs.Order.{row_cmp}
use Rattle.tt_value.specs.OrderLaws.{row_total}
use Rattle.tt_value.specs.declared.value.Row.{Row}
use Rattle.tt_index.specs.Rows.{without, values_at, with_values, changed}
use Rattle.tt_index.specs.Indexes.{Entries, Numbered, entries_of, places_at, places_in, has_pair, with_place, without_place, with_pair, without_pair, without_index, AreAmong}
use Rattle.tt_index.specs.Laws.{is_pair, UnusedStayEmpty, IndexesAreSeen, PairsAreSeen, PlacesAreSeen}
use Rattle.tt_index.proofs.PlaceLists.{at_place, same_place}
use Rattle.tt_index.proofs.Wholes.{same_key}

reversed : (o : Ordering) → is_eq (ordering_reverse o) ≡ is_eq o
reversed Less = refl
reversed Equal = refl
reversed Greater = refl

turned : {K : Type 0} {cmp : K → K → Ordering} → IsTotalOrder cmp → (x y : K) → is_at (cmp x) y ≡ is_at (cmp y) x
turned {K} {cmp} total x y = ap is_eq (total.antisymm x y) ∙ reversed (cmp y x)

module _ {K V : Type 0} (cmp : K → K → Ordering) (total : IsTotalOrder cmp) (exact : (x y : K) → is_at (cmp x) y ≡ true → x ≡ y) where
  -- what a key has where one got other values
  look_inserted : (key other : K) (w : List V) (es : List (K × List V)) → lookup (is_at (cmp other)) (insert_entry cmp es key w) ≡ cond (is_at (cmp key) other) (Some w) (lookup (is_at (cmp other)) es)
  look_inserted key other w [] = ap (λ b. let none : Option (List V) = None in cond b (Some w) none) (turned total other key)
  look_inserted key other w (x ∷ xs) = by (cmp key x.0) refl (look_inserted key other w xs)
    where
      rest : Option (List V)
      rest = lookup (is_at (cmp other)) xs

      chosen : (b : Bool) → cond b (Some w) (lookup (is_at (cmp other)) xs) ≡ cond b (Some w) (cond b (Some x.1) (lookup (is_at (cmp other)) xs))
      chosen true = refl
      chosen false = refl

      either : (a b : Bool) → is_at (cmp other) x.0 ≡ a → is_at (cmp key) other ≡ b → cmp key x.0 ≡ Greater →
          cond a (Some x.1) (cond b (Some w) (lookup (is_at (cmp other)) xs)) ≡ cond b (Some w) (cond a (Some x.1) (lookup (is_at (cmp other)) xs))
      either true true h g at =
          let equal : Equal ≡ Greater = sym (tied_itself total key) ∙ ap (cmp key) (exact key other g ∙ exact other x.0 h) ∙ at in
          cc
      either true false h g at = refl
      either false true h g at = refl
      either false false h g at = refl

      by : (o : Ordering) → cmp key x.0 ≡ o → lookup (is_at (cmp other)) (insert_entry cmp xs key w) ≡ cond (is_at (cmp key) other) (Some w) (lookup (is_at (cmp other)) xs) →
          lookup (is_at (cmp other)) (match_ordering o ((key, w) ∷ x ∷ xs) ((x.0, w) ∷ xs) (x ∷ insert_entry cmp xs key w))
          ≡ cond (is_at (cmp key) other) (Some w) (cond (is_at (cmp other) x.0) (Some x.1) (lookup (is_at (cmp other)) xs))
      by Less at go = ap (λ b. cond b (Some w) (cond (is_at (cmp other) x.0) (Some x.1) (lookup (is_at (cmp other)) xs))) (turned total other key)
      by Equal at go =
          let same : is_at (cmp other) x.0 ≡ is_at (cmp key) other = ap (is_at (cmp other)) (sym (exact key x.0 (ap is_eq at))) ∙ turned total other key in
          ap (λ b. cond b (Some w) (lookup (is_at (cmp other)) xs)) same
          ∙ chosen (is_at (cmp key) other)
          ∙ ap (λ b. cond (is_at (cmp key) other) (Some w) (cond b (Some x.1) (lookup (is_at (cmp other)) xs))) (sym same)
      by Greater at go = ap (cond (is_at (cmp other) x.0) (Some x.1)) go ∙ either (is_at (cmp other) x.0) (is_at (cmp key) other) refl refl at

  look_without : (key other : K) (es : List (K × List V)) → lookup (is_at (cmp other)) (without (is_at (cmp key)) es) ≡ cond (not (is_at (cmp key) other)) (lookup (is_at (cmp other)) es) None
  look_without key other es =
      lookup-filter-keys (is_at (cmp other)) (λ k. not (is_at (cmp key) k)) (not (is_at (cmp key) other)) (λ k h. ap (λ x. not (is_at (cmp key) x)) (sym (exact other k h))) es

  values_with : (key other : K) (vs : List V) (es : List (K × List V)) → values_at cmp other (with_values cmp key vs es) ≡ cond (is_at (cmp key) other) vs (values_at cmp other es)
  values_with key other [] es = ap (λ (o : Option (List V)). unwrap_or o []) (look_without key other es) ∙ by (is_at (cmp key) other)
    where
      by : (b : Bool) → unwrap_or (cond (not b) (lookup (is_at (cmp other)) es) None) [] ≡ cond b [] (values_at cmp other es)
      by true = refl
      by false = refl
  values_with key other (v ∷ vs) es = ap (λ (o : Option (List V)). unwrap_or o []) (look_inserted key other (v ∷ vs) es) ∙ by (is_at (cmp key) other)
    where
      by : (b : Bool) → unwrap_or (cond b (Some (v ∷ vs)) (lookup (is_at (cmp other)) es)) [] ≡ cond b (v ∷ vs) (values_at cmp other es)
      by true = refl
      by false = refl

  -- what a key has where the values of one are changed
  pub values_changed : (change : List V → List V) (key other : K) (es : List (K × List V)) → values_at cmp other (changed cmp change key es) ≡ cond (is_at (cmp key) other) (change (values_at cmp other es)) (values_at cmp other es)
  values_changed change key other es = values_with key other (change (values_at cmp key es)) es ∙ by (is_at (cmp key) other) refl
    where
      by : (b : Bool) → is_at (cmp key) other ≡ b → cond b (change (values_at cmp key es)) (values_at cmp other es) ≡ cond b (change (values_at cmp other es)) (values_at cmp other es)
      by true h = ap (λ k. change (values_at cmp k es)) (exact key other h)
      by false h = refl

  -- a key that is taken out isn't there
  pub look_gone : (key : K) (es : List (K × List V)) → lookup (is_at (cmp key)) (without (is_at (cmp key)) es) ≡ None
  look_gone key es = look_without key key es ∙ ap (λ o. let none : Option (List V) = None in cond (not (is_eq o)) (lookup (is_at (cmp key)) es) none) (tied_itself total key)

  -- a key that has nothing left isn't there
  pub look_emptied : (change : List V → List V) (key : K) (es : List (K × List V)) → values_at cmp key (changed cmp change key es) ≡ [] → lookup (is_at (cmp key)) (changed cmp change key es) ≡ None
  look_emptied change key es e = by (change (values_at cmp key es)) (sym (ap (λ o. cond (is_eq o) (change (values_at cmp key es)) (values_at cmp key es)) (tied_itself total key)) ∙ sym (values_with key key (change (values_at cmp key es)) es) ∙ e)
    where
      by : (vs : List V) → vs ≡ [] → lookup (is_at (cmp key)) (with_values cmp key vs es) ≡ None
      by [] h = look_gone key es
      by (v ∷ vs) h = cc

exact_number : (x y : ℕ) → is_at (nat_cmp x) y ≡ true → x ≡ y
exact_number x y e = eqb-true x y (sym (at_place x y) ∙ e)

-- ---- which places lists have

nat_turned : (a b : ℕ) → nat_eq a b ≡ nat_eq b a
nat_turned a b = sym (at_place a b) ∙ ap is_eq (nat_cmp_total.antisymm a b) ∙ reversed (nat_cmp b a) ∙ at_place b a

either_twice : (a b : Bool) → (a || b) ≡ (a || (a || b))
either_twice true b = refl
either_twice false b = refl

exchanged : (a b c : Bool) → (a || (b || c)) ≡ (b || (a || c))
exchanged true true c = refl
exchanged true false c = refl
exchanged false true c = refl
exchanged false false c = refl

has_added : (p q : ℕ) (ps : List ℕ) → list_any (nat_eq p) (with_place q ps) ≡ (nat_eq p q || list_any (nat_eq p) ps)
has_added p q [] = refl
has_added p q (x ∷ ps) = by (nat_cmp q x) refl (has_added p q ps)
  where
    by : (o : Ordering) → nat_cmp q x ≡ o → list_any (nat_eq p) (with_place q ps) ≡ (nat_eq p q || list_any (nat_eq p) ps) →
        list_any (nat_eq p) (match_ordering o (q ∷ x ∷ ps) (x ∷ ps) (x ∷ with_place q ps)) ≡ (nat_eq p q || (nat_eq p x || list_any (nat_eq p) ps))
    by Less e go = refl
    by Equal e go =
        either_twice (nat_eq p x) (list_any (nat_eq p) ps)
        ∙ ap (λ k. nat_eq p k || (nat_eq p x || list_any (nat_eq p) ps)) (sym (same_place q x e))
    by Greater e go = ap (λ b. nat_eq p x || b) go ∙ exchanged (nat_eq p x) (nat_eq p q) (list_any (nat_eq p) ps)

has_dropped : (p q : ℕ) (ps : List ℕ) → list_any (nat_eq p) (without_place q ps) ≡ (not (nat_eq p q) && list_any (nat_eq p) ps)
has_dropped p q [] = by (not (nat_eq p q))
  where
    by : (b : Bool) → false ≡ (b && false)
    by true = refl
    by false = refl
has_dropped p q (x ∷ ps) = by (nat_eq q x) refl (nat_eq p x) refl (has_dropped p q ps)
  where
    all : (b c : Bool) → (b && c) ≡ (b && (false || c))
    all b c = refl

    by : (a : Bool) → nat_eq q x ≡ a → (b : Bool) → nat_eq p x ≡ b → list_any (nat_eq p) (without_place q ps) ≡ (not (nat_eq p q) && list_any (nat_eq p) ps) →
        list_any (nat_eq p) (cond (not a) (x ∷ without_place q ps) (without_place q ps)) ≡ (not (nat_eq p q) && (b || list_any (nat_eq p) ps))
    by true h true g go =
        let same : nat_eq p q ≡ true = ap (nat_eq p) (eqb-true q x h) ∙ g in
        go ∙ ap (λ b. not b && list_any (nat_eq p) ps) same ∙ sym (ap (λ b. not b && true) same)
    by true h false g go = go
    by false h true g go =
        let apart : nat_eq p q ≡ false = nat_turned p q ∙ ap (nat_eq q) (eqb-true p x g) ∙ h in
        ap (λ b. b || list_any (nat_eq p) (without_place q ps)) g ∙ sym (ap (λ b. not b && true) apart)
    by false h false g go = ap (λ b. b || list_any (nat_eq p) (without_place q ps)) g ∙ go

-- ---- the laws

places_changed : (change : List ℕ → List ℕ) (index : ℕ) (key : Row) (indexes : Numbered) (number : ℕ) (other : Row) →
    places_in number other (changed nat_cmp (changed row_cmp change key) index indexes)
    ≡ cond (nat_eq index number && is_eq (row_cmp key other)) (change (places_in number other indexes)) (places_in number other indexes)
places_changed change index key indexes number other =
    ap (places_at other) (values_changed nat_cmp nat_cmp_total exact_number (changed row_cmp change key) index number indexes)
    ∙ ap (λ b. places_at other (cond b (changed row_cmp change key (entries_of number indexes)) (entries_of number indexes))) (at_place index number)
    ∙ by (nat_eq index number)
  where
    by : (b : Bool) → places_at other (cond b (changed row_cmp change key (entries_of number indexes)) (entries_of number indexes))
        ≡ cond (b && is_eq (row_cmp key other)) (change (places_in number other indexes)) (places_in number other indexes)
    by true = values_changed row_cmp row_total same_key change key other (entries_of number indexes)
    by false = refl

pub places_are_seen : PlacesAreSeen
places_are_seen = record {
  added = λ index key place indexes number other. places_changed (with_place place) index key indexes number other;
  dropped = λ index key place indexes number other. places_changed (without_place place) index key indexes number other;
}

pair_added : (index : ℕ) (key : Row) (place : ℕ) (indexes : Numbered) (number : ℕ) (other : Row) (at : ℕ) →
    has_pair number other at (with_pair index key place indexes) ≡ (is_pair index key place number other at || has_pair number other at indexes)
pair_added index key place indexes number other at =
    ap (list_any (nat_eq at)) (places_changed (with_place place) index key indexes number other)
    ∙ by (nat_eq index number) (is_eq (row_cmp key other)) (places_in number other indexes)
  where
    by : (a b : Bool) (ps : List ℕ) → list_any (nat_eq at) (cond (a && b) (with_place place ps) ps) ≡ (((a && b) && nat_eq place at) || list_any (nat_eq at) ps)
    by true true ps = has_added at place ps ∙ ap (λ c. c || list_any (nat_eq at) ps) (nat_turned at place)
    by true false ps = refl
    by false true ps = refl
    by false false ps = refl

pair_dropped : (index : ℕ) (key : Row) (place : ℕ) (indexes : Numbered) (number : ℕ) (other : Row) (at : ℕ) →
    has_pair number other at (without_pair index key place indexes) ≡ (not (is_pair index key place number other at) && has_pair number other at indexes)
pair_dropped index key place indexes number other at =
    ap (list_any (nat_eq at)) (places_changed (without_place place) index key indexes number other)
    ∙ by (nat_eq index number) (is_eq (row_cmp key other)) (places_in number other indexes)
  where
    by : (a b : Bool) (ps : List ℕ) → list_any (nat_eq at) (cond (a && b) (without_place place ps) ps) ≡ (not ((a && b) && nat_eq place at) && list_any (nat_eq at) ps)
    by true true ps = has_dropped at place ps ∙ ap (λ c. not c && list_any (nat_eq at) ps) (nat_turned at place)
    by true false ps = refl
    by false true ps = refl
    by false false ps = refl

entries_without : (index : ℕ) (indexes : Numbered) (number : ℕ) → entries_of number (without_index index indexes) ≡ cond (nat_eq index number) [] (entries_of number indexes)
entries_without index indexes number =
    values_changed nat_cmp nat_cmp_total exact_number (λ (es : Entries). let none : Entries = [] in none) index number indexes
    ∙ ap (λ b. let none : Entries = [] in cond b none (entries_of number indexes)) (at_place index number)

pub pairs_are_seen : PairsAreSeen
pairs_are_seen = record {
  none = λ number key at. refl;
  added = pair_added;
  dropped = pair_dropped;
  index_dropped = λ index indexes number other at.
      ap (λ es. list_any (nat_eq at) (places_at other es)) (entries_without index indexes number)
      ∙ by (nat_eq index number) (entries_of number indexes) other at;
}
  where
    by : (b : Bool) (es : Entries) (other : Row) (at : ℕ) → list_any (nat_eq at) (places_at other (cond b [] es)) ≡ (not b && list_any (nat_eq at) (places_at other es))
    by true es other at = refl
    by false es other at = refl

missing : (o : Option Entries) → is_some o ≡ false → unwrap_or o [] ≡ []
missing None h = refl
missing (Some es) h = cc

pub indexes_are_seen : IndexesAreSeen
indexes_are_seen = record {
  none = λ number. refl;
  empty = λ number indexes h. missing (lookup (is_at (nat_cmp number)) indexes) h;
  dropped = λ index indexes. ap is_some (look_gone nat_cmp nat_cmp_total exact_number index indexes);
  others = entries_without;
  emptied = λ index key place indexes e. ap is_some (look_emptied nat_cmp nat_cmp_total exact_number (changed row_cmp (without_place place) key) index indexes e);
}

-- ---- indexes that aren't in use

unused_added : (used : ℕ → Bool) (index : ℕ) (key : Row) (place : ℕ) (indexes : Numbered) → used index ≡ true → AreAmong used indexes → AreAmong used (with_pair index key place indexes)
unused_added used index key place indexes in_use among number unused =
    values_changed nat_cmp nat_cmp_total exact_number (changed row_cmp (with_place place) key) index number indexes ∙ by (is_at (nat_cmp index) number) refl
  where
    by : (b : Bool) → is_at (nat_cmp index) number ≡ b → cond b (changed row_cmp (with_place place) key (entries_of number indexes)) (entries_of number indexes) ≡ []
    by true h = absurd (true≢false (sym in_use ∙ (ap used (exact_number index number h) ∙ unused)))
    by false h = among number unused

unused_dropped : (used : ℕ → Bool) (index : ℕ) (key : Row) (place : ℕ) (indexes : Numbered) → AreAmong used indexes → AreAmong used (without_pair index key place indexes)
unused_dropped used index key place indexes among number unused =
    values_changed nat_cmp nat_cmp_total exact_number (changed row_cmp (without_place place) key) index number indexes ∙ by (is_at (nat_cmp index) number)
  where
    by : (b : Bool) → cond b (changed row_cmp (without_place place) key (entries_of number indexes)) (entries_of number indexes) ≡ []
    by true = ap (changed row_cmp (without_place place) key) (among number unused)
    by false = among number unused

unused_without : (used : ℕ → Bool) (index : ℕ) (indexes : Numbered) → AreAmong used indexes → AreAmong (λ number. used number && not (nat_eq index number)) (without_index index indexes)
unused_without used index indexes among number unused = indexes_are_seen.others index indexes number ∙ by (used number) (nat_eq index number) refl unused
  where
    by : (u b : Bool) → used number ≡ u → (u && not b) ≡ false → (if b then [] else entries_of number indexes) ≡ []
    by u true h e = refl
    by true false h e = absurd (true≢false e)
    by false false h e = among number h

pub unused_stay_empty : UnusedStayEmpty
unused_stay_empty = record {
  none = λ used number unused. refl;
  added = unused_added;
  dropped = unused_dropped;
  index_dropped = unused_without;
  more_used = λ used more indexes fewer among number unused. among number (fewer number unused);
}
