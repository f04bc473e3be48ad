-- All that the parts of the live transactions stand for together is kept by each call.
use Rattle.std.proofs.Common.{◌≡◌, ◌<◌, ℕ, Bool, true, false, cond, List, [], ◌∷◌, length, get_or, set, Option, Some, None, refl, sym, ap, ◌∙◌, subst}
use Rattle.std.specs.Prelude.{nat_eq, ◌&&◌}
use Rattle.std.specs.HashMap.{HashMap, get}
use Rattle.std.specs.List.{list_any}
use Rattle.std.specs.Map.{lookup}
use Rattle.std.specs.Option.{unwrap_or}
use Rattle.std.proofs.lemmas.Bool.{true≢false, eq-eqb}
use Rattle.std.specs.Set.{remove_key}
use Rattle.tt_txn.specs.declared.lock_name.LockName.{LockName}
use Rattle.tt_txn.specs.declared.noted.Noted.{Noted}
use Rattle.tt_txn.specs.declared.spots.Spot.{Spot}
use Rattle.tt_txn.specs.Same.{same_name}
use Rattle.tt_txn.specs.Locks.{Holdings, names_of, is_session, Holds}
use Rattle.tt_txn.specs.Spots.{spot, is_spot_at}
use Rattle.tt_txn.specs.Kept.{seen, IsKept}
use Rattle.tt_txn.specs.Live.{LiveTransaction, taking, giving_back, noting, undoing, IsSession}
use Rattle.tt_txn.specs.Table.{Transactions, transaction, is_live, number_of, with_begun, with_changed, without, noted_by, IsAscending}
use Rattle.tt_txn.specs.Txns.{other_holder, first_before, IsFreeFor, IsWhole}
use Rattle.tt_txn.proofs.Keeps.{kept_begun, kept_taking, kept_giving, kept_without, kept_noting, kept_undoing, kept_again}
use Rattle.tt_txn.proofs.Tables.{number_begun, number_changed, number_own, number_without, put_number, seat_of, vacant_begun, vacant_held, vacant_ended}
use Rattle.tt_txn.proofs.Views.{ascending_raw}

-- what is whole ascends, as it stands in the list
pub ascends : (hs : Holdings) (ls xs : Transactions) → xs ≡ ls → IsWhole (seen ls hs) → IsAscending xs
ascends hs ls xs is whole = let P : Transactions → Type 0 = λ ys. IsAscending ys in subst P (sym is) (ascending_raw hs ls whole.ascending)

-- nothing is kept where there is nothing
pub kept_none : {S : Type 0} (hs : Holdings) (firsts : HashMap ℕ Spot S) (own : List (Option ℕ)) (ls : Transactions) → ls ≡ [] → ((s : ℕ) → names_of s hs ≡ []) → firsts.entries ≡ [] → ((s : ℕ) → get_or own s None ≡ None) →
    IsKept hs firsts own (seen ls hs)
kept_none hs firsts own ls none holds empty numbers = let P : Transactions → Type 0 = λ ms. IsKept hs firsts own (seen ms hs) in subst P (sym none) (record {
  whole = record { ascending = tt; in_range = tt; sessions = λ s. tt; names = λ s. tt; places = λ s. tt };
  spots = λ q. ap (lookup (nat_eq q)) empty;
  numbers = numbers;
  vacant = λ s e. holds s;
})

-- the session that holds a name has a transaction, so it is in range
pub holder_seat : (hs : Holdings) (p : LockName → Bool) (s : ℕ) (vs : Transactions) → ((t : ℕ) → list_any p (names_of t hs) ≡ is_session t (Some s)) → ((t : ℕ) → number_of t vs ≡ None → names_of t hs ≡ []) → IsWhole vs → IsSession s
holder_seat hs p s vs says vacant whole = seat_of s vs whole.in_range (λ none. true≢false (sym (eq-eqb s s refl) ∙ sym (says s) ∙ ap (list_any p) (vacant s none)))

module _ {S : Type 0} (hs : Holdings) (firsts : HashMap ℕ Spot S) (own : List (Option ℕ)) (vs : Transactions) (kept : IsKept hs firsts own vs) where
  pub after_begin : (x : LiveTransaction) → IsSession x.session → x.noted ≡ [] → x.names ≡ [] → number_of x.session vs ≡ None → is_live x.number vs ≡ false → x.session < length own →
      IsKept hs firsts (set own x.session (Some x.number)) (with_begun x vs)
  after_begin x within noted names none new in_range =
      let pair = kept_begun firsts x vs within noted names none new (kept.whole, kept.spots) in
      record {
        whole = pair.0;
        spots = pair.1;
        numbers = λ t. put_number own x.session (Some x.number) t in_range ∙ ap (λ (o : Option ℕ). cond (nat_eq x.session t) (Some x.number) o) (kept.numbers t) ∙ sym (number_begun x t vs none);
        vacant = vacant_begun hs x vs none kept.vacant;
      }

  pub after_taking : (gs : Holdings) (n : ℕ) (m : LiveTransaction) (name : LockName) (names : List LockName) → transaction n vs ≡ Some m → other_holder n name vs ≡ None → Holds m.session names hs gs →
      IsKept gs firsts own (with_changed n (taking name) vs)
  after_taking gs n m name names is free says =
      let pair = kept_taking firsts n name vs free (kept.whole, kept.spots) in
      let same : (t : ℕ) → number_of t (with_changed n (taking name) vs) ≡ number_of t vs = λ t. number_changed n (taking name) t vs (λ l. refl) (λ l. refl) in
      record {
        whole = pair.0;
        spots = pair.1;
        numbers = λ t. kept.numbers t ∙ sym (same t);
        vacant = vacant_held hs gs n m names vs (with_changed n (taking name) vs) (number_own n m vs is (kept.whole.sessions m.session)) says same kept.vacant;
      }

  pub after_giving : (gs : Holdings) (n : ℕ) (name : LockName) → ((s : ℕ) → names_of s gs ≡ remove_key (same_name name) (names_of s hs)) → IsKept gs firsts own (with_changed n (giving_back name) vs)
  after_giving gs n name says =
      let pair = kept_giving firsts n name vs (kept.whole, kept.spots) in
      let same : (t : ℕ) → number_of t (with_changed n (giving_back name) vs) ≡ number_of t vs = λ t. number_changed n (giving_back name) t vs (λ l. refl) (λ l. refl) in
      record {
        whole = pair.0;
        spots = pair.1;
        numbers = λ t. kept.numbers t ∙ sym (same t);
        vacant = λ s e. says s ∙ ap (remove_key (same_name name)) (kept.vacant s (sym (same s) ∙ e));
      }

  pub after_noting : (n k : ℕ) (c : Noted) (after : HashMap ℕ Spot S) → is_live n vs ≡ true → IsFreeFor n (first_before c.place vs) → k ≡ length (noted_by n vs) →
      ((q : ℕ) → get nat_eq after q ≡ cond (nat_eq c.place q) (Some (unwrap_or (get nat_eq firsts c.place) (spot n k))) (get nat_eq firsts q)) →
      IsKept hs after own (with_changed n (noting c) vs)
  after_noting n k c after live free count put =
      let pair = kept_noting firsts n k c vs after live free count put (kept.whole, kept.spots) in
      let same : (t : ℕ) → number_of t (with_changed n (noting c) vs) ≡ number_of t vs = λ t. number_changed n (noting c) t vs (λ l. refl) (λ l. refl) in
      record {
        whole = pair.0;
        spots = pair.1;
        numbers = λ t. kept.numbers t ∙ sym (same t);
        vacant = λ s e. kept.vacant s (sym (same s) ∙ e);
      }

  pub after_undoing : (n k : ℕ) (c : Noted) (older : List Noted) (after : HashMap ℕ Spot S) → noted_by n vs ≡ c ∷ older → k ≡ length older →
      ((q : ℕ) → get nat_eq after q ≡ cond (nat_eq c.place q && is_spot_at k (get nat_eq firsts c.place)) None (get nat_eq firsts q)) →
      IsKept hs after own (with_changed n undoing vs)
  after_undoing n k c older after is count forgets =
      let pair = kept_undoing firsts n k c older vs after is count forgets (kept.whole, kept.spots) in
      let same : (t : ℕ) → number_of t (with_changed n undoing vs) ≡ number_of t vs = λ t. number_changed n undoing t vs (λ l. refl) (λ l. refl) in
      record {
        whole = pair.0;
        spots = pair.1;
        numbers = λ t. kept.numbers t ∙ sym (same t);
        vacant = λ s e. kept.vacant s (sym (same s) ∙ e);
      }

  -- a spot that was put and taken away again
  pub after_again : (put after : HashMap ℕ Spot S) (n place k : ℕ) → IsFreeFor n (first_before place vs) → k ≡ length (noted_by n vs) →
      ((q : ℕ) → get nat_eq put q ≡ cond (nat_eq place q) (Some (unwrap_or (get nat_eq firsts place) (spot n k))) (get nat_eq firsts q)) →
      ((q : ℕ) → get nat_eq after q ≡ cond (nat_eq place q && is_spot_at k (get nat_eq put place)) None (get nat_eq put q)) →
      IsKept hs after own vs
  after_again put after n place k free count puts forgets = record {
    whole = kept.whole;
    spots = kept_again firsts put after n place k vs free count puts forgets (kept.whole, kept.spots);
    numbers = kept.numbers;
    vacant = kept.vacant;
  }

  pub after_ending : (gs : Holdings) (n : ℕ) (m : LiveTransaction) → transaction n vs ≡ Some m → noted_by n vs ≡ [] → Holds m.session [] hs gs → m.session < length own →
      IsKept gs firsts (set own m.session None) (without n vs)
  after_ending gs n m is none says in_range =
      let pair = kept_without firsts n vs none (kept.whole, kept.spots) in
      let one = kept.whole.sessions m.session in
      record {
        whole = pair.0;
        spots = pair.1;
        numbers = λ t. put_number own m.session None t in_range ∙ ap (λ (o : Option ℕ). cond (nat_eq m.session t) None o) (kept.numbers t) ∙ sym (number_without n m t vs is one);
        vacant = vacant_ended hs gs n m vs is one says kept.vacant;
      }
