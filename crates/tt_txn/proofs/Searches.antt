-- What a search by halves finds in the list, which ascends.
use Rattle.std.proofs.Common.{◌≡◌, ◌≢◌, ◌<◌, ◌≤◌, ℕ, zero, suc, Bool, true, false, [], ◌∷◌, length, get_or, Option, Some, None, Result, Ok, Err, IfOk, IfErr, refl, sym, ap, ◌∙◌, subst, arith, ltb, inl, inr}
use Rattle.std.specs.List.{position}
use Rattle.std.specs.List.Sorted.{IsSearchInRange, IsBinarySearchResult, IsNonDecreasingBy}
use Rattle.std.specs.Option.{option_map, unwrap_or}
use Rattle.std.specs.Ordering.{nat_cmp, ordering_index}
use Rattle.std.proofs.lemmas.Bool.{cases_eq, cases_lt, lt-ltb, le-ltb, eq-eqb, ne_eqb}
use Rattle.std.proofs.lemmas.Bool.Decides.{nat_tests}
use Rattle.std.proofs.lemmas.Cmp.{ranked}
use Rattle.std.proofs.lemmas.List.Sorted.{IsNonDecreasingBy-from_default}
use Rattle.tt_txn.specs.Live.{LiveTransaction, has_number, begun}
use Rattle.tt_txn.specs.Table.{Transactions, transaction, AllAbove, IsAscending}
use Rattle.tt_txn.proofs.Places.{first_place, position_is}

nobody : LiveTransaction
nobody = begun 0 0 (record { file = 0; offset = 0 })

above_at : (k : ℕ) (ls : Transactions) (j : ℕ) (d : LiveTransaction) → AllAbove k ls → j < length ls → k < (get_or ls j d).number
above_at k [] j d s h = absurd (omega arith)
above_at k (l ∷ ls) zero d s h = s.0
above_at k (l ∷ ls) (suc j) d s h = above_at k ls j d s.1 (omega arith)

-- numbers rise along the list
pub rises : (ls : Transactions) (i j : ℕ) (d : LiveTransaction) → IsAscending ls → i < j → j < length ls → (get_or ls i d).number < (get_or ls j d).number
rises [] i j d s h within = absurd (omega arith)
rises (l ∷ ls) i zero d s h within = absurd (omega arith)
rises (l ∷ ls) zero (suc j) d s h within = above_at l.number ls j d s.0 (omega arith)
rises (l ∷ ls) (suc i) (suc j) d s h within = rises ls i j d s.1 (omega arith) (omega arith)

first_at : (test : LiveTransaction → Bool) (ls : Transactions) (at : ℕ) (d : LiveTransaction) → at < length ls → test (get_or ls at d) ≡ true → ((j : ℕ) → j < at → test (get_or ls j d) ≡ false) → first_place test ls ≡ Some at
first_at test [] at d h is before = absurd (omega arith)
first_at test (l ∷ ls) zero d h is before = rw is refl
first_at test (l ∷ ls) (suc at) d h is before = rw (before 0 (omega arith), first_at test ls at d (omega arith) is (λ j below. before (suc j) (omega (arith, below)))) refl

first_or_end : (test : LiveTransaction → Bool) (ls : Transactions) (at : ℕ) (d : LiveTransaction) → at ≤ length ls → (at < length ls → test (get_or ls at d) ≡ true) → ((j : ℕ) → j < at → test (get_or ls j d) ≡ false) →
    unwrap_or (first_place test ls) (length ls) ≡ at
first_or_end test [] at d h is before = omega arith
first_or_end test (l ∷ ls) zero d h is before = rw (is (omega arith)) refl
first_or_end test (l ∷ ls) (suc at) d h is before =
    rw (before 0 (omega arith))
    (one_more (first_place test ls) (first_or_end test ls at d (omega arith) (λ below. is (omega (arith, below))) (λ j below. before (suc j) (omega (arith, below)))))
  where
    one_more : (o : Option ℕ) → unwrap_or o (length ls) ≡ at → unwrap_or (option_map suc o) (suc (length ls)) ≡ suc at
    one_more None e = ap suc e
    one_more (Some i) e = ap suc e

none_at : (n : ℕ) (ls : Transactions) (d : LiveTransaction) → ((j : ℕ) → j < length ls → (get_or ls j d).number ≢ n) → transaction n ls ≡ None
none_at n [] d h = refl
none_at n (l ∷ ls) d h = rw (ne_eqb l.number n (h 0 (omega arith))) (none_at n ls d (λ j below. h (suc j) (omega (arith, below))))

module _ (ls : Transactions) (asc : IsAscending ls) (n : ℕ) where
  at_number : ℕ → ℕ
  at_number j = (get_or ls j nobody).number

  comparisons_rise : IsNonDecreasingBy (λ (l : LiveTransaction). ordering_index (nat_cmp l.number n)) ls
  comparisons_rise = IsNonDecreasingBy-from_default (λ (l : LiveTransaction). ordering_index (nat_cmp l.number n)) ls nobody (λ i j le within.
      let keys_rise : (get_or ls i nobody).number ≤ (get_or ls j nobody).number = elim (cases_eq i j) [
        | inl same ↦ (let P : ℕ → Type 0 = λ k. (get_or ls i nobody).number ≤ (get_or ls k nobody).number in subst P same (omega arith))
        | inr apart ↦ (let less = rises ls i j nobody asc (omega (arith, le, apart)) within in omega (arith, less))
      ] in
      grind (arith, nat_tests))

  pub record IsSearched (r : Result ℕ ℕ) : Type 0 where
    pub found : IfOk r (λ at. position (has_number n) ls ≡ Some at)
    pub none : IfErr r (λ at. transaction n ls ≡ None)
    pub belongs : IfErr r (λ at. at ≡ unwrap_or (position (λ (l : LiveTransaction). ltb n l.number) ls) (length ls))

  pub searched : (r : Result ℕ ℕ) → IsSearchInRange r (length ls) → IsBinarySearchResult (λ (l : LiveTransaction). nat_cmp l.number n) ls r → IsSearched r
  searched (Ok at) within equal = record {
    found =
        position_is (has_number n) ls
        ∙ first_at (has_number n) ls at nobody within (eq-eqb (get_or ls at nobody).number n same) (λ j below. ne_eqb (get_or ls j nobody).number n (λ e. let less = rises ls j at nobody asc below within in omega (arith, e, same, less)));
    none = tt;
    belongs = tt;
  }
    where
      same : (get_or ls at nobody).number ≡ n
      same = ranked _ n _ (sym (equal nobody))
  searched (Err at) within parted = record {
    found = tt;
    none = none_at n ls nobody (λ j inside e. elim (cases_lt j at) [
      | inl below ↦ (let less = smaller j below in omega (arith, less, e))
      | inr beyond ↦ (let more = greater j beyond inside in omega (arith, more, e))
    ]);
    belongs =
        sym (ap (λ o. unwrap_or o (length ls)) (position_is (λ (l : LiveTransaction). ltb n l.number) ls)
        ∙ first_or_end (λ (l : LiveTransaction). ltb n l.number) ls at nobody within
        (λ inside. lt-ltb n (get_or ls at nobody).number (greater at (omega arith) inside))
        (λ j below. le-ltb n (get_or ls j nobody).number (let less = smaller j below in omega (arith, less))));
  }
    where
      smaller : (j : ℕ) → j < at → (get_or ls j nobody).number < n
      smaller j below = ranked _ n _ (sym ((parted comparisons_rise).0 j nobody (omega arith) below))

      greater : (j : ℕ) → at ≤ j → j < length ls → n < (get_or ls j nobody).number
      greater j beyond inside = ranked _ n _ (sym ((parted comparisons_rise).1 j nobody beyond inside))
