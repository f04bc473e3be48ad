-- The first name that isn't right, over members whose names ascend.
use Rattle.std.proofs.Common.{◌≡◌, ◌≢◌, ℕ, Bool, true, false, List, [], ◌∷◌, Option, Some, None, refl, sym, ap, ◌∙◌, inl, inr, ◌⊎◌, String, Global, nat_cmp, Less, Equal, Greater, Ordering, string_bytes, if◌then◌else◌}
use Rattle.std.proofs.lemmas.Bool.{false≢true}
use Rattle.std.proofs.lemmas.Cmp.{nat_list_cmp_total}
use Rattle.std.proofs.lemmas.Map.Lookups.{exact_bytes}
use Rattle.std.proofs.lemmas.Option.{none-some, same_Some}
use Rattle.std.specs.Cmp.{tied_itself}
use Rattle.std.specs.Cmp.Lexicographic.{slice_cmp}
use Rattle.std.specs.List.{AllByRecursion}
use Rattle.std.specs.List.Sorted.{IsStrictlySortedBy}
use Rattle.std.specs.Map.{keys_of}
use Rattle.std.specs.Ordering.{match_ordering, ordering_reverse}
use Rattle.std.specs.String.{string_cmp}
use Rattle.toml.specs.Data.{Data, Members, no_members, member, get_member}
use Rattle.toml.specs.View.{members_view}
use Rattle.toml.proofs.Views.{Entry}
use Rattle.tt_set.specs.Attribute.{is_right}
use Rattle.tt_set.specs.Settings.{IsWrong, AllRight, IsFirstWrong}

-- the first name that isn't right
abbrev pub first_wrong : Members → Option (List ℕ)
first_wrong no_members = None
first_wrong (member name value ms) = if is_right name value then first_wrong ms else Some name

abbrev pub below : List ℕ → List ℕ → Type 0
below k l = slice_cmp nat_cmp k l ≡ Less

-- each name of the members comes after k
abbrev pub AllAbove : List ℕ → Members → Type 0
AllAbove k no_members = Unit {0}
AllAbove k (member l d ms) = below k l × AllAbove k ms

-- the names ascend
abbrev pub Ascend : Members → Type 0
Ascend no_members = Unit {0}
Ascend (member k d ms) = AllAbove k ms × Ascend ms

above_from : (k : String Global) (es : List Entry) → AllByRecursion (λ y. string_cmp k y ≡ Less) (keys_of es) → AllAbove (string_bytes k) (members_view es)
above_from k [] h = tt
above_from k (e ∷ es) h = (h.0, above_from k es h.1)

pub ascend_from : (es : List Entry) → IsStrictlySortedBy string_cmp (keys_of es) → Ascend (members_view es)
unfolding IsStrictlySortedBy
ascend_from [] h = tt
ascend_from (e ∷ es) h = (above_from e.0 es h.0, ascend_from es h.1)

above_below : (k l : List ℕ) → below k l → slice_cmp nat_cmp l k ≡ Greater
above_below k l h = nat_list_cmp_total.antisymm l k ∙ ap ordering_reverse h

itself : (k : List ℕ) → slice_cmp nat_cmp k k ≡ Equal
itself = tied_itself nat_list_cmp_total

not_greater : (o : Ordering) → o ≡ Less → o ≢ Greater
not_greater o less greater = cc

-- what is found at a name stands first, or among the others
found_in : (name l : List ℕ) (value d : Data) (ms : Members) → get_member name (member l d ms) ≡ Some value → ((name ≡ l) × (d ≡ value)) ⊎ (get_member name ms ≡ Some value)
found_in name l value d ms found = by_order (slice_cmp nat_cmp name l) refl found
  where
    by_order : (o : Ordering) → slice_cmp nat_cmp name l ≡ o → match_ordering o (get_member name ms) (Some d) (get_member name ms) ≡ Some value → ((name ≡ l) × (d ≡ value)) ⊎ (get_member name ms ≡ Some value)
    by_order Less is same = inr same
    by_order Equal is same = inl (exact_bytes name l is, same_Some d value same)
    by_order Greater is same = inr same

-- a name that is found among members above k is above k
found_above : (k name : List ℕ) (value : Data) (ms : Members) → AllAbove k ms → get_member name ms ≡ Some value → below k name
found_above k name value no_members above found = absurd (none-some value found)
found_above k name value (member l d ms) above found = elim (found_in name l value d ms found) [
  | inl same ↦ rw (same.0) above.0
  | inr behind ↦ found_above k name value ms above.1 behind
]

found_first : (name : List ℕ) (value : Data) (ms : Members) → get_member name (member name value ms) ≡ Some value
found_first name value ms = ap (λ o. match_ordering o (get_member name ms) (Some value) (get_member name ms)) (itself name)

found_behind : (name l : List ℕ) (value d : Data) (ms : Members) → below l name → get_member name ms ≡ Some value → get_member name (member l d ms) ≡ Some value
found_behind name l value d ms order found = ap (λ o. match_ordering o (get_member name ms) (Some d) (get_member name ms)) (above_below l name order) ∙ found

-- a name that isn't right stands first, or among the others
wrong_in : (name l : List ℕ) (d : Data) (ms : Members) → IsWrong (member l d ms) name → ((name ≡ l) × (is_right l d ≡ false)) ⊎ IsWrong ms name
wrong_in name l d ms (value, found, wrong) = elim (found_in name l value d ms found) [
  | inl same ↦ inl (same.0, ap (λ n. is_right n d) (sym same.0) ∙ ap (is_right name) same.1 ∙ wrong)
  | inr behind ↦ inr (value, behind, wrong)
]

first_here : (l : List ℕ) (d : Data) (ms : Members) → AllAbove l ms → is_right l d ≡ false → IsFirstWrong (member l d ms) l
first_here l d ms above wrong = record {
  wrong = (d, found_first l d ms, wrong);
  first = λ other other_wrong. elim (wrong_in other l d ms other_wrong) [
    | inl same ↦ equal_not_greater l other (sym same.0)
    | inr behind ↦ not_greater _ (found_above l other behind.0 ms above behind.1)
  ];
}
  where
    equal_not_greater : (a b : List ℕ) → a ≡ b → slice_cmp nat_cmp a b ≢ Greater
    equal_not_greater a b same = let e : slice_cmp nat_cmp a b ≡ Equal = rw (← same) (itself a) in λ greater. cc

first_behind : (name l : List ℕ) (d : Data) (ms : Members) → AllAbove l ms → is_right l d ≡ true → IsFirstWrong ms name → IsFirstWrong (member l d ms) name
first_behind name l d ms above right is = record {
  wrong = (is.wrong.0, found_behind name l is.wrong.0 d ms (found_above l name is.wrong.0 ms above is.wrong.1) is.wrong.1, is.wrong.2);
  first = λ other other_wrong. elim (wrong_in other l d ms other_wrong) [
    | inl same ↦ absurd (false≢true (sym same.1 ∙ right))
    | inr behind ↦ is.first other behind
  ];
}

-- what the first name that isn't right is, if there is one
abbrev pub Judged : Members → Option (List ℕ) → Type 0
Judged ms None = AllRight ms
Judged ms (Some name) = IsFirstWrong ms name

pub judged : (ms : Members) → Ascend ms → Judged ms (first_wrong ms)
judged no_members ascend = λ name wrong. none-some wrong.0 wrong.1
judged (member l d ms) ascend = by_test (is_right l d) refl (first_wrong ms) (judged ms ascend.1)
  where
    by_test : (b : Bool) → is_right l d ≡ b → (found : Option (List ℕ)) → Judged ms found → Judged (member l d ms) (if b then found else Some l)
    by_test false is found more = first_here l d ms ascend.0 is
    by_test true is None more = λ name wrong. elim (wrong_in name l d ms wrong) [
      | inl same ↦ absurd (false≢true (sym same.1 ∙ is))
      | inr behind ↦ more name behind
    ]
    by_test true is (Some name) more = first_behind name l d ms ascend.0 is more
