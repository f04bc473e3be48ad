-- Slots and entries that tell of one another, as names are taken and given back.
use Rattle.std.proofs.Common.{◌≡◌, ◌≢◌, ◌⊎◌, ◌<◌, ◌-◌, ℕ, zero, suc, List, [], ◌∷◌, length, get_or, set, Option, Some, None, refl, sym, ap, ap₂, ◌∙◌, arith, inl, inr}
use Rattle.std.specs.Prelude.{slice_get}
use Rattle.std.specs.List.{cons_option}
use Rattle.std.specs.Option.{option_map}
use Rattle.std.proofs.lemmas.Bool.{cases_eq, cases_lt}
use Rattle.std.proofs.lemmas.List.{get_or-set_same, get_or-set_other}
use Rattle.std.proofs.lemmas.Option.{same_Some, slice_get-get_or}
use Rattle.tt_txn.specs.declared.held.Held.{Held}
use Rattle.tt_txn.specs.declared.lock_name.LockName.{LockName}
use Rattle.tt_txn.specs.Locks.{held, held_at, named, names_in, IsTied, IsTiedBut, Moves}
use Rattle.tt_txn.specs.Slots.{slot_in, slots_of, slot_at}

abbrev pub Entry : Type 0
Entry = LockName × Held

abbrev pub Slots : Type 0
Slots = List (Option ℕ)

-- ---- reading lists

pub none_some : {A : Type 0} (x : A) → None ≡ Some x → ⊥
none_some x e = cc

get_other : {A : Type 0} (xs : List A) (i j : ℕ) (y : A) → j ≢ i → slice_get (set xs i y) j ≡ slice_get xs j
get_other [] i j y h = refl
get_other (x ∷ xs) zero zero y h = absurd (h refl)
get_other (x ∷ xs) zero (suc j) y h = refl
get_other (x ∷ xs) (suc i) zero y h = refl
get_other (x ∷ xs) (suc i) (suc j) y h = get_other xs i j y (λ e. h (omega (arith, e)))

get_same : {A : Type 0} (xs : List A) (i : ℕ) (y : A) → i < length xs → slice_get (set xs i y) i ≡ Some y
get_same [] i y h = absurd (omega arith)
get_same (x ∷ xs) zero y h = refl
get_same (x ∷ xs) (suc i) y h = get_same xs i y (omega arith)

-- ---- slots

pub slot_within : (slots : Slots) (at i : ℕ) → slot_in at slots ≡ Some i → at < length slots
slot_within [] at i e = absurd (none_some i e)
slot_within (x ∷ xs) zero i e = omega arith
slot_within (x ∷ xs) (suc at) i e = omega (arith, slot_within xs at i e)

pub session_within : (lists : List Slots) (session at i : ℕ) → slot_at session at lists ≡ Some i → session < length lists
session_within [] session at i e = absurd (none_some i e)
session_within (x ∷ xs) zero at i e = omega arith
session_within (x ∷ xs) (suc session) at i e = omega (arith, session_within xs session at i e)

-- the same names at each slot are the same names
pub same_names : (es fs : List Entry) (xs ys : Slots) → ((at : ℕ) → named es (slot_in at xs) ≡ named fs (slot_in at ys)) → names_in es xs ≡ names_in fs ys
same_names es fs [] [] h = refl
same_names es fs [] (y ∷ ys) h = rw (← h 0) (same_names es fs [] ys (λ at. h (suc at)))
same_names es fs (x ∷ xs) [] h = rw (h 0) (same_names es fs xs [] (λ at. h (suc at)))
same_names es fs (x ∷ xs) (y ∷ ys) h = ap₂ cons_option (h 0) (same_names es fs xs ys (λ at. h (suc at)))

-- ---- an entry leaves

pub same_pair : (s t i j : ℕ) → ((s ≡ t) × (i ≡ j)) ⊎ (s ≡ t → i ≡ j → ⊥)
same_pair s t i j = elim (cases_eq s t) [
  | inl e ↦ elim (cases_eq i j) [ inl f ↦ inl (e, f) | inr f ↦ inr (λ _ g. f g) ]
  | inr e ↦ inr (λ g _. e g)
]

pub within_entries : (es : List Entry) (i : ℕ) (h : Held) → held_at i es ≡ Some h → i < length es
within_entries [] i h e = absurd (none_some h e)
within_entries (x ∷ xs) zero h e = omega arith
within_entries (x ∷ xs) (suc i) h e = omega (arith, within_entries xs i h e)

module _ (i : ℕ) (lists : List Slots) (es fs : List Entry) (tied : IsTiedBut i lists es) (moves : Moves i es fs) where
  -- an entry that came to the index of the one that left was the last
  pub came : (e : Entry) → slice_get fs i ≡ Some e → (i < length es - 1) × (slice_get es (length es - 1) ≡ Some e)
  came e is = elim (cases_lt i (length es - 1)) [
    | inl below ↦ (below, sym (moves.moved below) ∙ is)
    | inr beyond ↦ absurd (none_some e (sym (moves.past i beyond) ∙ is))
  ]

  -- its slot
  pub owner : (e : Entry) → slice_get fs i ≡ Some e → slot_at e.1.session e.1.at lists ≡ Some (length es - 1)
  owner e is =
      let (below, last) = came e is in
      tied.entries e.1.session e.1.at (length es - 1) (λ same. omega (arith, same, below)) (ap (option_map (λ (f : Entry). f.1)) last)

  -- the slots of the entry that came, written anew
  pub record IsAnew (e : Entry) (anew : List Slots) : Type 0 where
    pub here : slice_get fs i ≡ Some e
    pub put : slot_at e.1.session e.1.at anew ≡ Some i
    pub others : (s j : ℕ) → (e.1.session ≡ s → e.1.at ≡ j → ⊥) → slot_at s j anew ≡ slot_at s j lists

  -- an entry of a slot that isn't the last one's stays
  stays : (s j x : ℕ) → slot_at s j lists ≡ Some x → x < length es - 1 → slice_get fs x ≡ slice_get es x
  stays s j x at below = moves.kept x below (λ same. tied.unslotted s j (at ∙ ap Some same))

  below_last : (s j x : ℕ) → slot_at s j lists ≡ Some x → x ≢ length es - 1 → x < length es - 1
  below_last s j x at apart = omega (arith, apart, within_entries es x (held s j) (tied.slots s j x at))

  module _ (e : Entry) (anew : List Slots) (put : IsAnew e anew) where
    last_is : held_at (length es - 1) es ≡ Some e.1
    last_is = ap (option_map (λ (f : Entry). f.1)) (came e put.here).1

    not_last : (s j x : ℕ) → (e.1.session ≡ s → e.1.at ≡ j → ⊥) → slot_at s j lists ≡ Some x → x ≢ length es - 1
    not_last s j x apart at same =
        let is : Some e.1 ≡ Some (held s j) = sym last_is ∙ ap (λ n. held_at n es) (sym same) ∙ tied.slots s j x at in
        let one : e.1 ≡ held s j = same_Some e.1 (held s j) is in
        apart (ap (λ (h : Held). h.session) one) (ap (λ (h : Held). h.at) one)

    pub tied_anew : IsTied anew fs
    tied_anew = record {
      slots = λ s j x at. elim (same_pair e.1.session s e.1.at j) [
        | inl same ↦
            let own : slot_at s j anew ≡ Some i = ap₂ (λ t k. slot_at t k anew) (sym same.0) (sym same.1) ∙ put.put in
            let index : i ≡ x = same_Some i x (sym own ∙ at) in
            ap (λ n. held_at n fs) (sym index) ∙ ap (option_map (λ (f : Entry). f.1)) put.here ∙ ap₂ (λ t k. Some (held t k)) same.0 same.1
        | inr apart ↦
            let was = sym (put.others s j apart) ∙ at in
            ap (option_map (λ (f : Entry). f.1)) (stays s j x was (below_last s j x was (not_last s j x apart was))) ∙ tied.slots s j x was
      ];
      entries = λ s j x at. elim (cases_eq x i) [
        | inl same ↦
            let is : Some e.1 ≡ Some (held s j) = sym (ap (option_map (λ (f : Entry). f.1)) put.here) ∙ ap (λ n. held_at n fs) (sym same) ∙ at in
            let one : e.1 ≡ held s j = same_Some e.1 (held s j) is in
            ap₂ (λ t k. slot_at t k anew) (sym (ap (λ (h : Held). h.session) one)) (sym (ap (λ (h : Held). h.at) one)) ∙ put.put ∙ ap Some (sym same)
        | inr apart ↦
            let below = held_below s j x at in
            let was : slot_at s j lists ≡ Some x = tied.entries s j x apart (ap (option_map (λ (f : Entry). f.1)) (sym (moves.kept x below apart)) ∙ at) in
            put.others s j (λ session place. other_index s j x below was session place) ∙ was
      ];
    }
      where
        held_below : (s j x : ℕ) → held_at x fs ≡ Some (held s j) → x < length es - 1
        held_below s j x at = elim (cases_lt x (length es - 1)) [
          | inl below ↦ below
          | inr beyond ↦ absurd (none_some (held s j) (sym (ap (option_map (λ (f : Entry). f.1)) (moves.past x beyond)) ∙ at))
        ]

        other_index : (s j x : ℕ) → x < length es - 1 → slot_at s j lists ≡ Some x → e.1.session ≡ s → e.1.at ≡ j → ⊥
        other_index s j x below was session place =
            let last : slot_at s j lists ≡ Some (length es - 1) = ap₂ (λ t k. slot_at t k lists) (sym session) (sym place) ∙ owner e put.here in
            let same : x ≡ length es - 1 = same_Some x (length es - 1) (sym was ∙ last) in
            omega (arith, same, below)

    pub names_anew : (session : ℕ) → names_in fs (slots_of session anew) ≡ names_in es (slots_of session lists)
    names_anew s = same_names fs es (slots_of s anew) (slots_of s lists) (λ j. elim (same_pair e.1.session s e.1.at j) [
      | inl same ↦
          let own : slot_at s j anew ≡ Some i = ap₂ (λ t k. slot_at t k anew) (sym same.0) (sym same.1) ∙ put.put in
          let was : slot_at s j lists ≡ Some (length es - 1) = ap₂ (λ t k. slot_at t k lists) (sym same.0) (sym same.1) ∙ owner e put.here in
          ap (named fs) own ∙ ap (option_map (λ (f : Entry). f.0)) (put.here ∙ sym (came e put.here).1) ∙ sym (ap (named es) was)
      | inr apart ↦ ap (named fs) (put.others s j apart) ∙ kept s j apart (slot_at s j lists) refl
    ])
      where
        kept : (s j : ℕ) → (e.1.session ≡ s → e.1.at ≡ j → ⊥) → (o : Option ℕ) → slot_at s j lists ≡ o → named fs (slot_at s j lists) ≡ named es (slot_at s j lists)
        kept s j apart None at = ap (named fs) at ∙ sym (ap (named es) at)
        kept s j apart (Some x) at =
            ap (named fs) at
            ∙ ap (option_map (λ (f : Entry). f.0)) (stays s j x at (below_last s j x at (not_last s j x apart at)))
            ∙ sym (ap (named es) at)

  -- where the one that left was the last
  module _ (none : slice_get fs i ≡ None) where
    it_was : i ≡ length es - 1
    it_was = elim (cases_lt i (length es - 1)) [
      | inl below ↦ absurd (none_some (get_or es (length es - 1) (some_entry es tied.within)) (sym none ∙ moves.moved below ∙ slice_get-get_or es (length es - 1) (some_entry es tied.within) (omega (arith, tied.within))))
      | inr beyond ↦ omega (arith, beyond, tied.within)
    ]
      where
        some_entry : (gs : List Entry) → i < length gs → Entry
        some_entry [] h = absurd (omega arith)
        some_entry (g ∷ gs) h = g

    below_it : (s j x : ℕ) → slot_at s j lists ≡ Some x → x < length es - 1
    below_it s j x at = below_last s j x at (λ same. tied.unslotted s j (at ∙ ap Some (same ∙ sym it_was)))

    pub tied_without : IsTied lists fs
    tied_without = record {
      slots = λ s j x at. ap (option_map (λ (f : Entry). f.1)) (stays s j x at (below_it s j x at)) ∙ tied.slots s j x at;
      entries = λ s j x at.
          let below = below s j x at in
          let apart : x ≢ i = λ same. omega (arith, same, below, it_was) in
          tied.entries s j x apart (ap (option_map (λ (f : Entry). f.1)) (sym (moves.kept x below apart)) ∙ at);
    }
      where
        below : (s j x : ℕ) → held_at x fs ≡ Some (held s j) → x < length es - 1
        below s j x at = elim (cases_lt x (length es - 1)) [
          | inl h ↦ h
          | inr beyond ↦ absurd (none_some (held s j) (sym (ap (option_map (λ (f : Entry). f.1)) (moves.past x beyond)) ∙ at))
        ]

    pub names_without : (session : ℕ) → names_in fs (slots_of session lists) ≡ names_in es (slots_of session lists)
    names_without s = same_names fs es (slots_of s lists) (slots_of s lists) (λ j. kept s j (slot_at s j lists) refl)
      where
        kept : (s j : ℕ) (o : Option ℕ) → slot_at s j lists ≡ o → named fs (slot_at s j lists) ≡ named es (slot_at s j lists)
        kept s j None at = ap (named fs) at ∙ sym (ap (named es) at)
        kept s j (Some x) at =
            ap (named fs) at
            ∙ ap (option_map (λ (f : Entry). f.0)) (stays s j x at (below_it s j x at))
            ∙ sym (ap (named es) at)

-- ---- a slot that is written

pub put_here : (lists : List Slots) (s at : ℕ) (slots : Slots) (o : Option ℕ) → s < length lists → slots_of s lists ≡ slots → at < length slots → slot_at s at (set lists s (set slots at o)) ≡ o
put_here lists s at slots o session is within =
    ap (slot_in at) (get_or-set_same lists s (set slots at o) [] session) ∙ get_or-set_same slots at o None within

pub put_elsewhere : (lists : List Slots) (s at : ℕ) (slots : Slots) (o : Option ℕ) → s < length lists → slots_of s lists ≡ slots → (t j : ℕ) → (s ≡ t → at ≡ j → ⊥) →
    slot_at t j (set lists s (set slots at o)) ≡ slot_at t j lists
put_elsewhere lists s at slots o session is t j apart = elim (cases_eq t s) [
  | inl same ↦
      ap (λ r. slot_at r j (set lists s (set slots at o))) same
      ∙ ap (slot_in j) (get_or-set_same lists s (set slots at o) [] session)
      ∙ get_or-set_other slots at j o None (λ place. apart (sym same) (sym place))
      ∙ ap (slot_in j) (sym is)
      ∙ ap (λ r. slot_at r j lists) (sym same)
  | inr other ↦ ap (slot_in j) (get_or-set_other lists s t (set slots at o) [] other)
]
