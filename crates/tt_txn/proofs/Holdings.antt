-- What sessions hold, as names are taken and given back.
use Rattle.std.proofs.Common.{◌≡◌, ◌≢◌, ◌<◌, ◌≤◌, ℕ, zero, suc, Bool, true, false, cond, List, [], ◌∷◌, ◌++◌, length, set, map, Option, Some, None, refl, sym, ap, ap₂, ◌∙◌, arith, inl, inr}
use Rattle.std.specs.Prelude.{slice_get, nat_eq}
use Rattle.std.specs.List.{cons_option, list_any, IsDistinct}
use Rattle.std.specs.Map.{keys_of, lookup}
use Rattle.std.specs.Option.{option_map}
use Rattle.std.specs.Set.{remove_key}
use Rattle.std.proofs.lemmas.Bool.{cases_eq, cases_lt, eq-eqb, ne_eqb, or_parts, or_from, or_left, or_right}
use Rattle.std.proofs.lemmas.List.{get_or-set_same, get_or-set_other, get_or_push, get_or_append_left, get_or_past, length_push}
use Rattle.std.proofs.lemmas.List.Elements.{filter_map-append}
use Rattle.std.proofs.lemmas.Map.Entries.{lookup_from_place}
use Rattle.std.proofs.lemmas.Option.{same_Some}
use Rattle.tt_txn.specs.declared.held.Held.{Held}
use Rattle.tt_txn.specs.declared.lock_name.LockName.{LockName}
use Rattle.tt_txn.specs.Same.{same_name}
use Rattle.tt_txn.specs.NameLaws.{same_name-Decides, same_name-equivalence}
use Rattle.tt_txn.specs.Locks.{names_of, held, held_at, named, names_in, IsTied, IsTiedBut}
use Rattle.tt_txn.specs.Slots.{slot_in, slots_of, slot_at}
use Rattle.tt_txn.proofs.Ties.{Entry, Slots, same_names, none_some, same_pair, within_entries}

-- the names of a session, by its slots
pub names_of_map : (es : List Entry) (lists : List Slots) (s : ℕ) → names_of s (map (names_in es) lists) ≡ names_in es (slots_of s lists)
names_of_map es [] s = refl
names_of_map es (x ∷ xs) zero = refl
names_of_map es (x ∷ xs) (suc s) = names_of_map es xs s

pub same_ties : (xs ys : List Slots) (es : List Entry) → ((s j : ℕ) → slot_at s j ys ≡ slot_at s j xs) → IsTied xs es → IsTied ys es
same_ties xs ys es same tied = record {
  slots = λ s j x at. tied.slots s j x (sym (same s j) ∙ at);
  entries = λ s j x at. same s j ∙ tied.entries s j x at;
}

-- ---- a slot that is emptied

pub record IsCut (s a : ℕ) (xs ys : List Slots) : Type 0 where
  pub here : slot_at s a ys ≡ None
  pub others : (t j : ℕ) → (s ≡ t → a ≡ j → ⊥) → slot_at t j ys ≡ slot_at t j xs

pub loosened : (s a i : ℕ) (xs ys : List Slots) (es : List Entry) → slot_at s a xs ≡ Some i → IsCut s a xs ys → IsTied xs es → IsTiedBut i ys es
loosened s a i xs ys es at cut tied = record {
  within = within_entries es i (held s a) (tied.slots s a i at);
  unslotted = λ t j has. elim (same_pair s t a j) [
    | inl same ↦ none_some i (sym cut.here ∙ ap₂ (λ u k. slot_at u k ys) same.0 same.1 ∙ has)
    | inr apart ↦ let one = one_slot t j (sym (cut.others t j apart) ∙ has) in apart one.0 one.1
  ];
  slots = λ t j x has. elim (same_pair s t a j) [
    | inl same ↦ absurd (none_some x (sym cut.here ∙ ap₂ (λ u k. slot_at u k ys) same.0 same.1 ∙ has))
    | inr apart ↦ tied.slots t j x (sym (cut.others t j apart) ∙ has)
  ];
  entries = λ t j x other has.
      let was = tied.entries t j x has in
      cut.others t j (λ one two. other (same_Some x i (sym was ∙ ap₂ (λ u k. slot_at u k xs) (sym one) (sym two) ∙ at))) ∙ was;
}
  where
    one_slot : (t j : ℕ) → slot_at t j xs ≡ Some i → (s ≡ t) × (a ≡ j)
    one_slot t j has =
        let one : held s a ≡ held t j = same_Some (held s a) (held t j) (sym (tied.slots s a i at) ∙ tied.slots t j i has) in
        (ap (λ (h : Held). h.session) one, ap (λ (h : Held). h.at) one)

-- a session's slots written anew
pub anew_here : (lists : List Slots) (s : ℕ) (zs : Slots) → s < length lists → slots_of s (set lists s zs) ≡ zs
anew_here lists s zs within = get_or-set_same lists s zs [] within

pub cut_by : (lists : List Slots) (s a : ℕ) (zs : Slots) → s < length lists → slot_in a zs ≡ None → ((j : ℕ) → j ≢ a → slot_in j zs ≡ slot_at s j lists) → IsCut s a lists (set lists s zs)
cut_by lists s a zs within here others = record {
  here = ap (slot_in a) (anew_here lists s zs within) ∙ here;
  others = λ t j apart. elim (cases_eq t s) [
    | inl same ↦
        ap (λ u. slot_at u j (set lists s zs)) same
        ∙ ap (slot_in j) (anew_here lists s zs within)
        ∙ others j (λ place. apart (sym same) (sym place))
        ∙ ap (λ u. slot_at u j lists) (sym same)
    | inr other ↦ ap (slot_in j) (get_or-set_other lists s t zs [] other)
  ];
}

-- by `free`
pub freed : (lists : List Slots) (s a : ℕ) (zs : Slots) → s < length lists → ((q : ℕ) → slot_in q zs ≡ cond (nat_eq a q) None (slot_at s q lists)) → IsCut s a lists (set lists s zs)
freed lists s a zs within says =
    cut_by lists s a zs within (says a ∙ rw (eq-eqb a a refl) refl) (λ j apart. says j ∙ rw (ne_eqb a j (λ e. apart (sym e))) refl)

-- by `pop`
pub popped_at : (zs : Slots) (o : Option ℕ) → slot_in (length zs) (zs ++ o ∷ []) ≡ o
popped_at zs o = get_or_push zs o None (length zs) refl

pub popped_other : (zs : Slots) (o : Option ℕ) (j : ℕ) → j ≢ length zs → slot_in j zs ≡ slot_in j (zs ++ o ∷ [])
popped_other zs o j apart = elim (cases_lt j (length zs)) [
  | inl below ↦ sym (get_or_append_left zs (o ∷ []) None j below)
  | inr beyond ↦ get_or_past zs j None beyond ∙ sym (get_or_past (zs ++ o ∷ []) j None (omega (arith, beyond, apart, length_push zs o)))
]

pub popped : (lists : List Slots) (s : ℕ) (zs : Slots) (o : Option ℕ) → s < length lists → slots_of s lists ≡ zs ++ o ∷ [] → IsCut s (length zs) lists (set lists s zs)
popped lists s zs o within was =
    cut_by lists s (length zs) zs within (get_or_past zs (length zs) None (omega arith)) (λ j apart. popped_other zs o j apart ∙ ap (slot_in j) (sym was))

-- an empty slot that goes leaves all as it was
pub same_cut : (s a : ℕ) (xs ys : List Slots) → slot_at s a xs ≡ None → IsCut s a xs ys → (t j : ℕ) → slot_at t j ys ≡ slot_at t j xs
same_cut s a xs ys none cut t j = elim (same_pair s t a j) [
  | inl same ↦ ap₂ (λ u k. slot_at u k ys) (sym same.0) (sym same.1) ∙ cut.here ∙ sym none ∙ ap₂ (λ u k. slot_at u k xs) same.0 same.1
  | inr apart ↦ cut.others t j apart
]

-- ---- a name that is taken away

module _ (p : LockName → Bool) where
  pub none_removed : (xs : List LockName) → list_any p xs ≡ false → remove_key p xs ≡ xs
  none_removed [] e = refl
  none_removed (x ∷ xs) e =
      let (head, tail) = or_parts (p x) (list_any p xs) e in
      rw head (ap (λ (ys : List LockName). x ∷ ys) (none_removed xs tail))

  module _ (es : List Entry) where
    pub none_named : (xs : Slots) → ((j : ℕ) (k : LockName) → named es (slot_in j xs) ≡ Some k → p k ≡ false) → list_any p (names_in es xs) ≡ false
    none_named [] h = refl
    none_named (x ∷ xs) h = by (named es x) refl (none_named xs (λ j k. h (suc j) k))
      where
        by : (o : Option LockName) → named es x ≡ o → list_any p (names_in es xs) ≡ false → list_any p (cons_option o (names_in es xs)) ≡ false
        by None e rest = rest
        by (Some k) e rest = or_from (p k) (list_any p (names_in es xs)) (h 0 k e) rest

    pub some_named : (xs : Slots) (j : ℕ) (k : LockName) → named es (slot_in j xs) ≡ Some k → p k ≡ true → list_any p (names_in es xs) ≡ true
    some_named [] j k e is = absurd (none_some k e)
    some_named (x ∷ xs) zero k e is = rw e (or_left (p k) (list_any p (names_in es xs)) is)
    some_named (x ∷ xs) (suc j) k e is = by (named es x) (some_named xs j k e is)
      where
        by : (o : Option LockName) → list_any p (names_in es xs) ≡ true → list_any p (cons_option o (names_in es xs)) ≡ true
        by None rest = rest
        by (Some y) rest = or_right (p y) (list_any p (names_in es xs)) rest

    removed_in : (xs : Slots) (a : ℕ) (k : LockName) → named es (slot_in a xs) ≡ Some k → p k ≡ true → ((j : ℕ) (y : LockName) → j ≢ a → named es (slot_in j xs) ≡ Some y → p y ≡ false) →
        names_in es (set xs a None) ≡ remove_key p (names_in es xs)
    removed_in [] a k e is others = absurd (none_some k e)
    removed_in (x ∷ xs) zero k e is others = rw (e, is) refl
    removed_in (x ∷ xs) (suc a) k e is others = by (named es x) refl (removed_in xs a k e is (λ j y apart. others (suc j) y (λ same. apart (omega (arith, same)))))
      where
        by : (o : Option LockName) → named es x ≡ o → names_in es (set xs a None) ≡ remove_key p (names_in es xs) →
            cons_option o (names_in es (set xs a None)) ≡ remove_key p (cons_option o (names_in es xs))
        by None f rest = rest
        by (Some y) f rest = rw (others 0 y (λ same. omega (arith, same)) f) (ap (λ (ys : List LockName). y ∷ ys) rest)

    pub removed_at : (xs ys : Slots) (a : ℕ) (k : LockName) → named es (slot_in a xs) ≡ Some k → p k ≡ true → ((j : ℕ) (y : LockName) → j ≢ a → named es (slot_in j xs) ≡ Some y → p y ≡ false) →
        slot_in a ys ≡ None → ((j : ℕ) → j ≢ a → slot_in j ys ≡ slot_in j xs) → names_in es ys ≡ remove_key p (names_in es xs)
    removed_at xs ys a k e is others here rest = same_names es es ys (set xs a None) same ∙ removed_in xs a k e is others
      where
        within : (zs : Slots) (b : ℕ) → named es (slot_in b zs) ≡ Some k → b < length zs
        within [] b f = absurd (none_some k f)
        within (z ∷ zs) zero f = omega arith
        within (z ∷ zs) (suc b) f = omega (arith, within zs b f)

        same : (j : ℕ) → named es (slot_in j ys) ≡ named es (slot_in j (set xs a None))
        same j = elim (cases_eq j a) [
          | inl at ↦ ap (λ q. named es (slot_in q ys)) at ∙ ap (named es) (here ∙ sym (get_or-set_same xs a None None (within xs a e))) ∙ ap (λ q. named es (slot_in q (set xs a None))) (sym at)
          | inr apart ↦ ap (named es) (rest j apart ∙ sym (get_or-set_other xs a j None None apart))
        ]

-- ---- who holds a name

module _ (lists : List Slots) (es : List Entry) (tied : IsTied lists es) where
  -- a name at a slot, by its entry
  pub record IsNamed (s j : ℕ) (k : LockName) : Type 0 where
    pub index : ℕ
    pub slot : slot_at s j lists ≡ Some index
    pub entry : slice_get es index ≡ Some (k, held s j)

  pub named_at : (s j : ℕ) (k : LockName) → named es (slot_at s j lists) ≡ Some k → IsNamed s j k
  named_at s j k e = by (slot_at s j lists) refl e
    where
      at_entry : (x : ℕ) (o : Option Entry) → slice_get es x ≡ o → option_map (λ (f : Entry). f.0) o ≡ Some k → option_map (λ (f : Entry). f.1) o ≡ Some (held s j) → o ≡ Some (k, held s j)
      at_entry x None is first second = absurd (none_some k first)
      at_entry x (Some f) is first second = ap₂ (λ (a : LockName) (b : Held). Some (a, b)) (same_Some f.0 k first) (same_Some f.1 (held s j) second)

      by : (o : Option ℕ) → slot_at s j lists ≡ o → named es o ≡ Some k → IsNamed s j k
      by None at first = absurd (none_some k first)
      by (Some x) at first = record { index = x; slot = at; entry = at_entry x (slice_get es x) refl first (tied.slots s j x at) }

  module _ (unique : IsDistinct same_name (keys_of es)) (name : LockName) (i : ℕ) (k : LockName) (h : Held) (at : slice_get es i ≡ Some (k, h)) (same : same_name name k ≡ true) where
    key : name ≡ k
    key = (same_name-Decides name k).0 same

    pub held_is : slot_at h.session h.at lists ≡ Some i
    held_is = tied.entries h.session h.at i (ap (option_map (λ (f : Entry). f.1)) at)

    pub named_here : named es (slot_at h.session h.at lists) ≡ Some k
    named_here = ap (named es) held_is ∙ ap (option_map (λ (f : Entry). f.0)) at

    -- no other slot has it
    pub only_here : (s j : ℕ) (y : LockName) → (h.session ≡ s → h.at ≡ j → ⊥) → named es (slot_at s j lists) ≡ Some y → same_name name y ≡ false
    only_here s j y apart e = by (same_name name y) refl
      where
        by : (b : Bool) → same_name name y ≡ b → b ≡ false
        by false is = refl
        by true is =
            let n = named_at s j y e in
            let own : lookup (same_name k) es ≡ Some h = lookup_from_place same_name-equivalence es i k h unique at in
            let one : y ≡ k = sym ((same_name-Decides name y).0 is) ∙ key in
            let other : lookup (same_name y) es ≡ Some (held s j) = lookup_from_place same_name-equivalence es n.index y (held s j) unique n.entry in
            let equal : h ≡ held s j = same_Some h (held s j) (sym own ∙ ap (λ m. lookup (same_name m) es) (sym one) ∙ other) in
            absurd (apart (ap (λ (g : Held). g.session) equal) (ap (λ (g : Held). g.at) equal))

    pub holder_found : (s : ℕ) → list_any (same_name name) (names_in es (slots_of s lists)) ≡ nat_eq h.session s
    holder_found s = elim (cases_eq h.session s) [
      | inl own ↦
          some_named (same_name name) es (slots_of s lists) h.at k (ap (λ u. named es (slot_at u h.at lists)) (sym own) ∙ named_here) same
          ∙ sym (eq-eqb h.session s own)
      | inr other ↦ none_named (same_name name) es (slots_of s lists) (λ j y e. only_here s j y (λ own _. other own) e) ∙ sym (ne_eqb h.session s other)
    ]

    -- what each session is left with
    pub given_back : (ys : List Slots) → IsCut h.session h.at lists ys → (s : ℕ) → names_in es (slots_of s ys) ≡ remove_key (same_name name) (names_in es (slots_of s lists))
    given_back ys cut s = elim (cases_eq h.session s) [
      | inl own ↦
          removed_at (same_name name) es (slots_of s lists) (slots_of s ys) h.at k
          (ap (λ u. named es (slot_at u h.at lists)) (sym own) ∙ named_here) same
          (λ j y apart e. only_here s j y (λ _ place. apart (sym place)) e)
          (ap (λ u. slot_at u h.at ys) (sym own) ∙ cut.here)
          (λ j apart. cut.others s j (λ _ place. apart (sym place)))
      | inr other ↦
          same_names es es (slots_of s ys) (slots_of s lists) (λ j. ap (named es) (cut.others s j (λ own _. other own)))
          ∙ sym (none_removed (same_name name) (names_in es (slots_of s lists)) (none_named (same_name name) es (slots_of s lists) (λ j y e. only_here s j y (λ own _. other own) e)))
    ]

  -- where no entry has a name, no session holds it
  pub none_holds : (p : LockName → Bool) → lookup p es ≡ None → (s : ℕ) → list_any p (names_in es (slots_of s lists)) ≡ false
  none_holds p none s = none_named p es (slots_of s lists) (λ j k e. let n = named_at s j k e in fails es n.index (k, held s j) none n.entry)
    where
      fails : (fs : List Entry) (x : ℕ) (f : Entry) → lookup p fs ≡ None → slice_get fs x ≡ Some f → p f.0 ≡ false
      fails [] x f e at = absurd (none_some f at)
      fails (g ∷ gs) x f e at = by (p g.0) refl x e at (fails gs)
        where
          by : (b : Bool) → p g.0 ≡ b → (y : ℕ) → cond b (Some g.1) (lookup p gs) ≡ None → slice_get (g ∷ gs) y ≡ Some f →
              ((z : ℕ) (d : Entry) → lookup p gs ≡ None → slice_get gs z ≡ Some d → p d.0 ≡ false) → p f.0 ≡ false
          by true is y e at go = cc
          by false is zero e at go = ap (λ (d : Entry). p d.0) (sym (same_Some g f at)) ∙ is
          by false is (suc y) e at go = go y f e at

-- ---- a name that is taken

pub record IsPut (s a i : ℕ) (xs ys : List Slots) : Type 0 where
  pub free : slot_at s a xs ≡ None
  pub here : slot_at s a ys ≡ Some i
  pub others : (t j : ℕ) → (s ≡ t → a ≡ j → ⊥) → slot_at t j ys ≡ slot_at t j xs

entry_before : (es : List Entry) (e : Entry) (x : ℕ) → x < length es → slice_get (es ++ e ∷ []) x ≡ slice_get es x
entry_before [] e x h = absurd (omega arith)
entry_before (f ∷ fs) e zero h = refl
entry_before (f ∷ fs) e (suc x) h = entry_before fs e x (omega arith)

entry_last : (es : List Entry) (e : Entry) → slice_get (es ++ e ∷ []) (length es) ≡ Some e
entry_last [] e = refl
entry_last (f ∷ fs) e = entry_last fs e

pub tied_taken : (s a : ℕ) (name : LockName) (xs ys : List Slots) (es : List Entry) → IsPut s a (length es) xs ys → IsTied xs es → IsTied ys (es ++ (name, held s a) ∷ [])
tied_taken s a name xs ys es put tied = record {
  slots = λ t j x at. elim (same_pair s t a j) [
    | inl same ↦
        let index : length es ≡ x = same_Some (length es) x (sym put.here ∙ ap₂ (λ u k. slot_at u k ys) same.0 same.1 ∙ at) in
        ap (λ n. held_at n fs) (sym index) ∙ ap (option_map (λ (f : Entry). f.1)) (entry_last es e) ∙ ap₂ (λ u k. Some (held u k)) same.0 same.1
    | inr apart ↦
        let was = tied.slots t j x (sym (put.others t j apart) ∙ at) in
        ap (option_map (λ (f : Entry). f.1)) (entry_before es e x (within_entries es x (held t j) was)) ∙ was
  ];
  entries = λ t j x at. elim (cases_lt x (length es)) [
    | inl below ↦
        let was = tied.entries t j x (ap (option_map (λ (f : Entry). f.1)) (sym (entry_before es e x below)) ∙ at) in
        put.others t j (λ one two. none_some x (sym put.free ∙ ap₂ (λ u k. slot_at u k xs) one two ∙ was)) ∙ was
    | inr beyond ↦ last t j x beyond at
  ];
}
  where
    e : Entry
    e = (name, held s a)

    fs : List Entry
    fs = es ++ e ∷ []

    last : (t j x : ℕ) → length es ≤ x → held_at x fs ≡ Some (held t j) → slot_at t j ys ≡ Some x
    last t j x beyond at =
        let within = within_entries fs x (held t j) at in
        let index : x ≡ length es = omega (arith, within, beyond, length_push es e) in
        let one : held s a ≡ held t j = same_Some (held s a) (held t j) (sym (ap (option_map (λ (f : Entry). f.1)) (entry_last es e)) ∙ ap (λ n. held_at n fs) (sym index) ∙ at) in
        ap₂ (λ u k. slot_at u k ys) (sym (ap (λ (h : Held). h.session) one)) (sym (ap (λ (h : Held). h.at) one)) ∙ put.here ∙ ap Some (sym index)

-- names at slots that are in use stay, with one entry more
names_before : (s : ℕ) (e : Entry) (xs : List Slots) (es : List Entry) → IsTied xs es → names_in (es ++ e ∷ []) (slots_of s xs) ≡ names_in es (slots_of s xs)
names_before s e xs es tied = same_names (es ++ e ∷ []) es (slots_of s xs) (slots_of s xs) (λ j. by j (slot_at s j xs) refl)
  where
    by : (j : ℕ) (o : Option ℕ) → slot_at s j xs ≡ o → named (es ++ e ∷ []) (slot_at s j xs) ≡ named es (slot_at s j xs)
    by j None at = ap (named (es ++ e ∷ [])) at ∙ sym (ap (named es) at)
    by j (Some x) at =
        ap (named (es ++ e ∷ [])) at
        ∙ ap (option_map (λ (f : Entry). f.0)) (entry_before es e x (within_entries es x (held s j) (tied.slots s j x at)))
        ∙ sym (ap (named es) at)

-- a slot behind the others with the new entry
pub put_behind : (lists : List Slots) (s i : ℕ) → s < length lists → IsPut s (length (slots_of s lists)) i lists (set lists s (slots_of s lists ++ Some i ∷ []))
put_behind lists s i within =
    let zs = slots_of s lists in
    let anew = anew_here lists s (zs ++ Some i ∷ []) within in
    record {
      free = get_or_past zs (length zs) None (omega arith);
      here = ap (slot_in (length zs)) anew ∙ popped_at zs (Some i);
      others = λ t j apart. elim (cases_eq t s) [
        | inl same ↦
            ap (λ u. slot_at u j (set lists s (zs ++ Some i ∷ []))) same
            ∙ ap (slot_in j) anew
            ∙ sym (popped_other zs (Some i) j (λ place. apart (sym same) (sym place)))
            ∙ ap (λ u. slot_at u j lists) (sym same)
        | inr other ↦ ap (slot_in j) (get_or-set_other lists s t (zs ++ Some i ∷ []) [] other)
      ];
    }

pub names_taken : (s : ℕ) (e : Entry) (lists : List Slots) (es : List Entry) → s < length lists → IsTied lists es → (t : ℕ) →
    names_in (es ++ e ∷ []) (slots_of t (set lists s (slots_of s lists ++ Some (length es) ∷ []))) ≡ cond (nat_eq s t) (names_in es (slots_of s lists) ++ e.0 ∷ []) (names_in es (slots_of t lists))
names_taken s e lists es within tied t = elim (cases_eq s t) [
  | inl same ↦
      ap (λ u. names_in fs (slots_of u (set lists s (zs ++ Some (length es) ∷ [])))) (sym same)
      ∙ ap (names_in fs) (anew_here lists s (zs ++ Some (length es) ∷ []) within)
      ∙ filter_map-append (named fs) zs (Some (length es) ∷ [])
      ∙ ap₂ (λ (a b : List LockName). a ++ b) (names_before s e lists es tied) (ap (λ (o : Option Entry). cons_option (option_map (λ (f : Entry). f.0) o) []) (entry_last es e))
      ∙ sym (rw (eq-eqb s t same) refl)
  | inr apart ↦
      ap (names_in fs) (get_or-set_other lists s t (zs ++ Some (length es) ∷ []) [] (λ e. apart (sym e)))
      ∙ names_before t e lists es tied
      ∙ sym (rw (ne_eqb s t apart) refl)
]
  where
    zs : Slots
    zs = slots_of s lists

    fs : List Entry
    fs = es ++ e ∷ []

-- ---- nothing held

pub tied_empty : (lists : List Slots) → ((s : ℕ) → slots_of s lists ≡ []) → IsTied lists []
tied_empty lists empty = record {
  slots = λ s j x at. absurd (none_some x (sym (ap (slot_in j) (empty s)) ∙ at));
  entries = λ s j x at. absurd (none_some (held s j) at);
}
