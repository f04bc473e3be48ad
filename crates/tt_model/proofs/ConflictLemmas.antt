-- Where no other live transaction holds a seen row's key, no other one changed its place.
use Rattle.std.proofs.Common.{◌≡◌, inl, inr, ℕ, Bool, true, false, not, cond, ◌&&◌, ◌||◌, nat_eq, find, List, [], ◌∷◌, Option, Some, None, unwrap_or, refl, sym, ap, ◌∙◌, true≢false}
use Rattle.std.proofs.lemmas.Bool.{eq-eqb, eqb-true, cases_Bool, or_cases, or_left, or_right, and_from, and_parts, both_ways}
use Rattle.std.specs.List.{list_any}
use Rattle.std.specs.Option.{option_or}
use Rattle.std.specs.Ordering.{int_eq}
use Rattle.std.proofs.lemmas.Bool.Decides.{Decides-int_eq}
use Rattle.std.proofs.lemmas.Slice.Eq.{bytes_eq-Decides}
use Rattle.tt_value.specs.declared.value.Value.{Value}
use Rattle.tt_value.specs.declared.value.Value.TheVariants.{Null, Int, Number, Text}
use Rattle.tt_value.specs.declared.value.Row.{Row}
use Rattle.tt_value.specs.declared.value.Cell.{Cell}
use Rattle.tt_value.specs.declared.value.Cell.TheVariants.{Full}
use Rattle.tt_value.specs.Same.{same_value}
use Rattle.tt_model.specs.Values.{same_values}
use Rattle.tt_record.specs.declared.entry.Entry.{Entry}
use Rattle.tt_record.specs.declared.entry.Entry.TheVariants.{Change, Commit, Abort, Mark, Switch}
use Rattle.tt_model.specs.Trail.{Trail}
use Rattle.tt_model.specs.Committed.{Cells, changed_by, committed}
use Rattle.tt_model.specs.Live.{live, is_live, touched}
use Rattle.tt_model.specs.Holders.{Held, has_held, holds_by, is_held_by, other_holder, values_at}
use Rattle.tt_model.specs.Steady.{IsGrown}
use Rattle.tt_model.proofs.SteadyLemmas.{changed_by-untouched}
use Rattle.tt_model.proofs.SteadySteps.{steady-grown}
use Rattle.tt_model.proofs.FirstBeforeLemmas.{before_by, first_before_by, first_before-committed}

-- none found means that none passes
none_step : (f : ℕ → Bool) (v u : ℕ) (r : Option ℕ) (more : Bool) → (r ≡ None → more ≡ true → f u ≡ false) →
    (b : Bool) → f v ≡ b → cond b (Some v) r ≡ None → (nat_eq u v || more) ≡ true → f u ≡ false
none_step f v u r more ih true e h l = let no_value : ⊥ = cc in absurd no_value
none_step f v u r more ih false e h l = elim (or_cases (nat_eq u v) more l) [
  | inl y ↦ ap f (eqb-true u v y) ∙ e
  | inr y ↦ ih h y
]

pub none_passes : (f : ℕ → Bool) (us : List ℕ) → find f us ≡ None → (u : ℕ) → list_any (nat_eq u) us ≡ true → f u ≡ false
none_passes f [] h u l = absurd (true≢false (sym l))
none_passes f (v ∷ us) h u l = none_step f v u (find f us) (list_any (nat_eq u) us) (λ k m. none_passes f us k u m) (f v) refl h l

-- the first before is the row before of a Change
some_same : (b c : Cell) → Some b ≡ Some c → b ≡ c
some_same b c h = ap (λ o. unwrap_or o b) h

held_Change : (name : Held) (u t p q : ℕ) (b a c : Cell) (x : Bool) → (nat_eq u t && nat_eq p q) ≡ x → cond x (Some b) None ≡ Some c → has_held name c ≡ true →
    (nat_eq u t && (has_held name b || has_held name a)) ≡ true
held_Change name u t p q b a c true e h k =
    and_from (nat_eq u t) (has_held name b || has_held name a) ((and_parts (nat_eq u t) (nat_eq p q) e).0)
    (or_left (has_held name b) (has_held name a) (ap (has_held name) (some_same b c h) ∙ k))
held_Change name u t p q b a c false e h k = let no_value : ⊥ = cc in absurd no_value

held_step : (name : Held) (u p : ℕ) (x : Entry) (f : Option Cell) (c : Cell) (more : Bool) → (f ≡ Some c → more ≡ true) →
    option_or f (before_by u p x) ≡ Some c → has_held name c ≡ true → (holds_by name u x || more) ≡ true
held_step name u p x (Some d) c more ih h k = or_right (holds_by name u x) more (ih h)
held_step name u p (Change t q b a) None c more ih h k =
    or_left (nat_eq u t && (has_held name b || has_held name a)) more (held_Change name u t p q b a c (nat_eq u t && nat_eq p q) refl h k)
held_step name u p (Commit t) None c more ih h k = ih h
held_step name u p (Abort t) None c more ih h k = ih h
held_step name u p Mark None c more ih h k = ih h
held_step name u p (Switch n) None c more ih h k = ih h

pub held_first : (name : Held) (u p : ℕ) (es : Trail) (c : Cell) → first_before_by u p es ≡ Some c → has_held name c ≡ true → is_held_by name es u ≡ true
held_first name u p [] c h k = let no_value : ⊥ = cc in absurd no_value
held_first name u p (e ∷ es) c h k =
    held_step name u p e.entry (first_before_by u p es) c (is_held_by name es u) (λ m. held_first name u p es c m k) h k

-- Where no other live transaction holds what the row at a place has, no other one changed the place. The row is what its
-- session sees: the committed one with the own Changes over it.
pub seen_row-mine : (base : Cells) (es : Trail) (t p : ℕ) (name : Held) → IsGrown base es → is_live t es ≡ true →
    has_held name (changed_by t es (committed base es) p) ≡ true → other_holder (Some t) name es ≡ None →
    (u : ℕ) → is_live u es ≡ true → touched u p es ≡ true → u ≡ t
unfolding other_holder
seen_row-mine base es t p name g l held none u lu k = elim (cases_Bool (touched t p es)) [
  | inl y ↦ (steady-grown base es g).only u t p lu l k y
  | inr n ↦ elim (cases_Bool (nat_eq t u)) [
    | inl e ↦ sym (eqb-true t u e)
    | inr d ↦
        let committed_held : has_held name (committed base es p) ≡ true
        = ap (has_held name) (sym (changed_by-untouched t p es (committed base es) n)) ∙ held in
        let by_u : is_held_by name es u ≡ true
        = held_first name u p es (committed base es p) (first_before-committed base u p es g lu k) committed_held in
        absurd (both_ways (is_held_by name es u && not (nat_eq t u))
        (none_passes (λ v. is_held_by name es v && not (nat_eq t v)) (live es) none u lu)
        (and_from (is_held_by name es u) (not (nat_eq t u)) by_u (ap not d)))
  ]
]

-- The same of a session with no live transaction: nobody changed the place.
pub seen_row-none : (base : Cells) (es : Trail) (p : ℕ) (name : Held) → IsGrown base es →
    has_held name (committed base es p) ≡ true → other_holder None name es ≡ None →
    (u : ℕ) → is_live u es ≡ true → touched u p es ≡ false
unfolding other_holder
seen_row-none base es p name g held none u lu = elim (cases_Bool (touched u p es)) [
  | inl k ↦ absurd (both_ways (is_held_by name es u && true)
      (none_passes (λ v. is_held_by name es v && true) (live es) none u lu)
      (and_from (is_held_by name es u) true (held_first name u p es (committed base es p) (first_before-committed base u p es g lu k) held) refl))
  | inr n ↦ n
]

-- A row has its own key.
pub same_value-self : (v : Value) → same_value v v ≡ true
same_value-self Null = refl
same_value-self (Int n) = (Decides-int_eq n n).1 refl
same_value-self (Number s n) = and_from (nat_eq s s) (int_eq n n) (eq-eqb s s refl) ((Decides-int_eq n n).1 refl)
same_value-self (Text bytes) = (bytes_eq-Decides bytes bytes).1 refl

pub same_values-self : (vs : List Value) → same_values vs vs ≡ true
same_values-self [] = refl
same_values-self (v ∷ vs) = and_from (same_value v v) (same_values vs vs) (same_value-self v) (same_values-self vs)

pub has_own_key : (table : ℕ) (columns : List ℕ) (row : Row) → has_held (record { table = table; columns = columns; values = values_at columns row }) (Full table row) ≡ true
has_own_key table columns row = and_from (nat_eq table table) (same_values (values_at columns row) (values_at columns row)) (eq-eqb table table refl) (same_values-self (values_at columns row))
