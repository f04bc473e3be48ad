-- What one more entry does to a place, and where the first entry of a transaction then stands.
use Rattle.std.proofs.Common.{◌≡◌, ℕ, Bool, true, false, not, ◌&&◌, ◌||◌, nat_eq, List, [], ◌∷◌, Option, Some, None, refl, sym, ap, ◌∙◌}
use Rattle.std.proofs.lemmas.Bool.{eq-eqb, eqb-true, or_left, or_right, and_parts, both_ways, false_from_ne_true}
use Rattle.std.specs.List.{list_any}
use Rattle.tt_value.specs.declared.position.Position.{Position}
use Rattle.tt_record.specs.Place.{position}
use Rattle.tt_record.specs.declared.entry.Entry.{Entry}
use Rattle.tt_record.specs.declared.entry.Entry.TheVariants.{Change, Commit, Abort, Mark, Switch}
use Rattle.tt_model.specs.Trail.{Trail, position_lt, placed_end}
use Rattle.tt_model.specs.Committed.{Cells, changed, is_full}
use Rattle.tt_model.specs.Live.{live, is_live, touched, names, ends, in_use, without_number}
use Rattle.tt_model.specs.Holders.{is_own}
use Rattle.tt_model.specs.Holds.{first_entry, older_or, is_change_of, low}
use Rattle.tt_model.specs.Steady.{HasInHand, leaves_in_hand, changes_place}
use Rattle.tt_model.proofs.SteadyLemmas.{at_place, changed_by-untouched, is_in-without, is_in-without_other}
use Rattle.tt_model.proofs.HolderLemmas.{has_one, in_use-Change, low-end}
use Rattle.tt_model.proofs.LowLemmas.{least-is, some_length}

-- What isn't a Change of the transaction at the place leaves what lies there.
pub changed-not_named : (t q : ℕ) (x : Entry) (cells : Cells) → names t q x ≡ false → changed t x cells q ≡ cells q
changed-not_named t q x cells n = changed_by-untouched t q (at_place (position 0 0) x ∷ []) cells (ap (λ b. b || false) n)

-- ---- places in use

none_of : (g : ℕ → Bool) (us : List ℕ) → ((t : ℕ) → list_any (nat_eq t) us ≡ true → g t ≡ false) → list_any g us ≡ false
none_of g [] h = refl
none_of g (u ∷ us) h =
    ap (λ b. b || list_any g us) (h u (or_left (nat_eq u u) (list_any (nat_eq u) us) (eq-eqb u u refl)))
    ∙ none_of g us (λ t k. h t (or_right (nat_eq t u) (list_any (nat_eq t) us) k))

module _ (g : ℕ → Bool) (us : List ℕ) where
  -- who is among the numbers and passes
  OneAlone : Option ℕ → Type 0
  OneAlone who = (t : ℕ) → (list_any (nat_eq t) us && g t) ≡ is_own who t

  other_fails : (t v : ℕ) → nat_eq t v ≡ false → OneAlone (Some t) → list_any (nat_eq v) us ≡ true → g v ≡ false
  unfolding OneAlone
  other_fails t v n h k = ap (λ b. b && g v) (sym k) ∙ h v ∙ n

  none_fails : (v : ℕ) → OneAlone None → list_any (nat_eq v) us ≡ true → g v ≡ false
  unfolding OneAlone
  none_fails v h k = ap (λ b. b && g v) (sym k) ∙ h v

  is_there : (t : ℕ) → OneAlone (Some t) → (list_any (nat_eq t) us ≡ true) × (g t ≡ true)
  unfolding OneAlone
  is_there t h = and_parts (list_any (nat_eq t) us) (g t) (h t ∙ eq-eqb t t refl)

  -- of all numbers
  among_all : (who : Option ℕ) (x : Entry) → OneAlone who → ((t : ℕ) → ends t x ≡ false) → list_any g us ≡ leaves_in_hand who x
  among_all None x h e = none_of g us (λ v k. none_fails v h k)
  among_all (Some t) x h e = has_one g t us ((is_there t h).0) ((is_there t h).1) ∙ sym (ap not (e t))

  left_step : (t u : ℕ) → OneAlone (Some t) → (c : Bool) → nat_eq t u ≡ c → list_any g (without_number u us) ≡ not c
  left_step t u h true e = none_of g (without_number u us) (λ v k.
      other_fails t v (ap (λ x. nat_eq x v) (eqb-true t u e) ∙ (is_in-without u v us k).0) h ((is_in-without u v us k).1))
  left_step t u h false e =
      has_one g t (without_number u us)
      (is_in-without_other u t us (false_from_ne_true (nat_eq u t) (λ y. both_ways (nat_eq t u) e (eq-eqb t u (sym (eqb-true u t y))))) ((is_there t h).0))
      ((is_there t h).1)

  -- of those that an end leaves
  among_left : (who : Option ℕ) (u : ℕ) → OneAlone who → list_any g (without_number u us) ≡ leaves_in_hand who (Commit u)
  among_left None u h = none_of g (without_number u us) (λ v k. none_fails v h ((is_in-without u v us k).1))
  among_left (Some t) u h = left_step t u h (nat_eq t u) refl

  after_mark : (who : Option ℕ) → false ≡ leaves_in_hand who Mark
  after_mark None = refl
  after_mark (Some t) = refl

or_third : (a b c : Bool) → (b || (a || c)) ≡ (a || (b || c))
or_third true true c = refl
or_third true false c = refl
or_third false b c = refl

-- A place is in use behind an entry where a row is committed there, where the entry is a Change there, or where it leaves the
-- transaction live that has the place in hand.
end_alike : (who : Option ℕ) (u : ℕ) → leaves_in_hand who (Commit u) ≡ leaves_in_hand who (Abort u)
end_alike None u = refl
end_alike (Some t) u = refl

pub in_use-entry : (q : ℕ) (x : Entry) (who : Option ℕ) (cells : Cells) (older : Trail) → HasInHand who q older →
    ((t : ℕ) → is_live t older ≡ false → touched t q older ≡ false) → (at : Position) →
    in_use cells (at_place at x ∷ older) q ≡ (is_full (cells q) || (changes_place q x || leaves_in_hand who x))
unfolding in_use live OneAlone
in_use-entry q (Change t p b a) who cells older h fresh at =
    in_use-Change t p q b a at cells older (fresh t)
    ∙ (ap (λ r. nat_eq q p || (is_full (cells q) || r)) (among_all (λ t. touched t q older) (live older) who (Change t p b a) h (λ t. refl))
    ∙ or_third (is_full (cells q)) (nat_eq q p) (leaves_in_hand who (Change t p b a)))
in_use-entry q (Commit u) who cells older h fresh at = ap (λ r. is_full (cells q) || r) (among_left (λ t. touched t q older) (live older) who u h)
in_use-entry q (Abort u) who cells older h fresh at = ap (λ r. is_full (cells q) || r) (among_left (λ t. touched t q older) (live older) who u h ∙ end_alike who u)
in_use-entry q Mark who cells older h fresh at = ap (λ r. is_full (cells q) || r) (after_mark (λ t. touched t q older) (live older) who)
in_use-entry q (Switch f) who cells older h fresh at =
    ap (λ r. is_full (cells q) || r) (among_all (λ t. touched t q older) (live older) who (Switch f) h (λ t. refl))

-- ---- first entries

pub first_entry-step : (t : ℕ) (x : Entry) (at : Position) (first : Option Position) (older : Trail) → first_entry t older ≡ first →
    first_entry t (at_place at x ∷ older) ≡ older_or first (is_change_of t x) at
unfolding first_entry
first_entry-step t x at first older e = ap (λ o. older_or o (is_change_of t x) at) e

-- Low of the end of a trail isn't behind the first entry of a live transaction.
pub low-not_behind : (t : ℕ) (x : Entry) (at p : Position) (older : Trail) → is_live t (at_place at x ∷ older) ≡ true → first_entry t (at_place at x ∷ older) ≡ Some p →
    position_lt p (low (placed_end (at_place at x)) (at_place at x ∷ older)) ≡ false
low-not_behind t x at p older l e =
    ap (position_lt p) (low-end at (at_place at x) older (some_length x))
    ∙ least-is (placed_end (at_place at x)) p (λ u. first_entry u (at_place at x ∷ older)) t (live (at_place at x ∷ older)) l e
