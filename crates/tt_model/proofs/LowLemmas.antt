-- Who has changed a place before the Low of an end has ended since.
use Rattle.std.proofs.Common.{◌≡◌, ◌≤◌, inl, inr, ℕ, Bool, true, false, not, cond, ◌&&◌, nat_eq, List, [], ◌∷◌, ◌++◌, Option, Some, None, unwrap_or, refl, sym, ap, ◌∙◌, subst, arith, true≢false, Ordering, Less, Equal, Greater}
use Rattle.tt_model.specs.Laws.{is_unchanged}
use Rattle.std.proofs.lemmas.Bool.{and_from, cond-false, eq-eqb, eqb-true, cases_Bool, or_cases, or_parts, or_right, and_parts, both_ways, false_from_ne_true}
use Rattle.std.proofs.lemmas.Cmp.{nat_cmp_total, then_total, on_total}
use Rattle.std.specs.BTreeMap.Comparable.{le_lt_trans}
use Rattle.std.specs.Cmp.{IsTotalOrder}
use Rattle.std.specs.List.{list_any, filter_map, cons_option}
use Rattle.std.specs.Option.{option_or}
use Rattle.std.specs.Prelude.{is_none}
use Rattle.std.specs.Ordering.{is_le, is_lt, ordering_reverse}
use Rattle.tt_value.specs.Position.{position_cmp}
use Rattle.tt_value.specs.declared.position.Position.{Position}
use Rattle.tt_value.specs.declared.value.Cell.{Cell}
use Rattle.tt_record.specs.Entry.{length_of}
use Rattle.tt_record.specs.PlaceLaws.{end_behind}
use Rattle.tt_record.specs.declared.entry.Entry.{Entry}
use Rattle.tt_record.specs.declared.entry.Entry.TheVariants.{Change, Commit, Abort, Mark, Switch}
use Rattle.tt_model.specs.Trail.{Trail, Placed, IsOrdered, position_le, position_lt, placed_end, placed_length, trail_end, before, since}
use Rattle.tt_model.specs.Committed.{Cells, current}
use Rattle.tt_model.specs.Live.{live, is_live, touched, names}
use Rattle.tt_model.specs.Holds.{first_entry, first_entries, is_change_of, older_or, least_of, low}
use Rattle.tt_model.specs.Standing.{is_end_of, is_ended, after_ended, before_unended, last_after, first_before}
use Rattle.tt_model.specs.Sound.{is_mark, has_mark}
use Rattle.tt_model.proofs.SteadyLemmas.{list_any-with_number, is_in-without_other}
use Rattle.tt_model.proofs.HolderLemmas.{first_entry-kept}

-- ---- the order of positions

pub position_total : IsTotalOrder position_cmp
position_total = then_total (on_total (λ (p : Position). p.file) nat_cmp_total) (on_total (λ (p : Position). p.offset) nat_cmp_total)

lt_is : (o : Ordering) → is_lt o ≡ not (is_le (ordering_reverse o))
lt_is Less = refl
lt_is Equal = refl
lt_is Greater = refl

pub lt-not_le : (p q : Position) → position_lt p q ≡ not (position_le q p)
lt-not_le p q = lt_is (position_cmp p q) ∙ ap (λ o. not (is_le o)) (sym (position_total.antisymm q p))

pub less_is : (o : Ordering) → is_lt o ≡ true → o ≡ Less
less_is Less h = refl
less_is Equal h = absurd (true≢false (sym h))
less_is Greater h = absurd (true≢false (sym h))

lt_trans : (p q r : Position) → position_lt p q ≡ true → position_lt q r ≡ true → position_lt p r ≡ true
lt_trans p q r h k = ap is_lt (position_total.trans p q r (less_is (position_cmp p q) h) (less_is (position_cmp q r) k))

not_lt_itself : (o : Ordering) → o ≡ ordering_reverse o → is_lt o ≡ false
not_lt_itself Less h = let no : ⊥ = cc in absurd no
not_lt_itself Equal h = refl
not_lt_itself Greater h = refl

pub lt_self : (p : Position) → position_lt p p ≡ false
lt_self p = not_lt_itself (position_cmp p p) (position_total.antisymm p p)

-- ---- the two parts of a trail at a position

split_step : (p : Position) (e : Placed) (es : Trail) → since p es ++ before p es ≡ es → (c : Bool) → position_le p e.at ≡ c →
    cond c (e ∷ since p es) [] ++ cond (position_lt e.at p) (e ∷ es) (before p es) ≡ e ∷ es
split_step p e es ih true h =
    ap (λ b. (e ∷ since p es) ++ cond b (e ∷ es) (before p es)) (lt-not_le e.at p ∙ ap not h) ∙ ap (λ xs. e ∷ xs) ih
split_step p e es ih false h = ap (λ b. cond b (e ∷ es) (before p es)) (lt-not_le e.at p ∙ ap not h)

pub split : (p : Position) (es : Trail) → since p es ++ before p es ≡ es
unfolding before
split p [] = refl
split p (e ∷ es) = split_step p e es (split p es) (position_le p e.at) refl

-- ---- who stays live

flip : (t u : ℕ) → nat_eq t u ≡ false → nat_eq u t ≡ false
flip t u n = false_from_ne_true (nat_eq u t) (λ y. both_ways (nat_eq t u) n (eq-eqb t u (sym (eqb-true u t y))))

live_step : (t : ℕ) (x : Entry) (at : Position) (es : Trail) → is_mark x ≡ false → is_end_of t x ≡ false → is_live t es ≡ true → is_live t (record { at = at; entry = x } ∷ es) ≡ true
unfolding live
live_step t (Change u p b a) at es m n l = list_any-with_number (nat_eq t) u (live es) ∙ or_right (nat_eq t u) (is_live t es) l
live_step t (Commit u) at es m n l = is_in-without_other u t (live es) (flip t u n) l
live_step t (Abort u) at es m n l = is_in-without_other u t (live es) (flip t u n) l
live_step t Mark at es m n l = absurd (true≢false m)
live_step t (Switch f) at es m n l = l

live-through : (t : ℕ) (newer es : Trail) → has_mark newer ≡ false → is_ended t newer ≡ false → is_live t es ≡ true → is_live t (newer ++ es) ≡ true
live-through t [] es m n l = l
live-through t (e ∷ newer) es m n l =
    let marks : (is_mark e.entry ≡ false) × (has_mark newer ≡ false) = or_parts (is_mark e.entry) (has_mark newer) m in
    let ends : (is_end_of t e.entry ≡ false) × (is_ended t newer ≡ false) = or_parts (is_end_of t e.entry) (is_ended t newer) n in
    live_step t e.entry e.at (newer ++ es) (marks.0) (ends.0) (live-through t newer es (marks.1) (ends.1) l)

-- ---- what lies before a position

abbrev pub AllBefore : Position → Trail → Type 0
AllBefore p [] = Unit {0}
AllBefore p (e ∷ es) = (position_lt e.at p ≡ true) × AllBefore p es

pub some_length : (e : Entry) → 1 ≤ length_of e
some_length (Change t p b a) = omega arith
some_length (Commit t) = omega arith
some_length (Abort t) = omega arith
some_length Mark = omega arith
some_length (Switch f) = omega arith

older_before : (p : Position) (e f : Placed) → position_le (placed_end f) e.at ≡ true → position_lt e.at p ≡ true → position_lt f.at p ≡ true
older_before p e f h k =
    let end : position_cmp (placed_end f) p ≡ Less = le_lt_trans position_total (placed_end f) e.at p h (less_is (position_cmp e.at p) k) in
    ap is_lt (position_total.trans f.at (placed_end f) p (end_behind f.at (placed_length f) (some_length f.entry)) end)

all_from : (found p : Position) (e : Placed) (es : Trail) → IsOrdered found (e ∷ es) → position_lt e.at p ≡ true → AllBefore p (e ∷ es)
all_from found p e [] o h = (h, tt)
all_from found p e (f ∷ es) o h = (h, all_from found p f es (o.1) (older_before p e f (o.0) h))

all_before_step : (found p : Position) (e : Placed) (es : Trail) → IsOrdered found (e ∷ es) → AllBefore p (before p es) → (c : Bool) → position_lt e.at p ≡ c →
    AllBefore p (cond c (e ∷ es) (before p es))
all_before_step found p e es o ih true h = all_from found p e es o h
all_before_step found p e es o ih false h = ih

all-before : (found p : Position) (es : Trail) → IsOrdered found es → AllBefore p (before p es)
unfolding before
all-before found p [] o = tt
all-before found p (e ∷ es) o = all_before_step found p e es o (all-before found p es (o.1)) (position_lt e.at p) refl

-- ---- first entries

first_step : (p at g : Position) (o : Option Position) (c : Bool) → ((h : Position) → o ≡ Some h → position_lt h p ≡ true) → position_lt at p ≡ true → older_or o c at ≡ Some g → position_lt g p ≡ true
first_step p at g (Some h) c ih l e = ih g e
first_step p at g None true ih l e = subst (λ x. position_lt x p ≡ true) (ap (λ o. unwrap_or o at) e) l
first_step p at g None false ih l e = let no : ⊥ = cc in absurd no

first-before : (t : ℕ) (p g : Position) (es : Trail) → AllBefore p es → first_entry t es ≡ Some g → position_lt g p ≡ true
unfolding first_entry
first-before t p g [] a h = let no : ⊥ = cc in absurd no
first-before t p g (e ∷ es) a h = first_step p e.at g (first_entry t es) (is_change_of t e.entry) (λ x k. first-before t p x es (a.1) k) (a.0) h

names_change : (t q : ℕ) (x : Entry) → names t q x ≡ true → is_change_of t x ≡ true
names_change t q (Change u p b a) h = (and_parts (nat_eq t u) (nat_eq q p) h).0
names_change t q (Commit u) h = absurd (true≢false (sym h))
names_change t q (Abort u) h = absurd (true≢false (sym h))
names_change t q Mark h = absurd (true≢false (sym h))
names_change t q (Switch n) h = absurd (true≢false (sym h))

some_older : (o : Option Position) (at : Position) → (g : Position) × (older_or o true at ≡ Some g)
some_older (Some p) at = (p, refl)
some_older None at = (at, refl)

touched-first : (t q : ℕ) (es : Trail) → touched t q es ≡ true → (g : Position) × (first_entry t es ≡ Some g)
unfolding first_entry
touched-first t q [] h = absurd (true≢false (sym h))
touched-first t q (e ∷ es) h = elim (or_cases (names t q e.entry) (touched t q es) h) [
  | inl y ↦
      let some : (g : Position) × (older_or (first_entry t es) true e.at ≡ Some g) = some_older (first_entry t es) e.at in
      (some.0, ap (λ c. older_or (first_entry t es) c e.at) (names_change t q e.entry y) ∙ some.1)
  | inr y ↦
      let some : (g : Position) × (first_entry t es ≡ Some g) = touched-first t q es y in
      (some.0, ap (λ o. older_or o (is_change_of t e.entry) e.at) (some.1))
]

first-append : (t : ℕ) (g : Position) (newer es : Trail) → first_entry t es ≡ Some g → first_entry t (newer ++ es) ≡ Some g
first-append t g [] es h = h
first-append t g (e ∷ newer) es h = first_entry-kept t g e (newer ++ es) (first-append t g newer es h)

-- ---- Low is no more than the first entry of a live transaction

least_here : (g l : Position) (c : Bool) → position_lt g l ≡ c → position_lt g (cond c g l) ≡ false
least_here g l true h = lt_self g
least_here g l false h = h

least_there : (g h l : Position) → position_lt g l ≡ false → (c : Bool) → position_lt h l ≡ c → position_lt g (cond c h l) ≡ false
least_there g h l n true k = false_from_ne_true (position_lt g h) (λ y. both_ways (position_lt g l) n (lt_trans g h l y k))
least_there g h l n false k = n

least_option : (p g : Position) (o : Option Position) (ps : List Position) → position_lt g (least_of p ps) ≡ false → position_lt g (least_of p (cons_option o ps)) ≡ false
least_option p g None ps n = n
least_option p g (Some h) ps n = least_there g h (least_of p ps) n (position_lt h (least_of p ps)) refl

pub least-is : (p g : Position) (f : ℕ → Option Position) (t : ℕ) (us : List ℕ) → list_any (nat_eq t) us ≡ true → f t ≡ Some g → position_lt g (least_of p (filter_map f us)) ≡ false
least-is p g f t [] h e = absurd (true≢false (sym h))
least-is p g f t (u ∷ us) h e = elim (or_cases (nat_eq t u) (list_any (nat_eq t) us) h) [
  | inl y ↦
      ap (λ o. position_lt g (least_of p (cons_option o (filter_map f us)))) (ap f (sym (eqb-true t u y)) ∙ e)
      ∙ least_here g (least_of p (filter_map f us)) (position_lt g (least_of p (filter_map f us))) refl
  | inr y ↦ least_option p g (f u) (filter_map f us) (least-is p g f t us y e)
]

-- Who changed a place before the Low of an end, and was live there, has ended behind it, where no Mark stands behind it.
pub low-ends : (found end : Position) (es : Trail) (t q : ℕ) → IsOrdered found es → before end es ≡ es → has_mark (since (low end es) es) ≡ false →
    is_live t (before (low end es) es) ≡ true → touched t q (before (low end es) es) ≡ true → is_ended t (since (low end es) es) ≡ true
unfolding low
low-ends found end es t q o whole m l k =
    let p : Position = low end es in
    elim (cases_Bool (is_ended t (since p es))) [
      | inl y ↦ y
      | inr n ↦
          let lives : is_live t es ≡ true = ap (is_live t) (sym (split p es)) ∙ live-through t (since p es) (before p es) m n l in
          let first : (g : Position) × (first_entry t (before p es) ≡ Some g) = touched-first t q (before p es) k in
          let early : position_lt (first.0) p ≡ true = first-before t p (first.0) (before p es) (all-before found p es o) (first.1) in
          let is_first : first_entry t es ≡ Some (first.0) = ap (first_entry t) (sym (split p es)) ∙ first-append t (first.0) (since p es) (before p es) (first.1) in
          let late : position_lt (first.0) (least_of end (first_entries es)) ≡ false = least-is end (first.0) (λ u. first_entry u es) t (live es) lives is_first in
          absurd (both_ways (position_lt (first.0) p) (ap (λ (xs : Trail). position_lt (first.0) (least_of end (first_entries xs))) whole ∙ late) early)
    ]

-- ---- a place that no entry changed

abbrev none_at : (ℕ → Bool) → ℕ → Trail → Bool
none_at ended q es = is_none (last_after ended q es) && is_none (first_before ended q es)

none_here : (ended : ℕ → Bool) (t q p : ℕ) (b a : Cell) (c : Bool) → nat_eq q p ≡ c → is_none (after_ended ended q (Change t p b a)) ≡ true → is_none (before_unended ended q (Change t p b a)) ≡ true →
    nat_eq q p ≡ false
none_here ended t q p b a false e f l = e
none_here ended t q p b a true e f l = elim (cases_Bool (ended t)) [
  | inl y ↦ absurd (true≢false (sym f ∙ ap (λ c. is_none (cond c (Some a) None)) (ap (λ d. d && ended t) e ∙ y)))
  | inr n ↦ absurd (true≢false (sym l ∙ ap (λ c. is_none (cond c (Some b) None)) (ap (λ d. d && not (ended t)) e ∙ ap not n)))
]

first_of_none : (x y : Option Cell) → is_none (option_or x y) ≡ true → (is_none x ≡ true) × (is_none y ≡ true)
first_of_none None y h = (refl, h)
first_of_none (Some a) y h = absurd (true≢false (sym h))

-- Of a place without a change the entries one by one change nothing.
none_parts : (ended : ℕ → Bool) (q : ℕ) (e : Placed) (es : Trail) → none_at ended q (e ∷ es) ≡ true →
    (is_none (after_ended ended q e.entry) ≡ true) × (is_none (before_unended ended q e.entry) ≡ true) × (none_at ended q es ≡ true)
none_parts ended q e es h =
    let parts : (is_none (option_or (after_ended ended q e.entry) (last_after ended q es)) ≡ true) × (is_none (option_or (first_before ended q es) (before_unended ended q e.entry)) ≡ true)
    = and_parts (is_none (last_after ended q (e ∷ es))) (is_none (first_before ended q (e ∷ es))) h in
    let after : (is_none (after_ended ended q e.entry) ≡ true) × (is_none (last_after ended q es) ≡ true) = first_of_none (after_ended ended q e.entry) (last_after ended q es) (parts.0) in
    let first : (is_none (first_before ended q es) ≡ true) × (is_none (before_unended ended q e.entry) ≡ true) = first_of_none (first_before ended q es) (before_unended ended q e.entry) (parts.1) in
    (after.0, first.1, and_from (is_none (last_after ended q es)) (is_none (first_before ended q es)) (after.1) (first.0))

none_older : (ended : ℕ → Bool) (q : ℕ) (newer es : Trail) → none_at ended q (newer ++ es) ≡ true → none_at ended q es ≡ true
none_older ended q [] es h = h
none_older ended q (e ∷ newer) es h = none_older ended q newer es ((none_parts ended q e (newer ++ es) h).2)

current_step : (base : Cells) (ended : ℕ → Bool) (q : ℕ) (x : Entry) (at : Position) (es : Trail) → is_mark x ≡ false →
    is_none (after_ended ended q x) ≡ true → is_none (before_unended ended q x) ≡ true → current base (record { at = at; entry = x } ∷ es) q ≡ current base es q
unfolding current
current_step base ended q (Change t p b a) at es m f l = cond-false (nat_eq q p) a (current base es q) (none_here ended t q p b a (nat_eq q p) refl f l)
current_step base ended q (Commit t) at es m f l = refl
current_step base ended q (Abort t) at es m f l = refl
current_step base ended q Mark at es m f l = absurd (true≢false m)
current_step base ended q (Switch n) at es m f l = refl

current-none : (base : Cells) (ended : ℕ → Bool) (q : ℕ) (middle older : Trail) → has_mark middle ≡ false → none_at ended q middle ≡ true → current base (middle ++ older) q ≡ current base older q
current-none base ended q [] older m n = refl
current-none base ended q (e ∷ middle) older m n =
    let marks : (is_mark e.entry ≡ false) × (has_mark middle ≡ false) = or_parts (is_mark e.entry) (has_mark middle) m in
    let parts : (is_none (after_ended ended q e.entry) ≡ true) × (is_none (before_unended ended q e.entry) ≡ true) × (none_at ended q middle ≡ true) = none_parts ended q e middle n in
    current_step base ended q e.entry e.at (middle ++ older) (marks.0) (parts.0) (parts.1) ∙ current-none base ended q middle older (marks.1) (parts.2)

-- What was held in such a place at any time between is what was held there before.
pub current-unchanged : (base : Cells) (q : ℕ) (newer middle older : Trail) → has_mark middle ≡ false → is_unchanged q (newer ++ middle) ≡ true →
    current base (middle ++ older) q ≡ current base older q
current-unchanged base q newer middle older m n =
    current-none base (λ t. is_ended t (newer ++ middle)) q middle older m (none_older (λ t. is_ended t (newer ++ middle)) q newer middle n)

-- All entries of a trail stand before its end.
end_step : (found : Position) (e : Placed) (es : Trail) → before (placed_end e) (e ∷ es) ≡ e ∷ es
unfolding before
end_step found e es = ap (λ c. cond c (e ∷ es) (before (placed_end e) es)) (ap is_lt (end_behind e.at (placed_length e) (some_length e.entry)))

pub before-end : (found : Position) (es : Trail) → before (trail_end found es) es ≡ es
unfolding before
before-end found [] = refl
before-end found (e ∷ es) = end_step found e es
