-- A reader's hold, once its place has moved, loses no open Change.
use Rattle.std.proofs.Common.{◌≡◌, ℕ, Bool, true, false, not, cond, nat_eq, List, [], ◌∷◌, ◌++◌, map, filter, Option, None, refl, sym, ap, ◌∙◌, true≢false}
use Rattle.std.proofs.lemmas.Bool.{eqb-true, both_ways, false_from_ne_true}
use Rattle.tt_value.specs.declared.value.Cell.{Cell}
use Rattle.tt_value.specs.declared.position.Position.{Position}
use Rattle.tt_record.specs.declared.entry.Entry.{Entry}
use Rattle.tt_record.specs.declared.entry.Entry.TheVariants.{Change, Commit, Abort, Mark, Switch}
use Rattle.tt_model.specs.Trail.{Trail, Placed, position_lt, position_le, before, least_position, greatest_position}
use Rattle.tt_model.specs.Live.{ends}
use Rattle.tt_model.specs.Holds.{least_of}
use Rattle.tt_model.specs.Due.{Done, done, done_by, with_done, open_changes, still_open, opened_by, open_after, next_hold}
use Rattle.tt_model.proofs.OrderLemmas.{le_trans, lt_le, lt-le, le_self, least-below, not_lt-le}

-- The hold, from what stands before the position.
abbrev next_hold_in : Position → Position → Trail → Position
next_hold_in hold at xs = greatest_position hold (least_of at (map (λ (c : ℕ × Position). c.1) (open_after hold xs)))

-- Of a transaction no open Change stands before a position.
abbrev NoneBefore : ℕ → Position → List (ℕ × Position) → Type 0
NoneBefore t low [] = Unit {0}
NoneBefore t low (c ∷ cs) = (nat_eq t (c.0) ≡ true → position_le low (c.1) ≡ true) × NoneBefore t low cs

none_step : (t u : ℕ) (low : Position) (c : ℕ × Position) (cs : List (ℕ × Position)) → nat_eq t u ≡ false →
    (NoneBefore t low (filter (λ (d : ℕ × Position). not (nat_eq (d.0) u)) cs) → NoneBefore t low cs) →
    (b : Bool) → nat_eq (c.0) u ≡ b → NoneBefore t low (cond (not b) (c ∷ filter (λ (d : ℕ × Position). not (nat_eq (d.0) u)) cs) (filter (λ (d : ℕ × Position). not (nat_eq (d.0) u)) cs)) →
    NoneBefore t low (c ∷ cs)
none_step t u low c cs n ih true e h = ((λ y. absurd (both_ways (nat_eq t u) n (ap (λ x. nat_eq x u) (eqb-true t (c.0) y) ∙ e))), ih h)
none_step t u low c cs n ih false e h = (h.0, ih (h.1))

-- What another transaction's end leaves says the same.
none-filter : (t u : ℕ) (low : Position) (cs : List (ℕ × Position)) → nat_eq t u ≡ false → NoneBefore t low (filter (λ (d : ℕ × Position). not (nat_eq (d.0) u)) cs) → NoneBefore t low cs
none-filter t u low [] n h = h
none-filter t u low (c ∷ cs) n h = none_step t u low c cs n (none-filter t u low cs n) (nat_eq (c.0) u) refl h

none_opened : (t : ℕ) (low : Position) (c : ℕ × Position) (cs : List (ℕ × Position)) (b : Bool) → NoneBefore t low (cond b (c ∷ []) [] ++ cs) → NoneBefore t low cs
none_opened t low c cs true h = h.1
none_opened t low c cs false h = h

-- The older entries say the same, where the entry is no end of the transaction.
none-older : (t : ℕ) (low hold : Position) (e : Placed) (es : Trail) → ends t e.entry ≡ false → NoneBefore t low (open_after hold (e ∷ es)) → NoneBefore t low (open_after hold es)
unfolding open_after
none-older t low hold e es n h = by_entry e.entry n h
  where
    by_entry : (x : Entry) → ends t x ≡ false → NoneBefore t low (opened_by hold e x ++ still_open x (open_after hold es)) → NoneBefore t low (open_after hold es)
    by_entry (Change u p b a) n h = none_opened t low (u, e.at) (open_after hold es) (position_le hold e.at) h
    by_entry (Commit u) n h = none-filter t u low (open_after hold es) n h
    by_entry (Abort u) n h = none-filter t u low (open_after hold es) n h
    by_entry Mark n h = absurd (true≢false n)
    by_entry (Switch f) n h = h

both_no : (o : Option Done) (b c : Bool) → o ≡ None → cond b o None ≡ cond c o None
both_no o true true h = refl
both_no o true false h = h
both_no o false true h = sym h
both_no o false false h = refl

-- An own Change counts from both holds, or from neither.
same_test : (t u : ℕ) (low hold at : Position) (rest : List (ℕ × Position)) → nat_eq t u ≡ true → position_le hold low ≡ true → (b : Bool) → position_le hold at ≡ b →
    NoneBefore t low (cond b ((u, at) ∷ []) [] ++ rest) → position_le low at ≡ b
same_test t u low hold at rest y l true e h = (h.0) y
same_test t u low hold at rest y l false e h =
    false_from_ne_true (position_le low at) (λ k. both_ways (position_le hold at) e (le_trans hold low at l k))

same_change : (t u p : ℕ) (b a : Cell) (low hold : Position) (at : Position) (rest : List (ℕ × Position)) → position_le hold low ≡ true →
    NoneBefore t low (cond (position_le hold at) ((u, at) ∷ []) [] ++ rest) → (c : Bool) → nat_eq t u ≡ c →
    cond (position_le low at) (cond (nat_eq t u) (done b a) None) None ≡ cond (position_le hold at) (cond (nat_eq t u) (done b a) None) None
same_change t u p b a low hold at rest l h true e = ap (λ x. cond x (cond (nat_eq t u) (done b a) None) None) (same_test t u low hold at rest e l (position_le hold at) refl h)
same_change t u p b a low hold at rest l h false e =
    both_no (cond (nat_eq t u) (done b a) None) (position_le low at) (position_le hold at) (ap (λ x. cond x (done b a) None) e)

same_done : (t : ℕ) (x : Entry) (low hold at : Position) (rest : List (ℕ × Position)) → position_le hold low ≡ true →
    NoneBefore t low (opened_by hold (record { at = at; entry = x }) x ++ rest) → cond (position_le low at) (done_by t x) None ≡ cond (position_le hold at) (done_by t x) None
same_done t (Change u p b a) low hold at rest l h = same_change t u p b a low hold at rest l h (nat_eq t u) refl
same_done t (Commit u) low hold at rest l h = both_no None (position_le low at) (position_le hold at) refl
same_done t (Abort u) low hold at rest l h = both_no None (position_le low at) (position_le hold at) refl
same_done t Mark low hold at rest l h = both_no None (position_le low at) (position_le hold at) refl
same_done t (Switch f) low hold at rest l h = both_no None (position_le low at) (position_le hold at) refl

lower_step : (t : ℕ) (low hold : Position) (e : Placed) (es : Trail) → position_le hold low ≡ true → NoneBefore t low (opened_by hold e e.entry ++ still_open e.entry (open_after hold es)) →
    (ends t e.entry ≡ false → open_changes low t es ≡ open_changes hold t es) → (c : Bool) → ends t e.entry ≡ c →
    cond c [] (with_done (cond (position_le low e.at) (done_by t e.entry) None) (open_changes low t es)) ≡ cond c [] (with_done (cond (position_le hold e.at) (done_by t e.entry) None) (open_changes hold t es))
lower_step t low hold e es l h ih true n = refl
lower_step t low hold e es l h ih false n =
    ap (λ (o : Option Done). with_done o (open_changes low t es)) (same_done t e.entry low hold e.at (still_open e.entry (open_after hold es)) l h)
    ∙ ap (with_done (cond (position_le hold e.at) (done_by t e.entry) None)) (ih n)

lower-same : (t : ℕ) (low hold : Position) (es : Trail) → position_le hold low ≡ true → NoneBefore t low (open_after hold es) → open_changes low t es ≡ open_changes hold t es
unfolding open_after
lower-same t low hold [] l h = refl
lower-same t low hold (e ∷ es) l h = lower_step t low hold e es l h (λ n. lower-same t low hold es l (none-older t low hold e es n h)) (ends t e.entry) refl

both_count : (t : ℕ) (low hold at : Position) (e : Placed) (es : Trail) → position_le low at ≡ true → position_le hold at ≡ true → position_lt e.at at ≡ false →
    open_changes low t es ≡ open_changes hold t es → open_changes low t (e ∷ es) ≡ open_changes hold t (e ∷ es)
both_count t low hold at e es l k n ih =
    let behind : position_le at e.at ≡ true = not_lt-le e.at at n in
    ap (λ c. cond (ends t e.entry) [] (with_done (cond c (done_by t e.entry) None) (open_changes low t es))) (le_trans low at e.at l behind ∙ sym (le_trans hold at e.at k behind))
    ∙ ap (λ ds. cond (ends t e.entry) [] (with_done (cond (position_le hold e.at) (done_by t e.entry) None) ds)) ih

upper_step : (t : ℕ) (low hold at : Position) (e : Placed) (es : Trail) → position_le low at ≡ true → position_le hold at ≡ true →
    (open_changes low t (before at es) ≡ open_changes hold t (before at es) → open_changes low t es ≡ open_changes hold t es) → (c : Bool) → position_lt e.at at ≡ c →
    open_changes low t (cond c (e ∷ es) (before at es)) ≡ open_changes hold t (cond c (e ∷ es) (before at es)) → open_changes low t (e ∷ es) ≡ open_changes hold t (e ∷ es)
upper_step t low hold at e es l k ih true n h = h
upper_step t low hold at e es l k ih false n h = both_count t low hold at e es l k n (ih h)

-- What stands at or behind a position counts from each hold before it.
upper-same : (t : ℕ) (low hold at : Position) (es : Trail) → position_le low at ≡ true → position_le hold at ≡ true →
    open_changes low t (before at es) ≡ open_changes hold t (before at es) → open_changes low t es ≡ open_changes hold t es
unfolding before
upper-same t low hold at [] l k h = h
upper-same t low hold at (e ∷ es) l k h = upper_step t low hold at e es l k (upper-same t low hold at es l k) (position_lt e.at at) refl h

-- The least of some positions is no more than each.
none-least : (t : ℕ) (low at : Position) (cs : List (ℕ × Position)) → position_le low (least_of at (map (λ (c : ℕ × Position). c.1) cs)) ≡ true → NoneBefore t low cs
none-least t low at [] l = tt
none-least t low at (c ∷ cs) l =
    let rest : Position = least_of at (map (λ (d : ℕ × Position). d.1) cs) in
    let below : (position_le (least_position (c.1) rest) (c.1) ≡ true) × (position_le (least_position (c.1) rest) rest ≡ true) = least-below (c.1) rest in
    ((λ y. le_trans low (least_position (c.1) rest) (c.1) l (below.0)), none-least t low at cs (le_trans low (least_position (c.1) rest) rest l (below.1)))

least_of-below : (at : Position) (ps : List Position) → position_le (least_of at ps) at ≡ true
least_of-below at [] = le_self at
least_of-below at (p ∷ ps) = le_trans (least_position p (least_of at ps)) (least_of at ps) at ((least-below p (least_of at ps)).1) (least_of-below at ps)

hold_where : (t : ℕ) (hold at low : Position) (es : Trail) → low ≡ least_of at (map (λ (c : ℕ × Position). c.1) (open_after hold (before at es))) → (c : Bool) → position_lt hold low ≡ c →
    open_changes (cond c low hold) t es ≡ open_changes hold t es
hold_where t hold at low es e false l = refl
hold_where t hold at low es e true l =
    let under : position_le low at ≡ true = ap (λ p. position_le p at) e ∙ least_of-below at (map (λ (c : ℕ × Position). c.1) (open_after hold (before at es))) in
    upper-same t low hold at es under (lt-le hold at (lt_le hold low at l under))
    (lower-same t low hold (before at es) (lt-le hold low l) (none-least t low at (open_after hold (before at es)) (ap (position_le low) (sym e) ∙ le_self low)))

-- Once its place has moved to a position, a reader's hold keeps all open Changes of what commits behind it.
pub next_hold-same : (t : ℕ) (hold at : Position) (es trail : Trail) → before at trail ≡ before at es → open_changes (next_hold hold at trail) t es ≡ open_changes hold t es
next_hold-same t hold at es trail same =
    ap (λ (xs : Trail). open_changes (next_hold_in hold at xs) t es) same
    ∙ hold_where t hold at (least_of at (map (λ (c : ℕ × Position). c.1) (open_after hold (before at es)))) es refl (position_lt hold (least_of at (map (λ (c : ℕ × Position). c.1) (open_after hold (before at es))))) refl
