-- The rows of COLUMNS of a new table, one after another, leave a catalog that is good but for the columns of that table.
use Rattle.std.proofs.Common.{◌≡◌, ◌<◌, ◌≤◌, ◌+◌, ◌/◌, inl, inr, ℕ, suc, Bool, true, false, cond, ◌&&◌, ◌||◌, nat_eq, List, [], ◌∷◌, None, unwrap_or, length, refl, sym, ap, ◌∙◌, subst, arith, max}
use Rattle.std.proofs.lemmas.Bool.{cases_Bool, eqb-true, eq-eqb, and_from, and_parts, and_left, and_right, or_right, both_ways, false_from_ne_true, not_from_true}
use Rattle.std.proofs.lemmas.List.Sums.{sum_by-cons}
use Rattle.std.specs.Prelude.{◌==◌, not, count_by, slice_get}
use Rattle.tt_value.specs.Same.{same_value}
use Rattle.tt_value.specs.declared.value.Value.{Value}
use Rattle.tt_value.specs.declared.value.Value.TheVariants.{Text}
use Rattle.tt_value.specs.declared.value.Row.{Row}
use Rattle.tt_value.specs.declared.value.Cell.TheVariants.{Empty, Full}
use Rattle.tt_value.specs.declared.value.ColumnType.{ColumnType}
use Rattle.tt_value.specs.declared.value.ColumnType.TheVariants.{BigInt, Varchar, Number as NumberOf}
use Rattle.tt_parse.specs.declared.command.ColumnText.{ColumnText}
use Rattle.tt_model.specs.Committed.{Cells, put}
use Rattle.tt_model.specs.Live.{numbers_below}
use Rattle.tt_model.specs.Holders.{value_at}
use Rattle.tt_model.specs.Tables.{PlacedRow, rows_of, whole_number_of}
use Rattle.tt_model.specs.State.{State, bound, free_place, place_for, with_entry, with_edit, with_edits}
use Rattle.tt_model.specs.declared.definition.CellEdit.{CellEdit}
use Rattle.tt_model.specs.System.{number, flag, row, adds, column_rows, key_position, type_number, type_size}
use Rattle.tt_model.specs.Steady.{MayChange}
use Rattle.tt_model.specs.Sound.{MayWrite}
use Rattle.tt_model.specs.Ranges.{IsColumn, IsType}
use Rattle.tt_model.specs.WholeRuns.{Each}
use Rattle.tt_model.specs.Damage.{Columns, are_taken, column_tests, is_number_from, is_number, is_flag, is_table_id, is_size_of, has_value_in, columns_with}
use Rattle.tt_model.proofs.ConflictLemmas.{same_value-self}
use Rattle.tt_model.proofs.SteadySteps.{steady-grown}
use Rattle.tt_model.proofs.SoundLemmas.{LogOf, log-Change, in_page}
use Rattle.tt_model.proofs.SoundLines.{own_live-with_edit}
use Rattle.tt_model.proofs.EditLemmas.{new-MayEdit}
use Rattle.tt_model.proofs.BookmarkLemmas.{seen_by, before_is_seen}
use Rattle.tt_model.proofs.GoodPlaces.{has_at, tally, count-filter, count-rows, tally-two, tally-apart, tally-fewer, tally-one, tally-there, has-row, row-has, there-any}
use Rattle.tt_model.proofs.GoodCells.{IsGoodBut}
use Rattle.tt_model.proofs.GoodRemovals.{empty-full, has_value}
use Rattle.tt_model.proofs.GoodPuts.{good-put, full-id, full-row}
use Rattle.tt_model.proofs.GoodEdits.{seen_edit}
use Rattle.tt_model.proofs.GoodWrites.{put-here, put-other, some-none}
use Rattle.tt_model.proofs.GoodTaken.{number-in}

-- ---- free places

pub may-add : (t : ℕ) (s : State) → LogOf s → MayWrite t s → MayChange s.found.cells s.entries t (free_place s) Empty
may-add t s log w = (new-MayEdit t (adds 1 [] ∷ []) s log w (refl, refl, tt)).0

-- The free place is empty for the transaction.
pub free-seen : (t : ℕ) (s : State) → LogOf s → MayWrite t s → seen_by t s (free_place s) ≡ Empty
free-seen t s log w = sym (before_is_seen s.found.cells s.entries t (free_place s) Empty (steady-grown s.found.cells s.entries log.grown) (may-add t s log w))

grows_once : (t : ℕ) (e : CellEdit) (s : State) → bound s ≤ bound (with_edit t e s)
unfolding with_entry
grows_once t e s = let more : s.pages ≤ max (suc (place_for e.place s / 32)) s.pages = omega arith in omega (arith, more)

pub bound-grows : (t : ℕ) (edits : List CellEdit) (s : State) → bound s ≤ bound (with_edits t edits s)
bound-grows t [] s = omega arith
bound-grows t (e ∷ es) s =
    let first : bound s ≤ bound (with_edit t e s) = grows_once t e s in
    let rest : bound (with_edit t e s) ≤ bound (with_edits t es (with_edit t e s)) = bound-grows t es (with_edit t e s) in omega (arith, first, rest)

pub place-below : (t : ℕ) (e : CellEdit) (s : State) → place_for e.place s < bound (with_edit t e s)
unfolding with_entry
place-below t e s = in_page (place_for e.place s) s.pages

-- ---- the rows

abbrev pub column_values : ℕ → List (List ℕ) → ℕ → ColumnText → List Value
column_values id key n c =
    number id ∷ number n ∷ number (type_number c.kind) ∷ number (type_size c.kind)
    ∷ flag (c.required || not (key_position key c.name == 0)) ∷ number (key_position key c.name) ∷ Text c.name ∷ []

abbrev pub new_rows : ℕ → List (List ℕ) → ℕ → List ColumnText → List Row
new_rows id key n [] = []
new_rows id key n (c ∷ cs) = row (column_values id key n c) ∷ new_rows id key (suc n) cs

-- Rows of TABLES with the new number.
abbrev pub is_new : ℕ → Row → Bool
is_new id r = same_value (value_at r 0) (number id)

type_in : (kind : ColumnType) → is_number_from 1 3 (number (type_number kind)) ≡ true
type_in BigInt = refl
type_in (Varchar n) = refl
type_in (NumberOf k) = refl

size_in : (kind : ColumnType) → IsType kind → is_number_from 0 200 (number (type_size kind)) ≡ true
size_in BigInt k = refl
size_in (Varchar n) k = number-in 0 200 n (omega arith) (k.1)
size_in (NumberOf n) k = number-in 0 200 n (omega arith) (let l : n ≤ 18 = k in omega (arith, l))

size_of : (kind : ColumnType) → IsType kind → is_size_of (number (type_number kind)) (number (type_size kind)) ≡ true
size_of BigInt k = refl
size_of (Varchar n) k = number-in 1 200 n (k.0) (k.1)
size_of (NumberOf n) k = number-in 0 18 n (omega arith) k

pub flag_in : (b : Bool) → is_flag (flag b) ≡ true
flag_in true = refl
flag_in false = refl

key_free : (k : ℕ) (required : Bool) (b : Bool) → (k == 0) ≡ b → (not (is_number 0 (number k)) && not (is_number 1 (flag (required || not b)))) ≡ false
key_free k required true e = and_left (not (is_number 0 (number k))) _ (not_from_true (is_number 0 (number k)) (number-in 0 0 k (omega arith) (let z : k ≡ 0 = eqb-true k 0 e in omega (arith, z))))
key_free k required false e = and_right (not (is_number 0 (number k))) _ (ap (λ x. not (is_number 1 (flag x))) (or_right required true refl))

pair_first : (a b v w : Value) → a ∷ b ∷ [] ≡ v ∷ w ∷ [] → a ≡ v
pair_first a b v w h = ap (λ (xs : List Value). unwrap_or (slice_get xs 0) a) h

pair_second : (a b v w : Value) → a ∷ b ∷ [] ≡ v ∷ w ∷ [] → b ≡ w
pair_second a b v w h = ap (λ (xs : List Value). unwrap_or (slice_get xs 1) b) h

-- What the cells have before the next column is put.
pub record IsUnderway (id n top : ℕ) (d : Cells) : Type 0 where
  pub at : ℕ
  pub table : Row
  pub lies : d at ≡ Full 1 table
  pub value : value_at table 0 ≡ number id
  pub low : at < top
  pub columns : (q : ℕ) (r : Row) → d q ≡ Full 2 r → value_at r 0 ≡ number id → whole_number_of (value_at r 1) < n
  pub indexes : (q : ℕ) (r : Row) → d q ≡ Full 3 r → value_at r 1 ≡ number id → ⊥

module _ (id top : ℕ) (key : List (List ℕ)) (is_id : is_table_id (number id) ≡ true) (few : (name : List ℕ) → key_position key name ≤ 16) where
  good_column : (n p : ℕ) (c : ColumnText) (d : Cells) → 1 ≤ n → n ≤ 16 → IsColumn c → d p ≡ Empty → p < top → IsUnderway id n top d → IsGoodBut (is_new id) top d →
      IsGoodBut (is_new id) top (put p (Full 2 (row (column_values id key n c))) d)
  good_column n p c d a b k free low u g =
      let new : Row = row (column_values id key n c) in
      let kp : ℕ = key_position key c.name in
      let after : Cells = put p (Full 2 new) d in
      good-put (is_new id) top d after Columns p new (record {
        here = put-here p (Full 2 new) d;
        others = λ q m. put-other p q (Full 2 new) d m;
        low = low;
        was = inl free;
        values = not_from_true (are_taken (column_tests Columns) (column_values id key n c))
            (and_from _ _ is_id (and_from _ _ (number-in 1 16 n a b) (and_from _ _ (type_in c.kind) (and_from _ _ (size_in c.kind (k.1)) (and_from _ _ (flag_in (c.required || not (kp == 0)))
            (and_from _ _ (number-in 0 16 kp (omega arith) (few c.name)) (and_from _ _ (k.0) refl)))))));
        size = not_from_true (is_size_of (number (type_number c.kind)) (number (type_size c.kind))) (size_of c.kind (k.1));
        free_key = key_free kp c.required (kp == 0) refl;
        key = λ q r m e v.
            let less : whole_number_of (value_at r 1) < n = u.columns q r e (pair_first (value_at r 0) (value_at r 1) (number id) (number n) v) in
            let same : whole_number_of (value_at r 1) ≡ n = ap whole_number_of (pair_second (value_at r 0) (value_at r 1) (number id) (number n) v) in omega (arith, less, same);
        name = λ q r columns m e h v. some-none None columns refl h;
        columns = λ m. refl;
        column_tables = λ q r y e m v. both_ways (is_new id r) m (ap (λ w. same_value w (number id)) (sym v) ∙ same_value-self (number id));
        column_indexes = λ q r y e v. u.indexes q r e (sym v);
        table_there = not_from_true (has_value_in 0 (number id) (rows_of 1 top d))
            (there-any (has_value 0 (number id)) 1 top d u.at u.table u.lies (ap (λ w. same_value w (number id)) u.value ∙ same_value-self (number id)) u.low);
        bookmark_there = refl;
        positions = refl;
        limit = λ q r e. refl;
      }) g

  underway_next : (n p : ℕ) (c : ColumnText) (d : Cells) → d p ≡ Empty → IsUnderway id n top d → IsUnderway id (suc n) top (put p (Full 2 (row (column_values id key n c))) d)
  underway_next n p c d free u =
      let new : Row = row (column_values id key n c) in record {
        at = u.at;
        table = u.table;
        lies = put-other p u.at (Full 2 new) d (false_from_ne_true (nat_eq u.at p) (λ y. empty-full (d p) 1 u.table free (ap d (sym (eqb-true u.at p y)) ∙ u.lies))) ∙ u.lies;
        value = u.value;
        low = u.low;
        columns = λ q r e v. elim (cases_Bool (nat_eq q p)) [
          | inl y ↦
              let same : r ≡ new = full-row 2 2 r new (sym e ∙ (ap (put p (Full 2 new) d) (eqb-true q p y) ∙ put-here p (Full 2 new) d)) in
              let is : whole_number_of (value_at r 1) ≡ n = ap (λ (x : Row). whole_number_of (value_at x 1)) same in omega (arith, is)
          | inr m ↦ let less : whole_number_of (value_at r 1) < n = u.columns q r (sym (put-other p q (Full 2 new) d m) ∙ e) v in omega (arith, less)
        ];
        indexes = λ q r e v. elim (cases_Bool (nat_eq q p)) [
          | inl y ↦ two_three (full-id 3 2 r new (sym e ∙ (ap (put p (Full 2 new) d) (eqb-true q p y) ∙ put-here p (Full 2 new) d)))
          | inr m ↦ u.indexes q r (sym (put-other p q (Full 2 new) d m) ∙ e) v
        ];
      }
    where
      two_three : (let three : ℕ = 3 in three ≡ 2) → ⊥
      two_three e = omega (arith, e)

  -- ---- how many columns there are

  abbrev counted : (Row → Bool) → PlacedRow → Bool
  counted h x = same_value (value_at (x.1) 0) (number id) && h (x.1)

  abbrev pub own_count : (Row → Bool) → Cells → ℕ
  own_count h d = count_by (λ (x : PlacedRow). h (x.1)) (columns_with (number id) (rows_of 2 top d))

  own_tally : (h : Row → Bool) (d : Cells) → own_count h d ≡ tally (has_at (counted h) 2 d) (numbers_below top)
  own_tally h d = count-filter (λ (x : PlacedRow). h (x.1)) (λ (r : PlacedRow). same_value (value_at (r.1) 0) (number id)) (rows_of 2 top d) ∙ count-rows (counted h) 2 top d

  module _ (h : Row → Bool) (p : ℕ) (new : Row) (d : Cells) (own : value_at new 0 ≡ number id) (free : d p ≡ Empty) (low : p < top) where
    abbrev after : Cells
    after = put p (Full 2 new) d

    was : (q : ℕ) → nat_eq q p ≡ false → has_at (counted h) 2 after q ≡ true → has_at (counted h) 2 d q ≡ true
    was q m y = let x = has-row (counted h) 2 after q y in row-has (counted h) 2 d q (x.0) (sym (put-other p q (Full 2 new) d m) ∙ x.1) (x.2)

    stays : (q : ℕ) → has_at (counted h) 2 d q ≡ true → has_at (counted h) 2 after q ≡ true
    stays q y =
        let x = has-row (counted h) 2 d q y in
        row-has (counted h) 2 after q (x.0) (put-other p q (Full 2 new) d (false_from_ne_true (nat_eq q p) (λ z. empty-full (d p) 2 (x.0) free (ap d (sym (eqb-true q p z)) ∙ x.1))) ∙ x.1) (x.2)

    tally_put : (b : Bool) → h new ≡ b → tally (has_at (counted h) 2 after) (numbers_below top) ≡ cond b 1 0 + tally (has_at (counted h) 2 d) (numbers_below top)
    tally_put true e =
        let less : tally (has_at (counted h) 2 after) (numbers_below top) ≤ tally (has_at (counted h) 2 d) (numbers_below top) + tally (nat_eq p) (numbers_below top)
        = tally-two (has_at (counted h) 2 after) (has_at (counted h) 2 d) (nat_eq p) (numbers_below top) (λ q y. elim (cases_Bool (nat_eq q p)) [
          | inl z ↦ inr (eq-eqb p q (sym (eqb-true q p z)))
          | inr m ↦ inl (was q m y)
        ]) in
        let more : tally (has_at (counted h) 2 d) (numbers_below top) + tally (nat_eq p) (numbers_below top) ≤ tally (has_at (counted h) 2 after) (numbers_below top)
        = tally-apart (has_at (counted h) 2 d) (nat_eq p) (has_at (counted h) 2 after) (numbers_below top) stays
        (λ q y. ap (has_at (counted h) 2 after) (sym (eqb-true p q y)) ∙ row-has (counted h) 2 after p new (put-here p (Full 2 new) d) (and_from (same_value (value_at new 0) (number id)) (h new) (ap (λ w. same_value w (number id)) own ∙ same_value-self (number id)) e))
        (λ q y z. let x = has-row (counted h) 2 d q y in empty-full (d p) 2 (x.0) free (ap d (eqb-true p q z) ∙ x.1)) in
        let one : tally (nat_eq p) (numbers_below top) ≤ 1 = tally-one p top 0 in
        let some : 1 ≤ tally (nat_eq p) (numbers_below top) = tally-there p top 0 (omega arith) (omega (arith, low)) in
        omega (arith, less, more, one, some)
    tally_put false e =
        let less : tally (has_at (counted h) 2 after) (numbers_below top) ≤ tally (has_at (counted h) 2 d) (numbers_below top)
        = tally-fewer (has_at (counted h) 2 after) (has_at (counted h) 2 d) (numbers_below top) (λ q y. elim (cases_Bool (nat_eq q p)) [
          | inl z ↦
              let x = has-row (counted h) 2 after q y in
              let same : x.0 ≡ new = full-row 2 2 (x.0) new (sym (x.1) ∙ (ap after (eqb-true q p z) ∙ put-here p (Full 2 new) d)) in
              absurd (both_ways (h new) e (ap h (sym same) ∙ (and_parts (same_value (value_at (x.0) 0) (number id)) (h (x.0)) (x.2)).1))
          | inr m ↦ was q m y
        ]) in
        let more : tally (has_at (counted h) 2 d) (numbers_below top) ≤ tally (has_at (counted h) 2 after) (numbers_below top) = tally-fewer (has_at (counted h) 2 d) (has_at (counted h) 2 after) (numbers_below top) stays in
        omega (arith, less, more)

    count_put : own_count h after ≡ cond (h new) 1 0 + own_count h d
    count_put = own_tally h after ∙ (tally_put (h new) refl ∙ ap (λ k. cond (h new) 1 0 + k) (sym (own_tally h d)))

  -- ---- one column after another

  -- What the columns leave.
  pub record HasColumns (n : ℕ) (cs : List ColumnText) (d after : Cells) : Type 0 where
    pub good : IsGoodBut (is_new id) top after
    pub counts : (h : Row → Bool) → own_count h after ≡ count_by h (new_rows id key n cs) + own_count h d

  pub columns-put : (t n : ℕ) (cs : List ColumnText) (s : State) → LogOf s → MayWrite t s → bound (with_edits t (column_rows id key n cs) s) ≤ top → 1 ≤ n → n + length cs ≤ 17 → Each IsColumn cs →
      IsUnderway id n top (seen_by t s) → IsGoodBut (is_new id) top (seen_by t s) → HasColumns n cs (seen_by t s) (seen_by t (with_edits t (column_rows id key n cs) s))
  columns-put t n [] s log w l a b k u g = record { good = g; counts = λ h. omega arith }
  columns-put t n (c ∷ cs) s log w l a b k u g =
      let p : ℕ = free_place s in
      let new : Row = row (column_values id key n c) in
      let e : CellEdit = adds 2 (column_values id key n c) in
      let next_state : State = with_edit t e s in
      let free : seen_by t s p ≡ Empty = free-seen t s log w in
      let seen : put p (Full 2 new) (seen_by t s) ≡ seen_by t next_state = sym (seen_edit t e s) in
      let grows : bound next_state ≤ bound (with_edits t (column_rows id key (suc n) cs) next_state) = bound-grows t (column_rows id key (suc n) cs) next_state in
      let here : p < bound next_state = place-below t e s in
      let low : p < top = omega (arith, here, grows, l) in
      let rest : HasColumns (suc n) cs (seen_by t next_state) (seen_by t (with_edits t (column_rows id key (suc n) cs) next_state))
      = columns-put t (suc n) cs next_state (log-Change t p Empty e.after s log w (may-add t s log w)) (inl (own_live-with_edit t e s)) l (omega arith) (omega (arith, b)) (k.1)
      (subst (IsUnderway id (suc n) top) seen (underway_next n p c (seen_by t s) free u))
      (subst (IsGoodBut (is_new id) top) seen (good_column n p c (seen_by t s) a (omega (arith, b)) (k.0) free low u g)) in
      record {
        good = rest.good;
        counts = λ h.
            let first : own_count h (seen_by t next_state) ≡ cond (h new) 1 0 + own_count h (seen_by t s) = ap (own_count h) (sym seen) ∙ count_put h p new (seen_by t s) refl free low in
            let later : own_count h (seen_by t (with_edits t (column_rows id key (suc n) cs) next_state)) ≡ count_by h (new_rows id key (suc n) cs) + own_count h (seen_by t next_state) = rest.counts h in
            let step : count_by h (new_rows id key n (c ∷ cs)) ≡ cond (h new) 1 0 + count_by h (new_rows id key (suc n) cs) = sum_by-cons (λ x. cond (h x) 1 0) new (new_rows id key (suc n) cs) in
            omega (arith, first, later, step);
      }
