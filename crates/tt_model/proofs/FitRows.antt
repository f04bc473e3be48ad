-- The row that an insert makes fits its table, and so does each row that an update leaves. An update keeps the key.
use Rattle.std.proofs.Common.{◌≡◌, inl, inr, ℕ, zero, suc, ℤ, Bool, true, false, not, ◌&&◌, ◌||◌, nat_eq, nat_lt, nat_le, List, [], ◌∷◌, length, map, zip, slice_get, slice_set, Option, None, unwrap_or, refl, sym, ap, ◌∙◌, subst, arith, true≢false}
use Rattle.std.specs.Prelude.{◌==◌, ◌+ℤ◌, ◌-ℤ◌, bytes_eq}
use Rattle.std.specs.List.{list_any, list_all}
use Rattle.std.proofs.lemmas.Bool.{cases_order, eqb-true, eq-eqb, or_parts, and_parts, both_ways, false_from_ne_true, lt-ltb, le-leb}
use Rattle.tt_value.specs.declared.value.Value.{Value}
use Rattle.tt_value.specs.declared.value.Value.TheVariants.{Null, Int, Number, Text}
use Rattle.tt_value.specs.declared.value.Row.{Row}
use Rattle.tt_value.specs.declared.value.ColumnType.{ColumnType}
use Rattle.tt_value.specs.declared.value.ColumnType.TheVariants.{BigInt, Varchar, Number as NumberOf}
use Rattle.tt_value.specs.declared.refusal.Refusal.{Refusal}
use Rattle.tt_value.specs.declared.refusal.Refusal.TheVariants.{KeyUpdate, NameThere, NoColumn, WrongType}
use Rattle.tt_parse.specs.declared.command.ColumnText.{ColumnText}
use Rattle.tt_parse.specs.declared.command.SetItem.{SetItem}
use Rattle.tt_parse.specs.declared.command.SetSource.{SetSource}
use Rattle.tt_parse.specs.declared.command.SetSource.TheVariants.{Literal, Column, Plus, Minus}
use Rattle.tt_model.specs.Values.{is_null}
use Rattle.tt_model.specs.Holders.{value_at, values_at}
use Rattle.tt_model.specs.Tables.{Table, column_named}
use Rattle.tt_model.specs.Conditions.{column_at, is_column, is_text_type}
use Rattle.tt_model.specs.Meaning.{refused_if, first_of, each_set, inserted_row, is_too_wide, is_type_of, kind_named, names_no_column, null_refusal, number_value, plus_value, range_refusal, set_refusal, set_values, sets_refusal, source_column, source_value, stored_value, takes_literal, takes_source, wide_refusal, with_column, with_values}
use Rattle.tt_model.specs.Damage.{has_misfit, is_kept, is_misfit}
use Rattle.tt_model.proofs.StatementLemmas.{each_none, first_none}
use Rattle.tt_model.proofs.SystemLines.{not_refused}
use Rattle.tt_model.proofs.TableLines.{not_none, not_not}
use Rattle.tt_model.proofs.OneHolderStatements.{or_none}

-- ---- tests

not_less : (m n : ℕ) → nat_lt m n ≡ false → nat_le n m ≡ true
not_less m n h = elim (cases_order m n) [
  | inl same ↦ le-leb n m (omega (arith, same))
  | inr (inl less) ↦ absurd (both_ways (nat_lt m n) h (lt-ltb m n less))
  | inr (inr more) ↦ le-leb n m (omega (arith, more))
]

-- A value of its column's kind, and no Null where one is refused, fits.
fits-kept : (c : ColumnText) (v : Value) → is_kept c.kind v ≡ true → null_refusal c v ≡ None → is_misfit c v ≡ false
fits-kept c v k n = ap (λ b. not b || c.required && is_null v) k ∙ not_refused (c.required && is_null v) _ n

kept-fits : (c : ColumnText) (v : Value) → is_misfit c v ≡ false → is_kept c.kind v ≡ true
kept-fits c v h = not_none (is_kept c.kind v) ((or_parts (not (is_kept c.kind v)) (c.required && is_null v) h).0)

-- ---- a row's values, column by column

abbrev pub FitEach : List ColumnText → List Value → Type 0
FitEach [] [] = Unit {0}
FitEach (c ∷ cs) (v ∷ vs) = (is_misfit c v ≡ false) × FitEach cs vs
FitEach [] (v ∷ vs) = ⊥
FitEach (c ∷ cs) [] = ⊥

abbrev misfits : List ColumnText → List Value → Bool
misfits cs vs = list_any (λ (p : ColumnText × Value). is_misfit (p.0) (p.1)) (zip cs vs)

each-from : (cs : List ColumnText) (vs : List Value) → length vs ≡ length cs → misfits cs vs ≡ false → FitEach cs vs
each-from [] [] e h = tt
each-from (c ∷ cs) (v ∷ vs) e h =
    let parts : (is_misfit c v ≡ false) × (misfits cs vs ≡ false) = or_parts (is_misfit c v) (misfits cs vs) h in (parts.0, each-from cs vs (omega (arith, e)) (parts.1))
each-from [] (v ∷ vs) e h = absurd (omega (arith, e))
each-from (c ∷ cs) [] e h = absurd (omega (arith, e))

each-none : (cs : List ColumnText) (vs : List Value) → FitEach cs vs → misfits cs vs ≡ false
each-none [] [] f = refl
each-none (c ∷ cs) (v ∷ vs) f = ap (λ b. b || misfits cs vs) (f.0) ∙ each-none cs vs (f.1)
each-none [] (v ∷ vs) f = absurd f
each-none (c ∷ cs) [] f = absurd f

each-length : (cs : List ColumnText) (vs : List Value) → FitEach cs vs → length vs ≡ length cs
each-length [] [] f = refl
each-length (c ∷ cs) (v ∷ vs) f = ap suc (each-length cs vs (f.1))
each-length [] (v ∷ vs) f = absurd f
each-length (c ∷ cs) [] f = absurd f

pub each-fits : (t : Table) (row : Row) → has_misfit t row ≡ false → FitEach t.columns row.values
each-fits t row h =
    let parts : (not (length row.values == length t.columns) ≡ false) × (misfits t.columns row.values ≡ false) = or_parts (not (length row.values == length t.columns)) (misfits t.columns row.values) h in
    each-from t.columns row.values (eqb-true (length row.values) (length t.columns) (not_none (length row.values == length t.columns) (parts.0))) (parts.1)

pub fits-each : (t : Table) (row : Row) → FitEach t.columns row.values → has_misfit t row ≡ false
fits-each t row f =
    ap (λ b. not b || misfits t.columns row.values) (eq-eqb (length row.values) (length t.columns) (each-length t.columns row.values f)) ∙ each-none t.columns row.values f

-- ---- insert

kept-number : (kind : ColumnType) (z : ℤ) → is_text_type kind ≡ false → is_kept kind (number_value kind z) ≡ true
kept-number BigInt z h = refl
kept-number (Varchar n) z h = absurd (true≢false h)
kept-number (NumberOf s) z h = eq-eqb s s refl

kept-literal : (kind : ColumnType) (x : Value) → takes_literal kind x ≡ true → is_too_wide kind (stored_value kind x) ≡ false → is_kept kind (stored_value kind x) ≡ true
kept-literal BigInt Null h w = refl
kept-literal (Varchar n) Null h w = refl
kept-literal (NumberOf s) Null h w = refl
kept-literal BigInt (Int z) h w = refl
kept-literal (Varchar n) (Int z) h w = absurd (true≢false (sym h))
kept-literal (NumberOf s) (Int z) h w = eq-eqb s s refl
kept-literal BigInt (Number t z) h w = absurd (true≢false (sym h))
kept-literal (Varchar n) (Number t z) h w = absurd (true≢false (sym h))
kept-literal (NumberOf s) (Number t z) h w = eq-eqb s s refl
kept-literal BigInt (Text bytes) h w = absurd (true≢false (sym h))
kept-literal (Varchar n) (Text bytes) h w = not_less n (length bytes) w
kept-literal (NumberOf s) (Text bytes) h w = absurd (true≢false (sym h))

abbrev stored_test : ColumnText → Value → Option Refusal
stored_test c v = first_of (null_refusal c v ∷ wide_refusal c v ∷ range_refusal c v ∷ [])

abbrev stored_values : List ColumnText → List Value → List Value
stored_values cs xs = map (λ (p : ColumnText × Value). stored_value ((p.0).kind) (p.1)) (zip cs xs)

inserts : (cs : List ColumnText) (xs : List Value) → length xs ≡ length cs → list_all (λ (p : ColumnText × Value). takes_literal ((p.0).kind) (p.1)) (zip cs xs) ≡ true →
    first_of (map (with_column stored_test) (zip cs (stored_values cs xs))) ≡ None → FitEach cs (stored_values cs xs)
inserts [] [] e l n = tt
inserts (c ∷ cs) (x ∷ xs) e l n =
    let v : Value = stored_value c.kind x in
    let takes : (takes_literal c.kind x ≡ true) × (list_all (λ (p : ColumnText × Value). takes_literal ((p.0).kind) (p.1)) (zip cs xs) ≡ true)
    = and_parts (takes_literal c.kind x) (list_all (λ (p : ColumnText × Value). takes_literal ((p.0).kind) (p.1)) (zip cs xs)) l in
    let tests : (stored_test c v ≡ None) × (first_of (map (with_column stored_test) (zip cs (stored_values cs xs))) ≡ None)
    = first_none (stored_test c v) (map (with_column stored_test) (zip cs (stored_values cs xs))) n in
    let own = each_none (null_refusal c v ∷ wide_refusal c v ∷ range_refusal c v ∷ []) (tests.0) in (
      fits-kept c v (kept-literal c.kind x (takes.0) (not_refused (is_too_wide c.kind v) _ ((own.1).0))) (own.0),
      inserts cs xs (omega (arith, e)) (takes.1) (tests.1),
    )
inserts [] (x ∷ xs) e l n = absurd (omega (arith, e))
inserts (c ∷ cs) [] e l n = absurd (omega (arith, e))

pub inserted-fits : (t : Table) (values : List Value) → (not (length values == length t.columns)) ≡ false →
    (not (list_all (λ (p : ColumnText × Value). takes_literal ((p.0).kind) (p.1)) (zip t.columns values))) ≡ false →
    first_of (map (with_column stored_test) (zip t.columns ((inserted_row t values).values))) ≡ None → has_misfit t (inserted_row t values) ≡ false
inserted-fits t values e l n =
    fits-each t (inserted_row t values)
    (inserts t.columns values (eqb-true (length values) (length t.columns) (not_none (length values == length t.columns) e))
    (not_none (list_all (λ (p : ColumnText × Value). takes_literal ((p.0).kind) (p.1)) (zip t.columns values)) l) n)

-- ---- one column of a row

abbrev no_column : ColumnText
no_column = record { name = []; kind = BigInt; required = false }

-- Past the last column there is Null in a column that takes it.
fit-at : (cs : List ColumnText) (vs : List Value) (n : ℕ) → FitEach cs vs → is_misfit (unwrap_or (slice_get cs n) no_column) (unwrap_or (slice_get vs n) Null) ≡ false
fit-at [] [] n f = refl
fit-at (c ∷ cs) (v ∷ vs) zero f = f.0
fit-at (c ∷ cs) (v ∷ vs) (suc n) f = fit-at cs vs n (f.1)
fit-at [] (v ∷ vs) n f = absurd f
fit-at (c ∷ cs) [] n f = absurd f

fit-set : (cs : List ColumnText) (vs : List Value) (n : ℕ) (v : Value) → FitEach cs vs → is_misfit (unwrap_or (slice_get cs n) no_column) v ≡ false → FitEach cs (slice_set vs n v)
fit-set [] [] n v f h = tt
fit-set (c ∷ cs) (x ∷ xs) zero v f h = (h, f.1)
fit-set (c ∷ cs) (x ∷ xs) (suc n) v f h = (f.0, fit-set cs xs n v (f.1) h)
fit-set [] (x ∷ xs) n v f h = absurd f
fit-set (c ∷ cs) [] n v f h = absurd f

-- ---- update

kept-alike : (kind other : ColumnType) (v : Value) → is_type_of kind other ≡ true → is_kept other v ≡ true → is_too_wide kind v ≡ false → is_kept kind v ≡ true
kept-alike BigInt BigInt v h k w = k
kept-alike BigInt (Varchar n) v h k w = absurd (true≢false (sym h))
kept-alike BigInt (NumberOf s) v h k w = absurd (true≢false (sym h))
kept-alike (Varchar n) BigInt v h k w = absurd (true≢false (sym h))
kept-alike (Varchar n) (Varchar m) Null h k w = refl
kept-alike (Varchar n) (Varchar m) (Int z) h k w = absurd (true≢false (sym k))
kept-alike (Varchar n) (Varchar m) (Number u z) h k w = absurd (true≢false (sym k))
kept-alike (Varchar n) (Varchar m) (Text bytes) h k w = not_less n (length bytes) w
kept-alike (Varchar n) (NumberOf s) v h k w = absurd (true≢false (sym h))
kept-alike (NumberOf s) BigInt v h k w = absurd (true≢false (sym h))
kept-alike (NumberOf s) (Varchar n) v h k w = absurd (true≢false (sym h))
kept-alike (NumberOf s) (NumberOf t) v h k w = subst (λ (n : ℕ). is_kept (NumberOf n) v ≡ true) (sym (eqb-true s t h)) k

kept-plus : (kind : ColumnType) (f : ℤ → ℤ → ℤ) (v by : Value) → is_text_type kind ≡ false → is_kept kind (plus_value kind f v by) ≡ true
kept-plus kind f Null by h = kept-null kind
  where
    kept-null : (kind : ColumnType) → is_kept kind Null ≡ true
    kept-null BigInt = refl
    kept-null (Varchar n) = refl
    kept-null (NumberOf s) = refl
kept-plus kind f (Int a) by h = kept_by kind f (Int a) by refl h
  where
    kept_by : (kind : ColumnType) (f : ℤ → ℤ → ℤ) (v by : Value) → v ≡ Int a → is_text_type kind ≡ false → is_kept kind (plus_value kind f (Int a) by) ≡ true
    kept_by BigInt f v Null e h = refl
    kept_by (Varchar n) f v Null e h = refl
    kept_by (NumberOf s) f v Null e h = refl
    kept_by kind f v (Int b) e h = kept-number kind _ h
    kept_by kind f v (Number u b) e h = kept-number kind _ h
    kept_by kind f v (Text b) e h = kept-number kind _ h
kept-plus kind f (Number s a) by h = kept_by kind by h
  where
    kept_by : (kind : ColumnType) (by : Value) → is_text_type kind ≡ false → is_kept kind (plus_value kind f (Number s a) by) ≡ true
    kept_by BigInt Null h = refl
    kept_by (Varchar n) Null h = refl
    kept_by (NumberOf s) Null h = refl
    kept_by kind (Int b) h = kept-number kind _ h
    kept_by kind (Number u b) h = kept-number kind _ h
    kept_by kind (Text b) h = kept-number kind _ h
kept-plus kind f (Text a) by h = kept_by kind by h
  where
    kept_by : (kind : ColumnType) (by : Value) → is_text_type kind ≡ false → is_kept kind (plus_value kind f (Text a) by) ≡ true
    kept_by BigInt Null h = refl
    kept_by (Varchar n) Null h = refl
    kept_by (NumberOf s) Null h = refl
    kept_by kind (Int b) h = kept-number kind _ h
    kept_by kind (Number u b) h = kept-number kind _ h
    kept_by kind (Text b) h = kept-number kind _ h

kept-source : (t : Table) (kind : ColumnType) (row : Row) (source : SetSource) → FitEach t.columns row.values → takes_source t kind source ≡ true →
    is_too_wide kind (source_value t kind row source) ≡ false → is_kept kind (source_value t kind row source) ≡ true
kept-source t kind row (Literal v) f h w = kept-literal kind v h w
kept-source t kind row (Column name) f h w =
    let n : ℕ = unwrap_or (column_named t name) 0 in kept-alike kind (kind_named t name) (value_at row n) h (kept-fits (column_at t n) (value_at row n) (fit-at t.columns row.values n f)) w
kept-source t kind row (Plus name by) f h w = kept-plus kind (λ a b. a +ℤ b) (value_at row (unwrap_or (column_named t name) 0)) by (not_not (is_text_type kind) ((and_parts (not (is_text_type kind)) _ h).0))
kept-source t kind row (Minus name by) f h w = kept-plus kind (λ a b. a -ℤ b) (value_at row (unwrap_or (column_named t name) 0)) by (not_not (is_text_type kind) ((and_parts (not (is_text_type kind)) _ h).0))

abbrev set_tests : Table → List SetItem → SetItem → List (Option Refusal)
set_tests t earlier set =
    refused_if (not (is_column t set.column)) NoColumn
    ∷ refused_if (list_any (λ k. nat_eq k (unwrap_or (column_named t set.column) 0)) t.key) KeyUpdate
    ∷ refused_if (list_any (λ e. bytes_eq e.column set.column) earlier) NameThere
    ∷ refused_if (names_no_column t (source_column set.source)) NoColumn
    ∷ refused_if (not (takes_source t (kind_named t set.column) set.source)) WrongType
    ∷ []

sets_fit : (t : Table) (row : Row) (earlier sets : List SetItem) (values : List Value) → FitEach t.columns row.values → FitEach t.columns values → sets_refusal t earlier sets ≡ None →
    each_set t null_refusal (set_values t row sets) ≡ None → each_set t wide_refusal (set_values t row sets) ≡ None → FitEach t.columns (with_values (set_values t row sets) values)
sets_fit t row earlier [] values base f s n w = f
sets_fit t row earlier (set ∷ sets) values base f s n w =
    let c : ℕ = unwrap_or (column_named t set.column) 0 in
    let v : Value = source_value t (kind_named t set.column) row set.source in
    let tested : (set_refusal t earlier set ≡ None) × (sets_refusal t (set ∷ earlier) sets ≡ None) = or_none (set_refusal t earlier set) (sets_refusal t (set ∷ earlier) sets) s in
    let nulls : (null_refusal (column_at t c) v ≡ None) × (each_set t null_refusal (set_values t row sets) ≡ None) = first_none (null_refusal (column_at t c) v) _ n in
    let wides : (wide_refusal (column_at t c) v ≡ None) × (each_set t wide_refusal (set_values t row sets) ≡ None) = first_none (wide_refusal (column_at t c) v) _ w in
    let takes : takes_source t (kind_named t set.column) set.source ≡ true
    = not_none (takes_source t (kind_named t set.column) set.source) (not_refused (not (takes_source t (kind_named t set.column) set.source)) _ (((((each_none (set_tests t earlier set) (tested.0)).1).1).1).1).0) in
    let kept : is_kept ((column_at t c).kind) v ≡ true
    = kept-source t (kind_named t set.column) row set.source base takes (not_refused (is_too_wide ((column_at t c).kind) v) _ (wides.0)) in
    sets_fit t row (set ∷ earlier) sets (slice_set values c v) base (fit-set t.columns values c v f (fits-kept (column_at t c) v kept (nulls.0))) (tested.1) (nulls.1) (wides.1)

pub updated-fits : (t : Table) (row : Row) (sets : List SetItem) → has_misfit t row ≡ false → sets_refusal t [] sets ≡ None → each_set t null_refusal (set_values t row sets) ≡ None →
    each_set t wide_refusal (set_values t row sets) ≡ None → has_misfit t (record { values = with_values (set_values t row sets) row.values }) ≡ false
updated-fits t row sets h s n w =
    fits-each t (record { values = with_values (set_values t row sets) row.values }) (sets_fit t row [] sets row.values (each-fits t row h) (each-fits t row h) s n w)

-- ---- an update keeps the key

get-set : (vs : List Value) (n k : ℕ) (v : Value) → nat_eq k n ≡ false → slice_get (slice_set vs n v) k ≡ slice_get vs k
get-set [] n k v d = refl
get-set (x ∷ xs) zero zero v d = absurd (true≢false d)
get-set (x ∷ xs) zero (suc k) v d = refl
get-set (x ∷ xs) (suc n) zero v d = refl
get-set (x ∷ xs) (suc n) (suc k) v d = get-set xs n k v (false_from_ne_true (nat_eq k n) (λ y. both_ways (nat_eq (suc k) (suc n)) d (eq-eqb (suc k) (suc n) (ap suc (eqb-true k n y)))))

abbrev row_of : List Value → Row
row_of values = record { values = values }

values-set : (columns : List ℕ) (vs : List Value) (n : ℕ) (v : Value) → list_any (λ k. nat_eq k n) columns ≡ false → values_at columns (row_of (slice_set vs n v)) ≡ values_at columns (row_of vs)
values-set [] vs n v d = refl
values-set (k ∷ ks) vs n v d =
    let parts : (nat_eq k n ≡ false) × (list_any (λ x. nat_eq x n) ks ≡ false) = or_parts (nat_eq k n) (list_any (λ x. nat_eq x n) ks) d in
    ap (λ (o : Option Value). unwrap_or o Null ∷ values_at ks (row_of (slice_set vs n v))) (get-set vs n k v (parts.0))
    ∙ ap (λ (ys : List Value). value_at (row_of vs) k ∷ ys) (values-set ks vs n v (parts.1))

sets_keep : (t : Table) (row : Row) (earlier sets : List SetItem) (values : List Value) → sets_refusal t earlier sets ≡ None →
    values_at t.key (row_of (with_values (set_values t row sets) values)) ≡ values_at t.key (row_of values)
sets_keep t row earlier [] values s = refl
sets_keep t row earlier (set ∷ sets) values s =
    let c : ℕ = unwrap_or (column_named t set.column) 0 in
    let v : Value = source_value t (kind_named t set.column) row set.source in
    let tested : (set_refusal t earlier set ≡ None) × (sets_refusal t (set ∷ earlier) sets ≡ None) = or_none (set_refusal t earlier set) (sets_refusal t (set ∷ earlier) sets) s in
    sets_keep t row (set ∷ earlier) sets (slice_set values c v) (tested.1)
    ∙ values-set t.key values c v (not_refused (list_any (λ k. nat_eq k c) t.key) _ (((each_none (set_tests t earlier set) (tested.0)).1).0))

pub updated-key : (t : Table) (row : Row) (sets : List SetItem) → sets_refusal t [] sets ≡ None →
    values_at t.key (record { values = with_values (set_values t row sets) row.values }) ≡ values_at t.key row
updated-key t row sets s = sets_keep t row [] sets row.values s
