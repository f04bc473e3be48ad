-- Values that a column takes, and that pass its tests, can be stored; and so can the rows that inserts and updates make of them.
use Rattle.std.proofs.Common.{◌≡◌, ◌≤◌, ◌<◌, ◌^◌, ℕ, suc, Bool, true, false, not, ◌&&◌, nat_lt, List, [], ◌∷◌, map, length, Option, None, refl, sym, ap, arith, true≢false}
use Rattle.std.proofs.lemmas.Int.{ints}
use Rattle.std.proofs.lemmas.Bool.{and_parts, leb-false, leb-true, ltb-false, ltb-true}
use Rattle.std.proofs.lemmas.List.Elements.{All-from_recursion, All-set, recursion_from_All}
use Rattle.std.proofs.lemmas.List.{length-set}
use Rattle.std.specs.Prelude.{ℤ, pos, negsuc, ◌-ℤ◌, ◌*ℤ◌, int_le, int_lt, zip, unsigned_abs, slice_set}
use Rattle.std.specs.Int.{w64}
use Rattle.std.specs.Int.RustNames.{FitsSigned}
use Rattle.std.specs.List.{All, AllByRecursion, list_all}
use Rattle.tt_value.specs.Stored.{IsStorable, IsStorableValue}
use Rattle.tt_value.specs.Limits.{row_most, units_end}
use Rattle.tt_value.specs.declared.refusal.Refusal.{Refusal}
use Rattle.tt_value.specs.declared.refusal.Refusal.TheVariants.{OutOfRange, TooWide}
use Rattle.tt_value.specs.declared.value.Row.{Row}
use Rattle.tt_value.specs.declared.value.Value.{Value}
use Rattle.tt_value.specs.declared.value.Value.TheVariants.{Null, Int, Number, Text}
use Rattle.tt_value.specs.declared.value.ColumnType.{ColumnType}
use Rattle.tt_value.specs.declared.value.ColumnType.TheVariants.{BigInt, Varchar, Number as NumberOf}
use Rattle.tt_parse.specs.declared.command.ColumnText.{ColumnText}
use Rattle.tt_model.specs.Meaning.{first_of, is_too_wide, is_value_out, null_refusal, number_value, range_refusal, row_refusal, stored_length, stored_value, takes_literal, units_in, wide_refusal, width_of, with_column}
use Rattle.tt_model.specs.Ranges.{IsLiteral, IsType}
use Rattle.tt_model.specs.WholeRuns.{Each}
use Rattle.tt_model.proofs.FreePlaces.{not_refused}
use Rattle.tt_model.proofs.StatementLemmas.{AllNone, each_none}

-- ---- one value

not_out : (c : Bool) → not c ≡ false → c ≡ true
not_out true h = refl
not_out false h = absurd (true≢false h)

in_range : (n : ℤ) → (int_le (pos 0 -ℤ pos (2 ^ 63)) n && int_lt n (pos (2 ^ 63))) ≡ true → FitsSigned w64 n
in_range (pos n) h = let k : n < 2 ^ 63 = ltb-true n (2 ^ 63) h in omega (arith, ints, k)
in_range (negsuc n) h =
    let p : (int_le (pos 0 -ℤ pos (2 ^ 63)) (negsuc n) ≡ true) × (int_lt (negsuc n) (pos (2 ^ 63)) ≡ true) = and_parts (int_le (pos 0 -ℤ pos (2 ^ 63)) (negsuc n)) (int_lt (negsuc n) (pos (2 ^ 63))) h in
    let k : n ≤ 9223372036854775807 = leb-true n 9223372036854775807 (p.0) in
    omega (arith, ints, k)

-- A number in a column's range.
pub storable-number : (kind : ColumnType) (n : ℤ) → IsType kind → is_value_out kind (number_value kind n) ≡ false → IsStorableValue (number_value kind n)
storable-number BigInt n type out = in_range n (not_out (int_le (pos 0 -ℤ pos (2 ^ 63)) n && int_lt n (pos (2 ^ 63))) out)
storable-number (Varchar most) n type out = in_range n (not_out (int_le (pos 0 -ℤ pos (2 ^ 63)) n && int_lt n (pos (2 ^ 63))) out)
storable-number (NumberOf s) n type out = (type, leb-false units_end (unsigned_abs n) out)

-- A literal that a column takes, as it is stored there.
pub storable-literal : (kind : ColumnType) (v : Value) → IsType kind → IsLiteral v → takes_literal kind v ≡ true → is_too_wide kind (stored_value kind v) ≡ false →
    is_value_out kind (stored_value kind v) ≡ false → IsStorableValue (stored_value kind v)
storable-literal kind Null type literal takes wide out = tt
storable-literal BigInt (Int n) type literal takes wide out = literal
storable-literal BigInt (Number t n) type literal takes wide out = absurd (true≢false (sym takes))
storable-literal BigInt (Text bytes) type literal takes wide out = absurd (true≢false (sym takes))
storable-literal (Varchar most) (Int n) type literal takes wide out = absurd (true≢false (sym takes))
storable-literal (Varchar most) (Number t n) type literal takes wide out = absurd (true≢false (sym takes))
storable-literal (Varchar most) (Text bytes) type literal takes wide out =
    let short : length bytes ≤ most = ltb-false most (length bytes) wide in
    let few : most ≤ 200 = type.1 in
    (omega (arith, short, few), literal)
storable-literal (NumberOf s) (Int n) type literal takes wide out = storable-number (NumberOf s) (n *ℤ pos (10 ^ s)) type out
storable-literal (NumberOf s) (Number t n) type literal takes wide out = storable-number (NumberOf s) (units_in (NumberOf s) (Number t n)) type out
storable-literal (NumberOf s) (Text bytes) type literal takes wide out = absurd (true≢false (sym takes))

-- ---- lists

each_recursion : {X : Type 0} (P : X → Type 0) (xs : List X) → Each P xs → AllByRecursion P xs
each_recursion P [] h = tt
each_recursion P (x ∷ xs) h = (h.0, each_recursion P xs (h.1))

recursion_each : {X : Type 0} (P : X → Type 0) (xs : List X) → AllByRecursion P xs → Each P xs
recursion_each P [] h = tt
recursion_each P (x ∷ xs) h = (h.0, recursion_each P xs (h.1))

pub all-each : {X : Type 0} (P : X → Type 0) (xs : List X) → Each P xs → All P xs
all-each P xs h = All-from_recursion P xs (each_recursion P xs h)

pub each-all : {X : Type 0} (P : X → Type 0) (xs : List X) → All P xs → Each P xs
each-all P xs h = recursion_each P xs (recursion_from_All P xs h)

-- A row of 1 to 16 values that can be stored, and that isn't refused for its length.
pub storable-row : (values : List Value) → 1 ≤ length values → length values ≤ 16 → All IsStorableValue values → row_refusal (record { values = values }) ≡ None → IsStorable (record { values = values })
storable-row values some few range short =
    let row : Row = record { values = values } in
    record {
      some = some;
      few = few;
      in_range = range;
      short = ltb-false row_most (stored_length row) (not_refused (nat_lt row_most (stored_length row)) (TooWide (stored_length row)) short);
    }

-- ---- inserted values

abbrev pub value_tests : ColumnText → Value → Option Refusal
value_tests c v = first_of (null_refusal c v ∷ wide_refusal c v ∷ range_refusal c v ∷ [])

abbrev stored_pair : (ColumnText × Value) → Value
stored_pair p = stored_value ((p.0).kind) (p.1)

abbrev takes_pair : (ColumnText × Value) → Bool
takes_pair p = takes_literal ((p.0).kind) (p.1)

one_inserted : (c : ColumnText) (v : Value) → IsType c.kind → IsLiteral v → takes_literal c.kind v ≡ true → value_tests c (stored_value c.kind v) ≡ None → IsStorableValue (stored_value c.kind v)
one_inserted c v type literal takes none =
    let w : Value = stored_value c.kind v in
    let tests : AllNone (null_refusal c w ∷ wide_refusal c w ∷ range_refusal c w ∷ []) = each_none (null_refusal c w ∷ wide_refusal c w ∷ range_refusal c w ∷ []) none in
    storable-literal c.kind v type literal takes (not_refused (is_too_wide c.kind w) (TooWide (width_of w)) ((tests.1).0)) (not_refused (is_value_out c.kind w) OutOfRange (((tests.1).1).0))

pub inserted-storable : (cs : List ColumnText) (vs : List Value) → Each (λ (c : ColumnText). IsType c.kind) cs → Each IsLiteral vs → list_all takes_pair (zip cs vs) ≡ true →
    AllNone (map (with_column value_tests) (zip cs (map stored_pair (zip cs vs)))) → Each IsStorableValue (map stored_pair (zip cs vs))
inserted-storable [] vs types literals takes none = tt
inserted-storable (c ∷ cs) [] types literals takes none = tt
inserted-storable (c ∷ cs) (v ∷ vs) types literals takes none =
    let parts : (takes_literal c.kind v ≡ true) × (list_all takes_pair (zip cs vs) ≡ true) = and_parts (takes_literal c.kind v) (list_all takes_pair (zip cs vs)) takes in
    (one_inserted c v (types.0) (literals.0) (parts.0) (none.0), inserted-storable cs vs (types.1) (literals.1) (parts.1) (none.1))

pub inserted-length : (cs : List ColumnText) (vs : List Value) → length vs ≡ length cs → length (map stored_pair (zip cs vs)) ≡ length cs
inserted-length [] vs same = refl
inserted-length (c ∷ cs) [] same = let no : ⊥ = omega (arith, same) in absurd no
inserted-length (c ∷ cs) (v ∷ vs) same = ap suc (inserted-length cs vs (omega (arith, same)))

-- ---- values that are set

pub set-storable : (values : List Value) (i : ℕ) (v : Value) → IsStorableValue v → All IsStorableValue values → All IsStorableValue (slice_set values i v)
set-storable values i v h all = All-set IsStorableValue values i v h all

pub set-length : (values : List Value) (i : ℕ) (v : Value) → length (slice_set values i v) ≡ length values
set-length values i v = length-set values i v
