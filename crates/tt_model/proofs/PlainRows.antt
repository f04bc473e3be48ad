-- Lines that delete rows of system tables make plain entries, and rows of numbers and short texts can be stored.
use Rattle.std.proofs.Common.{◌≡◌, ◌≤◌, ◌<◌, ◌+◌, ◌^◌, ℕ, true, List, [], ◌∷◌, ◌++◌, map, length, Option, Some, None, refl, sym, ap, ◌∙◌, subst, arith}
use Rattle.std.proofs.lemmas.Int.{ints}
use Rattle.std.proofs.lemmas.List.Concat.{length-flat_map}
use Rattle.std.proofs.lemmas.List.Recursion.{is_sum_by}
use Rattle.tt_value.specs.BigEndian.{big_endian}
use Rattle.tt_value.specs.Stored.{IsCell, IsStorable, IsStorableValue, value_bytes, values_bytes}
use Rattle.tt_value.specs.declared.refusal.Refusal.{Refusal}
use Rattle.tt_value.specs.declared.value.Cell.{Cell}
use Rattle.tt_value.specs.declared.value.Cell.TheVariants.{Empty, Full}
use Rattle.tt_value.specs.declared.value.Value.{Value}
use Rattle.tt_value.specs.declared.value.Value.TheVariants.{Null, Int, Number, Text}
use Rattle.tt_record.specs.Entry.{IsTransaction, of_one_table}
use Rattle.tt_model.specs.Committed.{is_full}
use Rattle.tt_model.specs.Tables.{Index, PlacedRow, Table, by_number, by_text, index_named, table_named, with_number_at}
use Rattle.tt_model.specs.Meaning.{Makes, unless}
use Rattle.tt_model.specs.System.{adds, bookmark, delete_bookmark, deletes, drop_index, drop_table, meant_by_delete_bookmark, meant_by_drop_index, meant_by_drop_table, meant_by_unsubscribe, number, rewrites, row, subscription, system_rows, unsubscribe}
use Rattle.tt_model.specs.State.{State, catalog, cells_of, free_place}
use Rattle.tt_model.specs.declared.definition.CellEdit.{CellEdit}
use Rattle.tt_model.specs.Sound.{IsSound}
use Rattle.tt_model.specs.WholeRuns.{Each}
use Rattle.tt_model.specs.Entries.{IsPlain}
use Rattle.tt_model.specs.Works.{changes}
use Rattle.tt_model.proofs.PlainStatements.{same_table}
use Rattle.tt_model.proofs.StatementLemmas.{makes_same, unless-makes}
use Rattle.tt_model.proofs.StorableCells.{IsAtLow, IsPlacedEdit, IsStored, changes-plain, committed-low, committed-stored, plain-change}
use Rattle.tt_model.proofs.StorableValues.{all-each}
use Rattle.tt_model.proofs.SystemLemmas.{AreOfRows, IsOfRow}
use Rattle.tt_model.proofs.SystemLines.{delete_bookmark-good, drop_index-good, drop_table-good, refuses_none, unsubscribe-good}
use Rattle.tt_model.proofs.WorkEntries.{each-append}

-- ---- deletes

abbrev pub AreDeletes : List CellEdit → Type 0
AreDeletes edits = Each (λ (e : CellEdit). e.after ≡ Empty) edits

deleted_one : (s : State) (e : CellEdit) → IsSound s → IsStored s → IsOfRow s e → e.after ≡ Empty → IsPlacedEdit e
deleted_one s e sound h o is =
    let cell : IsCell (Full o.table o.row) = subst IsCell o.lies (committed-stored s h o.at) in (
      record {
        before = subst IsCell (sym o.before) cell;
        after = subst IsCell (sym is) tt;
        table = subst (λ (a : Cell). of_one_table e.before a ≡ true) (sym is) (subst (λ (b : Cell). of_one_table b Empty ≡ true) (sym o.before) refl);
      },
      subst IsAtLow (sym o.place) (committed-low s o.at sound h (ap is_full o.lies)),
    )

pub deleted-placed : (s : State) (edits : List CellEdit) → IsSound s → IsStored s → AreOfRows s edits → AreDeletes edits → Each IsPlacedEdit edits
deleted-placed s [] sound h o d = tt
deleted-placed s (e ∷ es) sound h o d = (deleted_one s e sound h (o.0) (d.0), deleted-placed s es sound h (o.1) (d.1))

are_deletes : (table : ℕ) (rows : List PlacedRow) → AreDeletes (map (deletes table) rows)
are_deletes table [] = tt
are_deletes table (r ∷ rows) = (refl, are_deletes table rows)

deletes_then : (xs ys : List CellEdit) → AreDeletes xs → AreDeletes ys → AreDeletes (xs ++ ys)
deletes_then xs ys a b = each-append (λ (e : CellEdit). e.after ≡ Empty) xs ys a b

-- What a line makes that is of deletes.
made_deletes : (o : Option Refusal) (es edits : List CellEdit) → AreDeletes es → unless o (Makes es) ≡ Makes edits → AreDeletes edits
made_deletes o es edits d m = subst AreDeletes (makes_same es edits ((unless-makes o (Makes es) edits m).1)) d

drop_table_deletes : (session : ℕ) (s : State) (o : Option Table) (edits : List CellEdit) → drop_table session s o ≡ Makes edits → AreDeletes edits
drop_table_deletes session s None edits m = absurd (refuses_none _ _ edits m)
drop_table_deletes session s (Some t) edits m =
    let five : List PlacedRow = by_text 0 (with_number_at 1 t.id (system_rows 5 s)) in
    let three : List PlacedRow = by_number 0 (with_number_at 1 t.id (system_rows 3 s)) in
    let two : List PlacedRow = by_number 1 (with_number_at 0 t.id (system_rows 2 s)) in
    let one : List PlacedRow = with_number_at 0 t.id (system_rows 1 s) in
    made_deletes _ (map (deletes 5) five ++ (map (deletes 3) three ++ (map (deletes 2) two ++ map (deletes 1) one))) edits
    (deletes_then (map (deletes 5) five) (map (deletes 3) three ++ (map (deletes 2) two ++ map (deletes 1) one)) (are_deletes 5 five)
    (deletes_then (map (deletes 3) three) (map (deletes 2) two ++ map (deletes 1) one) (are_deletes 3 three)
    (deletes_then (map (deletes 2) two) (map (deletes 1) one) (are_deletes 2 two) (are_deletes 1 one)))) m

drop_index_deletes : (session : ℕ) (s : State) (o : Option Index) (edits : List CellEdit) → drop_index session s o ≡ Makes edits → AreDeletes edits
drop_index_deletes session s None edits m = absurd (refuses_none _ _ edits m)
drop_index_deletes session s (Some i) edits m = made_deletes _ _ edits (are_deletes 3 _) m

unsubscribe_deletes : (session : ℕ) (s : State) (name : List ℕ) (o : Option Table) (edits : List CellEdit) → unsubscribe session s name o ≡ Makes edits → AreDeletes edits
unsubscribe_deletes session s name None edits m = absurd (refuses_none _ _ edits m)
unsubscribe_deletes session s name (Some t) edits m = made_deletes _ _ edits (are_deletes 5 (subscription name t.id s)) m

delete_bookmark_deletes : (session : ℕ) (s : State) (name : List ℕ) (o : Option PlacedRow) (edits : List CellEdit) → delete_bookmark session s name o ≡ Makes edits → AreDeletes edits
delete_bookmark_deletes session s name None edits m = absurd (refuses_none _ _ edits m)
delete_bookmark_deletes session s name (Some r) edits m = made_deletes _ _ edits (deletes_then (map (deletes 5) _) (deletes 4 r ∷ []) (are_deletes 5 _) (refl, tt)) m

pub drop_table-plain : (session : ℕ) (s : State) (name : List ℕ) (edits : List CellEdit) (n : ℕ) → IsSound s → IsTransaction n → IsStored s → meant_by_drop_table session s name ≡ Makes edits → Each IsPlain (changes n edits s)
unfolding meant_by_drop_table
drop_table-plain session s name edits n sound number h m =
    changes-plain n edits s number (deleted-placed s edits sound h (drop_table-good session s name edits m).of_rows (drop_table_deletes session s (table_named name (catalog s)) edits m))

pub drop_index-plain : (session : ℕ) (s : State) (name : List ℕ) (edits : List CellEdit) (n : ℕ) → IsSound s → IsTransaction n → IsStored s → meant_by_drop_index session s name ≡ Makes edits → Each IsPlain (changes n edits s)
unfolding meant_by_drop_index
drop_index-plain session s name edits n sound number h m =
    changes-plain n edits s number (deleted-placed s edits sound h (drop_index-good session s name edits m).of_rows (drop_index_deletes session s (index_named name (catalog s)) edits m))

pub unsubscribe-plain : (session : ℕ) (s : State) (table name : List ℕ) (edits : List CellEdit) (n : ℕ) → IsSound s → IsTransaction n → IsStored s → meant_by_unsubscribe session s table name ≡ Makes edits → Each IsPlain (changes n edits s)
unfolding meant_by_unsubscribe
unsubscribe-plain session s table name edits n sound number h m =
    changes-plain n edits s number (deleted-placed s edits sound h (unsubscribe-good session s table name edits m).of_rows (unsubscribe_deletes session s name (table_named table (catalog s)) edits m))

pub delete_bookmark-plain : (session : ℕ) (s : State) (name : List ℕ) (edits : List CellEdit) (n : ℕ) → IsSound s → IsTransaction n → IsStored s → meant_by_delete_bookmark session s name ≡ Makes edits → Each IsPlain (changes n edits s)
unfolding meant_by_delete_bookmark
delete_bookmark-plain session s name edits n sound number h m =
    changes-plain n edits s number (deleted-placed s edits sound h (delete_bookmark-good session s name edits m).of_rows (delete_bookmark_deletes session s name (bookmark name s) edits m))

-- ---- rows of numbers and texts

abbrev value_length : Value → ℕ
value_length Null = 1
value_length (Int n) = 9
value_length (Number s n) = 10
value_length (Text text) = 3 + length text

value_is : (v : Value) → length (value_bytes v) ≡ value_length v
unfolding big_endian
value_is Null = refl
value_is (Int n) = refl
value_is (Number s n) = refl
value_is (Text text) = omega arith

abbrev pub total_length : List Value → ℕ
total_length [] = 0
total_length (v ∷ vs) = value_length v + total_length vs

bytes_are : (vs : List Value) → length (values_bytes vs) ≡ total_length vs
bytes_are vs = length-flat_map value_bytes vs ∙ sym (is_sum_by total_length (λ v. length (value_bytes v)) refl (λ v ws. ap (λ n. n + total_length ws) (sym (value_is v))) vs)

pub system-row : (values : List Value) → 1 ≤ length values → length values ≤ 16 → Each IsStorableValue values → total_length values ≤ 239 → IsStorable (row values)
system-row values some few range short =
    let count : length (values_bytes values) ≡ total_length values = bytes_are values in
    record { some = some; few = few; in_range = all-each IsStorableValue values range; short = omega (arith, count, short) }

pub storable-pos : (n : ℕ) → n < 2 ^ 63 → IsStorableValue (number n)
storable-pos n low = omega (arith, ints, low)

-- A new row of a system table, and one that takes the place of another.
pub added-plain : (table n : ℕ) (values : List Value) (s : State) → 1 ≤ table → table < 16 → IsTransaction n → IsStorable (row values) → free_place s < 2097152 → Each IsPlain (changes n (adds table values ∷ []) s)
added-plain table n values s some low number storable free =
    (plain-change n (free_place s) (adds table values) number (record { before = tt; after = (some, omega (arith, low), storable); table = refl }) free, tt)

pub rewritten-plain : (table n : ℕ) (r : PlacedRow) (values : List Value) (s at : State) → table < 16 → IsSound s → IsStored s → IsTransaction n → cells_of s (r.0) ≡ Full table (r.1) → IsStorable (row values) →
    Each IsPlain (changes n (rewrites table r values ∷ []) at)
rewritten-plain table n r values s at low sound h number lies storable =
    let cell : IsCell (Full table (r.1)) = subst IsCell lies (committed-stored s h (r.0)) in
    (plain-change n (r.0) (rewrites table r values) number (record { before = cell; after = (cell.0, cell.1, storable); table = same_table table }) (committed-low s (r.0) sound h (ap is_full lies)), tt)
