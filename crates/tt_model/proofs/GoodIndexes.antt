-- Creating an index leaves a good catalog.
use Rattle.std.proofs.Common.{◌≡◌, ◌<◌, ◌≤◌, ◌+◌, ℕ, Bool, true, false, ◌&&◌, nat_eq, map, List, [], ◌∷◌, Option, Some, None, unwrap_or, length, refl, sym, ap, ◌∙◌, subst, arith}
use Rattle.std.proofs.lemmas.Bool.{eq-eqb, leb-false, and_from, or_from, both_ways, not_from_true, not-false}
use Rattle.std.specs.Prelude.{◌==◌, nat_le, nat_lt, not, bytes_eq, count_by, is_some, slice_get}
use Rattle.std.specs.List.{list_any, list_all}
use Rattle.tt_value.specs.Ident.{is_name}
use Rattle.tt_value.specs.Same.{same_value}
use Rattle.tt_value.specs.Order.{text_of}
use Rattle.tt_value.specs.declared.value.Value.{Value}
use Rattle.tt_value.specs.declared.value.Value.TheVariants.{Text}
use Rattle.tt_value.specs.declared.value.Row.{Row}
use Rattle.tt_value.specs.declared.value.Cell.TheVariants.{Full}
use Rattle.tt_value.specs.declared.refusal.Refusal.{Refusal}
use Rattle.tt_value.specs.declared.refusal.Refusal.TheVariants.{NameThere, NoColumn, TooMany, DuplicateKey}
use Rattle.tt_model.specs.Committed.{is_full}
use Rattle.tt_model.specs.Live.{numbers_below}
use Rattle.tt_model.specs.Holders.{value_at, values_at}
use Rattle.tt_model.specs.Values.{same_values}
use Rattle.tt_model.specs.Tables.{Table, Index, PlacedRow, rows_of, number_at, read_positions, table_named, index_named, indexes_of, column_named, whole_number_of}
use Rattle.tt_model.specs.State.{State, cells_of, bound, catalog}
use Rattle.tt_model.specs.declared.definition.CellEdit.{CellEdit}
use Rattle.tt_model.specs.Meaning.{Makes, first_of, refused_if, no_room}
use Rattle.tt_model.specs.System.{number, flag, row, adds, in_transaction, system_rows, least_unused, columns_in, positions_text, has_twice, has_value_twice, open_on, create_index, meant_by_create_index}
use Rattle.tt_model.specs.Step.{system_done}
use Rattle.tt_model.specs.Sound.{IsSound}
use Rattle.tt_model.specs.Damage.{Indexes, are_taken, column_tests, is_flag, is_positions_text, has_value_in, has_twice_in, is_position_in, columns_with}
use Rattle.tt_model.proofs.ConflictLemmas.{same_value-self}
use Rattle.tt_model.proofs.IsolationLemmas.{full-below}
use Rattle.tt_model.proofs.StatementLemmas.{unless-makes, makes_same, each_none}
use Rattle.tt_model.proofs.SystemLines.{refuses_none, not_refused}
use Rattle.tt_model.proofs.CatalogLemmas.{not_held_user}
use Rattle.tt_model.proofs.TableLines.{least_unused-new}
use Rattle.tt_model.proofs.GoodPlaces.{has_at, tally, count-rows, tally-fewer, has-row, row-has, there-any}
use Rattle.tt_model.proofs.GoodValues.{same-values}
use Rattle.tt_model.proofs.GoodRemovals.{has_value, wrong_places}
use Rattle.tt_model.proofs.GoodCells.{rows_more}
use Rattle.tt_model.proofs.GoodLimits.{group_size}
use Rattle.tt_model.proofs.GoodDeletes.{HasGood, lies-below}
use Rattle.tt_model.proofs.GoodWrites.{good-adds}
use Rattle.tt_model.proofs.GoodTaken.{IsTableRow, number-in, table-row}
use Rattle.tt_model.proofs.GoodAdds.{bytes-self}
use Rattle.tt_model.proofs.GoodNumbers.{least_unused-range}
use Rattle.tt_model.proofs.GoodPositions.{positions-read}
use Rattle.tt_model.proofs.GoodColumns.{IsTableOf, table-of, number-range, own, all-low, all-there, none-twice}
use Rattle.tt_model.proofs.GoodIndexCounts.{length-indexes, length-indexes_of, index-among, index-there, few-indexes}

flag_is : (b : Bool) → is_flag (flag b) ≡ true
flag_is true = refl
flag_is false = refl

first_same : (v w : Value) → v ∷ [] ≡ w ∷ [] → v ≡ w
first_same v w h = ap (λ (xs : List Value). unwrap_or (slice_get xs 0) v) h

abbrev index_values : ℕ → ℕ → Bool → List ℕ → List ℕ → List Value
index_values id table unique name at = number id ∷ number table ∷ flag unique ∷ Text name ∷ Text (positions_text at) ∷ []

some_limit : (a b : ℕ) → Some a ≡ Some b → a ≡ b
some_limit a b h = ap (λ o. unwrap_or o a) h

positions_right : (p : ℕ) (ps : List ℕ) → list_all (λ c. nat_lt c 16) (p ∷ ps) ≡ true → is_positions_text (Text (positions_text (p ∷ ps))) ≡ true
positions_right p ps low =
    let read : read_positions 0 (positions_text (p ∷ ps)) ≡ p ∷ ps = positions-read p ps low in
    and_from (list_all (λ c. nat_lt c 16) (read_positions 0 (positions_text (p ∷ ps)))) (bytes_eq (positions_text (read_positions 0 (positions_text (p ∷ ps)))) (positions_text (p ∷ ps)))
    (ap (list_all (λ c. nat_lt c 16)) read ∙ low) (ap (λ xs. bytes_eq (positions_text xs) (positions_text (p ∷ ps))) read ∙ bytes-self (positions_text (p ∷ ps)))

places_right : (p : ℕ) (ps : List ℕ) (rows : List PlacedRow) → list_all (λ c. nat_lt c 16) (p ∷ ps) ≡ true → list_all (is_position_in rows) (p ∷ ps) ≡ true → has_twice_in (p ∷ ps) ≡ false →
    wrong_places (read_positions 0 (positions_text (p ∷ ps))) rows ≡ false
places_right p ps rows low there twice =
    ap (λ xs. wrong_places xs rows) (positions-read p ps low) ∙ or_from (not (list_all (is_position_in rows) (p ∷ ps))) (has_twice_in (p ∷ ps)) (not_from_true (list_all (is_position_in rows) (p ∷ ps)) there) twice

create_index_adds : (session : ℕ) (s : State) (name : List ℕ) (c : List ℕ) (cs : List (List ℕ)) (unique : Bool) (t : Table) (edits : List CellEdit) → IsSound s → is_name name ≡ true → IsTableRow s t.id → IsTableOf s t →
    create_index session s name (c ∷ cs) unique (Some t) ≡ Makes edits → HasGood s → HasGood (system_done edits s)
create_index_adds session s name c cs unique t edits h named table found m g =
    let columns : List (List ℕ) = c ∷ cs in
    let at : List ℕ = columns_in t columns in
    let used : List ℕ = map (λ (i : Index). i.id) (catalog s).indexes in
    let id : ℕ = least_unused 1 used in
    let values : List Value = index_values id t.id unique name at in
    let tests : List (Option Refusal) = in_transaction session s
    ∷ refused_if (is_some (index_named name (catalog s))) NameThere
    ∷ refused_if (not (list_all (λ c. is_some (column_named t c)) columns)) NoColumn
    ∷ refused_if (has_twice columns) NameThere
    ∷ refused_if (nat_le 8 (length (indexes_of t (catalog s)))) (TooMany 8)
    ∷ open_on t.id s
    ∷ refused_if (unique && has_value_twice at (system_rows t.id s)) DuplicateKey
    ∷ no_room 1 s
    ∷ [] in
    let made = unless-makes (first_of tests) (Makes (adds 3 values ∷ [])) edits m in
    let passed = each_none tests (made.0) in
    let no_name : is_some (index_named name (catalog s)) ≡ false = not_refused (is_some (index_named name (catalog s))) NameThere ((passed.1).0) in
    let there : list_all (λ c. is_some (column_named t c)) columns ≡ true = not-false (list_all (λ c. is_some (column_named t c)) columns) (not_refused (not (list_all (λ c. is_some (column_named t c)) columns)) NoColumn (((passed.1).1).0)) in
    let once : has_twice columns ≡ false = not_refused (has_twice columns) NameThere ((((passed.1).1).1).0) in
    let few : length (indexes_of t (catalog s)) < 8 = leb-false 8 (length (indexes_of t (catalog s))) (not_refused (nat_le 8 (length (indexes_of t (catalog s)))) (TooMany 8) (((((passed.1).1).1).1).0)) in
    let seven : count_by (λ (r : PlacedRow). number_at 1 r == t.id) (system_rows 3 s) < 8 = subst (λ (k : ℕ). k < 8) (length-indexes_of s t) few in
    let range : (16 ≤ t.id) × (t.id ≤ 271) = number-range 16 271 (number t.id) table.is_id in
    let all : count_by (λ (x : PlacedRow). true) (system_rows 3 s) < 2048 = few-indexes s h g t.id (range.0) (range.1) seven in
    let count : length used ≡ count_by (λ (x : PlacedRow). true) (system_rows 3 s) = length-indexes s in
    let id_range : (1 ≤ id) × (id ≤ 1 + length used) = least_unused-range 1 used in
    let high : id ≤ 1 + length used = id_range.1 in
    let low : list_all (λ p. nat_lt p 16) at ≡ true = all-low s t g found columns there in
    let new_id : list_any (nat_eq id) used ≡ false = least_unused-new 1 used in
    subst (λ (es : List CellEdit). HasGood (system_done es s)) (makes_same (adds 3 values ∷ []) edits (made.1))
    (good-adds s Indexes values h (not_held_user _ refl, tt) (λ n l. record {
      values = not_from_true (are_taken (column_tests Indexes) values)
          (and_from _ _ (number-in 1 2048 id (id_range.0) (omega (arith, high, count, all)))
          (and_from _ _ table.is_id (and_from _ _ (flag_is unique) (and_from _ _ named (and_from _ _ (positions_right (unwrap_or (column_named t c) 0) (columns_in t cs) low) refl)))));
      size = refl;
      free_key = refl;
      key = λ q r e v. both_ways (list_any (nat_eq id) used) new_id
          (ap (λ w. list_any (nat_eq (whole_number_of w)) used) (sym (first_same (value_at r 0) (number id) v)) ∙ index-among s q r h e);
      name = λ q r k e c v. both_ways (is_some (index_named name (catalog s))) no_name
          (index-there s name q r h e (ap (λ w. bytes_eq (text_of w) name) (third r k c v) ∙ bytes-self name));
      columns = λ rows. refl;
      other = refl;
      table_there = not_from_true (has_value_in 0 (number t.id) (rows_of 1 n (cells_of s)))
          (there-any (has_value 0 (number t.id)) 1 n (cells_of s) table.at table.row table.lies (ap (λ w. same_value w (number t.id)) table.value ∙ same_value-self (number t.id))
          (let less : table.at < bound s = full-below s table.at h (ap is_full table.lies) in omega (arith, less, l)));
      bookmark_there = refl;
      positions = λ p. ap (λ (rows : List PlacedRow). wrong_places (read_positions 0 (positions_text at)) (columns_with (number t.id) rows)) (rows_more 2 (bound s) n (cells_of s) (lies-below s h) l)
          ∙ places_right (unwrap_or (column_named t c) 0) (columns_in t cs) (own s t g found) low (all-there s t g found columns there) (none-twice s t g found columns there once);
      room = λ most e. subst (λ (x : ℕ). group_size n Indexes (row values) (cells_of s) < x) (some_limit 8 most e)
          (subst (λ (rows : List PlacedRow). count_by (λ (x : PlacedRow). same_values (values_at (1 ∷ []) (x.1)) (number t.id ∷ [])) rows < 8) (sym (rows_more 3 (bound s) n (cells_of s) (lies-below s h) l))
          (subst (λ (k : ℕ). k < 8) (sym (count-rows (λ (x : PlacedRow). same_values (values_at (1 ∷ []) (x.1)) (number t.id ∷ [])) 3 (bound s) (cells_of s)))
          (fewer_than s t.id seven)));
    }) g)
  where
    third : (r : Row) (k : List ℕ) → Some (3 ∷ []) ≡ Some k → values_at k r ≡ values_at k (row (index_values (least_unused 1 (map (λ (i : Index). i.id) (catalog s).indexes)) t.id unique name (columns_in t (c ∷ cs)))) →
        value_at r 3 ≡ Text name
    third r k e v =
        let same : 3 ∷ [] ≡ k = ap (λ o. unwrap_or o []) e in
        first_same (value_at r 3) (Text name)
        (ap (λ ks. values_at ks r) same ∙ (v ∙ ap (λ ks. values_at ks (row (index_values (least_unused 1 (map (λ (i : Index). i.id) (catalog s).indexes)) t.id unique name (columns_in t (c ∷ cs))))) (sym same)))

    fewer_than : (s : State) (id : ℕ) → count_by (λ (r : PlacedRow). number_at 1 r == id) (system_rows 3 s) < 8 →
        tally (has_at (λ (x : PlacedRow). same_values (values_at (1 ∷ []) (x.1)) (number id ∷ [])) 3 (cells_of s)) (numbers_below (bound s)) < 8
    fewer_than s id few =
        let more : tally (has_at (λ (x : PlacedRow). same_values (values_at (1 ∷ []) (x.1)) (number id ∷ [])) 3 (cells_of s)) (numbers_below (bound s))
        ≤ tally (has_at (λ (r : PlacedRow). number_at 1 r == id) 3 (cells_of s)) (numbers_below (bound s))
        = tally-fewer _ (has_at (λ (r : PlacedRow). number_at 1 r == id) 3 (cells_of s)) (numbers_below (bound s)) (λ q y.
        let x : (r : Row) × (cells_of s q ≡ Full 3 r) × (same_values (values_at (1 ∷ []) r) (number id ∷ []) ≡ true) = has-row (λ (x : PlacedRow). same_values (values_at (1 ∷ []) (x.1)) (number id ∷ [])) 3 (cells_of s) q y in
        row-has (λ (r : PlacedRow). number_at 1 r == id) 3 (cells_of s) q (x.0) (x.1)
        (eq-eqb (whole_number_of (value_at (x.0) 1)) id (ap whole_number_of (first_same (value_at (x.0) 1) (number id) (same-values (values_at (1 ∷ []) (x.0)) (number id ∷ []) (x.2)))))) in
        let e : count_by (λ (r : PlacedRow). number_at 1 r == id) (system_rows 3 s) ≡ tally (has_at (λ (r : PlacedRow). number_at 1 r == id) 3 (cells_of s)) (numbers_below (bound s)) = count-rows (λ (r : PlacedRow). number_at 1 r == id) 3 (bound s) (cells_of s) in
        omega (arith, few, more, e)

create_index_by : (session : ℕ) (s : State) (name : List ℕ) (columns : List (List ℕ)) (unique : Bool) (o : Option Table) (edits : List CellEdit) → IsSound s → is_name name ≡ true → 1 ≤ length columns →
    ((t : Table) → o ≡ Some t → IsTableRow s t.id × IsTableOf s t) → create_index session s name columns unique o ≡ Makes edits → HasGood s → HasGood (system_done edits s)
create_index_by session s name columns unique None edits h named some f m g = absurd (refuses_none _ _ edits m)
create_index_by session s name [] unique (Some t) edits h named some f m g = absurd (omega (arith, some))
create_index_by session s name (c ∷ cs) unique (Some t) edits h named some f m g = create_index_adds session s name c cs unique t edits h named ((f t refl).0) ((f t refl).1) m g

pub good-create_index : (session : ℕ) (s : State) (name table : List ℕ) (columns : List (List ℕ)) (unique : Bool) (edits : List CellEdit) → IsSound s → (is_name name ≡ true) × (1 ≤ length columns) →
    meant_by_create_index session s name table columns unique ≡ Makes edits → HasGood s → HasGood (system_done edits s)
unfolding meant_by_create_index
good-create_index session s name table columns unique edits h v m g =
    create_index_by session s name columns unique (table_named table (catalog s)) edits h (v.0) (v.1) (λ t e. (table-row s table t g e, table-of s table t e)) m g
