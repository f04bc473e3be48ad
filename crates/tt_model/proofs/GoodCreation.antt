-- The line that creates a table leaves a good catalog.
use Rattle.std.proofs.Common.{◌≡◌, ◌<◌, ◌≤◌, ◌+◌, inl, inr, ℕ, suc, Bool, true, false, cond, nat_eq, filter, map, List, [], ◌∷◌, Option, length, refl, sym, ap, ◌∙◌, subst, arith, true≢false}
use Rattle.std.proofs.lemmas.Bool.{leb-false, ltb-false, or_parts, both_ways, not-false}
use Rattle.std.specs.Prelude.{nat_le, nat_lt, not, bytes_eq, count_by, is_some}
use Rattle.std.specs.List.{list_any, list_all}
use Rattle.tt_value.specs.Ident.{is_name}
use Rattle.tt_value.specs.Same.{same_value}
use Rattle.tt_value.specs.declared.value.Value.TheVariants.{Text}
use Rattle.tt_value.specs.declared.value.Row.{Row}
use Rattle.tt_value.specs.declared.value.Cell.TheVariants.{Empty, Full}
use Rattle.tt_value.specs.declared.refusal.Refusal.{Refusal}
use Rattle.tt_value.specs.declared.refusal.Refusal.TheVariants.{NameThere, NoColumn, TooMany}
use Rattle.tt_parse.specs.declared.command.ColumnText.{ColumnText}
use Rattle.tt_parse.specs.declared.command.Command.TheVariants.{CreateTable}
use Rattle.tt_record.specs.declared.entry.Entry.TheVariants.{Commit}
use Rattle.tt_model.specs.Committed.{Cells, put}
use Rattle.tt_model.specs.Holders.{value_at}
use Rattle.tt_model.specs.Tables.{Table, PlacedRow, rows_of, table_named}
use Rattle.tt_model.specs.State.{State, next, cells_of, bound, catalog, free_place, with_entry, with_edit, with_edits, all_forced}
use Rattle.tt_model.specs.declared.definition.CellEdit.{CellEdit}
use Rattle.tt_model.specs.Meaning.{Makes, first_of, refused_if, no_room}
use Rattle.tt_model.specs.System.{number, adds, column_rows, in_transaction, least_unused, has_twice, key_position, meant_by_create_table}
use Rattle.tt_model.specs.Step.{forced_where, system_done}
use Rattle.tt_model.specs.Sound.{IsSound, MayWrite}
use Rattle.tt_model.specs.Ranges.{HasRanges, IsColumn}
use Rattle.tt_model.specs.WholeRuns.{Each}
use Rattle.tt_model.specs.Damage.{is_table_id, columns_with}
use Rattle.tt_model.proofs.AppendLemmas.{cells-Commit}
use Rattle.tt_model.proofs.IsolationLemmas.{full-below}
use Rattle.tt_model.proofs.StatementLemmas.{unless-makes, makes_same, each_none}
use Rattle.tt_model.proofs.CatalogLemmas.{LeaveUserTables}
use Rattle.tt_model.proofs.SoundLemmas.{LogOf, log-Change}
use Rattle.tt_model.proofs.SoundLines.{own_live-with_edit, sound-system_done}
use Rattle.tt_model.proofs.LineLemmas.{create_table-new}
use Rattle.tt_model.proofs.EditLemmas.{AreNew}
use Rattle.tt_model.proofs.SystemLines.{not_refused}
use Rattle.tt_model.proofs.TableLines.{least_unused-new}
use Rattle.tt_model.proofs.BookmarkLemmas.{seen_by, cells_forced}
use Rattle.tt_model.proofs.BookmarkLines.{may_new}
use Rattle.tt_model.proofs.GoodPlaces.{any-none}
use Rattle.tt_model.proofs.GoodCells.{IsGood, IsGoodBut, rows_more, LiesBelow}
use Rattle.tt_model.proofs.GoodRemovals.{wrong_own}
use Rattle.tt_model.proofs.GoodEdits.{seen_edit, seen_first}
use Rattle.tt_model.proofs.GoodDeletes.{HasGood, good-lift, lies-below}
use Rattle.tt_model.proofs.GoodTaken.{number-in}
use Rattle.tt_model.proofs.GoodNumbers.{least_unused-range}
use Rattle.tt_model.proofs.GoodKeys.{Names, no-more, key_position-most}
use Rattle.tt_model.proofs.GoodNewColumns.{new_rows, is_new, IsUnderway, HasColumns, own_count, columns-put, may-add, free-seen, bound-grows, place-below}
use Rattle.tt_model.proofs.GoodNewTable.{names_of, own-right}
use Rattle.tt_model.proofs.GoodTables.{length-tables, length-ids, table-among, table-named, IsFresh, fresh-by, new, after, good_table, underway, no_columns, strengthen}

filter_zero_step : {X : Type 0} (f g : X → Bool) (x : X) (xs : List X) → count_by f (filter g xs) ≡ 0 → (b : Bool) → b ≡ false → count_by f (cond b (x ∷ filter g xs) (filter g xs)) ≡ 0
filter_zero_step f g x xs ih true e = absurd (true≢false e)
filter_zero_step f g x xs ih false e = ih

filter_zero : {X : Type 0} (f g : X → Bool) (xs : List X) → list_any g xs ≡ false → count_by f (filter g xs) ≡ 0
filter_zero f g [] h = refl
filter_zero f g (x ∷ xs) h =
    let parts : (g x ≡ false) × (list_any g xs ≡ false) = or_parts (g x) (list_any g xs) h in filter_zero_step f g x xs (filter_zero f g xs (parts.1)) (g x) (parts.0)

bound_forced : (b : Bool) (t : ℕ) (s : State) → bound (forced_where b (with_entry (Commit t) s)) ≡ bound s
unfolding with_entry all_forced
bound_forced true t s = refl
bound_forced false t s = refl

length_names : (cs : List ColumnText) → length (names_of cs) ≡ length cs
length_names [] = refl
length_names (c ∷ cs) = ap (λ k. suc k) (length_names cs)

abbrev table_edits : ℕ → List ℕ → List ColumnText → Names → List CellEdit
table_edits id name columns key = adds 1 (number id ∷ Text name ∷ []) ∷ column_rows id key 1 columns

-- What the tests of the line found.
record IsTested (s : State) (name : List ℕ) (columns : List ColumnText) (key : Names) (id : ℕ) : Type 0 where
  unnamed : is_some (table_named name (catalog s)) ≡ false
  few : length columns ≤ 16
  once : has_twice (names_of columns) ≡ false
  there : list_all (λ k. list_any (bytes_eq k) (names_of columns)) key ≡ true
  keys : has_twice key ≡ false
  room : length (catalog s).tables < 256
  id_is : id ≡ least_unused 16 (map (λ (t : Table). t.id) (catalog s).tables)

create_table_makes : (s : State) (name : List ℕ) (columns : List ColumnText) (key : Names) (id : ℕ) → IsSound s → is_name name ≡ true → Each IsColumn columns → 1 ≤ length key → IsTested s name columns key id →
    AreNew (table_edits id name columns key) → LeaveUserTables (table_edits id name columns key) → HasGood s → HasGood (system_done (table_edits id name columns key) s)
create_table_makes s name columns key id h named each some tested are_new leave g =
    let t : ℕ = next s in
    let e : CellEdit = adds 1 (number id ∷ Text name ∷ []) in
    let rows : List CellEdit = column_rows id key 1 columns in
    let one : State = with_edit t e s in
    let made : State = with_edits t (e ∷ rows) s in
    let done : State = system_done (e ∷ rows) s in
    let ids : List ℕ = map (λ (t : Table). t.id) (catalog s).tables in
    let sound : IsSound done = sound-system_done e rows s h leave (may_new s (e ∷ rows) h are_new) in
    let writes : MayWrite t s = inr refl in
    let p : ℕ = free_place s in
    let unused : list_any (nat_eq id) ids ≡ false = ap (λ k. list_any (nat_eq k) ids) tested.id_is ∙ least_unused-new 16 ids in
    let range = least_unused-range 16 ids in
    let low_id : 16 ≤ id = subst (λ (k : ℕ). 16 ≤ k) (sym tested.id_is) (range.0) in
    let high_id : id ≤ 16 + length ids = subst (λ (k : ℕ). k ≤ 16 + length ids) (sym tested.id_is) (range.1) in
    let fewer : length ids ≡ length (catalog s).tables = length-ids s in
    let room : length (catalog s).tables < 256 = tested.room in
    let is_id : is_table_id (number id) ≡ true = number-in 16 271 id low_id (omega (arith, high_id, fewer, room)) in
    let few : length columns ≤ 16 = tested.few in
    let of_names : length key ≤ length (names_of columns) = no-more key (names_of columns) tested.keys tested.there in
    let names_few : length (names_of columns) ≡ length columns = length_names columns in
    let key_few : (x : List ℕ) → key_position key x ≤ 16 = λ x. let most : key_position key x ≤ length key = key_position-most key x in omega (arith, most, of_names, names_few, few) in
    let cells_done : cells_of done ≡ seen_by t made = cells_forced s.settings.durable_commits (with_entry (Commit t) made) ∙ cells-Commit t made in
    let bound_done : bound done ≡ bound made = bound_forced s.settings.durable_commits t made in
    good-lift s done h sound (λ n l m k.
    let c : Cells = cells_of s in
    let below : LiesBelow n c = λ q f. let less : q < bound s = full-below s q h f in omega (arith, less, l) in
    let free : c p ≡ Empty = ap (λ (x : Cells). x p) (sym (seen_first s)) ∙ free-seen t s h.entries writes in
    let here : p < bound one = place-below t e s in
    let grows : bound one ≤ bound made = bound-grows t rows one in
    let low : p < n = omega (arith, here, grows, bound_done, m) in
    let fresh : IsFresh id n c = fresh-by id n c k (λ q r lies v. both_ways (list_any (nat_eq id) ids) unused (table-among s id q r h lies v)) in
    let count : count_by (λ (x : PlacedRow). true) (rows_of 1 n c) < 256
    = subst (λ (xs : List PlacedRow). count_by (λ (x : PlacedRow). true) xs < 256) (sym (rows_more 1 (bound s) n c (lies-below s h) l)) (subst (λ (x : ℕ). x < 256) (length-tables s) room) in
    let table : IsGoodBut (is_new id) n (after id n p name c fresh free low)
    = good_table id n p name c fresh free low below is_id named (λ q r lies v. both_ways (is_some (table_named name (catalog s))) tested.unnamed (table-named s name q r h lies v)) count k in
    let first : after id n p name c fresh free low ≡ seen_by t one = sym (seen_edit t e s ∙ ap (put p (Full 1 (new id n p name c fresh free low))) (seen_first s)) in
    let log : LogOf one = log-Change t p Empty e.after s h.entries writes (may-add t s h.entries writes) in
    let columns_are : HasColumns id n key is_id key_few 1 columns (seen_by t one) (seen_by t made)
    = columns-put id n key is_id key_few t 1 columns one log (inl (own_live-with_edit t e s)) (omega (arith, bound_done, m)) (omega arith) (omega (arith, few)) each
    (subst (IsUnderway id 1 n) first (underway id n p name c fresh free low)) (subst (IsGoodBut (is_new id) n) first table) in
    let none : (f : Row → Bool) → own_count id n key is_id key_few f (seen_by t one) ≡ 0
    = λ f. subst (λ (d : Cells). own_count id n key is_id key_few f d ≡ 0) first
    (filter_zero (λ (x : PlacedRow). f (x.1)) (λ (r : PlacedRow). same_value (value_at (r.1) 0) (number id)) (rows_of 2 n (after id n p name c fresh free low))
    (any-none (λ (r : PlacedRow). same_value (value_at (r.1) 0) (number id)) 2 n (after id n p name c fresh free low) (no_columns id n p name c fresh free low))) in
    let own : List PlacedRow = columns_with (number id) (rows_of 2 n (seen_by t made)) in
    let same : (f : Row → Bool) → count_by (λ (x : PlacedRow). f (x.1)) own ≡ count_by f (new_rows id key 1 columns)
    = λ f. columns_are.counts f ∙ (let zero_own : own_count id n key is_id key_few f (seen_by t one) ≡ 0 = none f in omega (arith, zero_own)) in
    let right : wrong_own own ≡ false = own-right id key columns own same few tested.once tested.there tested.keys some in
    subst (λ (x : Cells). IsGood n x) (sym cells_done) (strengthen id n (seen_by t made) right columns_are.good)) g

pub good-create_table : (session : ℕ) (s : State) (name : List ℕ) (columns : List ColumnText) (key : List (List ℕ)) (edits : List CellEdit) → IsSound s → HasRanges (CreateTable name columns key) →
    meant_by_create_table session s name columns key ≡ Makes edits → HasGood s → HasGood (system_done edits s)
unfolding meant_by_create_table
good-create_table session s name columns key edits h v m g =
    let id : ℕ = least_unused 16 (map (λ (t : Table). t.id) (catalog s).tables) in
    let tests : List (Option Refusal) = in_transaction session s
    ∷ refused_if (is_some (table_named name (catalog s))) NameThere
    ∷ refused_if (nat_lt 16 (length columns)) (TooMany 16)
    ∷ refused_if (has_twice (names_of columns)) NameThere
    ∷ refused_if (not (list_all (λ k. list_any (bytes_eq k) (names_of columns)) key)) NoColumn
    ∷ refused_if (has_twice key) NameThere
    ∷ refused_if (nat_le 256 (length (catalog s).tables)) (TooMany 256)
    ∷ no_room (1 + length columns) s
    ∷ [] in
    let made = unless-makes (first_of tests) (Makes (table_edits id name columns key)) edits m in
    let passed = each_none tests (made.0) in
    let same : table_edits id name columns key ≡ edits = makes_same (table_edits id name columns key) edits (made.1) in
    let are = create_table-new session s name columns key edits m in
    let rest3 = ((passed.1).1).1 in
    let rest5 = (rest3.1).1 in
    subst (λ (es : List CellEdit). HasGood (system_done es s)) same
    (create_table_makes s name columns key id h (v.0) (v.2) (v.3) (record {
      unnamed = not_refused (is_some (table_named name (catalog s))) NameThere ((passed.1).0);
      few = ltb-false 16 (length columns) (not_refused (nat_lt 16 (length columns)) (TooMany 16) (((passed.1).1).0));
      once = not_refused (has_twice (names_of columns)) NameThere (rest3.0);
      there = not-false (list_all (λ k. list_any (bytes_eq k) (names_of columns)) key) (not_refused (not (list_all (λ k. list_any (bytes_eq k) (names_of columns)) key)) NoColumn ((rest3.1).0));
      keys = not_refused (has_twice key) NameThere (rest5.0);
      room = leb-false 256 (length (catalog s).tables) (not_refused (nat_le 256 (length (catalog s).tables)) (TooMany 256) ((rest5.1).0));
      id_is = refl;
    }) (subst AreNew (sym same) (are.1)) (subst LeaveUserTables (sym same) (are.2)) g)
