-- The line that creates an index makes a plain entry.
use Rattle.std.proofs.Common.{◌≡◌, ◌≤◌, ◌<◌, ◌+◌, ◌*◌, ◌^◌, ℕ, zero, suc, Bool, true, false, not, cond, ◌&&◌, nat_le, nat_lt, List, [], ◌∷◌, ◌++◌, map, length, Option, Some, None, unwrap_or, refl, ap, ◌∙◌, subst, arith, lit<, le_refl, true≢false, length-append}
use Rattle.std.specs.Prelude.{bytes_eq, is_some, IsUtf8}
use Rattle.std.specs.List.{cons_option, filter_map, join_with_byte, list_all}
use Rattle.std.specs.Ordering.{is_gt, nat_cmp}
use Rattle.std.specs.declared.cmp.Ordering.{Ordering}
use Rattle.tt_value.specs.Stored.{IsStorable, IsStorableValue}
use Rattle.tt_value.specs.declared.refusal.Refusal.{Refusal}
use Rattle.tt_value.specs.declared.refusal.Refusal.TheVariants.{DuplicateKey, NameThere, NoColumn, TooMany}
use Rattle.tt_value.specs.declared.value.Value.{Value}
use Rattle.tt_value.specs.declared.value.Value.TheVariants.{Text}
use Rattle.tt_parse.specs.declared.command.ColumnText.{ColumnText}
use Rattle.tt_record.specs.Entry.{IsTransaction}
use Rattle.tt_model.specs.Committed.{Cells}
use Rattle.tt_model.specs.Live.{numbers_from}
use Rattle.tt_model.specs.Tables.{Index, PlacedRow, Table, by_number, catalog_of, column_named, in_order, index_of, indexes_of, inserted, number_at, row_at, rows_of, table_named}
use Rattle.tt_model.specs.Meaning.{Makes, first_of, no_room, refused_if}
use Rattle.tt_model.specs.Ranges.{IsName}
use Rattle.tt_model.specs.System.{adds, columns_in, create_index, flag, has_twice, has_value_twice, in_transaction, index_name_there, least_unused, meant_by_create_index, number, open_on, position_digits, positions_text, row, system_rows}
use Rattle.tt_model.specs.State.{State, bound, catalog, cells_of}
use Rattle.tt_model.specs.declared.definition.CellEdit.{CellEdit}
use Rattle.tt_model.specs.WholeRuns.{Each}
use Rattle.tt_model.specs.Entries.{HasStorableTables, IsPlain, IsStorableTable}
use Rattle.tt_model.specs.Works.{changes}
use Rattle.tt_model.proofs.FewNames.{AllIn, mapped-length, named-columns, no_more, unused-low}
use Rattle.tt_model.proofs.FreePlaces.{not_refused}
use Rattle.tt_model.proofs.OneHolderStatements.{each-found}
use Rattle.tt_model.proofs.PlainBookmarks.{name-short, name-utf8, utf8-low}
use Rattle.tt_model.proofs.PlainRows.{added-plain, storable-pos, system-row}
use Rattle.tt_model.proofs.PlainSystem.{free_low}
use Rattle.tt_model.proofs.StatementLemmas.{AllNone, each_none, makes_same, unless-makes}
use Rattle.tt_model.proofs.StorableCells.{IsStored}
use Rattle.tt_model.proofs.SystemLines.{refuses_none}
use Rattle.tt_model.proofs.WorkEntries.{each-append}

-- ---- how many rows there are

inserted_one : {X : Type 0} (cmp : X → X → Ordering) (x : X) (ys : List X) → length (inserted cmp x ys) ≡ suc (length ys)
inserted_one cmp x [] = refl
inserted_one {X} cmp x (y ∷ ys) = by (is_gt (cmp x y)) (inserted_one cmp x ys)
  where
    by : (c : Bool) → length (inserted cmp x ys) ≡ suc (length ys) → length (cond c (y ∷ inserted cmp x ys) (x ∷ y ∷ ys)) ≡ suc (suc (length ys))
    by true ih = ap suc ih
    by false ih = refl

pub ordered-length : {X : Type 0} (cmp : X → X → Ordering) (xs : List X) → length (in_order cmp xs) ≡ length xs
ordered-length cmp [] = refl
ordered-length cmp (x ∷ xs) = inserted_one cmp x (in_order cmp xs) ∙ ap suc (ordered-length cmp xs)

cons_length : {X : Type 0} (o : Option X) (xs : List X) → length (cons_option o xs) ≤ suc (length xs)
cons_length None xs = omega arith
cons_length (Some x) xs = le_refl (suc (length xs))

few_found : {X : Type 0} (f : ℕ → Option X) (n from : ℕ) → length (filter_map f (numbers_from n from)) ≤ n
few_found f zero from = le_refl 0
few_found f (suc n) from =
    let ih : length (filter_map f (numbers_from n (suc from))) ≤ n = few_found f n (suc from) in
    let one : length (cons_option (f from) (filter_map f (numbers_from n (suc from)))) ≤ suc (length (filter_map f (numbers_from n (suc from)))) = cons_length (f from) (filter_map f (numbers_from n (suc from))) in
    omega (arith, ih, one)

pub few-rows : (table bound : ℕ) (cells : Cells) → length (rows_of table bound cells) ≤ bound
unfolding rows_of
few-rows table bound cells = few_found (row_at table cells) bound 0

few_indexes : (s : State) → length (catalog s).indexes ≤ bound s
unfolding catalog_of
few_indexes s =
    let rows : List PlacedRow = rows_of 3 (bound s) (cells_of s) in
    let mapped : length (map index_of (by_number 0 rows)) ≡ length (by_number 0 rows) = mapped-length index_of (by_number 0 rows) in
    let ordered : length (by_number 0 rows) ≡ length rows = ordered-length (λ a b. nat_cmp (number_at 0 a) (number_at 0 b)) rows in
    let few : length rows ≤ bound s = few-rows 3 (bound s) (cells_of s) in
    omega (arith, mapped, ordered, few)

-- ---- positions as a text

digits_so : (n : ℕ) (c : Bool) → nat_lt n 10 ≡ c → n ≤ 16 → (length (cond c ((48 + n) ∷ []) (49 ∷ (38 + n) ∷ [])) ≤ 2) × Each (λ b. b < 128) (cond c ((48 + n) ∷ []) (49 ∷ (38 + n) ∷ []))
digits_so n true e few = (omega arith, (omega (arith, few), tt))
digits_so n false e few = (omega arith, (omega arith, (omega (arith, few), tt)))

digits : (n : ℕ) → n ≤ 16 → (length (position_digits n) ≤ 2) × Each (λ b. b < 128) (position_digits n)
digits n few = digits_so n (nat_lt n 10) refl few

abbrev IsPiece : List ℕ → Type 0
IsPiece p = (length p ≤ 2) × Each (λ b. b < 128) p

joined : (ps : List (List ℕ)) → Each IsPiece ps → (length (join_with_byte 44 ps) ≤ 3 * length ps) × Each (λ b. b < 128) (join_with_byte 44 ps)
joined [] h = (omega arith, tt)
joined (x ∷ []) h = let few : length x ≤ 2 = (h.0).0 in (omega (arith, few), (h.0).1)
joined (x ∷ y ∷ xs) h =
    let rest : (length (join_with_byte 44 (y ∷ xs)) ≤ 3 * length (y ∷ xs)) × Each (λ b. b < 128) (join_with_byte 44 (y ∷ xs)) = joined (y ∷ xs) (h.1) in
    let few : length x ≤ 2 = (h.0).0 in
    let more : length (join_with_byte 44 (y ∷ xs)) ≤ 3 * length (y ∷ xs) = rest.0 in
    let count : length (x ++ (44 ∷ join_with_byte 44 (y ∷ xs))) ≡ length x + length (44 ∷ join_with_byte 44 (y ∷ xs)) = length-append x (44 ∷ join_with_byte 44 (y ∷ xs)) in
    (omega (arith, few, more, count), each-append (λ b. b < 128) x (44 ∷ join_with_byte 44 (y ∷ xs)) ((h.0).1) (omega arith, rest.1))

pieces : (cs : List ℕ) → Each (λ c. c < 16) cs → Each IsPiece (map (λ c. position_digits (suc c)) cs)
pieces [] h = tt
pieces (c ∷ cs) h = let low : c < 16 = h.0 in (digits (suc c) (omega (arith, low)), pieces cs (h.1))

low_positions : (t : Table) (names : List (List ℕ)) → length t.columns ≤ 16 → Each (λ name. unwrap_or (column_named t name) 0 < length t.columns) names → Each (λ c. c < 16) (columns_in t names)
low_positions t [] few h = tt
low_positions t (name ∷ names) few h = let low : unwrap_or (column_named t name) 0 < length t.columns = h.0 in (omega (arith, low, few), low_positions t names few (h.1))

text_storable : (cs : List ℕ) → length cs ≤ 16 → Each (λ c. c < 16) cs → (length (positions_text cs) ≤ 48) × IsUtf8 (positions_text cs)
text_storable cs few low =
    let text = joined (map (λ c. position_digits (suc c)) cs) (pieces cs low) in
    let short : length (positions_text cs) ≤ 3 * length (map (λ c. position_digits (suc c)) cs) = text.0 in
    let count : length (map (λ c. position_digits (suc c)) cs) ≡ length cs = mapped-length (λ c. position_digits (suc c)) cs in
    (omega (arith, short, count, few), utf8-low (positions_text cs) (text.1))

-- ---- the row

pub flag_storable : (c : Bool) → IsStorableValue (flag c)
flag_storable true = storable-pos 1 (lit< tt)
flag_storable false = storable-pos 0 (lit< tt)

index_row : (id table : ℕ) (unique : Bool) (name text : List ℕ) → id < 2 ^ 63 → table < 2 ^ 63 → length name ≤ 30 → IsUtf8 name → length text ≤ 48 → IsUtf8 text →
    IsStorable (row (number id ∷ number table ∷ flag unique ∷ Text name ∷ Text text ∷ []))
index_row id table true name text a b short utf8 few utf8_text =
    system-row (number id ∷ number table ∷ number 1 ∷ Text name ∷ Text text ∷ []) (lit< tt) (lit< tt)
    (storable-pos id a, (storable-pos table b, (flag_storable true, ((omega (arith, short), utf8), ((omega (arith, few), utf8_text), tt))))) (omega (arith, short, few))
index_row id table false name text a b short utf8 few utf8_text =
    system-row (number id ∷ number table ∷ number 0 ∷ Text name ∷ Text text ∷ []) (lit< tt) (lit< tt)
    (storable-pos id a, (storable-pos table b, (flag_storable false, ((omega (arith, short), utf8), ((omega (arith, few), utf8_text), tt))))) (omega (arith, short, few))

pub not_so : (c : Bool) → not c ≡ false → c ≡ true
not_so true h = refl
not_so false h = absurd (true≢false h)

create_plain : (session : ℕ) (s : State) (name : List ℕ) (columns : List (List ℕ)) (unique : Bool) (o : Option Table) (edits : List CellEdit) (n : ℕ) → ((t : Table) → o ≡ Some t → IsStorableTable t) → IsName name →
    IsTransaction n → IsStored s → create_index session s name columns unique o ≡ Makes edits → Each IsPlain (changes n edits s)
create_plain session s name columns unique None edits n tables is transaction h m = absurd (refuses_none _ _ edits m)
create_plain session s name columns unique (Some t) edits n tables is transaction h m =
    let id : ℕ = least_unused 1 (map (λ (i : Index). i.id) (catalog s).indexes) in
    let values : List Value = number id ∷ number t.id ∷ flag unique ∷ Text name ∷ Text (positions_text (columns_in t columns)) ∷ [] in
    let there : Bool = list_all (λ c. is_some (column_named t c)) columns in
    let tests : List (Option Refusal) = in_transaction session s ∷ index_name_there (catalog s) name ∷ refused_if (not there) NoColumn ∷ refused_if (has_twice columns) NameThere
    ∷ refused_if (nat_le 8 (length (indexes_of t (catalog s)))) (TooMany 8) ∷ open_on t.id s ∷ refused_if (unique && has_value_twice (columns_in t columns) (system_rows t.id s)) DuplicateKey ∷ no_room 1 s ∷ [] in
    let parts : (first_of tests ≡ None) × (Makes (adds 3 values ∷ []) ≡ Makes edits) = unless-makes (first_of tests) (Makes (adds 3 values ∷ [])) edits m in
    let passed : AllNone tests = each_none tests (parts.0) in
    let table : IsStorableTable t = tables t refl in
    let named : AllIn (map (λ (c : ColumnText). c.name) t.columns) columns × Each (λ name. unwrap_or (column_named t name) 0 < length t.columns) columns
    = named-columns t.columns columns (not_so there (not_refused (not there) NoColumn (((passed.1).1).0))) in
    let few : length columns ≤ length (map (λ (c : ColumnText). c.name) t.columns) = no_more columns (map (λ (c : ColumnText). c.name) t.columns) (not_refused (has_twice columns) NameThere ((((passed.1).1).1).0)) (named.0) in
    let count : length (map (λ (c : ColumnText). c.name) t.columns) ≡ length t.columns = mapped-length (λ (c : ColumnText). c.name) t.columns in
    let counted : length (columns_in t columns) ≡ length columns = mapped-length (λ c. unwrap_or (column_named t c) 0) columns in
    let most : length t.columns ≤ 16 = table.few in
    let text = text_storable (columns_in t columns) (omega (arith, few, count, counted, most)) (low_positions t columns most (named.1)) in
    let unused : id ≤ 1 + length (map (λ (i : Index). i.id) (catalog s).indexes) = unused-low 1 (map (λ (i : Index). i.id) (catalog s).indexes) in
    let ids : length (map (λ (i : Index). i.id) (catalog s).indexes) ≡ length (catalog s).indexes = mapped-length (λ (i : Index). i.id) (catalog s).indexes in
    let indexes : length (catalog s).indexes ≤ bound s = few_indexes s in
    let pages : s.pages ≤ 65536 = h.pages in
    let low : t.id < 2 ^ 32 = table.id in
    subst (λ (es : List CellEdit). Each IsPlain (changes n es s)) (makes_same (adds 3 values ∷ []) edits (parts.1))
    (added-plain 3 n values s (lit< tt) (lit< tt) transaction
    (index_row id t.id unique name (positions_text (columns_in t columns)) (omega (arith, unused, ids, indexes, pages)) (omega (arith, low)) (name-short name is) (name-utf8 name is) (text.0) (text.1))
    (free_low s h ((((((((passed.1).1).1).1).1).1).1).0)))

pub create_index-plain : (session : ℕ) (s : State) (name table : List ℕ) (columns : List (List ℕ)) (unique : Bool) (edits : List CellEdit) (n : ℕ) → IsName name → HasStorableTables s → IsTransaction n → IsStored s →
    meant_by_create_index session s name table columns unique ≡ Makes edits → Each IsPlain (changes n edits s)
unfolding meant_by_create_index
create_index-plain session s name table columns unique edits n is tables transaction h m =
    create_plain session s name columns unique (table_named table (catalog s)) edits n (λ t found. each-found IsStorableTable (λ t. bytes_eq t.name table) t (catalog s).tables tables found) is transaction h m
