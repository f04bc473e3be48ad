-- The line that creates a table makes plain entries.
use Rattle.std.proofs.Common.{◌≡◌, ◌≤◌, ◌<◌, ◌+◌, ◌*◌, ◌^◌, ℕ, suc, Bool, true, false, not, ◌||◌, nat_le, nat_lt, List, [], ◌∷◌, map, length, Option, Some, None, unwrap_or, refl, ap, subst, arith, lit<}
use Rattle.std.proofs.lemmas.Bool.{and_parts, ltb-false, leb-false}
use Rattle.std.proofs.lemmas.List.Quantifiers.{position-Some}
use Rattle.std.specs.Prelude.{◌==◌, bytes_eq, is_some, option_map, position}
use Rattle.std.specs.List.{list_all, list_any}
use Rattle.tt_value.specs.Stored.{IsStorable}
use Rattle.tt_value.specs.declared.refusal.Refusal.{Refusal}
use Rattle.tt_value.specs.declared.refusal.Refusal.TheVariants.{NameThere, NoColumn, PermFull, TooMany}
use Rattle.tt_value.specs.declared.value.Value.{Value}
use Rattle.tt_value.specs.declared.value.Value.TheVariants.{Text}
use Rattle.tt_value.specs.declared.value.ColumnType.{ColumnType}
use Rattle.tt_value.specs.declared.value.ColumnType.TheVariants.{BigInt, Varchar, Number as NumberOf}
use Rattle.tt_parse.specs.declared.command.ColumnText.{ColumnText}
use Rattle.tt_record.specs.Entry.{IsTransaction}
use Rattle.tt_model.specs.Tables.{Table, table_named}
use Rattle.tt_model.specs.Meaning.{Makes, first_of, no_room, refused_if}
use Rattle.tt_model.specs.Ranges.{IsColumn, IsName, IsType}
use Rattle.tt_model.specs.System.{adds, column_rows, create_table_edits, flag, has_twice, in_transaction, key_position, least_unused, meant_by_create_table, number, row, type_number, type_size}
use Rattle.tt_model.specs.State.{State, catalog, used_count}
use Rattle.tt_model.specs.declared.definition.CellEdit.{CellEdit}
use Rattle.tt_model.specs.Sound.{IsSound, MayWrite}
use Rattle.tt_model.specs.WholeRuns.{Each}
use Rattle.tt_model.specs.Entries.{IsPlain}
use Rattle.tt_model.specs.Works.{changes}
use Rattle.tt_model.proofs.FewNames.{AllIn, mapped-length, no_more, unused-low}
use Rattle.tt_model.proofs.FreePlaces.{not_refused}
use Rattle.tt_model.proofs.PlainBookmarks.{name-short, name-utf8}
use Rattle.tt_model.proofs.PlainIndexes.{flag_storable, not_so}
use Rattle.tt_model.proofs.PlainRows.{storable-pos, system-row}
use Rattle.tt_model.proofs.StatementLemmas.{AllNone, each_none, makes_same, unless-makes}
use Rattle.tt_model.proofs.StorableCells.{IsStored}
use Rattle.tt_model.proofs.UsedCounts.{IsNewEdit, news-plain}

-- ---- rows

new_row : (table : ℕ) (values : List Value) → 1 ≤ table → table < 16 → IsStorable (row values) → IsNewEdit (adds table values)
new_row table values some low storable = (record { before = tt; after = (some, omega (arith, low), storable); table = refl }, refl, refl)

table_row : (id : ℕ) (name : List ℕ) → id < 2 ^ 63 → IsName name → IsStorable (row (number id ∷ Text name ∷ []))
table_row id name low is =
    let short : length name ≤ 30 = name-short name is in
    system-row (number id ∷ Text name ∷ []) (lit< tt) (lit< tt) (storable-pos id low, ((omega (arith, short), name-utf8 name is), tt)) (omega (arith, short))

column_row : (id n kind size key : ℕ) (required : Bool) (name : List ℕ) → id < 2 ^ 63 → n < 2 ^ 63 → kind < 2 ^ 63 → size < 2 ^ 63 → key < 2 ^ 63 → IsName name →
    IsStorable (row (number id ∷ number n ∷ number kind ∷ number size ∷ flag required ∷ number key ∷ Text name ∷ []))
column_row id n kind size key true name a b c d e is =
    let short : length name ≤ 30 = name-short name is in
    system-row (number id ∷ number n ∷ number kind ∷ number size ∷ number 1 ∷ number key ∷ Text name ∷ []) (lit< tt) (lit< tt)
    (storable-pos id a, (storable-pos n b, (storable-pos kind c, (storable-pos size d, (flag_storable true, (storable-pos key e, ((omega (arith, short), name-utf8 name is), tt))))))) (omega (arith, short))
column_row id n kind size key false name a b c d e is =
    let short : length name ≤ 30 = name-short name is in
    system-row (number id ∷ number n ∷ number kind ∷ number size ∷ number 0 ∷ number key ∷ Text name ∷ []) (lit< tt) (lit< tt)
    (storable-pos id a, (storable-pos n b, (storable-pos kind c, (storable-pos size d, (flag_storable false, (storable-pos key e, ((omega (arith, short), name-utf8 name is), tt))))))) (omega (arith, short))

kind_low : (kind : ColumnType) → type_number kind < 2 ^ 63
kind_low BigInt = lit< tt
kind_low (Varchar most) = lit< tt
kind_low (NumberOf scale) = lit< tt

size_low : (kind : ColumnType) → IsType kind → type_size kind < 2 ^ 63
size_low BigInt type = lit< tt
size_low (Varchar most) type = let few : most ≤ 200 = type.1 in omega (arith, few)
size_low (NumberOf scale) type = omega (arith, type)

position_low : (p : List ℕ → Bool) (key : List (List ℕ)) (o : Option ℕ) → position p key ≡ o → unwrap_or (option_map suc o) 0 ≤ length key
position_low p key None e = omega arith
position_low p key (Some i) e = let found = position-Some p key i [] e in let low : i < length key = found.0 in omega (arith, low)

columns_new : (id : ℕ) (key : List (List ℕ)) (n : ℕ) (columns : List ColumnText) → id < 2 ^ 63 → length key ≤ 16 → n + length columns ≤ 100 → Each IsColumn columns → Each IsNewEdit (column_rows id key n columns)
columns_new id key n [] a few count h = tt
columns_new id key n (c ∷ cs) a few count h =
    let low : key_position key c.name ≤ length key = position_low (bytes_eq c.name) key (position (bytes_eq c.name) key) refl in (
      new_row 2 (number id ∷ number n ∷ number (type_number c.kind) ∷ number (type_size c.kind) ∷ flag (c.required || not (key_position key c.name == 0)) ∷ number (key_position key c.name) ∷ Text c.name ∷ []) (lit< tt) (lit< tt)
          (column_row id n (type_number c.kind) (type_size c.kind) (key_position key c.name) (c.required || not (key_position key c.name == 0)) c.name a (omega (arith, count)) (kind_low c.kind) (size_low c.kind ((h.0).1))
          (omega (arith, low, few)) ((h.0).0)),
      columns_new id key (suc n) cs a few (omega (arith, count)) (h.1),
    )

columns_count : (id : ℕ) (key : List (List ℕ)) (n : ℕ) (columns : List ColumnText) → length (column_rows id key n columns) ≡ length columns
columns_count id key n [] = refl
columns_count id key n (c ∷ cs) = ap suc (columns_count id key (suc n) cs)

all_in : (names key : List (List ℕ)) → list_all (λ k. list_any (bytes_eq k) names) key ≡ true → AllIn names key
all_in names [] h = tt
all_in names (k ∷ key) h =
    let parts : (list_any (bytes_eq k) names ≡ true) × (list_all (λ k. list_any (bytes_eq k) names) key ≡ true) = and_parts (list_any (bytes_eq k) names) (list_all (λ k. list_any (bytes_eq k) names) key) h in
    (parts.0, all_in names key (parts.1))

-- ---- the line

pub create_table-plain : (session : ℕ) (s : State) (name : List ℕ) (columns : List ColumnText) (key : List (List ℕ)) (edits : List CellEdit) (n : ℕ) → IsName name → Each IsColumn columns →
    IsSound s → MayWrite n s → IsTransaction n → IsStored s → meant_by_create_table session s name columns key ≡ Makes edits → Each IsPlain (changes n edits s)
unfolding meant_by_create_table
create_table-plain session s name columns key edits n is ranges sound may transaction h m =
    let names : List (List ℕ) = map (λ (c : ColumnText). c.name) columns in
    let ids : List ℕ = map (λ (t : Table). t.id) (catalog s).tables in
    let id : ℕ = least_unused 16 ids in
    let there : Bool = list_all (λ k. list_any (bytes_eq k) names) key in
    let tests : List (Option Refusal) = in_transaction session s ∷ refused_if (is_some (table_named name (catalog s))) NameThere ∷ refused_if (nat_lt 16 (length columns)) (TooMany 16) ∷ refused_if (has_twice names) NameThere
    ∷ refused_if (not there) NoColumn ∷ refused_if (has_twice key) NameThere ∷ refused_if (nat_le 256 (length (catalog s).tables)) (TooMany 256) ∷ no_room (1 + length columns) s ∷ [] in
    let parts : (first_of tests ≡ None) × (Makes (create_table_edits (catalog s) name columns key) ≡ Makes edits) = unless-makes (first_of tests) (Makes (create_table_edits (catalog s) name columns key)) edits m in
    let passed : AllNone tests = each_none tests (parts.0) in
    let few : length columns ≤ 16 = ltb-false 16 (length columns) (not_refused (nat_lt 16 (length columns)) (TooMany 16) (((passed.1).1).0)) in
    let inside : AllIn names key = all_in names key (not_so there (not_refused (not there) NoColumn (((((passed.1).1).1).1).0))) in
    let keys : length key ≤ length names = no_more key names (not_refused (has_twice key) NameThere ((((((passed.1).1).1).1).1).0)) inside in
    let named : length names ≡ length columns = mapped-length (λ (c : ColumnText). c.name) columns in
    let tables : length (catalog s).tables < 256 = leb-false 256 (length (catalog s).tables) (not_refused (nat_le 256 (length (catalog s).tables)) (TooMany 256) (((((((passed.1).1).1).1).1).1).0)) in
    let unused : id ≤ 16 + length ids = unused-low 16 ids in
    let counted : length ids ≡ length (catalog s).tables = mapped-length (λ (t : Table). t.id) (catalog s).tables in
    let low : id < 2 ^ 63 = omega (arith, unused, counted, tables) in
    let perm : s.settings.perm_pages ≤ 65536 = h.perm_pages in
    let room : used_count s + (1 + length columns) ≤ 32 * s.settings.perm_pages
    = ltb-false (32 * s.settings.perm_pages) (used_count s + (1 + length columns)) (not_refused (nat_lt (32 * s.settings.perm_pages) (used_count s + (1 + length columns))) (PermFull (32 * s.settings.perm_pages)) ((((((((passed.1).1).1).1).1).1).1).0)) in
    let rows : length (column_rows id key 1 columns) ≡ length columns = columns_count id key 1 columns in
    subst (λ (es : List CellEdit). Each IsPlain (changes n es s)) (makes_same (create_table_edits (catalog s) name columns key) edits (parts.1))
    (news-plain n (create_table_edits (catalog s) name columns key) s sound.entries may transaction
    (new_row 1 (number id ∷ Text name ∷ []) (lit< tt) (lit< tt) (table_row id name low is), columns_new id key 1 columns low (omega (arith, keys, named, few)) (omega (arith, few)) ranges)
    (omega (arith, room, rows, perm)))
