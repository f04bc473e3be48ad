-- Lines that write rows of bookmarks and subscriptions make plain entries.
use Rattle.std.proofs.Common.{◌≡◌, ◌≤◌, ◌<◌, ◌^◌, inl, inr, ℕ, true, false, not, ◌&&◌, ◌||◌, nat_le, nat_eq, List, [], ◌∷◌, length, Option, Some, None, refl, ap, subst, arith, lit<, true≢false}
use Rattle.std.proofs.lemmas.Bool.{and_parts, eqb-true, leb-true, or_cases}
use Rattle.std.proofs.lemmas.Slice.Eq.{bytes_eq-Decides}
use Rattle.std.proofs.lemmas.Str.{IsUtf8-from_ascii}
use Rattle.std.proofs.lemmas.Str.Ascii.{IsAscii-from_all}
use Rattle.std.specs.Prelude.{◌==◌, bytes_eq, is_some, slice_index, IsUtf8}
use Rattle.std.specs.List.{list_all}
use Rattle.tt_value.specs.Ident.{is_digit, is_letter, is_name, is_reserved}
use Rattle.tt_value.specs.Order.{text_of}
use Rattle.tt_value.specs.Stored.{IsCell, IsStorable, IsStorableValue}
use Rattle.tt_value.specs.declared.position.Position.{Position}
use Rattle.tt_value.specs.declared.refusal.Refusal.{Refusal}
use Rattle.tt_value.specs.declared.refusal.Refusal.TheVariants.{BookmarkThere, NameThere, NoBookmark, TooMany}
use Rattle.tt_value.specs.declared.value.Cell.TheVariants.{Full as FullCell}
use Rattle.tt_value.specs.declared.value.Value.{Value}
use Rattle.tt_value.specs.declared.value.Value.TheVariants.{Null, Int, Number, Text}
use Rattle.tt_record.specs.Entry.{IsTransaction}
use Rattle.tt_model.specs.Holders.{value_at}
use Rattle.tt_model.specs.Tables.{PlacedRow, Table, table_named, text_at}
use Rattle.tt_model.specs.Meaning.{Makes, first_of, no_room, refused_if}
use Rattle.tt_model.specs.System.{acknowledge, rewrites, adds, bookmark, bookmark_values, in_transaction, meant_by_acknowledge, meant_by_create_bookmark, meant_by_subscribe, number, row, subscribe, subscription, system_rows, reader_at, reader_row}
use Rattle.tt_model.specs.State.{ReadPlace, Reader, State, catalog, low_now, write_position}
use Rattle.tt_model.specs.declared.definition.CellEdit.{CellEdit}
use Rattle.tt_model.specs.Sound.{IsSound}
use Rattle.tt_model.specs.Ranges.{IsName}
use Rattle.tt_model.specs.WholeRuns.{Each}
use Rattle.tt_model.specs.Entries.{HasKeptReaders, HasNamedBookmarks, HasStorableTables, IsKept, IsPlain, IsStorableTable}
use Rattle.tt_model.specs.Works.{changes}
use Rattle.tt_model.proofs.BookmarkLemmas.{find-passes}
use Rattle.tt_model.proofs.FreePlaces.{not_refused}
use Rattle.tt_model.proofs.LogRanges.{IsRanged}
use Rattle.tt_model.proofs.OneHolderStatements.{each-found}
use Rattle.tt_model.proofs.PlainRows.{added-plain, rewritten-plain, storable-pos, system-row}
use Rattle.tt_model.proofs.PlainStatements.{each_at}
use Rattle.tt_model.proofs.PlainSystem.{file_storable, free_low, low_kept, offset_storable}
use Rattle.tt_model.proofs.StatementLemmas.{AllNone, each_none, makes_same, unless-makes}
use Rattle.tt_model.proofs.StorableCells.{IsStored, committed-stored}
use Rattle.tt_model.proofs.StorableValues.{all-each, each-all}
use Rattle.tt_model.proofs.SystemLines.{bookmark-lies, refuses_none}

-- ---- names

letter_low : (b : ℕ) → is_letter b ≡ true → b < 128
letter_low b h = elim (or_cases (nat_eq b 95) ((nat_le 97 b && nat_le b 122) || is_digit b) h) [
  | inl y ↦ let e : b ≡ 95 = eqb-true b 95 y in omega (arith, e)
  | inr y ↦ elim (or_cases (nat_le 97 b && nat_le b 122) (is_digit b) y) [
    | inl z ↦ let most : b ≤ 122 = leb-true b 122 ((and_parts (nat_le 97 b) (nat_le b 122) z).1) in omega (arith, most)
    | inr z ↦ let most : b ≤ 57 = leb-true b 57 ((and_parts (nat_le 48 b) (nat_le b 57) z).1) in omega (arith, most)
  ]
]

letters_low : (bs : List ℕ) → list_all is_letter bs ≡ true → Each (λ b. b < 128) bs
letters_low [] h = tt
letters_low (b ∷ bs) h = let parts : (is_letter b ≡ true) × (list_all is_letter bs ≡ true) = and_parts (is_letter b) (list_all is_letter bs) h in (letter_low b (parts.0), letters_low bs (parts.1))

pub utf8-low : (bs : List ℕ) → Each (λ b. b < 128) bs → IsUtf8 bs
utf8-low bs h = IsUtf8-from_ascii bs (IsAscii-from_all bs (all-each (λ b. b < 128) bs h))

pub name-utf8 : (name : List ℕ) → IsName name → IsUtf8 name
unfolding is_name
name-utf8 name h =
    let parts = and_parts ((nat_le 1 (length name) && nat_le (length name) 30) && not (is_digit (slice_index name 0))) (list_all is_letter name && not (is_reserved name)) h in
    utf8-low name (letters_low name ((and_parts (list_all is_letter name) (not (is_reserved name)) (parts.1)).0))

pub name-short : (name : List ℕ) → IsName name → length name ≤ 30
unfolding is_name
name-short name h =
    let parts = and_parts ((nat_le 1 (length name) && nat_le (length name) 30) && not (is_digit (slice_index name 0))) (list_all is_letter name && not (is_reserved name)) h in
    leb-true (length name) 30 ((and_parts (nat_le 1 (length name)) (nat_le (length name) 30) ((and_parts (nat_le 1 (length name) && nat_le (length name) 30) (not (is_digit (slice_index name 0))) (parts.0)).0)).1)

text_utf8 : (v : Value) → IsStorableValue v → IsUtf8 (text_of v)
text_utf8 Null h = utf8-low [] tt
text_utf8 (Int n) h = utf8-low [] tt
text_utf8 (Number s n) h = utf8-low [] tt
text_utf8 (Text text) h = h.1

-- The name of a bookmark that is there is that of its row.
there_utf8 : (name : List ℕ) (s : State) (r : PlacedRow) → bookmark name s ≡ Some r → IsStored s → IsUtf8 name
there_utf8 name s r is h =
    let cell : IsCell (FullCell 4 (r.1)) = subst IsCell (bookmark-lies name s r is) (committed-stored s h (r.0)) in
    let stored : IsStorable (r.1) = cell.2 in
    let first : IsStorableValue (value_at (r.1) 0) = each_at IsStorableValue ((r.1).values) 0 Null (each-all IsStorableValue ((r.1).values) stored.in_range) tt in
    subst IsUtf8 ((bytes_eq-Decides (text_at 0 r) name).0 (find-passes (λ r. bytes_eq (text_at 0 r) name) (system_rows 4 s) r is)) (text_utf8 (value_at (r.1) 0) first)

-- ---- bookmarks

bookmark_row-storable : (name : List ℕ) (place : ReadPlace) → length name ≤ 30 → IsUtf8 name → IsKept place.at → IsKept place.hold → place.skip ≤ 4294967295 → IsStorable (row (bookmark_values name place))
bookmark_row-storable name place short utf8 at hold skip =
    system-row (bookmark_values name place) (lit< tt) (lit< tt)
    ((omega (arith, short), utf8), (file_storable place.at at, (offset_storable place.at at, (storable-pos place.skip (omega (arith, skip)), (file_storable place.hold hold, (offset_storable place.hold hold, tt))))))
    (omega (arith, short))

pub create_bookmark-plain : (session : ℕ) (s : State) (name : List ℕ) (edits : List CellEdit) (n : ℕ) → IsName name → IsTransaction n → IsStored s → IsRanged s →
    meant_by_create_bookmark session s name ≡ Makes edits → Each IsPlain (changes n edits s)
unfolding meant_by_create_bookmark
create_bookmark-plain session s name edits n is number h ranged m =
    let place : ReadPlace = record { at = write_position s; skip = 0; hold = low_now s } in
    let tests : List (Option Refusal) = in_transaction session s ∷ refused_if (is_some (bookmark name s)) BookmarkThere ∷ refused_if (nat_le 64 (length (system_rows 4 s))) (TooMany 64) ∷ no_room 1 s ∷ [] in
    let parts : (first_of tests ≡ None) × (Makes (adds 4 (bookmark_values name place) ∷ []) ≡ Makes edits) = unless-makes (first_of tests) (Makes (adds 4 (bookmark_values name place) ∷ [])) edits m in
    let passed : AllNone tests = each_none tests (parts.0) in
    subst (λ (es : List CellEdit). Each IsPlain (changes n es s)) (makes_same (adds 4 (bookmark_values name place) ∷ []) edits (parts.1))
    (added-plain 4 n (bookmark_values name place) s (lit< tt) (lit< tt) number
    (bookmark_row-storable name place (name-short name is) (name-utf8 name is) ranged.end (low_kept s ranged) (omega arith)) (free_low s h ((((passed.1).1).1).0)))

acknowledged_plain : (session : ℕ) (r : Reader) (s : State) (o : Option PlacedRow) (edits : List CellEdit) (n : ℕ) → bookmark r.bookmark s ≡ o → HasNamedBookmarks s → IsKept r.place.at → IsKept r.place.hold →
    r.place.skip ≤ 4294967295 → IsSound s → IsStored s → IsTransaction n → acknowledge session s (reader_at r o) ≡ Makes edits → Each IsPlain (changes n edits s)
acknowledged_plain session r s None edits n is names at hold skip sound h number m = absurd (refuses_none _ _ edits m)
acknowledged_plain session r s (Some found) edits n is names at hold skip sound h number m =
    let written : List CellEdit = rewrites 4 found (bookmark_values r.bookmark r.place) ∷ [] in
    subst (λ (es : List CellEdit). Each IsPlain (changes n es s)) (makes_same written edits ((unless-makes (first_of (in_transaction session s ∷ [])) (Makes written) edits m).1))
    (rewritten-plain 4 n found (bookmark_values r.bookmark r.place) s s (lit< tt) sound h number (bookmark-lies r.bookmark s found is)
    (bookmark_row-storable r.bookmark r.place (names r.bookmark (ap is_some is)) (there_utf8 r.bookmark s found is h) at hold skip))

acknowledge_plain : (session : ℕ) (s : State) (o : Option Reader) (edits : List CellEdit) (n : ℕ) → ((r : Reader) → o ≡ Some r → IsKept r.place.at × IsKept r.place.hold × (r.place.skip ≤ 4294967295)) →
    HasNamedBookmarks s → IsSound s → IsStored s → IsTransaction n → acknowledge session s (reader_row s o) ≡ Makes edits → Each IsPlain (changes n edits s)
acknowledge_plain session s None edits n readers names sound h number m = absurd (refuses_none _ _ edits m)
acknowledge_plain session s (Some r) edits n readers names sound h number m =
    let kept : IsKept r.place.at × IsKept r.place.hold × (r.place.skip ≤ 4294967295) = readers r refl in
    acknowledged_plain session r s (bookmark r.bookmark s) edits n refl names (kept.0) (kept.1) (kept.2) sound h number m

pub acknowledge-plain : (session : ℕ) (s : State) (edits : List CellEdit) (n : ℕ) → HasKeptReaders s → HasNamedBookmarks s → IsSound s → IsStored s → IsTransaction n →
    meant_by_acknowledge session s ≡ Makes edits → Each IsPlain (changes n edits s)
unfolding meant_by_acknowledge
acknowledge-plain session s edits n readers names sound h number m = acknowledge_plain session s (s.reader session) edits n (λ r is. readers session r is) names sound h number m

-- ---- subscriptions

is_there : (o : Option PlacedRow) → not (is_some o) ≡ false → (r : PlacedRow) × (o ≡ Some r)
is_there None h = absurd (true≢false h)
is_there (Some r) h = (r, refl)

subscribe_plain : (session : ℕ) (s : State) (name : List ℕ) (o : Option Table) (edits : List CellEdit) (n : ℕ) → ((t : Table) → o ≡ Some t → IsStorableTable t) → HasNamedBookmarks s → IsTransaction n → IsStored s →
    IsRanged s → subscribe session s name o ≡ Makes edits → Each IsPlain (changes n edits s)
subscribe_plain session s name None edits n tables names is_number h ranged m = absurd (refuses_none _ _ edits m)
subscribe_plain session s name (Some t) edits n tables names is_number h ranged m =
    let end : Position = write_position s in
    let values : List Value = Text name ∷ number t.id ∷ number end.file ∷ number end.offset ∷ [] in
    let tests : List (Option Refusal) = in_transaction session s ∷ refused_if (not (is_some (bookmark name s))) NoBookmark ∷ refused_if (not (length (subscription name t.id s) == 0)) NameThere ∷ no_room 1 s ∷ [] in
    let parts : (first_of tests ≡ None) × (Makes (adds 5 values ∷ []) ≡ Makes edits) = unless-makes (first_of tests) (Makes (adds 5 values ∷ [])) edits m in
    let passed : AllNone tests = each_none tests (parts.0) in
    let (r, there) = is_there (bookmark name s) (not_refused (not (is_some (bookmark name s))) NoBookmark ((passed.1).0)) in
    let short : length name ≤ 30 = names name (ap is_some there) in
    let low : t.id < 2 ^ 32 = (tables t refl).id in
    subst (λ (es : List CellEdit). Each IsPlain (changes n es s)) (makes_same (adds 5 values ∷ []) edits (parts.1))
    (added-plain 5 n values s (lit< tt) (lit< tt) is_number
    (system-row values (lit< tt) (lit< tt) ((omega (arith, short), there_utf8 name s r there h), (storable-pos t.id (omega (arith, low)), (file_storable end ranged.end, (offset_storable end ranged.end, tt)))) (omega (arith, short)))
    (free_low s h ((((passed.1).1).1).0)))

pub subscribe-plain : (session : ℕ) (s : State) (table name : List ℕ) (edits : List CellEdit) (n : ℕ) → HasStorableTables s → HasNamedBookmarks s → IsTransaction n → IsStored s → IsRanged s →
    meant_by_subscribe session s table name ≡ Makes edits → Each IsPlain (changes n edits s)
unfolding meant_by_subscribe
subscribe-plain session s table name edits n tables names number h ranged m =
    subscribe_plain session s name (table_named table (catalog s)) edits n (λ t is. each-found IsStorableTable (λ t. bytes_eq t.name table) t (catalog s).tables tables is) names number h ranged m
