-- Where no system row is damaged, bookmarks have names.
use Rattle.std.proofs.Common.{◌≡◌, ◌≤◌, ◌<◌, ℕ, Bool, true, false, ◌||◌, List, [], ◌∷◌, length, get_or, Option, Some, None, refl, sym, ap, ◌∙◌, subst, arith, true≢false}
use Rattle.std.proofs.lemmas.Bool.{and_parts}
use Rattle.std.proofs.lemmas.Option.{unwrap_or-slice_get}
use Rattle.std.proofs.lemmas.Slice.Eq.{bytes_eq-Decides}
use Rattle.std.specs.Prelude.{bytes_eq, is_some}
use Rattle.tt_value.specs.Ident.{is_name}
use Rattle.tt_value.specs.Order.{text_of}
use Rattle.tt_value.specs.declared.value.Cell.{Cell}
use Rattle.tt_value.specs.declared.value.Cell.TheVariants.{Full}
use Rattle.tt_value.specs.declared.value.Value.{Value}
use Rattle.tt_value.specs.declared.value.Value.TheVariants.{Null, Int, Number, Text}
use Rattle.tt_model.specs.Committed.{Cells, is_full}
use Rattle.tt_model.specs.Live.{numbers_below}
use Rattle.tt_model.specs.Tables.{PlacedRow, rows_of, text_at}
use Rattle.tt_model.specs.Damage.{SystemTable, Bookmarks, Columns, Tables, are_taken, breaks_catalog, has_key_before, has_name_before, has_wrong_columns, has_wrong_positions, has_wrong_size, is_free_key, is_past_limit, lacks_bookmark, lacks_table, column_tests, first_bad_catalog, has_wrong_values, id_of, is_bad_catalog_at, is_bad_catalog_row, is_name_text}
use Rattle.tt_model.specs.System.{bookmark, system_rows}
use Rattle.tt_model.specs.State.{State, bound, cells_of}
use Rattle.tt_model.specs.Sound.{IsSound}
use Rattle.tt_model.specs.Entries.{HasNamedBookmarks}
use Rattle.tt_model.proofs.BookmarkLemmas.{find-passes}
use Rattle.tt_model.proofs.BookmarkLines.{among}
use Rattle.tt_model.proofs.ConflictLemmas.{none_passes}
use Rattle.tt_model.proofs.IsolationLemmas.{full-below}
use Rattle.tt_model.proofs.PlainBookmarks.{name-short}
use Rattle.tt_model.proofs.PlainIndexes.{not_so}
use Rattle.tt_model.proofs.SystemLines.{bookmark-lies}

-- What lies below the bound isn't bad.
pub not_bad : (bound : ℕ) (cells : Cells) (q : ℕ) (c : Cell) → first_bad_catalog bound cells ≡ None → q < bound → cells q ≡ c → is_bad_catalog_row bound cells q c ≡ false
unfolding first_bad_catalog
not_bad bound cells q c none low is =
    sym (ap (is_bad_catalog_row bound cells q) is) ∙ none_passes (is_bad_catalog_at bound cells) (numbers_below bound) none q (among q bound 0 (omega arith) (omega (arith, low)))

-- Of the rules of the catalog those of values, of sizes and of columns.
no_rule : (a b c d e f g h i j : Bool) → (a || b || c || d || e || f || g || h || i || j) ≡ false → (a ≡ false) × (b ≡ false) × (f ≡ false)
no_rule true b c d e f g h i j k = absurd (true≢false k)
no_rule false true c d e f g h i j k = absurd (true≢false k)
no_rule false false true d e f g h i j k = absurd (true≢false k)
no_rule false false false true e f g h i j k = absurd (true≢false k)
no_rule false false false false true f g h i j k = absurd (true≢false k)
no_rule false false false false false true g h i j k = absurd (true≢false k)
no_rule false false false false false false g h i j k = (refl, refl, refl)

pub no_rule-broken : (rows : SystemTable → List PlacedRow) (table : SystemTable) (r : PlacedRow) → breaks_catalog rows table r ≡ false →
    (has_wrong_values table (r.1) ≡ false) × (has_wrong_size table (r.1) ≡ false) × (has_wrong_columns table (r.1) (rows Columns) ≡ false)
no_rule-broken rows table r h =
    no_rule (has_wrong_values table (r.1)) (has_wrong_size table (r.1)) (is_free_key table (r.1)) (has_key_before table r (rows table)) (has_name_before table r (rows table)) (has_wrong_columns table (r.1) (rows Columns))
    (lacks_table table (r.1) (rows Tables)) (lacks_bookmark table (r.1) (rows Bookmarks)) (has_wrong_positions table r (rows Columns)) (is_past_limit table r (rows table)) h

name_text : (v : Value) → is_name_text v ≡ true → is_name (text_of v) ≡ true
name_text Null h = absurd (true≢false (sym h))
name_text (Int n) h = absurd (true≢false (sym h))
name_text (Number s n) h = absurd (true≢false (sym h))
name_text (Text text) h = h

first_name : (vs : List Value) → are_taken (column_tests Bookmarks) vs ≡ true → is_name (text_of (get_or vs 0 Null)) ≡ true
first_name [] h = absurd (true≢false (sym h))
first_name (v ∷ vs) h = name_text v ((and_parts (is_name_text v) _ h).0)

bookmark_name : (name : List ℕ) (s : State) (r : PlacedRow) → IsSound s → first_bad_catalog (bound s) (cells_of s) ≡ None → bookmark name s ≡ Some r → is_name name ≡ true
bookmark_name name s r sound none is =
    let lies : cells_of s (r.0) ≡ Full 4 (r.1) = bookmark-lies name s r is in
    let good : breaks_catalog (λ (t : SystemTable). rows_of (id_of t) (bound s) (cells_of s)) Bookmarks r ≡ false
    = not_bad (bound s) (cells_of s) (r.0) (Full 4 (r.1)) none (full-below s (r.0) sound (ap is_full lies)) lies in
    let values : has_wrong_values Bookmarks (r.1) ≡ false = (no_rule-broken (λ (t : SystemTable). rows_of (id_of t) (bound s) (cells_of s)) Bookmarks r good).0 in
    let taken : are_taken (column_tests Bookmarks) ((r.1).values) ≡ true = not_so (are_taken (column_tests Bookmarks) ((r.1).values)) values in
    let first : is_name (text_at 0 r) ≡ true = subst (λ (v : Value). is_name (text_of v) ≡ true) (sym (unwrap_or-slice_get ((r.1).values) 0 Null)) (first_name ((r.1).values) taken) in
    subst (λ (n : List ℕ). is_name n ≡ true) ((bytes_eq-Decides (text_at 0 r) name).0 (find-passes (λ r. bytes_eq (text_at 0 r) name) (system_rows 4 s) r is)) first

there : (name : List ℕ) (s : State) (o : Option PlacedRow) → bookmark name s ≡ o → is_some o ≡ true → IsSound s → first_bad_catalog (bound s) (cells_of s) ≡ None → length name ≤ 30
there name s None e h sound none = absurd (true≢false (sym h))
there name s (Some r) e h sound none = name-short name (bookmark_name name s r sound none e)

pub good-bookmarks : (s : State) → IsSound s → first_bad_catalog (bound s) (cells_of s) ≡ None → HasNamedBookmarks s
good-bookmarks s sound none name h = there name s (bookmark name s) refl h sound none
