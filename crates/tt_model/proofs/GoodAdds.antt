-- The lines on bookmarks, subscriptions and backup sets that write one row leave a good catalog.
use Rattle.std.proofs.Common.{◌≡◌, ◌<◌, ◌≤◌, ℕ, suc, Bool, true, false, cond, ◌&&◌, ◌||◌, filter, List, [], ◌∷◌, Option, Some, None, unwrap_or, length, refl, sym, ap, ◌∙◌, subst, arith, true≢false}
use Rattle.std.proofs.lemmas.Bool.{eqb-true, eq-eqb, leb-false, and_from, both_ways, not_from_true, not-false}
use Rattle.std.proofs.lemmas.Slice.Eq.{bytes_eq-Decides}
use Rattle.std.specs.Prelude.{◌==◌, nat_le, not, bytes_eq, count_by, is_some, slice_get}
use Rattle.std.specs.List.{list_any}
use Rattle.tt_value.specs.Ident.{is_name}
use Rattle.tt_value.specs.Same.{same_value}
use Rattle.tt_value.specs.Order.{text_of}
use Rattle.tt_value.specs.declared.position.Position.{Position}
use Rattle.tt_value.specs.declared.value.Value.{Value}
use Rattle.tt_value.specs.declared.value.Value.TheVariants.{Text}
use Rattle.tt_value.specs.declared.value.Row.{Row}
use Rattle.tt_value.specs.declared.value.Cell.TheVariants.{Full}
use Rattle.tt_value.specs.declared.refusal.Refusal.{Refusal}
use Rattle.tt_value.specs.declared.refusal.Refusal.TheVariants.{BookmarkThere, TooMany, NoBookmark, NameThere}
use Rattle.tt_model.specs.Committed.{is_full}
use Rattle.tt_model.specs.Holders.{value_at}
use Rattle.tt_model.specs.Tables.{Table, PlacedRow, rows_of, number_at, with_text_at, table_named, whole_number_of}
use Rattle.tt_model.specs.State.{State, Reader, ReadPlace, cells_of, bound, catalog, write_position, low_now}
use Rattle.tt_model.specs.declared.definition.CellEdit.{CellEdit}
use Rattle.tt_model.specs.Meaning.{Makes, first_of, refused_if, no_room}
use Rattle.tt_model.specs.System.{number, row, adds, rewrites, in_transaction, system_rows, bookmark, bookmark_values, subscription, subscribe, meant_by_create_bookmark, meant_by_subscribe}
use Rattle.tt_model.specs.Backups.{row_of_set}
use Rattle.tt_model.specs.Step.{system_done}
use Rattle.tt_model.specs.Sound.{IsSound}
use Rattle.tt_model.specs.Entries.{HasLogInRange, IsKept}
use Rattle.tt_model.specs.Damage.{Bookmarks, Subscriptions, Sets, are_taken, column_tests, is_number_from, has_value_in, has_wrong_values}
use Rattle.tt_model.proofs.ConflictLemmas.{same_value-self}
use Rattle.tt_model.proofs.IsolationLemmas.{full-below}
use Rattle.tt_model.proofs.StatementLemmas.{unless-makes, makes_same, each_none}
use Rattle.tt_model.proofs.SystemLines.{refuses_none, not_refused, bookmark-lies, set-lies}
use Rattle.tt_model.proofs.CatalogLemmas.{not_held_user}
use Rattle.tt_model.proofs.BookmarkLemmas.{is_named}
use Rattle.tt_model.proofs.GoodPlaces.{any-filter, found-any, there-any}
use Rattle.tt_model.proofs.GoodRemovals.{has_value}
use Rattle.tt_model.proofs.GoodCells.{rows_more}
use Rattle.tt_model.proofs.GoodLimits.{group_size}
use Rattle.tt_model.proofs.GoodDeletes.{HasGood, lies-below}
use Rattle.tt_model.proofs.GoodWrites.{some-none, good-adds, good-rewrites, bookmarks-alone, sets-alone}
use Rattle.tt_model.proofs.GoodTaken.{IsTableRow, number-in, named-value, set-value, table-row, count-all, low-kept}

-- The values of a list of one or two.
head_same : (v w : Value) (vs ws : List Value) → v ∷ vs ≡ w ∷ ws → v ≡ w
head_same v w vs ws h = ap (λ (xs : List Value). unwrap_or (slice_get xs 0) v) h

second_same : (a b v w : Value) (vs ws : List Value) → a ∷ v ∷ vs ≡ b ∷ w ∷ ws → v ≡ w
second_same a b v w vs ws h = ap (λ (xs : List Value). unwrap_or (slice_get xs 1) v) h

some_number : (a b : ℕ) → Some a ≡ Some b → a ≡ b
some_number a b h = ap (λ o. unwrap_or o a) h

pub bytes-self : (bytes : List ℕ) → bytes_eq bytes bytes ≡ true
bytes-self bytes = (bytes_eq-Decides bytes bytes).1 refl

kept-file : (p : Position) → IsKept p → is_number_from 0 999999 (number p.file) ≡ true
kept-file p k = number-in 0 999999 p.file (omega arith) k.file

kept-offset : (p : Position) → IsKept p → is_number_from 0 67108864 (number p.offset) ≡ true
kept-offset p k = number-in 0 67108864 p.offset (omega arith) k.offset

-- What a test of a state found empty or not.
not-there : (s : State) (id : ℕ) (f : PlacedRow → Bool) (q : ℕ) (r : Row) → IsSound s → list_any f (system_rows id s) ≡ false → cells_of s q ≡ Full id r → f (q, r) ≡ true → ⊥
not-there s id f q r h n e y = both_ways (list_any f (system_rows id s)) n (there-any f id (bound s) (cells_of s) q r e y (full-below s q h (ap is_full e)))

-- The rows of a table whose rows are all counted together are fewer than its limit.
room-of : (s : State) (id limit n : ℕ) → IsSound s → bound s ≤ n → nat_le limit (length (system_rows id s)) ≡ false → count_by (λ (x : PlacedRow). true) (rows_of id n (cells_of s)) < limit
room-of s id limit n h l few =
    subst (λ (rows : List PlacedRow). count_by (λ (x : PlacedRow). true) rows < limit) (sym (rows_more id (bound s) n (cells_of s) (lies-below s h) l))
    (subst (λ (k : ℕ). k < limit) (sym (count-all (system_rows id s))) (leb-false limit (length (system_rows id s)) few))

-- ---- bookmarks

bookmark_right : (name : List ℕ) (place : ReadPlace) → is_name name ≡ true → IsKept place.at → IsKept place.hold → place.skip ≤ 4294967295 → has_wrong_values Bookmarks (row (bookmark_values name place)) ≡ false
bookmark_right name place n a b c =
    not_from_true (are_taken (column_tests Bookmarks) (bookmark_values name place))
    (and_from _ _ n (and_from _ _ (kept-file place.at a) (and_from _ _ (kept-offset place.at a) (and_from _ _ (number-in 0 4294967295 place.skip (omega arith) c)
    (and_from _ _ (kept-file place.hold b) (and_from _ _ (kept-offset place.hold b) refl))))))

pub good-create_bookmark : (session : ℕ) (s : State) (name : List ℕ) (edits : List CellEdit) → IsSound s → HasLogInRange s → is_name name ≡ true → meant_by_create_bookmark session s name ≡ Makes edits → HasGood s →
    HasGood (system_done edits s)
unfolding meant_by_create_bookmark
good-create_bookmark session s name edits h log n m g =
    let place : ReadPlace = record { at = write_position s; skip = 0; hold = low_now s } in
    let tests : List (Option Refusal) = in_transaction session s ∷ refused_if (is_some (bookmark name s)) BookmarkThere ∷ refused_if (nat_le 64 (length (system_rows 4 s))) (TooMany 64) ∷ no_room 1 s ∷ [] in
    let made = unless-makes (first_of tests) (Makes (adds 4 (bookmark_values name place) ∷ [])) edits m in
    let passed = each_none tests (made.0) in
    let none : list_any (is_named name) (system_rows 4 s) ≡ false = sym (found-any (is_named name) (system_rows 4 s)) ∙ not_refused (is_some (bookmark name s)) BookmarkThere ((passed.1).0) in
    let few : nat_le 64 (length (system_rows 4 s)) ≡ false = not_refused (nat_le 64 (length (system_rows 4 s))) (TooMany 64) (((passed.1).1).0) in
    subst (λ (es : List CellEdit). HasGood (system_done es s)) (makes_same (adds 4 (bookmark_values name place) ∷ []) edits (made.1))
    (good-adds s Bookmarks (bookmark_values name place) h (not_held_user _ refl, tt) (λ k l. record {
      values = bookmark_right name place n log.end (low-kept s log) (omega arith);
      size = refl;
      free_key = refl;
      key = λ q r e v. not-there s 4 (is_named name) q r h none e (ap (λ w. bytes_eq (text_of w) name) (head_same (value_at r 0) (Text name) [] [] v) ∙ bytes-self name);
      name = λ q r columns e c v. some-none None columns refl c;
      columns = λ rows. refl;
      other = refl;
      table_there = refl;
      bookmark_there = refl;
      positions = λ p. refl;
      room = λ most e. subst (λ (x : ℕ). group_size k Bookmarks (row (bookmark_values name place)) (cells_of s) < x) (some_number 64 most e) (room-of s 4 64 k h l few);
    }) g)

-- An acknowledgement that writes the row of a bookmark anew.
pub good-acknowledged : (s : State) (r : Reader) (at : PlacedRow) → IsSound s → bookmark r.bookmark s ≡ Some at → IsKept r.place.at → IsKept r.place.hold → r.place.skip ≤ 4294967295 → HasGood s →
    HasGood (system_done (rewrites 4 at (bookmark_values r.bookmark r.place) ∷ []) s)
good-acknowledged s r at h e a b c g =
    let named : (value_at (at.1) 0 ≡ Text r.bookmark) × (is_name r.bookmark ≡ true) = named-value s r.bookmark at g e in
    good-rewrites s Bookmarks at (bookmark_values r.bookmark r.place) h bookmarks-alone (not_held_user _ refl, tt) (bookmark-lies r.bookmark s at e) (named.0)
    (bookmark_right r.bookmark r.place (named.1) a b c) g

-- ---- backup sets

abbrev set_values : ℕ → Position → List Value
set_values set end = number set ∷ number end.file ∷ number end.offset ∷ []

set_right : (set : ℕ) (end : Position) → 1 ≤ set → set ≤ 999 → IsKept end → has_wrong_values Sets (row (set_values set end)) ≡ false
set_right set end a b k =
    not_from_true (are_taken (column_tests Sets) (set_values set end)) (and_from _ _ (number-in 1 999 set a b) (and_from _ _ (kept-file end k) (and_from _ _ (kept-offset end k) refl)))

-- The row of a set is written anew.
pub good-set_again : (s : State) (set : ℕ) (end : Position) (r : PlacedRow) → IsSound s → 1 ≤ set → set ≤ 999 → IsKept end → row_of_set set s ≡ Some r → HasGood s →
    HasGood (system_done (rewrites 6 r (set_values set end) ∷ []) s)
good-set_again s set end r h a b k e g =
    good-rewrites s Sets r (set_values set end) h sets-alone (not_held_user _ refl, tt) (set-lies set s r e) (set-value s set r g e) (set_right set end a b k) g

-- A set gets its first row.
pub good-set_first : (s : State) (set : ℕ) (end : Position) → IsSound s → 1 ≤ set → set ≤ 999 → IsKept end → is_some (row_of_set set s) ≡ false → nat_le 64 (length (system_rows 6 s)) ≡ false → HasGood s →
    HasGood (system_done (adds 6 (set_values set end) ∷ []) s)
good-set_first s set end h a b k none few g =
    let is_set : PlacedRow → Bool = λ (r : PlacedRow). number_at 0 r == set in
    let no_row : list_any is_set (system_rows 6 s) ≡ false = sym (found-any is_set (system_rows 6 s)) ∙ none in
    good-adds s Sets (set_values set end) h (not_held_user _ refl, tt) (λ n l. record {
      values = set_right set end a b k;
      size = refl;
      free_key = refl;
      key = λ q r e v. not-there s 6 is_set q r h no_row e (eq-eqb (number_at 0 (q, r)) set (ap whole_number_of (head_same (value_at r 0) (number set) [] [] v)));
      name = λ q r columns e c v. some-none None columns refl c;
      columns = λ rows. refl;
      other = refl;
      table_there = refl;
      bookmark_there = refl;
      positions = λ p. refl;
      room = λ most e. subst (λ (x : ℕ). group_size n Sets (row (set_values set end)) (cells_of s) < x) (some_number 64 most e) (room-of s 6 64 n h l few);
    }) g

-- ---- subscriptions

abbrev subscription_values : List ℕ → ℕ → Position → List Value
subscription_values name id end = Text name ∷ number id ∷ number end.file ∷ number end.offset ∷ []

bookmark_found : (s : State) (name : List ℕ) (o : Option PlacedRow) → bookmark name s ≡ o → is_some o ≡ true → (at : PlacedRow) × (bookmark name s ≡ Some at)
bookmark_found s name None e h = absurd (true≢false (sym h))
bookmark_found s name (Some at) e h = (at, e)

filter_step : (f : PlacedRow → Bool) (x : PlacedRow) (xs : List PlacedRow) → ((length (filter f xs) == 0) ≡ true → list_any f xs ≡ false) → (b : Bool) → (length (cond b (x ∷ filter f xs) (filter f xs)) == 0) ≡ true →
    (b || list_any f xs) ≡ false
filter_step f x xs ih true h = let no_rows : suc (length (filter f xs)) ≡ 0 = eqb-true (suc (length (filter f xs))) 0 h in absurd (omega (arith, no_rows))
filter_step f x xs ih false h = ih h

filter_none : (f : PlacedRow → Bool) (xs : List PlacedRow) → (length (filter f xs) == 0) ≡ true → list_any f xs ≡ false
filter_none f [] h = refl
filter_none f (x ∷ xs) h = filter_step f x xs (filter_none f xs) (f x) h

subscribe_adds : (session : ℕ) (s : State) (name : List ℕ) (o : Option Table) (edits : List CellEdit) → IsSound s → HasLogInRange s → ((t : Table) → o ≡ Some t → IsTableRow s t.id) →
    subscribe session s name o ≡ Makes edits → HasGood s → HasGood (system_done edits s)
subscribe_adds session s name None edits h log there m g = absurd (refuses_none _ _ edits m)
subscribe_adds session s name (Some t) edits h log there m g =
    let end : Position = write_position s in
    let values : List Value = subscription_values name t.id end in
    let tests : List (Option Refusal) = in_transaction session s ∷ refused_if (not (is_some (bookmark name s))) NoBookmark ∷ refused_if (not (length (subscription name t.id s) == 0)) NameThere ∷ no_room 1 s ∷ [] in
    let made = unless-makes (first_of tests) (Makes (adds 5 values ∷ [])) edits m in
    let passed = each_none tests (made.0) in
    let some : is_some (bookmark name s) ≡ true = not-false (is_some (bookmark name s)) (not_refused (not (is_some (bookmark name s))) NoBookmark ((passed.1).0)) in
    let found : (at : PlacedRow) × (bookmark name s ≡ Some at) = bookmark_found s name (bookmark name s) refl some in
    let at : PlacedRow = found.0 in
    let named : (value_at (at.1) 0 ≡ Text name) × (is_name name ≡ true) = named-value s name at g (found.1) in
    let lies : cells_of s (at.0) ≡ Full 4 (at.1) = bookmark-lies name s at (found.1) in
    let table : IsTableRow s t.id = there t refl in
    let none : (length (subscription name t.id s) == 0) ≡ true = not-false (length (subscription name t.id s) == 0) (not_refused (not (length (subscription name t.id s) == 0)) NameThere (((passed.1).1).0)) in
    let is_it : PlacedRow → Bool = λ (r : PlacedRow). is_named name r && (number_at 1 r == t.id) in
    let no_row : list_any is_it (system_rows 5 s) ≡ false
    = sym (any-filter (λ (r : PlacedRow). number_at 1 r == t.id) (is_named name) (system_rows 5 s))
    ∙ filter_none (λ (r : PlacedRow). number_at 1 r == t.id) (with_text_at 0 name (system_rows 5 s)) none in
    subst (λ (es : List CellEdit). HasGood (system_done es s)) (makes_same (adds 5 values ∷ []) edits (made.1))
    (good-adds s Subscriptions values h (not_held_user _ refl, tt) (λ n l. record {
      values = not_from_true (are_taken (column_tests Subscriptions) values) (and_from _ _ (named.1) (and_from _ _ table.is_id (and_from _ _ (kept-file end log.end) (and_from _ _ (kept-offset end log.end) refl))));
      size = refl;
      free_key = refl;
      key = λ q r e v. not-there s 5 is_it q r h no_row e (and_from (bytes_eq (text_of (value_at r 0)) name) (whole_number_of (value_at r 1) == t.id)
          (ap (λ w. bytes_eq (text_of w) name) (head_same (value_at r 0) (Text name) _ _ v) ∙ bytes-self name)
          (eq-eqb (whole_number_of (value_at r 1)) t.id (ap whole_number_of (second_same (value_at r 0) (Text name) (value_at r 1) (number t.id) [] [] v))));
      name = λ q r columns e c v. some-none None columns refl c;
      columns = λ rows. refl;
      other = refl;
      table_there = not_from_true (has_value_in 0 (number t.id) (rows_of 1 n (cells_of s)))
          (there-any (has_value 0 (number t.id)) 1 n (cells_of s) table.at table.row table.lies (ap (λ w. same_value w (number t.id)) table.value ∙ same_value-self (number t.id))
          (let low : table.at < bound s = full-below s table.at h (ap is_full table.lies) in omega (arith, low, l)));
      bookmark_there = not_from_true (has_value_in 0 (Text name) (rows_of 4 n (cells_of s)))
          (there-any (has_value 0 (Text name)) 4 n (cells_of s) (at.0) (at.1) lies (ap (λ w. same_value w (Text name)) (named.0) ∙ same_value-self (Text name))
          (let low : at.0 < bound s = full-below s (at.0) h (ap is_full lies) in omega (arith, low, l)));
      positions = λ p. refl;
      room = λ most e. let no_limit : ⊥ = cc in absurd no_limit;
    }) g)

pub good-subscribe : (session : ℕ) (s : State) (table name : List ℕ) (edits : List CellEdit) → IsSound s → HasLogInRange s → meant_by_subscribe session s table name ≡ Makes edits → HasGood s → HasGood (system_done edits s)
unfolding meant_by_subscribe
good-subscribe session s table name edits h log m g = subscribe_adds session s name (table_named table (catalog s)) edits h log (λ t e. table-row s table t g e) m g
