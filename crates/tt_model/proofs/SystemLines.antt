-- Lines that change or delete rows of system tables keep a state sound.
use Rattle.std.proofs.Common.{◌≡◌, ◌<◌, inr, ℕ, Bool, true, false, not, cond, ◌||◌, find, filter, map, length, List, [], ◌∷◌, ◌++◌, Option, Some, None, unwrap_or, refl, sym, ap, ◌∙◌, subst, lit<, true≢false}
use Rattle.std.specs.Prelude.{◌==◌, bytes_eq, is_some}
use Rattle.std.specs.Option.{option_or}
use Rattle.std.specs.List.{list_any}
use Rattle.std.specs.Ordering.{nat_cmp, is_gt}
use Rattle.std.specs.Cmp.Lexicographic.{slice_cmp}
use Rattle.std.specs.declared.cmp.Ordering.{Ordering}
use Rattle.std.proofs.lemmas.Bool.{eq-eqb, or_left, or_right}
use Rattle.tt_value.specs.declared.position.Position.{Position}
use Rattle.tt_value.specs.declared.refusal.Refusal.{Refusal}
use Rattle.tt_value.specs.declared.refusal.Refusal.TheVariants.{NotSubscribed, NoBookmark}
use Rattle.tt_value.specs.declared.value.Cell.TheVariants.{Full as FullCell}
use Rattle.tt_model.specs.Tables.{Table, Index, PlacedRow, in_order, inserted, by_number, by_text, with_number_at, with_text_at, number_at, text_at, table_named, index_named, table_of, index_of, catalog_of}
use Rattle.tt_model.specs.Meaning.{Meant, Makes, Refuses, unless, first_of, refused_if}
use Rattle.tt_model.specs.System.{system_rows, in_transaction, deletes, rewrites, bookmark, bookmark_values, subscription, delete_bookmark, unsubscribe, acknowledge, drop_table, drop_index, meant_by_delete_bookmark, meant_by_unsubscribe, meant_by_acknowledge, meant_by_drop_table, meant_by_drop_index, reader_at, reader_row}
use Rattle.tt_model.specs.Backups.{row_of_set, set_edit, full_now, extended_now, with_set, backup_refusal, SetWork, MakesSet, ContinuesSet, EndsSet}
use Rattle.tt_model.specs.Sets.{Readable, SetStanding}
use Rattle.tt_model.specs.State.{State, Reader, next, cells_of, bound, catalog, write_position, all_forced}
use Rattle.tt_model.specs.declared.definition.CellEdit.{CellEdit}
use Rattle.tt_model.specs.Sound.{IsSound}
use Rattle.tt_model.specs.Step.{system, system_done, no_system_position, backup_position, backup_line}
use Rattle.tt_model.proofs.SoundLines.{sound-all_forced, sound-system_done}
use Rattle.tt_model.proofs.EditLemmas.{AreApart, new-MayEdit}
use Rattle.tt_model.proofs.RowLemmas.{AreRows, are_rows-rows_of, are_rows-filter, are_rows-in_order}
use Rattle.tt_model.proofs.CatalogLemmas.{LeaveUserTables, not_held_user}
use Rattle.tt_model.proofs.StatementLemmas.{unless-makes, makes_same, each_none}
use Rattle.tt_model.proofs.LineLemmas.{AreSome, sound-unless}
use Rattle.tt_model.proofs.SystemLemmas.{AreOfRows, AreBelow, of_rows-MayEdit, deletes-of_rows, deletes-apart, deletes-leave, below-deletes, below-append, apart-deletes, of_rows-append, leave-append, found-lies}

-- Edits of rows of system tables that one transaction may make.
pub record AreGood (s : State) (edits : List CellEdit) : Type 0 where
  pub some : AreSome edits
  pub of_rows : AreOfRows s edits
  pub apart : AreApart edits
  pub leave : LeaveUserTables edits

pub sound-good : (edits : List CellEdit) (s : State) → IsSound s → AreGood s edits → IsSound (system_done edits s)
sound-good [] s h g = absurd g.some
sound-good (e ∷ es) s h g = sound-system_done e es s h g.leave (of_rows-MayEdit s (e ∷ es) h g.of_rows g.apart)

pub sound-system_rows : (m : Meant) (s : State) → IsSound s → ((edits : List CellEdit) → m ≡ Makes edits → AreGood s edits) → IsSound ((system m s).1)
sound-system_rows (Refuses r) s h f = h
sound-system_rows (Makes edits) s h f = sound-unless (no_system_position edits s) _ _ s h (sound-good edits s h (f edits refl))

good_or_refused : (s : State) (o : Option Refusal) (es edits : List CellEdit) → AreGood s es → unless o (Makes es) ≡ Makes edits → AreGood s edits
good_or_refused s o es edits g h = subst (AreGood s) (makes_same es edits ((unless-makes o (Makes es) edits h).1)) g

pub refuses_none : (o : Option Refusal) (r : Refusal) (edits : List CellEdit) → unless o (Refuses r) ≡ Makes edits → ⊥
refuses_none o r edits h = let made : Refuses r ≡ Makes edits = (unless-makes o (Refuses r) edits h).1 in cc

pub not_refused : (b : Bool) (r : Refusal) → refused_if b r ≡ None → b ≡ false
not_refused true r h = let no : ⊥ = cc in absurd no
not_refused false r h = refl

-- ---- deletes of rows of one table

pub rows-good : (s : State) (table : ℕ) (rows : List PlacedRow) → table < 16 → AreRows table (cells_of s) rows → AreSome (map (deletes table) rows) → AreGood s (map (deletes table) rows)
rows-good s table rows low r some = record { some = some; of_rows = deletes-of_rows s table rows low r.lie; apart = deletes-apart table rows r.apart; leave = deletes-leave table rows }

pub are_system_rows : (table : ℕ) (s : State) → AreRows table (cells_of s) (system_rows table s)
are_system_rows table s = are_rows-rows_of table (bound s) (cells_of s)

some_rows : (table : ℕ) (rows : List PlacedRow) → (length rows == 0) ≡ false → AreSome (map (deletes table) rows)
some_rows table [] h = absurd (true≢false h)
some_rows table (r ∷ rows) h = tt

pub subscription-rows : (name : List ℕ) (table : ℕ) (s : State) → AreRows 5 (cells_of s) (subscription name table s)
subscription-rows name table s =
    are_rows-filter 5 (cells_of s) (λ r. number_at 1 r == table) (with_text_at 0 name (system_rows 5 s))
    (are_rows-filter 5 (cells_of s) (λ r. bytes_eq (text_at 0 r) name) (system_rows 5 s) (are_system_rows 5 s))

unsubscribe_good : (session : ℕ) (s : State) (name : List ℕ) (o : Option Table) (edits : List CellEdit) → unsubscribe session s name o ≡ Makes edits → AreGood s edits
unsubscribe_good session s name None edits h = absurd (refuses_none _ _ edits h)
unsubscribe_good session s name (Some t) edits h =
    let tests : List (Option Refusal) = in_transaction session s ∷ refused_if (not (is_some (bookmark name s))) NoBookmark ∷ refused_if (length (subscription name t.id s) == 0) NotSubscribed ∷ [] in
    let passed : first_of tests ≡ None = (unless-makes (first_of tests) (Makes (map (deletes 5) (subscription name t.id s))) edits h).0 in
    let there : (length (subscription name t.id s) == 0) ≡ false = not_refused (length (subscription name t.id s) == 0) NotSubscribed ((((each_none tests passed).1).1).0) in
    good_or_refused s (first_of tests) (map (deletes 5) (subscription name t.id s)) edits
    (rows-good s 5 (subscription name t.id s) (lit< tt) (subscription-rows name t.id s) (some_rows 5 (subscription name t.id s) there)) h

pub unsubscribe-good : (session : ℕ) (s : State) (table name : List ℕ) (edits : List CellEdit) → meant_by_unsubscribe session s table name ≡ Makes edits → AreGood s edits
unfolding meant_by_unsubscribe
unsubscribe-good session s table name edits h = unsubscribe_good session s name (table_named table (catalog s)) edits h

-- ---- deleting a bookmark

some-append : (xs ys : List CellEdit) → AreSome ys → AreSome (xs ++ ys)
some-append [] ys h = h
some-append (x ∷ xs) ys h = tt

-- A row that lies in its table, alone.
pub one_row : (table : ℕ) (s : State) (r : PlacedRow) → cells_of s (r.0) ≡ FullCell table (r.1) → AreRows table (cells_of s) (r ∷ [])
one_row table s r l = record { lie = (l, tt); apart = (refl, tt) }

-- The deletes of a table, and good edits of tables of lesser numbers.
and_good : (s : State) (table : ℕ) (rows : List PlacedRow) (ys : List CellEdit) → table < 16 → AreRows table (cells_of s) rows → AreGood s ys → AreBelow table (cells_of s) ys →
    AreGood s (map (deletes table) rows ++ ys)
and_good s table rows ys low r g b = record {
  some = some-append (map (deletes table) rows) ys g.some;
  of_rows = of_rows-append s (map (deletes table) rows) ys (deletes-of_rows s table rows low r.lie) g.of_rows;
  apart = apart-deletes table (cells_of s) rows ys r g.apart b;
  leave = leave-append (map (deletes table) rows) ys (deletes-leave table rows) g.leave;
}

pub bookmark-lies : (name : List ℕ) (s : State) (r : PlacedRow) → bookmark name s ≡ Some r → cells_of s (r.0) ≡ FullCell 4 (r.1)
bookmark-lies name s r e = found-lies 4 (cells_of s) (λ r. bytes_eq (text_at 0 r) name) (system_rows 4 s) r ((are_system_rows 4 s).lie) e

delete_bookmark_good : (session : ℕ) (s : State) (name : List ℕ) (o : Option PlacedRow) (edits : List CellEdit) → bookmark name s ≡ o →
    delete_bookmark session s name o ≡ Makes edits → AreGood s edits
delete_bookmark_good session s name None edits e h = absurd (refuses_none _ _ edits h)
delete_bookmark_good session s name (Some r) edits e h =
    let row : AreRows 4 (cells_of s) (r ∷ []) = one_row 4 s r (bookmark-lies name s r e) in
    good_or_refused s _ _ edits
    (and_good s 5 (by_number 1 (with_text_at 0 name (system_rows 5 s))) (map (deletes 4) (r ∷ [])) (lit< tt)
    (are_rows-in_order 5 (cells_of s) (λ a b. nat_cmp (number_at 1 a) (number_at 1 b)) (with_text_at 0 name (system_rows 5 s))
    (are_rows-filter 5 (cells_of s) (λ r. bytes_eq (text_at 0 r) name) (system_rows 5 s) (are_system_rows 5 s)))
    (rows-good s 4 (r ∷ []) (lit< tt) row tt)
    (below-deletes 5 4 (cells_of s) (r ∷ []) (lit< tt) row.lie))
    h

pub delete_bookmark-good : (session : ℕ) (s : State) (name : List ℕ) (edits : List CellEdit) → meant_by_delete_bookmark session s name ≡ Makes edits → AreGood s edits
unfolding meant_by_delete_bookmark
delete_bookmark-good session s name edits h = delete_bookmark_good session s name (bookmark name s) edits refl h

-- ---- acknowledging

pub rewrite-good : (s : State) (table : ℕ) (r : PlacedRow) (values : _) → table < 16 → cells_of s (r.0) ≡ FullCell table (r.1) → LeaveUserTables (rewrites table r values ∷ []) → AreGood s (rewrites table r values ∷ [])
rewrite-good s table r values low l u = record {
  some = tt;
  of_rows = (record { at = r.0; table = table; row = r.1; place = refl; before = refl; low = low; lies = l }, tt);
  apart = (λ p e. refl, tt);
  leave = u;
}

acknowledge_good : (session : ℕ) (s : State) (r : Reader) (o : Option PlacedRow) (edits : List CellEdit) → bookmark r.bookmark s ≡ o →
    acknowledge session s (reader_at r o) ≡ Makes edits → AreGood s edits
acknowledge_good session s r None edits e h = absurd (refuses_none _ _ edits h)
acknowledge_good session s r (Some at) edits e h =
    good_or_refused s (first_of (in_transaction session s ∷ [])) (rewrites 4 at (bookmark_values r.bookmark r.place) ∷ []) edits
    (rewrite-good s 4 at (bookmark_values r.bookmark r.place) (lit< tt) (bookmark-lies r.bookmark s at e) (not_held_user _ refl, tt)) h

reader_good : (session : ℕ) (s : State) (o : Option Reader) (edits : List CellEdit) → acknowledge session s (reader_row s o) ≡ Makes edits → AreGood s edits
reader_good session s None edits h = absurd (refuses_none _ _ edits h)
reader_good session s (Some r) edits h = acknowledge_good session s r (bookmark r.bookmark s) edits refl h

pub acknowledge-good : (session : ℕ) (s : State) (edits : List CellEdit) → meant_by_acknowledge session s ≡ Makes edits → AreGood s edits
unfolding meant_by_acknowledge
acknowledge-good session s edits h = reader_good session s (s.reader session) edits h

-- ---- dropping tables and indexes

any_swap : (a b c : Bool) → (a || (b || c)) ≡ (b || (a || c))
any_swap true true c = refl
any_swap true false c = refl
any_swap false b c = refl

any_inserted : (f : PlacedRow → Bool) (cmp : PlacedRow → PlacedRow → Ordering) (x y : PlacedRow) (ys : List PlacedRow) → list_any f (inserted cmp x ys) ≡ (f x || list_any f ys) →
    (c : Bool) → list_any f (cond c (y ∷ inserted cmp x ys) (x ∷ y ∷ ys)) ≡ (f x || (f y || list_any f ys))
any_inserted f cmp x y ys ih true = ap (λ b. f y || b) ih ∙ any_swap (f y) (f x) (list_any f ys)
any_inserted f cmp x y ys ih false = refl

any-inserted : (f : PlacedRow → Bool) (cmp : PlacedRow → PlacedRow → Ordering) (x : PlacedRow) (ys : List PlacedRow) → list_any f (inserted cmp x ys) ≡ (f x || list_any f ys)
any-inserted f cmp x [] = refl
any-inserted f cmp x (y ∷ ys) = any_inserted f cmp x y ys (any-inserted f cmp x ys) (is_gt (cmp x y))

pub any-in_order : (f : PlacedRow → Bool) (cmp : PlacedRow → PlacedRow → Ordering) (xs : List PlacedRow) → list_any f (in_order cmp xs) ≡ list_any f xs
any-in_order f cmp [] = refl
any-in_order f cmp (x ∷ xs) = any-inserted f cmp x (in_order cmp xs) ∙ ap (λ b. f x || b) (any-in_order f cmp xs)

-- What is found among what rows give, comes from a row with its number.
mapped_step : {X : Type 0} (g : PlacedRow → X) (id : X → ℕ) (same : (r : PlacedRow) → id (g r) ≡ number_at 0 r) (y : X) (r : PlacedRow) (o : Option X) (more : Bool) →
    (o ≡ Some y → more ≡ true) → (c : Bool) → cond c (Some (g r)) o ≡ Some y → ((number_at 0 r == id y) || more) ≡ true
mapped_step g id same y r o more ih true h =
    let found : g r ≡ y = ap (λ q. unwrap_or q (g r)) h in
    or_left (number_at 0 r == id y) more (eq-eqb (number_at 0 r) (id y) (sym (same r) ∙ ap id found))
mapped_step g id same y r o more ih false h = or_right (number_at 0 r == id y) more (ih h)

find-mapped : {X : Type 0} (g : PlacedRow → X) (id : X → ℕ) (same : (r : PlacedRow) → id (g r) ≡ number_at 0 r) (p : X → Bool) (rows : List PlacedRow) (y : X) →
    find p (map g rows) ≡ Some y → list_any (λ r. number_at 0 r == id y) rows ≡ true
find-mapped g id same p [] y h = let no : ⊥ = cc in absurd no
find-mapped g id same p (r ∷ rows) y h =
    mapped_step g id same y r (find p (map g rows)) (list_any (λ r. number_at 0 r == id y) rows) (λ k. find-mapped g id same p rows y k) (p (g r)) h

some_filter_step : (table : ℕ) (f : PlacedRow → Bool) (r : PlacedRow) (rows : List PlacedRow) → (list_any f rows ≡ true → AreSome (map (deletes table) (filter f rows))) →
    (c : Bool) → (c || list_any f rows) ≡ true → AreSome (map (deletes table) (cond c (r ∷ filter f rows) (filter f rows)))
some_filter_step table f r rows ih true h = tt
some_filter_step table f r rows ih false h = ih h

some-filter : (table : ℕ) (f : PlacedRow → Bool) (rows : List PlacedRow) → list_any f rows ≡ true → AreSome (map (deletes table) (filter f rows))
some-filter table f [] h = absurd (true≢false (sym h))
some-filter table f (r ∷ rows) h = some_filter_step table f r rows (some-filter table f rows) (f r) h

pub numbered-rows : (table column n : ℕ) (s : State) → AreRows table (cells_of s) (with_number_at column n (system_rows table s))
numbered-rows table column n s = are_rows-filter table (cells_of s) (λ r. number_at column r == n) (system_rows table s) (are_system_rows table s)

drop_index_good : (session : ℕ) (s : State) (name : List ℕ) (o : Option Index) (edits : List CellEdit) → index_named name (catalog s) ≡ o →
    drop_index session s o ≡ Makes edits → AreGood s edits
unfolding catalog_of
drop_index_good session s name None edits e h = absurd (refuses_none _ _ edits h)
drop_index_good session s name (Some i) edits e h =
    let there : list_any (λ r. number_at 0 r == i.id) (system_rows 3 s) ≡ true
    = sym (any-in_order (λ r. number_at 0 r == i.id) (λ a b. nat_cmp (number_at 0 a) (number_at 0 b)) (system_rows 3 s))
    ∙ find-mapped index_of (λ (i : Index). i.id) (λ r. refl) (λ i. bytes_eq i.name name) (by_number 0 (system_rows 3 s)) i e in
    good_or_refused s _ (map (deletes 3) (with_number_at 0 i.id (system_rows 3 s))) edits
    (rows-good s 3 (with_number_at 0 i.id (system_rows 3 s)) (lit< tt) (numbered-rows 3 0 i.id s) (some-filter 3 (λ r. number_at 0 r == i.id) (system_rows 3 s) there)) h

pub drop_index-good : (session : ℕ) (s : State) (name : List ℕ) (edits : List CellEdit) → meant_by_drop_index session s name ≡ Makes edits → AreGood s edits
unfolding meant_by_drop_index
drop_index-good session s name edits h = drop_index_good session s name (index_named name (catalog s)) edits refl h

drop_table_good : (session : ℕ) (s : State) (name : List ℕ) (o : Option Table) (edits : List CellEdit) → table_named name (catalog s) ≡ o →
    drop_table session s o ≡ Makes edits → AreGood s edits
unfolding catalog_of
drop_table_good session s name None edits e h = absurd (refuses_none _ _ edits h)
drop_table_good session s name (Some t) edits e h =
    let there : list_any (λ r. number_at 0 r == t.id) (system_rows 1 s) ≡ true
    = sym (any-in_order (λ r. number_at 0 r == t.id) (λ a b. nat_cmp (number_at 0 a) (number_at 0 b)) (system_rows 1 s))
    ∙ find-mapped (table_of (system_rows 2 s)) (λ (t : Table). t.id) (λ r. refl) (λ t. bytes_eq t.name name) (by_number 0 (system_rows 1 s)) t e in
    let first : AreRows 1 (cells_of s) (with_number_at 0 t.id (system_rows 1 s)) = numbered-rows 1 0 t.id s in
    let second : AreRows 2 (cells_of s) (by_number 1 (with_number_at 0 t.id (system_rows 2 s)))
    = are_rows-in_order 2 (cells_of s) (λ a b. nat_cmp (number_at 1 a) (number_at 1 b)) (with_number_at 0 t.id (system_rows 2 s)) (numbered-rows 2 0 t.id s) in
    let third : AreRows 3 (cells_of s) (by_number 0 (with_number_at 1 t.id (system_rows 3 s)))
    = are_rows-in_order 3 (cells_of s) (λ a b. nat_cmp (number_at 0 a) (number_at 0 b)) (with_number_at 1 t.id (system_rows 3 s)) (numbered-rows 3 1 t.id s) in
    let fifth : AreRows 5 (cells_of s) (by_text 0 (with_number_at 1 t.id (system_rows 5 s)))
    = are_rows-in_order 5 (cells_of s) (λ a b. slice_cmp nat_cmp (text_at 0 a) (text_at 0 b)) (with_number_at 1 t.id (system_rows 5 s)) (numbered-rows 5 1 t.id s) in
    let one : List CellEdit = map (deletes 1) (with_number_at 0 t.id (system_rows 1 s)) in
    let two : List CellEdit = map (deletes 2) (by_number 1 (with_number_at 0 t.id (system_rows 2 s))) in
    let three : List CellEdit = map (deletes 3) (by_number 0 (with_number_at 1 t.id (system_rows 3 s))) in
    let good_one : AreGood s one = rows-good s 1 _ (lit< tt) first (some-filter 1 (λ r. number_at 0 r == t.id) (system_rows 1 s) there) in
    let good_two : AreGood s (two ++ one) = and_good s 2 _ one (lit< tt) second good_one (below-deletes 2 1 (cells_of s) _ (lit< tt) first.lie) in
    let good_three : AreGood s (three ++ (two ++ one))
    = and_good s 3 _ (two ++ one) (lit< tt) third good_two (below-append 3 (cells_of s) two one (below-deletes 3 2 (cells_of s) _ (lit< tt) second.lie) (below-deletes 3 1 (cells_of s) _ (lit< tt) first.lie)) in
    good_or_refused s _ _ edits
    (and_good s 5 _ (three ++ (two ++ one)) (lit< tt) fifth good_three
    (below-append 5 (cells_of s) three (two ++ one) (below-deletes 5 3 (cells_of s) _ (lit< tt) third.lie)
    (below-append 5 (cells_of s) two one (below-deletes 5 2 (cells_of s) _ (lit< tt) second.lie) (below-deletes 5 1 (cells_of s) _ (lit< tt) first.lie))))
    h

pub drop_table-good : (session : ℕ) (s : State) (name : List ℕ) (edits : List CellEdit) → meant_by_drop_table session s name ≡ Makes edits → AreGood s edits
unfolding meant_by_drop_table
drop_table-good session s name edits h = drop_table_good session s name (table_named name (catalog s)) edits refl h

-- ---- backups

sound-set_row : (o : Option PlacedRow) (set : ℕ) (end : Position) (s : State) → IsSound s → ((r : PlacedRow) → o ≡ Some r → cells_of s (r.0) ≡ FullCell 6 (r.1)) →
    IsSound (system_done (set_edit o set end ∷ []) s)
sound-set_row None set end s h l = sound-system_done (set_edit None set end) [] s h (not_held_user _ refl, tt) (new-MayEdit (next s) (set_edit None set end ∷ []) s h.entries (inr refl) (refl, refl, tt))
sound-set_row (Some r) set end s h l = sound-good (set_edit (Some r) set end ∷ []) s h (rewrite-good s 6 r _ (lit< tt) (l r refl) (not_held_user _ refl, tt))

pub set-lies : (set : ℕ) (s : State) (r : PlacedRow) → row_of_set set s ≡ Some r → cells_of s (r.0) ≡ FullCell 6 (r.1)
set-lies set s r e = found-lies 6 (cells_of s) (λ r. number_at 0 r == set) (system_rows 6 s) r ((are_system_rows 6 s).lie) e

pub sound-with_set : (set : ℕ) (standing : Option SetStanding) (s : State) → IsSound s → IsSound (with_set set standing (all_forced s))
sound-with_set set standing s h = let forced : IsSound (all_forced s) = sound-all_forced s h in record { entries = forced.entries; owned = forced.owned; catalog = forced.catalog }

sound-set : (set : ℕ) (standing : Option SetStanding) (s : State) → IsSound s → IsSound (system_done (set_edit (row_of_set set s) set (write_position s) ∷ []) (with_set set standing (all_forced s)))
unfolding all_forced
sound-set set standing s h =
    sound-set_row (row_of_set set s) set (write_position s) (with_set set standing (all_forced s)) (sound-with_set set standing s h) (λ r e. set-lies set s r e)

sound-stop : (set : ℕ) (s : State) (o : Option PlacedRow) → row_of_set set s ≡ o → IsSound s → IsSound (elim o [ None ↦ s | Some r ↦ system_done (deletes 6 r ∷ []) s ])
sound-stop set s None e h = h
sound-stop set s (Some r) e h = sound-good (map (deletes 6) (r ∷ [])) s h (rows-good s 6 (r ∷ []) (lit< tt) (one_row 6 s r (set-lies set s r e)) tt)

pub sound-backup_line : (session set : ℕ) (work : SetWork) (s : State) → IsSound s → IsSound ((backup_line session set work s).1)
sound-backup_line session set (MakesSet false) s h =
    sound-unless (option_or (backup_refusal session s set (MakesSet false)) (backup_position set (MakesSet false) s)) _ _ s h (sound-with_set set (Some (Readable (full_now s))) s h)
sound-backup_line session set (MakesSet true) s h =
    sound-unless (option_or (backup_refusal session s set (MakesSet true)) (backup_position set (MakesSet true) s)) _ _ s h (sound-set set (Some (Readable (full_now s))) s h)
sound-backup_line session set ContinuesSet s h =
    sound-unless (option_or (backup_refusal session s set ContinuesSet) (backup_position set ContinuesSet s)) _ _ s h (sound-set set (extended_now (s.sets set) s) s h)
sound-backup_line session set EndsSet s h =
    sound-unless (option_or (backup_refusal session s set EndsSet) (backup_position set EndsSet s)) _ _ s h (sound-stop set s (row_of_set set s) refl h)
