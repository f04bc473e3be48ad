-- A transaction of its own that writes one row of a system table leaves a good catalog.
use Rattle.std.proofs.Common.{◌≡◌, ◌<◌, ◌≤◌, inl, inr, ℕ, true, false, nat_eq, List, [], ◌∷◌, Option, Some, None, refl, sym, ap, ◌∙◌, subst, arith, true≢false}
use Rattle.std.proofs.lemmas.Bool.{eq-eqb, lt-ltb, cases_order, and_from, both_ways, cond-true, cond-false, or_parts}
use Rattle.std.specs.Prelude.{nat_lt}
use Rattle.std.specs.List.{list_any}
use Rattle.tt_value.specs.declared.value.Value.{Value}
use Rattle.tt_value.specs.declared.value.Row.{Row}
use Rattle.tt_value.specs.declared.value.Cell.{Cell}
use Rattle.tt_value.specs.declared.value.Cell.TheVariants.{Empty, Full}
use Rattle.tt_model.specs.Committed.{Cells, is_full, put}
use Rattle.tt_model.specs.Live.{live, touched, in_use}
use Rattle.tt_model.specs.Holders.{value_at, values_at}
use Rattle.tt_model.specs.Values.{same_values}
use Rattle.tt_model.specs.Tables.{PlacedRow}
use Rattle.tt_model.specs.State.{State, trail, cells_of, bound, free_place}
use Rattle.tt_model.specs.declared.definition.CellEdit.{CellEdit}
use Rattle.tt_model.specs.System.{adds, rewrites, row}
use Rattle.tt_model.specs.Step.{system_done}
use Rattle.tt_model.specs.Sound.{IsSound}
use Rattle.tt_model.specs.Damage.{SystemTable, Tables, Columns, Bookmarks, Sets, id_of, has_wrong_values, has_wrong_size, is_free_key, has_wrong_columns, lacks_table, lacks_bookmark, has_wrong_positions, is_past_limit, key_columns, limit_of}
use Rattle.tt_model.proofs.ConflictLemmas.{same_values-self}
use Rattle.tt_model.proofs.EditLemmas.{free-not_used}
use Rattle.tt_model.proofs.IsolationLemmas.{full-below}
use Rattle.tt_model.proofs.SoundLines.{sound-system_done}
use Rattle.tt_model.proofs.SystemLines.{sound-good, rewrite-good}
use Rattle.tt_model.proofs.CatalogLemmas.{LeaveUserTables}
use Rattle.tt_model.proofs.BookmarkLines.{may_new}
use Rattle.tt_model.proofs.GoodPlaces.{none-there}
use Rattle.tt_model.proofs.GoodCells.{IsGood, no_row, rows_in, id_low, LiesBelow}
use Rattle.tt_model.proofs.GoodFrames.{group}
use Rattle.tt_model.proofs.GoodRemovals.{before_test, there_before}
use Rattle.tt_model.proofs.GoodPuts.{name_columns, is_columns, good-put}
use Rattle.tt_model.proofs.GoodLimits.{group_size, limit-added, limit-rewritten}
use Rattle.tt_model.proofs.GoodEdits.{cells-system_done}
use Rattle.tt_model.proofs.GoodDeletes.{HasGood, good-lift}

-- ---- a row in a place

pub put-here : (p : ℕ) (x : Cell) (cells : Cells) → put p x cells p ≡ x
put-here p x cells = cond-true (nat_eq p p) x (cells p) (eq-eqb p p refl)

pub put-other : (p q : ℕ) (x : Cell) (cells : Cells) → nat_eq q p ≡ false → put p x cells q ≡ cells q
put-other p q x cells n = cond-false (nat_eq q p) x (cells q) n

pub not_full : (c : Cell) → is_full c ≡ false → c ≡ Empty
not_full Empty n = refl
not_full (Full id r) n = absurd (true≢false n)

pub free-empty : (s : State) → IsSound s → cells_of s (free_place s) ≡ Empty
unfolding in_use
free-empty s h = not_full (cells_of s (free_place s)) ((or_parts (is_full (cells_of s (free_place s))) (list_any (λ t. touched t (free_place s) (trail s)) (live (trail s))) (free-not_used s h.entries)).0)

-- ---- a new row

-- A row that may be added to a table other than TABLES and COLUMNS.
pub record MayJoin (bound : ℕ) (c : Cells) (own : SystemTable) (new : Row) : Type 0 where
  pub values : has_wrong_values own new ≡ false
  pub size : has_wrong_size own new ≡ false
  pub free_key : is_free_key own new ≡ false
  pub key : (q : ℕ) (r : Row) → c q ≡ Full (id_of own) r → values_at (key_columns own) r ≡ values_at (key_columns own) new → ⊥
  pub name : (q : ℕ) (r : Row) (columns : List ℕ) → c q ≡ Full (id_of own) r → name_columns own ≡ Some columns → values_at columns r ≡ values_at columns new → ⊥
  pub columns : (rows : List PlacedRow) → has_wrong_columns own new rows ≡ false
  pub other : is_columns own ≡ false
  pub table_there : lacks_table own new (rows_in bound c Tables) ≡ false
  pub bookmark_there : lacks_bookmark own new (rows_in bound c Bookmarks) ≡ false
  pub positions : (p : ℕ) → has_wrong_positions own (p, new) (rows_in bound c Columns) ≡ false
  pub room : (most : ℕ) → limit_of own ≡ Some most → group_size bound own new c < most

pub good-joined : (bound p : ℕ) (c : Cells) (own : SystemTable) (new : Row) → c p ≡ Empty → LiesBelow bound (put p (Full (id_of own) new) c) → MayJoin bound c own new → IsGood bound c →
    IsGood bound (put p (Full (id_of own) new) c)
good-joined bound p c own new free below may g =
    let d : Cells = put p (Full (id_of own) new) c in
    let here : d p ≡ Full (id_of own) new = put-here p (Full (id_of own) new) c in
    let others : (q : ℕ) → nat_eq q p ≡ false → d q ≡ c q = λ q n. put-other p q (Full (id_of own) new) c n in
    good-put no_row bound c d own p new (record {
      here = here;
      others = others;
      low = below p (ap is_full here);
      was = inl free;
      values = may.values;
      size = may.size;
      free_key = may.free_key;
      key = λ q r n e v. may.key q r e v;
      name = λ q r columns n e k v. may.name q r columns e k v;
      columns = λ n. may.columns (rows_in bound d Columns);
      column_tables = λ q r y. absurd (both_ways (is_columns own) may.other y);
      column_indexes = λ q r y. absurd (both_ways (is_columns own) may.other y);
      table_there = may.table_there;
      bookmark_there = may.bookmark_there;
      positions = may.positions p;
      limit = λ q r e. limit-added bound c d own p new here others no_row g may.room q r (below q (ap is_full e)) e;
    }) g

-- A line that adds one row.
pub good-adds : (s : State) (own : SystemTable) (values : List Value) → IsSound s → LeaveUserTables (adds (id_of own) values ∷ []) →
    ((n : ℕ) → bound s ≤ n → MayJoin n (cells_of s) own (row values)) → HasGood s → HasGood (system_done (adds (id_of own) values ∷ []) s)
good-adds s own values h leave may g =
    let edit : CellEdit = adds (id_of own) values in
    let after : State = system_done (edit ∷ []) s in
    let sound : IsSound after = sound-system_done edit [] s h leave (may_new s (edit ∷ []) h (refl, refl, tt)) in
    good-lift s after h sound (λ n l m k.
    subst (λ (x : Cells). IsGood n x) (sym (cells-system_done (edit ∷ []) s))
    (good-joined n (free_place s) (cells_of s) own (row values) (free-empty s h)
    (λ q f. let low : q < bound after = full-below after q sound (ap (λ (x : Cells). is_full (x q)) (cells-system_done (edit ∷ []) s) ∙ f) in omega (arith, low, m)) (may n l) k)) g

-- ---- a row that is written anew

-- Another row of its table has another key.
key-other : (bound : ℕ) (c : Cells) (own : SystemTable) → LiesBelow bound c → IsGood bound c → (p q : ℕ) (old r : Row) → nat_eq q p ≡ false → c p ≡ Full (id_of own) old → c q ≡ Full (id_of own) r →
    values_at (key_columns own) r ≡ values_at (key_columns own) old → ⊥
key-other bound c own below g p q old r n e f v = elim (cases_order q p) [
  | inl same ↦ both_ways (nat_eq q p) n (eq-eqb q p same)
  | inr (inl less) ↦
      both_ways (before_test (key_columns own) p old (q, r))
      (none-there (before_test (key_columns own) p old) (id_of own) bound c q r
      (sym (there_before (key_columns own) p old (rows_in bound c own)) ∙ (g.follow own p old e).key) f (below q (ap is_full f)))
      (and_from (same_values (values_at (key_columns own) r) (values_at (key_columns own) old)) (nat_lt q p)
      (ap (λ vs. same_values vs (values_at (key_columns own) old)) v ∙ same_values-self (values_at (key_columns own) old)) (lt-ltb q p less))
  | inr (inr more) ↦
      both_ways (before_test (key_columns own) q r (p, old))
      (none-there (before_test (key_columns own) q r) (id_of own) bound c p old
      (sym (there_before (key_columns own) q r (rows_in bound c own)) ∙ (g.follow own q r f).key) e (below p (ap is_full e)))
      (and_from (same_values (values_at (key_columns own) old) (values_at (key_columns own) r)) (nat_lt p q)
      (ap (λ vs. same_values (values_at (key_columns own) old) vs) v ∙ same_values-self (values_at (key_columns own) old)) (lt-ltb p q more))
]

-- A table whose rows are known by their first value, name no other row, and are all counted together.
pub record IsAlone (own : SystemTable) : Type 0 where
  pub key_is : key_columns own ≡ 0 ∷ []
  pub size : (r : Row) → has_wrong_size own r ≡ false
  pub free_key : (r : Row) → is_free_key own r ≡ false
  pub name : name_columns own ≡ None
  pub columns : (r : Row) (rows : List PlacedRow) → has_wrong_columns own r rows ≡ false
  pub other : is_columns own ≡ false
  pub table_there : (r : Row) (rows : List PlacedRow) → lacks_table own r rows ≡ false
  pub bookmark_there : (r : Row) (rows : List PlacedRow) → lacks_bookmark own r rows ≡ false
  pub positions : (r : PlacedRow) (rows : List PlacedRow) → has_wrong_positions own r rows ≡ false
  pub group_all : (r : Row) (x : PlacedRow) → group own r x ≡ true
  pub limit_alike : (q : ℕ) (r other : Row) (rows : List PlacedRow) → is_past_limit own (q, r) rows ≡ is_past_limit own (q, other) rows

pub bookmarks-alone : IsAlone Bookmarks
bookmarks-alone = record {
  key_is = refl;
  size = λ r. refl;
  free_key = λ r. refl;
  name = refl;
  columns = λ r rows. refl;
  other = refl;
  table_there = λ r rows. refl;
  bookmark_there = λ r rows. refl;
  positions = λ r rows. refl;
  group_all = λ r x. refl;
  limit_alike = λ q r other rows. refl;
}

pub sets-alone : IsAlone Sets
sets-alone = record {
  key_is = refl;
  size = λ r. refl;
  free_key = λ r. refl;
  name = refl;
  columns = λ r rows. refl;
  other = refl;
  table_there = λ r rows. refl;
  bookmark_there = λ r rows. refl;
  positions = λ r rows. refl;
  group_all = λ r x. refl;
  limit_alike = λ q r other rows. refl;
}

first_value : (own : SystemTable) → IsAlone own → (r new old : Row) → value_at old 0 ≡ value_at new 0 → values_at (key_columns own) r ≡ values_at (key_columns own) new → values_at (key_columns own) r ≡ values_at (key_columns own) old
first_value own a r new old e v =
    v ∙ (ap (λ ks. values_at ks new) a.key_is ∙ (ap (λ x. x ∷ []) (sym e) ∙ ap (λ ks. values_at ks old) (sym a.key_is)))

pub some-none : (o : Option (List ℕ)) (columns : List ℕ) → o ≡ None → o ≡ Some columns → ⊥
some-none o columns n e = let no : None ≡ Some columns = sym n ∙ e in cc

good-rewritten : (bound p : ℕ) (c : Cells) (own : SystemTable) (old new : Row) → IsAlone own → c p ≡ Full (id_of own) old → value_at old 0 ≡ value_at new 0 → LiesBelow bound c → has_wrong_values own new ≡ false →
    IsGood bound c → IsGood bound (put p (Full (id_of own) new) c)
good-rewritten bound p c own old new a was first below values g =
    let d : Cells = put p (Full (id_of own) new) c in
    let here : d p ≡ Full (id_of own) new = put-here p (Full (id_of own) new) c in
    let others : (q : ℕ) → nat_eq q p ≡ false → d q ≡ c q = λ q n. put-other p q (Full (id_of own) new) c n in
    good-put no_row bound c d own p new (record {
      here = here;
      others = others;
      low = below p (ap is_full was);
      was = inr (old, was, first);
      values = values;
      size = a.size new;
      free_key = a.free_key new;
      key = λ q r n e v. key-other bound c own below g p q old r n was e (first_value own a r new old first v);
      name = λ q r columns n e k v. some-none (name_columns own) columns a.name k;
      columns = λ n. a.columns new (rows_in bound d Columns);
      column_tables = λ q r y. absurd (both_ways (is_columns own) a.other y);
      column_indexes = λ q r y. absurd (both_ways (is_columns own) a.other y);
      table_there = a.table_there new (rows_in bound c Tables);
      bookmark_there = a.bookmark_there new (rows_in bound c Bookmarks);
      positions = a.positions (p, new) (rows_in bound c Columns);
      limit = limit-rewritten bound c d own p new here others no_row g a.group_all a.limit_alike old was;
    }) g

-- A line that writes one row anew.
pub good-rewrites : (s : State) (own : SystemTable) (r : PlacedRow) (values : List Value) → IsSound s → IsAlone own → LeaveUserTables (rewrites (id_of own) r values ∷ []) → cells_of s (r.0) ≡ Full (id_of own) (r.1) →
    value_at (r.1) 0 ≡ value_at (row values) 0 → has_wrong_values own (row values) ≡ false → HasGood s → HasGood (system_done (rewrites (id_of own) r values ∷ []) s)
good-rewrites s own r values h a leave lies first right g =
    let edit : CellEdit = rewrites (id_of own) r values in
    let after : State = system_done (edit ∷ []) s in
    let sound : IsSound after = sound-good (edit ∷ []) s h (rewrite-good s (id_of own) r values (id_low own) lies leave) in
    good-lift s after h sound (λ n l m k.
    subst (λ (x : Cells). IsGood n x) (sym (cells-system_done (edit ∷ []) s))
    (good-rewritten n (r.0) (cells_of s) own (r.1) (row values) a lies first (λ q f. let low : q < bound s = full-below s q h f in omega (arith, low, l)) right k)) g
