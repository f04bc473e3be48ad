-- What a select is answered depends on what is committed and on its session's own Changes alone.
use Rattle.std.proofs.Common.{◌≡◌, ◌≤◌, ◌<◌, ◌+◌, inl, inr, ℕ, zero, suc, Bool, true, false, cond, nat_eq, nat_le, List, [], ◌∷◌, filter, map, Option, Some, None, refl, sym, ap, ◌∙◌, subst, arith, true≢false}
use Rattle.std.proofs.lemmas.Bool.{cases_Bool, leb-true, leb-false, or_left, or_right, false_from_ne_true}
use Rattle.std.specs.Prelude.{option_map, Result, Ok, Err}
use Rattle.std.specs.List.{filter_map, cons_option, list_any}
use Rattle.tt_value.specs.declared.value.Cell.{Cell}
use Rattle.tt_value.specs.declared.value.Cell.TheVariants.{Empty, Full}
use Rattle.tt_parse.specs.declared.cond.Cond.{Cond}
use Rattle.tt_parse.specs.declared.command.Items.{Items}
use Rattle.tt_parse.specs.declared.command.OrderItem.{OrderItem}
use Rattle.tt_parse.specs.declared.command.Command.TheVariants.{Select}
use Rattle.tt_record.specs.declared.entry.Entry.{Entry}
use Rattle.tt_record.specs.declared.entry.Entry.TheVariants.{Change, Commit, Abort, Mark, Switch}
use Rattle.tt_model.specs.Trail.{Trail}
use Rattle.tt_model.specs.Committed.{Cells, put, is_full, changed, changed_by}
use Rattle.tt_model.specs.Live.{live, is_live, touched, in_use, view_of, numbers_from}
use Rattle.tt_model.specs.Tables.{Table, PlacedRow, row_in, row_at, rows_of, in_order, table_of, index_of, by_number, catalog_of, table_named, Catalog}
use Rattle.tt_model.specs.Conditions.{takes}
use Rattle.tt_model.specs.Meaning.{rows_unless, select_refusal, shown, order_cmp, select_in, rows_seen, meant_by_select}
use Rattle.tt_value.specs.declared.refusal.Refusal.TheVariants.{NoTable}
use Rattle.tt_model.specs.State.{State, Underway, trail, view, cells_of, bound, catalog}
use Rattle.tt_model.specs.Sound.{IsSound}
use Rattle.tt_model.specs.Checkpoint.{copied, with_copies}
use Rattle.tt_model.specs.Step.{line, selected}
use Rattle.tt_model.specs.WholeRuns.{Made, with_change, changes_of, changes_by, LookAlike, SelectsAreIsolated}
use Rattle.tt_model.proofs.SteadyLemmas.{changed_by-untouched}
use Rattle.tt_model.proofs.HolderLemmas.{has_one}
use Rattle.tt_model.proofs.SoundLemmas.{is_live-marked, touched-trail}
use Rattle.tt_model.proofs.SoundLines.{sound-with_copies}
use Rattle.tt_value.specs.declared.value.Row.{Row}
use Rattle.tt_value.specs.declared.refusal.Refusal.{Refusal}

-- ---- a view is what is committed with the own Changes put over it

abbrev over : List Made → Cells → Cells
over [] cells = cells
over (m ∷ ms) cells = put m.place m.after (over ms cells)

put_where : (p : ℕ) (b a : Cell) (ms : List Made) (cells : Cells) (c : Bool) → cond c (put p a (over ms cells)) (over ms cells) ≡ over (cond c (record { place = p; before = b; after = a } ∷ ms) ms) cells
put_where p b a ms cells true = refl
put_where p b a ms cells false = refl

over_step : (t : ℕ) (x : Entry) (ms : List Made) (cells : Cells) → changed t x (over ms cells) ≡ over (with_change t x ms) cells
over_step t (Change u p b a) ms cells = put_where p b a ms cells (nat_eq t u)
over_step t (Commit u) ms cells = refl
over_step t (Abort u) ms cells = refl
over_step t Mark ms cells = refl
over_step t (Switch n) ms cells = refl

changed_by-over : (t : ℕ) (es : Trail) (cells : Cells) → changed_by t es cells ≡ over (changes_of t es) cells
changed_by-over t [] cells = refl
changed_by-over t (e ∷ es) cells = ap (changed t e.entry) (changed_by-over t es cells) ∙ over_step t e.entry (changes_of t es) cells

view-over : (o : Option ℕ) (es : Trail) (cells : Cells) → view_of o es cells ≡ over (changes_by o es) cells
view-over None es cells = refl
view-over (Some t) es cells = changed_by-over t es cells

cells-alike : (session : ℕ) (s other : State) → LookAlike session s other → cells_of s ≡ cells_of other
cells-alike session s other l = λ i q. l.cells q i

view-alike : (session : ℕ) (s other : State) → LookAlike session s other → view session s ≡ view session other
view-alike session s other l =
    view-over (s.own session) s.entries (cells_of s)
    ∙ (ap (λ (ms : List Made). over ms (cells_of s)) l.own ∙ (ap (over (changes_by (other.own session) other.entries)) (cells-alike session s other l)
    ∙ sym (view-over (other.own session) other.entries (cells_of other))))

-- ---- rows below two bounds

pub IsEmptyFrom : ℕ → Cells → Type 0
IsEmptyFrom k cells = (q : ℕ) → k ≤ q → is_full (cells q) ≡ false

no_row : (table q : ℕ) (c : Cell) → is_full c ≡ false → option_map {U = PlacedRow} (λ row. (q, row)) (row_in table c) ≡ None
no_row table q Empty e = refl
no_row table q (Full u row) e = absurd (true≢false e)

none_from : (table k n from : ℕ) (cells : Cells) → IsEmptyFrom k cells → k ≤ from → filter_map (row_at table cells) (numbers_from n from) ≡ []
unfolding IsEmptyFrom
none_from table k zero from cells e l = refl
none_from table k (suc n) from cells e l =
    ap (λ (o : Option PlacedRow). cons_option o (filter_map (row_at table cells) (numbers_from n (suc from)))) (no_row table from (cells from) (e from l))
    ∙ none_from table k n (suc from) cells e (omega (arith, l))

longer : (table k n m from : ℕ) (cells : Cells) → IsEmptyFrom k cells → k ≤ from + n → n ≤ m →
    filter_map (row_at table cells) (numbers_from m from) ≡ filter_map (row_at table cells) (numbers_from n from)
longer table k zero m from cells e l h = none_from table k m from cells e (omega (arith, l))
longer table k (suc n) zero from cells e l h = let no : ⊥ = omega (arith, h) in absurd no
longer table k (suc n) (suc m) from cells e l h =
    ap (cons_option (row_at table cells from)) (longer table k n m (suc from) cells e (omega (arith, l)) (omega (arith, h)))

-- Where no row lies at or above either bound, the rows below both are the same.
pub rows_of-bounds : (table m n : ℕ) (cells : Cells) → IsEmptyFrom m cells → IsEmptyFrom n cells → rows_of table m cells ≡ rows_of table n cells
unfolding rows_of
rows_of-bounds table m n cells e f = elim (cases_Bool (nat_le m n)) [
  | inl y ↦ sym (longer table m m n 0 cells e (omega arith) (leb-true m n y))
  | inr y ↦ longer table n n m 0 cells f (omega arith) (let over : n < m = leb-false m n y in omega (arith, over))
]

-- Of a sound state every row lies below the bound, of the committed ones and of those that a session sees.
pub full-below : (s : State) (q : ℕ) → IsSound s → is_full (cells_of s q) ≡ true → q < bound s
unfolding in_use
full-below s q h y = (h.entries).below q (or_left (is_full (cells_of s q)) (list_any (λ t. touched t q (trail s)) (live (trail s))) y)

pub touched-below_bound : (s : State) (t q : ℕ) → IsSound s → is_live t s.entries ≡ true → touched t q s.entries ≡ true → q < bound s
unfolding in_use
touched-below_bound s t q h l y =
    (h.entries).below q (or_right (is_full (cells_of s q)) (list_any (λ u. touched u q (trail s)) (live (trail s)))
    (has_one (λ u. touched u q (trail s)) t (live (trail s)) (is_live-marked t s.entries s.found.entries (h.entries).marked ∙ l) (touched-trail t q s.entries s.found.entries y)))

pub seen-below : (s : State) (q : ℕ) (o : Option ℕ) → ((t : ℕ) → o ≡ Some t → is_live t s.entries ≡ true) → IsSound s → is_full (view_of o s.entries (cells_of s) q) ≡ true → q < bound s
seen-below s q None lives h y = full-below s q h y
seen-below s q (Some t) lives h y = elim (cases_Bool (touched t q s.entries)) [
  | inl k ↦ touched-below_bound s t q h (lives t refl) k
  | inr k ↦ full-below s q h (ap is_full (sym (changed_by-untouched t q s.entries (cells_of s) k)) ∙ y)
]

pub empty_above : (k : ℕ) (cells : Cells) → ((q : ℕ) → is_full (cells q) ≡ true → q < k) → IsEmptyFrom k cells
unfolding IsEmptyFrom
empty_above k cells h q l = false_from_ne_true (is_full (cells q)) (λ y. let low : q < k = h q y in omega (arith, low, l))

cells_empty : (s : State) → IsSound s → IsEmptyFrom (bound s) (cells_of s)
cells_empty s h = empty_above (bound s) (cells_of s) (λ q y. full-below s q h y)

view_empty : (session : ℕ) (s : State) → IsSound s → IsEmptyFrom (bound s) (view session s)
view_empty session s h = empty_above (bound s) (view session s) (λ q y. seen-below s q (s.own session) (λ t e. (h.owned).live session t e) h y)

-- ---- the same rows

same-rows : (table m n : ℕ) (cells others : Cells) → IsEmptyFrom m cells → IsEmptyFrom n others → cells ≡ others → rows_of table m cells ≡ rows_of table n others
same-rows table m n cells others e f same =
    rows_of-bounds table m n cells e (subst (IsEmptyFrom n) (sym same) f) ∙ ap (rows_of table n) same

abbrev catalog_from : List PlacedRow → List PlacedRow → List PlacedRow → Catalog
catalog_from tables columns indexes = record { tables = map (table_of columns) (by_number 0 tables); indexes = map index_of (by_number 0 indexes) }

catalog-alike : (session : ℕ) (s other : State) → IsSound s → IsSound other → LookAlike session s other → catalog s ≡ catalog other
unfolding catalog_of
catalog-alike session s other h k l =
    let rows : (table : ℕ) → rows_of table (bound s) (cells_of s) ≡ rows_of table (bound other) (cells_of other)
    = λ table. same-rows table (bound s) (bound other) (cells_of s) (cells_of other) (cells_empty s h) (cells_empty other k) (cells-alike session s other l) in
    ap (λ x. catalog_from x (rows_of 2 (bound s) (cells_of s)) (rows_of 3 (bound s) (cells_of s))) (rows 1)
    ∙ (ap (λ x. catalog_from (rows_of 1 (bound other) (cells_of other)) x (rows_of 3 (bound s) (cells_of s))) (rows 2)
    ∙ ap (catalog_from (rows_of 1 (bound other) (cells_of other)) (rows_of 2 (bound other) (cells_of other))) (rows 3))

rows-alike : (session : ℕ) (s other : State) → IsSound s → IsSound other → LookAlike session s other → (t : Table) → rows_seen session s t ≡ rows_seen session other t
rows-alike session s other h k l t =
    same-rows t.id (bound s) (bound other) (view session s) (view session other) (view_empty session s h) (view_empty session other k) (view-alike session s other l)

-- ---- the same meaning

abbrev select_from : (Table → List PlacedRow) → Items → Option Cond → List OrderItem → Option Table → Result (List Row) Refusal
select_from seen items cond order None = Err NoTable
select_from seen items cond order (Some t) =
    rows_unless (select_refusal t items cond order)
    (shown t items (in_order (order_cmp t order) (filter (λ (r : PlacedRow). takes cond t (r.1)) (seen t))))

select-from : (session : ℕ) (s : State) (items : Items) (cond : Option Cond) (order : List OrderItem) (o : Option Table) →
    select_in session s items cond order o ≡ select_from (rows_seen session s) items cond order o
select-from session s items cond order None = refl
select-from session s items cond order (Some t) = refl

select-alike : (session : ℕ) (table : List ℕ) (items : Items) (cond : Option Cond) (order : List OrderItem) (s other : State) → IsSound s → IsSound other → LookAlike session s other →
    meant_by_select session s table items cond order ≡ meant_by_select session other table items cond order
unfolding meant_by_select
select-alike session table items cond order s other h k l =
    let seen : (Table → List PlacedRow) = rows_seen session s in
    let seen_other : (Table → List PlacedRow) = rows_seen session other in
    select-from session s items cond order (table_named table (catalog s))
    ∙ (ap (λ (f : Table → List PlacedRow). select_from f items cond order (table_named table (catalog s))) (λ i t. rows-alike session s other h k l t i)
    ∙ (ap (λ (c : Catalog). select_from seen_other items cond order (table_named table c)) (catalog-alike session s other h k l)
    ∙ sym (select-from session other items cond order (table_named table (catalog other)))))

same_reply : (rows : Result (List Row) Refusal) (s other : State) → (selected rows s).0 ≡ (selected rows other).0
same_reply (Ok rows) s other = refl
same_reply (Err r) s other = refl

answer-alike : (session : ℕ) (table : List ℕ) (items : Items) (cond : Option Cond) (order : List OrderItem) (s other : State) → IsSound s → IsSound other → LookAlike session s other →
    (line session (Select table items cond order) s).0 ≡ (line session (Select table items cond order) other).0
unfolding line
answer-alike session table items cond order s other h k l =
    same_reply (meant_by_select session s table items cond order) s other
    ∙ ap (λ rows. (selected rows other).0) (select-alike session table items cond order s other h k l)

-- ---- rounds

copied-alike : (session n m : ℕ) (o p : Option Underway) (s other : State) → LookAlike session s other → LookAlike session (copied n o s) (copied m p other)
copied-alike session n m None None s other l = l
copied-alike session n m None (Some c) s other l = record { settings = l.settings; cells = l.cells; own = l.own }
copied-alike session n m (Some b) None s other l = record { settings = l.settings; cells = l.cells; own = l.own }
copied-alike session n m (Some b) (Some c) s other l = record { settings = l.settings; cells = l.cells; own = l.own }

copies-alike : (session : ℕ) (s other : State) → LookAlike session s other → LookAlike session (with_copies s) (with_copies other)
unfolding with_copies
copies-alike session s other l = copied-alike session s.settings.ckpt_pages other.settings.ckpt_pages s.underway other.underway s other l

pub selects_are_isolated : SelectsAreIsolated
selects_are_isolated session table items cond order s other reply other_reply after other_after h k l st other_st = elim st.line [
  | inr w ↦ inl (w.1)
  | inl t ↦ elim other_st.line [
    | inr w ↦ inr (inl (w.1))
    | inl u ↦ inr (inr (t.0
        ∙ (answer-alike session table items cond order (with_copies s) (with_copies other) (sound-with_copies s h) (sound-with_copies other k) (copies-alike session s other l) ∙ sym (u.0))))
  ]
]
