-- Runs of inserts, one after another, into a table with a key: what each is answered, and what they leave, by induction on their
-- number. No line is computed on its own.
use Rattle.std.proofs.Common.{◌≡◌, ◌≤◌, ◌<◌, ℕ, zero, suc, pos, ◌+◌, ◌*◌, ◌/◌, ◌^◌, max, Bool, true, false, not, ◌&&◌, ◌||◌, nat_eq, nat_lt, nat_le, List, [], ◌∷◌, ◌++◌, map, length, replicate, codes, Option, Some, None, if◌then◌else◌, refl, sym, ap, ◌∙◌, subst, arith, le_refl}
use Rattle.std.specs.Prelude.{filter_map, option_map, ◌≢◌}
use Rattle.std.specs.List.{list_any, list_all, cons_option}
use Rattle.std.specs.Option.{option_or}
use Rattle.std.specs.Ordering.{int_eq}
use Rattle.std.proofs.lemmas.Bool.{eq-eqb, eqb-true, eqb-false, le-ltb, lt-ltb, le-leb, lt-leb, ltb-true, ltb-false, leb-true, leb-false, both_ways, false_from_ne_true}
use Rattle.std.proofs.lemmas.List.Sums.{count_by-le-length}
use Rattle.tt_value.specs.BigEndian.{big_endian}
use Rattle.tt_value.specs.declared.value.Value.TheVariants.{Int, Text}
use Rattle.tt_value.specs.declared.value.Row.{Row}
use Rattle.tt_value.specs.declared.value.Cell.{Cell}
use Rattle.tt_value.specs.declared.value.Cell.TheVariants.{Empty, Full}
use Rattle.tt_value.specs.declared.value.ColumnType.TheVariants.{BigInt}
use Rattle.tt_value.specs.declared.position.Position.{Position}
use Rattle.tt_value.specs.declared.refusal.Refusal.{Refusal}
use Rattle.tt_value.specs.declared.refusal.Refusal.TheVariants.{DuplicateKey, LockConflict, LogOut, PermFull}
use Rattle.tt_value.specs.declared.reply.Reply.{Reply}
use Rattle.tt_value.specs.declared.reply.Reply.TheVariants.{Changed}
use Rattle.tt_parse.specs.declared.command.Command.{Command}
use Rattle.tt_set.specs.declared.settings.Settings.{Settings}
use Rattle.tt_record.specs.Entry.{length_of}
use Rattle.tt_record.specs.Place.{position, next_position, end_of}
use Rattle.tt_record.specs.declared.entry.Entry.{Entry}
use Rattle.tt_record.specs.declared.entry.Entry.TheVariants.{Change}
use Rattle.tt_model.specs.Trail.{Trail}
use Rattle.tt_model.specs.Committed.{Cells, no_cells, put}
use Rattle.tt_model.specs.Live.{is_live, with_number, view_of, in_use, least_from, numbers_from, numbers_below}
use Rattle.tt_model.specs.Holders.{Held, has_held, other_holder, values_at}
use Rattle.tt_model.specs.Values.{same_values}
use Rattle.tt_model.specs.Holds.{first_entry}
use Rattle.tt_model.specs.Tables.{Table, PlacedRow, row_in, row_at, rows_of, catalog_of, table_named, unique_of, Catalog}
use Rattle.tt_model.specs.Opened.{created, only_first, first_head}
use Rattle.tt_model.specs.State.{State, trail, view, cells_of, bound, catalog, is_used, used_count, free_place, live_in, write_position, at_one, placed, with_entry, lengths_fit}
use Rattle.tt_model.specs.declared.definition.CellEdit.{CellEdit}
use Rattle.tt_model.specs.Meaning.{Meant, Makes, refused_if, first_of, unless, row_refusal, conflict, key_name, key_there, no_room, rows_seen, insert_refusal, insert_into, is_value_out, meant_by_insert}
use Rattle.tt_model.specs.Checkpoint.{with_copies, copied}
use Rattle.tt_model.specs.Step.{Answered, stepped, line, unless_refused, statement, made_in, number_for, no_number_for, no_position, edit_length, completion_after}
use Rattle.tt_model.proofs.RowLemmas.{none_from, first_from}
use Rattle.tt_model.proofs.HolderLemmas.{other_holder-own_Change, in_use-Change, first_entry-kept}
use Rattle.tt_model.proofs.AppendLemmas.{cells-Change, live-Change, view-Change, write_position-with_entry}
use Rattle.tt_model_runs.proofs.ConditionRuns.{Line, replies, after}
use Rattle.tt_model_runs.proofs.ExampleWords.{column, whole, pair, pairs, row_of, pair_row}

-- ---- runs in pieces

pub replies-append : (first rest : List Line) (s : State) → replies (first ++ rest) s ≡ replies first s ++ replies rest (after first s)
replies-append [] rest s = refl
replies-append (l ∷ ls) rest s = ap (λ (rs : List Reply). (stepped (l.0) (l.1) s).0 ∷ rs) (replies-append ls rest ((stepped (l.0) (l.1) s).1))

pub after-append : (first rest : List Line) (s : State) → after (first ++ rest) s ≡ after rest (after first s)
after-append [] rest s = refl
after-append (l ∷ ls) rest s = after-append ls rest ((stepped (l.0) (l.1) s).1)

-- ---- the table

-- The table of keys and values, with its rows in the places 0 to 2.
abbrev pub kv_table : Table
kv_table = record { id = 16; name = codes "kv"; columns = record { name = codes "k"; kind = BigInt; required = true } ∷ column (codes "v") BigInt ∷ []; key = 0 ∷ [] }

abbrev pub kv_cells : Cells
kv_cells = put 2 (Full 2 (row_of (whole 16 ∷ whole 2 ∷ whole 1 ∷ whole 0 ∷ whole 0 ∷ whole 0 ∷ Text (codes "v") ∷ [])))
    (put 1 (Full 2 (row_of (whole 16 ∷ whole 1 ∷ whole 1 ∷ whole 0 ∷ whole 1 ∷ whole 1 ∷ Text (codes "k") ∷ [])))
    (put 0 (Full 1 (row_of (whole 16 ∷ Text (codes "kv") ∷ []))) no_cells))

-- A number isn't a lesser one.
pub differs : (q n : ℕ) → n < q → nat_eq q n ≡ false
differs q n h = false_from_ne_true (nat_eq q n) (λ y. let e : q ≡ n = eqb-true q n y in absurd (omega (arith, e, h)))

-- What holds of each number below n and of each other one holds of all.
abbrev pub AllBelow : (ℕ → Type 0) → ℕ → Type 0
AllBelow P zero = Unit {0}
AllBelow P (suc n) = P n × AllBelow P n

one_more : (P : ℕ → Type 0) (n : ℕ) → P n → ((q : ℕ) → suc n ≤ q → P q) → (q : ℕ) → n ≤ q → (c : Bool) → nat_eq q n ≡ c → P q
one_more P n here above q h true e = subst P (sym (eqb-true q n e)) here
one_more P n here above q h false e = let other : q ≢ n = eqb-false q n e in above q (omega (arith, other, h))

pub by_number : (P : ℕ → Type 0) (n : ℕ) → AllBelow P n → ((q : ℕ) → n ≤ q → P q) → (q : ℕ) → P q
by_number P zero below above q = above q (omega arith)
by_number P (suc n) below above q = by_number P n (below.1) (λ x h. one_more P n (below.0) above x h (nat_eq x n) refl) q

-- ---- rows at the first places

-- Places with no row of a table give none.
pub rows-none : (table n from : ℕ) (cells : Cells) → ((q : ℕ) → from ≤ q → row_in table (cells q) ≡ None) → filter_map (row_at table cells) (numbers_from n from) ≡ []
rows-none table n from cells h = none_from (row_at table cells) n from (λ q l. ap (λ (o : Option Row). option_map (λ row. (q, row)) o) (h q l))

-- Where all rows of a table lie in the first places, the others don't matter.
rows-first : (table a n from : ℕ) (cells : Cells) → a ≤ n → ((q : ℕ) → a + from ≤ q → row_in table (cells q) ≡ None) →
    filter_map (row_at table cells) (numbers_from n from) ≡ filter_map (row_at table cells) (numbers_from a from)
rows-first table a n from cells l h = first_from (row_at table cells) a n from l (λ q k. ap (λ (o : Option Row). option_map (λ row. (q, row)) o) (h q k))

kv_cells-none : (table q : ℕ) → 3 ≤ q → row_in table (kv_cells q) ≡ None
kv_cells-none table q h = rw (differs q 2 (omega (arith, h)), differs q 1 (omega (arith, h)), differs q 0 (omega (arith, h))) refl

kv_rows : (table n : ℕ) → 3 ≤ n → rows_of table n kv_cells ≡ rows_of table 3 kv_cells
unfolding rows_of
kv_rows table n h = rows-first table 3 n 0 kv_cells h (λ q k. kv_cells-none table q (omega (arith, k)))

abbrev kv_catalog : Catalog
kv_catalog = record { tables = kv_table ∷ []; indexes = [] }

catalog_of-kv : (n : ℕ) → 3 ≤ n → catalog_of n kv_cells ≡ catalog_of 3 kv_cells
unfolding catalog_of
catalog_of-kv n h = rw (kv_rows 1 n h, kv_rows 2 n h, kv_rows 3 n h) refl

catalog_of-three : catalog_of 3 kv_cells ≡ kv_catalog
unfolding catalog_of rows_of
catalog_of-three = refl

-- ---- what a row is tested for

-- The key of a row as it may be held.
abbrev pub key_named : ℕ → Held
key_named k = key_name kv_table (pair_row k 1)

pub int-differs : (j k : ℕ) → j < k → int_eq (pos j) (pos k) ≡ false
int-differs j k h = rw (lt-ltb j k h) refl

-- A row doesn't have a greater key.
pub key-differs : (j k : ℕ) → j < k → has_held (key_named k) (Full 16 (pair_row j 1)) ≡ false
key-differs j k h = rw (int-differs j k h) refl

-- Where no cell has a key, no row of the table has it.
key_row : (name : Held) (place : ℕ) (row : Row) (rows : List PlacedRow) → list_any (λ (r : PlacedRow). same_values (values_at name.columns (r.1)) name.values) rows ≡ false →
    (c : Bool) → (c && same_values (values_at name.columns row) name.values) ≡ false →
    list_any (λ (r : PlacedRow). same_values (values_at name.columns (r.1)) name.values) (cons_option (option_map (λ (x : Row). (place, x)) (if c then Some row else None)) rows) ≡ false
key_row name place row rows ih true h = ap (λ b. b || list_any (λ (r : PlacedRow). same_values (values_at name.columns (r.1)) name.values) rows) h ∙ ih
key_row name place row rows ih false h = ih

key_cell : (name : Held) (place : ℕ) (cell : Cell) (rows : List PlacedRow) → list_any (λ (r : PlacedRow). same_values (values_at name.columns (r.1)) name.values) rows ≡ false →
    has_held name cell ≡ false →
    list_any (λ (r : PlacedRow). same_values (values_at name.columns (r.1)) name.values) (cons_option (option_map (λ (x : Row). (place, x)) (row_in name.table cell)) rows) ≡ false
key_cell name place Empty rows ih h = ih
key_cell name place (Full u row) rows ih h = key_row name place row rows ih (nat_eq name.table u) h

key-none : (name : Held) (cells : Cells) (n from : ℕ) → ((q : ℕ) → has_held name (cells q) ≡ false) →
    list_any (λ (r : PlacedRow). same_values (values_at name.columns (r.1)) name.values) (filter_map (row_at name.table cells) (numbers_from n from)) ≡ false
key-none name cells zero from h = refl
key-none name cells (suc n) from h = key_cell name from (cells from) (filter_map (row_at name.table cells) (numbers_from n (suc from))) (key-none name cells n (suc from) h) (h from)

-- The least place that isn't taken, where just those below p are.
least_from-is : (taken : ℕ → Bool) (p n from : ℕ) → ((q : ℕ) → taken q ≡ nat_lt q p) → from ≤ p → p ≤ n + from → least_from taken n from ≡ p
least_from-is taken p zero from h l m = omega (arith, l, m)
least_from-is taken p (suc n) from h l m =
    by_test (λ below. least_from-is taken p n (suc from) h (omega (arith, below)) (omega (arith, m))) (taken from) refl
  where
    by_test : (from < p → least_from taken n (suc from) ≡ p) → (c : Bool) → taken from ≡ c → (if c then least_from taken n (suc from) else from) ≡ p
    by_test ih true e = ih (ltb-true from p (sym (h from) ∙ e))
    by_test ih false e = let above : p ≤ from = ltb-false from p (sym (h from) ∙ e) in omega (arith, above, l)

length-numbers : (n from : ℕ) → length (numbers_from n from) ≡ n
length-numbers zero from = refl
length-numbers (suc n) from = ap suc (length-numbers n (suc from))

-- ---- who inserts

-- A session with a transaction of its own; the transactions of all sessions, and the live ones; and the settings of the run.
pub record Inserter : Type 0 where
  pub session : ℕ
  pub number : ℕ
  pub own : ℕ → Option ℕ
  pub live : List ℕ
  pub settings : Settings

-- Its transaction is live.
pub record IsInserting (w : Inserter) : Type 0 where
  pub own : w.own w.session ≡ Some w.number
  pub live : with_number w.number w.live ≡ w.live
  pub among : list_any (nat_eq w.number) w.live ≡ true

abbrev pub is_plain : Cell → Bool
is_plain Empty = true
is_plain (Full table row) = not (nat_eq 4 table || nat_eq 6 table)

-- No bookmark and no backup set is written.
abbrev pub is_plain_entry : Entry → Bool
is_plain_entry (Change t place before after) = is_plain after
is_plain_entry _ = true

abbrev pub are_plain : Trail → Bool
are_plain es = list_all (λ e. is_plain_entry e.entry) es

-- A database just created, in which the table was made and rows were inserted, with keys below k. They fill the places below p, and
-- the log ends at a position. The first transaction that inserted has the number 2, and begins behind the table.
pub record Filled (w : Inserter) (p k : ℕ) (at : Position) (s : State) : Type 0 where
  pub settings : s.settings ≡ w.settings
  pub found : s.found ≡ created 1
  pub own : (session : ℕ) → s.own session ≡ w.own session
  pub wish : (session : ℕ) → s.wish session ≡ false
  pub heads : s.heads ≡ only_first (first_head 0 1)
  pub newest : s.newest ≡ 0
  pub database : s.database ≡ 1
  pub underway : s.underway ≡ None
  pub cells : cells_of s ≡ kv_cells
  pub live : live_in s ≡ w.live
  pub free : (j : ℕ) → k ≤ j → other_holder (Some w.number) (key_named j) (trail s) ≡ None
  pub seen : (q j : ℕ) → k ≤ j → has_held (key_named j) (view w.session s q) ≡ false
  pub used : (q : ℕ) → is_used s q ≡ nat_lt q p
  pub some : 3 ≤ p
  pub least : p ≤ 32 * s.pages
  pub most : 32 * s.pages < p + 32
  pub stale : (file page : ℕ) → s.stale file page ≡ nat_lt page s.pages
  pub files : (n : ℕ) → s.files n ≡ nat_le n at.file
  pub end : write_position s ≡ at
  pub first : first_entry 2 (trail s) ≡ Some (position 0 206)
  pub plain : are_plain s.entries ≡ true

-- ---- one insert

abbrev new_row : ℕ → CellEdit
new_row k = record { place = None; before = Empty; after = Full 16 (pair_row k 1) }

-- The entry of an inserted row, and its state.
abbrev added_entry : Inserter → ℕ → ℕ → Entry
added_entry w p k = Change w.number p Empty (Full 16 (pair_row k 1))

abbrev pub row_added : Inserter → ℕ → ℕ → State → State
row_added w p k s = record (with_entry (added_entry w p k) s) { own = at_one w.session (Some w.number) s.own }

length-entry : (t p k : ℕ) → length_of (Change t p Empty (Full 16 (pair_row k 1))) ≡ 40
unfolding big_endian
length-entry t p k = refl

-- Where the log ends behind one more row.
abbrev pub place_after : Inserter → Position → Position
place_after w end = next_position end 40 w.settings.log_file_size

abbrev pub end_after : Inserter → Position → Position
end_after w end = end_of (place_after w end) 40

next_file_by : (c : Bool) (end : Position) → ((if c then end else position (end.file + 1) 0).file) ≤ end.file + 1
next_file_by true end = omega arith
next_file_by false end = le_refl (end.file + 1)

pub next-file : (end : Position) (n size : ℕ) → (next_position end n size).file ≤ end.file + 1
next-file end n size = next_file_by (nat_le (end.offset + n) size) end

same_file_by : (c : Bool) (end : Position) → end.file ≤ ((if c then end else position (end.file + 1) 0).file)
same_file_by true end = le_refl end.file
same_file_by false end = omega arith

pub same-file : (end : Position) (n size : ℕ) → end.file ≤ (next_position end n size).file
same-file end n size = same_file_by (nat_le (end.offset + n) size) end

-- An entry behind an end whose file isn't the last has a place.
fits-one : (size n : ℕ) (end : Position) → end.file + 1 < 1000000 → lengths_fit size end (n ∷ []) ≡ true
fits-one size n end h =
    let next : (next_position end n size).file ≤ end.file + 1 = next-file end n size in
    let there : nat_lt ((next_position end n size).file) 1000000 ≡ true = lt-ltb ((next_position end n size).file) 1000000 (omega (arith, next, h)) in
    ap (λ b. elim (if b then Some (next_position end n size) else None) as (λ x. Bool) [ None ↦ false | Some at ↦ true ]) there

pub place-none : (n : ℕ) (s : State) (end : Position) → write_position s ≡ end → end.file + 1 < 1000000 → no_position (n ∷ []) s ≡ None
place-none n s end e h =
    ap (λ b. refused_if (not b) LogOut) (ap (λ x. lengths_fit s.settings.log_file_size x (n ∷ [])) e ∙ fits-one s.settings.log_file_size n end h)

module _ (w : Inserter) (p k : ℕ) (end : Position) (s : State) (h : Filled w p k end s) where
  catalog-is : catalog s ≡ kv_catalog
  catalog-is =
      let some : 3 ≤ p = h.some in
      let least : p ≤ 32 * s.pages = h.least in
      ap (catalog_of (bound s)) h.cells ∙ (catalog_of-kv (bound s) (omega (arith, some, least)) ∙ catalog_of-three)

  room-none : p + 32 ≤ 32 * w.settings.perm_pages → no_room 1 s ≡ None
  room-none m =
      let size : s.settings.perm_pages ≡ w.settings.perm_pages = ap (λ (x : Settings). x.perm_pages) h.settings in
      let most : 32 * s.pages < p + 32 = h.most in
      let used : used_count s ≤ length (numbers_below (bound s)) = count_by-le-length (is_used s) (numbers_below (bound s)) in
      let all : length (numbers_below (bound s)) ≡ bound s = length-numbers (bound s) 0 in
      ap (λ b. refused_if b (PermFull (32 * s.settings.perm_pages))) (le-ltb (32 * s.settings.perm_pages) (used_count s + 1) (omega (arith, size, most, used, all, m)))

  key-free : IsInserting w → conflict (s.own w.session) (trail s) (key_named k) ≡ None
  key-free i =
      ap (λ (o : Option ℕ). conflict o (trail s) (key_named k)) (h.own w.session ∙ i.own)
      ∙ ap (λ (o : Option ℕ). option_map LockConflict o) (h.free k (le_refl k))

  key-new : key_there kv_table (pair_row k 1) None (rows_seen w.session s kv_table) ≡ None
  unfolding rows_of
  key-new = ap (λ b. refused_if b DuplicateKey) (key-none (key_named k) (view w.session s) (bound s) 0 (λ q. h.seen q k (le_refl k)))

  free-is : free_place s ≡ p
  free-is = let least : p ≤ 32 * s.pages = h.least in least_from-is (is_used s) p (bound s) 0 h.used (omega arith) (omega (arith, least))

range-none : (k : ℕ) → k < 2 ^ 63 → is_value_out BigInt (Int (pos k)) ≡ false
range-none k l = rw (lt-ltb k 9223372036854775808 l) refl

row-none : (k : ℕ) → row_refusal (pair_row k 1) ≡ None
unfolding big_endian
row-none k = refl

-- ---- each test passes

first_step : (o : Option Refusal) (os : List (Option Refusal)) → o ≡ None → first_of os ≡ None → first_of (o ∷ os) ≡ None
first_step o os e h = ap (λ x. first_of (x ∷ os)) e ∙ h

insert-none : (w : Inserter) (p k : ℕ) (end : Position) (s : State) → IsInserting w → Filled w p k end s → k < 2 ^ 63 → p + 32 ≤ 32 * w.settings.perm_pages →
    insert_refusal w.session s kv_table (whole k ∷ whole 1 ∷ []) (pair_row k 1) ≡ None
insert-none w p k end s i h l m =
    let range : is_value_out BigInt (Int (pos k)) ≡ false = range-none k l in
    let wide : row_refusal (pair_row k 1) ≡ None = row-none k in
    let held : conflict (s.own w.session) (trail s) (key_named k) ≡ None = key-free w p k end s h i in
    let there : key_there kv_table (pair_row k 1) None (rows_seen w.session s kv_table) ≡ None = key-new w p k end s h in
    let unique : unique_of kv_table (catalog s) ≡ [] = ap (λ (c : Catalog). unique_of kv_table c) (catalog-is w p k end s h) in
    let room : no_room 1 s ≡ None = room-none w p k end s h m in
    rw (range, wide, held, there, unique, room) refl

insert-makes : (w : Inserter) (p k : ℕ) (end : Position) (s : State) → IsInserting w → Filled w p k end s → k < 2 ^ 63 → p + 32 ≤ 32 * w.settings.perm_pages →
    meant_by_insert w.session s (codes "kv") (whole k ∷ whole 1 ∷ []) ≡ Makes (new_row k ∷ [])
unfolding meant_by_insert
insert-makes w p k end s i h l m =
    ap (λ (c : Catalog). insert_into w.session s (whole k ∷ whole 1 ∷ []) (table_named (codes "kv") c)) (catalog-is w p k end s h)
    ∙ ap (λ o. unless o (Makes (new_row k ∷ []))) (insert-none w p k end s i h l m)

-- ---- what a line does where no checkpoint is under way

copies-none : (s : State) → s.underway ≡ None → with_copies s ≡ s
unfolding with_copies
copies-none s h = ap (λ o. copied s.settings.ckpt_pages o s) h

pub stepped-alone : (session : ℕ) (command : Command) (s : State) → s.underway ≡ None → stepped session command s ≡ line session command s
stepped-alone session command s h =
    ap (λ (x : State). ((line session command x).0, completion_after s.underway ((line session command x).1))) (copies-none s h)
    ∙ ap (λ o. ((line session command s).0, completion_after o ((line session command s).1))) h

-- An insert is answered that one row was changed, and adds its entry.
inserted : (w : Inserter) (p k : ℕ) (end : Position) (s : State) → IsInserting w → Filled w p k end s → k < 2 ^ 63 → p + 32 ≤ 32 * w.settings.perm_pages → end.file + 1 < 1000000 →
    stepped w.session (pair k 1) s ≡ (Changed 1, row_added w p k s)
unfolding line
inserted w p k end s i h l m f =
    let edits : List CellEdit = new_row k ∷ [] in
    stepped-alone w.session (pair k 1) s h.underway
    ∙ (ap (λ (meant : Meant). statement w.session meant s) (insert-makes w p k end s i h l m)
    ∙ (ap (λ (o : Option ℕ). unless_refused (option_or (no_number_for o s) (no_position (map edit_length edits) s)) (Changed 1, made_in w.session (number_for o s) edits s) s) (h.own w.session ∙ i.own)
    ∙ (ap (λ (o : Option Refusal). unless_refused o (Changed 1, made_in w.session w.number edits s) s) (place-none (edit_length (new_row k)) s end h.end f)
    ∙ ap (λ (q : ℕ). (Changed 1, row_added w q k s)) (free-is w p k end s h))))

-- ---- what one more row leaves

same_own : (session other number : ℕ) (own : ℕ → Option ℕ) (o : Option ℕ) → own session ≡ Some number → o ≡ own other → (c : Bool) → nat_eq other session ≡ c →
    (if c then Some number else o) ≡ own other
same_own session other number own o e h true y = sym (ap own (eqb-true other session y) ∙ e)
same_own session other number own o e h false y = h

own_now : (session number : ℕ) (own : ℕ → Option ℕ) → at_one session (Some number) own session ≡ Some number
own_now session number own = rw (eq-eqb session session refl) refl

key_put : (j k q p : ℕ) (cells : Cells) → suc k ≤ j → has_held (key_named j) (cells q) ≡ false → (c : Bool) → has_held (key_named j) (if c then Full 16 (pair_row k 1) else cells q) ≡ false
key_put j k q p cells l h true = key-differs k j l
key_put j k q p cells l h false = h

used_more : (q p : ℕ) → (nat_eq q p || nat_lt q p) ≡ nat_lt q (suc p)
used_more q p = by_test (nat_eq q p) refl (nat_lt q p) refl
  where
    by_test : (c : Bool) → nat_eq q p ≡ c → (d : Bool) → nat_lt q p ≡ d → (c || d) ≡ nat_lt q (suc p)
    by_test true e d y = let same : q ≡ p = eqb-true q p e in sym (lt-ltb q (suc p) (omega (arith, same)))
    by_test false e true y = let below : q < p = ltb-true q p y in sym (lt-ltb q (suc p) (omega (arith, below)))
    by_test false e false y =
        let other : q ≢ p = eqb-false q p e in
        let above : p ≤ q = ltb-false q p y in
        sym (le-ltb q (suc p) (omega (arith, other, above)))

stale_more : (q n pages : ℕ) → n ≤ pages → (nat_eq q n || nat_lt q pages) ≡ nat_lt q (max (suc n) pages)
stale_more q n pages l = by_test (nat_eq q n) refl (nat_lt q pages) refl
  where
    by_test : (c : Bool) → nat_eq q n ≡ c → (d : Bool) → nat_lt q pages ≡ d → (c || d) ≡ nat_lt q (max (suc n) pages)
    by_test true e d y = let same : q ≡ n = eqb-true q n e in sym (lt-ltb q (max (suc n) pages) (omega (arith, same)))
    by_test false e true y = let below : q < pages = ltb-true q pages y in sym (lt-ltb q (max (suc n) pages) (omega (arith, below)))
    by_test false e false y =
        let other : q ≢ n = eqb-false q n e in
        let above : pages ≤ q = ltb-false q pages y in
        sym (le-ltb q (max (suc n) pages) (omega (arith, other, above, l)))

-- The files up to one more, or up to the same.
pub files_more : (n file next : ℕ) → file ≤ next → next ≤ file + 1 → (if nat_eq n next then true else nat_le n file) ≡ nat_le n next
files_more n file next l m = by_test (nat_eq n next) refl (nat_le n file) refl
  where
    by_test : (c : Bool) → nat_eq n next ≡ c → (d : Bool) → nat_le n file ≡ d → (if c then true else d) ≡ nat_le n next
    by_test true e d y = let same : n ≡ next = eqb-true n next e in sym (le-leb n next (omega (arith, same)))
    by_test false e true y = let below : n ≤ file = leb-true n file y in sym (le-leb n next (omega (arith, below, l)))
    by_test false e false y =
        let other : n ≢ next = eqb-false n next e in
        let above : file < n = leb-false n file y in
        sym (lt-leb n next (omega (arith, other, above, m)))

place-is : (w : Inserter) (p k : ℕ) (end : Position) (s : State) → Filled w p k end s → ((placed (added_entry w p k) s).at) ≡ place_after w end
place-is w p k end s h =
    ap (λ (x : Position). next_position x (length_of (added_entry w p k)) s.settings.log_file_size) h.end
    ∙ (ap (λ (n : ℕ). next_position end n s.settings.log_file_size) (length-entry w.number p k)
    ∙ ap (λ (x : Settings). next_position end 40 x.log_file_size) h.settings)

filled-added : (w : Inserter) (p k : ℕ) (end : Position) (s : State) → IsInserting w → Filled w p k end s → Filled w (suc p) (suc k) (end_after w end) (row_added w p k s)
unfolding with_entry
filled-added w p k end s i h =
    let entry : Entry = added_entry w p k in
    let at : Position = (placed entry s).at in
    let least : p ≤ 32 * s.pages = h.least in
    let most : 32 * s.pages < p + 32 = h.most in
    let some : 3 ≤ p = h.some in
    record {
      settings = h.settings;
      found = h.found;
      own = λ other. same_own w.session other w.number w.own (s.own other) i.own (h.own other) (nat_eq other w.session) refl;
      wish = h.wish;
      heads = h.heads;
      newest = h.newest;
      database = h.database;
      underway = h.underway;
      cells = cells-Change w.number p Empty (Full 16 (pair_row k 1)) s ∙ h.cells;
      live = live-Change w.number p Empty (Full 16 (pair_row k 1)) s ∙ (ap (with_number w.number) h.live ∙ i.live);
      free = λ j l. other_holder-own_Change w.number p Empty (Full 16 (pair_row k 1)) at (key_named j) (trail s) ∙ h.free j (omega (arith, l));
      seen = λ q j l.
          ap (λ (o : Option ℕ). has_held (key_named j) (view_of o ((row_added w p k s).entries) (cells_of (row_added w p k s)) q)) (own_now w.session w.number s.own ∙ sym (h.own w.session ∙ i.own))
          ∙ (ap (λ (cells : Cells). has_held (key_named j) (cells q)) (view-Change w.session w.number p Empty (Full 16 (pair_row k 1)) s (h.own w.session ∙ i.own))
          ∙ key_put j k q p (view w.session s) l (h.seen q j (omega (arith, l))) (nat_eq q p));
      used = λ q.
          in_use-Change w.number p q Empty (Full 16 (pair_row k 1)) at (cells_of (row_added w p k s)) (trail s)
          (λ n. absurd (both_ways (is_live w.number (trail s)) n (ap (list_any (nat_eq w.number)) h.live ∙ i.among)))
          ∙ (ap (λ (cells : Cells). nat_eq q p || in_use cells (trail s) q) (cells-Change w.number p Empty (Full 16 (pair_row k 1)) s)
          ∙ (ap (λ b. nat_eq q p || b) (h.used q) ∙ used_more q p));
      some = omega (arith, some);
      least = omega (arith, least);
      most = omega (arith, most);
      stale = λ file page. ap (λ b. nat_eq page (p / 32) || b) (h.stale file page) ∙ stale_more page (p / 32) s.pages (omega (arith, least));
      files = λ n.
          ap (λ (x : Position). if nat_eq n x.file then true else s.files n) (place-is w p k end s h)
          ∙ (ap (λ b. if nat_eq n (place_after w end).file then true else b) (h.files n)
          ∙ files_more n end.file ((place_after w end).file) (same-file end 40 w.settings.log_file_size) (next-file end 40 w.settings.log_file_size));
      end =
          write_position-with_entry entry s
          ∙ (ap (λ (n : ℕ). end_of at n) (length-entry w.number p k) ∙ ap (λ (x : Position). end_of x 40) (place-is w p k end s h));
      first = first_entry-kept 2 (position 0 206) (placed entry s) (trail s) h.first;
      plain = h.plain;
    }

-- ---- many inserts

-- A number counted up, and where the log ends behind as many rows.
abbrev pub counted_up : ℕ → ℕ → ℕ
counted_up zero p = p
counted_up (suc n) p = counted_up n (suc p)

abbrev pub end_behind : Inserter → ℕ → Position → Position
end_behind w zero end = end
end_behind w (suc n) end = end_behind w n (end_after w end)

pub record IsFilledBy (w : Inserter) (n p k : ℕ) (end : Position) (s : State) : Type 0 where
  pub replies : replies (pairs w.session n k 1) s ≡ replicate n (Changed 1)
  pub filled : Filled w (counted_up n p) (counted_up n k) (end_behind w n end) (after (pairs w.session n k 1) s)

-- Each of as many inserts is answered that one row was changed.
pub inserts : (w : Inserter) → IsInserting w → (n p k : ℕ) (end : Position) (s : State) → Filled w p k end s →
    n + k < 2 ^ 63 → n + p + 32 ≤ 32 * w.settings.perm_pages → n + end.file < 1000000 → IsFilledBy w n p k end s
inserts w i zero p k end s h l m f = record { replies = refl; filled = h }
inserts w i (suc n) p k end s h l m f =
    let next : (end_after w end).file ≤ end.file + 1 = next-file end 40 w.settings.log_file_size in
    let answered : stepped w.session (pair k 1) s ≡ (Changed 1, row_added w p k s) = inserted w p k end s i h (omega (arith, l)) (omega (arith, m)) (omega (arith, f)) in
    let rest : IsFilledBy w n (suc p) (suc k) (end_after w end) (row_added w p k s)
    = inserts w i n (suc p) (suc k) (end_after w end) (row_added w p k s) (filled-added w p k end s i h) (omega (arith, l)) (omega (arith, m)) (omega (arith, f, next)) in
    record {
      replies =
          ap (λ (a : Answered). a.0 ∷ replies (pairs w.session n (suc k) 1) (a.1)) answered
          ∙ ap (λ (rs : List Reply). Changed 1 ∷ rs) rest.replies;
      filled = subst (λ (x : State). Filled w (counted_up n (suc p)) (counted_up n (suc k)) (end_behind w n (end_after w end)) (after (pairs w.session n (suc k) 1) x))
          (sym (ap (λ (a : Answered). a.1) answered)) rest.filled;
    }
