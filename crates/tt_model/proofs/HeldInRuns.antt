-- Along a run each key and each unique value has at most one live transaction that holds it.
use Rattle.std.proofs.Common.{◌≡◌, ◌≢◌, ◌⊎◌, ◌≤◌, ◌<◌, ◌+◌, inl, inr, ℕ, zero, suc, Bool, true, false, cond, ◌||◌, nat_eq, map, List, [], ◌∷◌, Option, Some, None, if◌then◌else◌, refl, sym, ap, ◌∙◌, subst, arith, true≢false, Ordering}
use Rattle.std.specs.Prelude.{filter_map, option_map, Result}
use Rattle.std.specs.List.{cons_option}
use Rattle.std.specs.Ordering.{is_gt, nat_cmp}
use Rattle.std.proofs.lemmas.Bool.{cases_Bool, eq-eqb, eqb-true, eqb-false, or_cases, or_left, or_right, and_from, and_parts}
use Rattle.tt_value.specs.declared.value.Value.{Value}
use Rattle.tt_value.specs.declared.value.Row.{Row}
use Rattle.tt_value.specs.declared.value.Cell.{Cell}
use Rattle.tt_value.specs.declared.value.Cell.TheVariants.{Empty, Full}
use Rattle.tt_value.specs.declared.refusal.Refusal.{Refusal}
use Rattle.tt_value.specs.declared.reply.Reply.{Reply}
use Rattle.tt_parse.specs.declared.command.Command.{Command}
use Rattle.tt_record.specs.declared.entry.Entry.{Entry}
use Rattle.tt_record.specs.declared.entry.Entry.TheVariants.{Change, Commit, Abort, Mark, Switch}
use Rattle.tt_set.specs.declared.settings.Settings.{Settings}
use Rattle.tt_model.specs.Trail.{Trail}
use Rattle.tt_model.specs.Committed.{Cells, is_full}
use Rattle.tt_model.specs.Live.{live, numbers_from}
use Rattle.tt_model.specs.Values.{same_values}
use Rattle.tt_model.specs.Holders.{Held, HasOneHolder, values_at, has_held, holds_by, is_held_by}
use Rattle.tt_model.specs.Opened.{Opened}
use Rattle.tt_model.specs.Sets.{SetStanding}
use Rattle.tt_model.specs.Tables.{Table, Index, PlacedRow, row_at, rows_of, number_at, by_number, in_order, inserted, index_of, key_of, catalog_of, Catalog}
use Rattle.tt_model.specs.State.{State, Underway, cells_of, bound, catalog, with_entry}
use Rattle.tt_model.specs.Sound.{whole_table, IsSound}
use Rattle.tt_model.specs.Checkpoint.{copied, with_copies}
use Rattle.tt_model.specs.Step.{Step}
use Rattle.tt_model.specs.Run.{Line, Run, begun}
use Rattle.tt_model.specs.WholeRuns.{Each, HasKeysOnce, HasValuesOnce, HeldOnce, HeldOnceInRuns, AreOfSessions, ReadersHaveBookmarks}
use Rattle.tt_model.proofs.OneHolderLemmas.{one_holder-Mark}
use Rattle.tt_model.proofs.RowLemmas.{LieIn, are_rows-rows_of, are_rows-in_order}
use Rattle.tt_model.proofs.IsolationLemmas.{full-below}
use Rattle.tt_model.proofs.SoundLines.{sound-with_copies}
use Rattle.tt_model.proofs.BookmarkLines.{bookmarks_stay}
use Rattle.tt_model.proofs.OneHolderStatements.{IsAmong, AllSafe, key_columns, keys-by_number, each-mapped, number-safe, value-safe}
use Rattle.tt_model.proofs.OneHolderRounds.{one-round, catalog-with_copies}
use Rattle.tt_model.proofs.TableRows.{AreAlike, HasTable, columns-alike}
use Rattle.tt_model.proofs.TableLines.{numbered_row}
use Rattle.tt_model.proofs.TableRounds.{TablesAreThere, KeepsTables, there-after, leaves-step}

-- ---- who holds a name holds its table

pub whole_cell : (name : Held) (c : Cell) → has_held name c ≡ true → has_held (whole_table name.table) c ≡ true
whole_cell name Empty h = absurd (true≢false (sym h))
whole_cell name (Full table row) h =
    and_from (nat_eq name.table table) true ((and_parts (nat_eq name.table table) (same_values (values_at name.columns row) name.values) h).0) refl

whole_cells : (name : Held) (b a : Cell) → (has_held name b || has_held name a) ≡ true → (has_held (whole_table name.table) b || has_held (whole_table name.table) a) ≡ true
whole_cells name b a h = elim (or_cases (has_held name b) (has_held name a) h) [
  | inl y ↦ or_left (has_held (whole_table name.table) b) (has_held (whole_table name.table) a) (whole_cell name b y)
  | inr y ↦ or_right (has_held (whole_table name.table) b) (has_held (whole_table name.table) a) (whole_cell name a y)
]

whole_entry : (name : Held) (t : ℕ) (x : Entry) → holds_by name t x ≡ true → holds_by (whole_table name.table) t x ≡ true
whole_entry name t (Change u p b a) h =
    let parts : (nat_eq t u ≡ true) × ((has_held name b || has_held name a) ≡ true) = and_parts (nat_eq t u) (has_held name b || has_held name a) h in
    and_from (nat_eq t u) (has_held (whole_table name.table) b || has_held (whole_table name.table) a) (parts.0) (whole_cells name b a (parts.1))
whole_entry name t (Commit u) h = absurd (true≢false (sym h))
whole_entry name t (Abort u) h = absurd (true≢false (sym h))
whole_entry name t Mark h = absurd (true≢false (sym h))
whole_entry name t (Switch f) h = absurd (true≢false (sym h))

pub whole-held : (name : Held) (t : ℕ) (es : Trail) → is_held_by name es t ≡ true → is_held_by (whole_table name.table) es t ≡ true
whole-held name t [] h = absurd (true≢false (sym h))
whole-held name t (e ∷ es) h = elim (or_cases (holds_by name t e.entry) (is_held_by name es t) h) [
  | inl y ↦ or_left (holds_by (whole_table name.table) t e.entry) (is_held_by (whole_table name.table) es t) (whole_entry name t e.entry y)
  | inr y ↦ or_right (holds_by (whole_table name.table) t e.entry) (is_held_by (whole_table name.table) es t) (whole-held name t es y)
]

-- ---- an index among those of the catalog

pub among_map : {X Y : Type 0} (f : X → Y) (x : X) (xs : List X) → IsAmong x xs → IsAmong (f x) (map f xs)
among_map f x [] a = absurd a
among_map f x (y ∷ ys) (inl same) = inl (ap f same)
among_map f x (y ∷ ys) (inr a) = inr (among_map f x ys a)

inserted_step : (z x y : PlacedRow) (ys zs : List PlacedRow) → (x ≡ z) ⊎ ((y ≡ z) ⊎ IsAmong z ys) → ((x ≡ z) ⊎ IsAmong z ys → IsAmong z zs) → (c : Bool) → IsAmong z (cond c (y ∷ zs) (x ∷ y ∷ ys))
inserted_step z x y ys zs (inl same) f true = inr (f (inl same))
inserted_step z x y ys zs (inr (inl same)) f true = inl same
inserted_step z x y ys zs (inr (inr a)) f true = inr (f (inr a))
inserted_step z x y ys zs a f false = a

among_inserted : (z : PlacedRow) (cmp : PlacedRow → PlacedRow → Ordering) (x : PlacedRow) (ys : List PlacedRow) → (x ≡ z) ⊎ IsAmong z ys → IsAmong z (inserted cmp x ys)
among_inserted z cmp x [] a = a
among_inserted z cmp x (y ∷ ys) a = inserted_step z x y ys (inserted cmp x ys) a (among_inserted z cmp x ys) (is_gt (cmp x y))

pub among_in_order : (z : PlacedRow) (cmp : PlacedRow → PlacedRow → Ordering) (xs : List PlacedRow) → IsAmong z xs → IsAmong z (in_order cmp xs)
among_in_order z cmp [] a = absurd a
among_in_order z cmp (x ∷ xs) (inl same) = among_inserted z cmp x (in_order cmp xs) (inl same)
among_in_order z cmp (x ∷ xs) (inr a) = among_inserted z cmp x (in_order cmp xs) (inr (among_in_order z cmp xs a))

later_among : (z : PlacedRow) (o : Option PlacedRow) (rows : List PlacedRow) → IsAmong z rows → IsAmong z (cons_option o rows)
later_among z None rows a = a
later_among z (Some r) rows a = inr a

row_here : (table q : ℕ) (row : Row) (cells : Cells) → cells q ≡ Full table row → row_at table cells q ≡ Some (q, row)
row_here table q row cells e = rw e (ap (λ b. option_map (λ (x : Row). (q, x)) (if b then Some row else None)) (eq-eqb table table refl))

pub among_rows : (table q : ℕ) (row : Row) (cells : Cells) (n from : ℕ) → cells q ≡ Full table row → from ≤ q → q < from + n → IsAmong (q, row) (filter_map (row_at table cells) (numbers_from n from))
among_rows table q row cells zero from e l m = absurd (omega (arith, l, m))
among_rows table q row cells (suc n) from e l m = elim (cases_Bool (nat_eq q from)) [
  | inl y ↦
      subst (λ (x : ℕ). IsAmong (q, row) (cons_option (row_at table cells x) (filter_map (row_at table cells) (numbers_from n (suc from))))) (eqb-true q from y)
      (subst (λ (o : Option PlacedRow). IsAmong (q, row) (cons_option o (filter_map (row_at table cells) (numbers_from n (suc from))))) (sym (row_here table q row cells e)) (inl refl))
  | inr d ↦
      let other : q ≢ from = eqb-false q from d in
      later_among (q, row) (row_at table cells from) (filter_map (row_at table cells) (numbers_from n (suc from))) (among_rows table q row cells n (suc from) e (omega (arith, l, other)) (omega (arith, m)))
]

pub index-among : (s : State) (q : ℕ) (row : Row) → IsSound s → cells_of s q ≡ Full 3 row → IsAmong (index_of (q, row)) (catalog s).indexes
unfolding catalog_of rows_of
index-among s q row h e =
    let below : q < bound s = full-below s q h (ap is_full e) in
    among_map index_of (q, row) (by_number 0 (rows_of 3 (bound s) (cells_of s)))
    (among_in_order (q, row) (λ a b. nat_cmp (number_at 0 a) (number_at 0 b)) (rows_of 3 (bound s) (cells_of s)) (among_rows 3 q row (cells_of s) (bound s) 0 e (omega arith) (omega (arith, below))))

-- ---- what is kept

abbrev key_held : ℕ → List ℕ → List Value → Held
key_held m columns values = record { table = m; columns = columns; values = values }

-- Each number of a table has its key once, whether the table is there or not, and each row of INDEXES has its unique values once.
record IsHeldOnce (s : State) : Type 0 where
  pub tables : TablesAreThere s
  pub keys : (m : ℕ) (values : List Value) → HasOneHolder (key_held m (key_columns m s) values) s.entries
  pub values : (q : ℕ) (row : Row) → cells_of s q ≡ Full 3 row → HasValuesOnce s.entries (index_of (q, row))

key_copied : (m n : ℕ) (o : Option Underway) (s : State) → key_columns m (copied n o s) ≡ key_columns m s
key_copied m n None s = refl
key_copied m n (Some b) s = refl

key-with_copies : (m : ℕ) (s : State) → key_columns m (with_copies s) ≡ key_columns m s
unfolding with_copies
key-with_copies m s = key_copied m s.settings.ckpt_pages s.underway s

module _ (s : State) (session : ℕ) (what : Result Command Refusal) (reply : Reply) (after : State) (h : IsSound s) (k : IsSound after) (once : IsHeldOnce s) (leaves : KeepsTables s after)
    (st : Step s session what reply after) where
  keys_after : (m : ℕ) (values : List Value) → HasOneHolder (key_held m (key_columns m after) values) after.entries
  keys_after m values u v lu lv hu hv =
      let both : HasTable m (cells_of s) × AreAlike m (cells_of s) (cells_of after) = leaves m u lu (whole-held (key_held m (key_columns m after) values) u after.entries hu) in
      let same : key_columns m after ≡ key_columns m s = ap (λ (rows : List PlacedRow). key_of (by_number 1 rows)) (columns-alike m s after h k (both.1)) in
      let safe : AllSafe (key_held m (key_columns m s) values) session (with_copies s)
      = subst (λ (cs : List ℕ). AllSafe (key_held m cs values) session (with_copies s)) (key-with_copies m s) (number-safe session (with_copies s) m values) in
      one-round (key_held m (key_columns m s) values) s session what reply after h safe st (once.keys m values) u v lu lv
      (subst (λ (cs : List ℕ). is_held_by (key_held m cs values) after.entries u ≡ true) same hu)
      (subst (λ (cs : List ℕ). is_held_by (key_held m cs values) after.entries v ≡ true) same hv)

  values_after : (q : ℕ) (row : Row) → cells_of after q ≡ Full 3 row → HasValuesOnce after.entries (index_of (q, row))
  values_after q row e unique values null u v lu lv hu hv =
      let i : Index = index_of (q, row) in
      let name : Held = record { table = i.table; columns = i.columns; values = values } in
      let both : HasTable i.table (cells_of s) × AreAlike i.table (cells_of s) (cells_of after) = leaves i.table u lu (whole-held name u after.entries hu) in
      let same : cells_of after q ≡ cells_of s q = (both.1).indexes q (numbered_row 3 1 i.table (cells_of after q) row e (eq-eqb i.table i.table refl)) in
      let before : cells_of s q ≡ Full 3 row = sym same ∙ e in
      let among : IsAmong i (catalog (with_copies s)).indexes = subst (λ (c : Catalog). IsAmong i c.indexes) (sym (catalog-with_copies s)) (index-among s q row h before) in
      one-round name s session what reply after h (value-safe session (with_copies s) i values among unique null) st (once.values q row before unique values null) u v lu lv hu hv

  once_after : IsHeldOnce after
  once_after = record { tables = there-after s after leaves; keys = keys_after; values = values_after }

-- ---- whole runs

readers_copied : (n : ℕ) (o : Option Underway) (s : State) → ReadersHaveBookmarks s → ReadersHaveBookmarks (copied n o s)
readers_copied n None s k = k
readers_copied n (Some b) s k = k

pub readers-with_copies : (s : State) → ReadersHaveBookmarks s → ReadersHaveBookmarks (with_copies s)
unfolding with_copies
readers-with_copies s k = readers_copied s.settings.ckpt_pages s.underway s k

once-run : (lines : List Line) (replies : List Reply) (s after : State) → AreOfSessions lines → IsSound s → ReadersHaveBookmarks s → IsHeldOnce s → Run s lines replies after → IsHeldOnce after
once-run [] [] s after w h k o run = subst IsHeldOnce (sym run) o
once-run (l ∷ ls) (r ∷ rs) s after w h k o run =
    let mid : State = run.0 in
    let kept : IsSound mid × ReadersHaveBookmarks mid = bookmarks_stay.step s l.session l.what r mid (w.0) h k (run.1) in
    let leaves : KeepsTables s mid = leaves-step s l.session l.what r mid (sound-with_copies s h) o.tables (run.1) in
    once-run ls rs mid after (w.1) (kept.0) (kept.1) (once_after s l.session l.what r mid h (kept.0) o leaves (run.1)) (run.2)
once-run [] (r ∷ rs) s after w h k o run = absurd run
once-run (l ∷ ls) [] s after w h k o run = absurd run

there-begun : (settings : Settings) (found : Opened) (files : ℕ → Bool) (sets : ℕ → Option SetStanding) → TablesAreThere (begun settings found files sets)
unfolding begun with_entry live
there-begun settings found files sets m u l h = absurd (true≢false (sym l))

once-begun : (settings : Settings) (found : Opened) (files : ℕ → Bool) (sets : ℕ → Option SetStanding) → IsHeldOnce (begun settings found files sets)
unfolding begun with_entry
once-begun settings found files sets = record {
  tables = there-begun settings found files sets;
  keys = λ m values. one_holder-Mark _ (key_held m (key_columns m (begun settings found files sets)) values) [];
  values = λ q row e unique values null. one_holder-Mark _ (record { table = (index_of (q, row)).table; columns = (index_of (q, row)).columns; values = values }) [];
}

each_index : (es : Trail) (cells : Cells) (rows : List PlacedRow) → LieIn 3 cells rows → ((q : ℕ) (row : Row) → cells q ≡ Full 3 row → HasValuesOnce es (index_of (q, row))) → Each (HasValuesOnce es) (map index_of rows)
each_index es cells [] l f = tt
each_index es cells (r ∷ rows) l f = (f (r.0) (r.1) (l.0), each_index es cells rows (l.1) f)

once-catalog : (s : State) → IsHeldOnce s → HeldOnce (catalog s) s.entries
unfolding catalog_of
once-catalog s o =
    let rows : List PlacedRow = rows_of 3 (bound s) (cells_of s) in
    let lie : LieIn 3 (cells_of s) (by_number 0 rows)
    = (are_rows-in_order 3 (cells_of s) (λ a b. nat_cmp (number_at 0 a) (number_at 0 b)) rows (are_rows-rows_of 3 (bound s) (cells_of s))).lie in
    record {
      keys = each-mapped (λ (t : Table). t.key ≡ key_columns t.id s) (HasKeysOnce s.entries) (catalog s).tables
          (λ t a e values. subst (λ (cs : List ℕ). HasOneHolder (key_held t.id cs values) s.entries) (sym e) (o.keys t.id values)) (keys-by_number s);
      values = each_index s.entries (cells_of s) (by_number 0 rows) lie o.values;
    }

pub held_once_in_runs : HeldOnceInRuns
held_once_in_runs settings found files sets lines replies after sound sessions run =
    let first : State = begun settings found files sets in
    once-catalog after (once-run lines replies first after sessions sound (bookmarks_stay.begun settings found files sets) (once-begun settings found files sets) run)
