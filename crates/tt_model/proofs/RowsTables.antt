-- Users' rows that stand good by one catalog stand good by another one that says the same of the tables which have rows.
use Rattle.std.proofs.Common.{◌≡◌, ◌⊎◌, ◌≤◌, inl, inr, ℕ, true, ◌||◌, nat_eq, [], ◌∷◌, refl, sym, ap, ◌∙◌, subst, true≢false}
use Rattle.std.proofs.lemmas.Bool.{cases_Bool, eq-eqb, and_parts, or_cases, or_right, or_left, and_from}
use Rattle.tt_value.specs.declared.value.Row.{Row}
use Rattle.tt_value.specs.declared.value.Cell.{Cell}
use Rattle.tt_value.specs.declared.value.Cell.TheVariants.{Empty, Full}
use Rattle.tt_record.specs.declared.entry.Entry.{Entry}
use Rattle.tt_record.specs.declared.entry.Entry.TheVariants.{Change, Commit, Abort, Mark, Switch}
use Rattle.tt_model.specs.Trail.{Trail}
use Rattle.tt_model.specs.Committed.{changed_by}
use Rattle.tt_model.specs.Live.{is_live, touched}
use Rattle.tt_model.specs.Holders.{Held, HasOneHolder, has_held, holds_by, is_held_by}
use Rattle.tt_model.specs.Tables.{Catalog, table_with}
use Rattle.tt_model.specs.State.{State, cells_of}
use Rattle.tt_model.specs.Sound.{whole_table}
use Rattle.tt_model.specs.WholeRuns.{HeldOnce}
use Rattle.tt_model.specs.GoodRows.{FitsIn}
use Rattle.tt_model.proofs.SteadyLemmas.{changed_by-untouched}
use Rattle.tt_model.proofs.HeldInRuns.{whole-held}
use Rattle.tt_model.proofs.RowsFit.{HasEntry, HaveChanges}
use Rattle.tt_model.proofs.RowsOnce.{StandsOnce, left-held}
use Rattle.tt_model.proofs.RowsGood.{HasRow, IsUniqueIn, held-row}
use Rattle.tt_model.proofs.RowsStates.{StandIn}

-- ---- tables with rows

-- A row of the table is committed, or a live transaction changed one.
abbrev pub HasRowOf : State → ℕ → Type 0
HasRowOf s m =
    ((q : ℕ) × (row : Row) × (cells_of s q ≡ Full m row)) ⊎ ((u : ℕ) × (is_live u s.entries ≡ true) × (is_held_by (whole_table m) s.entries u ≡ true))

full_whole : (m : ℕ) (row : Row) → has_held (whole_table m) (Full m row) ≡ true
full_whole m row = and_from (nat_eq m m) true (eq-eqb m m refl) refl

-- What has a name in a view has a row of its table.
pub seen-has_row : (s : State) (name : Held) (u q : ℕ) → is_live u s.entries ≡ true → has_held name (changed_by u s.entries (cells_of s) q) ≡ true → HasRowOf s name.table
seen-has_row s name u q l y = elim (cases_Bool (touched u q s.entries)) [
  | inl k ↦ inr (u, l, whole-held name u s.entries (left-held name u q s.entries (cells_of s) k y))
  | inr n ↦
      let r : HasRow name (cells_of s q) = held-row name (cells_of s q) (ap (has_held name) (sym (changed_by-untouched u q s.entries (cells_of s) n)) ∙ y) in
      inl (q, r.row, r.is)
]

pub settled-has_row : (s : State) (name : Held) (q : ℕ) → has_held name (cells_of s q) ≡ true → HasRowOf s name.table
settled-has_row s name q y = let r : HasRow name (cells_of s q) = held-row name (cells_of s q) y in inl (q, r.row, r.is)

-- ---- rows of Changes

-- A row of a table which the transaction found or left.
pub record HasChanged (P : Cell → Type 0) (m : ℕ) : Type 0 where
  pub row : Row
  pub has : P (Full m row)

whole_row : (P : Cell → Type 0) (m : ℕ) (c : Cell) → has_held (whole_table m) c ≡ true → P c → HasChanged P m
whole_row P m c y p = let r : HasRow (whole_table m) c = held-row (whole_table m) c y in record { row = r.row; has = subst P r.is p }

changed_step : (P : Cell → Type 0) (u m : ℕ) (x : Entry) → HasEntry P u x → holds_by (whole_table m) u x ≡ true → HasChanged P m
changed_step P u m (Change v p b a) h y =
    let parts : (nat_eq u v ≡ true) × ((has_held (whole_table m) b || has_held (whole_table m) a) ≡ true) = and_parts (nat_eq u v) (has_held (whole_table m) b || has_held (whole_table m) a) y in
    elim (or_cases (has_held (whole_table m) b) (has_held (whole_table m) a) (parts.1)) [
      | inl k ↦ whole_row P m b k ((h (parts.0)).0)
      | inr k ↦ whole_row P m a k ((h (parts.0)).1)
    ]
changed_step P u m (Commit v) h y = absurd (true≢false (sym y))
changed_step P u m (Abort v) h y = absurd (true≢false (sym y))
changed_step P u m Mark h y = absurd (true≢false (sym y))
changed_step P u m (Switch f) h y = absurd (true≢false (sym y))

pub has-changed : (P : Cell → Type 0) (u m : ℕ) (es : Trail) → HaveChanges P u es → is_held_by (whole_table m) es u ≡ true → HasChanged P m
has-changed P u m [] h y = absurd (true≢false (sym y))
has-changed P u m (e ∷ es) h y = elim (or_cases (holds_by (whole_table m) u e.entry) (is_held_by (whole_table m) es u) y) [
  | inl k ↦ changed_step P u m e.entry (h.0) k
  | inr k ↦ has-changed P u m es (h.1) k
]

mapped_step : (P Q : Cell → Type 0) (u : ℕ) (x : Entry) → ((m : ℕ) (row : Row) → holds_by (whole_table m) u x ≡ true → P (Full m row) → Q (Full m row)) → (P Empty → Q Empty) →
    HasEntry P u x → HasEntry Q u x
mapped_step P Q u (Change v p b a) f g h = λ e. (by b ((h e).0) (λ m k. held e m (or_left (has_held (whole_table m) b) (has_held (whole_table m) a) k)), by a ((h e).1) (λ m k. held e m (or_right (has_held (whole_table m) b) (has_held (whole_table m) a) k)))
  where
    held : nat_eq u v ≡ true → (m : ℕ) → (has_held (whole_table m) b || has_held (whole_table m) a) ≡ true → holds_by (whole_table m) u (Change v p b a) ≡ true
    held e m k = and_from (nat_eq u v) (has_held (whole_table m) b || has_held (whole_table m) a) e k

    by : (c : Cell) → P c → ((m : ℕ) → has_held (whole_table m) c ≡ true → holds_by (whole_table m) u (Change v p b a) ≡ true) → Q c
    by Empty p k = g p
    by (Full m row) p k = f m row (k m (full_whole m row)) p
mapped_step P Q u (Commit v) f g h = tt
mapped_step P Q u (Abort v) f g h = tt
mapped_step P Q u Mark f g h = tt
mapped_step P Q u (Switch n) f g h = tt

changes-mapped : (P Q : Cell → Type 0) (u : ℕ) (es : Trail) → ((m : ℕ) (row : Row) → is_held_by (whole_table m) es u ≡ true → P (Full m row) → Q (Full m row)) → (P Empty → Q Empty) →
    HaveChanges P u es → HaveChanges Q u es
changes-mapped P Q u [] f g h = tt
changes-mapped P Q u (e ∷ es) f g h = (
  mapped_step P Q u e.entry (λ m row k. f m row (or_left (holds_by (whole_table m) u e.entry) (is_held_by (whole_table m) es u) k)) g (h.0),
  changes-mapped P Q u es (λ m row k. f m row (or_right (holds_by (whole_table m) u e.entry) (is_held_by (whole_table m) es u) k)) g (h.1),
)

-- ---- another catalog

module _ (s : State) (old new : Catalog) (stand : StandIn old s) (held : HeldOnce old s.entries)
    (tables : (m : ℕ) → 16 ≤ m → HasRowOf s m → table_with m new ≡ table_with m old)
    (names : (name : Held) → HasRowOf s name.table → IsUniqueIn new name → StandsOnce name s.found.cells s.entries × HasOneHolder name s.entries) where
  fits_new : (m : ℕ) (row : Row) → HasRowOf s m → FitsIn old (Full m row) → FitsIn new (Full m row)
  fits_new m row has fits id found e user =
      let fit = fits id found e user in
      let same : m ≡ id = full_id m id row found e in
      (fit.0, tables id user (subst (HasRowOf s) same has) ∙ fit.1, fit.2)
    where
      full_id : (m id : ℕ) (row found : Row) → Full m row ≡ Full id found → m ≡ id
      full_id m id row found e = cc

  empty_new : FitsIn old Empty → FitsIn new Empty
  empty_new fits id found e user = let no : ⊥ = cc in absurd no

  cell_new : (q : ℕ) (c : Cell) → cells_of s q ≡ c → FitsIn old c → FitsIn new c
  cell_new q Empty e fits = empty_new fits
  cell_new q (Full m row) e fits = fits_new m row (inl (q, row, e)) fits

  pub stand-new : StandIn new s
  stand-new = record {
    fits = record {
      settled = λ q. cell_new q (cells_of s q) refl ((stand.fits).settled q);
      changes = λ u l. changes-mapped (FitsIn old) (FitsIn new) u s.entries (λ m row k. fits_new m row (inr (u, l, k))) empty_new ((stand.fits).changes u l);
    };
    once = λ name k. record {
      settled = λ p q hp hq. (((names name (settled-has_row s name p hp) k).0).settled) p q hp hq;
      seen = λ u l p q hp hq. (((names name (seen-has_row s name u p l hp) k).0).seen) u l p q hp hq;
    };
  }

  pub one-new : (name : Held) → IsUniqueIn new name → HasOneHolder name s.entries
  one-new name k u v lu lv hu hv = ((names name (inr (u, lu, whole-held name u s.entries hu)) k).1) u v lu lv hu hv
