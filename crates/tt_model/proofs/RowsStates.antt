-- Users' rows stand good by the rules of a catalog: so it stays over the edits of a transaction, its commit, and its rollback.
use Rattle.std.proofs.Common.{◌≡◌, ◌⊎◌, ◌≤◌, ◌<◌, inl, inr, ℕ, Bool, true, false, cond, nat_eq, filter, find, List, [], ◌∷◌, Option, Some, unwrap_or, refl, sym, ap, ◌∙◌, subst, arith}
use Rattle.std.specs.Prelude.{◌==◌}
use Rattle.std.proofs.lemmas.Bool.{cases_Bool, eqb-true, eq-eqb, or_cases, both_ways}
use Rattle.tt_value.specs.declared.value.Row.{Row}
use Rattle.tt_value.specs.declared.value.Cell.{Cell}
use Rattle.tt_value.specs.declared.value.Cell.TheVariants.{Full}
use Rattle.tt_record.specs.declared.entry.Entry.TheVariants.{Change, Commit, Abort}
use Rattle.tt_model.specs.Trail.{Trail}
use Rattle.tt_model.specs.Committed.{Cells, changed_by, committed}
use Rattle.tt_model.specs.Live.{is_live, live, touched}
use Rattle.tt_model.specs.Holders.{Held, HasOneHolder, has_held}
use Rattle.tt_model.specs.Tables.{Catalog, Index, Table, indexes_of}
use Rattle.tt_model.specs.State.{State, all_forced, cells_of, next, place_for, placed, with_edit, with_edits, with_entry}
use Rattle.tt_model.specs.declared.definition.CellEdit.{CellEdit}
use Rattle.tt_model.specs.Steady.{MayChange}
use Rattle.tt_model.specs.Sound.{IsSound, MayEdit, MayWrite}
use Rattle.tt_model.specs.Step.{system_done, forced_where}
use Rattle.tt_model.specs.GoodRows.{FitsIn}
use Rattle.tt_model.specs.WholeRuns.{HasKeysOnce, HasValuesOnce, HeldOnce}
use Rattle.tt_model.proofs.SteadyLemmas.{is_in-without}
use Rattle.tt_model.proofs.SteadySteps.{steady-grown}
use Rattle.tt_model.proofs.RowLemmas.{flipped}
use Rattle.tt_model.proofs.AppendLemmas.{cells-Abort, changed-other}
use Rattle.tt_model.proofs.SoundLemmas.{LogOf, log-Change}
use Rattle.tt_model.proofs.SoundLines.{own_live-with_edit, live-with_edits}
use Rattle.tt_model.proofs.EndLemmas.{left_edits}
use Rattle.tt_model.proofs.BookmarkLemmas.{before_is_seen, cells-with_edits}
use Rattle.tt_model.proofs.OneHolderStatements.{IsAmong, each-found, each-one, same_parts}
use Rattle.tt_model.proofs.OneHolderLines.{AllFree, fresh-holder, one-with_edits}
use Rattle.tt_model.proofs.RowsFit.{AllHave, HaveChanges, fresh-has, have-Change, have-Commit, view-has}
use Rattle.tt_model.proofs.RowsOnce.{IsAlone, IsOnce, StandsOnce, once-Change, once-Commit}
use Rattle.tt_model.proofs.RowsGood.{IsUniqueIn, held-row}
use Rattle.tt_model.proofs.LineLemmas.{AreSome}

-- Each user's row fits, where it is committed and where a live transaction found or left it. And each key and unique value stands once.
pub record Stand (catalog : Catalog) (base : Cells) (es : Trail) : Type 0 where
  pub fits : AllHave (FitsIn catalog) base es
  pub once : (name : Held) → IsUniqueIn catalog name → StandsOnce name base es

abbrev pub StandIn : Catalog → State → Type 0
StandIn catalog s = Stand catalog s.found.cells s.entries

-- ---- one holder

unfiltered_step : {X : Type 0} (p : X → Bool) (x y : X) (ys : List X) → (IsAmong x (filter p ys) → IsAmong x ys × (p x ≡ true)) → (c : Bool) → p y ≡ c →
    IsAmong x (cond c (y ∷ filter p ys) (filter p ys)) → ((y ≡ x) ⊎ IsAmong x ys) × (p x ≡ true)
unfiltered_step p x y ys ih true e (inl same) = (inl same, ap p (sym same) ∙ e)
unfiltered_step p x y ys ih true e (inr b) = (inr ((ih b).0), (ih b).1)
unfiltered_step p x y ys ih false e b = (inr ((ih b).0), (ih b).1)

pub among-unfiltered : {X : Type 0} (p : X → Bool) (x : X) (xs : List X) → IsAmong x (filter p xs) → IsAmong x xs × (p x ≡ true)
among-unfiltered p x [] a = absurd a
among-unfiltered p x (y ∷ ys) a = unfiltered_step p x y ys (among-unfiltered p x ys) (p y) refl a

passes_step : {X : Type 0} (p : X → Bool) (x y : X) (o : Option X) → (o ≡ Some x → p x ≡ true) → (c : Bool) → p y ≡ c → cond c (Some y) o ≡ Some x → p x ≡ true
passes_step p x y o ih true e k = ap p (sym (ap (λ z. unwrap_or z y) k)) ∙ e
passes_step p x y o ih false e k = ih k

pub found-passes : {X : Type 0} (p : X → Bool) (x : X) (xs : List X) → find p xs ≡ Some x → p x ≡ true
found-passes p x [] h = let no : ⊥ = cc in absurd no
found-passes p x (y ∷ ys) h = passes_step p x y (find p ys) (found-passes p x ys) (p y) refl h

pub held-unique : (catalog : Catalog) (es : Trail) (name : Held) → HeldOnce catalog es → IsUniqueIn catalog name → HasOneHolder name es
held-unique catalog es name held u = elim u.rule [
  | inl key ↦
      let id : (u.table).id ≡ name.table = eqb-true ((u.table).id) name.table (found-passes (λ (t : Table). t.id == name.table) u.table catalog.tables u.found) in
      let one : HasKeysOnce es u.table = each-found (HasKeysOnce es) (λ (t : Table). t.id == name.table) u.table catalog.tables held.keys u.found in
      subst (λ (n : Held). HasOneHolder n es) (sym (same_parts name ((u.table).id) ((u.table).key) name.values (sym id) key refl)) (one name.values)
  | inr index ↦
      let id : (u.table).id ≡ name.table = eqb-true ((u.table).id) name.table (found-passes (λ (t : Table). t.id == name.table) u.table catalog.tables u.found) in
      let i : Index = index.0 in
      let by_unique : IsAmong i (indexes_of u.table catalog) × (i.unique ≡ true) = among-unfiltered (λ (x : Index). x.unique) i (indexes_of u.table catalog) (index.1) in
      let by_table : IsAmong i catalog.indexes × ((i.table == (u.table).id) ≡ true) = among-unfiltered (λ (x : Index). x.table == (u.table).id) i catalog.indexes (by_unique.0) in
      let one : HasValuesOnce es i = each-one (HasValuesOnce es) i catalog.indexes held.values (by_table.0) in
      let of_table : name.table ≡ i.table = sym id ∙ sym (eqb-true i.table ((u.table).id) (by_table.1)) in
      subst (λ (n : Held). HasOneHolder n es) (sym (same_parts name i.table i.columns name.values of_table (index.2) refl)) (one (by_unique.1) name.values (index.3))
]

-- ---- edits

-- A row that fits, whose keys and unique values no other row of the view has.
abbrev pub IsAllowed : Catalog → ℕ → Cell → Cells → Type 0
IsAllowed catalog p a view = FitsIn catalog a × ((name : Held) → IsUniqueIn catalog name → IsOnce name view → IsAlone name p a view)

-- Each edit leaves such a row, in what the transaction sees by then.
abbrev pub AreAllowed : Catalog → ℕ → List CellEdit → State → Type 0
AreAllowed catalog t [] s = Unit {0}
AreAllowed catalog t (e ∷ es) s = IsAllowed catalog (place_for e.place s) e.after (changed_by t s.entries (cells_of s)) × AreAllowed catalog t es (with_edit t e s)

-- What a transaction sees fits.
pub seen-fits : (catalog : Catalog) (base : Cells) (es : Trail) (t : ℕ) → AllHave (FitsIn catalog) base es → (is_live t es ≡ false → (q : ℕ) → touched t q es ≡ false) →
    (q : ℕ) → FitsIn catalog (changed_by t es (committed base es) q)
seen-fits catalog base es t fits fresh q = view-has (FitsIn catalog) t q es (committed base es) changes (fits.settled q)
  where
    changes : HaveChanges (FitsIn catalog) t es
    changes = elim (cases_Bool (is_live t es)) [ inl l ↦ fits.changes t l | inr n ↦ fresh-has (FitsIn catalog) t es (fresh n) ]

pub stand-edit : (catalog : Catalog) (t : ℕ) (e : CellEdit) (s : State) → LogOf s → MayChange s.found.cells s.entries t (place_for e.place s) e.before →
    IsAllowed catalog (place_for e.place s) e.after (changed_by t s.entries (cells_of s)) → StandIn catalog s → StandIn catalog (with_edit t e s)
unfolding with_entry
stand-edit catalog t e s h may allowed stand =
    let p : ℕ = place_for e.place s in
    let before : FitsIn catalog e.before
    = subst (FitsIn catalog) (sym (before_is_seen s.found.cells s.entries t p e.before (steady-grown s.found.cells s.entries h.grown) may))
    (seen-fits catalog s.found.cells s.entries t stand.fits may.fresh p) in
    record {
      fits = have-Change (FitsIn catalog) s.found.cells s.entries ((placed (Change t p e.before e.after) s).at) stand.fits t p e.before e.after may.fresh before (allowed.0);
      once = λ name u.
          once-Change name s.found.cells s.entries ((placed (Change t p e.before e.after) s).at) t p e.before e.after (stand.once name u) may.fresh ((allowed.1) name u);
    }

pub stand-with_edits : (catalog : Catalog) (t : ℕ) (edits : List CellEdit) (s : State) → LogOf s → MayWrite t s → MayEdit t edits s → AreAllowed catalog t edits s → StandIn catalog s →
    StandIn catalog (with_edits t edits s)
stand-with_edits catalog t [] s h w may allowed stand = stand
stand-with_edits catalog t (e ∷ es) s h w may allowed stand =
    stand-with_edits catalog t es (with_edit t e s) (log-Change t (place_for e.place s) e.before e.after s h w (may.0)) (inl (own_live-with_edit t e s)) (may.1) (allowed.1)
    (stand-edit catalog t e s h (may.0) (allowed.0) stand)

-- ---- a commit

pub stand-Commit : (catalog : Catalog) (t : ℕ) (s : State) → is_live t s.entries ≡ true → ((name : Held) → IsUniqueIn catalog name → HasOneHolder name s.entries) → StandIn catalog s →
    StandIn catalog (with_entry (Commit t) s)
unfolding with_entry
stand-Commit catalog t s l one stand = record {
  fits = have-Commit (FitsIn catalog) s.found.cells s.entries ((placed (Commit t) s).at) stand.fits t l;
  once = λ name u. once-Commit name s.found.cells s.entries ((placed (Commit t) s).at) t (stand.once name u) (one name u) l;
}

-- ---- a rollback

changes_other : (P : Cell → Type 0) (u t : ℕ) (edits : List CellEdit) (s : State) → nat_eq t u ≡ false → HaveChanges P u s.entries → HaveChanges P u ((with_edits t edits s).entries)
unfolding with_entry
changes_other P u t [] s n h = h
changes_other P u t (e ∷ es) s n h = changes_other P u t es (with_edit t e s) n ((λ y. absurd (both_ways (nat_eq t u) n (eq-eqb t u (sym (eqb-true u t y))))), h)

pub view-other : (u t : ℕ) (edits : List CellEdit) (s : State) (cells : Cells) → nat_eq t u ≡ false → changed_by u ((with_edits t edits s).entries) cells ≡ changed_by u s.entries cells
unfolding with_entry
view-other u t [] s cells n = refl
view-other u t (e ∷ es) s cells n =
    view-other u t es (with_edit t e s) cells n ∙ changed-other u t (place_for e.place s) e.before e.after (changed_by u s.entries cells) (flipped t u n)

-- Whatever edits it made before, the rows of the others stay.
pub stand-Abort : (catalog : Catalog) (t : ℕ) (edits : List CellEdit) (s : State) → StandIn catalog s → StandIn catalog (with_entry (Abort t) (with_edits t edits s))
unfolding with_entry live
stand-Abort catalog t edits s stand =
    let mid : State = with_edits t edits s in
    let same : cells_of (with_entry (Abort t) mid) ≡ cells_of s = cells-Abort t mid ∙ cells-with_edits t edits s in
    let left : (u : ℕ) → is_live u ((with_entry (Abort t) mid).entries) ≡ true → (nat_eq t u ≡ false) × (is_live u s.entries ≡ true)
    = λ u l. let k = is_in-without t u (live mid.entries) l in (k.0, left_edits u t edits s (k.0) (k.1)) in
    record {
      fits = record {
        settled = λ q. subst (λ (c : Cells). FitsIn catalog (c q)) (sym same) ((stand.fits).settled q);
        changes = λ u l. (tt, changes_other (FitsIn catalog) u t edits s ((left u l).0) ((stand.fits).changes u ((left u l).1)));
      };
      once = λ name k. record {
        settled = subst (IsOnce name) (sym same) ((stand.once name k).settled);
        seen = λ u l.
            subst (λ (c : Cells). IsOnce name (changed_by u mid.entries c)) (sym same)
            (subst (IsOnce name) (sym (view-other u t edits s (cells_of s) ((left u l).0))) ((stand.once name k).seen u ((left u l).1)));
      };
    }

-- ---- a transaction of the system

-- A cell with no user's row.
abbrev pub IsOfSystem : Cell → Type 0
IsOfSystem c = (table : ℕ) (row : Row) → c ≡ Full table row → table < 16

abbrev pub AreOfSystem : List CellEdit → Type 0
AreOfSystem [] = Unit {0}
AreOfSystem (e ∷ es) = (IsOfSystem e.before × IsOfSystem e.after) × AreOfSystem es

system-not_held : (name : Held) (c : Cell) → 16 ≤ name.table → IsOfSystem c → has_held name c ≡ true → ⊥
system-not_held name c user low y = let r = held-row name c y in let less : name.table < 16 = low name.table r.row r.is in omega (arith, user, less)

system-allowed : (catalog : Catalog) (t : ℕ) (edits : List CellEdit) (s : State) → AreOfSystem edits → AreAllowed catalog t edits s
system-allowed catalog t [] s low = tt
system-allowed catalog t (e ∷ es) s low = (
  (
    (λ table row is user. let less : table < 16 = ((low.0).1) table row is in absurd (omega (arith, user, less))),
    (λ name u one y. absurd (system-not_held name e.after u.user ((low.0).1) y)),
  ),
  system-allowed catalog t es (with_edit t e s) (low.1),
)

system-free : (t : ℕ) (name : Held) (edits : List CellEdit) (es : Trail) → 16 ≤ name.table → AreOfSystem edits → AllFree t name edits es
system-free t name [] es user low = tt
system-free t name (e ∷ rest) es user low = (
  (λ y. elim (or_cases (has_held name e.before) (has_held name e.after) y) [
    | inl k ↦ absurd (system-not_held name e.before user ((low.0).0) k)
    | inr k ↦ absurd (system-not_held name e.after user ((low.0).1) k)
  ]),
  system-free t name rest es user (low.1),
)

pub stand-forced : (catalog : Catalog) (c : Bool) (s : State) → StandIn catalog s → StandIn catalog (forced_where c s)
unfolding all_forced
stand-forced catalog true s stand = stand
stand-forced catalog false s stand = stand

pub stand-system_done : (catalog : Catalog) (edits : List CellEdit) (s : State) → IsSound s → AreSome edits → MayEdit (next s) edits s → AreOfSystem edits →
    ((name : Held) → IsUniqueIn catalog name → HasOneHolder name s.entries) → StandIn catalog s → StandIn catalog (system_done edits s)
stand-system_done catalog [] s h some may low one stand = absurd some
stand-system_done catalog (e ∷ es) s h some may low one stand =
    let t : ℕ = next s in
    let mid : State = with_edits t (e ∷ es) s in
    stand-forced catalog s.settings.durable_commits (with_entry (Commit t) mid)
    (stand-Commit catalog t mid (live-with_edits t t es (with_edit t e s) (own_live-with_edit t e s))
    (λ name u. one-with_edits name t (e ∷ es) s (one name u) (fresh-holder name t s (inr refl)) (system-free t name (e ∷ es) s.entries u.user low))
    (stand-with_edits catalog t (e ∷ es) s h.entries (inr refl) may (system-allowed catalog t (e ∷ es) s low) stand))
