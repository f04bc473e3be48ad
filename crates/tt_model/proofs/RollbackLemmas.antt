-- A rollback puts back what is committed.
use Rattle.std.proofs.Common.{◌≡◌, inl, inr, ℕ, Bool, true, false, cond, ◌&&◌, ◌||◌, nat_eq, [], ◌∷◌, ◌++◌, Some, None, unwrap_or, refl, sym, ap, ◌∙◌, subst, append_assoc}
use Rattle.std.proofs.lemmas.Bool.{cond-true, cond-false, eq-eqb, eqb-true, cases_Bool, or_cases, and_parts, or_left, or_right, and_from, both_ways}
use Rattle.std.proofs.lemmas.List.Folds.{list_any-append}
use Rattle.std.specs.Option.{option_or}
use Rattle.tt_value.specs.declared.value.Cell.{Cell}
use Rattle.tt_value.specs.declared.position.Position.{Position}
use Rattle.tt_record.specs.declared.entry.Entry.{Entry}
use Rattle.tt_record.specs.declared.entry.Entry.TheVariants.{Change, Commit, Abort, Mark, Switch}
use Rattle.tt_record.specs.Entry.{length_of}
use Rattle.tt_record.specs.Place.{next_position}
use Rattle.tt_model.specs.Trail.{Trail}
use Rattle.tt_model.specs.Committed.{Cells, changed, changed_by, committed, current}
use Rattle.tt_model.specs.Live.{live, is_live, touched, names}
use Rattle.tt_model.specs.Steady.{MayAbort, IsGrown}
use Rattle.tt_model.specs.State.{State, write_position, with_entry, with_edits, reversals}
use Rattle.tt_model.proofs.SteadyLemmas.{at_place, list_any-with_number, changed-elsewhere, changed_by-touched, changed_by-untouched}
use Rattle.tt_model.proofs.SteadySteps.{steady-grown}
use Rattle.tt_model.proofs.AppendLemmas.{changed-own, changed-other}
use Rattle.tt_model.proofs.FirstBeforeLemmas.{before_by, first_before_by, first_before-committed, none_before}

grown-behind : (base : Cells) (newer es : Trail) → IsGrown base (newer ++ es) → IsGrown base es
grown-behind base [] es g = g
grown-behind base (e ∷ newer) es g = grown-behind base newer es (g.1)

-- the first before stays the first
first-stays : (t q : ℕ) (b : Cell) (newer es : Trail) → first_before_by t q es ≡ Some b → first_before_by t q (newer ++ es) ≡ Some b
first-stays t q b [] es h = h
first-stays t q b (e ∷ newer) es h = ap (λ f. option_or f (before_by t q e.entry)) (first-stays t q b newer es h)

own_change : (t p : ℕ) → (nat_eq t t && nat_eq p p) ≡ true
own_change t p = and_from (nat_eq t t) (nat_eq p p) (eq-eqb t t refl) (eq-eqb p p refl)

module _ (base : Cells) (t : ℕ) (all : Trail) (g : IsGrown base all) (l : is_live t all ≡ true) where
  abbrev C : Cells
  C = committed base all

  -- The row before of an own Change is what the own Changes before it leave over the committed cells.
  before-is : (newer older : Trail) (at : Position) (p : ℕ) (b a : Cell) → all ≡ newer ++ (at_place at (Change t p b a) ∷ older) → b ≡ changed_by t older C p
  before-is newer older at p b a is =
      let h : IsGrown base (at_place at (Change t p b a) ∷ older) = grown-behind base newer (at_place at (Change t p b a) ∷ older) (subst (IsGrown base) is g) in
      elim (cases_Bool (touched t p older)) [
        | inl y ↦ elim (cases_Bool (is_live t older)) [
          | inl z ↦ (h.0).before ∙ ((steady-grown base older (h.1)).own t p z y ∙ changed_by-touched t p older (committed base older) C y)
          | inr n ↦ absurd (both_ways (touched t p older) ((h.0).fresh n p) y)
        ]
        | inr n ↦
            let first : first_before_by t p (newer ++ (at_place at (Change t p b a) ∷ older)) ≡ Some b
            = first-stays t p b newer (at_place at (Change t p b a) ∷ older)
            (ap (λ f. option_or f (cond (nat_eq t t && nat_eq p p) (Some b) None)) (none_before t p older n)
            ∙ cond-true (nat_eq t t && nat_eq p p) (Some b) None (own_change t p)) in
            let there : touched t p all ≡ true
            = ap (λ es. touched t p es) is
            ∙ (list_any-append (λ e. names t p e.entry) newer (at_place at (Change t p b a) ∷ older)
            ∙ or_right (touched t p newer) (nat_eq t t && nat_eq p p || touched t p older) (or_left (nat_eq t t && nat_eq p p) (touched t p older) (own_change t p))) in
            some_same (sym first ∙ (ap (first_before_by t p) (sym is) ∙ first_before-committed base t p all g l there))
            ∙ sym (changed_by-untouched t p older C n)
      ]
    where
      some_same : {b c : Cell} → Some b ≡ Some c → b ≡ c
      some_same {b = b} h = ap (λ o. unwrap_or o b) h

-- Between two reversals: of the own Changes just the older ones are still in the cells.
pub record IsRolledTo (base : Cells) (t : ℕ) (all older es : Trail) : Type 0 where
  pub grown : IsGrown base es
  pub lives : is_live t es ≡ true
  pub same : (q : ℕ) → committed base es q ≡ committed base all q
  pub still : (q : ℕ) → touched t q all ≡ true → touched t q es ≡ true
  pub was : (q : ℕ) → touched t q es ≡ true → touched t q all ≡ true
  pub cells : (q : ℕ) → touched t q all ≡ true → current base es q ≡ changed_by t older (committed base all) q

module _ (base : Cells) (t : ℕ) (all : Trail) (g : IsGrown base all) (l : is_live t all ≡ true) where
  rolled-start : IsRolledTo base t all all all
  rolled-start = record { grown = g; lives = l; same = λ q. refl; still = λ q h. h; was = λ q h. h; cells = λ q h. (steady-grown base all g).own t q l h }

  -- one own Change is reversed
  rolled-own : (newer older es : Trail) (at at' : Position) (p : ℕ) (b a : Cell) → all ≡ newer ++ (at_place at (Change t p b a) ∷ older) →
      IsRolledTo base t all (at_place at (Change t p b a) ∷ older) es → IsRolledTo base t all older (at_place at' (Change t p a b) ∷ es)
  unfolding current committed live
  rolled-own newer older es at at' p b a is r =
      let there : touched t p all ≡ true
      = ap (λ es. touched t p es) is
      ∙ (list_any-append (λ e. names t p e.entry) newer (at_place at (Change t p b a) ∷ older)
      ∙ or_right (touched t p newer) (nat_eq t t && nat_eq p p || touched t p older) (or_left (nat_eq t t && nat_eq p p) (touched t p older) (own_change t p))) in
      let holds : a ≡ current base es p
      = sym (r.cells p there
      ∙ (ap (λ f. f p) (changed-own t p b a (changed_by t older (committed base all))) ∙ cond-true (nat_eq p p) a (changed_by t older (committed base all) p) (eq-eqb p p refl))) in
      record {
        grown = (
          record {
            before = holds;
            mine = λ u h k. (steady-grown base es r.grown).only u t p h r.lives k (r.still p there);
            fresh = λ n. absurd (both_ways (is_live t es) n r.lives);
          },
          r.grown,
        );
        lives = list_any-with_number (nat_eq t) t (live es) ∙ or_left (nat_eq t t) (is_live t es) (eq-eqb t t refl);
        same = r.same;
        still = λ q h. or_right (nat_eq t t && nat_eq q p) (touched t q es) (r.still q h);
        was = λ q h. elim (or_cases (nat_eq t t && nat_eq q p) (touched t q es) h) [
          | inl y ↦ ap (λ x. touched t x all) (eqb-true q p ((and_parts (nat_eq t t) (nat_eq q p) y).1)) ∙ there
          | inr y ↦ r.was q y
        ];
        cells = λ q h. elim (cases_Bool (nat_eq q p)) [
          | inl y ↦ cond-true (nat_eq q p) b (current base es q) y
              ∙ (before-is base t all g l newer older at p b a is ∙ ap (changed_by t older (committed base all)) (sym (eqb-true q p y)))
          | inr n ↦ cond-false (nat_eq q p) b (current base es q) n
              ∙ (r.cells q h ∙ changed-elsewhere t t p b a (changed_by t older (committed base all)) q n)
        ];
      }

  -- an entry that is no own Change stays out
  rolled-other : (older es : Trail) (at : Position) (x : Entry) → ((cells : Cells) → changed t x cells ≡ cells) →
      IsRolledTo base t all (at_place at x ∷ older) es → IsRolledTo base t all older es
  rolled-other older es at x keeps r = record {
    grown = r.grown;
    lives = r.lives;
    same = r.same;
    still = r.still;
    was = r.was;
    cells = λ q h. r.cells q h ∙ ap (λ f. f q) (keeps (changed_by t older (committed base all)));
  }

  Rolls : Trail → Type 0
  Rolls older = (s : State) → IsRolledTo base t all older s.entries → IsRolledTo base t all [] ((with_edits t (reversals t older) s).entries)

  rolls_change : (newer older : Trail) (at : Position) (u p : ℕ) (b a : Cell) → all ≡ newer ++ (at_place at (Change u p b a) ∷ older) → Rolls older →
      (c : Bool) → nat_eq t u ≡ c → (s : State) → IsRolledTo base t all (at_place at (Change u p b a) ∷ older) s.entries →
      IsRolledTo base t all [] ((with_edits t (cond c (record { place = Some p; before = a; after = b } ∷ reversals t older) (reversals t older)) s).entries)
  unfolding Rolls with_entry
  rolls_change newer older at u p b a is ih true e s r =
      let k : u ≡ t = sym (eqb-true t u e) in
      ih (with_entry (Change t p a b) s)
      (rolled-own newer older s.entries at (next_position (write_position s) (length_of (Change t p a b)) s.settings.log_file_size) p b a
      (subst (λ v. all ≡ newer ++ (at_place at (Change v p b a) ∷ older)) k is)
      (subst (λ v. IsRolledTo base t all (at_place at (Change v p b a) ∷ older) s.entries) k r))
  rolls_change newer older at u p b a is ih false e s r =
      ih s (rolled-other older s.entries at (Change u p b a) (λ cells. changed-other t u p b a cells e) r)

  rolls_step : (newer older : Trail) (at : Position) (x : Entry) → all ≡ newer ++ (at_place at x ∷ older) → Rolls older → Rolls (at_place at x ∷ older)
  unfolding Rolls reversals
  rolls_step newer older at (Change u p b a) is ih = rolls_change newer older at u p b a is ih (nat_eq t u) refl
  rolls_step newer older at (Commit u) is ih = λ s r. ih s (rolled-other older s.entries at (Commit u) (λ cells. refl) r)
  rolls_step newer older at (Abort u) is ih = λ s r. ih s (rolled-other older s.entries at (Abort u) (λ cells. refl) r)
  rolls_step newer older at Mark is ih = λ s r. ih s (rolled-other older s.entries at Mark (λ cells. refl) r)
  rolls_step newer older at (Switch n) is ih = λ s r. ih s (rolled-other older s.entries at (Switch n) (λ cells. refl) r)

  rolls : (newer older : Trail) → all ≡ newer ++ older → Rolls older
  unfolding Rolls reversals
  rolls newer [] is = λ s r. r
  rolls newer (e ∷ older) is =
      rolls_step newer older e.at e.entry is (rolls (newer ++ e ∷ []) older (is ∙ sym (append_assoc newer (e ∷ []) older)))

-- After its Changes were reversed a transaction may be aborted: its places hold what is committed.
pub rolled_back-MayAbort : (base : Cells) (t : ℕ) (s : State) → IsGrown base s.entries → is_live t s.entries ≡ true →
    IsGrown base ((with_edits t (reversals t s.entries) s).entries) × MayAbort base ((with_edits t (reversals t s.entries) s).entries) t
unfolding Rolls
rolled_back-MayAbort base t s g l =
    let r : IsRolledTo base t s.entries [] ((with_edits t (reversals t s.entries) s).entries)
    = rolls base t s.entries g l [] s.entries refl s (rolled-start base t s.entries g l) in
    (r.grown, record { live = r.lives; back = λ q h. r.cells q (r.was q h) ∙ sym (r.same q) })
