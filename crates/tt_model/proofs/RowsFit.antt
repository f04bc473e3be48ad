-- What each committed row and each row before and after of the live Changes has, holds of all that live transactions see, and one more
-- entry keeps it so.
use Rattle.std.proofs.Common.{◌≡◌, inl, inr, ℕ, Bool, true, false, cond, ◌&&◌, nat_eq, [], ◌∷◌, refl, sym, ap, ◌∙◌, subst, true≢false}
use Rattle.std.proofs.lemmas.Bool.{cases_Bool, eqb-true, eq-eqb, or_cases, or_parts, and_parts, both_ways}
use Rattle.tt_value.specs.declared.value.Cell.{Cell}
use Rattle.tt_value.specs.declared.position.Position.{Position}
use Rattle.tt_record.specs.declared.entry.Entry.{Entry}
use Rattle.tt_record.specs.declared.entry.Entry.TheVariants.{Change, Commit, Abort, Mark, Switch}
use Rattle.tt_model.specs.Trail.{Trail}
use Rattle.tt_model.specs.Committed.{Cells, changed, changed_by, committed}
use Rattle.tt_model.specs.Live.{live, is_live, touched, names}
use Rattle.tt_model.proofs.SteadyLemmas.{at_place, list_any-with_number, is_in-without, changed-at}

-- The rows before and after of a transaction's Change.
abbrev pub HasEntry : (Cell → Type 0) → ℕ → Entry → Type 0
HasEntry P t (Change u p b a) = nat_eq t u ≡ true → P b × P a
HasEntry P t _ = Unit {0}

abbrev pub HaveChanges : (Cell → Type 0) → ℕ → Trail → Type 0
HaveChanges P t [] = Unit {0}
HaveChanges P t (e ∷ es) = HasEntry P t e.entry × HaveChanges P t es

-- All committed rows have it, and all rows that live transactions found and left.
pub record AllHave (P : Cell → Type 0) (base : Cells) (es : Trail) : Type 0 where
  pub settled : (q : ℕ) → P (committed base es q)
  pub changes : (t : ℕ) → is_live t es ≡ true → HaveChanges P t es

view_step : (P : Cell → Type 0) (t q : ℕ) (x : Entry) (view : Cells) → HasEntry P t x → P (view q) → P (changed t x view q)
view_step P t q (Change u p b a) view h k = subst P (sym (changed-at t u p q b a view)) (by (nat_eq t u && nat_eq q p) refl)
  where
    by : (c : Bool) → (nat_eq t u && nat_eq q p) ≡ c → P (cond c a (view q))
    by true e = (h ((and_parts (nat_eq t u) (nat_eq q p) e).0)).1
    by false e = k
view_step P t q (Commit u) view h k = k
view_step P t q (Abort u) view h k = k
view_step P t q Mark view h k = k
view_step P t q (Switch f) view h k = k

-- So have all rows that the transaction sees.
pub view-has : (P : Cell → Type 0) (t q : ℕ) (es : Trail) (cells : Cells) → HaveChanges P t es → P (cells q) → P (changed_by t es cells q)
view-has P t q [] cells h k = k
view-has P t q (e ∷ es) cells h k = view_step P t q e.entry (changed_by t es cells) (h.0) (view-has P t q es cells (h.1) k)

-- A transaction that touched no place has no Change.
fresh_step : (P : Cell → Type 0) (t : ℕ) (x : Entry) → ((q : ℕ) → names t q x ≡ false) → HasEntry P t x
fresh_step P t (Change u p b a) n = λ e. absurd (both_ways (nat_eq t u && nat_eq p p) (n p) (ap (λ c. c && nat_eq p p) e ∙ eq-eqb p p refl))
fresh_step P t (Commit u) n = tt
fresh_step P t (Abort u) n = tt
fresh_step P t Mark n = tt
fresh_step P t (Switch f) n = tt

pub fresh-has : (P : Cell → Type 0) (t : ℕ) (es : Trail) → ((q : ℕ) → touched t q es ≡ false) → HaveChanges P t es
fresh-has P t [] n = tt
fresh-has P t (e ∷ es) n = (fresh_step P t e.entry (λ q. (or_parts (names t q e.entry) (touched t q es) (n q)).0), fresh-has P t es (λ q. (or_parts (names t q e.entry) (touched t q es) (n q)).1))

-- ---- entries

module _ (P : Cell → Type 0) (base : Cells) (es : Trail) (at : Position) (h : AllHave P base es) where
  pub have-Change : (t p : ℕ) (b a : Cell) → (is_live t es ≡ false → (q : ℕ) → touched t q es ≡ false) → P b → P a → AllHave P base (at_place at (Change t p b a) ∷ es)
  unfolding committed live
  have-Change t p b a fresh before after = record {
    settled = h.settled;
    changes = λ u l. (
      λ e. (before, after),
      elim (or_cases (nat_eq u t) (is_live u es) (sym (list_any-with_number (nat_eq u) t (live es)) ∙ l)) [
        | inl y ↦ elim (cases_Bool (is_live u es)) [
          | inl k ↦ h.changes u k
          | inr n ↦
              let same : u ≡ t = eqb-true u t y in
              fresh-has P u es (λ q. ap (λ v. touched v q es) same ∙ fresh (ap (λ v. is_live v es) (sym same) ∙ n) q)
        ]
        | inr k ↦ h.changes u k
      ],
    );
  }

  pub have-Commit : (t : ℕ) → is_live t es ≡ true → AllHave P base (at_place at (Commit t) ∷ es)
  unfolding committed live
  have-Commit t l = record {
    settled = λ q. view-has P t q es (committed base es) (h.changes t l) (h.settled q);
    changes = λ u k. (tt, h.changes u ((is_in-without t u (live es) k).1));
  }

  pub have-Mark : AllHave P base (at_place at Mark ∷ es)
  unfolding committed live
  have-Mark = record { settled = h.settled; changes = λ u k. absurd (true≢false (sym k)) }
