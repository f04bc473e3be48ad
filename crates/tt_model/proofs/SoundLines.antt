-- Lines that keep a state sound.
use Rattle.std.proofs.Common.{◌≡◌, inl, inr, ℕ, Bool, true, false, cond, nat_eq, List, [], ◌∷◌, length, Option, Some, None, unwrap_or, refl, sym, ap, ◌∙◌, subst}
use Rattle.std.specs.Prelude.{◌==◌}
use Rattle.std.proofs.lemmas.Bool.{eq-eqb, eqb-true, or_left, or_right, both_ways, false_from_ne_true}
use Rattle.tt_record.specs.declared.entry.Entry.{Entry}
use Rattle.tt_record.specs.declared.entry.Entry.TheVariants.{Commit}
use Rattle.tt_model.specs.Trail.{Trail}
use Rattle.tt_model.specs.Live.{live, is_live}
use Rattle.tt_model.specs.Steady.{MayAbort, IsGrown}
use Rattle.tt_model.specs.Opened.{Opened}
use Rattle.tt_model.specs.State.{State, Underway, trail, next, at_one, with_entry, with_edit, with_edits, all_forced, reversals, place_for}
use Rattle.tt_model.specs.declared.definition.CellEdit.{CellEdit}
use Rattle.tt_model.specs.Sound.{IsOwned, KeepsCatalog, IsSound, MayWrite, MayEdit}
use Rattle.tt_model.specs.Checkpoint.{begin_checkpoint, copied, with_copies, with_all_copies, complete_where_due, completed, with_completion}
use Rattle.tt_model.specs.Step.{number_for, made_in, session_ended, rolled_back, system_done, forced_where, completion_after}
use Rattle.tt_model.proofs.SteadyLemmas.{list_any-with_number, is_in-without_other}
use Rattle.tt_model.proofs.NumberLemmas.{next-not_live}
use Rattle.tt_model.proofs.CatalogLemmas.{AreOfUsers, LeaveUserTables, catalog-with_edits, catalog-Commit, catalog-rolled_back, catalog-system}
use Rattle.tt_model.proofs.RollbackLemmas.{rolled_back-MayAbort}
use Rattle.tt_model.proofs.SoundLemmas.{LogOf, log-Change, log-Commit, log-Abort, log-all_forced, is_live-marked}

-- ---- edits of a transaction

pub live-with_edit : (u t : ℕ) (edit : CellEdit) (s : State) → is_live u s.entries ≡ true → is_live u ((with_edit t edit s).entries) ≡ true
unfolding with_entry live
live-with_edit u t edit s h = list_any-with_number (nat_eq u) t (live s.entries) ∙ or_right (nat_eq u t) (is_live u s.entries) h

pub own_live-with_edit : (t : ℕ) (edit : CellEdit) (s : State) → is_live t ((with_edit t edit s).entries) ≡ true
unfolding with_entry live
own_live-with_edit t edit s = list_any-with_number (nat_eq t) t (live s.entries) ∙ or_left (nat_eq t t) (is_live t s.entries) (eq-eqb t t refl)

pub live-with_edits : (u t : ℕ) (edits : List CellEdit) (s : State) → is_live u s.entries ≡ true → is_live u ((with_edits t edits s).entries) ≡ true
live-with_edits u t [] s h = h
live-with_edits u t (edit ∷ edits) s h = live-with_edits u t edits (with_edit t edit s) (live-with_edit u t edit s h)

pub log-with_edits : (t : ℕ) (edits : List CellEdit) (s : State) → LogOf s → MayWrite t s → MayEdit t edits s → LogOf (with_edits t edits s)
log-with_edits t [] s h w m = h
log-with_edits t (edit ∷ edits) s h w m =
    log-with_edits t edits (with_edit t edit s) (log-Change t (place_for edit.place s) edit.before edit.after s h w (m.0)) (inl (own_live-with_edit t edit s)) (m.1)

own-with_edits : (t : ℕ) (edits : List CellEdit) (s : State) → (with_edits t edits s).own ≡ s.own
unfolding with_entry
own-with_edits t [] s = refl
own-with_edits t (edit ∷ edits) s = own-with_edits t edits (with_edit t edit s)

pub found-with_edits : (t : ℕ) (edits : List CellEdit) (s : State) → (with_edits t edits s).found ≡ s.found
unfolding with_entry
found-with_edits t [] s = refl
found-with_edits t (edit ∷ edits) s = found-with_edits t edits (with_edit t edit s)

found_catalog : (t : ℕ) (edits : List CellEdit) (s : State) → KeepsCatalog s.found.cells ((with_edits t edits s).entries) → KeepsCatalog (with_edits t edits s).found.cells ((with_edits t edits s).entries)
found_catalog t edits s k = subst (λ (f : Opened). KeepsCatalog f.cells ((with_edits t edits s).entries)) (sym (found-with_edits t edits s)) k

pub found-rolled_back : (t : ℕ) (s : State) → (rolled_back t s).found ≡ s.found
unfolding with_entry
found-rolled_back t s = found-with_edits t (reversals t s.entries) s

found-system : (t : ℕ) (edits : List CellEdit) (s : State) → (with_entry (Commit t) (with_edits t edits s)).found ≡ s.found
unfolding with_entry
found-system t edits s = found-with_edits t edits s

-- ---- whose transaction is whose

module _ (own : ℕ → Option ℕ) (es more : Trail) (session t : ℕ) (o : IsOwned own es)
    (still : (u : ℕ) → is_live u es ≡ true → is_live u more ≡ true) (lives : is_live t more ≡ true)
    (alone : (a : ℕ) → own a ≡ Some t → a ≡ session) where
  some_same : (u v : ℕ) → Some u ≡ Some v → u ≡ v
  some_same u v h = ap (λ o. unwrap_or o u) h

  owner_lives : (a u : ℕ) (c : Bool) → cond c (Some t) (own a) ≡ Some u → is_live u more ≡ true
  owner_lives a u true h = ap (λ x. is_live x more) (sym (some_same t u h)) ∙ lives
  owner_lives a u false h = still u (o.live a u h)

  owner_once : (a b u : ℕ) (c d : Bool) → nat_eq a session ≡ c → nat_eq b session ≡ d → cond c (Some t) (own a) ≡ Some u → cond d (Some t) (own b) ≡ Some u → a ≡ b
  owner_once a b u true true e f h k = eqb-true a session e ∙ sym (eqb-true b session f)
  owner_once a b u true false e f h k = eqb-true a session e ∙ sym (alone b (k ∙ sym h))
  owner_once a b u false true e f h k = alone a (h ∙ sym k) ∙ sym (eqb-true b session f)
  owner_once a b u false false e f h k = o.once a b u h k

  -- A session takes the transaction.
  pub owned-taken : IsOwned (at_one session (Some t) own) more
  owned-taken = record {
    live = λ a u h. owner_lives a u (nat_eq a session) h;
    once = λ a b u h k. owner_once a b u (nat_eq a session) (nat_eq b session) refl refl h k;
  }

module _ (own : ℕ → Option ℕ) (es more : Trail) (session t : ℕ) (o : IsOwned own es) (is : own session ≡ Some t)
    (still : (u : ℕ) → nat_eq t u ≡ false → is_live u es ≡ true → is_live u more ≡ true) where
  other : (a u : ℕ) (c : Bool) → nat_eq a session ≡ c → cond c None (own a) ≡ Some u → (own a ≡ Some u) × (nat_eq t u ≡ false)
  other a u true e h = let no : ⊥ = cc in absurd no
  other a u false e h = (
    h,
    false_from_ne_true (nat_eq t u) (λ y. both_ways (nat_eq a session) e (eq-eqb a session (o.once a session t (h ∙ ap Some (sym (eqb-true t u y))) is))),
  )

  -- A session lets its transaction go.
  pub owned-let_go : IsOwned (at_one session None own) more
  owned-let_go = record {
    live = λ a u h. let p : (own a ≡ Some u) × (nat_eq t u ≡ false) = other a u (nat_eq a session) refl h in still u (p.1) (o.live a u (p.0));
    once = λ a b u h k. o.once a b u ((other a u (nat_eq a session) refl h).0) ((other b u (nat_eq b session) refl k).0);
  }

module _ (own : ℕ → Option ℕ) (es : Trail) (session : ℕ) (o : IsOwned own es) where
  had : (a u : ℕ) (c : Bool) → cond c None (own a) ≡ Some u → own a ≡ Some u
  had a u true h = let no : ⊥ = cc in absurd no
  had a u false h = h

  pub owned-none : IsOwned (at_one session None own) es
  owned-none = record {
    live = λ a u h. o.live a u (had a u (nat_eq a session) h);
    once = λ a b u h k. o.once a b u (had a u (nat_eq a session) h) (had b u (nat_eq b session) k);
  }

-- ---- statements: the edits of a session's transaction

number_alone : (s : State) (session a : ℕ) → IsSound s → (o : Option ℕ) → s.own session ≡ o → s.own a ≡ Some (number_for o s) → a ≡ session
number_alone s session a h (Some t) is k = (h.owned).once a session t k is
number_alone s session a h None is k = absurd (both_ways (is_live (next s) (trail s)) (next-not_live s.found.next (trail s))
    (is_live-marked (next s) s.entries s.found.entries (h.entries).marked ∙ (h.owned).live a (next s) k))

pub number_writes : (s : State) (session : ℕ) → IsSound s → (o : Option ℕ) → s.own session ≡ o → MayWrite (number_for o s) s
number_writes s session h (Some t) is = inl ((h.owned).live session t is)
number_writes s session h None is = inr refl

pub writes : (s : State) (session : ℕ) → IsSound s → MayWrite (number_for (s.own session) s) s
writes s session h = number_writes s session h (s.own session) refl

pub sound-made_in : (s : State) (session : ℕ) (edit : CellEdit) (edits : List CellEdit) → IsSound s →
    AreOfUsers (edit ∷ edits) → MayEdit (number_for (s.own session) s) (edit ∷ edits) s → IsSound (made_in session (number_for (s.own session) s) (edit ∷ edits) s)
sound-made_in s session edit edits h o m =
    let t : ℕ = number_for (s.own session) s in
    record {
      entries = log-with_edits t (edit ∷ edits) s h.entries (writes s session h) m;
      owned = owned-taken s.own s.entries ((with_edits t (edit ∷ edits) s).entries) session t h.owned
          (λ u l. live-with_edits u t (edit ∷ edits) s l)
          (live-with_edits t t edits (with_edit t edit s) (own_live-with_edit t edit s))
          (λ a k. number_alone s session a h (s.own session) refl k);
      catalog = found_catalog t (edit ∷ edits) s (catalog-with_edits t (edit ∷ edits) s h.catalog (writes s session h) o);
    }

-- ---- forces, commits, rollbacks

pub sound-all_forced : (s : State) → IsSound s → IsSound (all_forced s)
unfolding all_forced
sound-all_forced s h = record { entries = log-all_forced s h.entries; owned = h.owned; catalog = h.catalog }

pub sound-forced_where : (c : Bool) (s : State) → IsSound s → IsSound (forced_where c s)
sound-forced_where true s h = sound-all_forced s h
sound-forced_where false s h = h

forced_own : (c : Bool) (s : State) → (forced_where c s).own ≡ s.own
unfolding all_forced
forced_own true s = refl
forced_own false s = refl

forced_entries : (c : Bool) (s : State) → (forced_where c s).entries ≡ s.entries
unfolding all_forced
forced_entries true s = refl
forced_entries false s = refl

log-forced_where : (c : Bool) (s : State) → LogOf s → LogOf (forced_where c s)
unfolding all_forced
log-forced_where true s h = log-all_forced s h
log-forced_where false s h = h

-- A commit of a session's transaction.
pub sound-Commit : (s : State) (session t : ℕ) (durable : Bool) → IsSound s → s.own session ≡ Some t →
    IsSound (session_ended session (forced_where durable (with_entry (Commit t) s)))
unfolding with_entry live all_forced
sound-Commit s session t durable h is =
    let log : LogOf (with_entry (Commit t) s) = log-Commit t s h.entries ((h.owned).live session t is) in
    let owned : IsOwned (at_one session None s.own) ((with_entry (Commit t) s).entries)
    = owned-let_go s.own s.entries ((with_entry (Commit t) s).entries) session t h.owned is (λ u n l. is_in-without_other t u (live s.entries) n l) in
    let kept : KeepsCatalog s.found.cells ((with_entry (Commit t) s).entries) = catalog-Commit t s h.catalog ((h.owned).live session t is) in
    elim durable as (λ d. IsSound (session_ended session (forced_where d (with_entry (Commit t) s)))) [
      | true ↦ record { entries = log-all_forced (with_entry (Commit t) s) log; owned = owned; catalog = kept }
      | false ↦ record { entries = log; owned = owned; catalog = kept }
    ]

-- A commit or a rollback of a session with no transaction.
pub sound-settled_none : (s : State) (session : ℕ) (durable : Bool) → IsSound s → IsSound (session_ended session (forced_where durable s))
unfolding all_forced
sound-settled_none s session true h = record { entries = log-all_forced s h.entries; owned = owned-none s.own s.entries session h.owned; catalog = h.catalog }
sound-settled_none s session false h = record { entries = h.entries; owned = owned-none s.own s.entries session h.owned; catalog = h.catalog }

pub own-rolled_back : (t : ℕ) (s : State) → (rolled_back t s).own ≡ s.own
unfolding with_entry
own-rolled_back t s = own-with_edits t (reversals t s.entries) s

-- Edits of which the whole is grown may be made, one after another.
grown_before : (t : ℕ) (edits : List CellEdit) (s : State) → IsGrown s.found.cells ((with_edits t edits s).entries) → IsGrown s.found.cells s.entries
unfolding with_entry
grown_before t [] s g = g
grown_before t (edit ∷ edits) s g = (grown_before t edits (with_edit t edit s) g).1

may-edit : (t : ℕ) (edits : List CellEdit) (s : State) → IsGrown s.found.cells ((with_edits t edits s).entries) → MayEdit t edits s
unfolding with_entry
may-edit t [] s g = tt
may-edit t (edit ∷ edits) s g = ((grown_before t edits (with_edit t edit s) g).0, may-edit t edits (with_edit t edit s) g)

-- A rollback of a session's transaction.
pub log-rolled_back : (t : ℕ) (s : State) → LogOf s → is_live t s.entries ≡ true → LogOf (rolled_back t s)
log-rolled_back t s h l =
    let back : IsGrown s.found.cells ((with_edits t (reversals t s.entries) s).entries) × MayAbort s.found.cells ((with_edits t (reversals t s.entries) s).entries) t
    = rolled_back-MayAbort s.found.cells t s h.grown l in
    log-Abort t (with_edits t (reversals t s.entries) s)
    (log-with_edits t (reversals t s.entries) s h (inl l) (may-edit t (reversals t s.entries) s (back.0)))
    (subst (λ (f : Opened). MayAbort f.cells ((with_edits t (reversals t s.entries) s).entries) t) (sym (found-with_edits t (reversals t s.entries) s)) (back.1))

pub live-rolled_back : (u t : ℕ) (s : State) → nat_eq t u ≡ false → is_live u s.entries ≡ true → is_live u ((rolled_back t s).entries) ≡ true
unfolding with_entry live
live-rolled_back u t s n l =
    is_in-without_other t u (live ((with_edits t (reversals t s.entries) s).entries)) n (live-with_edits u t (reversals t s.entries) s l)

pub sound-rolled_back : (s : State) (session t : ℕ) → IsSound s → s.own session ≡ Some t → IsSound (session_ended session (rolled_back t s))
sound-rolled_back s session t h is = record {
  entries = log-rolled_back t s h.entries ((h.owned).live session t is);
  owned = subst (λ (own : ℕ → Option ℕ). IsOwned (at_one session None own) ((rolled_back t s).entries)) (sym (own-rolled_back t s))
      (owned-let_go s.own s.entries ((rolled_back t s).entries) session t h.owned is (λ u n l. live-rolled_back u t s n l));
  catalog = subst (λ (f : Opened). KeepsCatalog f.cells ((rolled_back t s).entries)) (sym (found-rolled_back t s)) (catalog-rolled_back t (reversals t s.entries) s h.catalog);
}

-- ---- a transaction of its own

live_below_next : (s : State) → IsSound s → (a u : ℕ) → s.own a ≡ Some u → nat_eq (next s) u ≡ false
live_below_next s h a u k = false_from_ne_true (nat_eq (next s) u) (λ y. both_ways (is_live (next s) (trail s)) (next-not_live s.found.next (trail s))
    (is_live-marked (next s) s.entries s.found.entries (h.entries).marked
    ∙ (ap (λ x. is_live x s.entries) (eqb-true (next s) u y) ∙ (h.owned).live a u k)))

owned_beside : (s : State) (more : Trail) → IsSound s → ((u : ℕ) → nat_eq (next s) u ≡ false → is_live u s.entries ≡ true → is_live u more ≡ true) → IsOwned s.own more
owned_beside s more h still = record {
  live = λ a u k. still u (live_below_next s h a u k) ((h.owned).live a u k);
  once = (h.owned).once;
}

live-system : (u t : ℕ) (edits : List CellEdit) (s : State) → nat_eq t u ≡ false → is_live u s.entries ≡ true → is_live u ((with_entry (Commit t) (with_edits t edits s)).entries) ≡ true
unfolding with_entry live
live-system u t edits s n l = is_in-without_other t u (live ((with_edits t edits s).entries)) n (live-with_edits u t edits s l)

log-system : (edit : CellEdit) (edits : List CellEdit) (s : State) → LogOf s → MayEdit (next s) (edit ∷ edits) s → LogOf (with_entry (Commit (next s)) (with_edits (next s) (edit ∷ edits) s))
log-system edit edits s h m =
    log-Commit (next s) (with_edits (next s) (edit ∷ edits) s) (log-with_edits (next s) (edit ∷ edits) s h (inr refl) m)
    (live-with_edits (next s) (next s) edits (with_edit (next s) edit s) (own_live-with_edit (next s) edit s))

own-with_entry : (e : Entry) (s : State) → (with_entry e s).own ≡ s.own
unfolding with_entry
own-with_entry e s = refl

pub sound-system_done : (edit : CellEdit) (edits : List CellEdit) (s : State) → IsSound s → LeaveUserTables (edit ∷ edits) → MayEdit (next s) (edit ∷ edits) s → IsSound (system_done (edit ∷ edits) s)
sound-system_done edit edits s h u m =
    let done : State = with_entry (Commit (next s)) (with_edits (next s) (edit ∷ edits) s) in
    sound-forced_where s.settings.durable_commits done (record {
      entries = log-system edit edits s h.entries m;
      owned = subst (λ (own : ℕ → Option ℕ). IsOwned own done.entries)
          (sym (own-with_entry (Commit (next s)) (with_edits (next s) (edit ∷ edits) s) ∙ own-with_edits (next s) (edit ∷ edits) s))
          (owned_beside s done.entries h (λ u n l. live-system u (next s) (edit ∷ edits) s n l));
      catalog = subst (λ (f : Opened). KeepsCatalog f.cells done.entries) (sym (found-system (next s) (edit ∷ edits) s)) (catalog-system (edit ∷ edits) s h.catalog u);
    })

-- ---- checkpoints

sound-copied : (n : ℕ) (s : State) (b : Option Underway) → IsSound s → IsSound (copied n b s)
sound-copied n s None h = h
sound-copied n s (Some b) h = record { entries = h.entries; owned = h.owned; catalog = h.catalog }

pub sound-with_copies : (s : State) → IsSound s → IsSound (with_copies s)
unfolding with_copies
sound-with_copies s h = sound-copied s.settings.ckpt_pages s s.underway h

pub sound-with_all_copies : (s : State) → IsSound s → IsSound (with_all_copies s)
unfolding with_all_copies
sound-with_all_copies s h = sound-copied s.pages s s.underway h

pub sound-begin_checkpoint : (s : State) → IsSound s → IsSound (begin_checkpoint s)
unfolding begin_checkpoint
sound-begin_checkpoint s h = record { entries = h.entries; owned = h.owned; catalog = h.catalog }

sound-completed : (b : Underway) (s : State) → IsSound s → IsSound (completed b s)
unfolding completed all_forced
sound-completed b s h = record { entries = log-all_forced s h.entries; owned = h.owned; catalog = h.catalog }

sound_due : (b : Underway) (s : State) (c : Bool) → IsSound s → IsSound (cond c (completed b s) s)
sound_due b s true h = sound-completed b s h
sound_due b s false h = h

sound_where_due : (s : State) (b : Option Underway) → IsSound s → IsSound (complete_where_due b s)
sound_where_due s None h = h
sound_where_due s (Some b) h = sound_due b s (length b.left == 0) h

pub sound-with_completion : (s : State) → IsSound s → IsSound (with_completion s)
unfolding with_completion
sound-with_completion s h = sound_where_due s s.underway h

pub sound-completion_after : (b : Option Underway) (s : State) → IsSound s → IsSound (completion_after b s)
sound-completion_after None s h = h
sound-completion_after (Some b) s h = sound-with_completion s h
