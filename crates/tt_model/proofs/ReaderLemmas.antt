-- What a read leaves due, along a trail that grows.
use Rattle.std.proofs.Common.{◌≡◌, ◌≤◌, ◌+◌, inl, inr, ℕ, suc, Bool, true, false, not, cond, nat_lt, List, [], ◌∷◌, ◌++◌, filter, length, take, drop, Some, refl, sym, ap, ◌∙◌, subst, arith}
use Rattle.std.proofs.lemmas.Bool.{or_left, or_right, ltb-true}
use Rattle.std.proofs.lemmas.List.{drop-append-le}
use Rattle.std.proofs.Math.Seq.{drop-append-add, drop-append_seam}
use Rattle.std.specs.Ordering.{is_lt}
use Rattle.tt_value.specs.declared.position.Position.{Position}
use Rattle.tt_record.specs.declared.entry.Entry.{Entry}
use Rattle.tt_record.specs.declared.entry.Entry.TheVariants.{Change, Commit, Abort, Mark, Switch}
use Rattle.tt_record.specs.PlaceLaws.{end_behind}
use Rattle.tt_model.specs.Trail.{Trail, Placed, IsOrdered, position_lt, position_le, position_eq, placed_end, placed_length, trail_end, before}
use Rattle.tt_model.specs.Tables.{Subscribed, Catalog}
use Rattle.tt_model.specs.State.{ReadPlace}
use Rattle.tt_model.specs.Due.{DueChange, open_changes, counted, is_subscribed, marked, after_skip, due_of, due, next_hold, read_at, last_of, read_after, read_to}
use Rattle.tt_model.proofs.OrderLemmas.{le_lt, lt_le, lt-le, le_trans, le_self, lt-not_le_back, lt-not_eq_back, not_lt-le, le-not_lt_back}
use Rattle.tt_model.proofs.LowLemmas.{AllBefore, some_length}
use Rattle.tt_model.proofs.HoldLemmas.{next_hold-same}
use Rattle.tt_model.proofs.DueLemmas.{assoc, with_none, nth, nth-append, nth-less, last-taken, fewer-all, IsBlock, of_commit, of_commit-block, passes, all_pass, IsOf, nth-of, rest-of, last-of}

-- ---- what stands before and behind an entry

-- All of these stand at or behind a position.
abbrev pub AllFrom : Position → Trail → Type 0
AllFrom low [] = Unit {0}
AllFrom low (e ∷ es) = (position_le low e.at ≡ true) × AllFrom low es

all_from-lower : (p q : Position) (es : Trail) → position_le p q ≡ true → AllFrom q es → AllFrom p es
all_from-lower p q [] l a = tt
all_from-lower p q (e ∷ es) l a = (le_trans p q e.at l (a.0), all_from-lower p q es l (a.1))

pub own_end : (e : Placed) → position_lt e.at (placed_end e) ≡ true
own_end e = ap is_lt (end_behind e.at (placed_length e) (some_length e.entry))

ordered-part : (base : Position) (more es : Trail) → IsOrdered base (more ++ es) → IsOrdered base es
ordered-part base [] es o = o
ordered-part base (e ∷ more) es o = ordered-part base more es (o.1)

-- Each newer entry stands at or behind the end of an older one.
newer_from : (base : Position) (e : Placed) (more es : Trail) → IsOrdered base (more ++ e ∷ es) → AllFrom (placed_end e) more × (position_le (placed_end e) (trail_end base (more ++ e ∷ es)) ≡ true)
newer_from base e [] es o = (tt, le_self (placed_end e))
newer_from base e (f ∷ more) es o =
    let rest : AllFrom (placed_end e) more × (position_le (placed_end e) (trail_end base (more ++ e ∷ es)) ≡ true) = newer_from base e more es (o.1) in
    let here : position_le (placed_end e) f.at ≡ true = le_trans (placed_end e) (trail_end base (more ++ e ∷ es)) f.at (rest.1) (o.0) in
    ((here, rest.0), le_trans (placed_end e) f.at (placed_end f) here (lt-le f.at (placed_end f) (own_end f)))

-- Each older entry stands before a position behind the end of the trail.
pub older_before : (base p : Position) (es : Trail) → IsOrdered base es → position_le (trail_end base es) p ≡ true → AllBefore p es
older_before base p [] o l = tt
older_before base p (e ∷ es) o l =
    let here : position_lt e.at p ≡ true = lt_le e.at (placed_end e) p (own_end e) l in
    (here, older_before base p es (o.1) (le_trans (trail_end base es) e.at p (o.0) (lt-le e.at p here)))

-- Entries behind a position don't stand before it.
before_skip : (p : Position) (e : Placed) (es : Trail) → position_le p e.at ≡ true → before p (e ∷ es) ≡ before p es
unfolding before
before_skip p e es l = ap (λ c. cond c (e ∷ es) (before p es)) (le-not_lt_back p e.at l)

before-newer : (p : Position) (more es : Trail) → AllFrom p more → before p (more ++ es) ≡ before p es
before-newer p [] es a = refl
before-newer p (e ∷ more) es a = before_skip p e (more ++ es) (a.0) ∙ before-newer p more es (a.1)

-- ---- what is due of a longer trail

module _ (subscriptions : List Subscribed) (catalog : Catalog) where
  abbrev pub extra : ReadPlace → Trail → Trail → List DueChange
  extra place [] es = []
  extra place (e ∷ more) es = extra place more es ++ due_of place subscriptions catalog e e.entry (more ++ es)

  pub due-append : (place : ReadPlace) (more es : Trail) → due place subscriptions catalog (more ++ es) ≡ due place subscriptions catalog es ++ extra place more es
  unfolding due
  due-append place [] es = sym (with_none (due place subscriptions catalog es))
  due-append place (e ∷ more) es =
      ap (λ (ds : List DueChange). ds ++ due_of place subscriptions catalog e e.entry (more ++ es)) (due-append place more es)
      ∙ assoc (due place subscriptions catalog es) (extra place more es) (due_of place subscriptions catalog e e.entry (more ++ es))

  nothing_before : (place : ReadPlace) (e : Placed) (x : Entry) (es : Trail) → position_lt e.at place.at ≡ true → due_of place subscriptions catalog e x es ≡ []
  nothing_before place e (Commit t) es l =
      ap (λ c. cond c (filter (after_skip place) (of_commit place.hold subscriptions catalog e t es)) []) (lt-not_le_back e.at place.at l)
  nothing_before place e (Change t p b a) es l = refl
  nothing_before place e (Abort t) es l = refl
  nothing_before place e Mark es l = refl
  nothing_before place e (Switch f) es l = refl

  -- Of what stands before the place nothing is due.
  due-before : (place : ReadPlace) (es : Trail) → AllBefore place.at es → due place subscriptions catalog es ≡ []
  unfolding due
  due-before place [] a = refl
  due-before place (e ∷ es) a =
      ap (λ (ds : List DueChange). ds ++ due_of place subscriptions catalog e e.entry es) (due-before place es (a.1)) ∙ nothing_before place e e.entry es (a.0)

  -- From a position on a place leaves nothing out.
  TakesAll : ReadPlace → Position → Type 0
  TakesAll place low = (at : Position) → position_le low at ≡ true → (position_le place.at at ≡ true) × (passes place at 1 ≡ true)

  takes_commit : (place : ReadPlace) (low : Position) (e : Placed) (t : ℕ) (es : Trail) → TakesAll place low → position_le low e.at ≡ true →
      due_of place subscriptions catalog e (Commit t) es ≡ of_commit place.hold subscriptions catalog e t es
  unfolding TakesAll
  takes_commit place low e t es a l =
      ap (λ c. cond c (filter (after_skip place) (of_commit place.hold subscriptions catalog e t es)) []) ((a e.at l).0)
      ∙ all_pass place e 0 (of_commit place.hold subscriptions catalog e t es) (of_commit-block place.hold subscriptions catalog e t es) ((a e.at l).1)

  -- Two places of which each takes all, with the same open Changes, are due the same.
  same_commit : (place np : ReadPlace) (low : Position) (e : Placed) (x : Entry) (es : Trail) → TakesAll place low → TakesAll np low → position_le low e.at ≡ true →
      ((t : ℕ) → open_changes np.hold t es ≡ open_changes place.hold t es) → due_of np subscriptions catalog e x es ≡ due_of place subscriptions catalog e x es
  same_commit place np low e (Commit t) es a b l h =
      takes_commit np low e t es b l
      ∙ (ap (λ ds. marked catalog t e true (filter (is_subscribed subscriptions e.at) (counted 0 ds))) (h t) ∙ sym (takes_commit place low e t es a l))
  same_commit place np low e (Change t p c d) es a b l h = refl
  same_commit place np low e (Abort t) es a b l h = refl
  same_commit place np low e Mark es a b l h = refl
  same_commit place np low e (Switch f) es a b l h = refl

  extra-same : (place np : ReadPlace) (low : Position) (more es : Trail) → TakesAll place low → TakesAll np low → AllFrom low more →
      ((t : ℕ) (newer : Trail) → AllFrom low newer → open_changes np.hold t (newer ++ es) ≡ open_changes place.hold t (newer ++ es)) → extra np more es ≡ extra place more es
  extra-same place np low [] es a b f h = refl
  extra-same place np low (e ∷ more) es a b f h =
      ap (λ (ds : List DueChange). ds ++ due_of np subscriptions catalog e e.entry (more ++ es)) (extra-same place np low more es a b (f.1) h)
      ∙ ap (λ (ds : List DueChange). extra place more es ++ ds) (same_commit place np low e e.entry (more ++ es) a b (f.0) (λ t. h t more (f.1)))

  -- ---- where a place has moved to

  -- The place is there, and its hold loses nothing that stands open there.
  pub record Moved (place : ReadPlace) (at : Position) (skip : ℕ) (trail : Trail) (np : ReadPlace) : Type 0 where
    pub at_is : np.at ≡ at
    pub skip_is : np.skip ≡ skip
    pub hold_is : (t : ℕ) (es : Trail) → before at trail ≡ before at es → open_changes np.hold t es ≡ open_changes place.hold t es

  moved_where : (place : ReadPlace) (at : Position) (skip : ℕ) (trail : Trail) (c : Bool) →
      Moved place at skip trail (cond c (record { at = at; skip = skip; hold = place.hold }) (record { at = at; skip = skip; hold = next_hold place.hold at trail }))
  moved_where place at skip trail true = record { at_is = refl; skip_is = refl; hold_is = λ t es e. refl }
  moved_where place at skip trail false = record { at_is = refl; skip_is = refl; hold_is = λ t es e. next_hold-same t place.hold at es trail e }

  moved : (place : ReadPlace) (at : Position) (skip : ℕ) (trail : Trail) → Moved place at skip trail (read_at place at skip trail)
  moved place at skip trail = moved_where place at skip trail (position_eq at place.at)

  -- ---- behind one change

  takes_behind : (place : ReadPlace) (low : Position) → position_lt place.at low ≡ true → TakesAll place low
  unfolding TakesAll
  takes_behind place low l at k =
      let here : position_lt place.at at ≡ true = lt_le place.at low at l k in
      (lt-le place.at at here, or_left (not (position_eq at place.at)) (nat_lt place.skip 1) (ap not (lt-not_eq_back place.at at here)))

  takes_fresh : (place : ReadPlace) (low : Position) → position_le place.at low ≡ true → place.skip ≡ 0 → TakesAll place low
  unfolding TakesAll
  takes_fresh place low l e at k = (
    le_trans place.at low at l k,
    or_right (not (position_eq at place.at)) (nat_lt place.skip 1) (ap (λ s. nat_lt s 1) e),
  )

  -- What is due behind a change of the newest Commit of a trail: the rest of it, and all that comes later.
  joined : (place np : ReadPlace) (m : ℕ) (e : Placed) (more es : Trail) → due np subscriptions catalog es ≡ [] →
      due_of np subscriptions catalog e e.entry es ≡ drop (suc m) (due_of place subscriptions catalog e e.entry es) →
      suc m ≤ length (due_of place subscriptions catalog e e.entry es) → extra np more (e ∷ es) ≡ extra place more (e ∷ es) →
      due np subscriptions catalog (more ++ e ∷ es) ≡ drop (length (due place subscriptions catalog es) + suc m) (due place subscriptions catalog (more ++ e ∷ es))
  unfolding due
  joined place np m e more es none rest l same =
      let old : List DueChange = due place subscriptions catalog es in
      let new : List DueChange = due_of place subscriptions catalog e e.entry es in
      let later : List DueChange = extra place more (e ∷ es) in
      due-append np more (e ∷ es)
      ∙ (ap (λ (ds : List DueChange). (ds ++ due_of np subscriptions catalog e e.entry es) ++ extra np more (e ∷ es)) none
      ∙ (ap (λ (ds : List DueChange). ds ++ extra np more (e ∷ es)) rest
      ∙ (ap (λ (ds : List DueChange). drop (suc m) new ++ ds) same
      ∙ (sym (drop-append-le (suc m) new later l)
      ∙ (sym (drop-append-add old (new ++ later) (suc m))
      ∙ (ap (drop (length old + suc m)) (sym (assoc old new later))
      ∙ sym (ap (drop (length old + suc m)) (due-append place more (e ∷ es)))))))))

  module _ (base : Position) (place : ReadPlace) (m : ℕ) (d : DueChange) (e : Placed) (t : ℕ) (more newer es : Trail)
      (is : e.entry ≡ Commit t) (whole_in_order : IsOrdered base (more ++ e ∷ es)) (trail_in_order : IsOrdered base (newer ++ e ∷ es))
      (there : position_le place.at e.at ≡ true) (one : nth m (filter (after_skip place) (of_commit place.hold subscriptions catalog e t es)) ≡ Some d) where
    abbrev all_of : List DueChange
    all_of = of_commit place.hold subscriptions catalog e t es

    block : IsBlock e 0 all_of
    block = of_commit-block place.hold subscriptions catalog e t es

    given_of : IsOf e 0 d
    given_of = nth-of (after_skip place) e 0 m d all_of block one

    due_here : due_of place subscriptions catalog e e.entry es ≡ filter (after_skip place) all_of
    due_here =
        ap (λ (x : Entry). due_of place subscriptions catalog e x es) is ∙ ap (λ c. cond c (filter (after_skip place) all_of) []) there

    enough : suc m ≤ length (due_of place subscriptions catalog e e.entry es)
    enough = subst (λ (ds : List DueChange). suc m ≤ length ds) (sym due_here) (nth-less m d (filter (after_skip place) all_of) one)

    older_in_order : IsOrdered base (e ∷ es)
    older_in_order = ordered-part base more (e ∷ es) whole_in_order

    behind : position_lt place.at (placed_end e) ≡ true
    behind = le_lt place.at e.at (placed_end e) there (own_end e)

    later_from : AllFrom (placed_end e) more
    later_from = (newer_from base e more es whole_in_order).0

    same_before : (at : Position) → position_le at (placed_end e) ≡ true → (xs : Trail) → AllFrom (placed_end e) xs → before at (newer ++ e ∷ es) ≡ before at (xs ++ e ∷ es)
    same_before at l xs a =
        before-newer at newer (e ∷ es) (all_from-lower at (placed_end e) newer l ((newer_from base e newer es trail_in_order).0))
        ∙ sym (before-newer at xs (e ∷ es) (all_from-lower at (placed_end e) xs l a))

    later_same : (at : Position) (skip : ℕ) (np : ReadPlace) → Moved place at skip (newer ++ e ∷ es) np → position_le at (placed_end e) ≡ true → TakesAll np (placed_end e) →
        extra np more (e ∷ es) ≡ extra place more (e ∷ es)
    later_same at skip np v l takes =
        extra-same place np (placed_end e) more (e ∷ es) (takes_behind place (placed_end e) behind) takes later_from
        (λ u xs a. v.hold_is u (xs ++ e ∷ es) (same_before at l xs a))

    -- the last of its Commit
    behind_last : (np : ReadPlace) → Moved place (placed_end e) 0 (newer ++ e ∷ es) np → d.given.last ≡ true →
        due np subscriptions catalog (more ++ e ∷ es) ≡ drop (length (due place subscriptions catalog es) + suc m) (due place subscriptions catalog (more ++ e ∷ es))
    behind_last np v last =
        let over : position_lt e.at np.at ≡ true = ap (position_lt e.at) v.at_is ∙ own_end e in
        let far : position_le (trail_end base es) np.at ≡ true = le_trans (trail_end base es) e.at np.at (older_in_order.0) (lt-le e.at np.at over) in
        joined place np m e more es (due-before np es (older_before base np.at es (older_in_order.1) far))
        (nothing_before np e e.entry es over ∙ sym (ap (drop (suc m)) due_here ∙ last-of (after_skip place) e 0 m d all_of block last one)) enough
        (later_same (placed_end e) 0 np v (le_self (placed_end e)) (takes_fresh np (placed_end e) (ap (λ p. position_le p (placed_end e)) v.at_is ∙ le_self (placed_end e)) v.skip_is))

    -- another one
    behind_other : (np : ReadPlace) → Moved place e.at d.count (newer ++ e ∷ es) np →
        due np subscriptions catalog (more ++ e ∷ es) ≡ drop (length (due place subscriptions catalog es) + suc m) (due place subscriptions catalog (more ++ e ∷ es))
    behind_other np v =
        let open_same : (u : ℕ) → open_changes np.hold u es ≡ open_changes place.hold u es
        = λ u. v.hold_is u es
        (before-newer e.at newer (e ∷ es) (all_from-lower e.at (placed_end e) newer (lt-le e.at (placed_end e) (own_end e)) ((newer_from base e newer es trail_in_order).0))
        ∙ before_skip e.at e es (le_self e.at)) in
        let far : position_le (trail_end base es) np.at ≡ true = ap (position_le (trail_end base es)) v.at_is ∙ older_in_order.0 in
        let here : due_of np subscriptions catalog e e.entry es ≡ filter (after_skip np) all_of
        = ap (λ (x : Entry). due_of np subscriptions catalog e x es) is
        ∙ (ap (λ c. cond c (filter (after_skip np) (of_commit np.hold subscriptions catalog e t es)) []) (ap (λ p. position_le p e.at) v.at_is ∙ le_self e.at)
        ∙ ap (λ ds. filter (after_skip np) (marked catalog t e true (filter (is_subscribed subscriptions e.at) (counted 0 ds)))) (open_same t)) in
        joined place np m e more es (due-before np es (older_before base np.at es (older_in_order.1) far))
        (here ∙ (rest-of place np e 0 m d all_of block (v.at_is, v.skip_is) one ∙ ap (drop (suc m)) (sym due_here))) enough
        (later_same e.at d.count np v (lt-le e.at (placed_end e) (own_end e)) (takes_behind np (placed_end e) (ap (λ p. position_lt p (placed_end e)) v.at_is ∙ own_end e)))

    behind_where : (c : Bool) → d.given.last ≡ c →
        due (cond c (read_at place d.end 0 (newer ++ e ∷ es)) (read_at place d.commit d.count (newer ++ e ∷ es))) subscriptions catalog (more ++ e ∷ es)
        ≡ drop (length (due place subscriptions catalog es) + suc m) (due place subscriptions catalog (more ++ e ∷ es))
    behind_where true last =
        behind_last (read_at place d.end 0 (newer ++ e ∷ es))
        (subst (λ (p : Position). Moved place p 0 (newer ++ e ∷ es) (read_at place d.end 0 (newer ++ e ∷ es))) given_of.end (moved place d.end 0 (newer ++ e ∷ es))) last
    behind_where false last =
        behind_other (read_at place d.commit d.count (newer ++ e ∷ es))
        (subst (λ (p : Position). Moved place p d.count (newer ++ e ∷ es) (read_at place d.commit d.count (newer ++ e ∷ es))) given_of.commit (moved place d.commit d.count (newer ++ e ∷ es)))

    behind_it : due (read_after place (newer ++ e ∷ es) d) subscriptions catalog (more ++ e ∷ es)
        ≡ drop (length (due place subscriptions catalog es) + suc m) (due place subscriptions catalog (more ++ e ∷ es))
    behind_it = behind_where d.given.last refl

  one_of_none : (place : ReadPlace) (e : Placed) (t : ℕ) (es : Trail) (m : ℕ) (d : DueChange) (c : Bool) → position_le place.at e.at ≡ c →
      nth m (cond c (filter (after_skip place) (of_commit place.hold subscriptions catalog e t es)) []) ≡ Some d →
      (position_le place.at e.at ≡ true) × (nth m (filter (after_skip place) (of_commit place.hold subscriptions catalog e t es)) ≡ Some d)
  one_of_none place e t es m d true k h = (k, h)
  one_of_none place e t es m d false k h = let no : ⊥ = cc in absurd no

  head_rest : (base : Position) (place : ReadPlace) (m : ℕ) (d : DueChange) (e : Placed) (more newer es : Trail) → IsOrdered base (more ++ e ∷ es) → IsOrdered base (newer ++ e ∷ es) →
      (x : Entry) → e.entry ≡ x → nth m (due_of place subscriptions catalog e x es) ≡ Some d →
      due (read_after place (newer ++ e ∷ es) d) subscriptions catalog (more ++ e ∷ es) ≡ drop (length (due place subscriptions catalog es) + suc m) (due place subscriptions catalog (more ++ e ∷ es))
  head_rest base place m d e more newer es o p (Commit t) is h =
      let parts : (position_le place.at e.at ≡ true) × (nth m (filter (after_skip place) (of_commit place.hold subscriptions catalog e t es)) ≡ Some d)
      = one_of_none place e t es m d (position_le place.at e.at) refl h in
      behind_it base place m d e t more newer es is o p (parts.0) (parts.1)
  head_rest base place m d e more newer es o p (Change t q b a) is h = let no : ⊥ = cc in absurd no
  head_rest base place m d e more newer es o p (Abort t) is h = let no : ⊥ = cc in absurd no
  head_rest base place m d e more newer es o p Mark is h = let no : ⊥ = cc in absurd no
  head_rest base place m d e more newer es o p (Switch f) is h = let no : ⊥ = cc in absurd no

  -- What is due behind one change is what was due after it, also of a longer trail.
  pub read-rest : (base : Position) (place : ReadPlace) (es more newer whole trail : Trail) (m : ℕ) (d : DueChange) → whole ≡ more ++ es → trail ≡ newer ++ es →
      IsOrdered base whole → IsOrdered base trail → nth m (due place subscriptions catalog es) ≡ Some d →
      due (read_after place trail d) subscriptions catalog whole ≡ drop (suc m) (due place subscriptions catalog whole)
  unfolding due
  read-rest base place [] more newer whole trail m d w t o p h = let no : ⊥ = cc in absurd no
  read-rest base place (e ∷ es) more newer whole trail m d w t o p h =
      elim (nth-append m d (due place subscriptions catalog es) (due_of place subscriptions catalog e e.entry es) h) [
        | inl y ↦
            read-rest base place es (more ++ e ∷ []) (newer ++ e ∷ []) whole trail m d (w ∙ sym (assoc more (e ∷ []) es)) (t ∙ sym (assoc newer (e ∷ []) es)) o p y
        | inr s ↦
            let count : m ≡ length (due place subscriptions catalog es) + s.at = s.place in
            let same : length (due place subscriptions catalog es) + suc s.at ≡ suc m = omega (arith, count) in
            ap (λ (xs : Trail). due (read_after place xs d) subscriptions catalog whole) t
            ∙ (ap (due (read_after place (newer ++ e ∷ es) d) subscriptions catalog) w
            ∙ (head_rest base place s.at d e more newer es (subst (IsOrdered base) w o) (subst (IsOrdered base) t p) e.entry refl s.is
            ∙ (ap (λ k. drop k (due place subscriptions catalog (more ++ e ∷ es))) same ∙ ap (λ (xs : Trail). drop (suc m) (due place subscriptions catalog xs)) (sym w))))
      ]

  -- ---- a whole read

  module _ (base force : Position) (place : ReadPlace) (n : ℕ) (es more newer : Trail) (whole_in_order : IsOrdered base (more ++ es)) (trail_in_order : IsOrdered base (newer ++ es))
      (later : AllFrom force more) (newer_later : AllFrom force newer) (forced : AllBefore force es) where
    abbrev all_due_here : List DueChange
    all_due_here = due place subscriptions catalog es

    all_before_place : (p : Position) (xs : Trail) → position_le force p ≡ true → AllBefore force xs → AllBefore p xs
    all_before_place p [] l a = tt
    all_before_place p (x ∷ xs) l a = (lt_le x.at force p (a.0) l, all_before_place p xs l (a.1))

    -- where all was given, and the place goes to the end of the forced part
    at_force : (np : ReadPlace) → Moved place force 0 (newer ++ es) np → position_lt place.at force ≡ true →
        due np subscriptions catalog (more ++ es) ≡ drop (length all_due_here) (due place subscriptions catalog (more ++ es))
    at_force np v l =
        let here : position_le force np.at ≡ true = ap (position_le force) v.at_is ∙ le_self force in
        let there : position_le np.at force ≡ true = ap (λ p. position_le p force) v.at_is ∙ le_self force in
        due-append np more es
        ∙ (ap (λ (ds : List DueChange). ds ++ extra np more es) (due-before np es (all_before_place np.at es here forced))
        ∙ (extra-same place np force more es (takes_behind place force l) (takes_fresh np force there v.skip_is) later
        (λ t xs a. v.hold_is t (xs ++ es) (before-newer force newer es newer_later ∙ sym (before-newer force xs es a)))
        ∙ (sym (drop-append_seam all_due_here (extra place more es)) ∙ ap (drop (length all_due_here)) (sym (due-append place more es)))))

    -- where nothing lies between the place and it
    already : position_lt place.at force ≡ false → due place subscriptions catalog (more ++ es) ≡ drop (length all_due_here) (due place subscriptions catalog (more ++ es))
    already l =
        sym (ap (λ (ds : List DueChange). drop (length ds) (due place subscriptions catalog (more ++ es))) (due-before place es (all_before_place place.at es (not_lt-le place.at force l) forced)))

    fewer_where : (c : Bool) → position_lt place.at force ≡ c →
        due (cond c (read_at place force 0 (newer ++ es)) place) subscriptions catalog (more ++ es) ≡ drop (length all_due_here) (due place subscriptions catalog (more ++ es))
    fewer_where true l = at_force (read_at place force 0 (newer ++ es)) (moved place force 0 (newer ++ es)) l
    fewer_where false l = already l

    given_where : (given : List DueChange) → take n all_due_here ≡ given →
        due (elim given [ [] ↦ place | d ∷ ds ↦ read_after place (newer ++ es) (last_of d ds) ]) subscriptions catalog (more ++ es) ≡ drop (length given) (due place subscriptions catalog (more ++ es))
    given_where [] g = refl
    given_where (d ∷ ds) g =
        read-rest base place es more newer (more ++ es) (newer ++ es) (length ds) (last_of d ds) refl refl whole_in_order trail_in_order (last-taken n all_due_here d ds g)

    read_where : (c : Bool) → nat_lt (length (take n all_due_here)) n ≡ c →
        due (cond c (cond (position_lt place.at force) (read_at place force 0 (newer ++ es)) place) (elim (take n all_due_here) [ [] ↦ place | d ∷ ds ↦ read_after place (newer ++ es) (last_of d ds) ]))
        subscriptions catalog (more ++ es) ≡ drop (length (take n all_due_here)) (due place subscriptions catalog (more ++ es))
    read_where true c =
        fewer_where (position_lt place.at force) refl
        ∙ ap (λ (ds : List DueChange). drop (length ds) (due place subscriptions catalog (more ++ es))) (sym (fewer-all n all_due_here (ltb-true (length (take n all_due_here)) n c)))
    read_where false c = given_where (take n all_due_here) refl

    -- What is due from the place that a read leaves is what was due after what it gave, also of a longer trail.
    pub read-onward : due (read_to place n force (newer ++ es) (take n all_due_here)) subscriptions catalog (more ++ es) ≡ drop (length (take n all_due_here)) (due place subscriptions catalog (more ++ es))
    read-onward = read_where (nat_lt (length (take n all_due_here)) n) refl
