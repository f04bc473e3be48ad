-- What is seen of the live transactions: the list, with the names that the table of locks has for each session.
use Rattle.std.proofs.Common.{◌≡◌, ◌≢◌, ℕ, Bool, true, false, cond, not, ◌&&◌, ◌||◌, List, [], ◌∷◌, ◌++◌, map, Option, Some, None, is_some, refl, sym, ap, ap₂, ◌∙◌, subst, arith, ltb, inl, inr, true≢false}
use Rattle.std.specs.Prelude.{nat_eq}
use Rattle.std.specs.List.{list_any, find}
use Rattle.std.specs.Option.{option_map}
use Rattle.std.specs.Set.{remove_key}
use Rattle.std.proofs.lemmas.Bool.{cases_eq, eq-eqb, ne_eqb, eqb-true, eqb-false, or_parts, or_left, or_right}
use Rattle.std.proofs.lemmas.Option.{same_Some}
use Rattle.tt_value.specs.declared.position.Position.{Position}
use Rattle.tt_txn.specs.declared.lock_name.LockName.{LockName}
use Rattle.tt_txn.specs.Same.{same_name}
use Rattle.tt_txn.specs.Locks.{Holdings, names_of, is_session, Holds}
use Rattle.tt_txn.specs.Kept.{with_names, seen}
use Rattle.tt_txn.specs.Live.{LiveTransaction, has_number, is_of, has_name, is_other_with, holds, taking, giving_back, noted_in, has_changed}
use Rattle.tt_txn.specs.Table.{Transactions, transaction, is_live, number_of, with_begun, with_changed, without, noted_by, first_that_changed, firsts, AllAbove, IsAscending}
use Rattle.tt_txn.specs.Txns.{holder, other_holder, is_held_by, AtMostOne}
use Rattle.tt_txn.proofs.Holdings.{none_removed}

none_some : {A : Type 0} (x : A) → None ≡ Some x → ⊥
none_some x e = cc

-- ---- what doesn't look at names

pub transaction_seen : (hs : Holdings) (n : ℕ) (ls : Transactions) → transaction n (seen ls hs) ≡ option_map (with_names hs) (transaction n ls)
transaction_seen hs n [] = refl
transaction_seen hs n (l ∷ ls) = by (has_number n l) (transaction_seen hs n ls)
  where
    by : (b : Bool) → transaction n (seen ls hs) ≡ option_map (with_names hs) (transaction n ls) →
        cond b (Some (with_names hs l)) (transaction n (seen ls hs)) ≡ option_map (with_names hs) (cond b (Some l) (transaction n ls))
    by true go = refl
    by false go = go

pub noted_seen : (hs : Holdings) (n : ℕ) (ls : Transactions) → noted_by n (seen ls hs) ≡ noted_by n ls
noted_seen hs n ls = ap noted_in (transaction_seen hs n ls) ∙ by (transaction n ls)
  where
    by : (o : Option LiveTransaction) → noted_in (option_map (with_names hs) o) ≡ noted_in o
    by None = refl
    by (Some l) = refl

pub live_seen : (hs : Holdings) (n : ℕ) (ls : Transactions) → is_live n (seen ls hs) ≡ is_live n ls
live_seen hs n ls = ap is_some (transaction_seen hs n ls) ∙ by (transaction n ls)
  where
    by : (o : Option LiveTransaction) → is_some (option_map (with_names hs) o) ≡ is_some o
    by None = refl
    by (Some l) = refl

above_raw : (hs : Holdings) (k : ℕ) (ls : Transactions) → AllAbove k (seen ls hs) → AllAbove k ls
above_raw hs k [] s = tt
above_raw hs k (l ∷ ls) s = (s.0, above_raw hs k ls s.1)

pub ascending_raw : (hs : Holdings) (ls : Transactions) → IsAscending (seen ls hs) → IsAscending ls
ascending_raw hs [] s = tt
ascending_raw hs (l ∷ ls) s = (above_raw hs l.number ls s.0, ascending_raw hs ls s.1)

pub firsts_seen : (hs : Holdings) (ls : Transactions) → firsts (seen ls hs) ≡ firsts ls
firsts_seen hs [] = refl
firsts_seen hs (l ∷ ls) = ap (λ (ps : List Position). l.first ∷ ps) (firsts_seen hs ls)

pub changed_seen : (hs : Holdings) (table : ℕ) (ls : Transactions) → first_that_changed table (seen ls hs) ≡ first_that_changed table ls
changed_seen hs table [] = refl
changed_seen hs table (l ∷ ls) = by (has_changed table l) (changed_seen hs table ls)
  where
    by : (b : Bool) → first_that_changed table (seen ls hs) ≡ first_that_changed table ls →
        option_map (λ (m : LiveTransaction). m.number) (cond b (Some (with_names hs l)) (find (has_changed table) (seen ls hs)))
        ≡ option_map (λ (m : LiveTransaction). m.number) (cond b (Some l) (find (has_changed table) ls))
    by true go = refl
    by false go = go

pub seen_changed : (hs : Holdings) (n : ℕ) (f : LiveTransaction → LiveTransaction) (ls : Transactions) → ((l : LiveTransaction) → with_names hs (f l) ≡ f (with_names hs l)) →
    seen (with_changed n f ls) hs ≡ with_changed n f (seen ls hs)
seen_changed hs n f [] same = refl
seen_changed hs n f (l ∷ ls) same = by (has_number n l) (seen_changed hs n f ls same)
  where
    by : (b : Bool) → seen (with_changed n f ls) hs ≡ with_changed n f (seen ls hs) →
        seen (cond b (f l ∷ ls) (l ∷ with_changed n f ls)) hs ≡ cond b (f (with_names hs l) ∷ seen ls hs) (with_names hs l ∷ with_changed n f (seen ls hs))
    by true go = ap (λ (m : LiveTransaction). m ∷ seen ls hs) (same l)
    by false go = ap (λ (ms : Transactions). with_names hs l ∷ ms) go

pub seen_begun : (hs : Holdings) (x : LiveTransaction) (ls : Transactions) → with_names hs x ≡ x → seen (with_begun x ls) hs ≡ with_begun x (seen ls hs)
seen_begun hs x [] same = ap (λ (m : LiveTransaction). m ∷ []) same
seen_begun hs x (l ∷ ls) same = by (ltb x.number l.number) (seen_begun hs x ls same)
  where
    by : (b : Bool) → seen (with_begun x ls) hs ≡ with_begun x (seen ls hs) →
        seen (cond b (x ∷ l ∷ ls) (l ∷ with_begun x ls)) hs ≡ cond b (x ∷ with_names hs l ∷ seen ls hs) (with_names hs l ∷ with_begun x (seen ls hs))
    by true go = ap (λ (m : LiveTransaction). m ∷ with_names hs l ∷ seen ls hs) same
    by false go = ap (λ (ms : Transactions). with_names hs l ∷ ms) go

-- ---- what one session holds

-- sessions that hold what they held
other_names : (hs gs : Holdings) (s : ℕ) (l : LiveTransaction) → is_of s l ≡ false → ((t : ℕ) → s ≢ t → names_of t gs ≡ names_of t hs) → with_names gs l ≡ with_names hs l
other_names hs gs s l apart same = ap (λ (names : List LockName). record l { names = names }) (same l.session (λ e. eqb-false l.session s apart (sym e)))

others_stay : (hs gs : Holdings) (s : ℕ) (ls : Transactions) → list_any (is_of s) (seen ls hs) ≡ false → ((t : ℕ) → s ≢ t → names_of t gs ≡ names_of t hs) → seen ls gs ≡ seen ls hs
others_stay hs gs s [] none same = refl
others_stay hs gs s (l ∷ ls) none same =
    let (head, tail) = or_parts (is_of s l) (list_any (is_of s) (seen ls hs)) none in
    ap₂ (λ (m : LiveTransaction) (ms : Transactions). m ∷ ms) (other_names hs gs s l head same) (others_stay hs gs s ls tail same)

-- the session of a live one is among all
session_among : (hs : Holdings) (n : ℕ) (ls : Transactions) (m : LiveTransaction) → transaction n ls ≡ Some m → list_any (is_of m.session) (seen ls hs) ≡ true
session_among hs n [] m e = absurd (none_some m e)
session_among hs n (l ∷ ls) m e = by (has_number n l) e (session_among hs n ls m)
  where
    by : (b : Bool) → cond b (Some l) (transaction n ls) ≡ Some m → (transaction n ls ≡ Some m → list_any (is_of m.session) (seen ls hs) ≡ true) →
        (is_of m.session l || list_any (is_of m.session) (seen ls hs)) ≡ true
    by true is go = or_left (is_of m.session l) (list_any (is_of m.session) (seen ls hs)) (eq-eqb l.session m.session (ap (λ (k : LiveTransaction). k.session) (same_Some l m is)))
    by false is go = or_right (is_of m.session l) (list_any (is_of m.session) (seen ls hs)) (go is)

-- another of that session comes no earlier
not_earlier : (hs : Holdings) (n : ℕ) (l : LiveTransaction) (ls : Transactions) (m : LiveTransaction) → transaction n ls ≡ Some m → AtMostOne (is_of m.session) (seen (l ∷ ls) hs) → is_of m.session l ≡ false
not_earlier hs n l ls m e one = by (is_of m.session l) refl
  where
    by : (b : Bool) → is_of m.session l ≡ b → b ≡ false
    by false is = refl
    by true is = absurd (true≢false (sym (session_among hs n ls m e) ∙ one.0 is))

-- what a session's transaction shows, where the session alone holds other names
pub seen_holding : (hs gs : Holdings) (n : ℕ) (m : LiveTransaction) (f : LiveTransaction → LiveTransaction) (ls : Transactions) → transaction n ls ≡ Some m → AtMostOne (is_of m.session) (seen ls hs) →
    ((t : ℕ) → m.session ≢ t → names_of t gs ≡ names_of t hs) → with_names gs m ≡ f (with_names hs m) → seen ls gs ≡ with_changed n f (seen ls hs)
seen_holding hs gs n m f [] e one same own = absurd (none_some m e)
seen_holding hs gs n m f (l ∷ ls) e one same own = by (has_number n l) e (seen_holding hs gs n m f ls)
  where
    by : (b : Bool) → cond b (Some l) (transaction n ls) ≡ Some m →
        (transaction n ls ≡ Some m → AtMostOne (is_of m.session) (seen ls hs) → ((t : ℕ) → m.session ≢ t → names_of t gs ≡ names_of t hs) → with_names gs m ≡ f (with_names hs m) → seen ls gs ≡ with_changed n f (seen ls hs)) →
        with_names gs l ∷ seen ls gs ≡ cond b (f (with_names hs l) ∷ seen ls hs) (with_names hs l ∷ with_changed n f (seen ls hs))
    by true is go =
        let this : l ≡ m = same_Some l m is in
        let here : with_names gs l ≡ f (with_names hs l) = ap (with_names gs) this ∙ own ∙ ap (λ k. f (with_names hs k)) (sym this) in
        let none = one.0 (eq-eqb l.session m.session (ap (λ (k : LiveTransaction). k.session) this)) in
        ap₂ (λ (k : LiveTransaction) (ms : Transactions). k ∷ ms) here (others_stay hs gs m.session ls none same)
    by false is go = ap₂ (λ (k : LiveTransaction) (ms : Transactions). k ∷ ms) (other_names hs gs m.session l (not_earlier hs n l ls m is one) same) (go is one.1 same own)

pub seen_ended : (hs gs : Holdings) (n : ℕ) (m : LiveTransaction) (ls : Transactions) → transaction n ls ≡ Some m → AtMostOne (is_of m.session) (seen ls hs) →
    ((t : ℕ) → m.session ≢ t → names_of t gs ≡ names_of t hs) → seen (without n ls) gs ≡ without n (seen ls hs)
seen_ended hs gs n m [] e one same = absurd (none_some m e)
seen_ended hs gs n m (l ∷ ls) e one same = by (has_number n l) e (seen_ended hs gs n m ls)
  where
    by : (b : Bool) → cond b (Some l) (transaction n ls) ≡ Some m →
        (transaction n ls ≡ Some m → AtMostOne (is_of m.session) (seen ls hs) → ((t : ℕ) → m.session ≢ t → names_of t gs ≡ names_of t hs) → seen (without n ls) gs ≡ without n (seen ls hs)) →
        seen (cond b ls (l ∷ without n ls)) gs ≡ cond b (seen ls hs) (with_names hs l ∷ without n (seen ls hs))
    by true is go = others_stay hs gs m.session ls (one.0 (eq-eqb l.session m.session (ap (λ (k : LiveTransaction). k.session) (same_Some l m is)))) same
    by false is go = ap₂ (λ (k : LiveTransaction) (ms : Transactions). k ∷ ms) (other_names hs gs m.session l (not_earlier hs n l ls m is one) same) (go is one.1 same)

-- ---- a name given back

keeps_names : (name : LockName) (l : LiveTransaction) → has_name name l ≡ false → giving_back name l ≡ l
keeps_names name l none = ap (λ (names : List LockName). record l { names = names }) (none_removed (same_name name) l.names none)

all_keep : (name : LockName) (ls : Transactions) → list_any (has_name name) ls ≡ false → map (giving_back name) ls ≡ ls
all_keep name [] none = refl
all_keep name (l ∷ ls) none =
    let (head, tail) = or_parts (has_name name l) (list_any (has_name name) ls) none in
    ap₂ (λ (m : LiveTransaction) (ms : Transactions). m ∷ ms) (keeps_names name l head) (all_keep name ls tail)

held_among : (name : LockName) (n : ℕ) (ls : Transactions) → is_held_by n name ls ≡ true → list_any (has_name name) ls ≡ true
held_among name n [] held = absurd (true≢false (sym held))
held_among name n (l ∷ ls) held = by (has_number n l) held (held_among name n ls)
  where
    by : (b : Bool) → holds name (cond b (Some l) (transaction n ls)) ≡ true → (is_held_by n name ls ≡ true → list_any (has_name name) ls ≡ true) → (has_name name l || list_any (has_name name) ls) ≡ true
    by true is go = or_left (has_name name l) (list_any (has_name name) ls) is
    by false is go = or_right (has_name name l) (list_any (has_name name) ls) (go is)

-- where one holds a name, none but that one has it to give back
pub gives_back : (name : LockName) (n : ℕ) (ls : Transactions) → is_held_by n name ls ≡ true → AtMostOne (has_name name) ls → map (giving_back name) ls ≡ with_changed n (giving_back name) ls
gives_back name n [] held one = refl
gives_back name n (l ∷ ls) held one = by (has_number n l) held (gives_back name n ls)
  where
    not_here : is_held_by n name ls ≡ true → (b : Bool) → has_name name l ≡ b → b ≡ false
    not_here later false is = refl
    not_here later true is = absurd (true≢false (sym (held_among name n ls later) ∙ one.0 is))

    by : (b : Bool) → holds name (cond b (Some l) (transaction n ls)) ≡ true → (is_held_by n name ls ≡ true → AtMostOne (has_name name) ls → map (giving_back name) ls ≡ with_changed n (giving_back name) ls) →
        giving_back name l ∷ map (giving_back name) ls ≡ cond b (giving_back name l ∷ ls) (l ∷ with_changed n (giving_back name) ls)
    by true is go = ap (λ (ms : Transactions). giving_back name l ∷ ms) (all_keep name ls (one.0 is))
    by false is go = ap₂ (λ (m : LiveTransaction) (ms : Transactions). m ∷ ms) (keeps_names name l (not_here is (has_name name l) refl)) (go is one.1)

pub seen_given : (hs gs : Holdings) (name : LockName) (ls : Transactions) → ((s : ℕ) → names_of s gs ≡ remove_key (same_name name) (names_of s hs)) → seen ls gs ≡ map (giving_back name) (seen ls hs)
seen_given hs gs name [] same = refl
seen_given hs gs name (l ∷ ls) same =
    ap₂ (λ (m : LiveTransaction) (ms : Transactions). m ∷ ms) (ap (λ (names : List LockName). record l { names = names }) (same l.session)) (seen_given hs gs name ls same)

-- ---- who holds a name

found_alike : (p q : LiveTransaction → Bool) (ls : Transactions) (hs : Holdings) → ((l : LiveTransaction) → p (with_names hs l) ≡ q (with_names hs l)) → find p (seen ls hs) ≡ find q (seen ls hs)
found_alike p q [] hs same = refl
found_alike p q (l ∷ ls) hs same = ap₂ (λ b (o : Option LiveTransaction). cond b (Some (with_names hs l)) o) (same l) (found_alike p q ls hs same)

find_none : (p : LiveTransaction → Bool) (ls : Transactions) (hs : Holdings) → ((l : LiveTransaction) → p (with_names hs l) ≡ false) → find p (seen ls hs) ≡ None
find_none p [] hs none = refl
find_none p (l ∷ ls) hs none = rw (none l) (find_none p ls hs none)

alike : (s t : ℕ) → nat_eq s t ≡ nat_eq t s
alike s t = elim (cases_eq s t) [
  | inl same ↦ eq-eqb s t same ∙ sym (eq-eqb t s (sym same))
  | inr apart ↦ ne_eqb s t apart ∙ sym (ne_eqb t s (λ e. apart (sym e)))
]

pub none_holder : (hs : Holdings) (name : LockName) (ls : Transactions) → ((s : ℕ) → list_any (same_name name) (names_of s hs) ≡ is_session s None) → holder name (seen ls hs) ≡ None
none_holder hs name ls says = ap (option_map (λ (l : LiveTransaction). l.number)) (find_none (has_name name) ls hs (λ l. says l.session))

pub some_holder : (hs : Holdings) (name : LockName) (s : ℕ) (ls : Transactions) → ((t : ℕ) → list_any (same_name name) (names_of t hs) ≡ is_session t (Some s)) → holder name (seen ls hs) ≡ number_of s (seen ls hs)
some_holder hs name s ls says = ap (option_map (λ (l : LiveTransaction). l.number)) (found_alike (has_name name) (is_of s) ls hs (λ l. says l.session ∙ alike s l.session))

-- ---- what a name's holder says of one and the others

module _ (n : ℕ) (name : LockName) where
  pub no_holder : (ls : Transactions) → holder name ls ≡ None → (other_holder n name ls ≡ None) × (is_held_by n name ls ≡ false)
  no_holder [] e = (refl, refl)
  no_holder (l ∷ ls) e = by (has_name name l) refl e (no_holder ls)
    where
      here : (b : Bool) → has_name name l ≡ false → (other_holder n name ls ≡ None) × (is_held_by n name ls ≡ false) →
          (option_map (λ (m : LiveTransaction). m.number) (cond (not b && has_name name l) (Some l) (find (is_other_with n name) ls)) ≡ None)
          × (holds name (cond b (Some l) (transaction n ls)) ≡ false)
      here true none rest = (rest.0, none)
      here false none rest = (rw none rest.0, rest.1)

      by : (b : Bool) → has_name name l ≡ b → option_map (λ (m : LiveTransaction). m.number) (cond b (Some l) (find (has_name name) ls)) ≡ None →
          (holder name ls ≡ None → (other_holder n name ls ≡ None) × (is_held_by n name ls ≡ false)) →
          (option_map (λ (m : LiveTransaction). m.number) (cond (not (has_number n l) && has_name name l) (Some l) (find (is_other_with n name) ls)) ≡ None)
          × (holds name (cond (has_number n l) (Some l) (transaction n ls)) ≡ false)
      by true is h go = absurd (none_some l.number (sym h))
      by false is h go = here (has_number n l) is (go h)

  -- another that holds it is the other holder
  pub other_is : (h : ℕ) (ls : Transactions) → holder name ls ≡ Some h → h ≢ n → other_holder n name ls ≡ Some h
  other_is h [] e apart = absurd (none_some h e)
  other_is h (l ∷ ls) e apart = by (has_name name l) refl e (other_is h ls)
    where
      by : (b : Bool) → has_name name l ≡ b → option_map (λ (m : LiveTransaction). m.number) (cond b (Some l) (find (has_name name) ls)) ≡ Some h →
          (holder name ls ≡ Some h → h ≢ n → other_holder n name ls ≡ Some h) →
          option_map (λ (m : LiveTransaction). m.number) (cond (not (has_number n l) && has_name name l) (Some l) (find (is_other_with n name) ls)) ≡ Some h
      by true is found go = rw (ne_eqb l.number n (λ e. apart (sym (same_Some l.number h found) ∙ e)), is) found
      by false is found go = none (has_number n l) (go found apart)
        where
          none : (b : Bool) → other_holder n name ls ≡ Some h → option_map (λ (m : LiveTransaction). m.number) (cond (not b && has_name name l) (Some l) (find (is_other_with n name) ls)) ≡ Some h
          none true rest = rest
          none false rest = rw is rest

  none_other : (ls : Transactions) → list_any (has_name name) ls ≡ false → other_holder n name ls ≡ None
  none_other [] none = refl
  none_other (l ∷ ls) none = let (head, tail) = or_parts (has_name name l) (list_any (has_name name) ls) none in by (has_number n l) head (none_other ls tail)
    where
      by : (b : Bool) → has_name name l ≡ false → other_holder n name ls ≡ None → option_map (λ (m : LiveTransaction). m.number) (cond (not b && has_name name l) (Some l) (find (is_other_with n name) ls)) ≡ None
      by true head rest = rest
      by false head rest = rw head rest

  -- where it holds the name itself, no other does
  pub own_is : (ls : Transactions) → holder name ls ≡ Some n → IsAscending ls → AtMostOne (has_name name) ls → (other_holder n name ls ≡ None) × (is_held_by n name ls ≡ true)
  own_is [] e asc one = absurd (none_some n e)
  own_is (l ∷ ls) e asc one = by (has_name name l) refl e (own_is ls)
    where
      by : (b : Bool) → has_name name l ≡ b → option_map (λ (m : LiveTransaction). m.number) (cond b (Some l) (find (has_name name) ls)) ≡ Some n →
          (holder name ls ≡ Some n → IsAscending ls → AtMostOne (has_name name) ls → (other_holder n name ls ≡ None) × (is_held_by n name ls ≡ true)) →
          (option_map (λ (m : LiveTransaction). m.number) (cond (not (has_number n l) && has_name name l) (Some l) (find (is_other_with n name) ls)) ≡ None)
          × (holds name (cond (has_number n l) (Some l) (transaction n ls)) ≡ true)
      by true is found go = rw (eq-eqb l.number n (same_Some l.number n found)) (none_other ls (one.0 is), is)
      by false is found go =
          let rest = go found asc.1 one.1 in
          later (has_number n l) refl rest
        where
          later : (b : Bool) → has_number n l ≡ b → (other_holder n name ls ≡ None) × (is_held_by n name ls ≡ true) →
              (option_map (λ (m : LiveTransaction). m.number) (cond (not b && has_name name l) (Some l) (find (is_other_with n name) ls)) ≡ None)
              × (holds name (cond b (Some l) (transaction n ls)) ≡ true)
          later true same rest = absurd (not_again ls rest.1 (let P : ℕ → Type 0 = λ k. AllAbove k ls in subst P (eqb-true l.number n same) asc.0))
            where
              not_again : (ms : Transactions) → is_held_by n name ms ≡ true → AllAbove n ms → ⊥
              not_again [] held above = true≢false (sym held)
              not_again (m ∷ ms) held above = not_again ms (rw (ne_eqb m.number n (λ e. omega (arith, e, above.0))) at held) above.1
          later false apart rest = (rw is rest.0, rest.1)

pub seen_same : (hs gs : Holdings) (ls : Transactions) → ((t : ℕ) → names_of t gs ≡ names_of t hs) → seen ls gs ≡ seen ls hs
seen_same hs gs [] same = refl
seen_same hs gs (l ∷ ls) same =
    ap₂ (λ (m : LiveTransaction) (ms : Transactions). m ∷ ms) (ap (λ (names : List LockName). record l { names = names }) (same l.session)) (seen_same hs gs ls same)

-- where no live one holds a name, and sessions without one hold nothing, no session holds it
free_of : (hs : Holdings) (name : LockName) (s k : ℕ) (ls : Transactions) → holder name (seen ls hs) ≡ None → number_of s (seen ls hs) ≡ Some k → list_any (same_name name) (names_of s hs) ≡ false
free_of hs name s k [] none some = absurd (none_some k some)
free_of hs name s k (l ∷ ls) none some = by (has_name name (with_names hs l)) refl none (is_of s l) refl some (free_of hs name s k ls)
  where
    by : (b : Bool) → has_name name (with_names hs l) ≡ b → option_map (λ (m : LiveTransaction). m.number) (cond b (Some (with_names hs l)) (find (has_name name) (seen ls hs))) ≡ None →
        (d : Bool) → is_of s l ≡ d → option_map (λ (m : LiveTransaction). m.number) (cond d (Some (with_names hs l)) (find (is_of s) (seen ls hs))) ≡ Some k →
        (holder name (seen ls hs) ≡ None → number_of s (seen ls hs) ≡ Some k → list_any (same_name name) (names_of s hs) ≡ false) → list_any (same_name name) (names_of s hs) ≡ false
    by true is h d of g go = absurd (none_some l.number (sym h))
    by false is h true of g go = let P : ℕ → Type 0 = λ t. list_any (same_name name) (names_of t hs) ≡ false in subst P (eqb-true l.session s of) is
    by false is h false of g go = go h g

pub unheld_names : (hs : Holdings) (name : LockName) (ls : Transactions) → holder name (seen ls hs) ≡ None → ((s : ℕ) → number_of s (seen ls hs) ≡ None → names_of s hs ≡ []) → (s : ℕ) →
    list_any (same_name name) (names_of s hs) ≡ false
unheld_names hs name ls none vacant s = by (number_of s (seen ls hs)) refl
  where
    by : (o : Option ℕ) → number_of s (seen ls hs) ≡ o → list_any (same_name name) (names_of s hs) ≡ false
    by None e = ap (list_any (same_name name)) (vacant s e)
    by (Some k) e = free_of hs name s k ls none e

-- what is seen once a name is taken
pub seen_taking : (hs gs : Holdings) (n : ℕ) (m : LiveTransaction) (name : LockName) (ls : Transactions) → transaction n ls ≡ Some m → AtMostOne (is_of m.session) (seen ls hs) →
    list_any (same_name name) (names_of m.session hs) ≡ false → Holds m.session (names_of m.session hs ++ name ∷ []) hs gs → seen ls gs ≡ with_changed n (taking name) (seen ls hs)
seen_taking hs gs n m name ls is one free says = seen_holding hs gs n m (taking name) ls is one others own
  where
    others : (t : ℕ) → m.session ≢ t → names_of t gs ≡ names_of t hs
    others t apart = says t ∙ rw (ne_eqb m.session t apart) refl

    taken : names_of m.session gs ≡ cond (list_any (same_name name) (names_of m.session hs)) (names_of m.session hs) (names_of m.session hs ++ name ∷ [])
    taken = says m.session ∙ rw (eq-eqb m.session m.session refl, free) refl

    own : with_names gs m ≡ taking name (with_names hs m)
    own = ap (λ (names : List LockName). record m { names = names }) taken

-- a live one's session, as it was asked for
pub record IsOf (n s : ℕ) (ls : Transactions) : Type 0 where
  pub found : LiveTransaction
  pub there : transaction n ls ≡ Some found
  pub session : found.session ≡ s

pub one_of : (n s : ℕ) (ls : Transactions) → Some s ≡ option_map (λ (l : LiveTransaction). l.session) (transaction n ls) → IsOf n s ls
one_of n s ls e = by (transaction n ls) refl e
  where
    by : (o : Option LiveTransaction) → transaction n ls ≡ o → Some s ≡ option_map (λ (l : LiveTransaction). l.session) o → IsOf n s ls
    by None is h = absurd (none_some s (sym h))
    by (Some m) is h = record { found = m; there = is; session = sym (same_Some s m.session h) }

pub there_seen : (hs : Holdings) (n : ℕ) (m : LiveTransaction) (ls : Transactions) → transaction n ls ≡ Some m → transaction n (seen ls hs) ≡ Some (with_names hs m)
there_seen hs n m ls is = transaction_seen hs n ls ∙ ap (option_map (with_names hs)) is
