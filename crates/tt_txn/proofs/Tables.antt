-- The number of each session's transaction, and that a session without one holds nothing.
use Rattle.std.proofs.Common.{◌≡◌, ◌<◌, ℕ, Bool, true, false, cond, ◌||◌, List, [], ◌∷◌, length, get_or, set, Option, Some, None, is_some, refl, sym, ap, ◌∙◌, subst, ltb, inl, inr, true≢false}
use Rattle.std.specs.Prelude.{nat_eq}
use Rattle.std.specs.List.{list_any, find}
use Rattle.std.specs.Option.{option_map}
use Rattle.std.proofs.lemmas.Bool.{cases_eq, eq-eqb, ne_eqb, eqb-true, eqb-false, or_parts, or_left, or_right}
use Rattle.std.proofs.lemmas.List.{get_or-set_same, get_or-set_other}
use Rattle.std.proofs.lemmas.Option.{same_Some}
use Rattle.tt_txn.specs.declared.lock_name.LockName.{LockName}
use Rattle.tt_txn.specs.Locks.{Holdings, names_of, Holds}
use Rattle.tt_txn.specs.Live.{LiveTransaction, has_number, is_of, IsSession}
use Rattle.tt_txn.specs.Table.{Transactions, transaction, number_of, with_begun, with_changed, without, AllOfSessions}
use Rattle.tt_txn.specs.Txns.{AtMostOne}

none_some : {A : Type 0} (x : A) → None ≡ Some x → ⊥
none_some x e = cc

-- ---- the number of a session

pub number_changed : (n : ℕ) (f : LiveTransaction → LiveTransaction) (s : ℕ) (ls : Transactions) → ((l : LiveTransaction) → (f l).number ≡ l.number) → ((l : LiveTransaction) → (f l).session ≡ l.session) →
    number_of s (with_changed n f ls) ≡ number_of s ls
number_changed n f s [] numbers sessions = refl
number_changed n f s (l ∷ ls) numbers sessions = by (has_number n l) (number_changed n f s ls numbers sessions)
  where
    own : (b : Bool) → option_map (λ (m : LiveTransaction). m.number) (cond b (Some (f l)) (find (is_of s) ls)) ≡ option_map (λ (m : LiveTransaction). m.number) (cond b (Some l) (find (is_of s) ls))
    own true = ap Some (numbers l)
    own false = refl

    rest : (b : Bool) → number_of s (with_changed n f ls) ≡ number_of s ls →
        option_map (λ (m : LiveTransaction). m.number) (cond b (Some l) (find (is_of s) (with_changed n f ls))) ≡ option_map (λ (m : LiveTransaction). m.number) (cond b (Some l) (find (is_of s) ls))
    rest true go = refl
    rest false go = go

    by : (b : Bool) → number_of s (with_changed n f ls) ≡ number_of s ls → number_of s (cond b (f l ∷ ls) (l ∷ with_changed n f ls)) ≡ number_of s (l ∷ ls)
    by true go = ap (λ k. option_map (λ (m : LiveTransaction). m.number) (cond (nat_eq k s) (Some (f l)) (find (is_of s) ls))) (sessions l) ∙ own (is_of s l)
    by false go = rest (is_of s l) go

pub number_begun : (x : LiveTransaction) (s : ℕ) (ls : Transactions) → number_of x.session ls ≡ None → number_of s (with_begun x ls) ≡ cond (nat_eq x.session s) (Some x.number) (number_of s ls)
number_begun x s [] none = by (is_of s x)
  where
    by : (b : Bool) → option_map (λ (m : LiveTransaction). m.number) (cond b (Some x) None) ≡ cond b (Some x.number) None
    by true = refl
    by false = refl
number_begun x s (l ∷ ls) none = by (ltb x.number l.number) (number_begun x s ls (tail (is_of x.session l) none))
  where
    tail : (b : Bool) → option_map (λ (m : LiveTransaction). m.number) (cond b (Some l) (find (is_of x.session) ls)) ≡ None → number_of x.session ls ≡ None
    tail true e = absurd (none_some l.number (sym e))
    tail false e = e

    head : (b : Bool) → option_map (λ (m : LiveTransaction). m.number) (cond b (Some x) (find (is_of s) (l ∷ ls))) ≡ cond b (Some x.number) (number_of s (l ∷ ls))
    head true = refl
    head false = refl

    -- the one at the head is of another session
    apart : (b : Bool) → is_of x.session l ≡ b → is_of s l ≡ true → option_map (λ (m : LiveTransaction). m.number) (cond b (Some l) (find (is_of x.session) ls)) ≡ None → nat_eq x.session s ≡ false
    apart true is of e = absurd (none_some l.number (sym e))
    apart false is of e = ne_eqb x.session s (λ same. eqb-false l.session x.session is (eqb-true l.session s of ∙ sym same))

    later : (b : Bool) → is_of s l ≡ b → number_of s (with_begun x ls) ≡ cond (nat_eq x.session s) (Some x.number) (number_of s ls) →
        option_map (λ (m : LiveTransaction). m.number) (cond b (Some l) (find (is_of s) (with_begun x ls)))
        ≡ cond (nat_eq x.session s) (Some x.number) (option_map (λ (m : LiveTransaction). m.number) (cond b (Some l) (find (is_of s) ls)))
    later true of go = sym (rw (apart (is_of x.session l) refl of none) refl)
    later false of go = go

    by : (b : Bool) → number_of s (with_begun x ls) ≡ cond (nat_eq x.session s) (Some x.number) (number_of s ls) →
        number_of s (cond b (x ∷ l ∷ ls) (l ∷ with_begun x ls)) ≡ cond (nat_eq x.session s) (Some x.number) (number_of s (l ∷ ls))
    by true go = head (is_of s x)
    by false go = later (is_of s l) refl go

none_of_session : (s : ℕ) (ls : Transactions) → list_any (is_of s) ls ≡ false → number_of s ls ≡ None
none_of_session s [] e = refl
none_of_session s (l ∷ ls) e =
    let (head, tail) = or_parts (is_of s l) (list_any (is_of s) ls) e in
    rw head (none_of_session s ls tail)

has_session : (n : ℕ) (m : LiveTransaction) (ls : Transactions) → transaction n ls ≡ Some m → list_any (is_of m.session) ls ≡ true
has_session n m [] e = absurd (none_some m e)
has_session n m (l ∷ ls) e = by (has_number n l) e (has_session n m ls)
  where
    by : (b : Bool) → cond b (Some l) (transaction n ls) ≡ Some m → (transaction n ls ≡ Some m → list_any (is_of m.session) ls ≡ true) → (is_of m.session l || list_any (is_of m.session) ls) ≡ true
    by true is go = or_left (is_of m.session l) (list_any (is_of m.session) ls) (eq-eqb l.session m.session (ap (λ (k : LiveTransaction). k.session) (same_Some l m is)))
    by false is go = or_right (is_of m.session l) (list_any (is_of m.session) ls) (go is)

pub number_own : (n : ℕ) (m : LiveTransaction) (ls : Transactions) → transaction n ls ≡ Some m → AtMostOne (is_of m.session) ls → number_of m.session ls ≡ Some n
number_own n m [] e one = absurd (none_some m e)
number_own n m (l ∷ ls) e one = by (has_number n l) refl e (number_own n m ls)
  where
    by : (b : Bool) → has_number n l ≡ b → cond b (Some l) (transaction n ls) ≡ Some m → (transaction n ls ≡ Some m → AtMostOne (is_of m.session) ls → number_of m.session ls ≡ Some n) →
        option_map (λ (k : LiveTransaction). k.number) (cond (is_of m.session l) (Some l) (find (is_of m.session) ls)) ≡ Some n
    by true has is go = rw (eq-eqb l.session m.session (ap (λ (k : LiveTransaction). k.session) (same_Some l m is))) (ap Some (eqb-true l.number n has))
    by false has is go = rw (not_here (is_of m.session l) refl) (go is one.1)
      where
        not_here : (b : Bool) → is_of m.session l ≡ b → b ≡ false
        not_here false of = refl
        not_here true of = absurd (true≢false (sym (has_session n m ls is) ∙ one.0 of))

pub number_without : (n : ℕ) (m : LiveTransaction) (s : ℕ) (ls : Transactions) → transaction n ls ≡ Some m → AtMostOne (is_of m.session) ls → number_of s (without n ls) ≡ cond (nat_eq m.session s) None (number_of s ls)
number_without n m s [] e one = absurd (none_some m e)
number_without n m s (l ∷ ls) e one = by (has_number n l) e (number_without n m s ls)
  where
    here : (b : Bool) → nat_eq l.session s ≡ b → l ≡ m → number_of s ls ≡ cond (nat_eq m.session s) None (option_map (λ (k : LiveTransaction). k.number) (cond b (Some l) (find (is_of s) ls)))
    here true of this =
        let own = eqb-true l.session s of in
        let same : m.session ≡ s = sym (ap (λ (k : LiveTransaction). k.session) this) ∙ own in
        rw (eq-eqb m.session s same) (none_of_session s ls (let P : ℕ → Type 0 = λ t. list_any (is_of t) ls ≡ false in subst P same (one.0 (eq-eqb l.session m.session (ap (λ (k : LiveTransaction). k.session) this)))))
    here false of this =
        let other : nat_eq m.session s ≡ false = ap (λ (k : LiveTransaction). nat_eq k.session s) (sym this) ∙ of in
        sym (rw other refl)

    later : (b : Bool) → is_of s l ≡ b → transaction n ls ≡ Some m → number_of s (without n ls) ≡ cond (nat_eq m.session s) None (number_of s ls) →
        option_map (λ (k : LiveTransaction). k.number) (cond b (Some l) (find (is_of s) (without n ls)))
        ≡ cond (nat_eq m.session s) None (option_map (λ (k : LiveTransaction). k.number) (cond b (Some l) (find (is_of s) ls)))
    later false of is go = go
    later true of is go = sym (rw (other (nat_eq m.session s) refl) refl)
      where
        other : (b : Bool) → nat_eq m.session s ≡ b → b ≡ false
        other false h = refl
        other true h =
            let same : l.session ≡ m.session = eqb-true l.session s of ∙ sym (eqb-true m.session s h) in
            absurd (true≢false (sym (has_session n m ls is) ∙ one.0 (eq-eqb l.session m.session same)))

    by : (b : Bool) → cond b (Some l) (transaction n ls) ≡ Some m → (transaction n ls ≡ Some m → AtMostOne (is_of m.session) ls → number_of s (without n ls) ≡ cond (nat_eq m.session s) None (number_of s ls)) →
        number_of s (cond b ls (l ∷ without n ls)) ≡ cond (nat_eq m.session s) None (number_of s (l ∷ ls))
    by true is go = here (is_of s l) refl (same_Some l m is)
    by false is go = later (is_of s l) refl is (go is one.1)

-- ---- the table of numbers

pub put_number : (numbers : List (Option ℕ)) (s : ℕ) (o : Option ℕ) (t : ℕ) → s < length numbers → get_or (set numbers s o) t None ≡ cond (nat_eq s t) o (get_or numbers t None)
put_number numbers s o t within = elim (cases_eq t s) [
  | inl same ↦ ap (λ k. get_or (set numbers s o) k None) same ∙ get_or-set_same numbers s o None within ∙ sym (rw (eq-eqb s t (sym same)) refl)
  | inr apart ↦ get_or-set_other numbers s t o None apart ∙ sym (rw (ne_eqb s t (λ e. apart (sym e))) refl)
]

-- ---- sessions that hold nothing

-- a session without a transaction holds nothing
abbrev pub IsVacant : Holdings → Transactions → Type 0
IsVacant hs ls = (s : ℕ) → number_of s ls ≡ None → names_of s hs ≡ []

pub vacant_begun : (hs : Holdings) (x : LiveTransaction) (ls : Transactions) → number_of x.session ls ≡ None → IsVacant hs ls → IsVacant hs (with_begun x ls)
vacant_begun hs x ls none s t e = by (nat_eq x.session t) (sym (number_begun x t ls none) ∙ e)
  where
    by : (b : Bool) → cond b (Some x.number) (number_of t ls) ≡ None → names_of t hs ≡ []
    by true h = absurd (none_some x.number (sym h))
    by false h = s t h

pub vacant_held : (hs gs : Holdings) (n : ℕ) (m : LiveTransaction) (names : List LockName) (ls ms : Transactions) → number_of m.session ls ≡ Some n → Holds m.session names hs gs →
    ((t : ℕ) → number_of t ms ≡ number_of t ls) → IsVacant hs ls → IsVacant gs ms
vacant_held hs gs n m names ls ms own says same s t e = elim (cases_eq m.session t) [
  | inl this ↦ absurd (none_some n (sym e ∙ same t ∙ ap (λ k. number_of k ls) (sym this) ∙ own))
  | inr other ↦ says t ∙ rw (ne_eqb m.session t other) (s t (sym (same t) ∙ e))
]

pub vacant_ended : (hs gs : Holdings) (n : ℕ) (m : LiveTransaction) (ls : Transactions) → transaction n ls ≡ Some m → AtMostOne (is_of m.session) ls → Holds m.session [] hs gs → IsVacant hs ls → IsVacant gs (without n ls)
vacant_ended hs gs n m ls is one says s t e = by (nat_eq m.session t) (says t) (sym (number_without n m t ls is one) ∙ e)
  where
    by : (b : Bool) → names_of t gs ≡ cond b [] (names_of t hs) → cond b None (number_of t ls) ≡ None → names_of t gs ≡ []
    by true h f = h
    by false h f = h ∙ s t f

-- a session that has a transaction is in range
pub seat_of : (s : ℕ) (ls : Transactions) → AllOfSessions ls → (number_of s ls ≡ None → ⊥) → IsSession s
seat_of s [] all some = absurd (some refl)
seat_of s (l ∷ ls) all some = by (is_of s l) refl some (seat_of s ls all.1)
  where
    by : (b : Bool) → is_of s l ≡ b → (option_map (λ (m : LiveTransaction). m.number) (cond b (Some l) (find (is_of s) ls)) ≡ None → ⊥) → ((number_of s ls ≡ None → ⊥) → IsSession s) → IsSession s
    by true is h go = let P : ℕ → Type 0 = λ k. IsSession k in subst P (eqb-true l.session s is) all.0
    by false is h go = go h

-- and so is that of one that is live
pub seat_in : (n : ℕ) (m : LiveTransaction) (ls : Transactions) → transaction n ls ≡ Some m → AllOfSessions ls → IsSession m.session
seat_in n m [] e all = absurd (none_some m e)
seat_in n m (l ∷ ls) e all = by (has_number n l) e (seat_in n m ls)
  where
    by : (b : Bool) → cond b (Some l) (transaction n ls) ≡ Some m → (transaction n ls ≡ Some m → AllOfSessions ls → IsSession m.session) → IsSession m.session
    by true is go = let P : LiveTransaction → Type 0 = λ k. IsSession k.session in subst P (same_Some l m is) all.0
    by false is go = go is all.1

-- the number of a session's transaction is live
pub number_lives : (s n : ℕ) (ls : Transactions) → Some n ≡ number_of s ls → is_some (transaction n ls) ≡ true
number_lives s n [] e = absurd (none_some n (sym e))
number_lives s n (l ∷ ls) e = by (is_of s l) e (number_lives s n ls)
  where
    later : (b : Bool) → is_some (transaction n ls) ≡ true → is_some (cond b (Some l) (transaction n ls)) ≡ true
    later true h = refl
    later false h = h

    by : (b : Bool) → Some n ≡ option_map (λ (m : LiveTransaction). m.number) (cond b (Some l) (find (is_of s) ls)) → (Some n ≡ number_of s ls → is_some (transaction n ls) ≡ true) →
        is_some (cond (has_number n l) (Some l) (transaction n ls)) ≡ true
    by true h go = rw (eq-eqb l.number n (sym (same_Some n l.number h))) refl
    by false h go = later (has_number n l) (go h)
