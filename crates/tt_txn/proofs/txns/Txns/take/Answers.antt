use Rattle.std.proofs.Common.{◌≡◌, ◌≤◌, ◌∙◌, ◌++◌, ◌∷◌, [], ℕ, false, Some, None, ap, sym, subst, arith, Result, Ok, Err, OnOk, OnErr}
use Rattle.std.specs.List.{list_any}
use Rattle.std.specs.Option.{option_map}
use Rattle.std.proofs.lemmas.Result.{on_ok_weaker, on_err_weaker}
use Rattle.tt_txn.specs.declared.lock_name.LockName.{LockName}
use Rattle.tt_txn.specs.Same.{same_name}
use Rattle.tt_txn.specs.Locks.{Holdings, names_of, Holds}
use Rattle.tt_txn.specs.Kept.{seen, with_names, IsKept}
use Rattle.tt_txn.specs.Live.{LiveTransaction, taking}
use Rattle.tt_txn.specs.Table.{Transactions, transaction, is_live, number_of, with_changed}
use Rattle.tt_txn.specs.Txns.{holder}
use Rattle.tt_txn.proofs.Books.{ascends, after_taking}
use Rattle.tt_txn.proofs.Tables.{seat_in}
use Rattle.tt_txn.proofs.Views.{IsOf, live_seen, no_holder, unheld_names, one_of, seen_same, seen_taking, there_seen}
use Rattle.tt_txn.proofs.txns.Txns.take.Goals as goal

pub session_of-session-requires-clause-ascending : goal.session_of-session-requires-clause-ascending
session_of-session-requires-clause-ascending c = ascends c.self.inside.locks c.self.inside.live.items c.as_slice.result.now c.as_slice.ensures.value c.self.invariant.whole

pub session_of-session-requires-clause-live : goal.session_of-session-requires-clause-live
session_of-session-requires-clause-live c =
    let n = c.args.number in
    ap (is_live n) c.as_slice.ensures.value ∙ sym (live_seen c.self.inside.locks n c.self.inside.live.items) ∙ ap (is_live n) c.self.view_is ∙ c.requires.live

-- the one that takes, as it stands in the list
taker : (n s : ℕ) (ls xs : Transactions) → xs ≡ ls → Some s ≡ option_map (λ (l : LiveTransaction). l.session) (transaction n xs) → IsOf n s ls
taker n s ls xs same says = one_of n s ls (says ∙ ap (λ (ms : Transactions). option_map (λ (l : LiveTransaction). l.session) (transaction n ms)) same)

pub take-requires-clause-in_range : goal.take-requires-clause-in_range
take-requires-clause-in_range c =
    let n = c.args.number in
    let ls = c.self.inside.live.items in
    let hs = c.self.inside.locks in
    let m = taker n c.session_of-session.result ls c.as_slice.result.now c.as_slice.ensures.value c.session_of-session.ensures in
    let within : m.found.session ≤ 64 = (seat_in n (with_names hs m.found) (seen ls hs) (there_seen hs n m.found ls m.there) c.self.invariant.whole.in_range).1 in
    omega (arith, within, m.session)

free_names : (hs : Holdings) (name : LockName) (ls now : Transactions) → seen ls hs ≡ now → holder name now ≡ None → ((s : ℕ) → number_of s (seen ls hs) ≡ None → names_of s hs ≡ []) → (s : ℕ) →
    list_any (same_name name) (names_of s hs) ≡ false
free_names hs name ls now is free vacant = unheld_names hs name ls (ap (holder name) is ∙ free) vacant

pub take-requires-clause-free : goal.take-requires-clause-free
take-requires-clause-free c = free_names c.self.inside.locks c.args.name c.self.inside.live.items c.args.self.now c.self.view_is c.requires.free c.self.invariant.vacant

either : {T E P A B : Type 0} (r : Result T E) → OnOk r A → OnErr r B → (A → P) → (B → P) → P
either (Ok x) a b f g = f a
either (Err e) a b f g = g b

says_of : (hs gs : Holdings) (name : LockName) (s t : ℕ) → t ≡ s → Holds s (names_of s hs ++ name ∷ []) hs gs → Holds t (names_of t hs ++ name ∷ []) hs gs
says_of hs gs name s t same says = let P : ℕ → Type 0 = λ k. Holds k (names_of k hs ++ name ∷ []) hs gs in subst P (sym same) says

pub invariant_of-self : goal.invariant_of-self
invariant_of-self c =
    let n = c.args.number in
    let name = c.args.name in
    let ls = c.self.inside.live.items in
    let hs = c.self.inside.locks in
    let gs = c.take.new.self in
    let vs = seen ls hs in
    let m = taker n c.session_of-session.result ls c.as_slice.result.now c.as_slice.ensures.value c.session_of-session.ensures in
    let P : Transactions → Type 0 = λ ms. IsKept gs c.self.inside.spots c.self.inside.numbers ms in
    either c.take.result c.take.ensures.ok c.take.ensures.err
    (λ says.
    let holds = says_of hs gs name c.session_of-session.result m.found.session m.session says in
    let free = free_names hs name ls c.args.self.now c.self.view_is c.requires.free c.self.invariant.vacant m.found.session in
    let one = c.self.invariant.whole.sessions m.found.session in
    subst P (sym (seen_taking hs gs n m.found name ls m.there one free holds))
    (after_taking hs c.self.inside.spots c.self.inside.numbers vs c.self.invariant gs n (with_names hs m.found) name (names_of m.found.session hs ++ name ∷ []) (there_seen hs n m.found ls m.there)
    (no_holder n name vs (ap (holder name) c.self.view_is ∙ c.requires.free)).0 holds))
    (λ says. subst P (sym (seen_same hs gs ls says)) (record {
      whole = c.self.invariant.whole;
      spots = c.self.invariant.spots;
      numbers = c.self.invariant.numbers;
      vacant = λ s e. says s ∙ c.self.invariant.vacant s e;
    }))

pub returns-clause-ok : goal.returns-clause-ok
returns-clause-ok c =
    let n = c.args.number in
    let name = c.args.name in
    let ls = c.self.inside.live.items in
    let hs = c.self.inside.locks in
    let gs = c.take.new.self in
    let m = taker n c.session_of-session.result ls c.as_slice.result.now c.as_slice.ensures.value c.session_of-session.ensures in
    on_ok_weaker c.take.result
    (λ says.
    let holds = says_of hs gs name c.session_of-session.result m.found.session m.session says in
    let free = free_names hs name ls c.args.self.now c.self.view_is c.requires.free c.self.invariant.vacant m.found.session in
    let one = c.self.invariant.whole.sessions m.found.session in
    seen_taking hs gs n m.found name ls m.there one free holds ∙ ap (with_changed n (taking name)) c.self.view_is)
    c.take.ensures.ok

pub returns-clause-err : goal.returns-clause-err
returns-clause-err c =
    on_err_weaker c.take.result (λ says. seen_same c.self.inside.locks c.take.new.self c.self.inside.live.items says ∙ c.self.view_is) c.take.ensures.err
