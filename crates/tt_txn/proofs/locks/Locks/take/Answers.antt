use Rattle.std.proofs.Common.{◌≡◌, ◌∙◌, ◌++◌, ◌∷◌, [], ℕ, ap, ap₂, sym, refl, false, cond, nat_eq, Option, Some, None, true≢false, List}
use Rattle.std.specs.List.{list_any, IsDistinct}
use Rattle.std.specs.Map.{lookup, keys_of}
use Rattle.std.proofs.lemmas.Map.Entries.{place_from_lookup}
use Rattle.std.proofs.lemmas.Bool.{eq-eqb}
use Rattle.std.proofs.lemmas.Result.{on_ok_weaker, on_err_weaker}
use Rattle.tt_txn.specs.declared.held.Held.{Held}
use Rattle.tt_txn.specs.declared.lock_name.LockName.{LockName}
use Rattle.tt_txn.specs.Locks.{Holdings, names_of, names_in, IsTied}
use Rattle.tt_txn.specs.Slots.{slots_of}
use Rattle.tt_txn.specs.Same.{same_name}
use Rattle.tt_txn.proofs.Ties.{Slots, Entry}
use Rattle.tt_txn.proofs.Holdings.{names_of_map, holder_found}
use Rattle.tt_txn.proofs.locks.Locks.take.Goals as goal

-- what no session holds, no entry has
unheld : (lists : List Slots) (es : List Entry) (name : LockName) → IsTied lists es → IsDistinct same_name (keys_of es) → ((s : ℕ) → list_any (same_name name) (names_in es (slots_of s lists)) ≡ false) →
    lookup (same_name name) es ≡ None
unheld lists es name tied unique free = by (lookup (same_name name) es) refl
  where
    by : (o : Option Held) → lookup (same_name name) es ≡ o → o ≡ None
    by None is = refl
    by (Some h) is =
        let (i, k, at, same) = place_from_lookup (same_name name) es h is in
        absurd (true≢false (sym (eq-eqb h.session h.session refl) ∙ sym (holder_found lists es tied unique name i k h at same h.session) ∙ free h.session))

pub take_in-requires-clause-free : goal.take_in-requires-clause-free
take_in-requires-clause-free c =
    let es = c.self.inside.names.entries in
    unheld c.self.inside.slots es c.args.name c.self.invariant.0 c.self.invariant.1 (λ s.
    ap (list_any (same_name c.args.name)) (sym (names_of_map es c.self.inside.slots s))
    ∙ ap (λ (hs : Holdings). list_any (same_name c.args.name) (names_of s hs)) c.self.view_is
    ∙ c.requires.free s)

pub returns-clause-ok : goal.returns-clause-ok
returns-clause-ok c =
    let s = c.args.session in
    let es = c.self.inside.names.entries in
    let was : (t : ℕ) → names_in es (slots_of t c.self.inside.slots) ≡ names_of t c.args.self.now =
    λ t. sym (names_of_map es c.self.inside.slots t) ∙ ap (λ (hs : Holdings). names_of t hs) c.self.view_is in
    on_ok_weaker c.take_in.result
    (λ says t.
    names_of_map c.take_in.new.names.entries c.take_in.new.slots t
    ∙ says t
    ∙ ap₂ (λ (a b : List LockName). cond (nat_eq s t) (a ++ c.args.name ∷ []) b) (was s) (was t))
    c.take_in.ensures.ok

pub returns-clause-err : goal.returns-clause-err
returns-clause-err c =
    let es = c.self.inside.names.entries in
    on_err_weaker c.take_in.result
    (λ says t.
    names_of_map c.take_in.new.names.entries c.take_in.new.slots t
    ∙ says t
    ∙ sym (names_of_map es c.self.inside.slots t)
    ∙ ap (λ (hs : Holdings). names_of t hs) c.self.view_is)
    c.take_in.ensures.err
