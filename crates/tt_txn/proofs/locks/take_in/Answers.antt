use Rattle.std.proofs.Common.{◌≡◌, ◌<◌, ◌∙◌, ◌++◌, ◌∷◌, ℕ, ap, ap₂, sym, refl, Some, None, length, get_or, set, List, [], subst, nat_eq, cond, inl, inr}
use Rattle.std.proofs.lemmas.Bool.{cases_eq, eq-eqb, ne_eqb}
use Rattle.std.proofs.lemmas.List.{get_or_default, set_at, get_or-set_other}
use Rattle.tt_txn.specs.Locks.{held, named, names_in, IsTied}
use Rattle.tt_txn.specs.Slots.{slot_in, slots_of, slot_at}
use Rattle.tt_txn.proofs.Ties.{Slots, Entry, same_names}
use Rattle.tt_txn.proofs.Holdings.{anew_here, popped_other, put_behind, tied_taken, names_taken, same_ties}
use Rattle.tt_txn.proofs.locks.take_in.Goals as goal

-- the slot that was put behind the others
put_is : (lists : List Slots) (es : List Entry) (s at n : ℕ) (d pushed put : Slots) → s < length lists → at ≡ length (get_or lists s d) → pushed ≡ get_or lists s d ++ None ∷ [] → n ≡ length es →
    put ≡ set pushed at (Some n) → put ≡ slots_of s lists ++ Some (length es) ∷ []
put_is lists es s at n d pushed put within is_at is_pushed is_n is_put =
    let own : get_or lists s d ≡ slots_of s lists = sym (get_or_default lists s [] d within) in
    is_put
    ∙ ap (λ (zs : Slots). set zs at (Some n)) (is_pushed ∙ ap (λ (zs : Slots). zs ++ None ∷ []) own)
    ∙ ap (λ m. set (slots_of s lists ++ None ∷ []) at (Some m)) is_n
    ∙ set_at (slots_of s lists) None [] (Some (length es)) at (sym (is_at ∙ ap length own))

-- the slot that was put and freed again
put_back : (lists : List Slots) (s at : ℕ) (d pushed freed : Slots) → s < length lists → at ≡ length (get_or lists s d) → pushed ≡ get_or lists s d ++ None ∷ [] →
    ((q : ℕ) → slot_in q freed ≡ cond (nat_eq at q) None (slot_in q pushed)) → (t j : ℕ) → slot_at t j (set lists s freed) ≡ slot_at t j lists
put_back lists s at d pushed freed within is_at is_pushed says t j = elim (cases_eq t s) [
  | inl same ↦ ap (λ u. slot_at u j (set lists s freed)) same ∙ ap (slot_in j) (anew_here lists s freed within) ∙ says j ∙ by j ∙ ap (λ u. slot_at u j lists) (sym same)
  | inr other ↦ ap (slot_in j) (get_or-set_other lists s t freed [] other)
]
  where
    zs : Slots
    zs = slots_of s lists

    own : get_or lists s d ≡ zs
    own = sym (get_or_default lists s [] d within)

    long : at ≡ length zs
    long = is_at ∙ ap length own

    was : pushed ≡ zs ++ None ∷ []
    was = is_pushed ∙ ap (λ (ys : Slots). ys ++ None ∷ []) own

    past : slot_in at zs ≡ None
    past = ap (λ q. slot_in q zs) long ∙ get_past zs
      where
        get_past : (xs : Slots) → slot_in (length xs) xs ≡ None
        get_past [] = refl
        get_past (x ∷ xs) = get_past xs

    by : (q : ℕ) → cond (nat_eq at q) None (slot_in q pushed) ≡ slot_in q zs
    by q = elim (cases_eq at q) [
      | inl same ↦ rw (eq-eqb at q same) (sym (ap (λ p. slot_in p zs) (sym same) ∙ past))
      | inr apart ↦ rw (ne_eqb at q apart) (ap (slot_in q) was ∙ sym (popped_other zs None q (λ e. apart (long ∙ sym e))))
    ]

pub returns-in-Ok-clause-tied : goal.returns-in-Ok-clause-tied
returns-in-Ok-clause-tied c =
    let lists = c.args.slots.now in
    let es = c.args.names.now.entries in
    let s = c.args.session in
    let own : length (get_or lists s c.index-slots-session.result) ≡ length (slots_of s lists) = ap length (sym (get_or_default lists s [] c.index-slots-session.result c.requires.in_range)) in
    let at : c.len-at.result ≡ length (slots_of s lists) = c.len-at.ensures ∙ own in
    let is = put_is lists es s c.len-at.result c.len-entry.result c.index-slots-session.result c.push_empty.new.self c.put.new.self c.requires.in_range c.len-at.ensures c.in_ok-push_empty.ensures.ok c.len-entry.ensures.len c.put.ensures in
    let P : List Entry → Type 0 = λ fs. IsTied (set lists s c.put.new.self) fs in
    let Q : Slots → Type 0 = λ zs. IsTied (set lists s zs) (es ++ (c.args.name, held s (length (slots_of s lists))) ∷ []) in
    subst P (sym (c.in-Ok.ensures.ok ∙ ap (λ a. es ++ (c.args.name, held s a) ∷ []) at))
    (subst Q (sym is) (tied_taken s (length (slots_of s lists)) c.args.name lists (set lists s (slots_of s lists ++ Some (length es) ∷ [])) es (put_behind lists s (length es) c.requires.in_range) c.requires.tied))

pub returns-in-Ok-clause-ok : goal.returns-in-Ok-clause-ok
returns-in-Ok-clause-ok c =
    let lists = c.args.slots.now in
    let es = c.args.names.now.entries in
    let s = c.args.session in
    let is = put_is lists es s c.len-at.result c.len-entry.result c.index-slots-session.result c.push_empty.new.self c.put.new.self c.requires.in_range c.len-at.ensures c.in_ok-push_empty.ensures.ok c.len-entry.ensures.len c.put.ensures in
    λ t.
    ap₂ (λ (fs : List Entry) (zs : Slots). names_in fs (slots_of t (set lists s zs))) c.in-Ok.ensures.ok is
    ∙ names_taken s (c.args.name, held s c.len-at.result) lists es c.requires.in_range c.requires.tied t

pub returns-in-Err-clause-tied : goal.returns-in-Err-clause-tied
returns-in-Err-clause-tied c =
    let lists = c.args.slots.now in
    let s = c.args.session in
    let same = put_back lists s c.len-at.result c.index-slots-session.result c.push_empty.new.self c.free.new.self c.requires.in_range c.len-at.ensures c.in_ok-push_empty.ensures.ok c.free.ensures in
    let P : List Entry → Type 0 = λ fs. IsTied (set lists s c.free.new.self) fs in
    subst P (sym c.in-Err.ensures.err) (same_ties lists (set lists s c.free.new.self) c.args.names.now.entries same c.requires.tied)

pub returns-in-Err-clause-err : goal.returns-in-Err-clause-err
returns-in-Err-clause-err c =
    let lists = c.args.slots.now in
    let es = c.args.names.now.entries in
    let s = c.args.session in
    let same = put_back lists s c.len-at.result c.index-slots-session.result c.push_empty.new.self c.free.new.self c.requires.in_range c.len-at.ensures c.in_ok-push_empty.ensures.ok c.free.ensures in
    λ t.
    ap (λ (fs : List Entry). names_in fs (slots_of t (set lists s c.free.new.self))) c.in-Err.ensures.err
    ∙ same_names es es (slots_of t (set lists s c.free.new.self)) (slots_of t lists) (λ j. ap (named es) (same t j))
