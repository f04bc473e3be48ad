use Rattle.std.proofs.Common.{◌≡◌, ◌<◌, ◌∙◌, ℕ, ap, sym, None, length, get_or, set, List, [], subst, nat_eq, cond}
use Rattle.std.specs.Map.{lookup}
use Rattle.std.proofs.lemmas.List.{get_or_default}
use Rattle.std.proofs.lemmas.Map.Made.{lookup_key_passes}
use Rattle.tt_txn.specs.Same.{same_name}
use Rattle.tt_txn.specs.Locks.{names_in}
use Rattle.tt_txn.specs.Slots.{slot_in, slots_of}
use Rattle.tt_txn.proofs.Ties.{Slots, session_within, slot_within}
use Rattle.tt_txn.proofs.Holdings.{IsCut, freed, loosened, none_removed, none_holds, held_is, given_back}
use Rattle.tt_txn.proofs.locks.give_back_in.Goals as goal

freed_by : (lists : List Slots) (s a : ℕ) (d zs : Slots) → s < length lists → ((q : ℕ) → slot_in q zs ≡ cond (nat_eq a q) None (slot_in q (get_or lists s d))) → IsCut s a lists (set lists s zs)
freed_by lists s a d zs within says = freed lists s a zs within (λ q. says q ∙ ap (λ (ys : Slots). cond (nat_eq a q) None (slot_in q ys)) (get_or_default lists s d [] within))

pub returns-in_default-clause-left : goal.returns-in_default-clause-left
returns-in_default-clause-left c =
    let es = c.args.names.now.entries in
    let p = same_name c.args.name.now in
    let none : lookup p es ≡ None = sym c.in_default.ensures.value in
    λ s. sym (none_removed p (names_in es (slots_of s c.args.slots.now)) (none_holds c.args.slots.now es c.requires.tied p none s))

pub bounds-slots-held : goal.bounds-slots-held
bounds-slots-held c =
    let h = c.in-Some.held.now in
    session_within c.args.slots.now h.session h.at c.in-Some.at
    (held_is c.args.slots.now c.args.names.now.entries c.requires.tied c.requires.unique c.args.name.now c.in-Some.at c.in-Some.field-0-1.now h c.in-Some.ensures.entry
    (lookup_key_passes (same_name c.args.name.now) c.args.names.now.entries c.in-Some.field-0-1.now (sym c.in-Some.ensures.key)))

pub free-requires : goal.free-requires
free-requires c =
    let lists = c.args.slots.now in
    let h = c.in-Some.held.now in
    let at =
    held_is lists c.args.names.now.entries c.requires.tied c.requires.unique c.args.name.now c.in-Some.at c.in-Some.field-0-1.now h c.in-Some.ensures.entry
    (lookup_key_passes (same_name c.args.name.now) c.args.names.now.entries c.in-Some.field-0-1.now (sym c.in-Some.ensures.key)) in
    let P : Slots → Type 0 = λ zs. h.at < length zs in
    subst P (get_or_default lists h.session [] c.index-slots-held.result (session_within lists h.session h.at c.in-Some.at at)) (slot_within (slots_of h.session lists) h.at c.in-Some.at at)

pub release-requires : goal.release-requires
release-requires c =
    let lists = c.args.slots.now in
    let h = c.in-Some.held.now in
    let at =
    held_is lists c.args.names.now.entries c.requires.tied c.requires.unique c.args.name.now c.in-Some.at c.in-Some.field-0-1.now h c.in-Some.ensures.entry
    (lookup_key_passes (same_name c.args.name.now) c.args.names.now.entries c.in-Some.field-0-1.now (sym c.in-Some.ensures.key)) in
    loosened h.session h.at c.in-Some.at lists (set lists h.session c.free.new.self) c.args.names.now.entries at
    (freed_by lists h.session h.at c.index-slots-held.result c.free.new.self (session_within lists h.session h.at c.in-Some.at at) c.free.ensures) c.requires.tied

pub returns-clause-left : goal.returns-clause-left
returns-clause-left c =
    let lists = c.args.slots.now in
    let h = c.in-Some.held.now in
    let passes = lookup_key_passes (same_name c.args.name.now) c.args.names.now.entries c.in-Some.field-0-1.now (sym c.in-Some.ensures.key) in
    let at = held_is lists c.args.names.now.entries c.requires.tied c.requires.unique c.args.name.now c.in-Some.at c.in-Some.field-0-1.now h c.in-Some.ensures.entry passes in
    λ s.
    c.release.ensures.names s
    ∙ given_back lists c.args.names.now.entries c.requires.tied c.requires.unique c.args.name.now c.in-Some.at c.in-Some.field-0-1.now h c.in-Some.ensures.entry passes
    (set lists h.session c.free.new.self)
    (freed_by lists h.session h.at c.index-slots-held.result c.free.new.self (session_within lists h.session h.at c.in-Some.at at) c.free.ensures) s
