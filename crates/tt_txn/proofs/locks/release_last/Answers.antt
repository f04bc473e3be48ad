use Rattle.std.proofs.Common.{◌≡◌, ◌<◌, ◌∙◌, ◌++◌, ◌∷◌, ℕ, ap, Some, None, Option, length, get_or, set, List, [], arith}
use Rattle.std.proofs.lemmas.List.{get_or_default, length_push}
use Rattle.tt_txn.specs.Slots.{slot_in, slots_of, slot_at}
use Rattle.tt_txn.proofs.Ties.{Slots}
use Rattle.tt_txn.proofs.Holdings.{popped, popped_at, loosened, same_ties, same_cut, anew_here}
use Rattle.tt_txn.proofs.locks.release_last.Goals as goal

-- the slots before the last was taken away
was : (lists : List Slots) (s : ℕ) (d zs : Slots) (o : Option ℕ) → s < length lists → get_or lists s d ≡ zs ++ o ∷ [] → slots_of s lists ≡ zs ++ o ∷ []
was lists s d zs o within is = get_or_default lists s [] d within ∙ is

last_slot : (lists : List Slots) (s : ℕ) (zs : Slots) (o : Option ℕ) → slots_of s lists ≡ zs ++ o ∷ [] → slot_at s (length zs) lists ≡ o
last_slot lists s zs o is = ap (slot_in (length zs)) is ∙ popped_at zs o

shorter : (lists : List Slots) (s : ℕ) (zs : Slots) (o : Option ℕ) → s < length lists → slots_of s lists ≡ zs ++ o ∷ [] → length (slots_of s (set lists s zs)) < length (slots_of s lists)
shorter lists s zs o within is = omega (arith, ap length is, ap length (anew_here lists s zs within), length_push zs o)

pub release-requires : goal.release-requires
release-requires c =
    let lists = c.args.slots.now in
    let s = c.args.session in
    let zs = c.pop.new.self in
    let at = c.in-Some-Some.at in
    let is = was lists s c.index-slots-session.result zs (Some at) c.requires.in_range (c.pop.ensures.some (Some at) (c.in-Some-Some.is ∙ ap Some c.in-Some-Some.field-0-is)) in
    loosened s (length zs) at lists (set lists s zs) c.args.names.now.entries (last_slot lists s zs (Some at) is) (popped lists s zs (Some at) c.requires.in_range is) c.requires.tied

pub returns-in-Some-None-clause-tied : goal.returns-in-Some-None-clause-tied
returns-in-Some-None-clause-tied c =
    let lists = c.args.slots.now in
    let s = c.args.session in
    let zs = c.pop.new.self in
    let is = was lists s c.index-slots-session.result zs None c.requires.in_range (c.pop.ensures.some None (c.in-Some-None.is ∙ ap Some c.in-Some-None.field-0-is)) in
    same_ties lists (set lists s zs) c.args.names.now.entries
    (same_cut s (length zs) lists (set lists s zs) (last_slot lists s zs None is) (popped lists s zs None c.requires.in_range is)) c.requires.tied

pub returns-in-Some-None-clause-fewer : goal.returns-in-Some-None-clause-fewer
returns-in-Some-None-clause-fewer c =
    let lists = c.args.slots.now in
    let s = c.args.session in
    let zs = c.pop.new.self in
    let is = was lists s c.index-slots-session.result zs None c.requires.in_range (c.pop.ensures.some None (c.in-Some-None.is ∙ ap Some c.in-Some-None.field-0-is)) in
    λ _. shorter lists s zs None c.requires.in_range is

pub returns-in-Some-Some-clause-fewer : goal.returns-in-Some-Some-clause-fewer
returns-in-Some-Some-clause-fewer c =
    let lists = c.args.slots.now in
    let s = c.args.session in
    let zs = c.pop.new.self in
    let at = c.in-Some-Some.at in
    let is = was lists s c.index-slots-session.result zs (Some at) c.requires.in_range (c.pop.ensures.some (Some at) (c.in-Some-Some.is ∙ ap Some c.in-Some-Some.field-0-is)) in
    let less = shorter lists s zs (Some at) c.requires.in_range is in
    λ _. omega (arith, c.release.ensures.counts s, less)
