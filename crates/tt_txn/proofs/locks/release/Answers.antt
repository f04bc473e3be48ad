use Rattle.std.proofs.Common.{◌≡◌, ◌<◌, ◌∙◌, ℕ, ap, sym, refl, Some, length, get_or, set, List, [], subst}
use Rattle.std.specs.Prelude.{slice_get}
use Rattle.std.proofs.lemmas.List.{get_or_default}
use Rattle.tt_txn.specs.Locks.{IsTiedBut, Moves}
use Rattle.tt_txn.specs.Slots.{slots_of}
use Rattle.tt_txn.proofs.Ties.{Slots, Entry, IsAnew, owner, session_within, slot_within, put_here, put_elsewhere, tied_anew, names_anew, tied_without, names_without}
use Rattle.tt_txn.proofs.locks.release.Goals as goal

-- the entry that came has a slot
record Came (i : ℕ) (lists : List Slots) (es fs : List Entry) (e : Entry) : Type 0 where
  session : e.1.session < length lists
  at : e.1.at < length (slots_of e.1.session lists)

came_to : (i : ℕ) (lists : List Slots) (es fs : List Entry) (tied : IsTiedBut i lists es) (moves : Moves i es fs) (e : Entry) → slice_get fs i ≡ Some e → Came i lists es fs e
came_to i lists es fs tied moves e is =
    let has = owner i lists es fs tied moves e is in
    record {
      session = session_within lists e.1.session e.1.at _ has;
      at = slot_within (slots_of e.1.session lists) e.1.at _ has;
    }

anew : (i : ℕ) (lists : List Slots) (es fs : List Entry) (tied : IsTiedBut i lists es) (moves : Moves i es fs) (e : Entry) (d put : Slots) → slice_get fs i ≡ Some e →
    put ≡ set (get_or lists e.1.session d) e.1.at (Some i) → IsAnew i lists es fs tied moves e (set lists e.1.session put)
anew i lists es fs tied moves e d put is made =
    let h = came_to i lists es fs tied moves e is in
    let own : slots_of e.1.session lists ≡ get_or lists e.1.session d = get_or_default lists e.1.session [] d h.session in
    let P : Slots → Type 0 = λ zs. IsAnew i lists es fs tied moves e (set lists e.1.session zs) in
    let made_of : put ≡ set (slots_of e.1.session lists) e.1.at (Some i) = made ∙ ap (λ zs. set zs e.1.at (Some i)) (sym own) in
    subst P (sym made_of) (record {
      here = is;
      put = put_here lists e.1.session e.1.at (slots_of e.1.session lists) (Some i) h.session refl h.at;
      others = λ s j apart. put_elsewhere lists e.1.session e.1.at (slots_of e.1.session lists) (Some i) h.session refl s j apart;
    })

pub bounds-slots-held : goal.bounds-slots-held
bounds-slots-held c =
    (came_to c.args.at c.args.slots.now c.args.names.now.entries c.take_out.new.names.entries c.requires c.take_out.ensures.moves (c.in-Some.field-0-0.now, c.in-Some.held.now)
    (sym c.in-Some.ensures.entry)).session

pub put-requires : goal.put-requires
put-requires c =
    let lists = c.args.slots.now in
    let h = came_to c.args.at lists c.args.names.now.entries c.take_out.new.names.entries c.requires c.take_out.ensures.moves (c.in-Some.field-0-0.now, c.in-Some.held.now) (sym c.in-Some.ensures.entry) in
    let P : Slots → Type 0 = λ zs. c.in-Some.held.now.at < length zs in
    subst P (get_or_default lists c.in-Some.held.now.session [] c.index-slots-held.result h.session) h.at

pub returns-in-Some-clause-tied : goal.returns-in-Some-clause-tied
returns-in-Some-clause-tied c =
    let e : Entry = (c.in-Some.field-0-0.now, c.in-Some.held.now) in
    let is : slice_get c.take_out.new.names.entries c.args.at ≡ Some e = sym c.in-Some.ensures.entry in
    tied_anew c.args.at c.args.slots.now c.args.names.now.entries c.take_out.new.names.entries c.requires c.take_out.ensures.moves e (set c.args.slots.now e.1.session c.put.new.self)
    (anew c.args.at c.args.slots.now c.args.names.now.entries c.take_out.new.names.entries c.requires c.take_out.ensures.moves e c.index-slots-held.result c.put.new.self is c.put.ensures)

pub returns-in-Some-clause-names : goal.returns-in-Some-clause-names
returns-in-Some-clause-names c =
    let e : Entry = (c.in-Some.field-0-0.now, c.in-Some.held.now) in
    let is : slice_get c.take_out.new.names.entries c.args.at ≡ Some e = sym c.in-Some.ensures.entry in
    names_anew c.args.at c.args.slots.now c.args.names.now.entries c.take_out.new.names.entries c.requires c.take_out.ensures.moves e (set c.args.slots.now e.1.session c.put.new.self)
    (anew c.args.at c.args.slots.now c.args.names.now.entries c.take_out.new.names.entries c.requires c.take_out.ensures.moves e c.index-slots-held.result c.put.new.self is c.put.ensures)

pub returns-in_default-clause-tied : goal.returns-in_default-clause-tied
returns-in_default-clause-tied c =
    tied_without c.args.at c.args.slots.now c.args.names.now.entries c.take_out.new.names.entries c.requires c.take_out.ensures.moves (sym c.in_default.ensures.entry)

pub returns-in_default-clause-names : goal.returns-in_default-clause-names
returns-in_default-clause-names c =
    names_without c.args.at c.args.slots.now c.args.names.now.entries c.take_out.new.names.entries c.requires c.take_out.ensures.moves (sym c.in_default.ensures.entry)
