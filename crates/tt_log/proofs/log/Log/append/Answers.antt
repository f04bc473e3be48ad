use Rattle.std.proofs.Common.{ap, sym, subst, ◌∙◌, ◌++◌, ◌∷◌, [], List, Some}
use Rattle.tt_value.specs.declared.position.Position.{Position}
use Rattle.tt_log.specs.Log.{AddsFile}
use Rattle.tt_record.specs.declared.entry.Entry.{Entry}
use Rattle.tt_log.proofs.Adding.{waits_too, still_open}
use Rattle.tt_log.proofs.Trails.{trail_step, forced_step, kept_at}
use Rattle.tt_log.proofs.log.Log.append.Goals as goal

pub returns-clause-entries : goal.returns-clause-entries
returns-clause-entries g c =
    let log = c.args.self.now in
    let new = c.put.new.self in
    let e = c.args.entry.now in
    let was = g.V.Volume.now c.args.volume.now in
    let now = g.V.Volume.now c.make_room.new.volume in
    let first = c.put.ensures.first ∙ c.make_room.ensures.made.sizes.0 in
    record {
      trail = λ told. trail_step log new e was now (g.V.Volume.may c.args.volume.now) c.write_position-at.result (c.requires.open told) first (c.in_ok-make_room.ensures.found told)
          (waits_too c.make_room.new.self new e _ _ (c.in_ok-make_room.ensures.leaves.ready told) c.put.ensures ∙ ap (λ (l : List Entry). l ++ e ∷ []) c.in_ok-make_room.ensures.waiting)
          (c.in_ok-make_room.ensures.made.write ∙ ap (λ q. Some q) (sym c.write_position-at.ensures));
      forced = λ told. forced_step log new e was now first (c.in_ok-make_room.ensures.found told);
      files = λ told. subst (λ (q : Position). AddsFile q.file was now) (sym c.write_position-at.ensures) (c.in_ok-make_room.ensures.files told);
    }

pub returns-clause-leaves : goal.returns-clause-leaves
returns-clause-leaves g c =
    let room = c.in_ok-make_room.ensures.leaves in
    record {
      ready = λ told. still_open c.make_room.new.self c.put.new.self c.args.entry.now _ _ c.requires.plain (room.ready told) c.put.ensures;
      kept = λ told kept. kept_at c.make_room.new.self.first_file c.put.new.self.first_file _ (g.V.Volume.may c.make_room.new.volume) c.put.ensures.first (room.kept told kept);
      crash = room.crash;
      order = room.order;
    }
