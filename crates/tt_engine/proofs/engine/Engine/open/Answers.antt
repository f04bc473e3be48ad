use Rattle.std.proofs.Common.{sym, subst, refl}
use Rattle.tt_record.specs.Entry.{length_of}
use Rattle.tt_record.specs.Place.{position_of}
use Rattle.tt_record.specs.declared.entry.Entry.TheVariants.{Mark}
use Rattle.tt_log.specs.Log.{write_position_of, file_size_of}
use Rattle.tt_engine.specs.Starts.{IsRefusedSo}
use Rattle.tt_engine.specs.declared.refusal.OpenRefusal.{OpenRefusal}
use Rattle.tt_engine.specs.declared.refusal.OpenRefusal.TheVariants.{NoMemory}
use Rattle.tt_engine.proofs.ChangeLemmas.{none_there, some_there}
use Rattle.tt_engine.proofs.StartLemmas.{refused_there}
use Rattle.tt_engine.proofs.StartedLemmas.{IsMade, opens_broken, opens_marked, opens_out, opens_refused}
use Rattle.tt_engine.proofs.engine.Engine.open.Goals as goal

pub returns-in-Err-clause-opens : goal.returns-in-Err-clause-opens
returns-in-Err-clause-opens g c told =
    opens_refused g.L.Volume c.args.settings.now c.args.logs.now c.recover.new.volume c.refusal_of.result (c.recover.ensures.keeps told)
    (subst (λ (e : OpenRefusal). IsRefusedSo c.args.settings.now (g.L.Volume.now c.args.logs.now) e) (sym c.refusal_of.ensures) (refused_there c.args.settings.now (g.L.Volume.now c.args.logs.now) c.in-Err.refusal (c.requires.there told) (c.in-Err.ensures.refused told)))

pub returns-in-Err-over-clause-opens : goal.returns-in-Err-over-clause-opens
returns-in-Err-over-clause-opens g c told =
    opens_refused g.L.Volume c.args.settings.now c.args.logs.now c.recover.new.volume NoMemory (c.recover.ensures.keeps told) tt

pub returns-then-not-has_place-clause-opens : goal.returns-then-not-has_place-clause-opens
returns-then-not-has_place-clause-opens g c told =
    let made : IsMade g.L.Volume c.args.settings.now c.args.logs.now c.recover.new.volume c.in-Ok.recovered c.in-Ok-over.engine = record {
      ready = record { recovered = c.in-Ok.ensures.recovered.found told; over = c.in-Ok-over.ensures.over; first = c.in-Ok.ensures.fresh.first; force = c.in-Ok.ensures.fresh.force; sizes = c.in-Ok.ensures.fresh.sizes; reads = (c.recover.ensures.keeps told).reads };
      order = c.in-Ok.ensures.ordered;
      keeps = c.recover.ensures.keeps told;
      kept = c.in-Ok.ensures.recovered.kept told;
    } in
    let log = c.in-Ok-over.engine.log in
    opens_out g.L.Volume c.args.settings.now c.args.logs.now c.recover.new.volume c.in-Ok.recovered c.in-Ok-over.engine made
    (none_there c.has_place.result (position_of (write_position_of log) (length_of Mark) (file_size_of log)) c.has_place.ensures c.if-not-has_place.true)

pub returns-in-Ok-write-clause-opens : goal.returns-in-Ok-write-clause-opens
returns-in-Ok-write-clause-opens g c told =
    let made : IsMade g.L.Volume c.args.settings.now c.args.logs.now c.recover.new.volume c.in-Ok.recovered c.in-Ok-over.engine = record {
      ready = record { recovered = c.in-Ok.ensures.recovered.found told; over = c.in-Ok-over.ensures.over; first = c.in-Ok.ensures.fresh.first; force = c.in-Ok.ensures.fresh.force; sizes = c.in-Ok.ensures.fresh.sizes; reads = (c.recover.ensures.keeps told).reads };
      order = c.in-Ok.ensures.ordered;
      keeps = c.recover.ensures.keeps told;
      kept = c.in-Ok.ensures.recovered.kept told;
    } in
    let log = c.in-Ok-over.engine.log in
    opens_marked g.L.Volume c.args.settings.now c.args.logs.now c.recover.new.volume c.write.new.volume c.in-Ok.recovered c.in-Ok-over.engine (record { log = c.write.new.log; memory = c.in-Ok-over.engine.memory }) made
    (some_there c.has_place.result (position_of (write_position_of log) (length_of Mark) (file_size_of log)) c.has_place.ensures c.if-not-has_place.false)
    (c.in-Ok-write.ensures.performed told).ready (c.in-Ok-write.ensures.performed told).written refl

pub returns-in-Err-write-clause-opens : goal.returns-in-Err-write-clause-opens
returns-in-Err-write-clause-opens g c told =
    let made : IsMade g.L.Volume c.args.settings.now c.args.logs.now c.recover.new.volume c.in-Ok.recovered c.in-Ok-over.engine = record {
      ready = record { recovered = c.in-Ok.ensures.recovered.found told; over = c.in-Ok-over.ensures.over; first = c.in-Ok.ensures.fresh.first; force = c.in-Ok.ensures.fresh.force; sizes = c.in-Ok.ensures.fresh.sizes; reads = (c.recover.ensures.keeps told).reads };
      order = c.in-Ok.ensures.ordered;
      keeps = c.recover.ensures.keeps told;
      kept = c.in-Ok.ensures.recovered.kept told;
    } in
    opens_broken g.L.Volume c.args.settings.now c.args.logs.now c.recover.new.volume c.write.new.volume c.in-Ok.recovered c.in-Ok-over.engine made
    (c.in-Err-write.ensures.performed told).broken
