use Rattle.std.proofs.Common.{◌∙◌, sym}
use Rattle.tt_disk.specs.declared.volume.Name.TheVariants.{Log as LogFile}
use Rattle.tt_engine.specs.declared.refusal.OpenRefusal.TheVariants.{Failed, NoDatabase}
use Rattle.tt_engine.proofs.OnwardLemmas.{begun_since}
use Rattle.tt_engine.proofs.StartLemmas.{no_database, no_file}
use Rattle.tt_engine.proofs.StartedLemmas.{opens_after, opens_refused}
use Rattle.tt_engine.proofs.engine.Engine.start.Goals as goal

pub returns-in-Ok-Some-clause-opens : goal.returns-in-Ok-Some-clause-opens
returns-in-Ok-Some-clause-opens g c told =
    opens_after g.L.Volume c.args.settings.now c.args.logs.now c.size.new.self c.open.new.logs c.open.result (c.size.ensures.keeps told) (c.open.ensures.opens told)

pub returns-in-Ok-None-clause-opens : goal.returns-in-Ok-None-clause-opens
returns-in-Ok-None-clause-opens g c told =
    opens_refused g.L.Volume c.args.settings.now c.args.logs.now c.size.new.self NoDatabase (c.size.ensures.keeps told)
    (no_database (g.L.Volume.now c.args.logs.now) (no_file (g.L.Volume.now c.args.logs.now (LogFile 0)) (sym c.in-Ok-None.field-0-is ∙ c.in-Ok-None.ensures.size told)))

pub returns-in-Err-clause-opens : goal.returns-in-Err-clause-opens
returns-in-Err-clause-opens g c told =
    opens_refused g.L.Volume c.args.settings.now c.args.logs.now c.size.new.self Failed (c.size.ensures.keeps told) tt

pub returns-in-Ok-Some-clause-since : goal.returns-in-Ok-Some-clause-since
returns-in-Ok-Some-clause-since g c found = begun_since c.args.settings.now (g.L.Volume.now c.args.logs.now) found

pub returns-in-Ok-None-clause-since : goal.returns-in-Ok-None-clause-since
returns-in-Ok-None-clause-since g c found = begun_since c.args.settings.now (g.L.Volume.now c.args.logs.now) found

pub returns-in-Err-clause-since : goal.returns-in-Err-clause-since
returns-in-Err-clause-since g c found = begun_since c.args.settings.now (g.L.Volume.now c.args.logs.now) found
