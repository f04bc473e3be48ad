use Rattle.std.proofs.Common.{◌∙◌, sym}
use Rattle.tt_disk.specs.declared.volume.Name.TheVariants.{Log}
use Rattle.tt_run.proofs.OpenLemmas.{made_done, new_made, no_other_kept, no_other_made, no_size, some_size}
use Rattle.tt_run.proofs.top_call.create.Goals as goal

pub returns-in-Ok-put-clause-created : goal.returns-in-Ok-put-clause-created
returns-in-Ok-put-clause-created g c = λ told.
    (made_done (g.L.Volume.now c.args.logs.now (Log 0)) (g.L.Volume.now c.make.new.volume) (g.L.Volume.may c.make.new.volume) (no_size (g.L.Volume.now c.args.logs.now (Log 0)) (sym c.in-Ok-None.field-0-is ∙ c.in-Ok-None.ensures.size told))
    (new_made (g.L.Volume.now c.make.new.volume) (g.L.Volume.may c.make.new.volume) (c.in-Ok.ensures.made told) (c.in-Ok.ensures.alone told) (c.in-Ok.ensures.settled told))).0

pub returns-in-Err-put-clause-created : goal.returns-in-Err-put-clause-created
returns-in-Err-put-clause-created g c = λ told.
    (made_done (g.L.Volume.now c.args.logs.now (Log 0)) (g.L.Volume.now c.make.new.volume) (g.L.Volume.may c.make.new.volume) (no_size (g.L.Volume.now c.args.logs.now (Log 0)) (sym c.in-Ok-None.field-0-is ∙ c.in-Ok-None.ensures.size told))
    (new_made (g.L.Volume.now c.make.new.volume) (g.L.Volume.may c.make.new.volume) (c.in-Ok.ensures.made told) (c.in-Ok.ensures.alone told) (c.in-Ok.ensures.settled told))).1

pub returns-in-Err-clause-no_other : goal.returns-in-Err-clause-no_other
returns-in-Err-clause-no_other g c = λ told none. no_other_kept (g.L.Volume.now c.args.logs.now) (g.L.Volume.now c.size.new.self) (g.L.Volume.may c.args.logs.now) (g.L.Volume.may c.size.new.self) (c.size.ensures.keeps told) none

pub returns-in-Ok-Some-clause-no_other : goal.returns-in-Ok-Some-clause-no_other
returns-in-Ok-Some-clause-no_other g c = λ told none. no_other_kept (g.L.Volume.now c.args.logs.now) (g.L.Volume.now c.size.new.self) (g.L.Volume.may c.args.logs.now) (g.L.Volume.may c.size.new.self) (c.size.ensures.keeps told) none

pub returns-in-Err-make-clause-no_other : goal.returns-in-Err-make-clause-no_other
returns-in-Err-make-clause-no_other g c = λ told none.
    no_other_made (g.L.Volume.now c.args.logs.now) (g.L.Volume.now c.size.new.self) (g.L.Volume.may c.args.logs.now) (g.L.Volume.may c.size.new.self) (g.L.Volume.may c.make.new.volume) (c.size.ensures.keeps told) (c.make.ensures.short told) none

pub returns-in-Ok-put-clause-no_other : goal.returns-in-Ok-put-clause-no_other
returns-in-Ok-put-clause-no_other g c = λ told none.
    no_other_made (g.L.Volume.now c.args.logs.now) (g.L.Volume.now c.size.new.self) (g.L.Volume.may c.args.logs.now) (g.L.Volume.may c.size.new.self) (g.L.Volume.may c.make.new.volume) (c.size.ensures.keeps told) (c.make.ensures.short told) none

pub returns-in-Err-put-clause-no_other : goal.returns-in-Err-put-clause-no_other
returns-in-Err-put-clause-no_other g c = λ told none.
    no_other_made (g.L.Volume.now c.args.logs.now) (g.L.Volume.now c.size.new.self) (g.L.Volume.may c.args.logs.now) (g.L.Volume.may c.size.new.self) (g.L.Volume.may c.make.new.volume) (c.size.ensures.keeps told) (c.make.ensures.short told) none

pub returns-in-Err-make-clause-there : goal.returns-in-Err-make-clause-there
returns-in-Err-make-clause-there g c = λ file told is. absurd (some_size (g.L.Volume.now c.args.logs.now (Log 0)) file is (sym c.in-Ok-None.field-0-is ∙ c.in-Ok-None.ensures.size told))

pub returns-in-Ok-put-clause-there : goal.returns-in-Ok-put-clause-there
returns-in-Ok-put-clause-there g c = λ file told is. absurd (some_size (g.L.Volume.now c.args.logs.now (Log 0)) file is (sym c.in-Ok-None.field-0-is ∙ c.in-Ok-None.ensures.size told))

pub returns-in-Err-put-clause-there : goal.returns-in-Err-put-clause-there
returns-in-Err-put-clause-there g c = λ file told is. absurd (some_size (g.L.Volume.now c.args.logs.now (Log 0)) file is (sym c.in-Ok-None.field-0-is ∙ c.in-Ok-None.ensures.size told))
