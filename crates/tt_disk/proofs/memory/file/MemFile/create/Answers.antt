use Rattle.std.proofs.Common.{ap, sym, subst}
use Rattle.tt_disk.specs.Failing.{IfNoted}
use Rattle.tt_disk.specs.Volume.{CreatedFrom}
use Rattle.tt_disk.specs.Steps.{contents}
use Rattle.tt_disk.specs.File.{Reaches}
use Rattle.tt_disk.proofs.memory.file.MemFile.create.Goals as goal

pub returns-in-Some-clause-reaches : goal.returns-in-Some-clause-reaches
returns-in-Some-clause-reaches c = subst (λ o. IfNoted c.empty.result (Reaches (CreatedFrom o) c.args.self.now c.empty.new.self)) (sym (ap contents c.in-Some.is)) c.empty.ensures.reaches

pub returns-in-None-clause-reaches : goal.returns-in-None-clause-reaches
returns-in-None-clause-reaches c = subst (λ o. IfNoted c.make.result (Reaches (CreatedFrom o) c.args.self.now c.make.new.self)) (sym (ap contents c.in-None.is)) c.make.ensures.reaches
