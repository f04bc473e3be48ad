use Rattle.std.proofs.Common.{◌∙◌, ap, subst, Err}
use Rattle.tt_disk.specs.declared.volume.Name.TheVariants.{Log as LogFile}
use Rattle.tt_gate.specs.declared.gate.GateRefusal.{GateRefusal}
use Rattle.tt_gate.specs.GateFile.{RefusalHolds}
use Rattle.tt_log.proofs.Heads.{header_refused}
use Rattle.tt_log.proofs.batch.check_header.Goals as goal

pub returns-in-Err-clause-refused : goal.returns-in-Err-clause-refused
returns-in-Err-clause-refused g c told =
    header_refused c.args.number _ c.in-Err.refusal c.refusal_of.result c.refusal_of.ensures (subst (λ header. RefusalHolds header (g.V.Volume.now c.args.volume.now (LogFile c.args.number)) c.in-Err.refusal) c.header.ensures (c.in-Err.ensures.refused told))
    (λ at is. c.check_header.ensures.unread at (c.in-Err.is ∙ ap (λ (k : GateRefusal). Err k) is))
