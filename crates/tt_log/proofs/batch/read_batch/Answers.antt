use Rattle.std.proofs.Common.{◌≡◌, ◌⊎◌, ◌∙◌, ap, subst, Result, Ok, Err}
use Rattle.tt_gate.specs.declared.gate.Gate.{Gate}
use Rattle.tt_gate.specs.Gate.{gate_in}
use Rattle.tt_log.specs.declared.refusal.LogRefusal.{LogRefusal}
use Rattle.tt_log.specs.declared.refusal.LogRefusal.TheVariants.{Failed}
use Rattle.tt_log.specs.Batch.{gate_for}
use Rattle.tt_disk.specs.declared.volume.Name.TheVariants.{Log as LogFile}
use Rattle.tt_log.proofs.Rests.{gate_told, gate_refused, rest_closed}
use Rattle.tt_log.proofs.batch.read_batch.Goals as goal

pub returns-in-Ok-Closed-clause-exact : goal.returns-in-Ok-Closed-clause-exact
returns-in-Ok-Closed-clause-exact g c told =
    let says = gate_told c.args.number c.gate_of.result c.in-Ok-Closed.field-0 (gate_in c.args.gate (g.V.Volume.now c.args.volume.now (LogFile c.args.number))) (c.gate_of.ensures.exact told) c.in-Ok-Closed.is in
    rest_closed c.args.number c.args.gate c.args.offset _ (c.requires.headed told) (says ∙ ap (λ (k : Gate). Ok k) c.in-Ok-Closed.field-0-is)

pub returns-in-Err-clause-exact : goal.returns-in-Err-clause-exact
returns-in-Err-clause-exact g c told =
    let answer = let P : Result Gate LogRefusal → Type 0 = λ r. (r ≡ Err Failed) ⊎ (r ≡ gate_for c.args.number (gate_in c.args.gate (g.V.Volume.now c.args.volume.now (LogFile c.args.number)))) in subst P c.in-Err.is (c.gate_of.ensures.exact told) in
    gate_refused c.args.number c.args.gate c.args.offset _ c.in-Err.refusal (c.requires.headed told) c.requires.gate answer
