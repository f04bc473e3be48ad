use Rattle.std.proofs.Common.{◌≡◌, ◌∙◌, ◌+◌, inr, ◌⊎◌, Err, sym, ap, subst, arith, ℕ, List, length}
use Rattle.tt_value.specs.BigEndianLaws.{AreBytes}
use Rattle.tt_record.specs.Read.{entries_of}
use Rattle.tt_disk.specs.declared.volume.Name.TheVariants.{Log as LogFile}
use Rattle.tt_gate.specs.Gate.{gate_in}
use Rattle.tt_log.specs.declared.refusal.LogRefusal.TheVariants.{Failed}
use Rattle.tt_log.specs.Batch.{after_switch_by}
use Rattle.tt_log.specs.Body.{body_in}
use Rattle.tt_log.specs.declared.body.Body.TheVariants.{Entries, NextFile, Bad}
use Rattle.tt_log.proofs.Rests.{batch_bad, batch_switch, batch_over, batch_plain}
use Rattle.tt_log.proofs.batch.classify_batch.Goals as goal

pub returns-in-Bad-clause-exact : goal.returns-in-Bad-clause-exact
returns-in-Bad-clause-exact g c told =
    let is : body_in c.args.number (entries_of c.args.body.items) ≡ Bad = ap (λ (l : List ℕ). body_in c.args.number (entries_of l)) (sym c.deref.ensures.value) ∙ sym c.in_ok-body_of.ensures.body ∙ c.in-Bad.is in
    inr (inr (batch_bad c.args.number c.args.gate c.args.offset c.args.body.items _ (c.requires.headed told) (c.requires.gate told) is))

pub returns-in-NextFile-clause-exact : goal.returns-in-NextFile-clause-exact
returns-in-NextFile-clause-exact g c told =
    let is : body_in c.args.number (entries_of c.args.body.items) ≡ NextFile = ap (λ (l : List ℕ). body_in c.args.number (entries_of l)) (sym c.deref.ensures.value) ∙ sym c.in_ok-body_of.ensures.body ∙ c.in-NextFile.is in
    let long : c.len.result ≡ length c.args.body.items = omega (arith, c.len.ensures) in
    let answer = subst (λ (k : ℕ). (c.read_after_switch.result ≡ Err Failed) ⊎ (c.read_after_switch.result ≡ after_switch_by c.args.number (c.args.gate + 9 + k) (gate_in (c.args.gate + 9 + k) (g.V.Volume.now c.args.volume.now (LogFile c.args.number))))) long (c.read_after_switch.ensures.exact told) in
    batch_switch c.args.number c.args.gate c.args.offset c.args.body.items _ c.read_after_switch.result (c.requires.headed told) (c.requires.gate told) is answer

pub returns-then-offset-len-clause-exact : goal.returns-then-offset-len-clause-exact
returns-then-offset-len-clause-exact g c told =
    let is : body_in c.args.number (entries_of c.args.body.items) ≡ Entries c.in-Entries.total = ap (λ (l : List ℕ). body_in c.args.number (entries_of l)) (sym c.deref.ensures.value) ∙ sym c.in_ok-body_of.ensures.body ∙ c.in-Entries.is in
    let bytes : AreBytes c.args.body.items = subst (λ (l : List ℕ). AreBytes l) c.deref.ensures.value c.body_of.ensures.bytes in
    inr (inr (batch_over c.args.number c.args.gate c.args.offset c.in-Entries.total c.args.body.items _ (c.requires.headed told) (c.requires.gate told) bytes is (omega (arith, c.if-offset-len.true, c.len-in-Entries.ensures))))

pub returns-else-offset-len-clause-exact : goal.returns-else-offset-len-clause-exact
returns-else-offset-len-clause-exact g c told =
    let is : body_in c.args.number (entries_of c.args.body.items) ≡ Entries c.in-Entries.total = ap (λ (l : List ℕ). body_in c.args.number (entries_of l)) (sym c.deref.ensures.value) ∙ sym c.in_ok-body_of.ensures.body ∙ c.in-Entries.is in
    let bytes : AreBytes c.args.body.items = subst (λ (l : List ℕ). AreBytes l) c.deref.ensures.value c.body_of.ensures.bytes in
    batch_plain c.args.number c.args.gate c.args.offset c.in-Entries.total c.args.body.items _ (c.requires.headed told) (c.requires.gate told) bytes is (omega (arith, c.if-offset-len.false, c.len-in-Entries.ensures))
