use Rattle.std.proofs.Common.{◌+◌, ◌≤◌, ◌∙◌, sym, ap, subst, length, drop, List, ℕ}
use Rattle.tt_record.specs.Read.{entry_at}
use Rattle.tt_log.proofs.Scanning.{Passed, passed_ahead, passed_going, entry_good}
use Rattle.tt_log.proofs.scan.Scan.take.Goals.{After-pass}
use Rattle.tt_log.proofs.scan.Scan.take.Goals as goal

passed : (c : After-pass) → Passed c.args.self.now c.pass.new.self c.in-Ok-Some.entry c.in-Ok-Some.n
passed c = record {
  reads = ap (λ (l : List ℕ). entry_at (drop c.args.self.now.at l)) (sym c.deref.ensures.value) ∙ sym c.in-Ok-Some.ensures.first ∙ c.in-Ok-Some.field-0-is;
  long = rw c.in-Ok-Some.field-0-is at c.in-Ok-Some.ensures.long;
  within = subst (λ (l : List ℕ). c.args.self.now.at + c.in-Ok-Some.n ≤ length l) c.deref.ensures.value (rw c.in-Ok-Some.field-0-is at c.in-Ok-Some.ensures.within).1;
  at = c.pass.ensures.at;
  offset = c.pass.ensures.offset;
  file = c.pass.ensures.still.file;
  begun = c.pass.ensures.begun;
  gate = c.pass.ensures.still.gate;
  body_is = c.pass.ensures.still.body;
}

pub returns-in-Ok-Some-clause-takes : goal.returns-in-Ok-Some-clause-takes
returns-in-Ok-Some-clause-takes c files going =
    let p = passed (goal.at.returns-in-Ok-Some-clause-takes c).After-pass in
    record { going = passed_going _ _ files _ _ going p; gives = passed_ahead _ _ files _ _ going p; refused = tt }

pub returns-in-Ok-None-clause-takes : goal.returns-in-Ok-None-clause-takes
returns-in-Ok-None-clause-takes c files going =
    let s = c.args.self.now in
    absurd (entry_good s files going c.requires.some (ap (λ (l : List ℕ). entry_at (drop s.at l)) (sym c.deref.ensures.value) ∙ sym c.in-Ok-None.ensures.first ∙ c.in-Ok-None.field-0-is))
