use Rattle.std.proofs.Common.{◌≡◌, ◌∙◌, ap, sym, length, List, ℕ, arith, filter}
use Rattle.tt_value.specs.declared.position.Position.{Position}
use Rattle.tt_log.specs.Walk.{is_from}
use Rattle.tt_log.specs.Log.{forced_of}
use Rattle.tt_log.proofs.Giving.{new_scanning, new_left}
use Rattle.tt_log.proofs.log.Log.scan.Goals as goal

pub returns-clause-scans : goal.returns-clause-scans
returns-clause-scans c now w =
    let s = c.new.result in
    let log = c.args.self.now in
    let all : s.at ≡ length s.body.items = c.new.ensures.at ∙ sym (ap (λ (l : List ℕ). length l) c.new.ensures.body) in
    record {
      scanning = λ low. new_scanning s log now w c.new.ensures.begun all c.new.ensures.offset c.new.ensures.gate (omega (arith, low, c.new.ensures.file)) log.numbers;
      entries = λ low high.
          new_left s log now w c.new.ensures.begun all c.new.ensures.offset (c.new.ensures.file ∙ ap (λ (p : Position). p.file) (sym c.new.ensures.from)) (omega (arith, low, c.new.ensures.file)) (omega (arith, high, c.new.ensures.file)) log.numbers
          ∙ ap (λ (p : Position). filter (is_from p) (forced_of log now)) c.new.ensures.from;
    }
