use Rattle.std.proofs.Common.{◌∙◌, sym, ap, not}
use Rattle.tt_value.specs.declared.position.Position.{Position}
use Rattle.tt_log.specs.Walk.{is_from}
use Rattle.tt_log.proofs.Giving.{front_end, passed_over, given_one}
use Rattle.tt_log.proofs.scan.Scan.take_from.Goals as goal

pub returns-then-is_before-clause-takes : goal.returns-then-is_before-clause-takes
returns-then-is_before-clause-takes c files going =
    let took = c.in-Ok.ensures.takes files going in
    record {
      going = took.going;
      end = front_end _ _ _ going.whole took.gives;
      gives = passed_over c.args.self.now c.take.new.self files (c.in-Ok.at, c.in-Ok.entry) going.whole took.gives c.take.ensures.from
          (ap (λ (q : Position). not (is_from q (c.in-Ok.at, c.in-Ok.entry))) (sym c.take.ensures.from) ∙ sym (c.is_before.ensures c.in-Ok.entry) ∙ c.if-is_before.true);
      refused = tt;
    }

pub returns-else-is_before-clause-takes : goal.returns-else-is_before-clause-takes
returns-else-is_before-clause-takes c files going =
    let took = c.in-Ok.ensures.takes files going in
    record {
      going = took.going;
      end = front_end _ _ _ going.whole took.gives;
      gives = given_one c.args.self.now c.take.new.self files (c.in-Ok.at, c.in-Ok.entry) going.whole took.gives c.take.ensures.from
          (ap (λ (q : Position). not (is_from q (c.in-Ok.at, c.in-Ok.entry))) (sym c.take.ensures.from) ∙ sym (c.is_before.ensures c.in-Ok.entry) ∙ c.if-is_before.false);
      refused = tt;
    }
