use Rattle.std.proofs.Common.{arith, sym, ◌-◌, ◌+◌, ◌≡◌, ◌∙◌}
use Rattle.tt_value.proofs.ValueLemmas.{go_on, stopped, ended, too_long}
use Rattle.tt_value.proofs.stored.read_values.Goals as goal

pub returns-in-None : goal.returns-in-None
returns-in-None c =
    sym (stopped c.args.count c.args.bytes.now c.values.values.items (c.args.count - c.values.done) (c.args.count - (c.values.done + 1)) c.values.at c.values.invariant (omega arith) (sym c.in_ok-value.ensures.value ∙ c.in-None.is))

pub values-preserved : goal.values-preserved
values-preserved c =
    rw c.in_ok-push-in-Some.ensures.items
    (go_on c.args.count c.args.bytes.now c.values.values.items (c.args.count - c.values.done) (c.args.count - (c.values.done + 1)) c.values.at c.in-Some.length c.in-Some.value c.values.invariant (omega arith) (sym c.in_ok-value.ensures.value ∙ c.in-Some.is) (rw c.in-Some.is at c.in_ok-value.ensures.within))

pub returns-then-at-bytes : goal.returns-then-at-bytes
returns-then-at-bytes c =
    let left : c.args.count - c.values.done ≡ 0 = omega arith in
    sym (too_long c.args.count c.args.bytes.now c.values.values.items (c.args.count - c.values.done) c.values.at c.values.invariant left c.if-at-bytes.true)

pub returns : goal.returns
returns c =
    let left : c.args.count - c.values.done ≡ 0 = omega arith in
    rw c.from_vec.ensures (sym (ended c.args.count c.args.bytes.now c.values.values.items (c.args.count - c.values.done) c.values.at c.values.invariant left c.if-at-bytes.false))
