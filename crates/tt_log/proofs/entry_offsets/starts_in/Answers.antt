use Rattle.std.proofs.Common.{arith}
use Rattle.tt_log.specs.Opening.{HasEntry}
use Rattle.tt_log.proofs.Skips.{one_skipped, no_rest, all_skipped}
use Rattle.tt_log.proofs.entry_offsets.starts_in.Goals as goal

pub entries-preserved : goal.entries-preserved
entries-preserved c =
    let h : HasEntry c.args.bytes.now c.entries.at c.in-Some.n = rw c.in-Some.is at c.in_ok-n.ensures.some in
    record { inside = h.within; skipped = one_skipped c.args.bytes.now c.args.wanted c.entries.at c.in-Some.n c.entries.invariant.skipped c.entries-test.true h }

pub returns-in-None : goal.returns-in-None
returns-in-None c es is =
    absurd (no_rest c.args.bytes.now c.args.wanted c.entries.at es c.entries.invariant.skipped (omega (arith, c.entries-test.true, c.requires)) (c.in_ok-n.ensures.none c.in-None.is) is)

pub returns : goal.returns
returns c es is = all_skipped c.args.bytes.now c.args.wanted c.entries.at es c.entries.invariant.skipped c.entries-test.false c.requires is
