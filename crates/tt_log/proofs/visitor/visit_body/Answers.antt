use Rattle.std.proofs.Common.{refl, arith}
use Rattle.tt_log.proofs.Visiting.{handed_one, handed_bad, handed_all}
use Rattle.tt_log.proofs.visitor.visit_body.Goals as goal

pub entries-preserved : goal.entries-preserved
entries-preserved g c =
    let t = rw c.in-Some.is at c.in_ok-n.ensures.visits in
    record {
      inside = t.has.within;
      handed = handed_one (g.T.EntryVisitor.visited c.args.visitor.now) (g.T.EntryVisitor.visited c.entries.visitor) (g.T.EntryVisitor.visited c.visit_entry.new.visitor) c.args.bytes.now c.args.file c.args.offset c.entries.at c.in-Some.n _ refl c.entries.invariant.handed t;
    }

pub returns-in-None : goal.returns-in-None
returns-in-None g c = record {
  given = λ es is. absurd (handed_bad (g.T.EntryVisitor.visited c.args.visitor.now) (g.T.EntryVisitor.visited c.entries.visitor) c.args.bytes.now c.args.file c.args.offset c.entries.at es c.entries-test.true c.entries.invariant.handed (rw c.in-None.is at c.in_ok-n.ensures.visits) is);
}

pub returns : goal.returns
returns g c = record {
  given = λ es is. handed_all (g.T.EntryVisitor.visited c.args.visitor.now) (g.T.EntryVisitor.visited c.entries.visitor) c.args.bytes.now c.args.file c.args.offset c.entries.at es (omega (arith, c.entries-test.false)) c.entries.invariant.handed is;
}
