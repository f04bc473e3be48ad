use Rattle.std.proofs.Common.{◌≤◌, arith}
use Rattle.tt_log.proofs.Giving.{left_here, left_after, given_of}
use Rattle.tt_log.proofs.scan.Scan.next.Goals as goal

pub returns-clause-gives : goal.returns-clause-gives
returns-clause-gives g c told =
    let s = c.args.self.now in
    let log = c.args.log.now in
    let le : s.file ≤ log.current_file = omega (arith, c.if-self-current.false, c.current.ensures.number) in
    let before = c.requires.scanning told le in
    let now = g.V.Volume.now c.args.volume.now in
    given_of c.find.result _ _ _ _ (left_here s log now le) (left_after s c.find.new.self log now _ (c.find.ensures.goes_on.going told).whole (c.find.ensures.goes_on.end told) before.1) (c.find.ensures.gives told)
