use Rattle.std.proofs.Common.{sym, arith}
use Rattle.tt_log.proofs.BodyParts.{all_read}
use Rattle.tt_log.proofs.body.body_of.Goals as goal

pub returns-clause-body : goal.returns-clause-body
returns-clause-body c = sym (all_read c.args.number c.args.bytes.now c.entries.at c.entries.invariant.so_far (omega (arith, c.entries.invariant.inside, c.entries-test.false)))
