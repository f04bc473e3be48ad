use Rattle.tt_log.proofs.Rests.{gate_inside}
use Rattle.tt_log.proofs.batch.read_full.Goals as goal

pub read_body-requires-clause-inside : goal.read_body-requires-clause-inside
read_body-requires-clause-inside g c told = gate_inside c.args.gate c.args.count _ (c.requires.says told)
