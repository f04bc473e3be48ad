use Rattle.std.proofs.Common.{arith}
use Rattle.tt_value.proofs.RowAnswers.{answer_is_stored, stored_is_answered}
use Rattle.tt_value.proofs.stored.read_row.Goals as goal

pub returns-clause-read : goal.returns-clause-read
returns-clause-read c = answer_is_stored c.args.bytes.now c.read_whole.result (λ i. omega (arith, c.type_inv.bytes i)) c.read_whole.ensures

pub returns-clause-only : goal.returns-clause-only
returns-clause-only c = stored_is_answered c.args.bytes.now c.read_whole.result c.read_whole.ensures
