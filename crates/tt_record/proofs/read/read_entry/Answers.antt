use Rattle.std.proofs.Common.{arith}
use Rattle.tt_record.proofs.ReadAnswers.{entry_stands, entry_is_read, entry_within}
use Rattle.tt_record.proofs.read.read_entry.Goals as goal

pub returns-clause-read : goal.returns-clause-read
returns-clause-read c = entry_stands c.args.bytes.now c.read_first.result (λ i. omega (arith, c.type_inv.bytes i)) c.read_first.ensures.first

pub returns-clause-only : goal.returns-clause-only
returns-clause-only c = entry_is_read c.args.bytes.now c.read_first.result c.read_first.ensures.first

pub returns-clause-within : goal.returns-clause-within
returns-clause-within c = entry_within c.args.bytes.now c.read_first.result (λ i. omega (arith, c.type_inv.bytes i)) c.read_first.ensures.first
