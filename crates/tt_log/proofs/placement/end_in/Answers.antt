use Rattle.std.proofs.Common.{◌+◌, arith}
use Rattle.tt_log.proofs.Fitting.{full_ends}
use Rattle.tt_log.proofs.placement.end_in.Goals as goal

pub returns-then-count-room : goal.returns-then-count-room
returns-then-count-room c rest = full_ends c.args.at.file (c.args.size + 1) (c.args.at.offset + c.args.count) c.args.size rest (omega arith) (omega (arith, c.if-count-room.true))
