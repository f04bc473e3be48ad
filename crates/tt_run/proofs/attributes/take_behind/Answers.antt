use Rattle.std.proofs.Common.{◌-◌, length, arith}
use Rattle.tt_run.proofs.SettingsLemmas.{taken_behind}
use Rattle.tt_run.proofs.attributes.take_behind.Goals as goal

pub returns-clause-bytes : goal.returns-clause-bytes
returns-clause-bytes g c left told =
    taken_behind c.args.used (length c.args.buffer.now - c.args.used) c.args.buffer.now c.take.new.buf left (g.A.Source.left c.args.source.now) (g.A.Source.left c.take.new.self) c.take.result c.requires
    (let long = c.take.auto.buf in let low = c.requires in omega (arith, long, low)) c.take.ensures.bound c.take.ensures.bytes told
