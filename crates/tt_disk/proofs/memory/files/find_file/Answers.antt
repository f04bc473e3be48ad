use Rattle.std.proofs.Common.{sym, ◌∙◌}
use Rattle.tt_disk.proofs.Files.{is_at, none_before}
use Rattle.tt_disk.proofs.memory.files.find_file.Goals as goal

pub returns-then-same_name : goal.returns-then-same_name
returns-then-same_name c = is_at c.args.files.now c.args.name c.loop-i.i c.index-files-i.result c.loop-i-test.true c.index-files-i.is c.loop-i.invariant (sym c.same_name.ensures ∙ c.if-same_name.true)

pub loop-i-preserved : goal.loop-i-preserved
loop-i-preserved c = none_before c.args.files.now c.args.name c.loop-i.i c.index-files-i.result c.loop-i-test.true c.index-files-i.is c.loop-i.invariant (sym c.same_name.ensures ∙ c.if-same_name.false)
