use Rattle.tt_disk.proofs.Files.{passes}
use Rattle.tt_disk.proofs.memory.files.least_log.Goals as goal

pub loop-file-preserved : goal.loop-file-preserved
loop-file-preserved c = record {
  there = c.lesser_log-least.ensures.there c.loop-file.invariant.there;
  passed = passes c.args.files.now c.loop-file.file-index c.file-item.result c.args.from c.loop-file.least _ c.loop-file-test.true c.file-item.is c.lesser_log-least.ensures.below c.lesser_log-least.ensures.own c.loop-file.invariant.passed;
}
