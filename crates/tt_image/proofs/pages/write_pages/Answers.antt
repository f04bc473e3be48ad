use Rattle.std.proofs.Common.{◌∙◌, slice_index, arith}
use Rattle.tt_disk.specs.Laws.{only_at_then_only_at}
use Rattle.tt_disk.specs.Volume.{size_of}
use Rattle.tt_cells.specs.Copies.{pages_of}
use Rattle.tt_image.proofs.RunLemmas.{begin_behind_run, run_begins, runs_written}
use Rattle.tt_image.proofs.pages.write_pages.Goals as goal

pub write_run-requires-clause-within : goal.write_run-requires-clause-within
write_run-requires-clause-within g c told =
    let run = c.run_length-run in
    let copies = c.args.copies.now.copies in
    run_begins copies c.args.count c.loop-from.from run.result run.ensures.within (slice_index (pages_of copies) c.loop-from.from) (size_of (g.V.Volume.now c.loop-from.volume c.args.name))
    run.ensures.some c.requires.count run.ensures.run (c.loop-from.invariant.within told)

pub loop-from-preserved : goal.loop-from-preserved
loop-from-preserved g c =
    let run = c.run_length-run in
    let copies = c.args.copies.now.copies in
    let first = g.V.Volume.now c.args.volume.now c.args.name in
    let now = g.V.Volume.now c.loop-from.volume c.args.name in
    let after = g.V.Volume.now c.write_run.new.volume c.args.name in
    record {
      passed = run.ensures.within;
      later = omega (arith, c.in-Ok.ensures.cause.later, c.loop-from.invariant.later);
      stays = λ exact. c.in-Ok.ensures.cause.stays exact ∙ c.loop-from.invariant.stays exact;
      written = λ told. runs_written copies c.args.count c.loop-from.from run.result run.ensures.within first now after (c.loop-from.invariant.written told) (c.in-Ok.ensures.written told);
      shut = λ told. c.write_run.ensures.shut told;
      within = λ told. begin_behind_run copies c.args.count c.loop-from.from run.result run.ensures.within now after c.len-all.ensures.sound.whole (c.in-Ok.ensures.written told) (c.loop-from.invariant.within told);
      others = λ told. only_at_then_only_at _ _ _ _ _ _ _ (c.loop-from.invariant.others told) (c.write_run.ensures.others told);
    }
