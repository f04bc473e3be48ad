use Rattle.std.proofs.Common.{◌∙◌, ◌<◌, ◌+◌, ap, arith}
use Rattle.tt_disk.specs.declared.volume.Name.TheVariants.{Log as LogFile}
use Rattle.tt_disk.specs.Laws.{count_stays, keeps_then_keeps}
use Rattle.tt_log.proofs.Following.{gone_more, gone_end, gone_refused, end_answered, end_refused}
use Rattle.tt_log.proofs.Reaching.{closes_same}
use Rattle.tt_log.specs.Walk.{file_read}
use Rattle.tt_log.proofs.Visiting.{files_more, files_end, part_same}
use Rattle.tt_log.proofs.opening.follow.Goals as goal

pub returns-in-Err-clause-exact : goal.returns-in-Err-clause-exact
returns-in-Err-clause-exact g c told =
    let files = g.V.Volume.now c.args.volume.now in
    let gone = gone_more c.args.number c.files.file files c.files.end c.files.invariant.below (c.files.invariant.gone told) (c.files.invariant.end told) c.files-test.true in
    let low : c.files.file < 999999 = c.files.invariant.range.1 c.files-test.true in
    gone_refused c.args.number (c.files.file + 1) files c.in-Err.refusal (omega (arith, low)) gone
    (end_refused 0 (c.files.file + 1) _ _ c.read_file.result c.in-Err.refusal (c.read_file.ensures.exact told) c.in-Err.is ((c.files.invariant.keeps told).reads (LogFile (c.files.file + 1))))

pub files-preserved : goal.files-preserved
files-preserved g c =
    let low : c.files.file < 999999 = c.files.invariant.range.1 c.files-test.true in
    record {
      onward = omega (arith, c.files.invariant.onward);
      below = omega (arith, low);
      range = c.in-Ok.ensures.within;
      later = omega (arith, c.in-Ok.ensures.cause.later, c.files.invariant.later);
      stays = λ exact. count_stays _ _ _ _ _ c.in-Ok.ensures.cause exact ∙ c.files.invariant.stays exact;
      keeps = λ told. keeps_then_keeps _ _ _ _ _ _ (c.files.invariant.keeps told) (c.read_file.ensures.keeps told);
      gone = λ told. gone_more c.args.number c.files.file (g.V.Volume.now c.args.volume.now) c.files.end c.files.invariant.below (c.files.invariant.gone told) (c.files.invariant.end told) c.files-test.true;
      closed = λ told. closes_same _ _ c.in-Ok.next (c.in-Ok.ensures.closed told) ((c.files.invariant.keeps told).reads (LogFile (c.files.file + 1)));
      end = λ told. (end_answered 0 (c.files.file + 1) _ _ c.read_file.result c.in-Ok.next (c.read_file.ensures.exact told) c.in-Ok.is ((c.files.invariant.keeps told).reads (LogFile (c.files.file + 1)))).end_is;
      given = λ told. files_more c.args.number c.files.file (g.T.EntryVisitor.visited c.args.visitor.now) (g.T.EntryVisitor.visited c.files.visitor) (g.T.EntryVisitor.visited c.read_file.new.visitor) (g.V.Volume.now c.args.volume.now) c.files.end c.files.invariant.below (c.files.invariant.given told) (c.files.invariant.end told) c.files-test.true
          (part_same (c.files.file + 1) (g.T.EntryVisitor.visited c.files.visitor) (g.T.EntryVisitor.visited c.read_file.new.visitor) _ _ (ap (file_read (c.files.file + 1)) ((c.files.invariant.keeps told).reads (LogFile (c.files.file + 1)))) (c.in-Ok.ensures.given told));
    }

pub returns-clause-exact : goal.returns-clause-exact
returns-clause-exact g c told =
    gone_end c.args.number c.files.file (g.V.Volume.now c.args.volume.now) c.files.end c.files.invariant.below (c.files.invariant.gone told) (c.files.invariant.end told) c.files-test.false

pub returns-clause-given : goal.returns-clause-given
returns-clause-given g c told =
    files_end c.args.number c.files.file (g.T.EntryVisitor.visited c.args.visitor.now) (g.T.EntryVisitor.visited c.files.visitor) (g.V.Volume.now c.args.volume.now) c.files.end c.files.invariant.below (c.files.invariant.given told) (c.files.invariant.end told) c.files-test.false
