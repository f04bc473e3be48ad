use Rattle.tt_disk.specs.declared.volume.Name.TheVariants.{Log as LogFile}
use Rattle.tt_disk.specs.Volume.{Files}
use Rattle.std.proofs.Common.{◌≡◌, sym, refl, subst}
use Rattle.tt_log.specs.File.{Finds}
use Rattle.tt_log.proofs.Following.{start_past, end_answered, end_refused, first_refused}
use Rattle.tt_log.proofs.Visiting.{taken_all}
use Rattle.tt_log.proofs.opening.find_entries.Goals as goal

pub returns-then-from-ge-LOG_FILES_END-clause-finds : goal.returns-then-from-ge-LOG_FILES_END-clause-finds
returns-then-from-ge-LOG_FILES_END-clause-finds g c told = record { exact = start_past c.args.from (g.V.Volume.now c.args.volume.now) c.if-from-ge-LOG_FILES_END.true; start = tt; closed = tt }

pub follow_from-requires-clause-end : goal.follow_from-requires-clause-end
follow_from-requires-clause-end g c told =
    end_answered c.args.from.offset c.args.from.file _ _ c.read_file.result c.in-Ok.first (c.read_file.ensures.exact told) c.in-Ok.is (sym ((c.read_file.ensures.keeps told).reads (LogFile c.args.from.file)))

pub returns-in-Err-clause-finds : goal.returns-in-Err-clause-finds
returns-in-Err-clause-finds g c told = record {
  exact = first_refused c.args.from (g.V.Volume.now c.args.volume.now) c.in-Err.refusal c.if-from-ge-LOG_FILES_END.false
      (end_refused c.args.from.offset c.args.from.file _ _ c.read_file.result c.in-Err.refusal (c.read_file.ensures.exact told) c.in-Err.is refl);
  start = tt;
  closed = tt;
}

pub returns-in-Ok-clause-finds : goal.returns-in-Ok-clause-finds
returns-in-Ok-clause-finds g c told =
    let same : g.V.Volume.now c.read_file.new.volume ≡ g.V.Volume.now c.args.volume.now = λ i n. (c.read_file.ensures.keeps told).reads n i in
    subst (λ (files : Files). Finds c.args.from files c.follow_from.result) same (c.follow_from.ensures.finds told)

pub returns-in-Ok-clause-given : goal.returns-in-Ok-clause-given
returns-in-Ok-clause-given g c told =
    let same : g.V.Volume.now c.read_file.new.volume ≡ g.V.Volume.now c.args.volume.now = λ i n. (c.read_file.ensures.keeps told).reads n i in
    taken_all c.args.from.file (g.T.EntryVisitor.visited c.args.visitor.now) (g.T.EntryVisitor.visited c.read_file.new.visitor) (g.T.EntryVisitor.visited c.follow_from.new.visitor) (g.V.Volume.now c.args.volume.now) (g.V.Volume.now c.read_file.new.volume) c.in-Ok.first c.follow_from.result
    (end_answered c.args.from.offset c.args.from.file _ _ c.read_file.result c.in-Ok.first (c.read_file.ensures.exact told) c.in-Ok.is refl).end_is (c.in-Ok.ensures.given told) same (c.follow_from.ensures.given told)
