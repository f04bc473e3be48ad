use Rattle.std.proofs.Common.{◌≡◌, ◌∙◌, true, false, Option, Some, None, refl, sym, ap, subst, true≢false}
use Rattle.std.specs.Prelude.{IsSome}
use Rattle.tt_value.specs.declared.position.Position.{Position}
use Rattle.tt_record.specs.Entry.{length_of}
use Rattle.tt_record.specs.Place.{end_of, position_of}
use Rattle.tt_log.specs.Log.{write_position_of, current_file_of, file_size_of}
use Rattle.tt_model.specs.State.{lengths_fit}
use Rattle.tt_journal.specs.FileLaws.{two_change}
use Rattle.tt_journal.specs.WriteLaws.{entry_follows}
use Rattle.tt_journal.proofs.TrailLemmas.{changed_from, quiet_stays, Added, still_trail, left_prefix, prefix_more}
use Rattle.tt_journal.proofs.journal.add.Goals as goal

pub append-requires-clause-place : goal.append-requires-clause-place
append-requires-clause-place g c = by (position_of (write_position_of c.args.log.now) (length_of c.args.entry) (file_size_of c.args.log.now)) c.requires.place
  where
    by : (o : Option Position) → (elim o [ None ↦ false | Some at ↦ true ]) ≡ true → IsSome o
    by None is = cc
    by (Some at) is = refl

pub returns-in-Ok-clause-rest : goal.returns-in-Ok-clause-rest
returns-in-Ok-clause-rest g c ns fit =
    let at = c.in-Ok.field-0 in
    let size = (file_size_of c.args.log.now) in
    let n = length_of c.args.entry in
    let behind : lengths_fit size (end_of at n) ns ≡ true =
    subst (λ (o : Option Position). (elim o [ None ↦ false | Some p ↦ lengths_fit size (end_of p n) ns ]) ≡ true) c.in-Ok.ensures.appended.place fit in
    ap (λ k. lengths_fit k (write_position_of c.append.new.self) ns) c.append.ensures.appended.sizes.1 ∙ ap (λ p. lengths_fit size p ns) c.in-Ok.ensures.appended.write ∙ behind

pub returns-in-Ok-clause-performed : goal.returns-in-Ok-clause-performed
returns-in-Ok-clause-performed g c told =
    let log = c.args.log.now in
    let e = c.args.entry in
    let a : Added log c.append.new.self (g.V.Volume.now c.args.volume.now) (g.V.Volume.now c.append.new.volume) e c.in-Ok.field-0 =
    record {
      place = c.in-Ok.ensures.appended.place;
      trail = c.in-Ok.ensures.entries.trail told;
      forced = c.in-Ok.ensures.entries.forced told;
      write = c.in-Ok.ensures.appended.write;
      force = c.in-Ok.ensures.appended.force;
      first = c.append.ensures.appended.sizes.0;
      size = c.append.ensures.appended.sizes.1;
      buffer = c.append.ensures.appended.sizes.2;
      files = c.in-Ok.ensures.entries.files told;
    } in
    record {
      ready = c.in-Ok.ensures.leaves.ready told;
      written = λ s h. record {
        stands = still_trail log c.append.new.self _ _ _ s e c.in-Ok.field-0 (c.requires.open told) h a;
        kept = λ k. c.in-Ok.ensures.leaves.kept told k;
        onward = (entry_follows e s h.bounds.1).onward;
        quiet = λ q. c.append.ensures.moves.quiet (quiet_stays log _ _ s e (c.requires.open told) h c.requires.entry.entry q);
        others = changed_from log _ s _ _ _ _ h (two_change (current_file_of log) _ _ _ _ log.numbers (c.append.ensures.others told));
      };
      broken = λ s h. tt;
    }

pub returns-clause-performed : goal.returns-clause-performed
returns-clause-performed g c told =
    let log = c.args.log.now in
    let e = c.args.entry in
    record {
      ready = tt;
      written = λ s h. tt;
      broken = λ s h. record {
        crash = λ k. prefix_more s.forced s e (g.V.Volume.may c.append.new.volume) h.bounds.0 (left_prefix log _ _ (g.V.Volume.may c.append.new.volume) s (c.requires.open told) h (c.append.ensures.leaves.crash told k));
        onward = (entry_follows e s h.bounds.1).onward;
        moves = λ q. true≢false (sym c.in-Err.ensures.moves.fails ∙ quiet_stays log _ _ s e (c.requires.open told) h c.requires.entry.entry q);
        others = changed_from log _ s _ _ _ _ h (two_change (current_file_of log) _ _ _ _ log.numbers (c.append.ensures.others told));
      };
    }
