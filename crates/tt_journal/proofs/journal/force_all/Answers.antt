use Rattle.std.proofs.Common.{◌∙◌, ℕ, ap, nat_lt, sym, true≢false}
use Rattle.tt_journal.specs.FileLaws.{one_changes}
use Rattle.tt_journal.specs.WriteLaws.{all_follows}
use Rattle.tt_journal.proofs.TrailLemmas.{changed_from, quiet_waits, all_trail, left_prefix, prefix_all}
use Rattle.tt_journal.proofs.journal.force_all.Goals as goal
use Rattle.tt_log.specs.Log.{current_file_of}

pub returns-in-Ok-clause-performed : goal.returns-in-Ok-clause-performed
returns-in-Ok-clause-performed g c told =
    let log = c.args.log.now in
    record {
      ready = c.in-Ok.ensures.leaves.ready told;
      written = λ s h. record {
        stands = all_trail log c.force.new.self _ _ s h (c.in-Ok.ensures.entries.trail told) (c.in-Ok.ensures.entries.forced told) c.in-Ok.ensures.forced.forced.force c.in-Ok.ensures.forced.forced.write c.in-Ok.ensures.forced.forced.sizes.0 c.in-Ok.ensures.forced.forced.sizes.1 c.in-Ok.ensures.forced.forced.sizes.2 (c.in-Ok.ensures.entries.files told);
        kept = λ k. c.in-Ok.ensures.leaves.kept told k;
        onward = (all_follows s h.bounds.1).onward;
        quiet = λ q. c.force.ensures.moves.quiet (ap (λ (k : ℕ). nat_lt 0 k) (quiet_waits log _ _ s (c.requires.open told) h q));
        others = changed_from log _ s _ _ _ _ h (one_changes (current_file_of log) _ _ _ _ log.numbers (c.force.ensures.others told));
      };
      broken = λ s h. tt;
    }

pub returns-in-Err-clause-performed : goal.returns-in-Err-clause-performed
returns-in-Err-clause-performed g c told =
    let log = c.args.log.now in
    record {
      ready = tt;
      written = λ s h. tt;
      broken = λ s h. record {
        crash = λ k. prefix_all s.forced s (g.V.Volume.may c.force.new.volume) (left_prefix log _ _ (g.V.Volume.may c.force.new.volume) s (c.requires.open told) h (c.force.ensures.leaves.crash told k));
        onward = (all_follows s h.bounds.1).onward;
        moves = λ q. true≢false (sym c.in-Err.ensures.moves.fails ∙ ap (λ (k : ℕ). nat_lt 0 k) (quiet_waits log _ _ s (c.requires.open told) h q));
        others = changed_from log _ s _ _ _ _ h (one_changes (current_file_of log) _ _ _ _ log.numbers (c.force.ensures.others told));
      };
    }
