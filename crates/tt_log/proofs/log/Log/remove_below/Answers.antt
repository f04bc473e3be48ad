use Rattle.std.proofs.Common.{◌∙◌, ◌≤◌, ◌+◌, ap, refl, rules, sym, arith, ℕ, subst}
use Rattle.tt_log.specs.Walk.{log_of}
use Rattle.tt_log.specs.Log.{is_between}
use Rattle.tt_log.proofs.Forcing.{is_found}
use Rattle.tt_log.proofs.Purge.{Removed, below_gone, above_gone, out_low, out_high, removed_open, removed_forced}
use Rattle.std.specs.Prelude.{IsSome}
use Rattle.std.proofs.lemmas.Result.{on_ok_weaker}
use Rattle.tt_log.specs.Limits.{log_names_end}
use Rattle.tt_disk.specs.Volume.{File}
use Rattle.tt_log.proofs.Switching.{ready_same}
use Rattle.tt_disk.specs.declared.volume.Name.TheVariants.{Log as LogFile}
use Rattle.tt_log.proofs.Standing.{file_there}
use Rattle.tt_log.proofs.log.Log.remove_below.Given.{Over}
use Rattle.tt_log.proofs.log.Log.remove_below.Goals.{After-remove_logs, After-remove_logs-2}
use Rattle.tt_log.proofs.log.Log.remove_below.Goals as goal

-- once the files below are gone
below : (g : Over) (c : After-remove_logs g) (told : g.V.Volume.told) → Removed c.args.self.now c.max-self.result (g.V.Volume.now c.args.volume.now) (g.V.Volume.now c.remove_logs.new.volume) (g.V.Volume.may c.args.volume.now) (g.V.Volume.may c.remove_logs.new.volume)
below g c told =
    let log = c.args.self.now in
    let o = c.requires.open told in
    let f = is_found (log_of log.first_file (g.V.Volume.now c.args.volume.now)) log.current_file log.forced_bytes o.whole o.end in
    record {
      shrunk = below_gone log.first_file c.max-self.result log.current_file log.forced_bytes c.args.file _ _ _ _ f (omega (arith, c.max-self.ensures)) (omega (arith, c.max-self.ensures))
          (omega (arith, c.max-self.ensures, c.requires.file, log.ordered)) log.numbers (g.met.V.Volume.reads told c.args.volume.now) (c.remove_logs.ensures.others told);
      ready =
          let out = ap (is_between 0 c.args.file) log.named ∙ out_high 0 c.args.file log.current_file c.requires.file in
          let only = c.remove_logs.ensures.others told in
          ready_same log.file _ _ _ _ (only.reads log.file.name out) (only.crash log.file.name out) o.gate;
    }

-- once those above are gone, too
both : (g : Over) (c : After-remove_logs-2 g) (told : g.V.Volume.told) → Removed c.args.self.now c.max-self.result (g.V.Volume.now c.args.volume.now) (g.V.Volume.now c.remove_logs.new.volume) (g.V.Volume.may c.args.volume.now) (g.V.Volume.may c.remove_logs.new.volume)
    → Removed c.args.self.now c.max-self.result (g.V.Volume.now c.args.volume.now) (g.V.Volume.now c.remove_logs-2.new.volume) (g.V.Volume.may c.args.volume.now) (g.V.Volume.may c.remove_logs-2.new.volume)
both g c told r =
    let log = c.args.self.now in
    let o = c.requires.open told in
    let f = is_found (log_of log.first_file (g.V.Volume.now c.args.volume.now)) log.current_file log.forced_bytes o.whole o.end in
    record {
      shrunk = above_gone log.first_file c.max-self.result log.current_file log.forced_bytes _ _ _ _ _ _ _ f (g.met.V.Volume.reads told c.remove_logs.new.volume) r.shrunk (c.remove_logs-2.ensures.others told);
      ready =
          let out = ap (is_between (log.current_file + 1) log_names_end) log.named ∙ out_low (log.current_file + 1) log_names_end log.current_file (omega arith) in
          let only = c.remove_logs-2.ensures.others told in
          ready_same log.file _ _ _ _ (only.reads log.file.name out) (only.crash log.file.name out) r.ready;
    }

pub returns-in_err-remove_logs-clause-open : goal.returns-in_err-remove_logs-clause-open
returns-in_err-remove_logs-clause-open g c told =
    removed_open c.args.self.now _ _ _ _ _ (c.requires.open told) (below g (goal.at.returns-in_err-remove_logs-clause-open g c).After-remove_logs told) refl refl refl refl refl

pub returns-in_err-remove_logs-clause-forced : goal.returns-in_err-remove_logs-clause-forced
returns-in_err-remove_logs-clause-forced g c told =
    removed_forced c.args.self.now _ _ _ _ _ (below g (goal.at.returns-in_err-remove_logs-clause-forced g c).After-remove_logs told)

pub returns-in_err-remove_logs-clause-kept : goal.returns-in_err-remove_logs-clause-kept
returns-in_err-remove_logs-clause-kept g c told kept files left =
    let s = (below g (goal.at.returns-in_err-remove_logs-clause-kept g c).After-remove_logs told).shrunk in
    s.crash kept files left ∙ sym s.now

pub returns-clause-open : goal.returns-clause-open
returns-clause-open g c told =
    let at = goal.at.returns-clause-open g c in
    removed_open c.args.self.now _ _ _ _ _ (c.requires.open told) (both g at.After-remove_logs-2 told (below g at.After-remove_logs told)) refl refl refl refl refl

pub returns-clause-forced : goal.returns-clause-forced
returns-clause-forced g c told =
    let at = goal.at.returns-clause-forced g c in
    removed_forced c.args.self.now _ _ _ _ _ (both g at.After-remove_logs-2 told (below g at.After-remove_logs told))

pub returns-clause-kept : goal.returns-clause-kept
returns-clause-kept g c told kept files left =
    let at = goal.at.returns-clause-kept g c in
    let s = (both g at.After-remove_logs-2 told (below g at.After-remove_logs told)).shrunk in
    s.crash kept files left ∙ sym s.now

pub returns-in_err-remove_logs-clause-there : goal.returns-in_err-remove_logs-clause-there
returns-in_err-remove_logs-clause-there g c told k low high =
    let log = c.args.self.now in
    let o = c.requires.open told in
    let first : log.first_file ≤ k = omega (arith, c.max-self.ensures, low) in
    let above : c.args.file ≤ k = omega (arith, c.max-self.ensures, low) in
    let stays = (c.remove_logs.ensures.others told).reads (LogFile k) (out_high 0 c.args.file k above) in
    subst (λ (f : File). IsSome f) (sym stays) (file_there log (g.V.Volume.now c.args.volume.now) k (o.whole, o.end) first high log.numbers)

pub returns-clause-there : goal.returns-clause-there
returns-clause-there g c told k low high =
    let log = c.args.self.now in
    let o = c.requires.open told in
    let first : log.first_file ≤ k = omega (arith, c.max-self.ensures, low) in
    let above : c.args.file ≤ k = omega (arith, c.max-self.ensures, low) in
    let stays = (c.remove_logs.ensures.others told).reads (LogFile k) (out_high 0 c.args.file k above) in
    let stays2 = (c.remove_logs-2.ensures.others told).reads (LogFile k) (out_low (log.current_file + 1) _ k (omega (arith, high))) in
    subst (λ (f : File). IsSome f) (sym (stays2 ∙ stays)) (file_there log (g.V.Volume.now c.args.volume.now) k (o.whole, o.end) first high log.numbers)

pub returns-clause-removes : goal.returns-clause-removes
returns-clause-removes g c =
    let log = c.args.self.now in
    let second = c.remove_logs-2.ensures.others in
    let out = λ (k : ℕ) (low : k ≤ log.current_file). out_low (log.current_file + 1) log_names_end k (omega (arith, low)) in
    record {
      below = on_ok_weaker c.remove_logs-2.result (λ _ told k low high. (second told).reads (LogFile k) (out k (omega (arith, c.requires.file, high))) ∙ c.in_ok-remove_logs.ensures.gone told k low high) c.remove_logs-2.ensures.gone;
      above = on_ok_weaker c.remove_logs-2.result (λ gone told k low high. gone told k (omega (arith, low)) high) c.remove_logs-2.ensures.gone;
      ascending = λ told.
          let first = c.remove_logs.ensures.ascending told in
          record {
            at = first.at;
            gone = λ k low under high. (second told).reads (LogFile k) (out k (omega (arith, c.requires.file, high))) ∙ first.gone k low under high;
            above = λ k over high. (second told).reads (LogFile k) (out k (omega (arith, c.requires.file, high))) ∙ first.above k over high;
          };
      others = search rules;
    }
