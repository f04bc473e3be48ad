use Rattle.std.proofs.Common.{inl, inr, ⊎_elim, ℕ, [], List, take, refl, arith, rules, sym, ap, ◌∙◌, subst, Result}
use Rattle.std.specs.Prelude.{IsOk}
use Rattle.tt_disk.specs.Volume.{Files, IsSettled}
use Rattle.tt_record.specs.Entry.{IsBody}
use Rattle.tt_record.specs.BodyLaws.{no_body}
use Rattle.tt_record.specs.declared.entry.Entry.{Entry}
use Rattle.tt_record.specs.Place.{position}
use Rattle.tt_log.specs.Lengths.{total}
use Rattle.tt_log.specs.declared.log.Log.{Log}
use Rattle.tt_log.specs.declared.refusal.LogRefusal.{LogRefusal}
use Rattle.tt_log.specs.Walk.{LogContents, log_of, with_more, no_switch}
use Rattle.tt_log.specs.Log.{CrashLeavesForced, CrashLeavesForcedOrAll, ForcedBeforeNextFile, unforced, or_none, walk_end}
use Rattle.tt_log.proofs.Adding.{none_left}
use Rattle.tt_log.proofs.Crash.{Around}
use Rattle.tt_log.proofs.Forcing.{Batch, Written, written, done, found_open, forcing, around, more_none, more_end, no_entries, forced_now, forced_left, forced_kept}
use Rattle.tt_log.proofs.Switching.{next_untouched}
use Rattle.tt_log.proofs.Trails.{gave_all}
use Rattle.tt_log.proofs.log.Log.write_out.Given.{Over}
use Rattle.tt_log.proofs.log.Log.write_out.Goals.{After-append_batch}
use Rattle.tt_log.proofs.log.Log.write_out.Goals as goal

pub returns-then-self-eq0-clause-forced : goal.returns-then-self-eq0-clause-forced
returns-then-self-eq0-clause-forced g c = record {
  forced = record { sizes = (refl, refl, refl); current = refl; write = refl; force = c.write_position-end.ensures; waiting = none_left c.args.self.now c.if-self-eq0.true; count = c.if-self-eq0.true };
  unchanged = tt;
}

pub returns-then-self-eq0-clause-done : goal.returns-then-self-eq0-clause-done
returns-then-self-eq0-clause-done g c told =
    let log = c.args.self.now in
    let r = log_of log.first_file (g.V.Volume.now c.args.volume.now) in
    sym (ap (λ es. with_more es r) (none_left log c.if-self-eq0.true) ∙ more_none r)

-- the batch that is written
module _ (g : Over) (c : After-append_batch g) (told : g.V.Volume.told) where
  abbrev log : Log
  log = c.args.self.now

  abbrev old : Files
  old = g.V.Volume.now c.args.volume.now

  batch : Written log.current_file c.front-body.result.now old (g.V.Volume.now c.append_batch.new.volume) (g.V.Volume.may c.args.volume.now) (g.V.Volume.may c.append_batch.new.volume)
  batch = written log _ _ _ _ c.front-body.result.now (c.requires.open told).fresh (c.append_batch.ensures.others told) (c.append_batch.ensures.crash told)

  entries : Batch log.forced_bytes c.front-body.result.now (unforced log)
  entries = forcing log old _ c.front-body.result.now (c.requires.open told) (c.front-body.ensures ∙ ap (λ (l : List ℕ). take log.buffered l) c.deref.ensures.value)

  before : CrashLeavesForced log old (g.V.Volume.may c.args.volume.now) → Around log.first_file log.current_file log.forced_bytes old (g.V.Volume.may c.args.volume.now)
  before kept = around log.first_file log.current_file log.forced_bytes old _ (found_open log old _ (c.requires.open told)) (g.met.V.Volume.reads told c.args.volume.now) kept

  crash : CrashLeavesForced log old (g.V.Volume.may c.args.volume.now) → CrashLeavesForcedOrAll log old (g.V.Volume.may c.append_batch.new.volume)
  crash kept files left = ⊎_elim (λ same. inl same) (λ more. inr (gave_all log old _ _ (c.requires.open told) (inl more)))
      (forced_left log.first_file log.current_file log.forced_bytes c.front-body.result.now _ _ _ _ _ (before kept) batch entries files left)

  order : ForcedBeforeNextFile log old (g.V.Volume.now c.append_batch.new.volume) (g.V.Volume.may c.args.volume.now) (g.V.Volume.may c.append_batch.new.volume)
  order = inl (next_untouched log.current_file _ _ _ _ batch.only)

pub returns-in_err-append_batch-clause-leaves : goal.returns-in_err-append_batch-clause-leaves
returns-in_err-append_batch-clause-leaves g c =
    let a = (goal.at.returns-in_err-append_batch-clause-leaves g c).After-append_batch in
    record { ready = search rules; kept = search rules; crash = crash g a; order = order g a }

pub returns-clause-done : goal.returns-clause-done
returns-clause-done g c told =
    let a = (goal.at.returns-clause-done g c).After-append_batch in
    let o = c.requires.open told in
    forced_now _ _ _ _ _ _ _ _ _ (found_open c.args.self.now _ _ o) (batch g a told) (entries g a told) (done c.args.self.now (g.V.Volume.now c.args.volume.now) (g.V.Volume.now c.append_batch.new.volume) c.front-body.result.now o.fresh (c.in_ok-append_batch.ensures.done told))

pub returns-clause-forced : goal.returns-clause-forced
returns-clause-forced g c = record {
  forced = record { sizes = (refl, refl, refl); current = refl; write = ap (position c.args.self.now.current_file) (omega arith); force = c.write_position-end.ensures; waiting = ap or_none no_entries; count = refl };
  unchanged = tt;
}

pub returns-clause-leaves : goal.returns-clause-leaves
returns-clause-leaves g c =
    let a = (goal.at.returns-clause-leaves g c).After-append_batch in
    let log = c.args.self.now in
    let none = ap or_none no_entries in
    let is = λ (told : g.V.Volume.told). done log (g.V.Volume.now c.args.volume.now) (g.V.Volume.now c.append_batch.new.volume) c.front-body.result.now (c.requires.open told).fresh (c.in_ok-append_batch.ensures.done told) in
    let now = λ (told : g.V.Volume.told). forced_now _ _ _ _ _ _ _ _ _ (found_open log _ _ (c.requires.open told)) (batch g a told) (entries g a told) (is told) in
    record {
      ready = λ told.
          let o = c.requires.open told in
          let ends = more_end (log_of log.first_file (g.V.Volume.now c.args.volume.now)) log.current_file log.forced_bytes log.buffered (unforced log) o.whole o.end o.long in
          record {
            gate = c.in_ok-append_batch.ensures.ready told;
            fresh = c.in_ok-append_batch.ensures.fresh;
            body = subst (λ (l : List Entry). IsBody [] l) (sym none) no_body;
            plain = ap no_switch none;
            long = ap total none;
            whole = let P : Result LogContents LogRefusal → Type 0 = λ r. IsOk r in subst P (sym (now told)) ends.0;
            end = ap walk_end (now told) ∙ ends.1;
          };
      kept = λ told kept. forced_kept _ _ _ _ _ _ _ _ _ (before g a told kept) (batch g a told) (entries g a told) (is told) (subst (λ n. IsSettled n (g.V.Volume.now c.append_batch.new.volume) (g.V.Volume.may c.append_batch.new.volume)) log.named (c.in_ok-append_batch.ensures.settled told)) (now told);
      crash = crash g a;
      order = order g a;
    }
