use Rattle.std.proofs.Common.{◌≡◌, ◌+◌, inl, inr, ℕ, rules, sym, ap, ◌∙◌, subst, arith}
use Rattle.std.specs.Prelude.{IsOk}
use Rattle.tt_disk.specs.Volume.{IsSettled, OnlyAt}
use Rattle.tt_disk.specs.declared.volume.Name.TheVariants.{Log as LogFile}
use Rattle.tt_record.specs.BodyLaws.{body_is_read}
use Rattle.tt_log.specs.Walk.{log_of, switched}
use Rattle.tt_log.specs.Log.{CrashLeavesAll, CrashLeavesForced, OnlyTwo, walk_end}
use Rattle.tt_log.proofs.Forcing.{Written, written, done, found_open, around}
use Rattle.tt_log.proofs.Switching.{Moved, NextMade, made_now, around_made, header_made, switched_left, switched_now, switched_kept, switched_end, ready_same, apart_next, only_two}
use Rattle.tt_log.proofs.Trails.{leaves_all}
use Rattle.tt_log.proofs.log.Log.switch_file.Given.{Over}
use Rattle.tt_log.proofs.log.Log.switch_file.Goals.{After-make, After-append_batch}
use Rattle.tt_log.proofs.log.Log.switch_file.Goals as goal

-- once all before the change are forced, and the next file is made
module _ (g : Over) (c : After-make g) (told : g.V.Volume.told) where
  moved : Moved c.args.self.now c.write_out.new.self (g.V.Volume.now c.args.volume.now) (g.V.Volume.now c.make.new.volume) (g.V.Volume.may c.args.volume.now) (g.V.Volume.may c.make.new.volume)
  moved =
      let log = c.write_out.new.self in
      let leaves = c.in_ok-write_out.ensures.leaves in
      let f = found_open log _ _ (leaves.ready told) in
      let only = c.make.ensures.others told in
      let same = made_now log.first_file log.current_file log.forced_bytes _ _ _ _ f only in
      record {
        found = (record { found = f.found; is = same ∙ f.is; at = f.at; offset = f.offset });
        same = same ∙ ap (λ k. log_of k (g.V.Volume.now c.write_out.new.volume)) c.in_ok-write_out.ensures.forced.forced.sizes.0 ∙ c.in_ok-write_out.ensures.done told;
        around = λ kept. around_made log.first_file log.current_file log.forced_bytes _ _ _ _ f
            (around log.first_file log.current_file log.forced_bytes _ _ f (g.met.V.Volume.reads told c.write_out.new.volume) (leaves.kept told kept)) only (g.met.V.Volume.reads told c.make.new.volume);
      }

  all_made : CrashLeavesForced c.args.self.now (g.V.Volume.now c.args.volume.now) (g.V.Volume.may c.args.volume.now) → CrashLeavesAll c.args.self.now (g.V.Volume.now c.args.volume.now) (g.V.Volume.may c.make.new.volume)
  all_made kept = leaves_all c.args.self.now _ _ (g.V.Volume.may c.make.new.volume) c.write_out.new.self.first_file _ c.in_ok-write_out.ensures.forced.forced.sizes.0 (c.requires.open told) moved.same (λ files left. inl ((moved.around kept).kept files left))

-- once the Switch is appended
module _ (g : Over) (c : After-append_batch g) (told : g.V.Volume.told)
    (r : Moved c.args.self.now c.write_out.new.self (g.V.Volume.now c.args.volume.now) (g.V.Volume.now c.make.new.volume) (g.V.Volume.may c.args.volume.now) (g.V.Volume.may c.make.new.volume)) where
  abbrev m : ℕ
  m = c.write_out.new.self.current_file

  batch : Written m c.switch_to-switch.result (g.V.Volume.now c.make.new.volume) (g.V.Volume.now c.append_batch.new.volume) (g.V.Volume.may c.make.new.volume) (g.V.Volume.may c.append_batch.new.volume)
  batch = written c.write_out.new.self _ _ _ _ c.switch_to-switch.result (c.in_ok-write_out.ensures.leaves.ready told).fresh (c.append_batch.ensures.others told) (c.append_batch.ensures.crash told)

  next : NextMade c.write_out.new.self.first_file m (g.V.Volume.now c.make.new.volume) (g.V.Volume.may c.make.new.volume)
  next = record {
    settled = c.in_ok-file.ensures.settled told;
    reads = g.met.V.Volume.reads told c.make.new.volume (LogFile (m + 1));
    empty = header_made (m + 1) _ _ (c.in_ok-file.ensures.done told) c.header.ensures;
    below = omega (arith, c.requires.next, c.in_ok-write_out.ensures.forced.forced.current);
    low = c.write_out.new.self.ordered;
  }

  all_appended : CrashLeavesForced c.args.self.now (g.V.Volume.now c.args.volume.now) (g.V.Volume.may c.args.volume.now) → CrashLeavesAll c.args.self.now (g.V.Volume.now c.args.volume.now) (g.V.Volume.may c.append_batch.new.volume)
  all_appended kept = leaves_all c.args.self.now _ _ (g.V.Volume.may c.append_batch.new.volume) c.write_out.new.self.first_file _ c.in_ok-write_out.ensures.forced.forced.sizes.0 (c.requires.open told) r.same
      (switched_left c.write_out.new.self.first_file m c.write_out.new.self.forced_bytes c.switch_to-switch.result _ _ _ _ (r.around kept) next batch (body_is_read _ _ c.switch_to-switch.ensures.body))

  two : OnlyTwo (LogFile c.args.self.now.current_file) (LogFile (c.args.self.now.current_file + 1)) (g.V.Volume.now c.args.volume.now) (g.V.Volume.now c.append_batch.new.volume) (g.V.Volume.may c.args.volume.now) (g.V.Volume.may c.append_batch.new.volume)
  two =
      let number : m ≡ c.args.self.now.current_file = c.in_ok-write_out.ensures.forced.forced.current in
      only_two _ _ (LogFile m) _ _ _ _ _ _ _ _ (c.write_out.ensures.others told)
      (subst (λ (k : ℕ). OnlyAt (LogFile (k + 1)) (g.V.Volume.now c.write_out.new.volume) (g.V.Volume.now c.make.new.volume) (g.V.Volume.may c.write_out.new.volume) (g.V.Volume.may c.make.new.volume)) number (c.make.ensures.others told))
      (ap LogFile number) batch.only

pub returns-in_err-file-clause-leaves : goal.returns-in_err-file-clause-leaves
returns-in_err-file-clause-leaves g c =
    let all = all_made g (goal.at.returns-in_err-file-clause-leaves g c).After-make in
    record { ready = search rules; kept = search rules; crash = λ told kept files left. inr (all told kept files left); order = λ told. inr (all told) }

pub append_batch-requires-clause-ready : goal.append_batch-requires-clause-ready
append_batch-requires-clause-ready g c told =
    let log = c.write_out.new.self in
    let only = c.make.ensures.others told in
    let apart = apart_next log.file.name log.current_file (log.current_file + 1) log.named (λ eq. omega (arith, eq)) in
    ready_same log.file _ _ _ _ (only.reads log.file.name apart) (only.crash log.file.name apart) (c.in_ok-write_out.ensures.leaves.ready told).gate

pub returns-in_err-append_batch-clause-leaves : goal.returns-in_err-append_batch-clause-leaves
returns-in_err-append_batch-clause-leaves g c =
    let at = goal.at.returns-in_err-append_batch-clause-leaves g c in
    let all = λ (told : g.V.Volume.told). all_appended g at.After-append_batch told (moved g at.After-make told) in
    record { ready = search rules; kept = search rules; crash = λ told kept files left. inr (all told kept files left); order = λ told. inr (all told) }

pub returns-in_err-append_batch-clause-others : goal.returns-in_err-append_batch-clause-others
returns-in_err-append_batch-clause-others g c told =
    let at = goal.at.returns-in_err-append_batch-clause-others g c in
    two g at.After-append_batch told (moved g at.After-make told)

pub returns-clause-others : goal.returns-clause-others
returns-clause-others g c told =
    let at = goal.at.returns-clause-others g c in
    two g at.After-append_batch told (moved g at.After-make told)

pub returns-clause-done : goal.returns-clause-done
returns-clause-done g c told =
    let at = goal.at.returns-clause-done g c in
    let log = c.write_out.new.self in
    let r = moved g at.After-make told in
    ap (λ k. log_of k (g.V.Volume.now c.append_batch.new.volume)) (sym c.in_ok-write_out.ensures.forced.forced.sizes.0)
    ∙ switched_now log.first_file log.current_file log.forced_bytes c.switch_to-switch.result _ _ _ _ r.found (next g at.After-append_batch told r) (batch g at.After-append_batch told r) (body_is_read _ _ c.switch_to-switch.ensures.body)
    (done log (g.V.Volume.now c.make.new.volume) (g.V.Volume.now c.append_batch.new.volume) c.switch_to-switch.result (c.in_ok-write_out.ensures.leaves.ready told).fresh (c.in_ok-append_batch.ensures.done told))
    ∙ ap switched r.same

pub returns-clause-leaves : goal.returns-clause-leaves
returns-clause-leaves g c =
    let at = goal.at.returns-clause-leaves g c in
    let log = c.write_out.new.self in
    let read = body_is_read _ _ c.switch_to-switch.ensures.body in
    let r = λ (told : g.V.Volume.told). moved g at.After-make told in
    let t = λ (told : g.V.Volume.told). next g at.After-append_batch told (r told) in
    let b = λ (told : g.V.Volume.told). batch g at.After-append_batch told (r told) in
    let is = λ (told : g.V.Volume.told). done log (g.V.Volume.now c.make.new.volume) (g.V.Volume.now c.append_batch.new.volume) c.switch_to-switch.result (c.in_ok-write_out.ensures.leaves.ready told).fresh (c.in_ok-append_batch.ensures.done told) in
    let now = λ (told : g.V.Volume.told). switched_now log.first_file log.current_file log.forced_bytes c.switch_to-switch.result _ _ _ _ (r told).found (t told) (b told) read (is told) in
    let all = λ (told : g.V.Volume.told). all_appended g at.After-append_batch told (r told) in
    record {
      ready = λ told.
          let o = c.in_ok-write_out.ensures.leaves.ready told in
          let only = c.append_batch.ensures.others told in
          let apart = λ (same : c.in_ok-file.file.name ≡ log.file.name). apart_next c.in_ok-file.file.name (log.current_file + 1) log.current_file c.in_ok-file.ensures.fresh.0 (λ eq. omega (arith, eq)) (same ∙ log.named) in
          let ends = switched_end _ _ _ (r told).found in
          record {
            gate = ready_same c.in_ok-file.file _ _ _ _ (only.reads c.in_ok-file.file.name apart) (only.crash c.in_ok-file.file.name apart) (c.in_ok-file.ensures.ready told);
            fresh = c.in_ok-file.ensures.fresh.1;
            body = o.body;
            plain = o.plain;
            long = o.long;
            whole = subst (λ r. IsOk r) (sym (now told)) ends.0;
            end = ap walk_end (now told) ∙ ends.1;
          };
      kept = λ told kept. switched_kept _ _ _ c.switch_to-switch.result _ _ _ _ ((r told).around kept) (t told) (b told) read (is told)
          (subst (λ n. IsSettled n (g.V.Volume.now c.append_batch.new.volume) (g.V.Volume.may c.append_batch.new.volume)) log.named (c.in_ok-append_batch.ensures.settled told)) (now told);
      crash = λ told kept files left. inr (all told kept files left);
      order = λ told. inr (all told);
    }
