use Rattle.std.proofs.Common.{◌≡◌, ◌⊎◌, inl, inr, ◌∙◌, ◌+◌, [], Result, Err, ap, sym, arith}
use Rattle.tt_record.specs.Place.{position}
use Rattle.tt_log.specs.declared.refusal.LogRefusal.{LogRefusal}
use Rattle.tt_log.specs.declared.refusal.LogRefusal.TheVariants.{Failed, NoMemory}
use Rattle.tt_log.specs.Log.{entries_in, forced_of, first_file_of, current_file_of}
use Rattle.tt_log.specs.Opening.{started}
use Rattle.tt_log.specs.Walk.{LogContents as Read, log_of}
use Rattle.tt_model.specs.Committed.{no_cells}
use Rattle.tt_model.specs.Live.{next_number}
use Rattle.tt_model.specs.Standing.{standing}
use Rattle.tt_model.specs.Trail.{Trail}
use Rattle.tt_recover.specs.declared.recovery.Recovered.{Recovered}
use Rattle.tt_recover.specs.Opening.{newest_first, opening}
use Rattle.tt_recover.proofs.RecoveryLemmas.{begun_log, recovers, refused_opening}
use Rattle.tt_disk.specs.Volume.{Files}
use Rattle.tt_recover.proofs.recovery.recover.Goals as goal

refused_by : (files : Files) (e : LogRefusal) → (e ≡ Failed) ⊎ ((e ≡ NoMemory) ⊎ (started (position 0 0) files ≡ Err e)) → (e ≡ Failed) ⊎ ((e ≡ NoMemory) ⊎ (opening files ≡ Err e))
refused_by files e (inl failed) = inl failed
refused_by files e (inr (inl none)) = inr (inl none)
refused_by files e (inr (inr is)) = inr (inr (refused_opening files e is))

pub returns-in-Err-clause-refused : goal.returns-in-Err-clause-refused
returns-in-Err-clause-refused g c told = refused_by (g.V.Volume.now c.args.volume.now) c.in-Err.refusal (c.in-Err.ensures.refused told)

pub returns-clause-recovered : goal.returns-clause-recovered
returns-clause-recovered g c = record {
  found = λ told.
      let old = g.V.Volume.now c.args.volume.now in
      let now = g.V.Volume.now c.start_with.new.volume in
      let log = c.in-Ok.log in
      let open_log = c.in-Ok.ensures.opened.ready told in
      let found : log_of (first_file_of log) now ≡ log_of 0 old = c.in-Ok.ensures.opened.found told ∙ begun_log old in
      let read = c.in-Ok.ensures.taken told [] c.new-progress.ensures in
      let all : newest_first (entries_in (log_of 0 old)) ≡ newest_first (forced_of log now) = ap (λ (q : Result Read LogRefusal). newest_first (entries_in q)) (sym found) in
      let r : Recovered = record { log = log; rows = c.in-Ok-finish.rows; next_transaction = c.next_transaction-next_transaction.result } in
      let none : log.forced_bytes + log.buffered ≡ log.forced_bytes = omega (arith, c.in-Ok.ensures.fresh.count) in
      recovers r old now open_log.whole found
      (λ q. c.in-Ok-finish.ensures.found (newest_first (entries_in (log_of 0 old))) read q ∙ ap (λ (t : Trail). standing no_cells t q) all)
      (c.next_transaction-next_transaction.ensures.next ∙ read.next ∙ ap (next_number 1) all)
      (ap (position (current_file_of log)) none ∙ sym open_log.end)
      c.in-Ok.ensures.empty;
  ready = c.in-Ok.ensures.opened.ready;
  kept = c.in-Ok.ensures.opened.kept;
}
