-- What opening came to, put together from its calls.
use Rattle.std.proofs.Common.{◌≡◌, ◌∙◌, ℕ, Option, None, Result, Ok, Err, sym, ap, subst}
use Rattle.std.specs.Prelude.{IfErr, IfOk, IsSome, OnOk, length}
use Rattle.tt_disk.specs.Volume.{Keeps, Files}
use Rattle.tt_disk.specs.Laws.{keeps_then_keeps}
use Rattle.tt_value.specs.declared.position.Position.{Position}
use Rattle.tt_record.specs.Entry.{length_of}
use Rattle.tt_record.specs.Place.{position_of}
use Rattle.tt_record.specs.declared.entry.Entry.TheVariants.{Mark}
use Rattle.tt_set.specs.declared.settings.Settings.{Settings}
use Rattle.tt_log.specs.declared.log.Log.{Log}
use Rattle.tt_log.specs.Walk.{log_of}
use Rattle.tt_log.specs.Log.{IsOpen, CrashLeavesForced, CrashLeavesLog, write_position_of, file_size_of}
use Rattle.tt_model.specs.Opened.{Opened}
use Rattle.tt_model.specs.Run.{opened}
use Rattle.tt_model.specs.State.{State, with_entry}
use Rattle.tt_recover.specs.declared.recovery.Recovered.{Recovered}
use Rattle.tt_recover.specs.Opening.{opening}
use Rattle.tt_recover.specs.Recovery.{IsRecovered}
use Rattle.tt_recover.specs.Replay.{AreInOrder}
use Rattle.tt_journal.specs.FileLaws.{changes_none, keeps_changes}
use Rattle.tt_journal.specs.LogTrail.{HasTrail}
use Rattle.tt_journal.specs.Journal.{Breaks, Writes}
use Rattle.tt_engine.specs.declared.engine.Engine.{Engine}
use Rattle.tt_engine.specs.declared.refusal.OpenRefusal.{OpenRefusal}
use Rattle.tt_engine.specs.declared.refusal.OpenRefusal.TheVariants.{NoDatabase, Damaged, LogOut, Failed, NoMemory}
use Rattle.tt_engine.specs.Prefixes.{IsStill, LeavesOpening}
use Rattle.tt_engine.specs.Starts.{IsRefusedSo, IsStarted, Opens, UnlessFailed, are_there, begun_over}
use Rattle.tt_engine.proofs.OnwardLemmas.{begun_quiet}
use Rattle.tt_engine.proofs.StartLemmas.{IsReady, begun_opens, begun_prefix, found_not_damaged, mark_prefix, mark_ready, mark_stands, marked_prefix, on_ok, on_refusal, still_leaves}
use Rattle.tt_disk.specs.declared.volume.Volume.{Ghosts}

unless_failed : (e : OpenRefusal) (P : Type 0) → P → UnlessFailed e P
unless_failed NoDatabase P p = p
unless_failed (Damaged damage) P p = p
unless_failed LogOut P p = p
unless_failed Failed P p = tt
unless_failed NoMemory P p = p

-- The log files were only read.
pub opens_refused : {V : Type 0} (g : Ghosts V) (settings : Settings) (old new : V) (e : OpenRefusal)
    → Keeps (g.now old) (g.now new) (g.may old) (g.may new) → IsRefusedSo settings (g.now old) e → Opens g settings old new (Err e)
opens_refused g settings old new e keeps refused = record {
  ready = tt;
  started = tt;
  refused = refused;
  crash = λ leaves found is.
      begun_opens settings (g.now old) found (g.may new) is
      (begun_prefix settings (g.now old) found (g.may new) is (still_leaves (g.now old) (g.now new) (g.may old) (g.may new) keeps (log_of 0 (g.now old)) leaves));
  kept = λ leaves. tt;
  still = λ found is still. tt;
  unchanged = unless_failed e (Keeps (g.now old) (g.now new) (g.may old) (g.may new)) keeps;
  damaged = λ damage is. keeps;
  others = λ found is. keeps_changes found.end.file (g.now old) (g.now new) (g.now new) (g.may old) (g.may new) (g.may new) keeps (changes_none found.end.file (g.now new) (g.may new));
}

-- What was recovered, with the engine over it, where the log files were only read so far.
pub record IsMade {V : Type 0} (g : Ghosts V) (settings : Settings) (old mid : V) (r : Recovered) (e : Engine) : Type 0 where
  pub ready : IsReady settings (g.now old) (g.now mid) r e
  pub order : AreInOrder r.rows.items
  pub keeps : Keeps (g.now old) (g.now mid) (g.may old) (g.may mid)
  pub kept : CrashLeavesLog 0 (log_of 0 (g.now old)) (g.may old) → CrashLeavesForced r.log (g.now mid) (g.may mid)

kept_over : {V : Type 0} (g : Ghosts V) (settings : Settings) (old mid : V) (r : Recovered) (e : Engine) → IsMade g settings old mid r e
    → CrashLeavesLog 0 (log_of 0 (g.now old)) (g.may old) → CrashLeavesForced e.log (g.now mid) (g.may mid)
kept_over g settings old mid r e made leaves = subst (λ (l : Log). CrashLeavesForced l (g.now mid) (g.may mid)) (sym made.ready.over.log) (made.kept leaves)

-- The log ends where opening found, and its files are as long as is set.
place_found : {V : Type 0} (g : Ghosts V) (settings : Settings) (old mid : V) (r : Recovered) (e : Engine) → IsMade g settings old mid r e → (found : Opened) → opening (g.now old) ≡ Ok found
    → position_of (write_position_of e.log) (length_of Mark) (file_size_of e.log) ≡ position_of found.end (length_of Mark) settings.log_file_size
place_found g settings old mid r e made found is =
    let h = mark_ready settings (g.now old) (g.now mid) r e made.ready found is in
    ap (λ (p : Position). position_of p (length_of Mark) (file_size_of e.log)) h.write ∙ ap (λ (k : ℕ). position_of found.end (length_of Mark) k) h.sizes.0

-- No place is left for the Mark.
pub opens_out : {V : Type 0} (g : Ghosts V) (settings : Settings) (old mid : V) (r : Recovered) (e : Engine) → IsMade g settings old mid r e
    → position_of (write_position_of e.log) (length_of Mark) (file_size_of e.log) ≡ None → Opens g settings old mid (Err LogOut)
opens_out g settings old mid r e made none =
    let got = made.ready.recovered in
    opens_refused g settings old mid LogOut made.keeps (got.found, got.is, sym (place_found g settings old mid r e made got.found got.is) ∙ none)

-- The Mark is written.
pub opens_marked : {V : Type 0} (g : Ghosts V) (settings : Settings) (old mid new : V) (r : Recovered) (e e' : Engine) → IsMade g settings old mid r e
    → IsSome (position_of (write_position_of e.log) (length_of Mark) (file_size_of e.log)) → IsOpen e'.log (g.now new) (g.may new)
    → ((s : State) → HasTrail e.log (g.now mid) s → Writes g e.log mid s e'.log new (with_entry Mark s)) → e'.memory ≡ e.memory → Opens g settings old new (Ok e')
opens_marked g settings old mid new r e e' made place is_open writes same = record {
  ready = is_open;
  started = record {
    found = got.found;
    is = got.is;
    place = subst (λ (o : Option Position). IsSome o) (place_found g settings old mid r e made got.found got.is) place;
    stands = mark_stands settings (g.now old) (g.now mid) (g.now new) r e e' made.ready made.order got.found got.is (written got.found got.is).stands same;
  };
  refused = tt;
  crash = λ leaves found is.
      begun_opens settings (g.now old) found (g.may new) is
      (marked_prefix e'.log (g.now new) (g.may new) (g.may new) settings (g.now old) found is_open (written found is).stands ((written found is).kept (kept_over g settings old mid r e made leaves)));
  kept = λ leaves. (written got.found got.is).kept (kept_over g settings old mid r e made leaves);
  still = λ found is still.
      subst (λ v. Keeps (g.now old) (g.now v) (g.may old) (g.may v)) (sym ((written found is).quiet (begun_quiet settings (g.now old) found still))) made.keeps;
  unchanged = tt;
  damaged = λ damage is. absurd (found_not_damaged (g.now old) got.found damage got.is is);
  others = λ found is. keeps_changes found.end.file (g.now old) (g.now mid) (g.now new) (g.may old) (g.may mid) (g.may new) made.keeps (written found is).others;
}
  where
    got : IsRecovered r (g.now old) (g.now mid)
    got = made.ready.recovered

    written : (found : Opened) → opening (g.now old) ≡ Ok found → Writes g e.log mid (opened settings found (are_there (g.now old)) (λ set. None)) e'.log new (with_entry Mark (opened settings found (are_there (g.now old)) (λ set. None)))
    written found is = writes (opened settings found (are_there (g.now old)) (λ set. None)) (mark_ready settings (g.now old) (g.now mid) r e made.ready found is)

-- A call failed while the Mark was written.
pub opens_broken : {V : Type 0} (g : Ghosts V) (settings : Settings) (old mid new : V) (r : Recovered) (e : Engine) → IsMade g settings old mid r e
    → ((s : State) → HasTrail e.log (g.now mid) s → Breaks g e.log mid s new (with_entry Mark s)) → Opens g settings old new (Err Failed)
opens_broken g settings old mid new r e made breaks = record {
  ready = tt;
  started = tt;
  refused = tt;
  crash = λ leaves found is.
      begun_opens settings (g.now old) found (g.may new) is (mark_prefix settings (g.now old) found (g.may new) ((broken found is).crash (kept_over g settings old mid r e made leaves)));
  kept = λ leaves. tt;
  still = λ found is still. tt;
  unchanged = tt;
  damaged = λ damage is. absurd (found_not_damaged (g.now old) got.found damage got.is is);
  others = λ found is. keeps_changes found.end.file (g.now old) (g.now mid) (g.now new) (g.may old) (g.may mid) (g.may new) made.keeps (broken found is).others;
}
  where
    got : IsRecovered r (g.now old) (g.now mid)
    got = made.ready.recovered

    broken : (found : Opened) → opening (g.now old) ≡ Ok found → Breaks g e.log mid (opened settings found (are_there (g.now old)) (λ set. None)) new (with_entry Mark (opened settings found (are_there (g.now old)) (λ set. None)))
    broken found is = breaks (opened settings found (are_there (g.now old)) (λ set. None)) (mark_ready settings (g.now old) (g.now mid) r e made.ready found is)

-- The log files were read before they were opened.
pub opens_after : {V : Type 0} (g : Ghosts V) (settings : Settings) (old mid new : V) (result : Result Engine OpenRefusal) → Keeps (g.now old) (g.now mid) (g.may old) (g.may mid)
    → Opens g settings mid new result → Opens g settings old new result
opens_after g settings old mid new result keeps o = record {
  ready = o.ready;
  started = subst (λ (f : Files). IfOk result (λ e. IsStarted settings f e (g.now new))) same o.started;
  refused = subst (λ (f : Files). IfErr result (λ e. IsRefusedSo settings f e)) same o.refused;
  crash = λ leaves found is.
      subst (λ (f : Files). CrashLeavesLog 0 (log_of 0 f) (g.may mid) → (found : Opened) → opening f ≡ Ok found → LeavesOpening (length found.entries) (begun_over settings f found) (g.may new)) same o.crash
      (still_leaves (g.now old) (g.now mid) (g.may old) (g.may mid) keeps (log_of 0 (g.now old)) leaves) found is;
  kept = λ leaves.
      subst (λ (f : Files). CrashLeavesLog 0 (log_of 0 f) (g.may mid) → IfOk result (λ e. CrashLeavesForced e.log (g.now new) (g.may new))) same o.kept
      (still_leaves (g.now old) (g.now mid) (g.may old) (g.may mid) keeps (log_of 0 (g.now old)) leaves);
  still = λ found is still.
      on_ok result _ _ (λ k. then_keeps k)
      (subst (λ (f : Files). (found : Opened) → opening f ≡ Ok found → IsStill (begun_over settings f found) → OnOk result (Keeps (g.now mid) (g.now new) (g.may mid) (g.may new))) same o.still found is still);
  unchanged = on_refusal result _ _ (λ k. then_keeps k) o.unchanged;
  damaged = λ damage is. then_keeps (o.damaged damage (ap opening same ∙ is));
  others = λ found is. keeps_changes found.end.file (g.now old) (g.now mid) (g.now new) (g.may old) (g.may mid) (g.may new) keeps (o.others found (ap opening same ∙ is));
}
  where
    same : g.now mid ≡ g.now old
    same = λ i n. keeps.reads n i

    then_keeps : Keeps (g.now mid) (g.now new) (g.may mid) (g.may new) → Keeps (g.now old) (g.now new) (g.may old) (g.may new)
    then_keeps k = keeps_then_keeps (g.now old) (g.now mid) (g.now new) (g.may old) (g.may mid) (g.may new) keeps k
