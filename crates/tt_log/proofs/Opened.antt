-- A log that was just opened.
use Rattle.std.proofs.Common.{◌≡◌, ◌∙◌, ℕ, List, [], take, refl, sym, ap, subst}
use Rattle.std.specs.Prelude.{IsOk}
use Rattle.tt_gate.specs.GateFile.{IsReady}
use Rattle.tt_record.specs.declared.entry.Entry.{Entry}
use Rattle.tt_record.specs.Entry.{IsBody}
use Rattle.tt_record.specs.BodyLaws.{no_body}
use Rattle.tt_record.specs.Place.{position}
use Rattle.tt_log.specs.Lengths.{total}
use Rattle.tt_log.specs.declared.log.Log.{Log}
use Rattle.tt_log.specs.Walk.{log_of, no_switch}
use Rattle.tt_log.specs.Log.{IsOpen, walk_end}
use Rattle.tt_log.specs.File.{FoundEnd}
use Rattle.tt_log.proofs.Adding.{none_left}
use Rattle.tt_disk.specs.Volume.{Files, Outcomes}
use Rattle.tt_log.proofs.Walks.{Standing}

pub opened : (log : Log) (now : Files) (may : Outcomes) → IsReady log.file now may → log.file.staged ≡ 0 → log.buffered ≡ 0 → FoundEnd (log_of log.first_file now) (position log.current_file log.forced_bytes) → IsOpen log now may
opened log now may ready fresh used f =
    let none = none_left log used in
    record {
      gate = ready;
      fresh = fresh;
      body = subst (λ (l : List Entry). IsBody (take log.buffered log.buffer.items) l) (sym none) (subst (λ (k : ℕ). IsBody (take k log.buffer.items) []) (sym used) no_body);
      plain = ap no_switch none;
      long = ap total none ∙ sym used;
      whole = subst (λ (q : Standing). IsOk q) (sym f.is) refl;
      end = ap walk_end f.is ∙ f.end;
    }
