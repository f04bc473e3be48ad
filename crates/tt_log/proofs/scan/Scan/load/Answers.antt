use Rattle.std.proofs.Common.{◌<◌, ℕ, arith, refl, sym, subst}
use Rattle.tt_disk.specs.declared.volume.Name.TheVariants.{Log as LogFile}
use Rattle.tt_log.proofs.Walks.{Standing}
use Rattle.std.specs.Prelude.{IsOk}
use Rattle.tt_log.proofs.Reaching.{batch_is, is_refused}
use Rattle.tt_log.proofs.Scanning.{same_files, Filled, closed_ahead, switched_ahead, switched_going, filled_ahead, filled_going, load_refused}
use Rattle.tt_log.proofs.scan.Scan.load.Goals as goal

pub returns-in-Ok-Closed-clause-loads : goal.returns-in-Ok-Closed-clause-loads
returns-in-Ok-Closed-clause-loads g c =
    let s = c.args.self.now in
    record {
      body = λ is. cc;
      switched = λ is. cc;
      nothing = λ _ told. closed_ahead s (g.V.Volume.now c.args.volume.now) c.requires.begun c.requires.none
          (batch_is s.file s.gate s.offset _ c.read_batch.result c.in-Ok-Closed.field-0 (c.read_batch.ensures.exact told) c.in-Ok-Closed.is c.in-Ok-Closed.field-0-is);
      fewer = λ other. absurd (other refl);
    }

pub returns-in-Ok-Switched-clause-steps : goal.returns-in-Ok-Switched-clause-steps
returns-in-Ok-Switched-clause-steps g c =
    let s = c.args.self.now in
    let t = c.switch_file.new.self in
    let at : s.file < 999999 = rw c.in-Ok-Switched.field-0-is at c.in-Ok-Switched.ensures.within in
    let low : t.file < 1000000 = omega (arith, c.switch_file.ensures.file, at) in
    let same = λ (told : g.V.Volume.told). switched_ahead s t (g.V.Volume.now c.args.volume.now) (g.V.Volume.now c.read_batch.new.volume) c.requires.begun c.requires.none
    (batch_is s.file s.gate s.offset _ c.read_batch.result c.in-Ok-Switched.field-0 (c.read_batch.ensures.exact told) c.in-Ok-Switched.is c.in-Ok-Switched.field-0-is)
    (same_files _ _ _ _ (c.read_batch.ensures.keeps told)) c.switch_file.ensures.begun c.switch_file.ensures.at c.switch_file.ensures.offset c.switch_file.ensures.file low in
    record {
      going = λ told. switched_going t (g.V.Volume.now c.read_batch.new.volume) c.switch_file.ensures.begun c.switch_file.ensures.at c.switch_file.ensures.offset c.switch_file.ensures.gate
          (subst (λ (r : Standing). IsOk r) (sym (same told)) (c.requires.going told).whole);
      same = same;
      from = c.switch_file.ensures.from;
      file = low;
      keeps = c.read_batch.ensures.keeps;
    }

pub returns-in-Ok-Entries-clause-steps : goal.returns-in-Ok-Entries-clause-steps
returns-in-Ok-Entries-clause-steps g c =
    let s = c.args.self.now in
    let t = c.fill.new.self in
    let body = c.in-Ok-Entries.body.items in
    let now = g.V.Volume.now c.args.volume.now in
    let f : Filled s t body = record { file = c.fill.ensures.file; begun = c.fill.ensures.begun; gate = c.fill.ensures.gate; offset = c.fill.ensures.offset; body_is = c.fill.ensures.body; at = c.fill.ensures.at } in
    let plain = λ (told : g.V.Volume.told). batch_is s.file s.gate s.offset (now (LogFile s.file)) c.read_batch.result c.in-Ok-Entries.field-0 (c.read_batch.ensures.exact told) c.in-Ok-Entries.is c.in-Ok-Entries.field-0-is in
    let files = λ (told : g.V.Volume.told). same_files _ _ _ _ (c.read_batch.ensures.keeps told) in
    record {
      going = λ told. filled_going s t now _ body c.requires.begun c.requires.none (plain told) (files told) f (c.requires.going told);
      same = λ told. filled_ahead s t now _ body c.requires.begun c.requires.none (plain told) (files told) f;
      from = c.fill.ensures.from;
      file = subst (λ (k : ℕ). k < 1000000) (sym c.fill.ensures.file) c.requires.file;
      keeps = c.read_batch.ensures.keeps;
    }

pub returns-in-Err-clause-refused : goal.returns-in-Err-clause-refused
returns-in-Err-clause-refused g c told =
    let s = c.args.self.now in
    load_refused s (g.V.Volume.now c.args.volume.now) c.in-Err.refusal c.requires.begun c.requires.none (c.requires.going told)
    (is_refused s.file s.gate s.offset _ c.read_batch.result c.in-Err.refusal (c.read_batch.ensures.exact told) c.in-Err.is)
