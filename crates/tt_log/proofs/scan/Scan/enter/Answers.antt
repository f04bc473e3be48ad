use Rattle.std.proofs.Common.{◌≡◌, refl, sym, subst, true, false}
use Rattle.std.specs.Prelude.{IsOk}
use Rattle.tt_disk.specs.declared.volume.Name.TheVariants.{Log as LogFile}
use Rattle.tt_log.proofs.Walks.{Standing}
use Rattle.tt_disk.specs.Volume.{Files}
use Rattle.tt_log.specs.Batch.{IsHeaded}
use Rattle.tt_log.specs.Scan.{ahead}
use Rattle.tt_log.proofs.Scanning.{same_files, entered, header_good}
use Rattle.tt_log.proofs.scan.Scan.enter.Goals as goal

pub returns-in-Ok-clause-steps : goal.returns-in-Ok-clause-steps
unfolding ahead
returns-in-Ok-clause-steps g c =
    let same = λ (told : g.V.Volume.told). same_files _ _ _ _ (c.check_header.ensures.keeps told) in
    let stays = λ (told : g.V.Volume.told). entered c.args.self.now (g.V.Volume.now c.args.volume.now) (g.V.Volume.now c.check_header.new.volume) c.if-self.false (same told) (c.requires.going told) (c.in-Ok.ensures.right told) in
    record {
      going = λ told. record {
        headed = λ _. subst (λ (h : Files). IsHeaded c.args.self.now.file (h (LogFile c.args.self.now.file))) (sym (same told)) (c.in-Ok.ensures.right told);
        unread = λ is. absurd (let bad : true ≡ false = is in cc);
        body = (c.requires.going told).body;
        long = (c.requires.going told).long;
        whole = subst (λ (r : Standing). IsOk r) (sym (stays told)) (c.requires.going told).whole;
      };
      same = stays;
      from = refl;
      file = c.requires.file;
      keeps = c.check_header.ensures.keeps;
    }

pub returns-in-Err-clause-refused : goal.returns-in-Err-clause-refused
returns-in-Err-clause-refused g c told = header_good c.args.self.now (g.V.Volume.now c.args.volume.now) c.in-Err.refusal c.if-self.false (c.requires.going told) (c.in-Err.ensures.refused told)
