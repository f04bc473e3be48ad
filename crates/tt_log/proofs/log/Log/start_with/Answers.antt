use Rattle.std.proofs.Common.{ap, ◌∙◌, sym, subst, refl}
use Rattle.tt_disk.specs.Volume.{File}
use Rattle.tt_disk.specs.declared.volume.Name.TheVariants.{Log as LogFile}
use Rattle.tt_gate.specs.GateFile.{IsEnd as IsGateEnd}
use Rattle.tt_gate.specs.Laws.{ready_unsynced}
use Rattle.tt_log.specs.Log.{or_none}
use Rattle.tt_log.proofs.Forcing.{no_entries}
use Rattle.tt_log.proofs.Opened.{opened}
use Rattle.tt_log.proofs.Purge.{log_above}
use Rattle.tt_log.proofs.log.Log.start_with.Goals as goal

pub returns-clause-opened : goal.returns-clause-opened
returns-clause-opened g c =
    let keeps = c.find_entries.ensures.keeps in
    let same = λ (told : g.V.Volume.told). log_above c.args.from.file (g.V.Volume.now c.args.volume.now) (g.V.Volume.now c.find_entries.new.volume) (λ j _. (keeps told).reads (LogFile j)) in
    let found = λ (told : g.V.Volume.told). same told ∙ sym (c.in-Ok.ensures.finds told).start in
    record {
      ready = λ told.
          let f = c.in-Ok.ensures.finds told in
          opened _ _ _
          (ready_unsynced c.at_end.result _ _ (c.at_end.ensures.laid _ (subst (λ (o : File). IsGateEnd o c.in-Ok.end.gate) (sym ((keeps told).reads (LogFile c.in-Ok.end.at.file))) f.closed)) c.at_end.ensures.fresh.1 c.at_end.ensures.unsynced)
          c.at_end.ensures.fresh.1 refl (record { found = f.exact.found; is = found told ∙ f.exact.is; end = f.exact.end });
      found = found;
      kept = λ told kept files left. kept files (λ n. (keeps told).crash (LogFile n) (files (LogFile n)) (left n)) ∙ sym (same told);
    }

pub returns-clause-empty : goal.returns-clause-empty
returns-clause-empty g c = ap or_none no_entries
