use Rattle.std.proofs.Common.{◌≡◌, ◌∙◌, None, inl, inr, refl, subst, sym}
use Rattle.tt_model.specs.Opened.{Opened}
use Rattle.tt_engine.specs.OpeningLaws.{database_opens, settled_reads}
use Rattle.tt_engine.specs.Starts.{IsRefusedSo}
use Rattle.tt_engine.specs.declared.refusal.OpenRefusal.{OpenRefusal}
use Rattle.tt_run.specs.Openings.{mark_place}
use Rattle.tt_run.proofs.OpenLemmas.{failed_volume, found_not_refused, not_before_lines, not_out, opened_out, refused_log, same_found, wanted_memory}
use Rattle.tt_run.proofs.TopLemmas.{lines_ran}
use Rattle.tt_run.proofs.top_call.run_script.Goals as goal

pub returns-in-Ok-clause-ran : goal.returns-in-Ok-clause-ran
returns-in-Ok-clause-ran g c = λ told.
    lines_ran g.S.Source g.K.Sink g.L.Volume c.args.settings.now c.args.devices.now c.do_script.new.devices c.in-Ok.engine c.start.new.logs c.do_script.result c.status.result told (c.in-Ok.ensures.opens told) c.start.ensures.since
    c.do_script.ensures.ran c.do_script.ensures.ends c.status.ensures

pub returns-in-Ok-clause-refused : goal.returns-in-Ok-clause-refused
returns-in-Ok-clause-refused g c = λ refusal told is. let started = (c.in-Ok.ensures.opens told).started in absurd (found_not_refused (g.L.Volume.now c.args.devices.now.logs) started.found refusal started.is is)

pub returns-in-Ok-clause-unbegun : goal.returns-in-Ok-clause-unbegun
returns-in-Ok-clause-unbegun g c = λ before. absurd (not_before_lines c.do_script.result c.do_script.ensures.ends (rw (sym c.status.ensures) before))

pub returns-in-Ok-clause-no_place : goal.returns-in-Ok-clause-no_place
returns-in-Ok-clause-no_place g c = λ out. absurd (not_out c.do_script.result c.do_script.ensures.ends (sym c.status.ensures ∙ out))

pub returns-in-Err-LogOut-clause-ran : goal.returns-in-Err-LogOut-clause-ran
returns-in-Err-LogOut-clause-ran g c = λ told.
    let (other, opens, none) = subst (λ (e : OpenRefusal). IsRefusedSo c.args.settings.now (g.L.Volume.now c.args.devices.now.logs) e) c.in-Err-LogOut.field-0-is ((c.in-Err-LogOut.ensures.opens told).refused) in
    record {
      opened = opened_out c.args.settings.now (g.L.Volume.now c.args.devices.now.logs) other opens none;
      ran = λ found is. inl (subst (λ (f : Opened). mark_place c.args.settings.now f ≡ None) (same_found (g.L.Volume.now c.args.devices.now.logs) other found opens is) none);
    }

pub returns-in-Err-Failed-clause-ran : goal.returns-in-Err-Failed-clause-ran
returns-in-Err-Failed-clause-ran g c = λ told. record {
  opened = failed_volume c.args.settings.now _;
  ran = λ found is. inl (record {
    script = refl;
    sink = refl;
    others = (c.start.ensures.opens told).others found (database_opens (g.L.Volume.now c.args.devices.now.logs) found is);
    crash = λ settled. (c.start.ensures.opens told).crash (settled_reads (g.L.Volume.now c.args.devices.now.logs) (g.L.Volume.may c.args.devices.now.logs) settled) found (database_opens (g.L.Volume.now c.args.devices.now.logs) found is);
  });
}

pub returns-in-Err-Failed-clause-refused : goal.returns-in-Err-Failed-clause-refused
returns-in-Err-Failed-clause-refused g c = λ refusal told is.
    let damaged = refused_log (g.L.Volume.now c.args.devices.now.logs) refusal is in
    record { script = refl; sink = refl; logs = λ known. (c.start.ensures.opens known).damaged damaged.refusal damaged.is }
