-- The entries of a run lie end to end, and its log ends no earlier after each round.
use Rattle.std.proofs.Common.{◌≡◌, ◌≤◌, ◌+◌, inl, inr, ℕ, Bool, true, false, nat_le, [], ◌∷◌, ◌++◌, if◌then◌else◌, refl, sym, ap₂, subst, arith, le_refl}
use Rattle.tt_value.specs.declared.position.Position.{Position}
use Rattle.tt_record.specs.declared.entry.Entry.{Entry}
use Rattle.tt_record.specs.declared.entry.Entry.TheVariants.{Mark}
use Rattle.tt_record.specs.Entry.{length_of}
use Rattle.tt_record.specs.Place.{end_of, next_position, position}
use Rattle.tt_set.specs.declared.settings.Settings.{Settings}
use Rattle.tt_model.specs.Trail.{Placed, Trail, position_le, trail_end}
use Rattle.tt_model.specs.Opened.{Opened}
use Rattle.tt_model.specs.State.{State, placed, write_position, with_entry, all_forced}
use Rattle.tt_model.specs.Run.{begun, opened}
use Rattle.tt_model.specs.StepLaws.{StandsBehind, LieEndToEnd, NewLieEndToEnd, EntriesLieEndToEnd, StepsGoOn}
use Rattle.tt_model.proofs.AppendLemmas.{write_position-with_entry}
use Rattle.tt_model.proofs.FileLemmas.{log_files_kept}
use Rattle.tt_model.proofs.OrderLemmas.{le_self, le_trans, lt-le}
use Rattle.tt_model.proofs.PositionLemmas.{next_place-onward}
use Rattle.tt_model.proofs.ReaderLemmas.{own_end}
use Rattle.tt_model.proofs.RoundRelation.{SameTrail, step-through, run-through, end-through}
use Rattle.tt_model.proofs.RunLemmas.{trails_go_on}

-- ---- end to end

stands : (fits : Bool) (end : Position) → StandsBehind end (if fits then end else position (end.file + 1) 0)
stands true end = inl refl
stands false end = inr refl

next_stands : (end : Position) (n size : ℕ) → StandsBehind end (next_position end n size)
next_stands end n size = stands (nat_le (end.offset + n) size) end

abbrev KeepsEndToEnd : State → State → Type 0
KeepsEndToEnd s after = NewLieEndToEnd s → NewLieEndToEnd after

keeps_then : (s mid after : State) → KeepsEndToEnd s mid → KeepsEndToEnd mid after → KeepsEndToEnd s after
keeps_then s mid after a b h = b (a h)

keeps_entry : (e : Entry) (s : State) → KeepsEndToEnd s (with_entry e s)
unfolding with_entry
keeps_entry e s h = (next_stands (write_position s) (length_of e) s.settings.log_file_size, h)

keeps_force : (s : State) → KeepsEndToEnd s (all_forced s)
unfolding all_forced
keeps_force s h = h

keeps_other : (s after : State) → SameTrail s after → KeepsEndToEnd s after
keeps_other s after x h = subst (λ (f : Opened). LieEndToEnd f.end after.entries) (sym x.found) (subst (LieEndToEnd s.found.end) (sym x.entries) h)

lies_so : (opened : Position) (newer older : Trail) (e : Placed) → LieEndToEnd opened (newer ++ e ∷ older) → StandsBehind (trail_end opened older) e.at
lies_so opened [] older e h = h.0
lies_so opened (x ∷ newer) older e h = lies_so opened newer older e (h.1)

begun_so : (settings : Settings) (found : Opened) (files : ℕ → Bool) (sets : _) → NewLieEndToEnd (begun settings found files sets)
unfolding begun
begun_so settings found files sets = keeps_entry Mark (opened settings found files sets) tt

pub entries_lie : EntriesLieEndToEnd
entries_lie = record {
  each = λ s newer older e h is. lies_so s.found.end newer older e (subst (LieEndToEnd s.found.end) is h);
  begun = begun_so;
  step = λ s session what reply after h st. step-through KeepsEndToEnd keeps_then keeps_entry keeps_force keeps_other s session what reply after st h;
  run = λ lines replies s after h is. run-through KeepsEndToEnd keeps_then keeps_entry keeps_force keeps_other lines replies s after is h;
  end = λ s h. end-through KeepsEndToEnd keeps_then keeps_entry keeps_force keeps_other s h;
}

-- ---- the end of the log

pub record EndsLater (s after : State) : Type 0 where
  pub file : (write_position s).file ≤ (write_position after).file
  pub end : position_le (write_position s) (write_position after) ≡ true

later_then : (s mid after : State) → EndsLater s mid → EndsLater mid after → EndsLater s after
later_then s mid after a b = record {
  file = let one : (write_position s).file ≤ (write_position mid).file = a.file in
      let two : (write_position mid).file ≤ (write_position after).file = b.file in
      omega (arith, one, two);
  end = le_trans (write_position s) (write_position mid) (write_position after) a.end b.end;
}

later_same : (s after : State) → write_position after ≡ write_position s → EndsLater s after
later_same s after is = record {
  file = subst (λ (p : Position). (write_position s).file ≤ p.file) (sym is) (le_refl ((write_position s).file));
  end = subst (λ (p : Position). position_le (write_position s) p ≡ true) (sym is) (le_self (write_position s));
}

later_other : (s after : State) → SameTrail s after → EndsLater s after
later_other s after x = later_same s after (ap₂ (λ (f : Opened) (es : Trail). trail_end f.end es) x.found x.entries)

later_force : (s : State) → EndsLater s (all_forced s)
unfolding all_forced
later_force s = later_same s (all_forced s) refl

no_less : (fits : Bool) (end : Position) → end.file ≤ (let p : Position = if fits then end else position (end.file + 1) 0 in p).file
no_less true end = le_refl end.file
no_less false end = omega arith

later_entry : (e : Entry) (s : State) → EndsLater s (with_entry e s)
later_entry e s =
    let is : write_position (with_entry e s) ≡ end_of ((placed e s).at) (length_of e) = write_position-with_entry e s in
    record {
      file = subst (λ (p : Position). (write_position s).file ≤ p.file) (sym is) (no_less (nat_le ((write_position s).offset + length_of e) s.settings.log_file_size) (write_position s));
      end = subst (λ (p : Position). position_le (write_position s) p ≡ true) (sym is)
          (le_trans (write_position s) ((placed e s).at) (end_of ((placed e s).at) (length_of e)) (next_place-onward (write_position s) (length_of e) s.settings.log_file_size)
          (lt-le ((placed e s).at) (end_of ((placed e s).at) (length_of e)) (own_end (placed e s))));
    }

pub steps_go_on : StepsGoOn
steps_go_on = record {
  step = λ s session what reply after st.
      let end : EndsLater s after = step-through EndsLater later_then later_entry later_force later_other s session what reply after st in
      record { on = trails_go_on.step s session what reply after st; file = end.file; end = end.end };
  run = λ lines replies s after is.
      let end : EndsLater s after = run-through EndsLater later_then later_entry later_force later_other lines replies s after is in
      record { on = trails_go_on.run lines replies s after is; file = end.file; end = end.end };
  end = λ s.
      let end = end-through EndsLater later_then later_entry later_force later_other s in
      record { on = trails_go_on.end s; file = end.file; end = end.end };
  files = log_files_kept.between;
}
