-- The entries of each line's works, and of the end of a run, have numbers from the one on that opening found to be the next.
use Rattle.std.proofs.Common.{◌≡◌, ◌≤◌, inl, inr, ℕ, Bool, true, nat_eq, List, [], ◌∷◌, Option, Some, None, refl, sym, ◌∙◌, subst, arith, true≢false}
use Rattle.std.proofs.lemmas.Bool.{eq-eqb, eqb-true, or_cases, or_left, or_right}
use Rattle.std.specs.List.{list_any}
use Rattle.std.specs.Prelude.{Result}
use Rattle.tt_value.specs.declared.refusal.Refusal.{Refusal}
use Rattle.tt_value.specs.declared.reply.Reply.{Reply}
use Rattle.tt_parse.specs.declared.command.Command.{Command}
use Rattle.tt_record.specs.declared.entry.Entry.{Entry}
use Rattle.tt_record.specs.declared.entry.Entry.TheVariants.{Change, Commit, Abort, Mark, Switch}
use Rattle.tt_set.specs.declared.settings.Settings.{Settings}
use Rattle.tt_model.specs.Trail.{Trail}
use Rattle.tt_model.specs.Live.{is_live, live, live_after}
use Rattle.tt_model.specs.Opened.{Opened}
use Rattle.tt_model.specs.Sets.{SetStanding}
use Rattle.tt_model.specs.State.{State, all_forced, live_in, reversals, trail, with_edit, with_entry, write_position}
use Rattle.tt_model.specs.Backups.{row_of_set, set_edit}
use Rattle.tt_model.specs.System.{deletes}
use Rattle.tt_model.specs.declared.definition.CellEdit.{CellEdit}
use Rattle.tt_model.specs.Checkpoint.{with_copies}
use Rattle.tt_model.specs.Sound.{IsSound}
use Rattle.tt_model.specs.Step.{Step}
use Rattle.tt_model.specs.Run.{begun, ended, opened}
use Rattle.tt_model.specs.WholeRuns.{Each}
use Rattle.tt_model.specs.StepLaws.{AreNumberedFrom, EachOfWorks, IsNumberedFrom, NewAreNumbered, WorksAreNumbered}
use Rattle.tt_model.specs.Works.{changes, work_of_end, works_of}
use Rattle.tt_model.proofs.NumberLemmas.{next-least}
use Rattle.tt_model.proofs.RoundEntries.{have-ended, have-same, have-step}
use Rattle.tt_model.proofs.RoundRelation.{SameTrail, same-with_copies}
use Rattle.tt_model.proofs.RunLemmas.{trails_go_on}
use Rattle.tt_model.proofs.SoundLemmas.{live-marked}
use Rattle.tt_model.proofs.SoundLines.{sound-with_copies}
use Rattle.tt_model.proofs.SteadyLemmas.{is_in-without, list_any-with_number}
use Rattle.tt_model.proofs.WorkEntries.{end-have, works-have}

changes-numbered : (first t : ℕ) (edits : List CellEdit) (s : State) → first ≤ t → Each (IsNumberedFrom first) (changes t edits s)
changes-numbered first t [] s l = tt
changes-numbered first t (edit ∷ edits) s l = (l, changes-numbered first t edits (with_edit t edit s) l)

-- ---- what is live

live_step : (first t : ℕ) (x : Entry) (us : List ℕ) → IsNumberedFrom first x → (list_any (nat_eq t) us ≡ true → first ≤ t) → list_any (nat_eq t) (live_after x us) ≡ true → first ≤ t
live_step first t (Change u p b a) us n ih h = elim (or_cases (nat_eq t u) (list_any (nat_eq t) us) (sym (list_any-with_number (nat_eq t) u us) ∙ h)) [
  | inl y ↦ let e : t ≡ u = eqb-true t u y in omega (arith, e, n)
  | inr y ↦ ih y
]
live_step first t (Commit u) us n ih h = ih ((is_in-without u t us h).1)
live_step first t (Abort u) us n ih h = ih ((is_in-without u t us h).1)
live_step first t Mark us n ih h = absurd (true≢false (sym h))
live_step first t (Switch f) us n ih h = ih h

pub live-numbered : (first t : ℕ) (es : Trail) → AreNumberedFrom first es → is_live t es ≡ true → first ≤ t
unfolding live
live-numbered first t [] n h = absurd (true≢false (sym h))
live-numbered first t (e ∷ es) n h = live_step first t e.entry (live es) (n.0) (live-numbered first t es (n.1)) h

own_numbered : (s : State) (session t : ℕ) → IsSound s → NewAreNumbered s → s.own session ≡ Some t → s.found.next ≤ t
own_numbered s session t sound n is = live-numbered s.found.next t s.entries n ((sound.owned).live session t is)

-- ---- works

works_numbered : (session : ℕ) (command : Command) (s : State) → IsSound s → NewAreNumbered s → EachOfWorks (IsNumberedFrom s.found.next) (works_of session command s)
works_numbered session command s sound n =
    let first : ℕ = s.found.next in
    works-have (IsNumberedFrom first) (λ t. first ≤ t) session command s (record {
      commit = λ t l. l;
      abort = λ t l. l;
      own = λ t is. own_numbered s session t sound n is;
      next = λ none. next-least first (trail s);
      may = λ t is. (sound.owned).live session t is;
      edits = λ edits t is may l. changes-numbered first t edits s l;
      reversed = λ t is. changes-numbered first t (reversals t s.entries) s (own_numbered s session t sound n is);
      row = λ set t kind is writes allowed l. changes-numbered first t (set_edit (row_of_set set s) set (write_position s) ∷ []) (all_forced s) l;
      stopped = λ set t r is l. changes-numbered first t (deletes 6 r ∷ []) s l;
    })

-- Each of some numbers is among them.
each_among : (P : ℕ → Type 0) (us : List ℕ) → ((t : ℕ) → list_any (nat_eq t) us ≡ true → P t) → Each P us
each_among P [] h = tt
each_among P (u ∷ us) h = (h u (or_left (nat_eq u u) (list_any (nat_eq u) us) (eq-eqb u u refl)), each_among P us (λ t y. h t (or_right (nat_eq t u) (list_any (nat_eq t) us) y)))

pub live-each : (P : ℕ → Type 0) (s : State) → IsSound s → ((t : ℕ) → is_live t s.entries ≡ true → P t) → Each P (live_in s)
live-each P s sound h = subst (Each P) (sym (live-marked s.entries s.found.entries (sound.entries).marked)) (each_among P (live s.entries) h)

end_numbered : (s : State) → IsSound s → NewAreNumbered s → Each (IsNumberedFrom s.found.next) (work_of_end s).entries
end_numbered s sound n =
    let first : ℕ = s.found.next in
    end-have (IsNumberedFrom first) (λ t. first ≤ t) (λ x. Unit {0}) (λ t l. l) (λ t x h l. changes-numbered first t (reversals t x.entries) x l) (λ t x h l. tt)
    (live_in s) (record s { underway = None }) tt (live-each (λ t. first ≤ t) s sound (λ t is. live-numbered first t s.entries n is))

-- ---- rounds

numbered_mark : (s : State) → NewAreNumbered s → NewAreNumbered (with_entry Mark s)
unfolding with_entry
numbered_mark s n = (tt, n)

begun_numbered : (settings : Settings) (found : Opened) (files : ℕ → Bool) (sets : ℕ → Option SetStanding) → NewAreNumbered (begun settings found files sets)
unfolding begun
begun_numbered settings found files sets = numbered_mark (opened settings found files sets) tt

-- Where opening found the same.
still_numbered : (s after : State) → after.found ≡ s.found → AreNumberedFrom s.found.next after.entries → NewAreNumbered after
still_numbered s after is n = subst (λ (f : Opened). AreNumberedFrom f.next after.entries) (sym is) n

step_numbered : (s : State) (session : ℕ) (what : Result Command Refusal) (reply : Reply) (after : State) → IsSound s → NewAreNumbered s → Step s session what reply after → NewAreNumbered after
step_numbered s session what reply after sound n st =
    let copies : State = with_copies s in
    let same : SameTrail s copies = same-with_copies s in
    let begin : NewAreNumbered copies = still_numbered s copies same.found (have-same (IsNumberedFrom s.found.next) s copies same.entries n) in
    still_numbered s after (trails_go_on.step s session what reply after st).found
    (have-step (IsNumberedFrom s.found.next) s session what reply after
    (λ command is. subst (λ (f : Opened). EachOfWorks (IsNumberedFrom f.next) (works_of session command copies)) same.found (works_numbered session command copies (sound-with_copies s sound) begin)) n st)

ended_numbered : (s : State) → IsSound s → NewAreNumbered s → NewAreNumbered ((ended s).1)
ended_numbered s sound n = still_numbered s ((ended s).1) (trails_go_on.end s).found (have-ended (IsNumberedFrom s.found.next) s (end_numbered s sound n) n)

pub works_are_numbered : WorksAreNumbered
works_are_numbered = record {
  works = works_numbered;
  end_works = end_numbered;
  begun = begun_numbered;
  step = step_numbered;
  end = ended_numbered;
  live = λ s t n is. live-numbered s.found.next t s.entries n is;
  own = own_numbered;
}
