-- The trail goes on over rounds, runs and their end.
use Rattle.std.proofs.Common.{◌≡◌, ◌++◌, ◌≤◌, length, inl, inr, ◌+◌, ◌-◌, drop, sym, subst, ap, ◌∙◌, arith, length-append, length-drop, drop-drop, ℕ, Bool, true, false, List, [], ◌∷◌, Option, Some, None, Result, refl}
use Rattle.tt_value.specs.declared.reply.Reply.{Reply}
use Rattle.tt_record.specs.declared.entry.Entry.TheVariants.{Change, Abort}
use Rattle.tt_model.specs.State.{State, trail, live_in, place_for, with_edit, with_edits, reversals}
use Rattle.tt_model.specs.declared.definition.CellEdit.{CellEdit}
use Rattle.tt_value.specs.declared.refusal.Refusal.{Refusal}
use Rattle.tt_parse.specs.declared.command.Command.{Command}
use Rattle.tt_model.specs.Checkpoint.{with_copies}
use Rattle.tt_model.specs.Step.{Step, rolled_back}
use Rattle.tt_model.specs.Run.{WasToLeave, Line, Run, has_position, ended_one, roll_all, ended}
use Rattle.tt_model.specs.Trail.{Trail, oldest}
use Rattle.tt_model.specs.Opened.{Opened}
use Rattle.tt_model.specs.Prefix.{StandsForFirst}
use Rattle.tt_model.specs.Sound.{IsSound}
use Rattle.tt_model.specs.WholeRuns.{GoesOn, TrailsGoOn, ForcedEntriesAreFound}
use Rattle.tt_model.proofs.BookmarkLines.{bookmarks_stay}
use Rattle.tt_model.proofs.GrowLemmas.{Grows, assoc, grows-same, grows-then, grows-with_entry, grows-all_forced, grows-answers, grows-beside, grows-step, grows-with_copies}

goes_on : (s after : State) → Grows s after → GoesOn s after
goes_on s after g = record { found = g.found; newer = g.newer; entries = g.entries; forced = λ h. (g.forced h).0 }

-- ---- runs

grows_run : (lines : List Line) (replies : List Reply) (s after : State) → Run s lines replies after → Grows s after
grows_run [] [] s after is = rw is (grows-same s)
grows_run (l ∷ ls) (r ∷ rs) s after (mid, step, rest) = grows-then s mid after (grows-step s l.session l.what r mid step) (grows_run ls rs mid after rest)
grows_run [] (r ∷ rs) s after is = absurd is
grows_run (l ∷ ls) [] s after is = absurd is

-- ---- the end

grows_edits : (t : ℕ) (edits : List CellEdit) (s : State) → Grows s (with_edits t edits s)
grows_edits t [] s = grows-same s
grows_edits t (edit ∷ edits) s =
    grows-then s (with_edit t edit s) (with_edits t edits (with_edit t edit s)) (grows-with_entry (Change t (place_for edit.place s) edit.before edit.after) s)
    (grows_edits t edits (with_edit t edit s))

grows_one : (t : ℕ) (s : State) → Grows s (ended_one t s)
grows_one t s =
    grows-beside s (rolled_back t s) (ended_one t s) refl refl refl
    (grows-then s (with_edits t (reversals t s.entries) s) (rolled_back t s) (grows_edits t (reversals t s.entries) s) (grows-with_entry (Abort t) (with_edits t (reversals t s.entries) s)))

grows_next : (t : ℕ) (ts : List ℕ) (s : State) → ((x : State) → Grows x ((roll_all ts x).1)) → (c : Bool) → Grows s ((elim c as (λ x. Bool × State) [ true ↦ roll_all ts (ended_one t s) | false ↦ (false, s) ]).1)
grows_next t ts s ih true = grows-then s (ended_one t s) ((roll_all ts (ended_one t s)).1) (grows_one t s) (ih (ended_one t s))
grows_next t ts s ih false = grows-same s

grows_all : (ts : List ℕ) (s : State) → Grows s ((roll_all ts s).1)
grows_all [] s = grows-all_forced s
grows_all (t ∷ ts) s = grows_next t ts s (grows_all ts) (has_position t s)

grows_end : (s : State) → Grows s ((ended s).1)
unfolding ended
grows_end s =
    grows-then s (record s { underway = None }) ((roll_all (live_in s) (record s { underway = None })).1) (grows-beside s s (record s { underway = None }) refl refl refl (grows-same s))
    (grows_all (live_in s) (record s { underway = None }))

pub trails_go_on : TrailsGoOn
trails_go_on = record {
  step = λ s session what reply after st. goes_on s after (grows-step s session what reply after st);
  run = λ lines replies s after is. goes_on s after (grows_run lines replies s after is);
  end = λ s. goes_on s ((ended s).1) (grows_end s);
}

-- ---- what is forced is found

drop_newer : (newer older : Trail) → drop (length newer) (newer ++ older) ≡ older
drop_newer [] older = refl
drop_newer (e ∷ newer) older = drop_newer newer older

oldest_behind : (k : ℕ) (newer older : Trail) → k ≤ length older → oldest k (newer ++ older) ≡ oldest k older
oldest_behind k newer older few =
    let count : length (newer ++ older) ≡ length newer + length older = length-append newer older in
    let e : length (newer ++ older) - k ≡ length newer + (length older - k) = omega (arith, count, few) in
    ap (λ m. drop m (newer ++ older)) e
    ∙ (sym (drop-drop (length older - k) (length newer) (newer ++ older))
    ∙ ap (drop (length older - k)) (drop_newer newer older))

oldest_twice : (k n : ℕ) (xs : Trail) → k ≤ n → n ≤ length xs → oldest k (oldest n xs) ≡ oldest k xs
oldest_twice k n xs fewer few =
    let count : length (drop (length xs - n) xs) ≡ length xs - (length xs - n) = length-drop (length xs - n) xs in
    let e : (length xs - n) + (length (drop (length xs - n) xs) - k) ≡ length xs - k = omega (arith, count, fewer, few) in
    drop-drop (length (drop (length xs - n) xs) - k) (length xs - n) xs ∙ ap (λ m. drop m xs) e

same_goes_on : (s : State) → GoesOn s s
same_goes_on s = goes_on s s (grows-same s)

last_goes_on : (end : State → State) (rest : List Line) (given : Option Reply) (s last : State) (least : ℕ) → ((x : State) → GoesOn x (end x)) → WasToLeave end rest given s last least → GoesOn s last
last_goes_on end rest given s last least on (inl is) = subst (GoesOn s) (sym (is.0)) (same_goes_on s)
last_goes_on end [] given s last least on (inr (inl stopped)) = absurd stopped
last_goes_on end (l ∷ rest) None s last least on (inr (inl ((reply, step), is))) = goes_on s last (grows-step s l.session l.what reply last step)
last_goes_on end (l ∷ rest) (Some reply) s last least on (inr (inl (step, is))) = goes_on s last (grows-step s l.session l.what reply last step)
last_goes_on end rest given s last least on (inr (inr is)) = subst (GoesOn s) (sym (is.2)) (on s)

-- no less is forced behind a line than before it
between_forced : (s : State) (session : ℕ) (what : Result Command Refusal) (reply : Reply) (last : State) → s.forced ≤ length (trail s) → (round : Step s session what reply last) → s.forced ≤ (round.between).forced
between_forced s session what reply last few round =
    let g : Grows s round.between = grows-then s (with_copies s) round.between (grows-with_copies s) (grows-answers session what (with_copies s) reply round.between round.line) in
    (g.forced few).0

-- at least that is found
least_forced : (end : State → State) (rest : List Line) (given : Option Reply) (s last : State) (least : ℕ) → s.forced ≤ length (trail s) → WasToLeave end rest given s last least → s.forced ≤ least
least_forced end rest given s last least few (inl is) = omega (arith, is.2)
least_forced end [] given s last least few (inr (inl stopped)) = absurd stopped
least_forced end (l ∷ rest) None s last least few (inr (inl (round, is))) = omega (arith, is)
least_forced end (l ∷ rest) (Some reply) s last least few (inr (inl (round, is))) = omega (arith, is, between_forced s l.session l.what reply last few round)
least_forced end rest given s last least few (inr (inr is)) = omega (arith, is.3)

-- the trail of a state that goes on has the former one behind its newer entries
trail_behind : (s last : State) (g : GoesOn s last) → trail last ≡ g.newer ++ trail s
trail_behind s last g =
    ap (λ (es : Trail). es ++ last.found.entries) g.entries
    ∙ (ap (λ (f : Opened). (g.newer ++ s.entries) ++ f.entries) g.found
    ∙ assoc g.newer s.entries s.found.entries)

pub forced_entries_are_found : ForcedEntriesAreFound
forced_entries_are_found end begin lines replies rest given f run on sound readers sessions =
    let s : State = run.state in
    let last : State = run.last in
    let g : GoesOn s last = last_goes_on end rest given s last run.least on run.act in
    let whole : IsSound s = (bookmarks_stay.run lines replies begin s sessions sound readers run.run).0 in
    let few : s.forced ≤ length (trail s) = (whole.entries).forced_most in
    let n : ℕ = run.found.0 in
    let least : s.forced ≤ run.least = least_forced end rest given s last run.least few run.act in
    let first : StandsForFirst n last f = run.found.2 in (
      n,
      first,
      least,
      run.found.1,
      oldest_twice s.forced n (trail last) (omega (arith, least, run.found.1)) first.most
          ∙ (ap (oldest s.forced) (trail_behind s last g) ∙ oldest_behind s.forced g.newer (trail s) few),
    )
