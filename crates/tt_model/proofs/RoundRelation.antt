-- A relation of states that goes through entries and forces, and through what stands beside the trail, goes through answers, rounds,
-- whole runs and their end.
use Rattle.std.proofs.Common.{◌≡◌, inl, inr, ℕ, Bool, true, false, cond, List, [], ◌∷◌, Option, Some, None, refl, sym, subst}
use Rattle.std.specs.Prelude.{◌==◌, length, Result, Ok, Err}
use Rattle.std.specs.Option.{option_or}
use Rattle.tt_value.specs.declared.refusal.Refusal.{Refusal}
use Rattle.tt_value.specs.declared.reply.Reply.{Reply}
use Rattle.tt_parse.specs.declared.command.Command.{Command}
use Rattle.tt_parse.specs.declared.command.Command.TheVariants.{Ckpt, CkptBlocking}
use Rattle.tt_record.specs.declared.entry.Entry.{Entry}
use Rattle.tt_model.specs.State.{State, Underway, live_in, with_entry, all_forced}
use Rattle.tt_model.specs.Checkpoint.{begin_checkpoint, copied, with_copies, with_all_copies, complete_where_due, completed, with_completion}
use Rattle.tt_model.specs.Step.{Step, Answers, WantsMemory, answer, line, unless_refused, checkpoint_open, no_checkpoint_number, least_open, completion_after, rolled_back}
use Rattle.tt_model.specs.Run.{Line, Run, has_position, ended_one, roll_all, ended}
use Rattle.tt_model.proofs.LineRelation.{is_checkpoint, beside, line-through, rolled-through}

-- Two states have one trail, forced as far.
pub record SameTrail (s after : State) : Type 0 where
  pub settings : after.settings ≡ s.settings
  pub found : after.found ≡ s.found
  pub entries : after.entries ≡ s.entries
  pub forced : after.forced ≡ s.forced
  pub pages : after.pages ≡ s.pages

pub same_trail : (s : State) → SameTrail s s
same_trail s = record { settings = refl; found = refl; entries = refl; forced = refl; pages = refl }

same-copied : (n : ℕ) (o : Option Underway) (s : State) → SameTrail s (copied n o s)
same-copied n None s = same_trail s
same-copied n (Some b) s = record { settings = refl; found = refl; entries = refl; forced = refl; pages = refl }

pub same-with_copies : (s : State) → SameTrail s (with_copies s)
unfolding with_copies
same-with_copies s = same-copied s.settings.ckpt_pages s.underway s

same-all_copies : (s : State) → SameTrail s (with_all_copies s)
unfolding with_all_copies
same-all_copies s = same-copied s.pages s.underway s

same-begin : (s : State) → SameTrail s (begin_checkpoint s)
unfolding begin_checkpoint
same-begin s = record { settings = refl; found = refl; entries = refl; forced = refl; pages = refl }

same-completed : (b : Underway) (s : State) → SameTrail (all_forced s) (completed b s)
unfolding completed all_forced
same-completed b s = record { settings = refl; found = refl; entries = refl; forced = refl; pages = refl }

-- A relation that goes through forces and through what stands beside the trail goes through copies and completions.
module _ (R : State → State → Type 0) (then : (s mid after : State) → R s mid → R mid after → R s after) (force : (s : State) → R s (all_forced s))
    (other : (s after : State) → SameTrail s after → R s after) where
  r-due : (b : Underway) (s : State) (c : Bool) → R s (cond c (completed b s) s)
  r-due b s true = then s (all_forced s) (completed b s) (force s) (other (all_forced s) (completed b s) (same-completed b s))
  r-due b s false = other s s (same_trail s)

  r-where : (o : Option Underway) (s : State) → R s (complete_where_due o s)
  r-where None s = other s s (same_trail s)
  r-where (Some b) s = r-due b s (length b.left == 0)

  r-completion : (s : State) → R s (with_completion s)
  unfolding with_completion
  r-completion s = r-where s.underway s

  pub completion-through : (o : Option Underway) (s : State) → R s (completion_after o s)
  completion-through None s = other s s (same_trail s)
  completion-through (Some b) s = r-completion s

-- One that goes through entries too.
module _ (R : State → State → Type 0) (then : (s mid after : State) → R s mid → R mid after → R s after) (entry : (e : Entry) (s : State) → R s (with_entry e s))
    (force : (s : State) → R s (all_forced s)) (other : (s after : State) → SameTrail s after → R s after) where
  r-same : (s : State) → R s s
  r-same s = other s s (same_trail s)

  r-aside : (own : ℕ → Option ℕ) (wish : ℕ → Bool) (sets : _) (s : State) → R s (beside own wish sets s)
  r-aside own wish sets s = other s (beside own wish sets s) (record { settings = refl; found = refl; entries = refl; forced = refl; pages = refl })

  r-reading : (reader : _) (s : State) → R s (record s { reader = reader })
  r-reading reader s = other s (record s { reader = reader }) (record { settings = refl; found = refl; entries = refl; forced = refl; pages = refl })

  r-line : (session : ℕ) (command : Command) (s : State) → is_checkpoint command ≡ false → R s ((line session command s).1)
  r-line session command s n = line-through R true r-same then entry force r-aside (λ y. r-reading) session command s n (λ y. refl)

  r-unless : (o : Option Refusal) (reply : Reply) (after s : State) → R s after → R s ((unless_refused o (reply, after) s).1)
  r-unless None reply after s g = g
  r-unless (Some r) reply after s g = r-same s

  -- ---- answers

  r-command : (session : ℕ) (command : Command) (s : State) → R s ((line session command s).1)
  unfolding line
  r-command session Ckpt s = r-unless (option_or (checkpoint_open s) (no_checkpoint_number s)) _ (begin_checkpoint s) s (other s (begin_checkpoint s) (same-begin s))
  r-command session CkptBlocking s =
      let begun : State = begin_checkpoint s in
      let whole : State = with_all_copies begun in
      r-unless (option_or (checkpoint_open s) (option_or (least_open (live_in s)) (no_checkpoint_number s))) _ (with_completion whole) s
      (then s begun (with_completion whole) (other s begun (same-begin s)) (then begun whole (with_completion whole) (other begun whole (same-all_copies begun)) (r-completion R then force other whole)))
  r-command session command s = r-line session command s refl

  r-answer : (session : ℕ) (what : Result Command Refusal) (s : State) → R s ((answer session what s).1)
  r-answer session (Ok command) s = r-command session command s
  r-answer session (Err r) s = r-same s

  r-memory : (session : ℕ) (what : Result Command Refusal) (s : State) (reply : Reply) (after : State) → WantsMemory session what s reply after → R s after
  r-memory session (Err r) s reply after w = absurd w
  r-memory session (Ok command) s reply after w = elim (w.2) [
    | inl same ↦ subst (R s) (sym same) (r-same s)
    | inr forced ↦ subst (R s) (sym (forced.1)) (force s)
  ]

  pub answers-through : (session : ℕ) (what : Result Command Refusal) (s : State) (reply : Reply) (after : State) → Answers session what s reply after → R s after
  answers-through session what s reply after (inl t) = subst (R s) (sym (t.1)) (r-answer session what s)
  answers-through session what s reply after (inr w) = r-memory session what s reply after w

  pub step-through : (s : State) (session : ℕ) (what : Result Command Refusal) (reply : Reply) (after : State) → Step s session what reply after → R s after
  step-through s session what reply after st =
      subst (R s) (sym st.is)
      (then s (with_copies s) (completion_after s.underway st.between) (other s (with_copies s) (same-with_copies s))
      (then (with_copies s) st.between (completion_after s.underway st.between) (answers-through session what (with_copies s) reply st.between st.line) (completion-through R then force other s.underway st.between)))

  -- ---- runs

  pub run-through : (lines : List Line) (replies : List Reply) (s after : State) → Run s lines replies after → R s after
  run-through [] [] s after is = subst (R s) (sym is) (r-same s)
  run-through (l ∷ ls) (r ∷ rs) s after (mid, step, rest) = then s mid after (step-through s l.session l.what r mid step) (run-through ls rs mid after rest)
  run-through [] (r ∷ rs) s after is = absurd is
  run-through (l ∷ ls) [] s after is = absurd is

  r-one : (t : ℕ) (s : State) → R s (ended_one t s)
  r-one t s =
      then s (rolled_back t s) (ended_one t s) (rolled-through R true r-same then entry force r-aside (λ y. r-reading) t s)
      (other (rolled_back t s) (ended_one t s) (record { settings = refl; found = refl; entries = refl; forced = refl; pages = refl }))

  r-next : (t : ℕ) (ts : List ℕ) (s : State) → ((x : State) → R x ((roll_all ts x).1)) → (c : Bool) → R s ((elim c as (λ x. Bool × State) [ true ↦ roll_all ts (ended_one t s) | false ↦ (false, s) ]).1)
  r-next t ts s ih true = then s (ended_one t s) ((roll_all ts (ended_one t s)).1) (r-one t s) (ih (ended_one t s))
  r-next t ts s ih false = r-same s

  r-all : (ts : List ℕ) (s : State) → R s ((roll_all ts s).1)
  r-all [] s = force s
  r-all (t ∷ ts) s = r-next t ts s (r-all ts) (has_position t s)

  pub end-through : (s : State) → R s ((ended s).1)
  unfolding ended
  end-through s =
      then s (record s { underway = None }) ((roll_all (live_in s) (record s { underway = None })).1)
      (other s (record s { underway = None }) (record { settings = refl; found = refl; entries = refl; forced = refl; pages = refl }))
      (r-all (live_in s) (record s { underway = None }))
