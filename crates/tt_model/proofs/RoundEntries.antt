-- A property of all new entries, and of those of a line's works, is kept by its round; and so by the end of a run.
use Rattle.std.proofs.Common.{◌≡◌, inl, inr, ℕ, Option, refl, sym, ap, ◌∙◌, subst}
use Rattle.std.specs.Prelude.{Result, Ok, Err}
use Rattle.tt_value.specs.declared.refusal.Refusal.{Refusal}
use Rattle.tt_value.specs.declared.reply.Reply.{Reply}
use Rattle.tt_parse.specs.declared.command.Command.{Command}
use Rattle.tt_parse.specs.declared.command.Command.TheVariants.{CkptBlocking}
use Rattle.tt_record.specs.declared.entry.Entry.{Entry}
use Rattle.tt_model.specs.Trail.{Placed}
use Rattle.tt_model.specs.State.{State, Underway, all_forced}
use Rattle.tt_model.specs.Checkpoint.{with_copies}
use Rattle.tt_model.specs.Step.{Step, Answers, WantsMemory, answer, line, completion_after}
use Rattle.tt_model.specs.Run.{ended}
use Rattle.tt_model.specs.WholeRuns.{Each}
use Rattle.tt_model.specs.StepLaws.{EachOfWorks}
use Rattle.tt_model.specs.Works.{all_performed, performed, work_of_end, works_of}
use Rattle.tt_model.proofs.RoundRelation.{same-with_copies, completion-through}
use Rattle.tt_model.proofs.WorkEntries.{NewHave, have-all, have-performed}
use Rattle.tt_model.proofs.WorkLemmas.{lines_leave}

-- Each line has the entries of its works.
pub entries-line : (session : ℕ) (command : Command) (s : State) → ((line session command s).1).entries ≡ (all_performed (works_of session command s) s).entries
entries-line session CkptBlocking s = (lines_leave.blocking session s).entries
entries-line session command s = (lines_leave.each session command s refl).entries

abbrev pub SameEntries : State → State → Type 0
SameEntries s after = after.entries ≡ s.entries

same_forced : (s : State) → SameEntries s (all_forced s)
unfolding all_forced
same_forced s = refl

pub entries-completion : (o : Option Underway) (s : State) → SameEntries s (completion_after o s)
entries-completion o s = completion-through SameEntries (λ a b c x y. y ∙ x) same_forced (λ a b x. x.entries) o s

-- A property of the new entries is one of states that have the same.
pub have-same : (P : Entry → Type 0) (s after : State) → after.entries ≡ s.entries → NewHave P s → NewHave P after
have-same P s after is h = subst (Each (λ (e : Placed). P e.entry)) (sym is) h

have-answer : (P : Entry → Type 0) (session : ℕ) (what : Result Command Refusal) (s : State) → ((command : Command) → what ≡ Ok command → EachOfWorks P (works_of session command s)) →
    NewHave P s → NewHave P ((answer session what s).1)
have-answer P session (Ok command) s works h =
    have-same P (all_performed (works_of session command s) s) ((line session command s).1) (entries-line session command s) (have-all P (works_of session command s) s (works command refl) h)
have-answer P session (Err r) s works h = h

have-memory : (P : Entry → Type 0) (session : ℕ) (what : Result Command Refusal) (s : State) (reply : Reply) (after : State) → NewHave P s → WantsMemory session what s reply after → NewHave P after
have-memory P session (Err r) s reply after h w = absurd w
have-memory P session (Ok command) s reply after h w = elim (w.2) [
  | inl same ↦ subst (NewHave P) (sym same) h
  | inr forced ↦ have-same P s after (ap (λ (x : State). x.entries) (forced.1) ∙ same_forced s) h
]

pub have-answers : (P : Entry → Type 0) (session : ℕ) (what : Result Command Refusal) (s : State) (reply : Reply) (after : State) →
    ((command : Command) → what ≡ Ok command → EachOfWorks P (works_of session command s)) → NewHave P s → Answers session what s reply after → NewHave P after
have-answers P session what s reply after works h (inl t) = subst (NewHave P) (sym (t.1)) (have-answer P session what s works h)
have-answers P session what s reply after works h (inr w) = have-memory P session what s reply after h w

pub have-step : (P : Entry → Type 0) (s : State) (session : ℕ) (what : Result Command Refusal) (reply : Reply) (after : State) →
    ((command : Command) → what ≡ Ok command → EachOfWorks P (works_of session command (with_copies s))) → NewHave P s → Step s session what reply after → NewHave P after
have-step P s session what reply after works h st =
    let begin : NewHave P (with_copies s) = have-same P s (with_copies s) (same-with_copies s).entries h in
    let between : NewHave P st.between = have-answers P session what (with_copies s) reply st.between works begin st.line in
    have-same P st.between after (ap (λ (x : State). x.entries) st.is ∙ entries-completion s.underway st.between) between

pub have-ended : (P : Entry → Type 0) (s : State) → Each P (work_of_end s).entries → NewHave P s → NewHave P ((ended s).1)
have-ended P s works h = have-same P (performed (work_of_end s) s) ((ended s).1) (lines_leave.end s).entries (have-performed P (work_of_end s) s works h)
