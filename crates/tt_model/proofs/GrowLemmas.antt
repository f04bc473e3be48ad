-- Along lines and rounds the trail grows, its forced part never falls, and no line but a reader's own changes a reader.
use Rattle.std.proofs.Common.{◌≡◌, ◌≤◌, inl, inr, ℕ, Bool, true, false, [], ◌∷◌, ◌++◌, length, Option, Some, None, if◌then◌else◌, refl, sym, ap, ◌∙◌, subst, arith, le_refl}
use Rattle.std.specs.Prelude.{◌==◌, Result, Ok, Err}
use Rattle.std.specs.Option.{option_or}
use Rattle.tt_value.specs.declared.refusal.Refusal.{Refusal}
use Rattle.tt_value.specs.declared.reply.Reply.{Reply}
use Rattle.tt_parse.specs.declared.command.Command.{Command}
use Rattle.tt_parse.specs.declared.command.Command.TheVariants.{Ckpt, CkptBlocking}
use Rattle.tt_record.specs.Entry.{length_of}
use Rattle.tt_record.specs.declared.entry.Entry.{Entry}
use Rattle.tt_model.specs.Trail.{Trail, IsOrdered}
use Rattle.tt_model.specs.Opened.{Opened}
use Rattle.tt_model.specs.State.{State, Underway, trail, live_in, placed, write_position, with_entry, all_forced}
use Rattle.tt_model.specs.Checkpoint.{begin_checkpoint, copied, with_copies, with_all_copies, complete_where_due, completed, with_completion}
use Rattle.tt_model.specs.Step.{Step, Answers, WantsMemory, answer, line, unless_refused, checkpoint_open, no_checkpoint_number, least_open, completion_after}
use Rattle.tt_model.proofs.AppendLemmas.{forced_for-most, forced_for-least}
use Rattle.tt_model.proofs.PositionLemmas.{ordered-with_entry}
use Rattle.tt_model.proofs.LineRelation.{is_checkpoint, is_readers, line-through}

-- The new entries are more, in order, and more of the trail is forced.
pub record Grows (s after : State) : Type 0 where
  pub found : after.found ≡ s.found
  pub newer : Trail
  pub entries : after.entries ≡ newer ++ s.entries
  pub forced : s.forced ≤ length (trail s) → (s.forced ≤ after.forced) × (after.forced ≤ length (trail after))
  pub ordered : IsOrdered s.found.end s.entries → IsOrdered after.found.end after.entries

pub assoc : (xs ys zs : Trail) → (xs ++ ys) ++ zs ≡ xs ++ (ys ++ zs)
assoc [] ys zs = refl
assoc (x ∷ xs) ys zs = ap (x ∷◌) (assoc xs ys zs)

pub grows-same : (s : State) → Grows s s
grows-same s = record { found = refl; newer = []; entries = refl; forced = λ h. (le_refl s.forced, h); ordered = λ o. o }

pub grows-then : (s mid after : State) → Grows s mid → Grows mid after → Grows s after
grows-then s mid after a b = record {
  found = b.found ∙ a.found;
  newer = b.newer ++ a.newer;
  entries = b.entries ∙ (ap (b.newer ++◌) a.entries ∙ sym (assoc b.newer a.newer s.entries));
  forced = λ h.
      let one : (s.forced ≤ mid.forced) × (mid.forced ≤ length (trail mid)) = a.forced h in
      let two : (mid.forced ≤ after.forced) × (after.forced ≤ length (trail after)) = b.forced (one.1) in
      let low : s.forced ≤ mid.forced = one.0 in
      let high : mid.forced ≤ after.forced = two.0 in
      (omega (arith, low, high), two.1);
  ordered = λ o. b.ordered (a.ordered o);
}

pub grows-with_entry : (e : Entry) (s : State) → Grows s (with_entry e s)
unfolding with_entry
grows-with_entry e s = record {
  found = refl;
  newer = placed e s ∷ [];
  entries = refl;
  forced = λ h.
      let most : (with_entry e s).forced ≤ length (trail s) = forced_for-most s.settings.log_file_size s.settings.log_buf_size (length_of e) (write_position s) (trail s) s.forced h in
      (forced_for-least s.settings.log_file_size s.settings.log_buf_size (length_of e) (write_position s) (trail s) s.forced h, omega (arith, most));
  ordered = ordered-with_entry e s;
}

pub grows-all_forced : (s : State) → Grows s (all_forced s)
unfolding all_forced
grows-all_forced s = record { found = refl; newer = []; entries = refl; forced = λ h. (h, le_refl (length (trail s))); ordered = λ o. o }

-- What stands beside the trail doesn't matter.
pub grows-beside : (s after other : State) → other.found ≡ after.found → other.entries ≡ after.entries → other.forced ≡ after.forced → Grows s after → Grows s other
grows-beside s after other f e n g = record {
  found = f ∙ g.found;
  newer = g.newer;
  entries = e ∙ g.entries;
  forced = λ h. subst (λ k. (s.forced ≤ k) × (k ≤ length (trail other))) (sym n) (subst (λ (xs : Trail). (s.forced ≤ after.forced) × (after.forced ≤ length (xs ++ other.found.entries))) (sym e)
      (subst (λ (x : Opened). (s.forced ≤ after.forced) × (after.forced ≤ length (after.entries ++ x.entries))) (sym f) (g.forced h)));
  ordered = λ o. subst (λ (xs : Trail). IsOrdered other.found.end xs) (sym e) (subst (λ (x : Opened). IsOrdered x.end after.entries) (sym f) (g.ordered o));
}

grows-line : (session : ℕ) (command : Command) (s : State) → is_checkpoint command ≡ false → Grows s ((line session command s).1)
grows-line session command s n =
    line-through Grows true grows-same grows-then grows-with_entry grows-all_forced (λ own wish sets x. grows-beside x x _ refl refl refl (grows-same x))
    (λ y reader x. grows-beside x x _ refl refl refl (grows-same x)) session command s n (λ y. refl)

-- ---- checkpoints

grows-copied : (n : ℕ) (o : Option Underway) (s : State) → Grows s (copied n o s)
grows-copied n None s = grows-same s
grows-copied n (Some b) s = grows-beside s s (copied n (Some b) s) refl refl refl (grows-same s)

grows-begin : (s : State) → Grows s (begin_checkpoint s)
unfolding begin_checkpoint
grows-begin s = grows-beside s s (begin_checkpoint s) refl refl refl (grows-same s)

grows-completed : (b : Underway) (s : State) → Grows s (completed b s)
unfolding completed all_forced
grows-completed b s = grows-beside s (all_forced s) (completed b s) refl refl refl (grows-all_forced s)

grows_due : (b : Underway) (s : State) (c : Bool) → Grows s (if c then completed b s else s)
grows_due b s true = grows-completed b s
grows_due b s false = grows-same s

grows_where : (o : Option Underway) (s : State) → Grows s (complete_where_due o s)
grows_where None s = grows-same s
grows_where (Some b) s = grows_due b s (length b.left == 0)

grows-with_completion : (s : State) → Grows s (with_completion s)
unfolding with_completion
grows-with_completion s = grows_where s.underway s

grows-completion_after : (o : Option Underway) (s : State) → Grows s (completion_after o s)
grows-completion_after None s = grows-same s
grows-completion_after (Some b) s = grows-with_completion s

pub grows-with_copies : (s : State) → Grows s (with_copies s)
unfolding with_copies
grows-with_copies s = grows-copied s.settings.ckpt_pages s.underway s

grows-all_copies : (s : State) → Grows s (with_all_copies s)
unfolding with_all_copies
grows-all_copies s = grows-copied s.pages s.underway s

grows-unless : (o : Option Refusal) (reply : Reply) (after s : State) → Grows s after → Grows s ((unless_refused o (reply, after) s).1)
grows-unless None reply after s g = g
grows-unless (Some r) reply after s g = grows-same s

grows-command : (session : ℕ) (command : Command) (s : State) → Grows s ((line session command s).1)
unfolding line
grows-command session Ckpt s = grows-unless (option_or (checkpoint_open s) (no_checkpoint_number s)) _ (begin_checkpoint s) s (grows-begin s)
grows-command session CkptBlocking s =
    let begun : State = begin_checkpoint s in
    let whole : State = with_all_copies begun in
    grows-unless (option_or (checkpoint_open s) (option_or (least_open (live_in s)) (no_checkpoint_number s))) _ (with_completion whole) s
    (grows-then s begun (with_completion whole) (grows-begin s) (grows-then begun whole (with_completion whole) (grows-all_copies begun) (grows-with_completion whole)))
grows-command session command s = grows-line session command s refl

grows-answer : (session : ℕ) (what : Result Command Refusal) (s : State) → Grows s ((answer session what s).1)
grows-answer session (Ok command) s = grows-command session command s
grows-answer session (Err r) s = grows-same s

grows-memory : (session : ℕ) (what : Result Command Refusal) (s : State) (reply : Reply) (after : State) → WantsMemory session what s reply after → Grows s after
grows-memory session (Err r) s reply after w = absurd w
grows-memory session (Ok command) s reply after w = elim (w.2) [
  | inl same ↦ subst (Grows s) (sym same) (grows-same s)
  | inr forced ↦ subst (Grows s) (sym (forced.1)) (grows-all_forced s)
]

pub grows-answers : (session : ℕ) (what : Result Command Refusal) (s : State) (reply : Reply) (after : State) → Answers session what s reply after → Grows s after
grows-answers session what s reply after (inl t) = subst (Grows s) (sym (t.1)) (grows-answer session what s)
grows-answers session what s reply after (inr w) = grows-memory session what s reply after w

pub grows-step : (s : State) (session : ℕ) (what : Result Command Refusal) (reply : Reply) (after : State) → Step s session what reply after → Grows s after
grows-step s session what reply after st =
    subst (Grows s) (sym st.is)
    (grows-then s (with_copies s) (completion_after s.underway st.between) (grows-with_copies s)
    (grows-then (with_copies s) st.between (completion_after s.underway st.between) (grows-answers session what (with_copies s) reply st.between st.line) (grows-completion_after s.underway st.between)))

-- ---- readers

abbrev pub SameReaders : State → State → Type 0
SameReaders s after = after.reader ≡ s.reader

readers_entry : (e : Entry) (s : State) → SameReaders s (with_entry e s)
unfolding with_entry
readers_entry e s = refl

readers_forced : (s : State) → SameReaders s (all_forced s)
unfolding all_forced
readers_forced s = refl

readers-line : (session : ℕ) (command : Command) (s : State) → is_checkpoint command ≡ false → is_readers command ≡ false → SameReaders s ((line session command s).1)
readers-line session command s n m =
    line-through SameReaders false (λ x. refl) (λ x y z a b. b ∙ a) readers_entry readers_forced (λ own wish sets x. refl)
    (λ y reader x. let no : ⊥ = cc in absurd no) session command s n (λ y. sym m ∙ y)

readers_copied : (n : ℕ) (o : Option Underway) (s : State) → SameReaders s (copied n o s)
readers_copied n None s = refl
readers_copied n (Some b) s = refl

pub readers-with_copies : (s : State) → SameReaders s (with_copies s)
unfolding with_copies
readers-with_copies s = readers_copied s.settings.ckpt_pages s.underway s

readers_all_copies : (s : State) → SameReaders s (with_all_copies s)
unfolding with_all_copies
readers_all_copies s = readers_copied s.pages s.underway s

readers_begin : (s : State) → SameReaders s (begin_checkpoint s)
unfolding begin_checkpoint
readers_begin s = refl

readers_completed : (b : Underway) (s : State) → SameReaders s (completed b s)
unfolding completed all_forced
readers_completed b s = refl

readers_due : (b : Underway) (s : State) (c : Bool) → SameReaders s (if c then completed b s else s)
readers_due b s true = readers_completed b s
readers_due b s false = refl

readers_where : (o : Option Underway) (s : State) → SameReaders s (complete_where_due o s)
readers_where None s = refl
readers_where (Some b) s = readers_due b s (length b.left == 0)

readers_with_completion : (s : State) → SameReaders s (with_completion s)
unfolding with_completion
readers_with_completion s = readers_where s.underway s

pub readers-completion_after : (o : Option Underway) (s : State) → SameReaders s (completion_after o s)
readers-completion_after None s = refl
readers-completion_after (Some b) s = readers_with_completion s

readers-unless : (o : Option Refusal) (reply : Reply) (after s : State) → SameReaders s after → SameReaders s ((unless_refused o (reply, after) s).1)
readers-unless None reply after s g = g
readers-unless (Some r) reply after s g = refl

-- A line that is no reader's leaves the readers.
pub readers-command : (session : ℕ) (command : Command) (s : State) → is_readers command ≡ false → SameReaders s ((line session command s).1)
unfolding line
readers-command session Ckpt s m = readers-unless (option_or (checkpoint_open s) (no_checkpoint_number s)) _ (begin_checkpoint s) s (readers_begin s)
readers-command session CkptBlocking s m =
    let begun : State = begin_checkpoint s in
    let whole : State = with_all_copies begun in
    readers-unless (option_or (checkpoint_open s) (option_or (least_open (live_in s)) (no_checkpoint_number s))) _ (with_completion whole) s
    (readers_with_completion whole ∙ (readers_all_copies begun ∙ readers_begin s))
readers-command session command s m = readers-line session command s refl m

pub readers-memory : (session : ℕ) (what : Result Command Refusal) (s : State) (reply : Reply) (after : State) → WantsMemory session what s reply after → SameReaders s after
readers-memory session (Err r) s reply after w = absurd w
readers-memory session (Ok command) s reply after w = elim (w.2) [
  | inl same ↦ ap (λ (x : State). x.reader) same
  | inr forced ↦ ap (λ (x : State). x.reader) (forced.1) ∙ readers_forced s
]
