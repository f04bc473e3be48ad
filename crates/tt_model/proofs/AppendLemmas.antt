-- What one more entry does to each part of a state.
use Rattle.std.proofs.Common.{◌≡◌, ◌⊎◌, ℕ, suc, false, nat_eq, ◌≤◌, [], ◌∷◌, ◌++◌, length, max, Option, Some, None, refl, ap, arith}
use Rattle.std.proofs.lemmas.Bool.{cond-true, cond-false, eq-eqb}
use Rattle.tt_value.specs.declared.value.Cell.{Cell}
use Rattle.tt_value.specs.declared.position.Position.{Position}
use Rattle.tt_record.specs.declared.entry.Entry.{Entry}
use Rattle.tt_record.specs.declared.entry.Entry.TheVariants.{Change, Commit, Abort, Mark}
use Rattle.tt_record.specs.Entry.{length_of}
use Rattle.tt_record.specs.Place.{end_of}
use Rattle.tt_model.specs.Trail.{Trail}
use Rattle.tt_model.specs.Committed.{Cells, put, changed, changed_by, committed}
use Rattle.tt_model.specs.Live.{live, live_after, with_number, without_number, view_of, next_number}
use Rattle.tt_model.specs.Forced.{forced_for}
use Rattle.tt_model.specs.State.{State, placed, trail, write_position, cells_of, view, live_in, next, with_entry}

pub trail-with_entry : (e : Entry) (s : State) → trail (with_entry e s) ≡ placed e s ∷ trail s
unfolding with_entry
trail-with_entry e s = refl

pub write_position-with_entry : (e : Entry) (s : State) → write_position (with_entry e s) ≡ end_of ((placed e s).at) (length_of e)
unfolding with_entry
write_position-with_entry e s = refl

-- Committed: a Commit puts its transaction's Changes over it, every other entry leaves it.
pub cells-Change : (t p : ℕ) (b a : Cell) (s : State) → cells_of (with_entry (Change t p b a) s) ≡ cells_of s
unfolding with_entry committed
cells-Change t p b a s = refl

pub cells-Commit : (t : ℕ) (s : State) → cells_of (with_entry (Commit t) s) ≡ changed_by t s.entries (cells_of s)
unfolding with_entry committed
cells-Commit t s = refl

pub cells-Abort : (t : ℕ) (s : State) → cells_of (with_entry (Abort t) s) ≡ cells_of s
unfolding with_entry committed
cells-Abort t s = refl

pub cells-Mark : (s : State) → cells_of (with_entry Mark s) ≡ cells_of s
unfolding with_entry committed
cells-Mark s = refl

-- Live.
pub live-Change : (t p : ℕ) (b a : Cell) (s : State) → live_in (with_entry (Change t p b a) s) ≡ with_number t (live_in s)
unfolding with_entry live
live-Change t p b a s = refl

pub live-Commit : (t : ℕ) (s : State) → live_in (with_entry (Commit t) s) ≡ without_number t (live_in s)
unfolding with_entry live
live-Commit t s = refl

pub live-Abort : (t : ℕ) (s : State) → live_in (with_entry (Abort t) s) ≡ without_number t (live_in s)
unfolding with_entry live
live-Abort t s = refl

pub live-Mark : (s : State) → live_in (with_entry Mark s) ≡ []
unfolding with_entry live
live-Mark s = refl

-- The transactions before a Mark count for nothing behind it.
pub live-behind_mark : (newer older : Trail) (at : Position) →
    live (newer ++ record { at = at; entry = Mark } ∷ older) ≡ live (newer ++ record { at = at; entry = Mark } ∷ [])
unfolding live
live-behind_mark [] older at = refl
live-behind_mark (e ∷ newer) older at = ap (λ us. live_after e.entry us) (live-behind_mark newer older at)

-- Next.
pub next-Change : (t p : ℕ) (b a : Cell) (s : State) → next (with_entry (Change t p b a) s) ≡ max (suc t) (next s)
unfolding with_entry next_number
next-Change t p b a s = refl

pub next-Commit : (t : ℕ) (s : State) → next (with_entry (Commit t) s) ≡ max (suc t) (next s)
unfolding with_entry next_number
next-Commit t s = refl

pub next-Abort : (t : ℕ) (s : State) → next (with_entry (Abort t) s) ≡ max (suc t) (next s)
unfolding with_entry next_number
next-Abort t s = refl

pub next-Mark : (s : State) → next (with_entry Mark s) ≡ next s
unfolding with_entry next_number
next-Mark s = omega (arith)

-- Forced.
pub forced-with_entry : (e : Entry) (s : State) →
    (with_entry e s).forced ≡ forced_for s.settings.log_file_size s.settings.log_buf_size (write_position s) (length_of e) (trail s) s.forced
unfolding with_entry
forced-with_entry e s = refl

pub forced_for-cases : (size buffer n : ℕ) (end : Position) (es : Trail) (forced : ℕ) →
    (forced_for size buffer end n es forced ≡ length es) ⊎ (forced_for size buffer end n es forced ≡ forced)
unfolding forced_for
forced_for-cases size buffer n end es forced = grind arith

-- Forced never passes the trail, and never falls.
pub forced_for-most : (size buffer n : ℕ) (end : Position) (es : Trail) (forced : ℕ) → forced ≤ length es →
    forced_for size buffer end n es forced ≤ length es
forced_for-most size buffer n end es forced h = grind (arith, forced_for-cases size buffer n end es forced)

pub forced_for-least : (size buffer n : ℕ) (end : Position) (es : Trail) (forced : ℕ) → forced ≤ length es →
    forced ≤ forced_for size buffer end n es forced
forced_for-least size buffer n end es forced h = grind (arith, forced_for-cases size buffer n end es forced)

-- A transaction's own Change is put over the cells, another's isn't.
pub changed-own : (t p : ℕ) (b a : Cell) (cells : Cells) → changed t (Change t p b a) cells ≡ put p a cells
changed-own t p b a cells = cond-true (nat_eq t t) (put p a cells) cells (eq-eqb t t refl)

pub changed-other : (u t p : ℕ) (b a : Cell) (cells : Cells) → nat_eq u t ≡ false → changed u (Change t p b a) cells ≡ cells
changed-other u t p b a cells n = cond-false (nat_eq u t) (put p a cells) cells n

-- The view of the session whose transaction changes a place.
pub view-Change : (session t p : ℕ) (b a : Cell) (s : State) → s.own session ≡ Some t →
    view session (with_entry (Change t p b a) s) ≡ put p a (view session s)
unfolding with_entry committed
view-Change session t p b a s h = rw h (changed-own t p b a (changed_by t s.entries (cells_of s)))

-- The view of a session with no transaction of its own, or with another one.
pub view-Change_without : (session t p : ℕ) (b a : Cell) (s : State) → s.own session ≡ None →
    view session (with_entry (Change t p b a) s) ≡ view session s
unfolding with_entry committed
view-Change_without session t p b a s h = rw h refl

pub view-Change_other : (session t u p : ℕ) (b a : Cell) (s : State) → s.own session ≡ Some u → nat_eq u t ≡ false →
    view session (with_entry (Change t p b a) s) ≡ view session s
unfolding with_entry committed
view-Change_other session t u p b a s h n = rw h (changed-other u t p b a (changed_by u s.entries (cells_of s)) n)

-- A Commit makes the view of its session the committed cells.
pub cells-Commit_view : (session t : ℕ) (s : State) → s.own session ≡ Some t →
    cells_of (with_entry (Commit t) s) ≡ view session s
unfolding with_entry committed
cells-Commit_view session t s h = rw h refl

-- An entry that is no Change leaves what is put over the cells.
view-Commit_of : (o : Option ℕ) (t : ℕ) (at : Position) (es : Trail) (cells : Cells) → view_of o (record { at = at; entry = Commit t } ∷ es) cells ≡ view_of o es cells
view-Commit_of None t at es cells = refl
view-Commit_of (Some u) t at es cells = refl

view-Abort_of : (o : Option ℕ) (t : ℕ) (at : Position) (es : Trail) (cells : Cells) → view_of o (record { at = at; entry = Abort t } ∷ es) cells ≡ view_of o es cells
view-Abort_of None t at es cells = refl
view-Abort_of (Some u) t at es cells = refl

view-Mark_of : (o : Option ℕ) (at : Position) (es : Trail) (cells : Cells) → view_of o (record { at = at; entry = Mark } ∷ es) cells ≡ view_of o es cells
view-Mark_of None at es cells = refl
view-Mark_of (Some u) at es cells = refl

-- The views behind a Commit, an Abort and a Mark.
pub view-Commit : (session t : ℕ) (s : State) → view session (with_entry (Commit t) s) ≡ view_of (s.own session) s.entries (cells_of (with_entry (Commit t) s))
unfolding with_entry
view-Commit session t s = view-Commit_of (s.own session) t ((placed (Commit t) s).at) s.entries (cells_of (with_entry (Commit t) s))

pub view-Abort : (session t : ℕ) (s : State) → view session (with_entry (Abort t) s) ≡ view session s
unfolding with_entry committed
view-Abort session t s = view-Abort_of (s.own session) t ((placed (Abort t) s).at) s.entries (cells_of s)

pub view-Mark : (session : ℕ) (s : State) → view session (with_entry Mark s) ≡ view session s
unfolding with_entry committed
view-Mark session s = view-Mark_of (s.own session) ((placed Mark s).at) s.entries (cells_of s)
