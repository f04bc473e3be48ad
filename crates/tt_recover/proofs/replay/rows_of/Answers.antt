use Rattle.std.proofs.Common.{ℕ, ◌≡◌, ◌++◌, [], sym, ap, ◌∙◌, subst, append-nil, List, nat_cmp}
use Rattle.std.specs.List.Sorted.{IsStrictlySortedBy}
use Rattle.std.specs.Map.{keys_of}
use Rattle.std.proofs.lemmas.Map.Iter.{rest_all}
use Rattle.tt_value.specs.declared.value.Cell.{Cell}
use Rattle.tt_recover.specs.declared.replay.RecoveredRow.{RecoveredRow}
use Rattle.tt_recover.specs.Replay.{AreInOrder, cell_shown, rows_in}
use Rattle.tt_recover.proofs.ReplayLemmas.{shown_rows, ordered_rows}
use Rattle.tt_recover.proofs.replay.rows_of.Goals as goal

all_rows : (rows : List RecoveredRow) (left all : List (ℕ × Cell)) → left ≡ [] → rows ++ rows_in left ≡ rows_in all → rows ≡ rows_in all
all_rows rows left all none is = sym (append-nil rows) ∙ ap (λ es. rows ++ rows_in es) (sym none) ∙ is

pub returns-clause-shown : goal.returns-clause-shown
returns-clause-shown c =
    let none = rest_all (λ x. x) c.loop-place.place-iterator c.next.new.self c.next.result c.in-None.is c.next.ensures.steps in
    let sorted : IsStrictlySortedBy nat_cmp (keys_of c.args.cells.entries) = c.into_iter-place-iterator.ensures.into_iter_gives.5 in
    λ q. ap (λ rows. cell_shown rows q) (all_rows c.loop-place.rows.items c.loop-place.place-iterator c.args.cells.entries none c.loop-place.invariant)
    ∙ shown_rows q c.args.cells.entries sorted

pub returns-clause-ordered : goal.returns-clause-ordered
returns-clause-ordered c =
    let none = rest_all (λ x. x) c.loop-place.place-iterator c.next.new.self c.next.result c.in-None.is c.next.ensures.steps in
    let sorted : IsStrictlySortedBy nat_cmp (keys_of c.args.cells.entries) = c.into_iter-place-iterator.ensures.into_iter_gives.5 in
    subst AreInOrder (sym (all_rows c.loop-place.rows.items c.loop-place.place-iterator c.args.cells.entries none c.loop-place.invariant))
    (ordered_rows c.args.cells.entries sorted)
