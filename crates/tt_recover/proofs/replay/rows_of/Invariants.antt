use Rattle.std.proofs.Common.{◌≡◌, ◌++◌, vec_items}
use Rattle.tt_recover.specs.Replay.{rows_in}
use Rattle.tt_recover.proofs.replay.rows_of.Given as goal

abbrev pub invariant-loop-place : goal.invariant-loop-place
invariant-loop-place l = vec_items l.rows ++ rows_in l.place-iterator ≡ rows_in l.fn.cells.entries
