use Rattle.std.proofs.Common.{length, ◌-◌, ◌≡◌, ◌≤◌, ◌++◌, take, List, ℕ, Some}
use Rattle.tt_disk.specs.Faults.{Stays}
use Rattle.tt_run.proofs.attributes.fill.Given as goal

abbrev pub invariant-pieces : goal.invariant-pieces
invariant-pieces g l = record {
  within : l.used ≤ length l.buffer;
  long : length l.buffer ≡ length l.initial.buffer;
  later : g.A.Source.faults l.initial.source ≤ g.A.Source.faults l.source;
  stays : Stays g.A.Source.exact (g.A.Source.faults l.initial.source) (g.A.Source.faults l.source);
  bytes : (text : List ℕ) → g.A.Source.left l.initial.source ≡ Some text → (rest : List ℕ) × (g.A.Source.left l.source ≡ Some rest) × (take l.used l.buffer ++ rest ≡ text);
}

abbrev pub decreases-pieces : goal.decreases-pieces
decreases-pieces g l = length l.initial.buffer - l.used
