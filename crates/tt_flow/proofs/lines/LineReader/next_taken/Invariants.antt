use Rattle.std.proofs.Common.{◌≡◌, ◌≤◌, ◌-◌, ◌^◌, ℕ, List, Option, Some}
use Rattle.tt_flow.specs.Lines.{HasGiven, HasGivenTold, HasNoFeed, bytes_to_come, kept_bytes}
use Rattle.tt_disk.specs.Faults.{Stays}
use Rattle.tt_flow.proofs.lines.LineReader.next_taken.Given as goal

abbrev pub invariant-pieces : goal.invariant-pieces
invariant-pieces g l = record {
  none : HasNoFeed (kept_bytes l.self);
  given : (script left : List ℕ) (given : List (Option (List ℕ))) → g.S.Source.left l.initial.source ≡ Some left → HasGiven script given l.initial.self left
      → HasGivenTold script given l.self (g.S.Source.left l.source);
  bound : bytes_to_come l.self ≤ bytes_to_come l.initial.self;
  later : g.S.Source.faults l.initial.source ≤ g.S.Source.faults l.source;
  stays : Stays g.S.Source.exact (g.S.Source.faults l.initial.source) (g.S.Source.faults l.source);
}

abbrev pub decreases-pieces : goal.decreases-pieces
decreases-pieces g l = 2 ^ 30 - l.self.taken
