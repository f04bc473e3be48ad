use Rattle.std.proofs.Common.{◌≤◌, ◌-◌, length}
use Rattle.tt_log.proofs.Visiting.{Handed}
use Rattle.tt_log.proofs.visitor.visit_body.Given as goal

abbrev pub decreases-entries : goal.decreases-entries
decreases-entries g l = length l.bytes - l.at

abbrev pub invariant-entries : goal.invariant-entries
invariant-entries g l = record {
  inside : l.at ≤ length l.bytes;
  handed : Handed (g.T.EntryVisitor.visited l.initial.visitor) (g.T.EntryVisitor.visited l.visitor) l.bytes l.file l.offset l.at;
}
