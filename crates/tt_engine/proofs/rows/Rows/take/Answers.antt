use Rattle.std.proofs.Common.{rules}
use Rattle.tt_engine.proofs.rows.Rows.take.Goals as goal

pub returns-in-Ok-clause-taken : goal.returns-in-Ok-clause-taken
returns-in-Ok-clause-taken c = record {
  keys = search rules;
  place = search rules;
  before = search rules;
  free = search rules;
  used = search rules;
}
