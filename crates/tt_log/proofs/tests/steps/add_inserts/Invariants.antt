use Rattle.std.proofs.Common.{◌≡◌}
use Rattle.tt_log.specs.Log.{IsOpen}
use Rattle.tt_log.proofs.tests.steps.add_inserts.Given as goal

abbrev pub invariant-inserts : goal.invariant-inserts
invariant-inserts g l = record {
  open_log : g.V.Volume.told → IsOpen l.log (g.V.Volume.now l.volume) (g.V.Volume.may l.volume);
  first : l.log.first_file ≡ l.initial.log.first_file;
}
