use Rattle.tt_log.specs.Scan.{IsScanning}
use Rattle.tt_log.proofs.tests.steps.forced_from.Given as goal

abbrev pub invariant-entries : goal.invariant-entries
invariant-entries g l = g.V.Volume.told → IsScanning l.scan l.log (g.V.Volume.now l.volume)
