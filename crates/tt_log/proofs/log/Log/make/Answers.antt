use Rattle.std.proofs.Common.{◌∙◌, ap}
use Rattle.tt_disk.specs.declared.volume.Name.TheVariants.{Log as LogFile}
use Rattle.tt_gate.specs.Gate.{gated}
use Rattle.tt_log.proofs.Making.{few_left, short_log}
use Rattle.tt_log.proofs.Switching.{empty_log, header_made}
use Rattle.tt_log.proofs.log.Log.make.Goals as goal

pub returns-clause-made : goal.returns-clause-made
returns-clause-made g c told = empty_log _ (header_made 0 _ _ (c.in_ok-make.ensures.done told) c.header.ensures)

pub returns-clause-settled : goal.returns-clause-settled
returns-clause-settled g c told files left = empty_log files (ap gated (c.in_ok-make.ensures.settled told (files (LogFile 0)) (left 0)) ∙ header_made 0 _ _ (c.in_ok-make.ensures.done told) c.header.ensures)

pub returns-in_err-remove_logs-clause-short : goal.returns-in_err-remove_logs-clause-short
returns-in_err-remove_logs-clause-short g c told few files left found is =
    short_log files found (few_left (g.V.Volume.may c.args.volume.now) (g.V.Volume.may c.remove_logs.new.volume) (c.remove_logs.ensures.crash told) few (files (LogFile 0)) (left 0)) is

pub returns-in_err-make-clause-short : goal.returns-in_err-make-clause-short
returns-in_err-make-clause-short g c told few files left found is =
    short_log files found (c.make.ensures.short told (few_left (g.V.Volume.may c.args.volume.now) (g.V.Volume.may c.remove_logs.new.volume) (c.remove_logs.ensures.crash told) few) (files (LogFile 0)) (left 0)) is

pub returns-clause-short : goal.returns-clause-short
returns-clause-short g c told few files left found is =
    short_log files found (c.make.ensures.short told (few_left (g.V.Volume.may c.args.volume.now) (g.V.Volume.may c.remove_logs.new.volume) (c.remove_logs.ensures.crash told) few) (files (LogFile 0)) (left 0)) is
