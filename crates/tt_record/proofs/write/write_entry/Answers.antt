use Rattle.tt_record.specs.EntryLaws.{again}
use Rattle.tt_record.proofs.write.write_entry.Goals as goal

pub returns-in-Change-clause-back : goal.returns-in-Change-clause-back
returns-in-Change-clause-back c = λ rest. again c.args.entry.now rest c.requires.entry

pub returns-in-Commit-clause-back : goal.returns-in-Commit-clause-back
returns-in-Commit-clause-back c = λ rest. again c.args.entry.now rest c.requires.entry

pub returns-in-Abort-clause-back : goal.returns-in-Abort-clause-back
returns-in-Abort-clause-back c = λ rest. again c.args.entry.now rest c.requires.entry

pub returns-in-Mark-clause-back : goal.returns-in-Mark-clause-back
returns-in-Mark-clause-back c = λ rest. again c.args.entry.now rest c.requires.entry

pub returns-in-Switch-clause-back : goal.returns-in-Switch-clause-back
returns-in-Switch-clause-back c = λ rest. again c.args.entry.now rest c.requires.entry
