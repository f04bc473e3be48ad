-- Each is what the call ensures.
use Rattle.tt_parse.proofs.print_command.backup_kind.Goals as goal

pub returns-in-FullEnable : goal.returns-in-FullEnable
returns-in-FullEnable c = rw c.in-FullEnable.is c.word-in-FullEnable.ensures

pub returns-in-Incremental : goal.returns-in-Incremental
returns-in-Incremental c = rw c.in-Incremental.is c.word-in-Incremental.ensures

pub returns-in-Stop : goal.returns-in-Stop
returns-in-Stop c = rw c.in-Stop.is c.word-in-Stop.ensures
