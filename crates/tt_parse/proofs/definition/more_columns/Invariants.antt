use Rattle.std.proofs.Common.{length}
use Rattle.tt_parse.specs.Reading as read
use Rattle.tt_parse.specs.Reading.{prepend}
use Rattle.tt_parse.proofs.Lists.{ColumnsUnderWay}
use Rattle.tt_parse.proofs.definition.more_columns.Given as goal

abbrev pub invariant-columns : goal.invariant-columns
invariant-columns l = ColumnsUnderWay l.columns l.tokens (prepend l.fn.columns (read.more_columns l.fn.tokens))

abbrev pub decreases-columns : goal.decreases-columns
decreases-columns l = length l.tokens
