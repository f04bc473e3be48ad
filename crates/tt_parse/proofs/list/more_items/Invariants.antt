use Rattle.std.proofs.Common.{length}
use Rattle.tt_parse.specs.Reading as read
use Rattle.tt_parse.specs.Reading.{prepend}
use Rattle.tt_parse.proofs.Lists.{ItemsUnderWay}
use Rattle.tt_parse.proofs.list.more_items.Given as goal

abbrev pub invariant-commas : goal.invariant-commas
invariant-commas g l = ItemsUnderWay g.T.ReadItem.reader l.items l.tokens (prepend l.fn.items (read.more_items g.T.ReadItem.reader l.fn.tokens))

abbrev pub decreases-commas : goal.decreases-commas
decreases-commas g l = length l.tokens
