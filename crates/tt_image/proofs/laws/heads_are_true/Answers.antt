use Rattle.tt_image.specs.Laws.{not_whole_reads, shut_reads_closed, whole_in_range, whole_is_long}
use Rattle.tt_image.proofs.laws.heads_are_true.Goals as goal

pub returns : goal.returns
returns c = record { shut = shut_reads_closed; not_whole = not_whole_reads; pages = whole_is_long; range = whole_in_range }
