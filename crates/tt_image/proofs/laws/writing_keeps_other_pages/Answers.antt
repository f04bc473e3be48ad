use Rattle.tt_image.specs.Laws.{no_shorter, other_pages_stay, pages_written}
use Rattle.tt_image.proofs.laws.writing_keeps_other_pages.Goals as goal

pub returns : goal.returns
returns c = record { each = pages_written; others = other_pages_stay; size = no_shorter }
