use Rattle.tt_image.specs.Laws.{closed_is_long, closed_is_shut, closed_pages}
use Rattle.tt_image.proofs.laws.closing_keeps_pages.Goals as goal

pub returns : goal.returns
returns c = record { gate = closed_is_shut; size = closed_is_long; pages = closed_pages }
