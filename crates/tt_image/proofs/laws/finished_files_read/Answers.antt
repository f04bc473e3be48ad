use Rattle.tt_image.specs.Laws.{finished_pages, finished_reads}
use Rattle.tt_image.proofs.laws.finished_files_read.Goals as goal

pub returns : goal.returns
returns c = record { head = finished_reads; pages = finished_pages }
