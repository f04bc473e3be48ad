use Rattle.std.proofs.Common.{◌∙◌, ap, length}
use Rattle.tt_cells.specs.CellLaws.{length-page}
use Rattle.tt_cells.specs.ReadingCells.{cells_in}
use Rattle.tt_cells.specs.Limits.{page_places}
use Rattle.tt_cells.proofs.page.Page.bytes.Goals as goal

pub returns-clause-long : goal.returns-clause-long
returns-clause-long c =
    let bytes = c.self.inside.bytes.items in
    ap length c.as_slice.ensures.value ∙ length-page bytes (cells_in page_places bytes) c.self.invariant
