-- In a sound state with good rows, rows can be stored.
use Rattle.tt_model.specs.StepLaws.{GoodRowsAreStorable}
use Rattle.tt_model.proofs.GoodBookmarks.{good-bookmarks}
use Rattle.tt_model.proofs.StorableTables.{good-tables}

pub rows_are_storable : GoodRowsAreStorable
rows_are_storable s sound good = record { tables = good-tables s sound good.catalog; bookmarks = good-bookmarks s sound good.catalog; readers = good.readers }
