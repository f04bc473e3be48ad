use Rattle.tt_cells.proofs.tests.has_row.Given as goal

abbrev pub ghosts-is_full : goal.ghosts-is_full
ghosts-is_full a = record { name = a.blank.name; parts = a.blank.parts }
