-- How many bytes entries have together.
use Rattle.std.specs.Prelude.{◌+◌, ℕ, List, [], ◌∷◌}
use Rattle.tt_record.specs.declared.entry.Entry.{Entry}
use Rattle.tt_record.specs.Entry.{length_of}

abbrev pub total : List Entry → ℕ
total [] = 0
total (e ∷ es) = length_of e + total es
