-- The limits of what entries name, each stated here alone.
use Rattle.std.specs.Prelude.{◌^◌, ℕ}

-- transactions are numbered from 1 on and below this
abbrev pub transactions_end : ℕ
transactions_end = 2 ^ 48

-- places are below this
abbrev pub places_end : ℕ
places_end = 2097152

-- log files are numbered below this
abbrev pub log_files_end : ℕ
log_files_end = 1000000
