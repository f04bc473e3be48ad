-- The limits of a log, each stated here alone; the numbers of its files end at `log_files_end` of `tt_record`.
use Rattle.std.specs.Prelude.{◌^◌, ℕ}

-- the greatest number of a log file, from which no Switch leads on
abbrev pub last_log_file : ℕ
last_log_file = 999999

-- the numbers that the name of a log file can have lie below
abbrev pub log_names_end : ℕ
log_names_end = 2 ^ 32

-- the fewest bytes that a file may be opened with for its entries
abbrev pub file_least : ℕ
file_least = 8192

-- the most bytes that the entries of one file have together, the Switch not counted
abbrev pub file_most : ℕ
file_most = 67108864

-- the fewest bytes of a buffer
abbrev pub buffer_least : ℕ
buffer_least = 4096

-- the most bytes of a buffer
abbrev pub buffer_most : ℕ
buffer_most = 1048576
