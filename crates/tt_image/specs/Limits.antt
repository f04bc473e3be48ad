-- The numbers of a checkpoint file, each stated here alone.
use Rattle.std.specs.Prelude.{◌^◌, ℕ}

-- how many bytes a header has, the gate among them
abbrev pub head_size : ℕ
head_size = 64

-- how many bytes of a header lie behind the gate
abbrev pub fields_size : ℕ
fields_size = 63

-- the gate byte of an open gate; any other is closed
abbrev pub gate_open : ℕ
gate_open = 1

-- checkpoints, transactions and databases are numbered from this on
abbrev pub number_least : ℕ
number_least = 1

-- checkpoints are numbered below this, and transactions up to it
abbrev pub numbers_end : ℕ
numbers_end = 2 ^ 48

-- the greatest number of a log file
abbrev pub last_log : ℕ
last_log = 999999

-- the entries of a log file have at most so many bytes, so a position's offset is at most this
abbrev pub log_most : ℕ
log_most = 67108864

-- the greatest number of a database
abbrev pub last_database : ℕ
last_database = 4294967295

-- the letters TTDS as a number
abbrev pub letters : ℕ
letters = 0x54544453

-- the letter T
abbrev pub letter_t : ℕ
letter_t = 84

-- the letter D
abbrev pub letter_d : ℕ
letter_d = 68

-- the letter S
abbrev pub letter_s : ℕ
letter_s = 83

-- the format that is written and read
abbrev pub format : ℕ
format = 1

-- where the letters lie, in bytes from the start of the file on
abbrev pub letters_at : ℕ
letters_at = 1

-- where the format lies, in bytes from the start of the file on
abbrev pub format_at : ℕ
format_at = 5

-- where the two zeros behind the format lie, in bytes from the start of the file on
abbrev pub zeros_at : ℕ
zeros_at = 6

-- where the checkpoint's number lies, in bytes from the start of the file on
abbrev pub number_at : ℕ
number_at = 8

-- where the file of the scan position lies, in bytes from the start of the file on
abbrev pub scan_file_at : ℕ
scan_file_at = 16

-- where the offset of the scan position lies, in bytes from the start of the file on
abbrev pub scan_offset_at : ℕ
scan_offset_at = 20

-- where the count of pages lies, in bytes from the start of the file on
abbrev pub pages_at : ℕ
pages_at = 24

-- where the four zeros behind the count of pages lie, in bytes from the start of the file on
abbrev pub more_zeros_at : ℕ
more_zeros_at = 28

-- where the next transaction's number lies, in bytes from the start of the file on
abbrev pub transaction_at : ℕ
transaction_at = 32

-- where the database's number lies, in bytes from the start of the file on
abbrev pub database_at : ℕ
database_at = 40

-- where the sixteen zeros at the end of a header lie, in bytes from the start of the file on
abbrev pub last_zeros_at : ℕ
last_zeros_at = 48

-- the bytes of a number of 16 bits
abbrev pub short_size : ℕ
short_size = 2

-- the bytes of a number of 32 bits
abbrev pub word_size : ℕ
word_size = 4

-- the bytes of a number of 64 bits
abbrev pub long_size : ℕ
long_size = 8

-- the bytes of a header from behind the gate up to the scan position
abbrev pub front_size : ℕ
front_size = 15

-- the bytes of the scan position and the count of pages
abbrev pub scan_size : ℕ
scan_size = 12

-- the bytes of the next transaction's number and the database's
abbrev pub owner_size : ℕ
owner_size = 16
