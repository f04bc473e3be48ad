-- The numbers of the attributes: their ranges and defaults, and the size of a text of attributes.
use Rattle.std.specs.Prelude.{ℕ}

-- the most bytes that a text of attributes has
abbrev pub text_most : ℕ
text_most = 65536

-- an attribute that is off has this value
abbrev pub off : ℕ
off = 0

-- an attribute that is on has this value
abbrev pub on : ℕ
on = 1

-- the fewest bytes that the entries of a log file may have room for
abbrev pub log_file_size_least : ℕ
log_file_size_least = 8192

-- the most bytes that the entries of a log file may have room for, which is also the default
abbrev pub log_file_size_most : ℕ
log_file_size_most = 67108864

-- the fewest bytes of entries that may wait to be written
abbrev pub log_buf_size_least : ℕ
log_buf_size_least = 4096

-- the most bytes of entries that may wait to be written
abbrev pub log_buf_size_most : ℕ
log_buf_size_most = 1048576

-- the bytes of entries that may wait to be written, where the attribute isn't named
abbrev pub log_buf_size_default : ℕ
log_buf_size_default = 65536

-- the fewest pages that the rows may fill
abbrev pub perm_pages_least : ℕ
perm_pages_least = 1

-- the most pages that the rows may fill
abbrev pub perm_pages_most : ℕ
perm_pages_most = 65536

-- the pages that the rows may fill, where the attribute isn't named
abbrev pub perm_pages_default : ℕ
perm_pages_default = 1024

-- the fewest pages that a checkpoint copies before a line
abbrev pub ckpt_pages_least : ℕ
ckpt_pages_least = 1

-- the most pages that a checkpoint copies before a line
abbrev pub ckpt_pages_most : ℕ
ckpt_pages_most = 256

-- the pages that a checkpoint copies before a line, where the attribute isn't named
abbrev pub ckpt_pages_default : ℕ
ckpt_pages_default = 8

-- the least number of a database, which is also the default
abbrev pub database_least : ℕ
database_least = 1

-- the greatest number of a database
abbrev pub database_most : ℕ
database_most = 4294967295
