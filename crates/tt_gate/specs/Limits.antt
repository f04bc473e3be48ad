-- The sizes of a file of batches, in bytes.
use Rattle.std.specs.Prelude.{◌^◌, ℕ}

-- the header before the first gate
abbrev pub header_length : ℕ
header_length = 16

-- where the first gate lies
abbrev pub first_gate_at : ℕ
first_gate_at = 16

-- a file with no batch: its header and a closed gate
abbrev pub new_file_length : ℕ
new_file_length = 17

-- the longest file of a volume
abbrev pub longest_file : ℕ
longest_file = 2 ^ 62
