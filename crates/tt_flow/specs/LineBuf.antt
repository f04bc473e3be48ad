-- What a buffer holds of a line.
use Rattle.std.specs.Prelude.{ℕ}

-- how many bytes a line has at most, without its line feed and carriage return
abbrev pub line_most : ℕ
line_most = 4096
