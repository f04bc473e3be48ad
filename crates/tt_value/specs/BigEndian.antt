-- Whole numbers as bytes, the highest byte first.
use Rattle.std.specs.Prelude.{ℕ, List}
use Rattle.byteorder.specs.Endian.{big_bytes, big_number}

-- the n bytes of x
unfoldable pub big_endian : ℕ → ℕ → List ℕ
big_endian n x = big_bytes n x

-- the number in the first n bytes
unfoldable pub number : ℕ → List ℕ → ℕ
number n bytes = big_number n bytes
