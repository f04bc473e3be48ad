-- A number is read back from its bytes, and bytes from their number.
use Rattle.std.proofs.Common.{◌≡◌, ◌<◌, ◌≤◌, ◌^◌, ℕ, zero, suc, List, [], ◌∷◌, ◌++◌, length, take, drop, get_or, sym, length-take, ap, ◌∙◌, arith}
use Rattle.std.proofs.Math.Seq.{drop-append_seam}
use Rattle.std.proofs.lemmas.Nat.{be_bytes_2, be_bytes_4, be_bytes_8}
use Rattle.byteorder.specs.Numbers.{big_number-reads_back, length-bytes_high_first, big_from-take}
use Rattle.tt_value.specs.BigEndian.{big_endian, number}

pub length-big_endian : (n x : ℕ) → length (big_endian n x) ≡ n
unfolding big_endian
length-big_endian n x = length-bytes_high_first n x

pub number-big_endian : (n x : ℕ) (rest : List ℕ) → x < 256 ^ n → number n (big_endian n x ++ rest) ≡ x
unfolding big_endian number
number-big_endian n x rest h = big_number-reads_back n x rest h

-- what stands behind a number's bytes
pub drop-big_endian : (n x : ℕ) (rest : List ℕ) → drop n (big_endian n x ++ rest) ≡ rest
drop-big_endian n x rest = ap (λ k. drop k (big_endian n x ++ rest)) (sym (length-big_endian n x)) ∙ drop-append_seam (big_endian n x) rest

-- each is below 256
abbrev pub AreBytes : List ℕ → Type 0
AreBytes bytes = (i : ℕ) → get_or bytes i 0 < 256

pub number-take : (n : ℕ) (bytes : List ℕ) → number n (take n bytes) ≡ number n bytes
unfolding number
number-take n bytes = big_from-take 0 n n bytes (omega arith)

pub take_bytes : (n : ℕ) (bytes : List ℕ) → AreBytes bytes → AreBytes (take n bytes)
take_bytes zero bytes h i = omega arith
take_bytes (suc n) [] h i = h i
take_bytes (suc n) (b ∷ bytes) h zero = h zero
take_bytes (suc n) (b ∷ bytes) h (suc i) = take_bytes n bytes (λ j. h (suc j)) i

pub drop_bytes : (n : ℕ) (bytes : List ℕ) → AreBytes bytes → AreBytes (drop n bytes)
drop_bytes zero bytes h i = h i
drop_bytes (suc n) [] h i = h i
drop_bytes (suc n) (b ∷ bytes) h i = drop_bytes n bytes (λ j. h (suc j)) i

pub big_endian-number_2 : (bytes : List ℕ) → 2 ≤ length bytes → AreBytes bytes → big_endian 2 (number 2 bytes) ≡ take 2 bytes
unfolding big_endian number
big_endian-number_2 bytes h b =
    let same = number-take 2 bytes in
    be_bytes_2 (take 2 bytes) (number 2 bytes) (omega (arith, length-take 2 bytes)) (take_bytes 2 bytes b) (sym same ∙ omega arith)

pub big_endian-number_4 : (bytes : List ℕ) → 4 ≤ length bytes → AreBytes bytes → big_endian 4 (number 4 bytes) ≡ take 4 bytes
unfolding big_endian number
big_endian-number_4 bytes h b =
    let same = number-take 4 bytes in
    be_bytes_4 (take 4 bytes) (number 4 bytes) (omega (arith, length-take 4 bytes)) (take_bytes 4 bytes b) (sym same ∙ omega arith)

pub big_endian-number_8 : (bytes : List ℕ) → 8 ≤ length bytes → AreBytes bytes → big_endian 8 (number 8 bytes) ≡ take 8 bytes
unfolding big_endian number
big_endian-number_8 bytes h b =
    let same = number-take 8 bytes in
    be_bytes_8 (take 8 bytes) (number 8 bytes) (omega (arith, length-take 8 bytes)) (take_bytes 8 bytes b) (sym same ∙ omega arith)
