-- Copies as pieces of one buffer.
use Rattle.std.proofs.Common.{◌≡◌, ◌≤◌, ◌<◌, ◌+◌, ◌*◌, ℕ, zero, suc, List, [], ◌∷◌, ◌++◌, length, take, drop, refl, sym, ◌∙◌, ap, ap₂, arith, length-append, length-take, length-drop, set, slice_index}
use Rattle.std.specs.Prelude.{Vec}
use Rattle.std.specs.declared.alloc.Global.{Global}
use Rattle.std.specs.List.{All}
use Rattle.std.specs.Vec.{with_items}
use Rattle.std.proofs.Math.Nat.{mul-suc, mul-zero, mul-le-mul_left}
use Rattle.std.proofs.Math.Seq.{take-add}
use Rattle.std.proofs.lemmas.List.Elements.{All-cons}
use Rattle.std.proofs.lemmas.List.{take_at, take-take, drop-drop, drop-take, drop-append-le, take-append-le, take_more_set, length-take-le, length-set, get_or-take, with_items_is}
use Rattle.tt_cells.specs.declared.cells.PageCopy.{PageCopy}
use Rattle.tt_cells.specs.Limits.{page_size}
use Rattle.tt_cells.specs.Copies.{Copies, with_copy, pages_of, joined, AreSound, copies_of, copies_in, AreKept, put_at}

-- ---- laws on these, over any number of bytes a copy

pub length-copies_of : (size : ℕ) (pages bytes : List ℕ) → length (copies_of size pages bytes) ≡ length pages
unfolding copies_of
length-copies_of size [] bytes = refl
length-copies_of size (page ∷ pages) bytes = ap suc (length-copies_of size pages (drop size bytes))

pub pages-copies_of : (size : ℕ) (pages bytes : List ℕ) → pages_of (copies_of size pages bytes) ≡ pages
unfolding copies_of
pages-copies_of size [] bytes = refl
pages-copies_of size (page ∷ pages) bytes = ap (λ (l : List ℕ). page ∷ l) (pages-copies_of size pages (drop size bytes))

pub drop-copies_of : (size from : ℕ) (pages bytes : List ℕ) → drop from (copies_of size pages bytes) ≡ copies_of size (drop from pages) (drop (size * from) bytes)
unfolding copies_of
drop-copies_of size zero pages bytes = ap (λ (k : ℕ). copies_of size pages (drop k bytes)) (sym (mul-zero size))
drop-copies_of size (suc from) [] bytes = refl
drop-copies_of size (suc from) (page ∷ pages) bytes =
    let on : size + size * from ≡ size * suc from = omega (arith, mul-suc size from) in
    drop-copies_of size from pages (drop size bytes) ∙ ap (copies_of size (drop from pages)) (drop-drop (size * from) size bytes ∙ ap (λ (k : ℕ). drop k bytes) on)

pub joined-copies_of : (size count : ℕ) (pages bytes : List ℕ) → count ≤ length pages → joined (take count (copies_of size pages bytes)) ≡ take (size * count) bytes
unfolding copies_of
joined-copies_of size zero pages bytes le = ap (λ (k : ℕ). take k bytes) (sym (mul-zero size))
joined-copies_of size (suc count) [] bytes le = absurd (omega (arith, le))
joined-copies_of size (suc count) (page ∷ pages) bytes le =
    let on : size + size * count ≡ size * suc count = omega (arith, mul-suc size count) in
    ap (λ (l : List ℕ). take size bytes ++ l) (joined-copies_of size count pages (drop size bytes) (omega (arith, le))) ∙ sym (take-add size (size * count) bytes) ∙ ap (λ (k : ℕ). take k bytes) on

-- the bytes of a run of them are a piece of the buffer
pub joined_run : (size from count : ℕ) (pages bytes : List ℕ) → from + count ≤ length pages → joined (take count (drop from (copies_of size pages bytes))) ≡ take (size * count) (drop (size * from) bytes)
joined_run size from count pages bytes le =
    ap (λ (l : List PageCopy). joined (take count l)) (drop-copies_of size from pages bytes) ∙ joined-copies_of size count (drop from pages) (drop (size * from) bytes) (omega (arith, le, length-drop from pages))

-- one more behind the others
module _ (size : ℕ) (page : ℕ) (new rest : List ℕ) (long : length new ≡ size) where
  pub copies_more : (pages buffer : List ℕ) → size * length pages ≤ length buffer
      → copies_of size (pages ++ page ∷ []) (take (size * length pages) buffer ++ (new ++ rest)) ≡ copies_of size pages buffer ++ record { page = page; bytes = new } ∷ []
  unfolding copies_of
  copies_more [] buffer le =
      let front : take size (take (size * 0) buffer ++ (new ++ rest)) ≡ new = ap (λ (k : ℕ). take size (take k buffer ++ (new ++ rest))) (mul-zero size) ∙ take_at new rest size long in
      ap (λ (l : List ℕ). record { page = page; bytes = l } ∷ []) front
  copies_more (p ∷ pages) buffer le =
      let m = size * length pages in
      let on : size * suc (length pages) ≡ size + m = omega (arith, mul-suc size (length pages)) in
      let whole : size + m ≤ length buffer = omega (arith, le, on) in
      let counted : length (take (size + m) buffer) ≡ size + m = omega (arith, length-take (size + m) buffer, whole) in
      let parted = ap (λ (k : ℕ). take k buffer ++ (new ++ rest)) on in
      let first : take size (take (size * suc (length pages)) buffer ++ (new ++ rest)) ≡ take size buffer =
      ap (take size) parted ∙ take-append-le size (take (size + m) buffer) (new ++ rest) (omega (arith, counted)) ∙ take-take size (size + m) buffer (omega arith) in
      let others : drop size (take (size * suc (length pages)) buffer ++ (new ++ rest)) ≡ take m (drop size buffer) ++ (new ++ rest) =
      ap (drop size) parted ∙ drop-append-le size (take (size + m) buffer) (new ++ rest) (omega (arith, counted)) ∙ ap (λ (l : List ℕ). l ++ (new ++ rest)) (drop-take size m buffer) in
      ap₂ (λ (a : List ℕ) (l : List PageCopy). record { page = p; bytes = a } ∷ l) first
      (ap (copies_of size (pages ++ page ∷ [])) others ∙ copies_more pages (drop size buffer) (omega (arith, whole, length-drop size buffer)))

-- the same of the first pages of a list, where the next one is set
pub copies_put : (size count page : ℕ) (numbers buffer new : List ℕ) → length new ≡ size → count < length numbers → size * length numbers ≤ length buffer
    → copies_of size (take (count + 1) (set numbers count page)) (put_at size count new buffer) ≡ copies_of size (take count numbers) buffer ++ record { page = page; bytes = new } ∷ []
copies_put size count page numbers buffer new long less le =
    let counted : length (take count numbers) ≡ count = omega (arith, length-take count numbers, less) in
    let rest = drop size (drop (size * count) buffer) in
    let fits : size * length (take count numbers) ≤ length buffer = omega (arith, le, mul-le-mul_left {m = length (take count numbers)} {n = length numbers} size (omega (arith, counted, less))) in
    ap₂ (λ (l : List ℕ) (k : ℕ). copies_of size l (take (size * k) buffer ++ (new ++ rest))) (take_more_set numbers count page less) (sym counted)
    ∙ copies_more size page new rest long (take count numbers) buffer fits

-- each copy has its bytes, where the buffer has them all
pub each-copies_of : (size : ℕ) (pages bytes : List ℕ) → size * length pages ≤ length bytes → All (λ (copy : PageCopy). length copy.bytes ≡ size) (copies_of size pages bytes)
unfolding copies_of
each-copies_of size [] bytes le = λ k copy less. absurd (omega (arith, less))
each-copies_of size (page ∷ pages) bytes le =
    let on : size * suc (length pages) ≡ size + size * length pages = omega (arith, mul-suc size (length pages)) in
    All-cons (λ (copy : PageCopy). length copy.bytes ≡ size) (record { page = page; bytes = take size bytes }) (copies_of size pages (drop size bytes))
    (omega (arith, length-take size bytes, le, on)) (each-copies_of size pages (drop size bytes) (omega (arith, le, on, length-drop size bytes)))

-- ---- laws on what is kept

pub length-copies_in : (count : ℕ) (numbers buffer : List ℕ) → count ≤ length numbers → length (copies_in count numbers buffer).copies ≡ count
length-copies_in count numbers buffer le = length-copies_of page_size (take count numbers) buffer ∙ length-take-le count numbers le

pub page-copies_in : (count at : ℕ) (numbers buffer : List ℕ) → at < count → slice_index (pages_of (copies_in count numbers buffer).copies) at ≡ slice_index numbers at
page-copies_in count at numbers buffer less = ap (λ (l : List ℕ). slice_index l at) (pages-copies_of page_size (take count numbers) buffer) ∙ get_or-take count numbers at 0 less

-- so many of them end within the buffer
pub within_buffer : (size n count : ℕ) → n ≤ count → size * n ≤ size * count
within_buffer size n count le = mul-le-mul_left {m = n} {n = count} size le

-- and one more begins and ends within it
pub one_within : (size at count : ℕ) → at < count → size * at + size ≤ size * count
one_within size at count less = omega (arith, mul-suc size at, within_buffer size (suc at) count (omega (arith, less)))

pub kept_sound : (count : ℕ) (numbers buffer : List ℕ) → AreKept count numbers buffer → AreSound (copies_in count numbers buffer)
kept_sound count numbers buffer kept = record {
  some = kept.some;
  most = kept.most;
  few = omega (arith, length-copies_in count numbers buffer kept.few, kept.few);
  whole = each-copies_of page_size (take count numbers) buffer
      (omega (arith, kept.buffer, within_buffer page_size (length (take count numbers)) (length numbers) (omega (arith, length-take count numbers))));
}

pub length-put_at : (size at : ℕ) (new buffer : List ℕ) → length new ≡ size → size * at + size ≤ length buffer → length (put_at size at new buffer) ≡ length buffer
length-put_at size at new buffer long le =
    let start = size * at in
    omega (
      arith,
      long,
      le,
      length-append (take start buffer) (new ++ drop size (drop start buffer)),
      length-append new (drop size (drop start buffer)),
      length-take start buffer,
      length-drop size (drop start buffer),
      length-drop start buffer,
    )

pub copies_in_more : (count : ℕ) (numbers buffer : List ℕ) (copy : PageCopy) → count < length numbers → length buffer ≡ page_size * length numbers → length copy.bytes ≡ page_size
    → copies_in (count + 1) (set numbers count copy.page) (put_at page_size count copy.bytes buffer) ≡ with_copy copy (copies_in count numbers buffer)
copies_in_more count numbers buffer copy less filled long =
    ap₂ (λ (n : ℕ) (l : List PageCopy). let c : Copies = record { room = n; copies = l } in c) (length-set numbers count copy.page)
    (copies_put page_size count copy.page numbers buffer copy.bytes long less (omega (arith, filled)))

-- where there is room for one more, its number and its bytes have a place
pub next_within : (count : ℕ) (numbers buffer : List ℕ) (c : Copies) → AreKept count numbers buffer → copies_in count numbers buffer ≡ c → length c.copies < c.room → count < length numbers
next_within count numbers buffer c kept is less =
    omega (arith, less, length-copies_in count numbers buffer kept.few, ap (λ (x : Copies). length x.copies) is, ap (λ (x : Copies). x.room) is)

-- what is kept when a copy was put behind the others
pub kept_more : (count : ℕ) (numbers buffer numbers' buffer' : List ℕ) (copy : PageCopy) → AreKept count numbers buffer → count < length numbers → length copy.bytes ≡ page_size
    → numbers' ≡ set numbers count copy.page → buffer' ≡ put_at page_size count copy.bytes buffer → AreKept (count + 1) numbers' buffer'
kept_more count numbers buffer numbers' buffer' copy kept less long n b =
    let counted : length numbers' ≡ length numbers = ap length n ∙ length-set numbers count copy.page in
    let within : page_size * count + page_size ≤ length buffer = omega (arith, one_within page_size count (length numbers) less, kept.buffer) in
    let filled : length buffer' ≡ length buffer = ap length b ∙ length-put_at page_size count copy.bytes buffer long within in
    record {
      some = omega (arith, kept.some, counted);
      most = omega (arith, kept.most, counted);
      few = omega (arith, less, counted);
      buffer = filled ∙ kept.buffer ∙ ap (λ (k : ℕ). page_size * k) (sym counted);
    }

-- what a vector of numbers and a vector of bytes have when a copy was put at a place
module _ (numbers buffer : Vec ℕ Global) (count : ℕ) (n b : List ℕ) (copy : PageCopy)
    (kept : AreKept count numbers.items buffer.items) (less : count < length numbers.items) (long : length copy.bytes ≡ page_size)
    (number : n ≡ set numbers.items count copy.page) (bytes : b ≡ put_at page_size count copy.bytes buffer.items) where
  within : page_size * count + page_size ≤ length buffer.items
  within = omega (arith, one_within page_size count (length numbers.items) less, kept.buffer)

  numbers_are : (with_items numbers n).items ≡ set numbers.items count copy.page
  numbers_are = with_items_is numbers n (ap length number ∙ length-set numbers.items count copy.page ∙ sym numbers.ok.0) ∙ number

  bytes_are : (with_items buffer b).items ≡ put_at page_size count copy.bytes buffer.items
  bytes_are = with_items_is buffer b (ap length bytes ∙ length-put_at page_size count copy.bytes buffer.items long within ∙ sym buffer.ok.0) ∙ bytes

  pub put_kept : AreKept (count + 1) (with_items numbers n).items (with_items buffer b).items
  put_kept = kept_more count numbers.items buffer.items _ _ copy kept less long numbers_are bytes_are

  pub put_copies : copies_in (count + 1) (with_items numbers n).items (with_items buffer b).items ≡ with_copy copy (copies_in count numbers.items buffer.items)
  put_copies = ap₂ (copies_in (count + 1)) numbers_are bytes_are ∙ copies_in_more count numbers.items buffer.items copy less kept.buffer long
