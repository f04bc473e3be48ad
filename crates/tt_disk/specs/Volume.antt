-- What the calls of a volume do to its files, and what a crash may leave of each.
use Rattle.std.specs.Prelude.{◌≡◌, ◌⊎◌, ◌<◌, ◌≤◌, ◌+◌, ◌-◌, ◌^◌, ℕ, min, max, List, [], ◌++◌, length, take, drop, Option, Some, None, IsSome}
use Rattle.tt_disk.specs.declared.volume.Name.{Name}
use Rattle.tt_disk.specs.declared.volume.Name.TheVariants.{Log}

-- the bytes of a file, or None where it isn't there
abbrev pub File : Type 0
File = Option (List ℕ)

-- the files of a volume, by their names
abbrev pub Files : Type 0
Files = Name → File

-- what a crash may leave of each file
abbrev pub Outcomes : Type 1
Outcomes = Name → File → Type 0

-- how long a file is; 0 where there is none
abbrev pub size_of : File → ℕ
size_of (Some f) = length f
size_of None = 0

-- the bytes of a file; none where there is none
abbrev pub bytes_of : File → List ℕ
bytes_of (Some f) = f
bytes_of None = []

-- these bytes with others over them from an offset on
abbrev pub overwritten : ℕ → List ℕ → List ℕ → List ℕ
overwritten at bytes f = take at f ++ bytes ++ drop (at + length bytes) f

-- a file with these bytes over its own from an offset on; none where there is none
abbrev pub written : ℕ → List ℕ → File → File
written at bytes (Some f) = Some (overwritten at bytes f)
written at bytes None = None

-- after a write of n bytes that was done in part: any bytes in the range and past the old end, the same elsewhere
pub record TornBytes (at n : ℕ) (old new : List ℕ) : Type 0 where
  pub before : take at new ≡ take at old
  pub after : drop (at + n) new ≡ drop (at + n) old
  pub no_shorter : length old ≤ length new
  pub no_longer : length new ≤ max (length old) (at + n)

-- a file after a write of n bytes that was done in part; it stays there or stays away
abbrev pub Torn : ℕ → ℕ → File → File → Type 0
Torn at n (Some old) (Some new) = TornBytes at n old new
Torn at n (Some old) None = ⊥
Torn at n None (Some new) = ⊥
Torn at n None None = Unit {0}

-- after a create that was done in part: as it was, or any bytes, no longer than before
abbrev pub Created : File → File → Type 0
Created old new = (new ≡ old) ⊎ ((f : List ℕ) × (new ≡ Some f) × (length f ≤ size_of old))

-- after a create of a file that wasn't there: as it was, or empty. Nothing was emptied.
abbrev pub Made : File → File → Type 0
Made old new = (new ≡ old) ⊎ (new ≡ Some [])

-- after a create of a file that reads like this
abbrev pub CreatedFrom : File → File → File → Type 0
CreatedFrom None old new = Made old new
CreatedFrom (Some f) old new = Created old new

-- after a remove that was done in part: as it was, or gone
abbrev pub Removed : File → File → Type 0
Removed old new = (new ≡ old) ⊎ (new ≡ None)

-- A call that changes one file did this step to it, in whole, in part or not at all. Each outcome of a crash
-- afterwards is an outcome from before after such a step. The other files are as they were.
pub record Steps (step : File → File → Type 0) (name : Name)
    (old new : Files) (may_old may_new : Outcomes) : Type 0 where
  pub reads : step (old name) (new name)
  pub crash : (c : File) → may_new name c → (d : File) × may_old name d × step d c
  pub others : (n : Name) → ¬ (n ≡ name) → new n ≡ old n
  pub others_crash : (n : Name) → ¬ (n ≡ name) → (c : File) → may_new n c → may_old n c

-- A call that changes no file: a crash afterwards leaves nothing that one before could not.
pub record Keeps (old new : Files) (may_old may_new : Outcomes) : Type 0 where
  pub reads : (n : Name) → new n ≡ old n
  pub crash : (n : Name) (c : File) → may_new n c → may_old n c

-- All but one file is as it was, and a crash leaves of the others nothing that it couldn't have left before.
pub record OnlyAt (name : Name) (old new : Files) (may_old may_new : Outcomes) : Type 0 where
  pub reads : (n : Name) → ¬ (n ≡ name) → new n ≡ old n
  pub crash : (n : Name) → ¬ (n ≡ name) → (c : File) → may_new n c → may_old n c

-- a crash leaves this file as it reads
abbrev pub IsSettled : Name → Files → Outcomes → Type 0
IsSettled name now may = (c : File) → may name c → c ≡ now name

-- how many bytes a read at an offset gives, and which
pub record Gives (file : File) (at : ℕ) (buf : List ℕ) (n : ℕ) : Type 0 where
  pub count : n ≡ min (length buf) (size_of file - at)
  pub bytes : (f : List ℕ) → file ≡ Some f → take n buf ≡ take n (drop at f)

-- the least log from this number on
abbrev pub IsNextLog : Files → ℕ → Option ℕ → Type 0
IsNextLog now from (Some n) = (from ≤ n) × (n < 2 ^ 32) × IsSome (now (Log n)) × ((k : ℕ) → from ≤ k → k < n → now (Log k) ≡ None)
IsNextLog now from None = (k : ℕ) → from ≤ k → k < 2 ^ 32 → now (Log k) ≡ None
