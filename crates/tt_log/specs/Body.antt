-- What the body of a batch is.
use Rattle.std.specs.Prelude.{◌≡◌, ◌<◌, ◌≤◌, ℕ, List, [], ◌++◌, length, drop, true, if◌then◌else◌, Option, Some, None}
use Rattle.tt_record.specs.declared.entry.Entry.{Entry}
use Rattle.tt_record.specs.Read.{entries_of}
use Rattle.tt_log.specs.Lengths.{total}
use Rattle.tt_record.specs.declared.entry.Entry.TheVariants.{Change, Commit, Abort, Mark, Switch}
use Rattle.tt_log.specs.declared.body.Body.{Body}
use Rattle.tt_log.specs.declared.body.Step.{Step}
use Rattle.tt_log.specs.declared.body.Step.TheVariants.{Ends, Goes}
use Rattle.tt_log.specs.declared.body.Body.TheVariants.{Entries, NextFile, Bad}
use Rattle.tt_log.specs.Walk.{no_switch, switches}

abbrev pub body_in : ℕ → Option (List Entry) → Body
body_in n None = Bad
body_in n (Some es) = if no_switch es then Entries (total es) else (if switches n es then NextFile else Bad)

abbrev pub joined : List Entry → Option (List Entry) → Option (List Entry)
joined es None = None
joined es (Some fs) = Some (es ++ fs)

-- the entries that were read so far
pub record SoFar (bytes : List ℕ) (at : ℕ) : Type 0 where
  pub es : List Entry
  pub is : entries_of bytes ≡ joined es (entries_of (drop at bytes))
  pub plain : no_switch es ≡ true
  pub long : total es ≡ at
  pub none : at ≡ 0 → es ≡ []
  pub some : 0 < at → 0 < length es

-- the file that a Switch names
abbrev pub switch_of : Entry → Option ℕ
switch_of (Change transaction place before after) = None
switch_of (Commit transaction) = None
switch_of (Abort transaction) = None
switch_of Mark = None
switch_of (Switch file) = Some file

-- what a step says is so
abbrev pub IsStep : ℕ → List ℕ → ℕ → Step → Type 0
IsStep number bytes at (Ends body) = body ≡ body_in number (entries_of bytes)
IsStep number bytes at (Goes next) = (at < next) × (next ≤ length bytes) × SoFar bytes next
