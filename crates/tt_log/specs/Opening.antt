-- Where entries start.
use Rattle.std.specs.Prelude.{◌≡◌, ◌≤◌, ◌+◌, ◌==◌, ◌||◌, ℕ, List, [], ◌∷◌, length, drop, Bool, false, if◌then◌else◌, Some, Result, Ok, Err}
use Rattle.tt_disk.specs.declared.volume.Name.TheVariants.{Log}
use Rattle.tt_disk.specs.Volume.{Files}
use Rattle.tt_value.specs.declared.position.Position.{Position}
use Rattle.tt_record.specs.declared.entry.Entry.{Entry}
use Rattle.tt_record.specs.Entry.{length_of}
use Rattle.tt_record.specs.Read.{entries_of, entry_at}
use Rattle.tt_log.specs.Lengths.{total}
use Rattle.tt_log.specs.declared.refusal.LogRefusal.{LogRefusal}
use Rattle.tt_log.specs.declared.refusal.LogRefusal.TheVariants.{BadBatch}
use Rattle.tt_log.specs.Walk.{LogContents, Part, file_read, log_of}

-- one of these entries, of which the first stands at an offset, starts at k
abbrev pub starts_at : ℕ → ℕ → List Entry → Bool
starts_at k at [] = false
starts_at k at (e ∷ es) = (at == k) || starts_at k (at + length_of e) es

-- whether an entry starts at k of a body of whole entries, of which the first stands at an offset
abbrev pub TellsStart : ℕ → ℕ → List ℕ → Bool → Type 0
TellsStart k at bytes starts = (es : List Entry) → entries_of bytes ≡ Some es → total es ≡ length bytes → starts ≡ starts_at k at es

-- an entry of a file with these starts at k, or they end there
abbrev pub is_place : ℕ → List Entry → Bool
is_place k es = starts_at k 0 es || (total es == k)

abbrev pub has_place : ℕ → Part → Bool
has_place k (Ok part) = is_place k part.0
has_place k (Err e) = false

abbrev pub where_place : Position → Bool → Result LogContents LogRefusal → Result LogContents LogRefusal
where_place from has (Ok found) = if has then Ok found else Err (BadBatch from.file 0)
where_place from has (Err e) = Err e

-- what is found from the file of a position on, where the position is the start of an entry of its file or the end of its entries
abbrev pub started : Position → Files → Result LogContents LogRefusal
started from files = where_place from (has_place from.offset (file_read from.file (files (Log from.file)))) (log_of from.file files)

-- the position is one from which its file's log can be read
abbrev pub IsStart : Position → Files → Type 0
IsStart from files = started from files ≡ log_of from.file files

-- an entry of so many bytes stands at an offset
pub record HasEntry (bytes : List ℕ) (at n : ℕ) : Type 0 where
  pub entry : Entry
  pub is : entry_at (drop at bytes) ≡ Some (entry, n)
  pub long : n ≡ length_of entry
  pub some : 1 ≤ n
  pub within : at + n ≤ length bytes
