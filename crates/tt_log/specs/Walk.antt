-- The entries of a log: those of one numbered file after the other.
use Rattle.std.specs.Prelude.{◌+◌, ◌-◌, ◌&&◌, ◌||◌, ◌==◌, ℕ, zero, suc, List, [], ◌∷◌, ◌++◌, length, take, filter, nat_le, nat_lt, if◌then◌else◌, Bool, true, false, Option, Some, None, Result, Ok, Err}
use Rattle.tt_disk.specs.Volume.{bytes_of, File, Files}
use Rattle.tt_record.specs.Limits.{log_files_end}
use Rattle.tt_disk.specs.declared.volume.Name.TheVariants.{Log}
use Rattle.tt_gate.specs.declared.gate.GateRefusal.{GateRefusal}
use Rattle.tt_gate.specs.declared.gate.GateRefusal.TheVariants.{Absent, BadHeader, BadBatch as GateBad, Failed as GateFailed}
use Rattle.tt_gate.specs.Gate.{gated, whole_bodies}
use Rattle.tt_value.specs.BigEndian.{big_endian}
use Rattle.tt_record.specs.declared.entry.Entry.{Entry}
use Rattle.tt_record.specs.declared.entry.Entry.TheVariants.{Change, Commit, Abort, Mark, Switch}
use Rattle.tt_value.specs.declared.position.Position.{Position}
use Rattle.tt_record.specs.Read.{entries_of}
use Rattle.tt_record.specs.Place.{position}
use Rattle.tt_record.specs.Entry.{length_of}
use Rattle.tt_log.specs.Lengths.{total}
use Rattle.tt_log.specs.Limits.{file_most, last_log_file}
use Rattle.tt_log.specs.declared.refusal.LogRefusal.{LogRefusal}
use Rattle.tt_log.specs.declared.refusal.LogRefusal.TheVariants.{Gap, BadBatch}
use Rattle.tt_gate.specs.Limits.{first_gate_at, header_length}

abbrev pub is_switch : Entry → Bool
is_switch (Change transaction place before after) = false
is_switch (Commit transaction) = false
is_switch (Abort transaction) = false
is_switch Mark = false
is_switch (Switch file) = true

abbrev pub no_switch : List Entry → Bool
no_switch [] = true
no_switch (e ∷ es) = if is_switch e then false else no_switch es

-- the one Switch that may end a file
abbrev pub switches_to : ℕ → Entry → Bool
switches_to n (Change transaction place before after) = false
switches_to n (Commit transaction) = false
switches_to n (Abort transaction) = false
switches_to n Mark = false
switches_to n (Switch file) = (file == n + 1) && nat_lt n last_log_file

abbrev pub switches : ℕ → List Entry → Bool
switches n [] = false
switches n (e ∷ []) = switches_to n e
switches n (e ∷ f ∷ es) = false

-- what is read of a file: its entries, and whether a Switch ends them
abbrev pub Part : Type 0
Part = Result (List Entry × Bool) LogRefusal

abbrev pub before : List Entry → Part → Part
before es (Ok part) = Ok (es ++ part.0, part.1)
before es (Err e) = Err e

-- behind the Switch nothing stands, not even a gate that is damaged
abbrev pub after_switch : Part → Part
after_switch (Ok part) = Ok ([], true)
after_switch (Err e) = Err e

-- a batch of entries that fit into the file, behind so many bytes of others; or the Switch, behind which no batch may stand
abbrev pub chosen : Bool → Bool → Bool → List Entry → ℕ → ℕ → ℕ → ℕ → Part → Part
chosen plain switch last es n at next offset more =
    if plain then (if nat_le (offset + total es) file_most then before es more else Err (BadBatch n at))
    else (if switch then (if last then after_switch more else Err (BadBatch n next)) else Err (BadBatch n at))

abbrev pub batch_read : ℕ → ℕ → ℕ → ℕ → Option (List Entry) → Bool → Part → Part
batch_read n at next offset None last more = Err (BadBatch n at)
batch_read n at next offset (Some es) last more = chosen (no_switch es) (switches n es) last es n at next offset more

abbrev pub is_last : List (List ℕ) → Bool
is_last [] = true
is_last (body ∷ bodies) = false

-- where the entries of a body end, if it has any
abbrev pub offset_behind : ℕ → Option (List Entry) → ℕ
offset_behind offset None = offset
offset_behind offset (Some es) = offset + total es

-- the batches of file n from the gate at this byte on, behind so many bytes of entries
abbrev pub bodies_read : ℕ → ℕ → ℕ → List (List ℕ) → Part → Part
bodies_read n at offset [] end = end
bodies_read n at offset (body ∷ bodies) end =
    batch_read n at (at + 9 + length body) offset (entries_of body) (is_last bodies) (bodies_read n (at + 9 + length body) (offset_behind offset (entries_of body)) bodies end)

unfoldable pub log_header : ℕ → List ℕ
log_header n = 84 ∷ 84 ∷ 76 ∷ 71 ∷ 0 ∷ 0 ∷ 0 ∷ 1 ∷ (big_endian 4 n ++ (0 ∷ 0 ∷ 0 ∷ 0 ∷ []))

abbrev pub same_bytes : List ℕ → List ℕ → Bool
same_bytes [] [] = true
same_bytes [] (b ∷ bs) = false
same_bytes (a ∷ as') [] = false
same_bytes (a ∷ as') (b ∷ bs) = (a == b) && same_bytes as' bs

-- what a log file says whose batches are read so: those behind its header, and its first damage, or its end
abbrev pub part_of : (List (List ℕ) → Part → Part) → ℕ → File → Result (List ℕ × List (List ℕ)) GateRefusal → Part
part_of read n file (Ok found) = if same_bytes found.0 (log_header n) then read found.1 (Ok ([], false)) else Err (Gap n)
part_of read n file (Err (GateBad at)) = if same_bytes (take header_length (bytes_of file)) (log_header n) then read (whole_bodies file) (Err (BadBatch n at)) else Err (Gap n)
part_of read n file (Err Absent) = Err (Gap n)
part_of read n file (Err BadHeader) = Err (Gap n)
part_of read n file (Err GateFailed) = Err (Gap n)

-- what a log file says, or its first damage
unfoldable pub file_read : ℕ → File → Part
file_read n file = part_of (bodies_read n first_gate_at 0) n file (gated file)

-- entries with their positions, and where they end
pub record LogContents : Type 0 where
  pub entries : List (Position × Entry)
  pub end : Position

abbrev pub placed : ℕ → ℕ → List Entry → List (Position × Entry)
placed n offset [] = []
placed n offset (e ∷ es) = (position n offset, e) ∷ placed n (offset + length_of e) es

abbrev pub in_front : List (Position × Entry) → Result LogContents LogRefusal → Result LogContents LogRefusal
in_front ps (Ok found) = Ok (record { entries = ps ++ found.entries; end = found.end })
in_front ps (Err e) = Err e

abbrev pub on_part : ℕ → Part → Result LogContents LogRefusal → Result LogContents LogRefusal
on_part n (Ok part) more = if part.1 then in_front (placed n 0 part.0) more else Ok (record { entries = placed n 0 part.0; end = position n (total part.0) })
on_part n (Err e) more = Err e

abbrev pub walk : ℕ → ℕ → Files → Result LogContents LogRefusal
walk zero n files = Err (Gap n)
walk (suc most) n files = on_part n (file_read n (files (Log n))) (walk most (n + 1) files)

-- the entries from file n on, or the damage
unfoldable pub log_of : ℕ → Files → Result LogContents LogRefusal
log_of n files = walk (log_files_end - n) n files

-- these entries behind what is found
abbrev pub with_more : List Entry → Result LogContents LogRefusal → Result LogContents LogRefusal
with_more es (Ok found) = Ok (record { entries = found.entries ++ placed found.end.file found.end.offset es; end = position found.end.file (found.end.offset + total es) })
with_more es (Err e) = Err e

-- what is found, ending at the start of the next file
abbrev pub switched : Result LogContents LogRefusal → Result LogContents LogRefusal
switched (Ok found) = Ok (record { entries = found.entries; end = position (found.end.file + 1) 0 })
switched (Err e) = Err e

-- in file k or behind it
abbrev pub is_since : ℕ → Position × Entry → Bool
is_since k p = nat_le k p.0.file

-- what is found, from file k on
abbrev pub since : ℕ → Result LogContents LogRefusal → Result LogContents LogRefusal
since k (Ok found) = Ok (record { entries = filter (is_since k) found.entries; end = found.end })
since k (Err e) = Err e

-- at or behind a position
abbrev pub is_from : Position → Position × Entry → Bool
is_from from p = nat_lt from.file p.0.file || ((p.0.file == from.file) && nat_le from.offset p.0.offset)

-- the log without entries
abbrev pub nothing : LogContents
nothing = record { entries = []; end = position 0 0 }

-- this position, or the head of the file behind it
abbrev pub is_at_or_next : Position → Position → Bool
is_at_or_next p at = ((at.file == p.file) && (at.offset == p.offset)) || ((at.file == p.file + 1) && (at.offset == 0))
