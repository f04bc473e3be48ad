-- The definitions on a few files.
use Rattle.std.proofs.Common.{◌≡◌, ℕ, zero, suc, true, false, List, [], ◌∷◌, ◌++◌, Some, None, Ok, Err, refl}
use Rattle.tt_disk.specs.declared.volume.Name.TheVariants.{Log}
use Rattle.tt_disk.specs.Volume.{Files}
use Rattle.tt_gate.specs.Gate.{length_at, whole_bodies}
use Rattle.tt_value.specs.BigEndian.{big_endian, number}
use Rattle.tt_record.specs.Read.{entry_at, entries_of, switch_at}
use Rattle.tt_record.specs.declared.entry.Entry.TheVariants.{Mark}
use Rattle.tt_log.specs.declared.refusal.LogRefusal.TheVariants.{Gap, BadBatch}
use Rattle.tt_log.specs.Walk.{file_read, log_header, walk}
use Rattle.tt_record.specs.Place.{position}

abbrev two_files : List ℕ → List ℕ → Files
two_files a b (Log zero) = Some a
two_files a b (Log (suc n)) = Some b
two_files a b _ = None

abbrev header : ℕ → List ℕ
header n = 84 ∷ 84 ∷ 76 ∷ 71 ∷ 0 ∷ 0 ∷ 0 ∷ 1 ∷ 0 ∷ 0 ∷ 0 ∷ n ∷ 0 ∷ 0 ∷ 0 ∷ 0 ∷ []

-- a batch of n bytes
abbrev batch : ℕ → List ℕ → List ℕ
batch n body = 1 ∷ 0 ∷ 0 ∷ 0 ∷ 0 ∷ 0 ∷ 0 ∷ 0 ∷ n ∷ body

-- a Mark, and then a Switch to a file with another Mark
first : file_read 0 (Some (header 0 ++ batch 1 (4 ∷ []) ++ batch 5 (5 ∷ 0 ∷ 0 ∷ 0 ∷ 1 ∷ []) ++ 0 ∷ [])) ≡ Ok (Mark ∷ [], true)
unfolding file_read length_at whole_bodies big_endian number entry_at switch_at entries_of log_header
first = refl

second : file_read 1 (Some (header 1 ++ batch 2 (4 ∷ 4 ∷ []) ++ 7 ∷ 9 ∷ [])) ≡ Ok (Mark ∷ Mark ∷ [], false)
unfolding file_read length_at whole_bodies big_endian number entry_at switch_at entries_of log_header
second = refl

-- a batch off the grammar before a gate that is damaged: the batch is answered
damaged : file_read 0 (Some (header 0 ++ batch 1 (6 ∷ []) ++ batch 9 (4 ∷ []))) ≡ Err (BadBatch 0 16)
unfolding file_read length_at whole_bodies big_endian number entry_at switch_at entries_of log_header
damaged = refl

-- a gate behind the Switch
behind : file_read 0 (Some (header 0 ++ batch 5 (5 ∷ 0 ∷ 0 ∷ 0 ∷ 1 ∷ []) ++ batch 1 (4 ∷ []) ++ 0 ∷ [])) ≡ Err (BadBatch 0 30)
unfolding file_read length_at whole_bodies big_endian number entry_at switch_at entries_of log_header
behind = refl

other_header : file_read 1 (Some (header 0 ++ 0 ∷ [])) ≡ Err (Gap 1)
unfolding file_read length_at whole_bodies big_endian number entry_at switch_at entries_of log_header
other_header = refl

walked : walk 3 0 (two_files (header 0 ++ batch 1 (4 ∷ []) ++ batch 5 (5 ∷ 0 ∷ 0 ∷ 0 ∷ 1 ∷ []) ++ 0 ∷ []) (header 1 ++ batch 2 (4 ∷ 4 ∷ []) ++ 7 ∷ 9 ∷ []))
    ≡ Ok (record { entries = (position 0 0, Mark) ∷ (position 1 0, Mark) ∷ (position 1 1, Mark) ∷ []; end = position 1 2 })
unfolding file_read length_at whole_bodies big_endian number entry_at switch_at entries_of log_header
walked = refl
