use Rattle.std.proofs.Common.{◌≡◌, ◌⊎◌, ◌≤◌, ℕ, true, take, None}
use Rattle.std.specs.Prelude.{IfSome}
use Rattle.tt_disk.specs.declared.volume.Name.TheVariants.{Log}
use Rattle.tt_disk.specs.Files.{found, files_now, is_below, IsLogFrom}
use Rattle.tt_disk.proofs.memory.files.least_log.Given as goal

abbrev pub invariant-loop-file : goal.invariant-loop-file
invariant-loop-file l = record {
  there : IfSome l.least (λ n. IsLogFrom (files_now l.files) l.from n);
  passed : (k : ℕ) → l.from ≤ k → is_below k l.least ≡ true → (found (take l.file-index l.files) (Log k) ≡ None) ⊎ (files_now l.files (Log k) ≡ None);
}
