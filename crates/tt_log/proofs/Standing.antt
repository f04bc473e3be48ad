-- The files of a log that is whole are there.
use Rattle.std.proofs.Common.{◌≡◌, ◌≤◌, ◌<◌, ◌+◌, ℕ, Some, None, Err, refl, sym, ap, ◌∙◌, subst, arith}
use Rattle.std.specs.Prelude.{IsOk, IsSome}
use Rattle.tt_disk.specs.declared.volume.Name.TheVariants.{Log as LogFile}
use Rattle.tt_log.proofs.Walks.{Standing}
use Rattle.tt_disk.specs.Volume.{Files, File}
use Rattle.tt_log.specs.declared.log.Log.{Log}
use Rattle.tt_log.specs.declared.refusal.LogRefusal.TheVariants.{Gap}
use Rattle.tt_log.specs.Walk.{Part, on_part, file_read, log_of, since}
use Rattle.tt_log.specs.Log.{IsWhole}
use Rattle.tt_log.proofs.Following.{log_step}
use Rattle.tt_log.proofs.Forcing.{is_found}
use Rattle.tt_log.proofs.Heads.{file_gap}
use Rattle.tt_log.proofs.Purge.{log_later, since_end}

no_file : (k : ℕ) → file_read k None ≡ Err (Gap k)
no_file k = file_gap k None (λ h. absurd (omega (arith, h.0)))

is_there : (k : ℕ) (o : File) (more : Standing) → IsOk (on_part k (file_read k o) more) → IsSome o
is_there k (Some f) more whole = refl
is_there k None more whole = absurd (let bad = subst (λ (p : Part). IsOk (on_part k p more)) (no_file k) whole in cc)

pub file_there : (log : Log) (now : Files) (k : ℕ) → IsWhole log now → log.first_file ≤ k → k ≤ log.current_file → log.current_file < 1000000 → IsSome (now (LogFile k))
file_there log now k w low high top =
    let f = is_found (log_of log.first_file now) log.current_file log.forced_bytes w.0 w.1 in
    let later : log_of k now ≡ since k (log_of log.first_file now) = log_later log.first_file k log.current_file now f.found low high f.is f.at ∙ ap (since k) (sym f.is) in
    let whole : IsOk (log_of k now) = subst (λ (r : Standing). IsOk r) (sym later) (since_end k (log_of log.first_file now) w.0).0 in
    is_there k (now (LogFile k)) (log_of (k + 1) now) (subst (λ (r : Standing). IsOk r) (log_step k now (omega (arith, high, top))) whole)
