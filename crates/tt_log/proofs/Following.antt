-- The walk from one file to the next.
use Rattle.std.proofs.Common.{◌≡◌, inl, inr, ◌<◌, ◌≤◌, ◌+◌, ◌-◌, ℕ, suc, List, [], ◌++◌, Bool, true, false, Result, Ok, Err, refl, sym, ap, ◌∙◌, subst, arith}
use Rattle.tt_disk.specs.declared.volume.Name.TheVariants.{Log}
use Rattle.tt_disk.specs.Volume.{Files, File}
use Rattle.tt_value.specs.declared.position.Position.{Position}
use Rattle.tt_record.specs.declared.entry.Entry.{Entry}
use Rattle.tt_record.specs.Place.{position}
use Rattle.tt_log.specs.Lengths.{total}
use Rattle.tt_log.specs.declared.file.FileEnd.{FileEnd}
use Rattle.tt_log.specs.declared.opening.LogEnd.{LogEnd}
use Rattle.tt_log.specs.declared.refusal.LogRefusal.{LogRefusal}
use Rattle.tt_log.specs.declared.refusal.LogRefusal.TheVariants.{Gap}
use Rattle.tt_log.specs.Walk.{file_read, placed, in_front, on_part, walk, log_of}
use Rattle.tt_log.specs.Batch.{IsRefused}
use Rattle.tt_log.specs.Opening.{has_place, where_place, started}
use Rattle.tt_log.specs.File.{IsEnd, HasEnd, IsFileEnd, FoundEnd, IsFollowed}
use Rattle.tt_log.proofs.Walks.{in_front_twice, Standing}

fuel : (most n : ℕ) (files : Files) → 1000000 - n ≡ suc most → 1000000 - (n + 1) ≡ most → walk (1000000 - n) n files ≡ on_part n (file_read n (files (Log n))) (walk (1000000 - (n + 1)) (n + 1) files)
fuel most n files one two = ap (λ (k : ℕ). walk k n files) one ∙ ap (λ (k : ℕ). on_part n (file_read n (files (Log n))) (walk k (n + 1) files)) (sym two)

-- one file, and those behind it
pub log_step : (n : ℕ) (files : Files) → n < 1000000 → log_of n files ≡ on_part n (file_read n (files (Log n))) (log_of (n + 1) files)
unfolding log_of
log_step n files below = fuel (1000000 - (n + 1)) n files (omega (arith, below)) refl

pub log_past : (n : ℕ) (files : Files) → 1000000 ≤ n → log_of n files ≡ Err (Gap n)
unfolding log_of
log_past n files above = ap (λ (k : ℕ). walk k n files) (let none : 1000000 - n ≡ 0 = omega (arith, above) in none)

-- the walk from n has passed all files before k
pub record GoneTo (n k : ℕ) (files : Files) : Type 0 where
  pub front : List (Position × Entry)
  pub is : log_of n files ≡ in_front front (log_of k files)

pub in_front_none : (r : Standing) → r ≡ in_front [] r
in_front_none (Ok found) = refl
in_front_none (Err e) = refl

pub gone_none : (n : ℕ) (files : Files) → GoneTo n n files
gone_none n files = record { front = []; is = in_front_none (log_of n files) }

pub gone_more : (n k : ℕ) (files : Files) (end : FileEnd) → k < 1000000 → GoneTo n k files → IsEnd (file_read k (files (Log k))) end → end.switched ≡ true → GoneTo n (k + 1) files
gone_more n k files end below g e switched = record {
  front = g.front ++ placed k 0 e.es;
  is = g.is ∙ ap (in_front g.front) (log_step k files below ∙ ap (λ p. on_part k p (log_of (k + 1) files)) (e.is ∙ ap (λ (b : Bool). Ok (e.es, b)) switched))
      ∙ in_front_twice g.front (placed k 0 e.es) (log_of (k + 1) files);
}

pub gone_end : (n k : ℕ) (files : Files) (end : FileEnd) → k < 1000000 → GoneTo n k files → IsEnd (file_read k (files (Log k))) end → end.switched ≡ false → FoundEnd (log_of n files) (position k end.total)
gone_end n k files end below g e switched = record {
  found = record { entries = g.front ++ placed k 0 e.es; end = position k (total e.es) };
  is = g.is ∙ ap (in_front g.front) (log_step k files below ∙ ap (λ p. on_part k p (log_of (k + 1) files)) (e.is ∙ ap (λ (b : Bool). Ok (e.es, b)) switched));
  end = ap (λ (j : ℕ). position k j) e.long;
}

pub gone_refused : (n k : ℕ) (files : Files) (e : LogRefusal) → k < 1000000 → GoneTo n k files → IsRefused e (file_read k (files (Log k))) → IsFollowed (log_of n files) (Err e)
gone_refused n k files e below g (inl failed) = inl failed
gone_refused n k files e below g (inr (inl wanting)) = inr (inl wanting)
gone_refused n k files e below g (inr (inr is)) = inr (inr (g.is ∙ ap (in_front g.front) (log_step k files below ∙ ap (λ p. on_part k p (log_of (k + 1) files)) is)))

pub end_answered : (wanted n : ℕ) (file other : File) (r : Result FileEnd LogRefusal) (end : FileEnd) → IsFileEnd wanted (file_read n file) r → r ≡ Ok end → file ≡ other → HasEnd wanted (file_read n other) end
end_answered wanted n file other r end says is same =
    let P : Result FileEnd LogRefusal → Type 0 = λ q. IsFileEnd wanted (file_read n file) q in
    let h : HasEnd wanted (file_read n file) end = subst P is says in
    subst (λ o. HasEnd wanted (file_read n o) end) same h

pub end_refused : (wanted n : ℕ) (file other : File) (r : Result FileEnd LogRefusal) (e : LogRefusal) → IsFileEnd wanted (file_read n file) r → r ≡ Err e → file ≡ other → IsRefused e (file_read n other)
end_refused wanted n file other r e says is same =
    let P : Result FileEnd LogRefusal → Type 0 = λ q. IsFileEnd wanted (file_read n file) q in
    let h : IsRefused e (file_read n file) = subst P is says in
    subst (λ o. IsRefused e (file_read n o)) same h

-- ---- a position from which the log is walked

start_refused_by : (from : Position) (files : Files) (e : LogRefusal) → log_of from.file files ≡ Err e → started from files ≡ Err e
start_refused_by from files e is = ap (where_place from (has_place from.offset (file_read from.file (files (Log from.file))))) is

pub start_refused : (from : Position) (files : Files) (q : Result LogEnd LogRefusal) (e : LogRefusal) → IsFollowed (log_of from.file files) q → q ≡ Err e → IsFollowed (started from files) (Err e)
start_refused from files q e says is = let P : Result LogEnd LogRefusal → Type 0 = λ p. IsFollowed (log_of from.file files) p in by_cause (subst P is says)
  where
    by_cause : IsFollowed (log_of from.file files) (Err e) → IsFollowed (started from files) (Err e)
    by_cause (inl failed) = inl failed
    by_cause (inr (inl wanting)) = inr (inl wanting)
    by_cause (inr (inr same)) = inr (inr (start_refused_by from files e same))

pub first_refused : (from : Position) (files : Files) (e : LogRefusal) → from.file < 1000000 → IsRefused e (file_read from.file (files (Log from.file))) → IsFollowed (started from files) (Err e)
first_refused from files e below refused = start_refused from files (Err e) e (gone_refused from.file from.file files e below (gone_none from.file files) refused) refl

pub start_past : (from : Position) (files : Files) → 1000000 ≤ from.file → IsFollowed (started from files) (Err (Gap from.file))
start_past from files above = inr (inr (start_refused_by from files (Gap from.file) (log_past from.file files above)))
