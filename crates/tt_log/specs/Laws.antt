-- What the layers above may know of a log.
use Rattle.std.proofs.Common.{◌≡◌, ◌∙◌, ℕ, List, ◌∷◌, true, false, Option, Some, None, refl, sym, ap, subst}
use Rattle.std.specs.Prelude.{IsOk}
use Rattle.tt_disk.specs.Volume.{Keeps, Files, Outcomes}
use Rattle.tt_gate.specs.Laws.{ready_kept}
use Rattle.tt_record.specs.Place.{end_of, position_of}
use Rattle.tt_value.specs.declared.position.Position.{Position}
use Rattle.tt_log.specs.declared.log.Log.{Log}
use Rattle.tt_log.specs.declared.scan.Scan.{Scan}
use Rattle.tt_log.specs.Walk.{log_of}
use Rattle.tt_log.specs.Log.{IsOpen, IsWhole, walk_end}
use Rattle.tt_log.specs.Scan.{IsScanning}
use Rattle.tt_log.specs.Placement.{placed_then, all_placed}

-- an open log's files read without damage
pub open_whole : (log : Log) (now : Files) (may : Outcomes) → IsOpen log now may → IsWhole log now
open_whole log now may open_log = (open_log.whole, open_log.end)

-- over a call that changes no file a log stays as it is
pub open_kept : (log : Log) (a b : Files) (may_a may_b : Outcomes) → Keeps a b may_a may_b → IsOpen log a may_a → IsOpen log b may_b
open_kept log a b may_a may_b keeps is =
    let same : b ≡ a = λ i n. keeps.reads n i in
    record {
      gate = ready_kept log.file a b may_a may_b keeps is.gate;
      fresh = is.fresh;
      body = is.body;
      plain = is.plain;
      long = is.long;
      whole = subst (λ (files : Files). IsOk (log_of log.first_file files)) (sym same) is.whole;
      end = ap (λ (files : Files). walk_end (log_of log.first_file files)) same ∙ is.end;
    }

-- over a call that changes no file a scan stays as it is
pub scan_kept : (scan : Scan) (log : Log) (a b : Files) (may_a may_b : Outcomes) → Keeps a b may_a may_b → IsScanning scan log a → IsScanning scan log b
scan_kept scan log a b may_a may_b keeps is =
    let same : b ≡ a = λ i n. keeps.reads n i in
    subst (λ (files : Files). IsScanning scan log files) (sym same) is

-- where entries of given lengths fit, the first has a place, and the others fit behind it
pub record HasFirst (end : Position) (size n : ℕ) (ns : List ℕ) : Type 0 where
  pub at : Position
  pub place : position_of end n size ≡ Some at
  pub rest : all_placed (end_of at n) size ns ≡ true

by_place : (end : Position) (size n : ℕ) (ns : List ℕ) (o : Option Position) → position_of end n size ≡ o → placed_then o (λ at. all_placed (end_of at n) size ns) ≡ true → HasFirst end size n ns
by_place end size n ns None is fits = absurd (let bad : false ≡ true = fits in cc)
by_place end size n ns (Some at) is fits = record { at = at; place = is; rest = fits }

pub first_fits : (end : Position) (size n : ℕ) (ns : List ℕ) → all_placed end size (n ∷ ns) ≡ true → HasFirst end size n ns
first_fits end size n ns fits = by_place end size n ns (position_of end n size) refl fits
