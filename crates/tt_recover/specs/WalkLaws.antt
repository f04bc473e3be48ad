-- The walk over the bytes of log files is the model's walk over their entries.
use Rattle.std.proofs.Common.{◌≡◌, ◌≤◌, ◌+◌, ◌-◌, ℕ, zero, suc, Bool, true, false, nat_le, List, [], ◌∷◌, ◌++◌, length, take, Option, Some, None, Result, Ok, Err, if◌then◌else◌, refl, sym, ◌∙◌, ap, ap₂, arith}
use Rattle.tt_disk.specs.Volume.{bytes_of, Files}
use Rattle.tt_disk.specs.declared.volume.Name.TheVariants.{Log}
use Rattle.tt_gate.specs.declared.gate.GateRefusal.{GateRefusal}
use Rattle.tt_gate.specs.declared.gate.GateRefusal.TheVariants.{Absent, BadHeader, BadBatch as GateBad, Failed as GateFailed}
use Rattle.tt_gate.specs.Gate.{gated, whole_bodies}
use Rattle.tt_value.specs.declared.position.Position.{Position}
use Rattle.tt_record.specs.declared.entry.Entry.{Entry}
use Rattle.tt_record.specs.declared.entry.Entry.TheVariants.{Change, Commit, Abort, Mark, Switch}
use Rattle.tt_record.specs.Entry.{length_of}
use Rattle.tt_record.specs.Place.{position}
use Rattle.tt_record.specs.Read.{entries_of}
use Rattle.tt_log.specs.Lengths.{total}
use Rattle.tt_log.specs.declared.refusal.LogRefusal.{LogRefusal}
use Rattle.tt_log.specs.declared.refusal.LogRefusal.TheVariants.{BadBatch, Gap}
use Rattle.tt_log.specs.Walk.{Part, LogContents as Read, after_switch, batch_read, before as put_before, bodies_read, chosen, file_read, in_front, is_last, is_switch, log_header, log_of, no_switch, offset_behind, on_part, part_of, placed, same_bytes, switches, walk}
use Rattle.tt_model.specs.Trail.{Trail}
use Rattle.tt_model.specs.Standing.{laid, named_next, walked, log_of as trail_of}
use Rattle.tt_recover.specs.Opening.{opened_from, opened_of, laid_on, newest_first, opening}
use Rattle.tt_model.specs.Opened.{Opened}
use Rattle.tt_model.specs.Opening.{first_files, opening as model_opening}
use Rattle.tt_model.proofs.Theorems.{first_images_open}

-- a file's entries as they were read, the Switch that ends them among them
abbrev pub entries_read : ℕ → Part → Option (List Entry)
entries_read n (Ok part) = if part.1 then Some (part.0 ++ Switch (n + 1) ∷ []) else Some part.0
entries_read n (Err e) = None

abbrev pub entries_in : Files → ℕ → Option (List Entry)
entries_in logs n = entries_read n (file_read n (logs (Log n)))

-- ---- no Switch is among the entries that a file has before its end

plain_append : (es fs : List Entry) → no_switch es ≡ true → no_switch fs ≡ true → no_switch (es ++ fs) ≡ true
plain_append [] fs a b = b
plain_append (Change t p c d ∷ es) fs a b = plain_append es fs a b
plain_append (Commit t ∷ es) fs a b = plain_append es fs a b
plain_append (Abort t ∷ es) fs a b = plain_append es fs a b
plain_append (Mark ∷ es) fs a b = plain_append es fs a b
plain_append (Switch f ∷ es) fs a b = cc

abbrev pub IsPlain : Part → Type 0
IsPlain (Ok part) = no_switch part.0 ≡ true
IsPlain (Err e) = Unit {0}

plain_before : (es : List Entry) (part : Part) → no_switch es ≡ true → IsPlain part → IsPlain (put_before es part)
plain_before es (Ok part) a b = plain_append es part.0 a b
plain_before es (Err e) a b = tt

plain_turn : (part : Part) → IsPlain (after_switch part)
plain_turn (Ok part) = refl
plain_turn (Err e) = tt

plain_fits : (b : Bool) (es : List Entry) (n at : ℕ) (more : Part) → no_switch es ≡ true → IsPlain more → IsPlain (if b then put_before es more else Err (BadBatch n at))
plain_fits true es n at more a b = plain_before es more a b
plain_fits false es n at more a b = tt

plain_last : (turn last : Bool) (n at next : ℕ) (more : Part) → IsPlain (if turn then (if last then after_switch more else Err (BadBatch n next)) else Err (BadBatch n at))
plain_last true true n at next more = plain_turn more
plain_last true false n at next more = tt
plain_last false last n at next more = tt

plain_chosen : (plain turn last : Bool) (es : List Entry) (n at next offset : ℕ) (more : Part) → no_switch es ≡ plain → IsPlain more → IsPlain (chosen plain turn last es n at next offset more)
plain_chosen true turn last es n at next offset more is rest = plain_fits (nat_le (offset + total es) 67108864) es n at more is rest
plain_chosen false turn last es n at next offset more is rest = plain_last turn last n at next more

plain_batch : (n at next offset : ℕ) (o : Option (List Entry)) (last : Bool) (more : Part) → IsPlain more → IsPlain (batch_read n at next offset o last more)
plain_batch n at next offset None last more rest = tt
plain_batch n at next offset (Some es) last more rest = plain_chosen (no_switch es) (switches n es) last es n at next offset more refl rest

plain_bodies : (n at offset : ℕ) (bodies : List (List ℕ)) (end : Part) → IsPlain end → IsPlain (bodies_read n at offset bodies end)
plain_bodies n at offset [] end is = is
plain_bodies n at offset (body ∷ bodies) end is =
    plain_batch n at (at + 9 + length body) offset (entries_of body) (is_last bodies) (bodies_read n (at + 9 + length body) (offset_behind offset (entries_of body)) bodies end)
    (plain_bodies n (at + 9 + length body) (offset_behind offset (entries_of body)) bodies end is)

plain_headed : (b : Bool) (n k : ℕ) (part : Part) → IsPlain part → IsPlain (if b then part else Err (Gap k))
plain_headed true n k part is = is
plain_headed false n k part is = tt

plain_part : (n : ℕ) (file : Option (List ℕ)) (g : Result (List ℕ × List (List ℕ)) GateRefusal) → IsPlain (part_of (bodies_read n 16 0) n file g)
plain_part n file (Ok found) = plain_headed (same_bytes found.0 (log_header n)) n n (bodies_read n 16 0 found.1 (Ok ([], false))) (plain_bodies n 16 0 found.1 (Ok ([], false)) refl)
plain_part n file (Err (GateBad at)) = plain_headed (same_bytes (take 16 (bytes_of file)) (log_header n)) n n (bodies_read n 16 0 (whole_bodies file) (Err (BadBatch n at))) (plain_bodies n 16 0 (whole_bodies file) (Err (BadBatch n at)) tt)
plain_part n file (Err Absent) = tt
plain_part n file (Err BadHeader) = tt
plain_part n file (Err GateFailed) = tt

pub file_is_plain : (n : ℕ) (file : Option (List ℕ)) → IsPlain (file_read n file)
unfolding file_read
file_is_plain n file = plain_part n file (gated file)

-- ---- entries laid behind a trail

laid_more : (before : Trail) (ps qs : List (Position × Entry)) → laid_on before (ps ++ qs) ≡ laid_on (laid_on before ps) qs
laid_more before [] qs = refl
laid_more before (p ∷ ps) qs = laid_more (record { at = p.0; entry = p.1 } ∷ before) ps qs

laid_step : (file offset : ℕ) (e : Entry) (es : List Entry) (before : Trail) → is_switch e ≡ false → laid file (e ∷ es) (before, offset) ≡ laid file es (record { at = position file offset; entry = e } ∷ before, offset + length_of e)
laid_step file offset (Change t p b a) es before is = refl
laid_step file offset (Commit t) es before is = refl
laid_step file offset (Abort t) es before is = refl
laid_step file offset Mark es before is = refl
laid_step file offset (Switch f) es before is = cc

plain_parts : (e : Entry) (es : List Entry) → no_switch (e ∷ es) ≡ true → (is_switch e ≡ false) × (no_switch es ≡ true)
plain_parts (Change t p b a) es is = (refl, is)
plain_parts (Commit t) es is = (refl, is)
plain_parts (Abort t) es is = (refl, is)
plain_parts Mark es is = (refl, is)
plain_parts (Switch f) es is = cc

pub laid_plain : (file offset : ℕ) (es : List Entry) (before : Trail) → no_switch es ≡ true → laid file es (before, offset) ≡ (laid_on before (placed file offset es), offset + total es)
laid_plain file offset [] before is = ap (λ (k : ℕ). (before, k)) (omega arith)
laid_plain file offset (e ∷ es) before is =
    let parts = plain_parts e es is in
    let next = record { at = position file offset; entry = e } ∷ before in
    laid_step file offset e es before parts.0 ∙ laid_plain file (offset + length_of e) es next parts.1
    ∙ ap (λ (k : ℕ). (laid_on next (placed file (offset + length_of e) es), k)) (let sum : offset + length_of e + total es ≡ offset + total (e ∷ es) = omega arith in sum)

pub laid_switch : (file next offset : ℕ) (es : List Entry) (before : Trail) → no_switch es ≡ true → laid file (es ++ Switch next ∷ []) (before, offset) ≡ laid file es (before, offset)
laid_switch file next offset [] before is = refl
laid_switch file next offset (e ∷ es) before is =
    let parts = plain_parts e es is in
    laid_step file offset e (es ++ Switch next ∷ []) before parts.0
    ∙ laid_switch file next (offset + length_of e) es (record { at = position file offset; entry = e } ∷ before) parts.1
    ∙ sym (laid_step file offset e es before parts.0)

named_step : (e : Entry) (es : List Entry) → is_switch e ≡ false → named_next (e ∷ es) ≡ named_next es
named_step (Change t p b a) es is = refl
named_step (Commit t) es is = refl
named_step (Abort t) es is = refl
named_step Mark es is = refl
named_step (Switch f) es is = cc

named_plain : (es : List Entry) → no_switch es ≡ true → named_next es ≡ None
named_plain [] is = refl
named_plain (e ∷ es) is = let parts = plain_parts e es is in named_step e es parts.0 ∙ named_plain es parts.1

named_switch : (next : ℕ) (es : List Entry) → no_switch es ≡ true → named_next (es ++ Switch next ∷ []) ≡ Some next
named_switch next [] is = refl
named_switch next (e ∷ es) is = let parts = plain_parts e es is in named_step e (es ++ Switch next ∷ []) parts.0 ∙ named_switch next es parts.1

-- ---- the walks

abbrev behind_file : (ℕ → Trail → Option (Trail × Position)) → ℕ → Option ℕ → Trail × ℕ → Option (Trail × Position)
behind_file walk_on file None at = Some (at.0, position file at.1)
behind_file walk_on file (Some next) at = walk_on next at.0

abbrev after_file : (ℕ → Trail → Option (Trail × Position)) → ℕ → Trail → Option (List Entry) → Option (Trail × Position)
after_file walk_on file before o =
    elim o [
      | None ↦ None
      | Some es ↦ elim (named_next es) [
        | None ↦ Some ((laid file es (before, 0)).0, position file ((laid file es (before, 0)).1))
        | Some next ↦ walk_on next ((laid file es (before, 0)).0)
      ]
    ]

file_walked : (more file : ℕ) (entries : ℕ → Option (List Entry)) (before : Trail) (es : List Entry) → entries file ≡ Some es
    → walked (suc more) entries file before ≡ behind_file (walked more entries) file (named_next es) (laid file es (before, 0))
file_walked more file entries before es is =
    ap (after_file (walked more entries) file before) is ∙ by (named_next es)
  where
    by : (o : Option ℕ) → (elim o [ None ↦ Some ((laid file es (before, 0)).0, position file ((laid file es (before, 0)).1)) | Some next ↦ walked more entries next ((laid file es (before, 0)).0) ]) ≡ behind_file (walked more entries) file o (laid file es (before, 0))
    by None = refl
    by (Some next) = refl

last_walked : (more file : ℕ) (entries : ℕ → Option (List Entry)) (before : Trail) (es : List Entry) → entries file ≡ Some es → no_switch es ≡ true
    → walked (suc more) entries file before ≡ Some (laid_on before (placed file 0 es), position file (total es))
last_walked more file entries before es is plain =
    file_walked more file entries before es is
    ∙ ap₂ (behind_file (walked more entries) file) (named_plain es plain) (laid_plain file 0 es before plain)
    ∙ ap (λ (k : ℕ). Some (laid_on before (placed file 0 es), position file k)) (let sum : 0 + total es ≡ total es = omega arith in sum)

turned_walked : (more file : ℕ) (entries : ℕ → Option (List Entry)) (before : Trail) (es : List Entry) → entries file ≡ Some (es ++ Switch (file + 1) ∷ []) → no_switch es ≡ true
    → walked (suc more) entries file before ≡ walked more entries (file + 1) (laid_on before (placed file 0 es))
turned_walked more file entries before es is plain =
    file_walked more file entries before (es ++ Switch (file + 1) ∷ []) is
    ∙ ap₂ (behind_file (walked more entries) file) (named_switch (file + 1) es plain) (laid_switch file (file + 1) 0 es before plain ∙ laid_plain file 0 es before plain)

record Fronted (ps : List (Position × Entry)) (r : Result Read LogRefusal) (read : Read) : Type 0 where
  pub found : Read
  pub is : r ≡ Ok found
  pub all : read ≡ record { entries = ps ++ found.entries; end = found.end }

fronted : (ps : List (Position × Entry)) (r : Result Read LogRefusal) (read : Read) → in_front ps r ≡ Ok read → Fronted ps r read
fronted ps (Ok found) read is = record { found = found; is = refl; all = sym (let same : record { entries = ps ++ found.entries; end = found.end } ≡ read = cc in same) }
fronted ps (Err e) read is = cc

abbrev Ties : ℕ → ℕ → Files → Type 0
Ties m fuel logs = (n : ℕ) (before : Trail) (read : Read) → walk m n logs ≡ Ok read → walked fuel (entries_in logs) n before ≡ Some (laid_on before read.entries, read.end)

part_ties : (m fuel n : ℕ) (logs : Files) (before : Trail) (read : Read) (part : Part) → Ties m fuel logs → file_read n (logs (Log n)) ≡ part → IsPlain part → on_part n part (walk m (n + 1) logs) ≡ Ok read
    → walked (suc fuel) (entries_in logs) n before ≡ Some (laid_on before read.entries, read.end)
part_ties m fuel n logs before read (Err e) ties said plain is = cc
part_ties m fuel n logs before read (Ok (es, false)) ties said plain is =
    last_walked fuel n (entries_in logs) before es (ap (entries_read n) said) plain
    ∙ ap (λ (r : Read). Some (laid_on before r.entries, r.end)) (let same : record { entries = placed n 0 es; end = position n (total es) } ≡ read = cc in same)
part_ties m fuel n logs before read (Ok (es, true)) ties said plain is =
    let ps = placed n 0 es in
    let f = fronted ps (walk m (n + 1) logs) read is in
    turned_walked fuel n (entries_in logs) before es (ap (entries_read n) said) plain
    ∙ ties (n + 1) (laid_on before ps) f.found f.is
    ∙ ap (λ (t : Trail). Some (t, f.found.end)) (sym (laid_more before ps f.found.entries))
    ∙ ap (λ (r : Read). Some (laid_on before r.entries, r.end)) (sym f.all)

walk_ties : (m fuel : ℕ) (logs : Files) → m ≤ fuel → Ties m fuel logs
walk_ties zero fuel logs le n before read is = cc
walk_ties (suc m) zero logs le n before read is = absurd (omega (arith, le))
walk_ties (suc m) (suc fuel) logs le n before read is =
    part_ties m fuel n logs before read (file_read n (logs (Log n))) (walk_ties m fuel logs (omega (arith, le))) refl (file_is_plain n (logs (Log n))) is

-- Where the files can be read, the model's walk over their entries finds just what the walk over their bytes does.
pub walks_tie : (n : ℕ) (logs : Files) (read : Read) → log_of n logs ≡ Ok read → trail_of (entries_in logs) n ≡ Some (newest_first read.entries, read.end)
unfolding log_of trail_of
walks_tie n logs read is = walk_ties (1000000 - n) 1000000 logs (omega arith) n [] read is

-- Opening the log alone finds what the model's opening finds in its entries, behind the empty image of a database that was just created.
pub log_opens_as_model : (logs : Files) (f : Opened) → opening logs ≡ Ok f → model_opening (first_files 1 (entries_in logs)) ≡ Some f
unfolding opening
log_opens_as_model logs f is = by (log_of 0 logs) refl is
  where
    by : (r : Result Read LogRefusal) → log_of 0 logs ≡ r → opened_of r ≡ Ok f → model_opening (first_files 1 (entries_in logs)) ≡ Some f
    by (Ok read) walk found =
        let same : Some (opened_from (newest_first read.entries) read.end) ≡ Some f = cc in
        first_images_open 1 (entries_in logs) (newest_first read.entries) read.end (walks_tie 0 logs read walk) ∙ same
    by (Err e) walk found = cc
