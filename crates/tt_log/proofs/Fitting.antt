-- Entries that get their places.
use Rattle.std.proofs.Common.{◌≡◌, ◌<◌, ◌+◌, ℕ, Bool, nat_lt, List, [], ◌∷◌, Option, Some, None, refl, sym, ◌∙◌, ap, arith, if◌then◌else◌}
use Rattle.tt_value.specs.declared.position.Position.{Position}
use Rattle.tt_record.specs.Place.{position, end_of, position_of}
use Rattle.tt_log.specs.Placement.{placed_then, all_placed}
use Rattle.tt_log.proofs.Sums.{not_le}

abbrev chosen : Bool → Position → Position
chosen fits end = if fits then end else position (end.file + 1) 0

abbrev numbered : Position → Option Position
numbered at = if nat_lt at.file 1000000 then Some at else None

full_place : (file offset n size : ℕ) → size < offset → position_of (position file offset) n size ≡ numbered (position (file + 1) 0)
full_place file offset n size over = ap (λ (b : Bool). numbered (chosen b (position file offset))) (not_le (offset + n) size (omega (arith, over)))

-- past the size of a file one end is as good as another
pub full_ends : (file a b size : ℕ) (rest : List ℕ) → size < a → size < b → all_placed (position file a) size rest ≡ all_placed (position file b) size rest
full_ends file a b size [] over other = refl
full_ends file a b size (n ∷ rest) over other =
    ap (λ o. placed_then o (λ at. all_placed (end_of at n) size rest)) (full_place file a n size over ∙ sym (full_place file b n size other))
