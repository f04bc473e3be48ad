-- Pieces behind each other.
use Rattle.std.proofs.Common.{◌≡◌, ℕ, Bool, true, false, not, List, [], ◌∷◌, ◌++◌, refl, sym, ◌∙◌, append_assoc}
use Rattle.std.specs.Prelude.{if◌then◌else◌}
use Rattle.std.proofs.lemmas.List.Sums.{fold-append}
use Rattle.tt_parse.specs.Printer.{Written, put, put_all, empty}
use Rattle.tt_parse.specs.Spelling.{Piece, spaced, joined}
use Rattle.tt_parse.proofs.Exact.{append-[]}

pub spaced_bytes : (none : Bool) (front bytes : List ℕ) →
    (if not none then front ++ 32 ∷ [] else front) ++ bytes ≡ front ++ (if none then bytes else 32 ∷ bytes)
spaced_bytes true front bytes = refl
spaced_bytes false front bytes = append_assoc front (32 ∷ []) bytes

pub put_all_append : (s : Written) (ps qs : List Piece) → put_all s (ps ++ qs) ≡ put_all (put_all s ps) qs
put_all_append s ps qs = fold-append put s ps qs

-- what the pieces add to what is written
written_behind : (s : Written) (ps : List Piece) → (put_all s ps).bytes ≡ s.bytes ++ joined s.joins ps
unfolding put joined
written_behind s [] = sym (append-[] s.bytes)
written_behind s (p ∷ ps) = written_behind (put s p) ps ∙ append_assoc s.bytes (spaced s.joins p) (joined p.joins ps)

pub written : (ps : List Piece) → (put_all empty ps).bytes ≡ joined true ps
written ps = written_behind empty ps
