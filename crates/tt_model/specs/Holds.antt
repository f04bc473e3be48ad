-- What keeps the log from a position on.
use Rattle.std.specs.Prelude.{ℕ, Bool, true, false, nat_eq, List, [], ◌∷◌, ◌++◌, map, filter_map, option_map, Option, Some, None}
use Rattle.tt_value.specs.declared.position.Position.{Position}
use Rattle.tt_value.specs.declared.reply.Hold.{Hold}
use Rattle.tt_value.specs.declared.reply.HoldKind.{HoldKind}
use Rattle.tt_value.specs.declared.reply.HoldKind.TheVariants.{Checkpoint, Backup, Xla, Transaction}
use Rattle.tt_record.specs.declared.entry.Entry.{Entry}
use Rattle.tt_record.specs.declared.entry.Entry.TheVariants.{Change}
use Rattle.tt_model.specs.Trail.{Trail, before, least_position}
use Rattle.tt_model.specs.Committed.{Cells}
use Rattle.tt_model.specs.Live.{live}
use Rattle.tt_model.specs.Tables.{rows_of, by_number, by_text, number_at, text_at, position_at}

abbrev pub is_change_of : ℕ → Entry → Bool
is_change_of t (Change u place b a) = nat_eq t u
is_change_of t _ = false

-- The older position where there is one.
abbrev pub older_or : Option Position → Bool → Position → Option Position
older_or (Some p) is at = Some p
older_or None true at = Some at
older_or None false at = None

-- Where the first entry of a transaction stands.
unfoldable pub first_entry : ℕ → Trail → Option Position
first_entry t [] = None
first_entry t (e ∷ older) = older_or (first_entry t older) (is_change_of t e.entry) e.at

abbrev pub least_of : Position → List Position → Position
least_of p [] = p
least_of p (q ∷ qs) = least_position q (least_of p qs)

-- The first entries of the live transactions, in ascending number.
abbrev pub first_entries : Trail → List Position
first_entries trail = filter_map (λ t. first_entry t trail) (live trail)

-- The least of p and of the first entries of the transactions that begin before p and aren't ended before it.
unfoldable pub low : Position → Trail → Position
low p trail = least_of p (first_entries (before p trail))

abbrev pub hold : HoldKind → Position → Hold
hold kind p = record { at = p; kind = kind }

abbrev pub transaction_hold : Trail → ℕ → Option Hold
transaction_hold trail t = option_map (hold (Transaction t)) (first_entry t trail)

abbrev pub checkpoint_hold : ℕ → Option Position → List Hold
checkpoint_hold file None = []
checkpoint_hold file (Some scan) = hold (Checkpoint file) scan ∷ []

-- All holds: of the two checkpoint files, of the SETS rows, of the BOOKMARKS rows, of the live transactions.
unfoldable pub holds_of : (ℕ → Option Position) → ℕ → Cells → Trail → List Hold
holds_of scans bound cells trail =
    checkpoint_hold 0 (scans 0) ++ (checkpoint_hold 1 (scans 1)
    ++ (map (λ r. hold (Backup (number_at 0 r)) (position_at 1 r)) (by_number 0 (rows_of 6 bound cells))
    ++ (map (λ r. hold (Xla (text_at 0 r)) (position_at 4 r)) (by_text 0 (rows_of 4 bound cells))
    ++ filter_map (transaction_hold trail) (live trail))))

-- The least position that is held. The end comes in as well: no hold lies past it, so it is the answer only where nothing is held.
abbrev pub least_hold_of : Position → List Hold → Position
least_hold_of end holds = least_of end (map (λ (h : Hold). h.at) holds)
