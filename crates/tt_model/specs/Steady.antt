-- How the cells that an engine holds stand to what is committed, between two entries.
use Rattle.std.specs.Prelude.{◌≡◌, ◌&&◌, ℕ, Bool, true, false, not, nat_eq, [], ◌∷◌, Option, Some, None}
use Rattle.tt_value.specs.declared.value.Cell.{Cell}
use Rattle.tt_record.specs.declared.entry.Entry.{Entry}
use Rattle.tt_record.specs.declared.entry.Entry.TheVariants.{Change, Commit, Abort, Mark, Switch}
use Rattle.tt_model.specs.Trail.{Trail}
use Rattle.tt_model.specs.Committed.{Cells, committed, current, changed_by}
use Rattle.tt_model.specs.Live.{is_live, touched, ends}
use Rattle.tt_model.specs.Holders.{is_own}

-- Where no live transaction changed a place, it holds what is committed. Where one did, that is the only one, and the place
-- holds what its Changes over the committed cells give.
pub record IsSteady (base : Cells) (entries : Trail) : Type 0 where
  pub untouched : (q : ℕ) → ((u : ℕ) → is_live u entries ≡ true → touched u q entries ≡ false) → current base entries q ≡ committed base entries q
  pub own : (u q : ℕ) → is_live u entries ≡ true → touched u q entries ≡ true → current base entries q ≡ changed_by u entries (committed base entries) q
  pub only : (u v q : ℕ) → is_live u entries ≡ true → is_live v entries ≡ true → touched u q entries ≡ true → touched v q entries ≡ true → u ≡ v

-- Who has a place in hand: the live transaction that changed it, or none.
abbrev pub HasInHand : Option ℕ → ℕ → Trail → Type 0
HasInHand who place entries = (t : ℕ) → (is_live t entries && touched t place entries) ≡ is_own who t

-- An entry leaves the place in the hand of who has it, unless it ends that transaction.
abbrev pub leaves_in_hand : Option ℕ → Entry → Bool
leaves_in_hand None e = false
leaves_in_hand (Some t) e = not (ends t e)

abbrev pub changes_place : ℕ → Entry → Bool
changes_place place (Change t q before after) = nat_eq place q
changes_place place _ = false

-- When a transaction may change a place: its row before is what the place holds, no other live transaction changed the place,
-- and a transaction that isn't live has no Change yet.
pub record MayChange (base : Cells) (entries : Trail) (t place : ℕ) (found : Cell) : Type 0 where
  pub before : found ≡ current base entries place
  pub mine : (u : ℕ) → is_live u entries ≡ true → touched u place entries ≡ true → u ≡ t
  pub fresh : is_live t entries ≡ false → (q : ℕ) → touched t q entries ≡ false

-- When a transaction may be aborted: its places hold again what is committed.
pub record MayAbort (base : Cells) (entries : Trail) (t : ℕ) : Type 0 where
  pub live : is_live t entries ≡ true
  pub back : (q : ℕ) → touched t q entries ≡ true → current base entries q ≡ committed base entries q

-- Which entry may come next.
abbrev pub MayCome : Cells → Trail → Entry → Type 0
MayCome base entries (Change t place before after) = MayChange base entries t place before
MayCome base entries (Commit t) = is_live t entries ≡ true
MayCome base entries (Abort t) = MayAbort base entries t
MayCome base entries Mark = Unit {0}
MayCome base entries (Switch file) = ⊥

-- A trail that was grown by entries that might come.
abbrev pub IsGrown : Cells → Trail → Type 0
IsGrown base [] = Unit {0}
IsGrown base (e ∷ older) = MayCome base older e.entry × IsGrown base older
