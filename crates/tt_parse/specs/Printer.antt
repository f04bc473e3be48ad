-- What a printer has written: bytes, and whether the next piece stands right behind them.
use Rattle.std.specs.Prelude.{◌≡◌, ℕ, Bool, true, List, [], ◌++◌}
use Rattle.std.specs.List.{fold}
use Rattle.tt_parse.specs.Spelling.{Piece, pieces, spaced}
use Rattle.tt_parse.specs.declared.command.Command.{Command}

pub record Written : Type 0 where
  pub bytes : List ℕ
  pub joins : Bool

abbrev pub empty : Written
empty = record { bytes = []; joins = true }

-- one piece more
unfoldable pub put : Written → Piece → Written
put s p = record { bytes = s.bytes ++ spaced s.joins p; joins = p.joins }

-- these pieces more
abbrev pub put_all : Written → List Piece → Written
put_all s ps = fold put s ps

-- the pieces of a command more
abbrev pub Prints : Command → Written → Written → Type 0
Prints command old new = new ≡ put_all old (pieces command)
