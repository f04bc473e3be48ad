-- A spelling is no comment and not blank, since it begins with a letter.
use Rattle.std.proofs.Common.{◌≡◌, ℕ, false, not, List, [], ◌∷◌, refl}
use Rattle.std.specs.Prelude.{◌==◌}
use Rattle.std.specs.List.{filter}
use Rattle.tt_parse.specs.declared.tokens.Class.TheVariants.{Blank}
use Rattle.tt_parse.specs.declared.command.Command.{Command}
use Rattle.tt_parse.specs.declared.command.Command.TheVariants as commands
use Rattle.tt_parse.specs.Tokens.{is_in}
use Rattle.tt_parse.specs.Parse.{is_comment, is_skipped}
use Rattle.tt_parse.specs.Spelling.{pieces, spelling, joined}

no_comment : (b : ℕ) (z : List ℕ) → (b == 45) ≡ false → is_comment (b ∷ z) ≡ false
no_comment b [] h = refl
no_comment b (d ∷ z) h = rw h refl

begun : (b : ℕ) (z : List ℕ) → is_in Blank b ≡ false → (b == 45) ≡ false → is_skipped (b ∷ z) ≡ false
unfolding is_skipped
begun b z n h = rw n (no_comment b (filter (λ d. not (is_in Blank d)) z) h)

pub spelling_runs : (command : Command) → is_skipped (spelling command) ≡ false
unfolding spelling pieces joined
spelling_runs (commands.CreateTable a b d) = begun 99 _ refl refl
spelling_runs (commands.DropTable a) = begun 100 _ refl refl
spelling_runs (commands.CreateIndex a b d e) = begun 99 _ refl refl
spelling_runs (commands.DropIndex a) = begun 100 _ refl refl
spelling_runs (commands.Insert a b) = begun 105 _ refl refl
spelling_runs (commands.Update a b d) = begun 117 _ refl refl
spelling_runs (commands.Delete a b) = begun 100 _ refl refl
spelling_runs (commands.Select a b d e) = begun 115 _ refl refl
spelling_runs commands.Commit = begun 99 _ refl refl
spelling_runs commands.Rollback = begun 114 _ refl refl
spelling_runs commands.DurableCommit = begun 116 _ refl refl
spelling_runs commands.Flush = begun 102 _ refl refl
spelling_runs commands.Ckpt = begun 116 _ refl refl
spelling_runs commands.CkptBlocking = begun 116 _ refl refl
spelling_runs commands.LogHolds = begun 116 _ refl refl
spelling_runs commands.Bookmark = begun 116 _ refl refl
spelling_runs (commands.Backup a b) = begun 116 _ refl refl
spelling_runs (commands.XlaCreate a) = begun 116 _ refl refl
spelling_runs (commands.XlaDelete a) = begun 116 _ refl refl
spelling_runs (commands.XlaSubscribe a b) = begun 116 _ refl refl
spelling_runs (commands.XlaUnsubscribe a b) = begun 116 _ refl refl
spelling_runs (commands.XlaOpen a) = begun 116 _ refl refl
spelling_runs (commands.XlaNext a) = begun 116 _ refl refl
spelling_runs commands.XlaAcknowledge = begun 116 _ refl refl
spelling_runs commands.XlaClose = begun 116 _ refl refl
