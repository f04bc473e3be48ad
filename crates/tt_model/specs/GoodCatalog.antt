-- The catalog of a database that lines lead to stays good: no system row below the bound breaks a rule.
use Rattle.std.specs.Prelude.{◌≡◌, ℕ, Bool, Option, None, Result}
use Rattle.tt_value.specs.declared.refusal.Refusal.{Refusal}
use Rattle.tt_value.specs.declared.reply.Reply.{Reply}
use Rattle.tt_parse.specs.declared.command.Command.{Command}
use Rattle.tt_set.specs.declared.settings.Settings.{Settings}
use Rattle.tt_model.specs.Opened.{Opened}
use Rattle.tt_model.specs.Sets.{SetStanding}
use Rattle.tt_model.specs.State.{State, bound, cells_of}
use Rattle.tt_model.specs.Damage.{first_bad_catalog}
use Rattle.tt_model.specs.Entries.{HasKeptReaders, HasLogInRange, IsOfGrammar}
use Rattle.tt_model.specs.Sound.{IsSound}
use Rattle.tt_model.specs.Step.{Step}
use Rattle.tt_model.specs.Run.{begun, ended, opened}

-- What is committed has a good catalog.
abbrev pub HasGoodCatalog : State → Type 0
HasGoodCatalog s = first_bad_catalog (bound s) (cells_of s) ≡ None

-- A run over a good database begins so; each round keeps it, whatever its line; and so does the end of a run.
pub record CatalogStaysGood : Type 0 where
  pub begun : (settings : Settings) (found : Opened) (files : ℕ → Bool) (sets : ℕ → Option SetStanding) →
      first_bad_catalog (bound (opened settings found files sets)) found.cells ≡ None → HasGoodCatalog (begun settings found files sets)
  pub step : (s : State) (session : ℕ) (what : Result Command Refusal) (reply : Reply) (after : State) → IsOfGrammar what →
      IsSound s → HasLogInRange s → HasKeptReaders s → HasGoodCatalog s → Step s session what reply after → HasGoodCatalog after
  pub end : (s : State) → IsSound s → HasGoodCatalog s → HasGoodCatalog ((ended s).1)
