-- The catalog stays good along runs.
use Rattle.std.proofs.Common.{◌≡◌, ℕ, Bool, Option, None}
use Rattle.std.specs.Prelude.{Result}
use Rattle.tt_value.specs.declared.refusal.Refusal.{Refusal}
use Rattle.tt_value.specs.declared.reply.Reply.{Reply}
use Rattle.tt_parse.specs.declared.command.Command.{Command}
use Rattle.tt_set.specs.declared.settings.Settings.{Settings}
use Rattle.tt_model.specs.Committed.{committed}
use Rattle.tt_model.specs.Opened.{Opened}
use Rattle.tt_model.specs.Sets.{SetStanding}
use Rattle.tt_model.specs.State.{State, bound, cells_of, with_entry}
use Rattle.tt_model.specs.Damage.{first_bad_catalog}
use Rattle.tt_model.specs.Entries.{HasLogInRange, IsOfGrammar, HasKeptReaders}
use Rattle.tt_model.specs.Sound.{IsSound}
use Rattle.tt_model.specs.Step.{Step}
use Rattle.tt_model.specs.Run.{begun, ended, opened}
use Rattle.tt_model.specs.GoodCatalog.{CatalogStaysGood, HasGoodCatalog}
use Rattle.tt_model.proofs.GoodCells.{good-from, good-to}
use Rattle.tt_model.proofs.GoodDeletes.{HasGood, lies-below}
use Rattle.tt_model.proofs.GoodCommits.{good-ended}
use Rattle.tt_model.proofs.GoodLines.{good-step}

has-good : (s : State) → IsSound s → HasGoodCatalog s → HasGood s
has-good s h g = good-from (bound s) (cells_of s) (lies-below s h) g

begun_good : (settings : Settings) (found : Opened) (files : ℕ → Bool) (sets : ℕ → Option SetStanding) → first_bad_catalog (bound (opened settings found files sets)) found.cells ≡ None →
    HasGoodCatalog (begun settings found files sets)
unfolding begun with_entry committed
begun_good settings found files sets g = g

step_good : (s : State) (session : ℕ) (what : Result Command Refusal) (reply : Reply) (after : State) → IsOfGrammar what → IsSound s → HasLogInRange s → HasKeptReaders s → HasGoodCatalog s →
    Step s session what reply after → HasGoodCatalog after
step_good s session what reply after v h log kept g st =
    good-to (bound after) (cells_of after) (good-step s session what reply after v h log kept (has-good s h g) st)

end_good : (s : State) → IsSound s → HasGoodCatalog s → HasGoodCatalog ((ended s).1)
end_good s h g = good-to (bound ((ended s).1)) (cells_of ((ended s).1)) (good-ended s h (has-good s h g))

pub catalog_stays_good : CatalogStaysGood
catalog_stays_good = record { begun = begun_good; step = step_good; end = end_good }
