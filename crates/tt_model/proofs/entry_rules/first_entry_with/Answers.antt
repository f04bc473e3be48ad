use Rattle.std.proofs.Common.{None, sym, ap, ◌∙◌}
use Rattle.tt_model.specs.Holds.{is_change_of, older_or}
use Rattle.tt_model.proofs.PlaceLemmas.{first_entry-step, low-not_behind}
use Rattle.tt_model.proofs.entry_rules.first_entry_with.Goals as goal

pub returns-in-Some-clause-first : goal.returns-in-Some-clause-first
returns-in-Some-clause-first c older e =
    first_entry-step c.args.transaction c.args.entry.now c.args.at c.args.first older e
    ∙ ap (λ o. older_or o (is_change_of c.args.transaction c.args.entry.now) c.args.at) c.in-Some.is

pub returns-in-Some-clause-low : goal.returns-in-Some-clause-low
returns-in-Some-clause-low c older p e l h =
    low-not_behind c.args.transaction c.args.entry.now c.args.at p older l
    (first_entry-step c.args.transaction c.args.entry.now c.args.at c.args.first older e
    ∙ (ap (λ o. older_or o (is_change_of c.args.transaction c.args.entry.now) c.args.at) c.in-Some.is ∙ h))

pub returns-then-is_change_of-clause-first : goal.returns-then-is_change_of-clause-first
returns-then-is_change_of-clause-first c older e =
    first_entry-step c.args.transaction c.args.entry.now c.args.at c.args.first older e
    ∙ (ap (λ o. older_or o (is_change_of c.args.transaction c.args.entry.now) c.args.at) c.in-None.is
    ∙ ap (λ b. older_or None b c.args.at) (sym c.is_change_of.ensures ∙ c.if-is_change_of.true))

pub returns-then-is_change_of-clause-low : goal.returns-then-is_change_of-clause-low
returns-then-is_change_of-clause-low c older p e l h =
    low-not_behind c.args.transaction c.args.entry.now c.args.at p older l
    (first_entry-step c.args.transaction c.args.entry.now c.args.at c.args.first older e
    ∙ (ap (λ o. older_or o (is_change_of c.args.transaction c.args.entry.now) c.args.at) c.in-None.is
    ∙ (ap (λ b. older_or None b c.args.at) (sym c.is_change_of.ensures ∙ c.if-is_change_of.true) ∙ h)))

pub returns-else-is_change_of-clause-first : goal.returns-else-is_change_of-clause-first
returns-else-is_change_of-clause-first c older e =
    first_entry-step c.args.transaction c.args.entry.now c.args.at c.args.first older e
    ∙ (ap (λ o. older_or o (is_change_of c.args.transaction c.args.entry.now) c.args.at) c.in-None.is
    ∙ ap (λ b. older_or None b c.args.at) (sym c.is_change_of.ensures ∙ c.if-is_change_of.false))
