use Rattle.std.proofs.Common.{◌||◌, Bool, sym, ap, ◌∙◌}
use Rattle.std.proofs.lemmas.Bool.{or_left}
use Rattle.tt_model.specs.Committed.{is_full}
use Rattle.tt_model.specs.Steady.{changes_place, leaves_in_hand}
use Rattle.tt_model.proofs.PlaceLemmas.{in_use-entry}
use Rattle.tt_model.proofs.entry_rules.in_use_after.Goals as goal

pub returns-then-full : goal.returns-then-full
returns-then-full c =
    let leaves : Bool = leaves_in_hand c.args.holder c.args.entry.now in
    let changes : Bool = changes_place c.args.place c.args.entry.now in
    record {
      used = λ cells older h f fresh at.
          in_use-entry c.args.place c.args.entry.now c.args.holder cells older h fresh at
          ∙ or_left (is_full (cells c.args.place)) (changes || leaves) (sym f ∙ c.if-full.true);
    }

pub returns-then-changes_place : goal.returns-then-changes_place
returns-then-changes_place c =
    let leaves : Bool = leaves_in_hand c.args.holder c.args.entry.now in
    let changes : Bool = changes_place c.args.place c.args.entry.now in
    record {
      used = λ cells older h f fresh at.
          in_use-entry c.args.place c.args.entry.now c.args.holder cells older h fresh at
          ∙ (ap (λ b. b || (changes || leaves)) (sym f ∙ c.if-full.false)
          ∙ (or_left changes leaves (sym c.changes_place.ensures ∙ c.if-changes_place.true) ∙ sym c.if-changes_place.true));
    }

pub returns-else-changes_place : goal.returns-else-changes_place
returns-else-changes_place c =
    let leaves : Bool = leaves_in_hand c.args.holder c.args.entry.now in
    let changes : Bool = changes_place c.args.place c.args.entry.now in
    record {
      used = λ cells older h f fresh at.
          in_use-entry c.args.place c.args.entry.now c.args.holder cells older h fresh at
          ∙ (ap (λ b. b || (changes || leaves)) (sym f ∙ c.if-full.false)
          ∙ (ap (λ b. b || leaves) (sym c.changes_place.ensures ∙ c.if-changes_place.false) ∙ sym c.leaves_in_hand.ensures));
    }
