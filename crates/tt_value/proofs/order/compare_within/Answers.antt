use Rattle.std.proofs.Common.{ap₂, ◌∙◌}
use Rattle.std.specs.Ordering.{nat_cmp}
use Rattle.std.specs.Cmp.Lexicographic.{slice_cmp}
use Rattle.tt_value.proofs.KindLemmas.{texts_alone, numbers_alone}
use Rattle.tt_value.proofs.order.compare_within.Goals as goal

pub returns-in-Text : goal.returns-in-Text
returns-in-Text c =
    c.cmp.ensures
    ∙ ap₂ (λ x y. slice_cmp nat_cmp x y) c.as_bytes.ensures.bytes c.text.ensures
    ∙ texts_alone c.args.a.now c.args.b.now c.in-Text.text_a c.in-Text.is c.requires

pub returns-in_default : goal.returns-in_default
returns-in_default c = c.compare_numbers.ensures ∙ numbers_alone c.args.a.now c.args.b.now c.in_default.not-Text c.requires
