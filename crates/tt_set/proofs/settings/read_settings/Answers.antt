use Rattle.std.proofs.Common.{Ok, inl, arith}
use Rattle.toml.specs.View.{table_view}
use Rattle.tt_set.proofs.Said.{one_answer, named_only}
use Rattle.tt_set.specs.Settings.{Reads}
use Rattle.tt_set.proofs.settings.read_settings.Goals as goal

pub returns-in-Some-clause-only : goal.returns-in-Some-clause-only
returns-in-Some-clause-only c =
    let ms = table_view c.in-Ok.table in
    let reads : Reads c.args.text.now ms = record { short = omega arith; utf8 = c.in-Ok.ensures.ok.0; document = c.in-Ok.ensures.ok.1 } in
    named_only c.args.text.now c.in-Some.name.now c.refused-in-Some.result c.refused-in-Some.ensures (inl (ms, reads, c.in-Some.ensures.wrong))

pub returns-in-Ok-clause-only : goal.returns-in-Ok-clause-only
returns-in-Ok-clause-only c = λ said says.
    let ms = table_view c.in-Ok.table in
    let reads : Reads c.args.text.now ms = record { short = omega arith; utf8 = c.in-Ok.ensures.ok.0; document = c.in-Ok.ensures.ok.1 } in
    one_answer c.args.text.now said (Ok c.settings_in.result) says (ms, reads, c.in-None.ensures.right, c.settings_in.ensures.value)
