use Rattle.std.proofs.Common.{ap}
use Rattle.tt_value.proofs.Utf8.{in_vec}
use Rattle.tt_value.proofs.text.Text.from_vec.Goals as goal

pub returns-in-Ok : goal.returns-in-Ok
returns-in-Ok c =
    (ap (λ v. v.items) c.in-Ok.ensures.ok, in_vec c.in-Ok.text c.args.bytes c.in-Ok.ensures.ok)
