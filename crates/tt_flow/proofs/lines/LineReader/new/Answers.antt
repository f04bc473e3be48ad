use Rattle.std.proofs.Common.{refl, [], inl}
use Rattle.tt_flow.proofs.lines.LineReader.new.Goals as goal

pub returns : goal.returns
returns c = λ script. record {
  front = [];
  tail = [];
  whole = refl;
  count = refl;
  given = refl;
  cut = inl refl;
  holds = record { dropped = []; whole = refl; one_line = refl; long = λ e. cc; none = λ _. refl };
  ended = λ e. cc;
  not_over = λ e. cc;
}
