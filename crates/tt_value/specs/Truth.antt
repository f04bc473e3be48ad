-- Three-valued truth: No lies below Unknown, and Unknown below Yes.
use Rattle.std.specs.Prelude.{ℕ, zero, suc, Bool, true, false, min, max, ◌-◌}
use Rattle.tt_value.specs.declared.truth.Truth.{Truth}
use Rattle.tt_value.specs.declared.truth.Truth.TheVariants.{Yes, No, Unknown}

abbrev pub truth_of : Bool → Truth
truth_of true = Yes
truth_of false = No

abbrev pub level : Truth → ℕ
level No = 0
level Unknown = 1
level Yes = 2

abbrev pub at_level : ℕ → Truth
at_level zero = No
at_level (suc zero) = Unknown
at_level (suc (suc n)) = Yes

-- upside down
abbrev pub negated : Truth → Truth
negated a = at_level (2 - level a)

-- the lesser
abbrev pub both_of : Truth → Truth → Truth
both_of a b = at_level (min (level a) (level b))

-- the greater
abbrev pub either_of : Truth → Truth → Truth
either_of a b = at_level (max (level a) (level b))
