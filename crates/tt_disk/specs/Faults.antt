-- Counts of faults: when a call may answer that it failed.
use Rattle.std.specs.Prelude.{ℕ, ◌≡◌, ◌⊎◌, ◌+◌, ◌-◌, ◌^◌, ◌≤◌, min, Result, OnOk, OnErr}

-- the count rose, or stands at the end of its type
abbrev pub Rose : ℕ → ℕ → Type 0
Rose before now = min (before + 1) (2 ^ 64 - 1) ≤ now

-- a count that is exact is as it was
abbrev pub Stays : Type 0 → ℕ → ℕ → Type 0
Stays exact before now = exact → now ≡ before

-- a count of faults never falls; it rose where this holds, and an exact one stays where it doesn't
pub record RoseWhere (exact P : Type 0) (before now : ℕ) : Type 0 where
  pub later : before ≤ now
  pub failed : P → Rose before now
  pub stays : P ⊎ Stays exact before now

-- a count of faults never falls; it rose where a call failed, and an exact one stays where it was answered
pub record HasCause {T E : Type 0} (exact : Type 0) (before now : ℕ) (result : Result T E) : Type 0 where
  pub later : before ≤ now
  pub failed : OnErr result (Rose before now)
  pub stays : OnOk result (Stays exact before now)
