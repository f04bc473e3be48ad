-- Which calls of a device in memory are to fail, and how many were made and failed.
use Rattle.std.specs.Prelude.{◌≡◌, ◌==◌, ◌+◌, ◌-◌, ◌^◌, ℕ, min, nat_le, Bool, true, false, Result, IsErr, OnOk, OnErr, Ok, Err}
use Rattle.std.specs.List.{list_any}
use Rattle.tt_disk.specs.declared.memory.failing.Plan.{Plan}
use Rattle.tt_disk.specs.declared.memory.failing.Plan.TheVariants.{Never, From, At}
use Rattle.tt_disk.specs.declared.memory.failing.Failure.{Failure}
use Rattle.tt_disk.specs.declared.memory.failing.Failure.TheVariants.{Noted, NotNoted}
use Rattle.tt_disk.specs.declared.memory.failing.FailingCalls.{FailingCalls}

-- the plan has the call of this number fail
abbrev pub fails_by : Plan → ℕ → Bool
fails_by Never number = false
fails_by (From first) number = nat_le first number
fails_by (At numbers) number = list_any (λ call. call == number) numbers.items

-- which calls are to fail
abbrev pub plan_of : FailingCalls → Plan
plan_of calls = calls.plan

-- the call of this number is to fail, the first being 0
abbrev pub fails_at : FailingCalls → ℕ → Bool
fails_at calls number = fails_by (plan_of calls) number

-- how many calls were made, those that failed included
abbrev pub calls_made : FailingCalls → ℕ
calls_made calls = calls.made

-- how many calls failed
abbrev pub calls_failed : FailingCalls → ℕ
calls_failed calls = calls.failed

-- how many calls that failed left a crash nothing of what they would have changed
abbrev pub calls_unnoted : FailingCalls → ℕ
calls_unnoted calls = calls.unnoted

-- the next call is to fail
abbrev pub fails_next : FailingCalls → Bool
fails_next calls = fails_at calls (calls_made calls)

-- a count after one more, which stops at the greatest `u64`
abbrev pub counted : ℕ → ℕ
counted count = min (count + 1) (2 ^ 64 - 1)

-- One call was made, and where it was to fail it did. The same calls are to fail as before.
pub record IsCounted {T E : Type 0} (old new : FailingCalls) (result : Result T E) : Type 0 where
  pub plan : plan_of new ≡ plan_of old
  pub made : calls_made new ≡ counted (calls_made old)
  pub planned : fails_next old ≡ true → IsErr result
  pub answered : OnOk result (calls_failed new ≡ calls_failed old)
  pub failed : OnErr result (calls_failed new ≡ counted (calls_failed old))

-- this holds, unless the call failed before its step was noted
abbrev pub IfNoted : {T : Type 0} → Result T Failure → Type 0 → Type 0
IfNoted (Ok value) P = P
IfNoted (Err Noted) P = P
IfNoted (Err NotNoted) P = Unit {0}

-- this holds, where the call failed before its step was noted
abbrev pub UnlessNoted : {T : Type 0} → Result T Failure → Type 0 → Type 0
UnlessNoted (Ok value) P = Unit {0}
UnlessNoted (Err Noted) P = Unit {0}
UnlessNoted (Err NotNoted) P = P
