-- Positions ascend along the trail.
use Rattle.std.proofs.Common.{◌≡◌, ℕ, ◌+◌, ◌<◌, Bool, true, false, nat_le, if◌then◌else◌, refl, sym, ap, ap₂, arith, Less, Equal, nat_cmp}
use Rattle.std.specs.Cmp.{nat_cmp_is}
use Rattle.std.specs.Ordering.{is_le, ordering_then}
use Rattle.tt_value.specs.declared.position.Position.{Position}
use Rattle.tt_record.specs.Place.{position, next_position}
use Rattle.tt_record.specs.declared.entry.Entry.{Entry}
use Rattle.tt_model.specs.Trail.{position_le, IsOrdered}
use Rattle.tt_model.specs.State.{State, with_entry, write_position}

same_number : (n : ℕ) → nat_cmp n n ≡ Equal
same_number n = sym (nat_cmp_is n n Equal refl)

pub less_number : (m n : ℕ) → m < n → nat_cmp m n ≡ Less
less_number m n h = sym (nat_cmp_is m n Less h)

onward : (fits : Bool) (end : Position) → position_le end (if fits then end else position (end.file + 1) 0) ≡ true
onward true end = ap is_le (ap₂ ordering_then (same_number end.file) (same_number end.offset))
onward false end = ap (λ o. is_le (ordering_then o (nat_cmp end.offset 0))) (less_number end.file (end.file + 1) (omega arith))

-- A new entry stands at or behind the end of the last one.
pub next_place-onward : (end : Position) (n size : ℕ) → position_le end (next_position end n size) ≡ true
next_place-onward end n size = onward (nat_le (end.offset + n) size) end

pub ordered-with_entry : (e : Entry) (s : State) → IsOrdered s.found.end s.entries → IsOrdered s.found.end ((with_entry e s).entries)
unfolding with_entry
ordered-with_entry e s h = (next_place-onward (write_position s) _ _, h)
