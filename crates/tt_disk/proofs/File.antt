-- How a step of one file is noted, and what it lets a crash leave.
use Rattle.std.proofs.Common.{◌≡◌, ◌⊎◌, inl, inr, ℕ, ◌+◌, Bool, true, false, List, [], ◌∷◌, ◌++◌, length, take, drop, Option, Some, None, refl, sym, ◌∙◌, ap, subst, arith, if◌then◌else◌, ◌≤◌, Result, Ok, Err, Vec, append_assoc, length-append, length-drop}
use Rattle.std.proofs.lemmas.List.{length-take-le, take_at, drop_at}
use Rattle.tt_disk.specs.declared.memory.file.MemFile.{MemFile}
use Rattle.tt_disk.specs.declared.memory.file.Step.{Step}
use Rattle.tt_disk.specs.declared.memory.file.Step.TheVariants.{Create, Make, Write, Remove}
use Rattle.tt_disk.specs.Volume.{Torn, overwritten, TornBytes, size_of, File}
use Rattle.tt_disk.specs.declared.memory.failing.Failure.{Failure}
use Rattle.tt_disk.specs.declared.memory.failing.Failure.TheVariants.{Noted, NotNoted}
use Rattle.tt_disk.specs.Failing.{IfNoted, UnlessNoted}
use Rattle.tt_disk.specs.Steps.{contents, Does, Leads}
use Rattle.tt_disk.specs.File.{file_may, FileSteps, Reaches}
use Rattle.std.specs.Prelude.{OnOk, OnErr}
use Rattle.std.specs.declared.alloc.Global.{Global}
use mathlib.Core.Logic.{∥∥₁_map}

torn_not : (at n : ℕ) (o : File) → Torn at n o o
torn_not at n None = tt
torn_not at n (Some f) = record { before = refl; after = refl; no_shorter = omega arith; no_longer = omega arith }

-- a step may not be done at all
pub does_nothing : (s : Step) (o : File) → Does s o o
does_nothing Create o = inl refl
does_nothing Make o = inl refl
does_nothing (Write at len) o = torn_not at len o
does_nothing Remove o = inl refl

leads_push : (steps : List Step) (s : Step) (old new : File) → Leads (steps ++ s ∷ []) old new → (d : File) × Leads steps old d × Does s d new
leads_push [] s old new leads = (old, refl, subst (Does s old) (sym leads.2) leads.1)
leads_push (t ∷ steps) s old new leads =
    let rest = leads_push steps s leads.0 new leads.2 in (rest.0, (leads.0, leads.1, rest.1), rest.2)

pub noted : (s : Step) (old new : MemFile) → new.name ≡ old.name → new.settled ≡ old.settled → new.steps.items ≡ old.steps.items ++ s ∷ []
    → Does s (contents old.bytes) (contents new.bytes) → FileSteps (Does s) old new
noted s old new name settled steps does = record { name = name; reads = does; crash = crash }
  where
    crash : (c : File) → file_may new c → (d : File) × file_may old d × Does s d c
    crash c (inl now) = (contents old.bytes, inl refl, subst (Does s (contents old.bytes)) (sym now) does)
    crash c (inr leads) =
        let from : Leads (old.steps.items ++ s ∷ []) (contents old.settled) c = (let P : List Step → Type 0 = λ l. Leads l (contents old.settled) c in subst P steps (subst (λ o. Leads new.steps.items (contents o) c) settled leads)) in
        let parts = leads_push old.steps.items s (contents old.settled) c from in
        (parts.0, inr parts.1, parts.2)

pub unchanged : (s : Step) (old new : MemFile) → new.name ≡ old.name → new.settled ≡ old.settled → new.steps.items ≡ old.steps.items
    → contents new.bytes ≡ contents old.bytes → FileSteps (Does s) old new
unchanged s old new name settled steps same = record { name = name; reads = subst (Does s (contents old.bytes)) (sym same) (does_nothing s (contents old.bytes)); crash = crash }
  where
    crash : (c : File) → file_may new c → (d : File) × file_may old d × Does s d c
    crash c (inl now) = (c, inl (now ∙ same), does_nothing s c)
    crash c (inr leads) =
        (c, inr (let P : List Step → Type 0 = λ l. Leads l (contents old.settled) c in subst P steps (subst (λ o. Leads new.steps.items (contents o) c) settled leads)), does_nothing s c)

-- a step that was noted, or for which there was no room, and that was not done
pub half_done : (s : Step) (old new : MemFile) (room : Bool) → new.name ≡ old.name → new.settled ≡ old.settled
    → new.steps.items ≡ (if room then old.steps.items ++ s ∷ [] else old.steps.items) → contents new.bytes ≡ contents old.bytes → FileSteps (Does s) old new
half_done s old new true name settled steps same = noted s old new name settled steps (subst (Does s (contents old.bytes)) (sym same) (does_nothing s (contents old.bytes)))
half_done s old new false name settled steps same = unchanged s old new name settled steps same

pub leads_on : (steps : List Step) (s : Step) (old d new : File) → Leads steps old d → Does s d new → Leads (steps ++ s ∷ []) old new
leads_on [] s old d new same does = (new, subst (λ o. Does s o new) same does, refl)
leads_on (t ∷ steps) s old d new leads does = (leads.0, leads.1, leads_on steps s leads.0 d new leads.2 does)

pub overwritten_torn : (at : ℕ) (bytes f : List ℕ) → at ≤ length f → TornBytes at (length bytes) f (overwritten at bytes f)
overwritten_torn at bytes f within =
    let front = length-take-le at f within in
    let rest = drop (at + length bytes) f in
    record {
      before = ap (λ (l : List ℕ). take at l) (append_assoc (take at f) bytes rest) ∙ take_at (take at f) (bytes ++ rest) at front;
      after = drop_at (take at f ++ bytes) rest (at + length bytes) (omega (arith, front, length-append (take at f) bytes));
      no_shorter = omega (arith, front, length-append (take at f ++ bytes) rest, length-append (take at f) bytes, length-drop (at + length bytes) f);
      no_longer = omega (arith, front, length-append (take at f ++ bytes) rest, length-append (take at f) bytes, length-drop (at + length bytes) f);
    }

torn_vec : {E : Type 0} (r : Result (Unit {0}) E) (at : ℕ) (bytes f f' : List ℕ) → at ≤ length f → OnOk r (f' ≡ overwritten at bytes f) → OnErr r (f' ≡ f) → TornBytes at (length bytes) f f'
torn_vec (Ok u) at bytes f f' within done same = subst (λ l. TornBytes at (length bytes) f l) (sym done) (overwritten_torn at bytes f within)
torn_vec (Err e) at bytes f f' within done same = subst (λ l. TornBytes at (length bytes) f l) (sym same) (record { before = refl; after = refl; no_shorter = omega arith; no_longer = omega arith })

pub torn_result : {E : Type 0} (r : Result (Unit {0}) E) (at : ℕ) (bytes : List ℕ) (old : Option (Vec ℕ Global)) (content : Vec ℕ Global) (f' : List ℕ) → old ≡ Some content
    → at ≤ size_of (contents old) → OnOk r (f' ≡ overwritten at bytes content.items) → OnErr r (f' ≡ content.items) → Torn at (length bytes) (contents old) (Some f')
torn_result r at bytes old content f' is within done same =
    subst (λ o. Torn at (length bytes) (contents o) (Some f')) (sym is) (torn_vec r at bytes content.items f' (subst (λ o. at ≤ size_of (contents o)) is within) done same)

-- what a read gives is among what the steps lead to, after one more that did this
pub led_on : (s : Step) (steps steps' : List Step) (settled old new : File) → steps' ≡ steps ++ s ∷ [] → Does s old new → ∥ Leads steps settled old ∥₁ → ∥ Leads steps' settled new ∥₁
led_on s steps steps' settled old new noted does led =
    let P : List Step → Type 0 = λ l. Leads l settled new in
    ∥∥₁_map led (λ leads. subst P (sym noted) (leads_on steps s settled old new leads does))

-- what a read gives is among what the steps lead to, after a step that was noted, or for which there was no room, and that wasn't done
pub led_still : (s : Step) (steps steps' : List Step) (settled old : File) (room : Bool) → steps' ≡ (if room then steps ++ s ∷ [] else steps) → ∥ Leads steps settled old ∥₁ → ∥ Leads steps' settled old ∥₁
led_still s steps steps' settled old true noted led = led_on s steps steps' settled old old noted (does_nothing s old) led
led_still s steps steps' settled old false noted led =
    let P : List Step → Type 0 = λ l. Leads l settled old in
    ∥∥₁_map led (λ leads. subst P (sym noted) leads)

pub reached : (s : Step) (old new : MemFile) → new.settled ≡ old.settled → new.steps.items ≡ old.steps.items ++ s ∷ [] → Reaches (Does s) old new
reached s old new settled steps = record { crash = after }
  where
    was_led : (d : File) → file_may old d → ∥ Leads old.steps.items (contents old.settled) d ∥₁
    was_led d (inl now) = subst (λ o. ∥ Leads old.steps.items (contents old.settled) o ∥₁) (sym now) old.led
    was_led d (inr leads) = ∣ leads ∣₁

    after : (d c : File) → file_may old d → Does s d c → ∥ file_may new c ∥₁
    after d c before step =
        ∥∥₁_map (led_on s old.steps.items new.steps.items (contents old.settled) d c steps step (was_led d before))
        (λ leads. inr (subst (λ o. Leads new.steps.items (contents o) c) (sym settled) leads))

-- what holds in any case holds where the call answers well
pub on_ok : {T E : Type 0} {P : Type 0} (r : Result T E) → P → OnOk r P
on_ok (Ok x) holds = holds
on_ok (Err e) holds = tt

-- what holds in any case holds of a call whose step was noted
pub if_noted : {T : Type 0} {P : Type 0} (r : Result T Failure) → P → IfNoted r P
if_noted (Ok x) holds = holds
if_noted (Err Noted) holds = holds
if_noted (Err NotNoted) holds = tt

pub if_noted_weaker : {T : Type 0} {P Q : Type 0} (r : Result T Failure) → (P → Q) → IfNoted r P → IfNoted r Q
if_noted_weaker (Ok x) weaker holds = weaker holds
if_noted_weaker (Err Noted) weaker holds = weaker holds
if_noted_weaker (Err NotNoted) weaker holds = tt

-- a step was noted, or it is counted that it wasn't
pub noted_or_counted : {T : Type 0} {P Q : Type 0} (r : Result T Failure) → UnlessNoted r P → IfNoted r Q → P ⊎ Q
noted_or_counted (Ok x) unless noted = inr noted
noted_or_counted (Err Noted) unless noted = inr noted
noted_or_counted (Err NotNoted) unless noted = inl unless
