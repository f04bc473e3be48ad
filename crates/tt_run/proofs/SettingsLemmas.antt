-- What was read of the attributes is enough to judge them.
use Rattle.std.proofs.Common.{◌≡◌, ◌≤◌, ◌<◌, ◌+◌, ◌-◌, ◌⊎◌, inl, inr, ◌∙◌, ◌++◌, ℕ, [], List, length, take, Option, Some, None, Result, Ok, Err, refl, sym, ap, subst, arith, append_assoc, append-nil}
use Rattle.std.specs.Prelude.{IfOk}
use Rattle.std.specs.Io.{ReadsAtMost}
use Rattle.std.specs.Io.KnownBytes.{ReadConsumes}
use borrow.Rule.Slice.PartMut.{put_mid}
use Rattle.tt_disk.specs.declared.volume.Failed.{Failed}
use Rattle.tt_flow.proofs.Kept.{kept_put}
use Rattle.std.proofs.lemmas.List.{length-take, length-take-le, take_all}
use Rattle.std.proofs.Math.Seq.{take-append_seam}
use Rattle.tt_set.specs.Settings.{AreInRange, Reads, Says}
use Rattle.tt_set.specs.declared.settings.Settings.{Settings}
use Rattle.tt_run.specs.declared.status.Status.{Status}
use Rattle.tt_run.specs.declared.status.Status.TheVariants.{Done, ScriptFault, AttributesFault, SinkFault, VolumeFault, NoMemory, Usage, Damaged, Exists, NoDatabase, BadAttribute, LogOut, ScriptTooLong}
use Rattle.tt_run.specs.Openings.{IsCreateText}
use Rattle.tt_run.specs.Attributes.{AreSettings, EndedInAttributes, IsFrom, IsReadEnd, IsRefusedFor, IsSaid, IsUnread}

-- of a text that is too long, one byte too many is enough
cut_reads : (text : List ℕ) → length (take 65537 text) ≤ 65536 → take 65537 text ≡ text
cut_reads text short = let is = length-take 65537 text in take_all 65537 text (omega (arith, is, short))

short_cut : (text : List ℕ) → length text ≤ 65536 → take 65537 text ≡ text
short_cut text short = take_all 65537 text (omega (arith, short))

pub whole_says : (text : List ℕ) (said : Result Settings (List ℕ)) → Says (take 65537 text) said → Says text said
whole_says text (Ok settings) (ms, reads, right, is) = (ms, subst (λ (t : List ℕ). Reads t ms) (cut_reads text reads.short) reads, right, is)
whole_says text (Err name) (inl (ms, reads, first)) = inl (ms, subst (λ (t : List ℕ). Reads t ms) (cut_reads text reads.short) reads, first)
whole_says text (Err name) (inr (none, empty)) = inr (λ ms reads. none ms (subst (λ (t : List ℕ). Reads t ms) (sym (short_cut text reads.short)) reads), empty)

pub cut_says : (text : List ℕ) (said : Result Settings (List ℕ)) → Says text said → Says (take 65537 text) said
cut_says text (Ok settings) (ms, reads, right, is) = (ms, subst (λ (t : List ℕ). Reads t ms) (sym (short_cut text reads.short)) reads, right, is)
cut_says text (Err name) (inl (ms, reads, first)) = inl (ms, subst (λ (t : List ℕ). Reads t ms) (sym (short_cut text reads.short)) reads, first)
cut_says text (Err name) (inr (none, empty)) = inr (λ ms reads. none ms (subst (λ (t : List ℕ). Reads t ms) (cut_reads text reads.short) reads), empty)

-- ---- the read

front_put : (used room n : ℕ) (buffer part : List ℕ) → used ≤ length buffer → n ≤ length part → take (used + n) (put_mid used room buffer part) ≡ take used buffer ++ take n part
front_put used room n buffer part low most =
    let all : used + n ≡ used + n - 0 = omega arith in
    let front : used - 0 ≡ used = omega arith in
    ap (λ k. take k (put_mid used room buffer part)) all ∙ kept_put 0 used room n buffer part (omega arith) low most ∙ ap (λ k. take k buffer ++ take n part) front

-- bytes that were taken behind others
pub taken_behind : (used room : ℕ) (buffer part left : List ℕ) (before after : Option (List ℕ)) (r : Result ℕ Failed) → used < length buffer → 0 < length part → ReadsAtMost r part → ReadConsumes before after r part → before ≡ Some left
    → IfOk r (λ n. (rest : List ℕ) × (after ≡ Some rest) × (take (used + n) (put_mid used room buffer part) ++ rest ≡ take used buffer ++ left) × (n ≡ 0 → rest ≡ []))
taken_behind used room buffer part left (Some bytes) (Some rest) (Ok n) low some most (consumed, ends) is = (
  rest,
  refl,
  ap (λ l. l ++ rest) (front_put used room n buffer part (omega (arith, low)) most.0)
      ∙ append_assoc (take used buffer) (take n part) rest ∙ ap (λ l. take used buffer ++ l) (sym consumed ∙ same is),
  λ none. ends none some,
)
  where
    same : {a b : List ℕ} → Some a ≡ Some b → a ≡ b
    same e = cc
taken_behind used room buffer part left (Some bytes) None (Ok n) low some most (consumed, ends) is = absurd consumed
taken_behind used room buffer part left None after (Ok n) low some most consumes is = cc
taken_behind used room buffer part left before after (Err e) low some most consumes is = tt

-- the front of a text that fills the room, or all of it
pub filled : (used room : ℕ) (buffer rest text : List ℕ) → used ≤ length buffer → length buffer ≡ room → take used buffer ++ rest ≡ text → (used ≡ room) ⊎ (rest ≡ []) → take used buffer ≡ take room text
filled used room buffer rest text within long whole (inl full) =
    let front : length (take used buffer) ≡ room = length-take-le used buffer within ∙ full in
    sym (take-append_seam (take used buffer) rest) ∙ ap (λ l. take (length (take used buffer)) l) whole ∙ ap (λ k. take k text) front
filled used room buffer rest text within long whole (inr ended) =
    let all : take used buffer ≡ text = sym (append-nil (take used buffer)) ∙ ap (λ l. take used buffer ++ l) (sym ended) ∙ whole in
    let short = length-take-le used buffer within in
    all ∙ sym (take_all room text (let same = ap (λ (l : List ℕ). length l) all in omega (arith, same, short, within, long)))

-- what is said of the bytes that were read is said of the text
pub read_says : (text bytes : List ℕ) (said : Result Settings (List ℕ)) → bytes ≡ take 65537 text → Says bytes said → Says text said
read_says text bytes said is says = whole_says text said (subst (λ (t : List ℕ). Says t said) is says)

pub says_read : (text bytes : List ℕ) (said : Result Settings (List ℕ)) → bytes ≡ take 65537 text → Says text said → Says bytes said
says_read text bytes said is says = subst (λ (t : List ℕ). Says t said) (sym is) (cut_says text said says)

-- ---- a run that ended with its attributes

-- they couldn't be read, memory was wanting, or they aren't right
pub data EndedSo (status : Status) : Type 0 where
  unread : status ≡ AttributesFault → EndedSo status
  unremembered : status ≡ NoMemory → EndedSo status
  wrong : (name : List ℕ) → status ≡ BadAttribute name → EndedSo status

pub ended_so : (status : Status) → IsReadEnd status → EndedSo status
ended_so AttributesFault ends = unread refl
ended_so NoMemory ends = unremembered refl
ended_so (BadAttribute name) ends = wrong name refl
ended_so Done ends = absurd ends
ended_so ScriptFault ends = absurd ends
ended_so SinkFault ends = absurd ends
ended_so (VolumeFault stop) ends = absurd ends
ended_so Usage ends = absurd ends
ended_so (Damaged damage) ends = absurd ends
ended_so Exists ends = absurd ends
ended_so NoDatabase ends = absurd ends
ended_so LogOut ends = absurd ends
ended_so ScriptTooLong ends = absurd ends

pub ended_not_usage : (status : Status) → EndedSo status → status ≡ Usage → ⊥
ended_not_usage status (unread is) usage = let other : AttributesFault ≡ Usage = sym is ∙ usage in let bad : ⊥ = cc in bad
ended_not_usage status (unremembered is) usage = let other : NoMemory ≡ Usage = sym is ∙ usage in let bad : ⊥ = cc in bad
ended_not_usage status (wrong name is) usage = let other : BadAttribute name ≡ Usage = sym is ∙ usage in let bad : ⊥ = cc in bad

abbrev no_settings : List ℕ → Result Settings (List ℕ)
no_settings name = Err name

abbrev some_settings : Settings → Result Settings (List ℕ)
some_settings settings = Ok settings

same_Err : (a b : List ℕ) → no_settings a ≡ no_settings b → a ≡ b
same_Err a b is = cc

-- settings that are right aren't refused
ok_not_wrong : (settings : Settings) (status : Status) (name : List ℕ) → status ≡ BadAttribute name → IsSaid (Ok settings) (Err status) → ⊥
ok_not_wrong settings status name is said = let bad : some_settings settings ≡ no_settings name = subst (λ (x : Status). IsSaid (Ok settings) (Err x)) is said in let no_value : ⊥ = cc in no_value

pub ended_bad : (status : Status) (name : List ℕ) → EndedSo status → IsSaid (Err name) (Err status) → IsRefusedFor name status
ended_bad status name (unread is) said = inr (inl is)
ended_bad status name (unremembered is) said = inr (inr is)
ended_bad status name (wrong other is) said =
    let same : no_settings name ≡ no_settings other = subst (λ (x : Status). IsSaid (Err name) (Err x)) is said in
    inl (is ∙ ap (λ (n : List ℕ). BadAttribute n) (sym (same_Err name other same)))

bad_in : (attributes : Option (List ℕ)) (name : List ℕ) → ((text : List ℕ) → attributes ≡ Some text → Says text (Err name)) → EndedInAttributes attributes (BadAttribute name)
bad_in None name says = tt
bad_in (Some text) name says = says text refl

pub ended_in_attributes : (attributes : Option (List ℕ)) (status : Status) → ((text : List ℕ) → attributes ≡ Some text → IsFrom text (Err status)) → EndedSo status → EndedInAttributes attributes status
ended_in_attributes attributes status says (unread is) = subst (λ (x : Status). EndedInAttributes attributes x) (sym is) tt
ended_in_attributes attributes status says (unremembered is) = subst (λ (x : Status). EndedInAttributes attributes x) (sym is) tt
ended_in_attributes attributes status says (wrong name is) =
    subst (λ (x : Status). EndedInAttributes attributes x) (sym is) (bad_in attributes name (λ text told. subst (λ (x : Status). IsFrom text (Err x)) is (says text told)))

-- the settings that were read are those of the attributes
pub are_settings : (attributes : Option (List ℕ)) (settings : Settings) → AreInRange settings → ((text : List ℕ) → attributes ≡ Some text → IsFrom text (Ok settings)) → AreSettings attributes settings
are_settings None settings range says = range
are_settings (Some text) settings range says = says text refl

pub ended_text : (status : Status) (untouched : Type 0) (given : Option (List ℕ)) → EndedSo status → untouched → IsCreateText given given status untouched
ended_text status untouched given (unread is) same = subst (λ (x : Status). IsCreateText given given x untouched) (sym is) same
ended_text status untouched given (unremembered is) same = subst (λ (x : Status). IsCreateText given given x untouched) (sym is) same
ended_text status untouched given (wrong name is) same = subst (λ (x : Status). IsCreateText given given x untouched) (sym is) same

pub ended_complete : (status : Status) (fault : Type 0) (settings : Settings) → EndedSo status → IsSaid (Ok settings) (Err status) → (status ≡ AttributesFault → fault) → ¬ fault → (status ≡ Done) ⊎ (status ≡ NoMemory)
ended_complete status fault settings (unread is) said failed no_fault = absurd (no_fault (failed is))
ended_complete status fault settings (unremembered is) said failed no_fault = inr is
ended_complete status fault settings (wrong name is) said failed no_fault = absurd (ok_not_wrong settings status name is said)

-- one text has one say
pub same_settings : (a b : Settings) → IsSaid (Ok a) (Ok b) → a ≡ b
same_settings a b said = cc

pub said_not_bad : (name : List ℕ) (settings : Settings) → IsSaid (Err name) (Ok settings) → ⊥
said_not_bad name settings said = let bad : ⊥ = cc in bad

-- a status that comes before the settings are read
pub unread_so : (status : Status) (text : List ℕ) (said : Result Settings (List ℕ)) → IsUnread status → IsFrom text (Err status) × IsSaid said (Err status) × IsReadEnd status
unread_so AttributesFault text said so = (tt, tt, tt)
unread_so NoMemory text said so = (tt, tt, tt)
unread_so (BadAttribute name) text said so = absurd so
unread_so Done text said so = absurd so
unread_so ScriptFault text said so = absurd so
unread_so SinkFault text said so = absurd so
unread_so (VolumeFault stop) text said so = absurd so
unread_so Usage text said so = absurd so
unread_so (Damaged damage) text said so = absurd so
unread_so Exists text said so = absurd so
unread_so NoDatabase text said so = absurd so
unread_so LogOut text said so = absurd so
unread_so ScriptTooLong text said so = absurd so
