-- What the attributes of a database lead to.
use Rattle.std.specs.Prelude.{◌≡◌, ◌⊎◌, ◌+◌, ℕ, List, [], ◌++◌, length, take, Option, Some, None, IfOk, IfSome, Result, Ok, Err}
use Rattle.tt_disk.specs.declared.volume.Failed.{Failed}
use Rattle.tt_flow.specs.declared.stream.Source.{Ghosts as SourceGhosts}
use Rattle.tt_set.specs.Settings.{AreInRange, Says}
use Rattle.tt_set.specs.declared.settings.Settings.{Settings}
use Rattle.tt_run.specs.declared.status.Status.{Status}
use Rattle.tt_run.specs.declared.status.Status.TheVariants.{AttributesFault, BadAttribute, NoMemory}

-- what a text of attributes says, unless they couldn't be read
abbrev pub IsFrom : List ℕ → Result Settings Status → Type 0
IsFrom text (Ok settings) = Says text (Ok settings)
IsFrom text (Err (BadAttribute name)) = Says text (Err name)
IsFrom text (Err AttributesFault) = Unit {0}
IsFrom text (Err NoMemory) = Unit {0}
IsFrom text (Err _) = ⊥

-- this is what was said, unless they couldn't be read
abbrev pub IsSaid : Result Settings (List ℕ) → Result Settings Status → Type 0
IsSaid said (Ok settings) = said ≡ Ok settings
IsSaid said (Err (BadAttribute name)) = said ≡ Err name
IsSaid said (Err AttributesFault) = Unit {0}
IsSaid said (Err NoMemory) = Unit {0}
IsSaid said (Err _) = ⊥

-- The attributes couldn't be read.
abbrev pub IsUnread : Status → Type 0
IsUnread AttributesFault = Unit {0}
IsUnread NoMemory = Unit {0}
IsUnread _ = ⊥

-- how a run ends in its attributes
abbrev pub IsReadEnd : Status → Type 0
IsReadEnd AttributesFault = Unit {0}
IsReadEnd (BadAttribute name) = Unit {0}
IsReadEnd NoMemory = Unit {0}
IsReadEnd _ = ⊥

-- the attributes give these settings; any in range may be theirs, where they don't tell their text
abbrev pub AreSettings : Option (List ℕ) → Settings → Type 0
AreSettings None settings = AreInRange settings
AreSettings (Some text) settings = Says text (Ok settings)

-- A run ended in its attributes: they couldn't be read, or, where they tell their text, it says that this one isn't right.
abbrev pub EndedInAttributes : Option (List ℕ) → Status → Type 0
EndedInAttributes attributes AttributesFault = Unit {0}
EndedInAttributes attributes NoMemory = Unit {0}
EndedInAttributes attributes (BadAttribute name) = IfSome attributes (λ text. Says text (Err name))
EndedInAttributes attributes _ = ⊥

-- a run ended in its attributes, or they give settings of which this is so
abbrev pub ForSettings : Option (List ℕ) → Status → (Settings → Type 0) → Type 0
ForSettings attributes status P = EndedInAttributes attributes status ⊎ ((settings : Settings) × AreSettings attributes settings × P settings)

-- a run that ended so had attributes that aren't right
abbrev pub IsBadSo : List ℕ → Status → Type 0
IsBadSo text (BadAttribute name) = Says text (Err name)
IsBadSo text _ = Unit {0}

-- where this name isn't right, the run ends so, unless the attributes couldn't be read
abbrev pub IsRefusedFor : List ℕ → Status → Type 0
IsRefusedFor name status = (status ≡ BadAttribute name) ⊎ ((status ≡ AttributesFault) ⊎ (status ≡ NoMemory))

-- ---- the read

-- this is so of the text that is left of a source, where it tells it
abbrev pub OfText : {A : Type 0} → SourceGhosts A → A → (List ℕ → Type 0) → Type 0
OfText a source P = (text : List ℕ) → a.left source ≡ Some text → P text

-- a buffer's front was filled with what a source gave, as far as there is room
abbrev pub FillsFront : {A : Type 0} → SourceGhosts A → A → List ℕ → List ℕ → Result ℕ Failed → Type 0
FillsFront a source old new result = OfText a source (λ text. IfOk result (λ n. take n new ≡ take (length old) text))

-- bytes were taken from a source into a buffer behind so many; none at the end of input alone
abbrev pub TakesBehind : {A : Type 0} → SourceGhosts A → ℕ → A → A → List ℕ → List ℕ → Result ℕ Failed → Type 0
TakesBehind a used source source' old new result =
    OfText a source (λ left. IfOk result (λ n. (rest : List ℕ) × (a.left source' ≡ Some rest) × (take (used + n) new ++ rest ≡ take used old ++ left) × (n ≡ 0 → rest ≡ [])))
