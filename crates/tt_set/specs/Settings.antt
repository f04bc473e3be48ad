-- What a text of attributes says: the settings of a database, or the first name that is wrong.
use Rattle.std.specs.Prelude.{ℕ, ◌≤◌, pos, Bool, false, ◌&&◌, ◌==◌, nat_le, List, [], ◌∷◌, codes, length, Option, Some, None, is_some, unwrap_or, option_and_then, option_map, find, Result, Ok, Err, ◌≡◌, ◌≢◌, ◌⊎◌, if◌then◌else◌, IsUtf8}
use Rattle.std.specs.Cmp.Lexicographic.{slice_cmp}
use Rattle.std.specs.Ordering.{nat_cmp}
use Rattle.std.specs.declared.cmp.Ordering.TheVariants.{Greater}
use Rattle.std.specs.Str.{bytes_eq}
use Rattle.toml.specs.Data.{Data, integer, Members, get_member}
use Rattle.toml.specs.Parse.{parse_document}
use Rattle.tt_set.specs.Limits.{text_most, on, log_file_size_least, log_file_size_most, log_buf_size_least, log_buf_size_most}
use Rattle.tt_set.specs.Limits.{perm_pages_least, perm_pages_most, ckpt_pages_least, ckpt_pages_most, database_least, database_most}
use Rattle.tt_set.specs.declared.attribute.Attribute.{Attribute}
use Rattle.tt_set.specs.declared.settings.Settings.{Settings}
use Rattle.tt_set.specs.declared.settings.SetRefusal.{SetRefusal}
use Rattle.tt_set.specs.declared.settings.SetRefusal.TheVariants.{Bad, NoMemory}
use Rattle.tt_set.specs.Attribute.{is_right, value_of}

-- the settings that members give
abbrev pub settings_in : Members → Settings
settings_in ms = record {
  durable_commits = value_of ms (codes "DurableCommits") == on;
  log_file_size = value_of ms (codes "LogFileSize");
  log_buf_size = value_of ms (codes "LogBufSize");
  perm_pages = value_of ms (codes "PermPages");
  ckpt_pages = value_of ms (codes "CkptPages");
  database = value_of ms (codes "Database");
}

-- the members have this name, and it or its value isn't right
abbrev pub IsWrong : Members → List ℕ → Type 0
IsWrong ms name = (value : Data) × (get_member name ms ≡ Some value) × (is_right name value ≡ false)

abbrev pub AllRight : Members → Type 0
AllRight ms = (name : List ℕ) → ¬ IsWrong ms name

-- the name that isn't right and comes before all others that aren't, in the order of their bytes
pub record IsFirstWrong (ms : Members) (name : List ℕ) : Type 0 where
  pub wrong : IsWrong ms name
  pub first : (other : List ℕ) → IsWrong ms other → slice_cmp nat_cmp name other ≢ Greater

-- the text is a TOML document of a size that is read, with these members
pub record Reads (text : List ℕ) (ms : Members) : Type 0 where
  pub short : length text ≤ text_most
  pub utf8 : IsUtf8 text
  pub document : parse_document text ≡ Some ms

-- the text is longer than is read, or is no TOML document
abbrev pub IsNoDocument : List ℕ → Type 0
IsNoDocument text = (ms : Members) → ¬ Reads text ms

-- What a text says: settings, where it is a document in which all is right; else the first name that isn't, or an
-- empty one where it is no document.
abbrev pub Says : List ℕ → Result Settings (List ℕ) → Type 0
Says text (Ok s) = (ms : Members) × Reads text ms × AllRight ms × (s ≡ settings_in ms)
Says text (Err name) = ((ms : Members) × Reads text ms × IsFirstWrong ms name) ⊎ (IsNoDocument text × (name ≡ []))

abbrev pub IsRefusedFor : List ℕ → SetRefusal → Type 0
IsRefusedFor text (Bad name) = Says text (Err name)
IsRefusedFor text NoMemory = Unit {0}

-- the answer is what the text says, unless memory is wanting
abbrev pub Gives : Result Settings SetRefusal → Result Settings (List ℕ) → Type 0
Gives (Ok s) said = said ≡ Ok s
Gives (Err (Bad name)) said = said ≡ Err name
Gives (Err NoMemory) said = Unit {0}

-- each number is in its attribute's range
pub record AreInRange (s : Settings) : Type 0 where
  pub log_file_size : (log_file_size_least ≤ s.log_file_size) × (s.log_file_size ≤ log_file_size_most)
  pub log_buf_size : (log_buf_size_least ≤ s.log_buf_size) × (s.log_buf_size ≤ log_buf_size_most)
  pub perm_pages : (perm_pages_least ≤ s.perm_pages) × (s.perm_pages ≤ perm_pages_most)
  pub ckpt_pages : (ckpt_pages_least ≤ s.ckpt_pages) × (s.ckpt_pages ≤ ckpt_pages_most)
  pub database : (database_least ≤ s.database) × (s.database ≤ database_most)
