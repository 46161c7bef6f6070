-- The nearest file of settings of a source (own; as git and rustfmt look for theirs): the one in its
-- directory, or else in the one above, and so on.
use Rattle.std.specs.Prelude.{◌≡◌, ◌⊎◌, ℕ, zero, suc, ◌+◌, ◌<◌, ◌^◌, ◌==◌, if◌then◌else◌, List, [], ◌∷◌, ◌++◌, codes, Option, Some, None, Ok}
use Rattle.std.specs.List.{list_any}
use Rattle.std.specs.String.{string_bytes}
use Rattle.ti_text.specs.Ascii as ascii
use Rattle.tools_devices.specs.Tree.{Files, FindsFile}
use Rattle.source_settings.specs.Files.{IsRefusedFor, Reads}
use Rattle.source_settings.specs.Refusals.{SeenRefusal, text_of}
use Rattle.source_settings.specs.Settings.{nothing_settled, settings_seen}
use Rattle.source_settings.specs.declared.finding.Settled.{Settled}
use Rattle.source_settings.specs.declared.finding.Settled.TheVariants.{By, Unread, Wrong}

-- the directory of a file: its path up to the last slash, nothing for the current one
abbrev pub directory_of : List ℕ → List ℕ
directory_of [] = []
directory_of (byte ∷ bytes) = if list_any (λ b. b == ascii.slash) (byte ∷ bytes) then byte ∷ directory_of bytes else []

-- so many directories above one
abbrev pub up : ℕ → List ℕ → List ℕ
up zero directory = directory
up (suc count) directory = up count directory ++ codes "../"

-- the file of settings so many directories above a source
abbrev pub file_above : ℕ → List ℕ → List ℕ
file_above count source = up count (directory_of source) ++ codes ".ti-lint.toml"

-- how many directories are looked through
abbrev pub directory_count : ℕ
directory_count = 64

-- how many bytes of a file are read: all, since no file that is read has more
abbrev pub whole_size : ℕ
whole_size = 2 ^ 64

-- none of so many directories, from that of a source on, has a file of settings
abbrev pub NoneWithin : Option Files → List ℕ → ℕ → Type 0
NoneWithin files source count = (nearer : ℕ) → nearer < count → FindsFile (file_above nearer source) whole_size files None

-- so many directories above a source is the nearest file of settings that there is
pub record IsNearest (files : Option Files) (source : List ℕ) (count : ℕ) : Type 0 where
  pub within : count < directory_count
  pub nearer : NoneWithin files source count

-- what is settled by the bytes of the file at a path
abbrev pub SettlesBy : (path bytes : List ℕ) → Settled → Type 0
SettlesBy path bytes (By settings) = Reads bytes (Ok settings)
SettlesBy path bytes (Wrong text) = (refusal : SeenRefusal) × IsRefusedFor bytes refusal × (string_bytes text ≡ path ++ text_of refusal)
SettlesBy path bytes (Unread text) = ⊥

-- nothing is settled
abbrev pub SettlesNothing : Settled → Type 0
SettlesNothing (By settings) = settings_seen settings ≡ nothing_settled
SettlesNothing settled = ⊥

-- the nearest file so many directories above a source has these bytes, and they settle what is settled
pub record SettlesAt (files : Option Files) (source : List ℕ) (settled : Settled) (count : ℕ) (bytes : List ℕ) : Type 0 where
  pub nearest : IsNearest files source count
  pub there : FindsFile (file_above count source) whole_size files (Some bytes)
  pub by_it : SettlesBy (file_above count source) bytes settled

-- what is settled for a source, if every file could be read up to the nearest one
abbrev pub IsReadFor : Option Files → List ℕ → Settled → Type 0
IsReadFor files source settled =
    (NoneWithin files source directory_count × SettlesNothing settled)
    ⊎ ((count : ℕ) × (bytes : List ℕ) × SettlesAt files source settled count bytes)

-- what is settled for a source: by the nearest file of settings, nothing if there is none; or that could
-- not be read, which is a failure more
abbrev pub IsSettled : Option Files → List ℕ → (before after : ℕ) → Settled → Type 0
IsSettled files source before after (Unread path) =
    (after ≡ before + 1) × ((count : ℕ) × IsNearest files source count × (string_bytes path ≡ file_above count source))
IsSettled files source before after settled = IsReadFor files source settled × (after ≡ before)
