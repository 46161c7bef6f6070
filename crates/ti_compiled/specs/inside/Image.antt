-- What the bytes of an image hold (own): the names and the contents that they are read as.
use Rattle.ti_text.specs.Limits.{names_max}
use Rattle.std.specs.Prelude.{◌≡◌, ℕ, zero, suc, ◌-◌, ◌<◌, ◌≤◌, List, [], ◌∷◌, ◌++◌, length, take, Option, Some, None}
use Rattle.ti_caps.specs.Tables.{Capability, IsCapability, capability, count_of}
use Rattle.ti_caps.specs.declared.capability.Kind.{Kind}
use Rattle.ti_caps.specs.declared.capability.Kind.TheVariants.{Flag, Number, Text}
use Rattle.ti_layout.specs.declared.layout.Format.TheVariants.{Legacy}
use Rattle.ti_layout.specs.Image.{image, image_limit}
use Rattle.ti_layout.specs.Laws.{without_cancel}
use Rattle.ti_layout.specs.Reading.{contents_of, format_in, numbers_in, names_section, flags_section, numbers_section, offsets_section, strings_section}
use Rattle.ti_layout.specs.Values.{Content, Contents, Mention, AgreesIfSome, HasNoNul}
use Rattle.ti_compiled.specs.Image.{NamedTable}

-- the names field of an entry: its section without the NUL
abbrev pub names_in : List ℕ → List ℕ
names_in bytes = take (length (names_section bytes) - 1) (names_section bytes)

-- what the sections of an entry say of each capability
abbrev pub contents_in : List ℕ → Contents
contents_in bytes =
    contents_of (format_in bytes) (flags_section bytes) (numbers_in (format_in bytes) (numbers_section bytes)) (numbers_in Legacy (offsets_section bytes))
    (strings_section bytes)

-- Names of 1 to 127 bytes without NUL, contents that agree with their capabilities, none of them
-- cancelled, nothing but of the 497 capabilities, and an image within the limit.
pub record IsImaged (names : List ℕ) (contents : Contents) : Type 0 where
  pub some : 0 < length names
  pub short : length names ≤ names_max
  pub no_nul : HasNoNul names
  pub agree : (c : Capability) → IsCapability c → AgreesIfSome c (contents c)
  pub present : (c : Capability) → IsCapability c → without_cancel (contents c) ≡ contents c
  pub past : (kind : Kind) (index : ℕ) → count_of kind ≤ index → contents (capability kind index) ≡ None
  pub within : length (image names contents) ≤ image_limit contents

-- the bytes are the image of what they are read as
pub record IsImage (bytes : List ℕ) : Type 0 where
  pub imaged : IsImaged (names_in bytes) (contents_in bytes)
  pub whole : bytes ≡ image (names_in bytes) (contents_in bytes)

-- the entry of a capability, if it has something
abbrev pub entry_if : Capability → Option Content → List Mention
entry_if c None = []
entry_if c (Some content) = (c, content) ∷ []

-- the entries of the first capabilities of a kind, in order
unfoldable pub entries_below : Contents → Kind → ℕ → List Mention
entries_below contents kind zero = []
entries_below contents kind (suc n) = entries_below contents kind n ++ entry_if (capability kind n) (contents (capability kind n))

-- the entries of all capabilities, in the order of the compiled entry
abbrev pub entries_with : Contents → List Mention
entries_with contents =
    entries_below contents Flag (count_of Flag) ++ entries_below contents Number (count_of Number) ++ entries_below contents Text (count_of Text)

-- what contracts see of an image with these bytes
abbrev pub seen : List ℕ → NamedTable
seen bytes = record { names = names_in bytes; entries = entries_with (contents_in bytes) }
