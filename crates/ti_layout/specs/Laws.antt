-- What ties reading to writing (term(5)).
use Rattle.ti_text.specs.Limits.{extended_entry_max, names_max}
use Rattle.std.specs.Prelude.{◌≡◌, ℕ, ◌<◌, ◌≤◌, List, ◌++◌, length, Option, Some, None}
use Rattle.ti_caps.specs.Tables.{Capability, IsCapability, capability, count_of}
use Rattle.ti_caps.specs.declared.capability.Kind.TheVariants.{Number}
use Rattle.ti_layout.specs.declared.layout.Format.{Format}
use Rattle.ti_layout.specs.Layout.{first_negative}
use Rattle.ti_layout.specs.Values.{Content, content_number, content_cancelled, Contents, AgreesIfSome, HasNoNul}
use Rattle.ti_layout.specs.Reading.{Reads}
use Rattle.ti_layout.specs.Image.{image, image_in, image_limit}

-- a cancelled value is absent
abbrev pub without_cancel : Option Content → Option Content
without_cancel None = None
without_cancel (Some content_cancelled) = None
without_cancel (Some content) = Some content

-- a format has room for each number
abbrev pub HoldsNumbers : Format → Contents → Type 0
HoldsNumbers format contents = (k n : ℕ) → k < count_of Number → contents (capability Number k) ≡ Some (content_number n) → n < first_negative format

-- An image in a format that has room for its numbers, of no more bytes than an entry may have, is
-- read as its names and contents, whatever follows it.
abbrev pub ImagesInFormatsAreRead : Type 0
ImagesInFormatsAreRead =
    (format : Format) (names rest : List ℕ) (contents : Contents) → 0 < length names → length names ≤ names_max → HasNoNul names
    → ((c : Capability) → IsCapability c → AgreesIfSome c (contents c)) → HoldsNumbers format contents
    → length (image_in format names contents) ≤ extended_entry_max
    → (read : Contents) × Reads (image_in format names contents ++ rest) names read × ((c : Capability) → IsCapability c → read c ≡ without_cancel (contents c))

-- An image within the limit, of names of 1 to 127 bytes without NUL and of contents that agree with
-- their capabilities, is read as those names and those contents, with cancelled as absent.
abbrev pub ImagesAreRead : Type 0
ImagesAreRead =
    (names : List ℕ) (contents : Contents) → 0 < length names → length names ≤ names_max → HasNoNul names
    → ((c : Capability) → IsCapability c → AgreesIfSome c (contents c)) → length (image names contents) ≤ image_limit contents
    → (read : Contents) × Reads (image names contents) names read × ((c : Capability) → IsCapability c → read c ≡ without_cancel (contents c))

-- the capabilities have the same values, a cancelled one being absent
abbrev pub ShowSame : Contents → Contents → Type 0
ShowSame t u = (c : Capability) → IsCapability c → without_cancel (t c) ≡ without_cancel (u c)

-- An image depends only on the values of the capabilities, with cancelled as absent.
abbrev pub ImagesAreOfValues : Type 0
ImagesAreOfValues = (names : List ℕ) (t u : Contents) → ShowSame t u → image names t ≡ image names u

-- The limit of an image depends only on the values of the capabilities.
abbrev pub LimitsAreOfValues : Type 0
LimitsAreOfValues = (t u : Contents) → ShowSame t u → image_limit t ≡ image_limit u
