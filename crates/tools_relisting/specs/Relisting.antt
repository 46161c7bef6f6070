-- What can be listed so that it compiles to itself, and the law that it does (own).
use Rattle.ti_text.specs.Ascii as ascii
use Rattle.std.specs.Prelude.{◌≢◌, ℕ, List, All, Option, Some, None, ◌≡◌, suc, slice_get}
use Rattle.ti_caps.specs.Tables.{Capability, IsCapability}
use Rattle.ti_spelling.specs.Spelling.{AreBytes}
use Rattle.ti_source.specs.Header.{IsLookupName}
use Rattle.ti_layout.specs.Values.{Content, content_true, content_number, content_text, content_cancelled, Contents, Agrees}
use Rattle.ti_list.specs.Items.{IsListable}
use Rattle.ti_layout.specs.View.{Entry}
use Rattle.ti_list.specs.RelativeSource.{Listed, entries_of, first_name, with_others}
use Rattle.ti_layout.specs.Image.{image, ImageFits}
use Rattle.base_meaning.specs.Owner.{readings, owner}
use Rattle.base_meaning.specs.Compiled.{compiled}
use Rattle.ti_list.specs.declared.layout.Layout.{Layout}
use Rattle.ti_list.specs.Listing.{listing}

-- a source can give the capability this content, if it is something: a value that fits it, a string
-- of bytes, or a cancel
abbrev pub CanHave : Capability → Option Content → Type 0
CanHave c None = Unit {0}
CanHave c (Some content_true) = Agrees c content_true
CanHave c (Some (content_number n)) = Agrees c (content_number n)
CanHave c (Some (content_text t)) = Agrees c (content_text t) × AreBytes t
CanHave c (Some content_cancelled) = Unit {0}

-- each capability can have what it has there
abbrev pub CanHaveAll : Contents → Type 0
CanHaveAll table = (c : Capability) → IsCapability c → CanHave c (table c)

-- an entry whose names field and contents can be listed
pub record CanBeShown (entry : Entry) : Type 0 where
  pub names : List (List ℕ)
  pub listable : IsListable entry.names names
  pub holds : CanHaveAll entry.contents

-- a name that `use=` can give: a lookup name with no backslash
pub record IsUsableName (name : List ℕ) : Type 0 where
  pub lookup : IsLookupName name
  pub bare : All (λ byte. byte ≢ ascii.backslash) name

-- an entry that another one can use by its first name
pub record CanBeUsed (entry : Entry) : Type 0 where
  pub shown : CanBeShown entry
  pub first : IsUsableName (first_name entry.names)

-- The listing of what can be listed compiles to its image, in whatever source it is.
abbrev pub ListingsCompile : Type 0
ListingsCompile =
    (field : List ℕ) (names : List (List ℕ)) (table : Contents) (layout : Layout) → IsListable field names → CanHaveAll table → ImageFits field table
    → (texts : List (List ℕ)) (at : ℕ) → slice_get texts at ≡ Some (listing field table layout) → compiled texts at ≡ Some (image field table)

-- the first name of each of the others belongs to its listing, which follows the relative source of
-- the entry
abbrev pub OwnTheirNames : Entry → Layout → List Listed → Type 0
OwnTheirNames entry layout listed =
    (i : ℕ) (one : Listed) → slice_get listed i ≡ Some one → owner (readings (with_others entry layout listed)) (first_name one.0.names) ≡ Some (suc i)

-- The relative source of an entry compiles to the image of the entry, with the listings of the
-- others after it, each in any layout.
abbrev pub RelativesCompile : Type 0
RelativesCompile =
    (entry : Entry) (layout : Layout) (listed : List Listed) → CanBeShown entry → All CanBeUsed (entries_of listed) → OwnTheirNames entry layout listed
    → ImageFits entry.names entry.contents
    → compiled (with_others entry layout listed) 0 ≡ Some (image entry.names entry.contents)
