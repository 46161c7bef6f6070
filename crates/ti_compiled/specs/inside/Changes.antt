-- A change of one capability, for the functions that make it (own).
use Rattle.std.specs.Prelude.{◌≡◌, ◌≢◌, ℕ, ◌<◌, Bool, true, false, List, Option, Some, None, option_map}
use Rattle.std.specs.Borrow.{Bor}
use Rattle.ti_caps.specs.Tables.{Capability, IsCapability, capability, count_of}
use Rattle.ti_caps.specs.declared.capability.Kind.TheVariants.{Number}
use Rattle.ti_layout.specs.Layout.{absent_mark}
use Rattle.ti_layout.specs.declared.layout.Format.TheVariants.{Extended}
use Rattle.ti_layout.specs.Image.{image, number_value, of_kind, ImageFits, ImageIsTooLarge}
use Rattle.ti_compiled.specs.Image.{NamedTable, held_by, with_content}
use Rattle.ti_compiled.specs.inside.Image.{names_in, contents_in}
use Rattle.ti_layout.specs.Laws.{without_cancel}
use Rattle.ti_layout.specs.Values.{Content, content_true, content_number, content_text, content_of, Contents, AgreesIfSome}
use Rattle.ti_layout.specs.declared.values.Value.{Value}

-- a boolean that is set, or is not
abbrev pub flag_content : Bool → Option Content
flag_content true = Some content_true
flag_content false = None

-- a number, or none
abbrev pub number_content : Option ℕ → Option Content
number_content number = option_map content_number number

-- a string, or none
abbrev pub text_content : Option (List ℕ) → Option Content
text_content text = option_map content_text text

-- what a value that is lent says
abbrev pub content_lent : Option (Bor Value) → Option Content
content_lent value = option_map (λ (v : Bor Value). content_of v.now) value

-- a string that is lent, or none
abbrev pub text_lent : Option (Bor (List ℕ)) → Option Content
text_lent text = text_content (option_map (λ (t : Bor (List ℕ)). t.now) text)

-- the image of what bytes hold, with another content of a capability
abbrev pub image_with : List ℕ → Capability → Option Content → List ℕ
image_with bytes cap content = image (names_in bytes) (with_content (contents_in bytes) cap content)

-- the image with the other content is within its limit
abbrev pub BytesFitWith : List ℕ → Capability → Option Content → Type 0
BytesFitWith bytes cap content = ImageFits (names_in bytes) (with_content (contents_in bytes) cap content)

-- the image with the other content is over its limit
abbrev pub BytesAreOverWith : List ℕ → Capability → Option Content → Type 0
BytesAreOverWith bytes cap content = ImageIsTooLarge (names_in bytes) (with_content (contents_in bytes) cap content)

-- a new image holds what the old one does, except for one capability
pub record IsSameBut (old new : NamedTable) (cap : Capability) : Type 0 where
  pub says : (c : Capability) → IsCapability c → c ≢ cap → held_by new c ≡ held_by old c

-- what is held of a capability once all that changes is taken away: what both the old and the new
-- values say, and else nothing
pub record IsLeft (old new held : Option Content) : Type 0 where
  pub same : old ≡ new → held ≡ without_cancel new
  pub gone : old ≢ new → held ≡ None

-- what the bytes hold, with a number given or taken away
abbrev pub with_number : List ℕ → ℕ → Option ℕ → Contents
with_number bytes index number = with_content (contents_in bytes) (capability Number index) (number_content number)

-- the number of an index, or the number that means absent
abbrev pub wide_value : Contents → ℕ → ℕ
wide_value contents index = number_value (absent_mark Extended) (of_kind contents Number index)

-- what each index of a number has is what it may have
abbrev pub HasNumbers : Contents → Type 0
HasNumbers contents = (index : ℕ) → index < count_of Number → AgreesIfSome (capability Number index) (contents (capability Number index))
