-- What an image holds once a capability is given another content (own).
use Rattle.std.specs.Prelude.{◌≡◌, ◌↔◌, Option, Result, IsErrOf, OnErr, OnOk}
use Rattle.ti_caps.specs.Tables.{Capability, IsCapability}
use Rattle.ti_layout.specs.declared.writing.WriteError.{WriteError}
use Rattle.ti_layout.specs.declared.writing.WriteError.TheVariants.{NamesTooLong, TooLarge, Memory}
use Rattle.ti_layout.specs.Image.{ImageFits, ImageIsTooLarge}
use Rattle.ti_layout.specs.Values.{Content}
use Rattle.ti_compiled.specs.Image.{NamedTable, held_by, with_content}

-- a new image holds what the old one does, with another content of a capability
pub record HoldsGiven (old new : NamedTable) (cap : Capability) (content : Option Content) : Type 0 where
  pub says : (c : Capability) → IsCapability c → held_by new c ≡ with_content (held_by old) cap content c

-- the layout of what is then held is within its limit
abbrev pub FitsWith : NamedTable → Capability → Option Content → Type 0
FitsWith i cap content = ImageFits i.names (with_content (held_by i) cap content)

-- the layout of what is then held is over its limit
abbrev pub IsOverWith : NamedTable → Capability → Option Content → Type 0
IsOverWith i cap content = ImageIsTooLarge i.names (with_content (held_by i) cap content)

-- A capability of an image is given a content, or what it has is taken away, and the names and what
-- every other capability has remain. Or the change is refused, exactly if the new image would be
-- too large or there is no memory, and nothing changes.
pub record SetsContent (old new : NamedTable) (cap : Capability) (content : Option Content) (result : Result (Unit {0}) WriteError) : Type 0 where
  pub names : OnOk result (new.names ≡ old.names)
  pub contents : OnOk result (HoldsGiven old new cap content)
  pub within : OnOk result (FitsWith old cap content)
  pub too_large : IsErrOf result TooLarge ↔ IsOverWith old cap content
  pub memory : IsErrOf result Memory → FitsWith old cap content
  pub names_fit : IsErrOf result NamesTooLong → ⊥
  pub err : OnErr result (new ≡ old)
