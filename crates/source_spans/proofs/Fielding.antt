-- The names field of a block, folded byte by byte up to its comma.
use Rattle.std.proofs.Common.{◌≡◌, ℕ, Bool, false, List, ◌++◌, drop, Option, None}
use Rattle.ti_source.specs.Folding.{PlacedByte}
use Rattle.ti_source.specs.Items.{bytes}
use Rattle.source_spans.specs.Folding.{bytes_at, without_breaks, without_comments}
use Rattle.source_spans.specs.Parts.{field_of}
use Rattle.source_spans.specs.declared.parts.Part.{Part}
use Rattle.source_spans.specs.inside.Heads.{spanned_on}

-- what comes of the bytes that are left of a block
abbrev pub field_after : Bool → ℕ → Bool → ℕ → List ℕ → List PlacedByte
field_after comment before joining at block = field_of (without_breaks joining (without_comments comment before (bytes_at at block)))

-- the bytes of the names field, given those that are found of it
abbrev pub IsTextBy : List ℕ → List ℕ → Bool → ℕ → Bool → ℕ → Type 0
IsTextBy block found comment before joining at = found ++ bytes (field_after comment before joining at (drop at block)) ≡ bytes (field_after false 10 false 0 block)

-- where it is, given where these are
abbrev pub IsSpanBy : List ℕ → Option Part → Bool → ℕ → Bool → ℕ → Type 0
IsSpanBy block span comment before joining at =
    spanned_on span (field_after comment before joining at (drop at block)) ≡ spanned_on None (field_after false 10 false 0 block)
