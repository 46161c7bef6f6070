-- Why a block has no entry (own).
use Rattle.std.specs.Prelude.{ℕ, ◌≡◌, ◌↔◌, nat_eq, List, Option, Some, None, IsSome, option_and_then, slice_get, Bool, ◌&&◌}
use Rattle.std.specs.List.{find, position}
use Rattle.ti_source.specs.Code.{is_error}
use Rattle.ti_source.specs.Reading.{Reading}
use Rattle.base_meaning.specs.Compiled.{entry}
use Rattle.base_meaning.specs.Faults.{SourceFault, faults}
use Rattle.base_meaning.specs.Owner.{readings}
use Rattle.source_document.specs.Diagnostics.{Shown, diagnostics_of}
use Rattle.source_document.specs.Documents.{held}

-- whether a fault is an error of the block at that position
abbrev pub is_error_of : ℕ → SourceFault → Bool
is_error_of at fault = nat_eq fault.block at && is_error fault.code

-- why the block at that position has no entry: the first error that the report has of it
abbrev pub cause_of : List Reading → ℕ → Option SourceFault
cause_of blocks at = find (is_error_of at) (faults blocks)

-- the same in a text: the diagnostic that is published for it, at its place in the report
abbrev pub cause_told : List ℕ → ℕ → Option Shown
cause_told text at = option_and_then (slice_get (diagnostics_of text)) (position (is_error_of at) (faults (readings (held text))))

-- ---- law

-- a block has no entry exactly if the report has an error of it
abbrev pub MissingEntriesHaveACause : Type 0
MissingEntriesHaveACause =
    (blocks : List Reading) (at : ℕ) (block : Reading) → slice_get blocks at ≡ Some block
    → (entry blocks block ≡ None) ↔ IsSome (cause_of blocks at)
