-- Edits of a block as fixes of the text.
use Rattle.std.proofs.Common.{◌≡◌, ℕ, List, map, sym, ap, ◌∙◌}
use Rattle.source_types.specs.declared.places.Position.{Position}
use Rattle.source_document.specs.Diagnostics.{text_at}
use Rattle.source_diagnostics.specs.declared.capabilities.Capabilities.{Capabilities}
use Rattle.source_blocks.specs.declared.spots.Spot.{Spot}
use Rattle.source_edits.specs.Edits.{edit_seen}
use Rattle.source_edits.specs.declared.edits.Edit.{Edit}
use Rattle.source_fixes.specs.Fixes.{FixSeen, edits_in, fixes_from, fixes_in, stretch_to}

-- those of the edits that are held in memory
pub fixes_held : (capabilities : Capabilities) (blocks : List (List ℕ)) (end : Position) (spot : Spot) (block : List ℕ) (edits : List Edit) (fixes : List FixSeen)
    → text_at blocks spot.at ≡ block
    → map edit_seen edits ≡ edits_in capabilities blocks (stretch_to block end spot) → fixes ≡ fixes_in spot.line block (map edit_seen edits)
    → fixes ≡ fixes_from capabilities blocks end spot
fixes_held capabilities blocks end spot block edits fixes is held e =
    e ∙ ap (fixes_in spot.line block) held ∙ ap (λ (b : List ℕ). fixes_in spot.line b (edits_in capabilities blocks (stretch_to b end spot))) (sym is)
