-- Commas in a block as fixes of the text.
use Rattle.std.proofs.Common.{◌≡◌, ℕ, List, sym, ap, ◌∙◌}
use Rattle.source_types.specs.declared.places.Position.{Position}
use Rattle.source_document.specs.Diagnostics.{text_at}
use Rattle.source_blocks.specs.declared.spots.Spot.{Spot}
use Rattle.source_fixes.specs.Fixes.{stretch_to}
use Rattle.source_fixes.specs.HintFixes.{hint_fixes_from, hint_fixes_in}
use Rattle.source_fixes.specs.declared.fixes.Stretch.{Stretch}
use Rattle.source_fixes.specs.declared.hint_fixes.HintFix.{HintFix}

-- those of the block at a position
pub hint_fixes_held : (blocks : List (List ℕ)) (end : Position) (spot : Spot) (block : List ℕ) (stretch : Stretch) (fixes : List HintFix)
    → text_at blocks spot.at ≡ block
    → stretch ≡ stretch_to block end spot → fixes ≡ hint_fixes_in spot.line block stretch → fixes ≡ hint_fixes_from blocks end spot
hint_fixes_held blocks end spot block stretch fixes is to e =
    e ∙ ap (hint_fixes_in spot.line block) to ∙ ap (λ (b : List ℕ). hint_fixes_in spot.line b (stretch_to b end spot)) (sym is)
