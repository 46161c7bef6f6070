-- Blocks of which the lines can be counted (own).
use Rattle.std.specs.Prelude.{ℕ, ◌≤◌, ◌^◌, All, List, length}
use Rattle.ti_text.specs.Limits.{blocks_max}
use Rattle.source_document.specs.Documents.{IsShortBlock}

-- the lines of blocks can be counted, if the first of them begins on that line
pub record CanCount (first : ℕ) (blocks : List (List ℕ)) : Type 0 where
  pub few : length blocks ≤ blocks_max
  pub short : All IsShortBlock blocks
  pub first_line : first ≤ 2 ^ 63
