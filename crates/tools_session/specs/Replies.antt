-- How the positions of blocks are shown (own): in decimal digits, with single spaces between, or
-- `-` if there are none.
use Rattle.std.specs.Prelude.{ℕ, List, [], ◌∷◌, ◌++◌, codes}
use Rattle.std.specs.Fmt.{decimal}
use Rattle.std.specs.List.{flat_map}
use Rattle.ti_text.specs.Ascii as ascii
use Rattle.tools_devices.specs.Lines.{with_newline}

-- a space and a position
abbrev pub next_position : ℕ → List ℕ
next_position position = ascii.space ∷ decimal position

-- the reply that shows positions
abbrev pub positions_text : List ℕ → List ℕ
positions_text [] = with_newline (codes "-")
positions_text (position ∷ positions) = with_newline (decimal position ++ flat_map next_position positions)
