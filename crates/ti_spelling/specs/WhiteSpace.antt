-- White space at the end of a text (X/Open Curses Issue 7, "Terminfo Source Format").
use Rattle.std.specs.Prelude.{ℕ, if◌then◌else◌, List, [], ◌∷◌}
use Rattle.std.specs.List.{list_all}
use Rattle.ti_text.specs.WhiteSpace.{is_white_space}

-- a text without the white space at its end
abbrev pub without_trailing_space : List ℕ → List ℕ
without_trailing_space [] = []
without_trailing_space (x ∷ xs) = if list_all is_white_space (x ∷ xs) then [] else x ∷ without_trailing_space xs
