-- The offsets of a block at which an editor has a place, and what a text lacks of its blocks (own;
-- Language Server Protocol 3.17, "Position").
use Rattle.std.specs.Prelude.{ℕ, ◌==◌, ◌&&◌, nat_lt, Bool, List, [], ◌∷◌, length, if◌then◌else◌}
use Rattle.ti_text.specs.Ascii as ascii
use Rattle.ti_text.specs.Texts.{last_byte}
use Rattle.source_spans.specs.declared.parts.Part.{Part}
use Rattle.source_places.specs.Position.{is_start}

-- whether an editor has a place of that offset of a block: it is before the end of the last line,
-- and the start of a character, neither within one nor between a CR and its LF
abbrev pub is_place : List ℕ → ℕ → Bool
is_place block offset = nat_lt offset (length block) && is_start 0 block offset

-- whether an editor can exchange a part of a block, and no more and no less
abbrev pub can_be_exchanged : List ℕ → Part → Bool
can_be_exchanged block part = is_place block part.start && is_place block part.end

-- the newline that a text lacks at its end, if it lacks one: its blocks are read as if it were there
abbrev pub missing_newline : List ℕ → List ℕ
missing_newline text = if last_byte ascii.newline text == ascii.newline then [] else ascii.newline ∷ []
