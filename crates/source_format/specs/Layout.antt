-- The layout of a source (own, as a listing of infocmp(1) has it): the names field on a line of its
-- own, and the items on lines that begin with a tab, with a space between two of them.
use Rattle.ti_text.specs.Ascii as ascii
use Rattle.std.specs.Prelude.{ℕ, ◌+◌, ◌==◌, ◌&&◌, nat_le, Bool, true, false, if◌then◌else◌, List, [], ◌∷◌, ◌++◌, flat_map}
use Rattle.ti_source.specs.Cutting.{blocks_from_head, front_of}
use Rattle.ti_source.specs.Parsing.{reading_of_text}
use Rattle.source_format.specs.Kinds.{kind_of, kind_after, together}
use Rattle.source_format.specs.Pieces.{Piece, item, kept, pieces_of}
use Rattle.source_format.specs.declared.kinds.Kind.{Kind}
use Rattle.source_format.specs.declared.kinds.Kind.TheVariants as kind

-- an item as it is written
abbrev pub item_bytes : List ℕ → Bool → List ℕ
item_bytes text ended = if ended then text ++ ascii.comma ∷ [] else text

-- the columns that a byte takes: 8 if it is a tab, and else one
abbrev pub byte_columns : ℕ → ℕ
byte_columns byte = if byte == ascii.tab then 8 else 1

-- the columns that a text takes
abbrev pub columns : List ℕ → ℕ
columns [] = 0
columns (byte ∷ text) = byte_columns byte + columns text

-- where the next item comes: how many columns of the line are taken, 0 if none is begun, and the
-- kind of its items
pub record Place : Type 0 where
  pub column : ℕ
  pub kind : Kind

-- the start of a line
abbrev pub line_start : Place
line_start = record { column = 0; kind = kind.Any }

-- whether an item of so many columns goes on the line, after a space: it is of the line's kind and
-- does not bring the line past the width
abbrev pub goes_on : ℕ → Place → Kind → ℕ → Bool
goes_on width place new size = together place.kind new && nat_le (place.column + 1 + size) width

-- what is written before an item
abbrev pub gap : Bool → Bool → List ℕ
gap true on = ascii.tab ∷ []
gap false true = ascii.space ∷ []
gap false false = ascii.newline ∷ ascii.tab ∷ []

-- the columns that are taken after an item; the tab before it takes 8
abbrev pub column_after : Bool → Bool → ℕ → ℕ → ℕ
column_after true on column size = 8 + size
column_after false true column size = column + 1 + size
column_after false false column size = 8 + size

-- the kind of the line after an item of the new kind
abbrev pub line_kind : Bool → Bool → Kind → Kind → Kind
line_kind true on old new = new
line_kind false true old new = kind_after old new
line_kind false false old new = new

-- the place after an item of this kind and so many columns
abbrev pub place_after : ℕ → Place → Kind → ℕ → Place
place_after width place new size = record {
  column = column_after (place.column == 0) (goes_on width place new size) place.column size;
  kind = line_kind (place.column == 0) (goes_on width place new size) place.kind new;
}

-- what ends the line, if one is begun
abbrev pub line_end : Bool → List ℕ
line_end true = []
line_end false = ascii.newline ∷ []

-- pieces as they are written from a place on, in lines of this width
abbrev pub laid : ℕ → Place → List Piece → List ℕ
laid width place [] = line_end (place.column == 0)
laid width place (item text ended ∷ ps) =
    let size = columns (item_bytes text ended) in
    gap (place.column == 0) (goes_on width place (kind_of text) size)
    ++ item_bytes text ended ++ laid width (place_after width place (kind_of text) size) ps
laid width place (kept line ∷ ps) = line_end (place.column == 0) ++ line ++ ascii.newline ∷ laid width line_start ps

-- a block as it is written
abbrev pub block_text : ℕ → List ℕ → List ℕ
block_text width block = (reading_of_text block).field ++ ascii.comma ∷ ascii.newline ∷ laid width line_start (pieces_of block)

-- a source as it is written: what is before its first block stays
abbrev pub formatted_text : ℕ → List ℕ → List ℕ
formatted_text width source = front_of ascii.newline source ++ flat_map (block_text width) (blocks_from_head ascii.newline source)
