-- The edits that put a new name in the place of another (own; Language Server Protocol 3.17,
-- "TextEdit"): each exchanges bytes of one line, so that a comment between two lines of a name stays.
use Rattle.std.specs.Prelude.{ℕ, suc, ◌-◌, ◌==◌, ◌&&◌, nat_le, Bool, List, [], ◌∷◌, drop, flat_map, length, take, if◌then◌else◌}
use Rattle.std.specs.Str.{is_utf8}
use Rattle.ti_source.specs.Folding.{PlacedByte}
use Rattle.source_keeping.specs.Keeping.{stays_in_line}
use Rattle.source_spans.specs.Folding.{folded_of}
use Rattle.source_spans.specs.declared.parts.Part.{Part}
use Rattle.source_blocks.specs.Places.{can_be_exchanged}
use Rattle.source_edits.specs.Pieces.{bytes_in}
use Rattle.source_names.specs.Names.{one_name, parts_in}
use Rattle.source_names.specs.declared.name_edits.NameEdit as memory
use Rattle.source_names.specs.declared.name_edits.Rename as given

-- a rename: the position of the block that owns a name, the name, and the new one
pub record Rename : Type 0 where
  pub owner : ℕ
  pub name : List ℕ
  pub new : List ℕ

-- a part of a block, and what takes its place
pub record NameEdit : Type 0 where
  pub part : Part
  pub text : List ℕ

-- what is held in memory, as plain data
abbrev pub rename_seen : given.Rename → Rename
rename_seen rename = record { owner = rename.owner; name = rename.name.now; new = rename.new.now }

abbrev pub name_edit_seen : memory.NameEdit → NameEdit
name_edit_seen edit = record { part = edit.part; text = edit.text.now }

-- ---- the lines of a name

-- parts once the byte of that offset is before them: it is of the first of them that begins just
-- after it, and else a part by itself
abbrev pub with_byte : ℕ → List Part → List Part
with_byte at [] = record { start = at; end = suc at } ∷ []
with_byte at (part ∷ parts) =
    if part.start == suc at then record { start = at; end = part.end } ∷ parts
    else record { start = at; end = suc at } ∷ part ∷ parts

-- the parts of a block that bytes of its folded text are in: one on each line
abbrev pub line_parts : List PlacedByte → List Part
line_parts [] = []
line_parts (x ∷ xs) = with_byte x.1 (line_parts xs)

-- how many of the bytes that are left a part gets, if these parts are after it: those that they do
-- not take, each as many as it had
abbrev pub share : ℕ → List Part → ℕ
share left [] = left
share left (part ∷ parts) = share (left - (part.end - part.start)) parts

-- a new text in the place of parts: each but the first gets as many bytes as it had, from the last
-- on, and the first what is left
abbrev pub dealt : List Part → List ℕ → List NameEdit
dealt [] new = []
dealt (part ∷ parts) new =
    record { part = part; text = take (share (length new) parts) new } ∷ dealt parts (drop (share (length new) parts) new)

-- the edits that put a new name in the place of the one in that part of a block, of which this is
-- the folded text
abbrev pub name_edits : List PlacedByte → List ℕ → Part → List NameEdit
name_edits text new part = dealt (line_parts (bytes_in part text)) new

-- ---- the edits of a block

-- the parts of a block at that position that get the new name: the name in its head, if it is the
-- owner, and in its uses, whatever the other blocks are
abbrev pub named_parts : Rename → ℕ → List ℕ → List Part
named_parts rename at block = parts_in [] (one_name rename.owner rename.name) at block

-- their edits
abbrev pub edits_in : Rename → ℕ → List ℕ → List NameEdit
edits_in rename at block = flat_map (name_edits (folded_of block) rename.new) (named_parts rename at block)

-- whether an editor can make an edit of a block, no more and no less, and it is within a line of
-- items, so that it leaves comments and blank lines as they are
abbrev pub is_in_line : List ℕ → NameEdit → Bool
is_in_line block edit =
    can_be_exchanged block edit.part && (nat_le edit.part.start edit.part.end && stays_in_line block edit.part.start edit.part.end edit.text)

-- and its new text is UTF-8, as an editor is sent it
abbrev pub can_be_put : List ℕ → NameEdit → Bool
can_be_put block edit = is_in_line block edit && is_utf8 edit.text
