-- The text of a document once the client has made the edits of a rename (own; Language Server
-- Protocol 3.17, "TextEdit[]": each is of the text as it was, and no two overlap).
use Rattle.std.specs.Prelude.{ℕ, suc, ◌≡◌, ◌++◌, true, false, Some, List, [], ◌∷◌}
use Rattle.std.specs.List.{concat}
use Rattle.base_meaning.specs.Owner.{owner, readings}
use Rattle.tools_sources.specs.Sources.{preface_of}
use Rattle.source_keeping.specs.Keeping.{KeepsLines}
use Rattle.source_types.specs.declared.places.Position.{Position}
use Rattle.source_document.specs.Documents.{held}
use Rattle.source_places.specs.Position.{offset_of}
use Rattle.source_places.specs.Splicing.{spliced}
use Rattle.source_blocks.specs.Giving.{can_be_given}
use Rattle.source_blocks.specs.Places.{missing_newline}
use Rattle.source_names.specs.NameEdits.{NameEdit, Rename, edits_in}
use Rattle.source_names.specs.Renaming.{RenameSeen, is_taken, renaming_of, renames}

-- a text with these edits made, each where it is in the text as it was: the last is made first
abbrev pub edited : List ℕ → List NameEdit → List ℕ
edited text [] = text
edited text (edit ∷ edits) = spliced (edited text edits) edit.part.start edit.part.end edit.text

-- an edit at the offsets of its range
abbrev pub edit_at : List ℕ → RenameSeen → NameEdit
edit_at text edit = record { part = record { start = offset_of text edit.range.start; end = offset_of text edit.range.end }; text = edit.text }

-- edits at the offsets of their ranges
abbrev pub edits_at : List ℕ → List RenameSeen → List NameEdit
edits_at text [] = []
edits_at text (edit ∷ edits) = edit_at text edit ∷ edits_at text edits

-- a text once the client has made these edits of it
abbrev pub client_renamed : List ℕ → List RenameSeen → List ℕ
client_renamed text edits = edited text (edits_at text edits)

-- blocks, of which the first is at that position, with the edits of a rename made
abbrev pub blocks_renamed : Rename → ℕ → List (List ℕ) → List (List ℕ)
blocks_renamed rename at [] = []
blocks_renamed rename at (block ∷ rest) = edited block (edits_in rename at block) ∷ blocks_renamed rename (suc at) rest

-- A rename of a text that is accepted: a block owns the name, and the new one can be given and is
-- not taken. The client that makes the edits has each block with the name exchanged in its head, if
-- it is the owner, and in its uses, and what is before the blocks as it was, and lacks a newline at
-- the end if it did. Each comment and each blank line of the text is as it was, on the line that it
-- was on.
pub record IsRenaming (text : List ℕ) (new : List ℕ) (edits : List RenameSeen) : Type 0 where
  pub rename : Rename
  pub new_is : rename.new ≡ new
  pub owns : owner (readings (held text)) rename.name ≡ Some rename.owner
  pub given : can_be_given new ≡ true
  pub free : is_taken (readings (held text)) rename.owner new ≡ false
  pub applied : client_renamed text edits ++ missing_newline text ≡ preface_of text ++ concat (blocks_renamed rename 0 (held text))
  pub lines : KeepsLines text (client_renamed text edits)

-- each rename that is accepted is so
abbrev pub RenamesAreApplied : Type 0
RenamesAreApplied =
    (text : List ℕ) (place : Position) (new : List ℕ) (edits : List RenameSeen) → renaming_of text place new ≡ renames edits
    → IsRenaming text new edits
