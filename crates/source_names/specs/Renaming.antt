-- What an editor renames (own; Language Server Protocol 3.17, "Rename Request" and "Prepare Rename
-- Request").
use Rattle.std.specs.Prelude.{ℕ, suc, ◌≡◌, ◌+◌, ◌==◌, ◌&&◌, not, true, List, [], ◌∷◌, ◌++◌, map, Bool, Option, None, Some, option_and_then, option_map}
use Rattle.std.specs.Prelude.{if◌then◌else◌}
use Rattle.std.specs.List.{list_all, list_any}
use Rattle.std.specs.Option.{option_map_or}
use Rattle.std.specs.Str.{bytes_eq}
use Rattle.std.specs.String.{string_bytes}
use Rattle.ti_text.specs.Lines.{line_count}
use Rattle.ti_source.specs.Reading.{Reading}
use Rattle.base_meaning.specs.Owner.{owner, readings}
use Rattle.base_meaning.specs.Reaching.{any_use}
use Rattle.source_spans.specs.Subjects.{TouchedSeen}
use Rattle.source_types.specs.declared.failures.Failure.{Failure}
use Rattle.source_types.specs.declared.failures.Failure.TheVariants.{NameTaken, NoName}
use Rattle.source_types.specs.declared.places.Position.{Position}
use Rattle.source_types.specs.declared.places.Range.{Range}
use Rattle.source_document.specs.Diagnostics.{text_at}
use Rattle.source_document.specs.Documents.{held}
use Rattle.source_blocks.specs.Giving.{can_be_given}
use Rattle.source_blocks.specs.Spots.{head_line, range_in, spot_at}
use Rattle.source_blocks.specs.Symbols.{IsUpTo}
use Rattle.source_blocks.specs.declared.spots.Spot.{Spot}
use Rattle.source_names.specs.NameEdits.{NameEdit, Rename, can_be_put, edits_in}
use Rattle.source_names.specs.Names.{name_of, owner_of, touched_at, touched_in}
use Rattle.source_names.specs.declared.renaming.RenameEdit.{RenameEdit}
use Rattle.source_names.specs.declared.renaming.Renaming.{Renaming}
use Rattle.source_names.specs.declared.renaming.Renaming.TheVariants.{Edits, Nothing, Refused}

-- ---- new names

-- whether an item of the blocks uses a name
abbrev pub is_used : List Reading → List ℕ → Bool
is_used blocks name = list_any (λ (block : Reading). any_use (bytes_eq name) block.items) blocks

-- whether the block at that position cannot get a name without leading a use elsewhere: another
-- block owns the name, or no block does and an item uses it, which would then lead to this one
abbrev pub is_taken : List Reading → ℕ → List ℕ → Bool
is_taken blocks at name = option_map_or (λ other. not (other == at)) (owner blocks name) (is_used blocks name)

-- why a name of the block at that position cannot be this one instead, if it cannot
abbrev pub failure_of : List (List ℕ) → ℕ → List ℕ → Option Failure
failure_of blocks at name =
    if can_be_given name then (if is_taken (readings blocks) at name then Some NameTaken else None) else Some NoName

-- ---- what is renamed

-- an edit of a text: a part of it, and what takes its place, as plain data
pub record RenameSeen : Type 0 where
  pub range : Range
  pub text : List ℕ

-- an edit that holds its text in memory, as plain data
abbrev pub rename_edit_seen : RenameEdit → RenameSeen
rename_edit_seen edit = record { range = edit.range; text = string_bytes edit.text }

-- what comes of a rename, as plain data: nothing is renamed, or the new name is refused, or these
-- edits are made
pub data RenamingSeen : Type 0 where
  renames_nothing : RenamingSeen
  refuses : Failure → RenamingSeen
  renames : List RenameSeen → RenamingSeen

-- what comes of a rename, held in memory, as plain data
abbrev pub renaming_seen : Renaming → RenamingSeen
renaming_seen Nothing = renames_nothing
renaming_seen (Refused failure) = refuses failure
renaming_seen (Edits edits) = renames (map rename_edit_seen edits.items)

-- an edit of a block that begins on that line, as one of the text
abbrev pub placed_edit : ℕ → List ℕ → NameEdit → RenameSeen
placed_edit line block edit = record { range = range_in line block edit.part; text = edit.text }

-- the edits of a rename in blocks, of which the first is at that position and begins on that line
abbrev pub edits_from : Rename → (at line : ℕ) → List (List ℕ) → List RenameSeen
edits_from rename at line [] = []
edits_from rename at line (block ∷ rest) =
    map (placed_edit line block) (edits_in rename at block) ++ edits_from rename (suc at) (line + line_count block) rest

-- the edits of a rename in all blocks of a text, in the order of the text
abbrev pub edits_of : List ℕ → Rename → List RenameSeen
edits_of text rename = edits_from rename 0 (head_line text) (held text)

-- whether each edit of a rename can be put in its place, in blocks of which the first is at that
-- position
abbrev pub can_be_renamed : Rename → ℕ → List (List ℕ) → Bool
can_be_renamed rename at [] = true
can_be_renamed rename at (block ∷ rest) = list_all (can_be_put block) (edits_in rename at block) && can_be_renamed rename (suc at) rest

-- the edits of a rename, if each can be put in its place; else no source can give the name there
abbrev pub renamed_so : List ℕ → Rename → RenamingSeen
renamed_so text rename = if can_be_renamed rename 0 (held text) then renames (edits_of text rename) else refuses NoName

-- what comes of a rename of a name that a block owns: the name in its head gets the new one, and so
-- do all uses of the name
abbrev pub renamed : List ℕ → Rename → RenamingSeen
renamed text rename = option_map_or refuses (failure_of (held text) rename.owner rename.new) (renamed_so text rename)

-- what comes of a rename of what is touched
abbrev pub renamed_touched : List ℕ → List ℕ → TouchedSeen → RenamingSeen
renamed_touched text new touched =
    option_map_or (λ at. renamed text (record { owner = at; name = name_of touched.subject; new = new })) (owner_of (held text) touched) renames_nothing

-- what comes of a rename at a place of a text
abbrev pub renaming_of : List ℕ → Position → List ℕ → RenamingSeen
renaming_of text place new = option_map_or (renamed_touched text new) (touched_at text place) renames_nothing

-- edits are in the order of the text from a place on, and none begins before the one before it ends
abbrev pub FollowFrom : Position → List RenameSeen → Type 0
FollowFrom place [] = Unit {0}
FollowFrom place (edit ∷ edits) = IsUpTo place edit.range.start × IsUpTo edit.range.start edit.range.end × FollowFrom edit.range.end edits

-- the edits of a rename are in the order of the text, and no two of them overlap
abbrev pub RenamedPartsFollow : Type 0
RenamedPartsFollow =
    (text : List ℕ) (place : Position) (new : List ℕ) (edits : List RenameSeen) → renaming_of text place new ≡ renames edits
    → FollowFrom (record { line = 0; column = 0 }) edits

-- the name of what is touched at a place in a block, if a block owns it
abbrev pub renamable_touched : List (List ℕ) → Spot → TouchedSeen → Option Range
renamable_touched blocks spot touched = option_map (λ at. range_in spot.line (text_at blocks spot.at) touched.name) (owner_of blocks touched)

-- the name that a rename at a place in a block is of
abbrev pub renamable_in : List (List ℕ) → Spot → Option Range
renamable_in blocks spot = option_and_then (renamable_touched blocks spot) (touched_in blocks spot)

-- the name that a rename at a place of a text is of
abbrev pub renamable_at : List ℕ → Position → Option Range
renamable_at text place = option_and_then (renamable_in (held text)) (spot_at text place)
