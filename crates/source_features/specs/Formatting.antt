-- The edit that lays out a document (own; Language Server Protocol 3.17, "Document Formatting
-- Request").
use Rattle.std.specs.Prelude.{ℕ, ◌≡◌, true, List, Option, None, Some, length, option_map, if◌then◌else◌}
use Rattle.std.specs.Str.{bytes_eq}
use Rattle.std.specs.String.{string_bytes}
use Rattle.source_types.specs.declared.places.Range.{Range}
use Rattle.source_format.specs.Sources.{formatted_source}
use Rattle.source_places.specs.Position.{is_start, offset_of, position_of}
use Rattle.source_places.specs.Splicing.{spliced}
use Rattle.source_edits.specs.Shown.{utf8_of}
use Rattle.source_features.specs.declared.formatting.LayoutEdit.{LayoutEdit}

-- the new text of a part of a text
pub record LayoutSeen : Type 0 where
  pub range : Range
  pub text : List ℕ

-- an edit that holds its text in memory, as plain data
abbrev pub layout_seen : LayoutEdit → LayoutSeen
layout_seen edit = record { range = edit.range; text = string_bytes edit.text }

-- the range of a whole text
abbrev pub whole_of : List ℕ → Range
whole_of text = record { start = record { line = 0; column = 0 }; end = position_of text (length text) }

-- the edit that puts another text in place of the whole
abbrev pub whole_edit : List ℕ → List ℕ → LayoutSeen
whole_edit text new = record { range = whole_of text; text = new }

-- the edit that gives a text another one: none if it is the same, or not UTF-8
abbrev pub layout_edit : List ℕ → List ℕ → Option LayoutSeen
layout_edit text laid = if bytes_eq laid text then None else option_map (whole_edit text) (utf8_of laid)

-- the edit that gives a text the layout of lines of 80 columns
abbrev pub layout_of : List ℕ → Option LayoutSeen
layout_of text = layout_edit text (formatted_source 80 text)

-- a text once the client has made an edit
abbrev pub client_laid : List ℕ → LayoutSeen → List ℕ
client_laid text edit = spliced text (offset_of text edit.range.start) (offset_of text edit.range.end) edit.text

-- a text that begins with a character has the layout once the client has made the edit
abbrev pub EditsLayOut : Type 0
EditsLayOut =
    (text : List ℕ) (edit : LayoutSeen) → is_start 0 text 0 ≡ true → layout_of text ≡ Some edit
    → client_laid text edit ≡ formatted_source 80 text
