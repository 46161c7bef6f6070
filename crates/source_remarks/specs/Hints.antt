-- The hints on a source, as an editor shows them (own; Language Server Protocol 3.17, "Diagnostic"):
-- those on its blocks, each with the first line of its item, and those on the whole file, each with
-- a line of it.
use Rattle.std.specs.Prelude.{ℕ, zero, suc, ◌+◌, ◌-◌, Bool, true, false, List, [], ◌∷◌, ◌++◌, codes, length, map, Some}
use Rattle.std.specs.List.{slice_range}
use Rattle.std.specs.String.{string_bytes}
use Rattle.base_meaning.specs.Report.{detail_text, lines_before}
use Rattle.tools_sources.specs.Sources.{first_line}
use Rattle.source_plain.specs.Reading.{plain_source}
use Rattle.source_types.specs.declared.places.Range.{Range}
use Rattle.source_places.specs.LineTexts.{line_of, until_end}
use Rattle.source_places.specs.Position.{position_of}
use Rattle.source_diagnostics.specs.Marking.{marked, text_at}
use Rattle.source_diagnostics.specs.declared.capabilities.Capabilities.{Capabilities}
use Rattle.source_diagnostics.specs.declared.capabilities.Capabilities.TheVariants.{Profile, UserDefined}
use Rattle.source_document.specs.Documents.{held}
use Rattle.source_hints.specs.FileForms.{file_hints}
use Rattle.source_hints.specs.Hints.{hints_of}
use Rattle.source_hints.specs.Merging.{merged}
use Rattle.source_hints.specs.Uses.{after_uses}
use Rattle.source_block_hints.specs.Words.{name_of, sentence_of}
use Rattle.source_block_hints.specs.declared.hint.Hint.{Hint}
use Rattle.source_block_hints.specs.declared.hint.HintKind.{HintKind}
use Rattle.source_remarks.specs.declared.marks.HintMark.{HintMark}
use Rattle.source_remarks.specs.declared.shown.ShownHint.{ShownHint}
use Rattle.source_remarks.specs.declared.sources.SourceHints.{SourceHints}

-- ---- what is shown

-- a hint as plain data: what of the source it is on, what it says, and in which words
pub record SeenHint : Type 0 where
  pub range : Range
  pub kind : HintKind
  pub message : List ℕ

-- a hint that holds its message in memory, as plain data
abbrev pub hint_seen : ShownHint → SeenHint
hint_seen h = record { range = h.range; kind = h.kind; message = string_bytes h.message }

-- what is quoted, after a space, if anything is
abbrev pub quoted : List ℕ → List ℕ
quoted [] = []
quoted (byte ∷ bytes) = detail_text (Some (byte ∷ bytes))

-- what is said: the name of the hint and what it quotes, what it means, and what helps
abbrev pub hint_message : HintKind → List ℕ → List ℕ
hint_message kind detail = name_of kind ++ quoted detail ++ codes ": " ++ sentence_of kind

-- ---- the hints on a block

-- the first line of a part of a block, from its first byte on
abbrev pub range_in : List ℕ → ℕ → ℕ → Range
range_in block start end = record {
  start = position_of block start;
  end = position_of block (start + length (until_end (slice_range block start end)));
}

-- a hint on a block, and what of the block is shown
abbrev pub mark_of : List ℕ → Hint → HintMark
mark_of block hint = record { hint = hint; range = range_in block hint.start hint.end }

-- the hints on a block, by whether it may have user-defined capabilities
abbrev pub block_marks : Bool → List ℕ → List HintMark
block_marks user_defined block = map (mark_of block) (hints_of user_defined block)

-- a range so many lines later
abbrev pub later : ℕ → Range → Range
later lines range = record {
  start = record { line = lines + range.start.line; column = range.start.column };
  end = record { line = lines + range.end.line; column = range.end.column };
}

-- a hint on a block that so many lines are before
abbrev pub shown_after : ℕ → List ℕ → HintMark → SeenHint
shown_after lines block mark = record {
  range = later lines mark.range;
  kind = mark.hint.kind;
  message = hint_message mark.hint.kind (slice_range block mark.hint.detail_start mark.hint.detail_end);
}

-- ---- the hints on a source

-- the hints on the block at that position in the order in which they begin: those on its text, and
-- those on items after a use whose block says their capability too
abbrev pub source_marks : Bool → List (List ℕ) → ℕ → List HintMark
source_marks user_defined texts at =
    map (mark_of (text_at texts at)) (merged (hints_of user_defined (text_at texts at)) (after_uses texts at))

-- the same as they are shown, if the first block begins on the line of the number `first`, counted
-- from 1
abbrev pub hints_at : Bool → List (List ℕ) → ℕ → ℕ → List SeenHint
hints_at user_defined texts first at =
    map (shown_after (first - 1 + lines_before texts at) (text_at texts at)) (source_marks user_defined texts at)

-- those on the blocks before that position
abbrev pub hints_before : Bool → List (List ℕ) → ℕ → ℕ → List SeenHint
hints_before user_defined texts first zero = []
hints_before user_defined texts first (suc at) = hints_before user_defined texts first at ++ hints_at user_defined texts first at

-- a hint on a source of which a text is read: it is shown on the line of the text where it begins
abbrev pub shown_in_file : (source text : List ℕ) → Hint → SeenHint
shown_in_file source text hint = record {
  range = marked (position_of source hint.start).line (line_of text (position_of source hint.start).line);
  kind = hint.kind;
  message = hint_message hint.kind [];
}

-- the hints on a source: those on its blocks, and those on the whole file
pub record SeenHints : Type 0 where
  pub blocks : List SeenHint
  pub file : List SeenHint

-- hints that are held in memory, as plain data
abbrev pub hints_seen : SourceHints → SeenHints
hints_seen hints = record { blocks = map hint_seen hints.blocks.items; file = map hint_seen hints.file.items }

-- whether a source may have user-defined capabilities
abbrev pub has_user_defined : Capabilities → Bool
has_user_defined Profile = false
has_user_defined UserDefined = true

-- the hints on a source of which a text is read, by which capabilities it may have: those on the
-- blocks of the text, and those on the file as it is; of a text that is refused, the latter alone
abbrev pub hints_on : Capabilities → (source text : List ℕ) → SeenHints
hints_on capabilities source text = record {
  blocks = hints_before (has_user_defined capabilities) (held text) (first_line text) (length (held text));
  file = map (shown_in_file source text) (file_hints source);
}

-- the hints on a text of which itself is read
abbrev pub text_hints : Capabilities → List ℕ → SeenHints
text_hints capabilities text = hints_on capabilities text text

-- the hints on a source as it is read: without a byte order mark in front, and without the CR of lines
-- that end in CR LF
abbrev pub hints_of_source : Capabilities → List ℕ → SeenHints
hints_of_source capabilities source = hints_on capabilities source (plain_source source)
