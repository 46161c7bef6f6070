-- What a comma that is offered against a hint makes of the text of a document once the client has made
-- the edit (own; Language Server Protocol 3.17, "TextEdit" and "Position").
use Rattle.std.specs.Prelude.{ℕ, ◌≡◌, Contains, List, [], ◌∷◌, ◌++◌, slice_set, take}
use Rattle.std.specs.List.{concat}
use Rattle.ti_text.specs.Ascii as ascii
use Rattle.tools_sources.specs.Sources.{preface_of, source_texts}
use Rattle.source_types.specs.declared.places.Range.{Range}
use Rattle.source_spans.specs.Replacing.{exchanged}
use Rattle.source_spans.specs.declared.parts.Part.{Part}
use Rattle.source_block_hints.specs.Blocks.{block_hints}
use Rattle.source_block_hints.specs.declared.hint.Hint.{Hint}
use Rattle.source_document.specs.Diagnostics.{text_at}
use Rattle.source_document.specs.Documents.{held}
use Rattle.source_places.specs.Position.{offset_of}
use Rattle.source_places.specs.Splicing.{spliced}
use Rattle.source_blocks.specs.Places.{missing_newline}
use Rattle.source_keeping.specs.Keeping.{KeepsLines}
use Rattle.source_fixes.specs.HintFixes.{hint_fixes_of}
use Rattle.source_fixes.specs.Parting.{IsParted, texts_of}
use Rattle.source_fixes.specs.declared.hint_fixes.HintFix.{HintFix}

-- a block with a comma in the place of a part
abbrev pub with_comma : List ℕ → Part → List ℕ
with_comma block part = exchanged block part (ascii.comma ∷ [])

-- a text once the client has put a comma in the place of the range of a fix
abbrev pub client_with_comma : List ℕ → HintFix → List ℕ
client_with_comma text fix = spliced text (offset_of text fix.range.start) (offset_of text fix.range.end) (ascii.comma ∷ [])

-- A fix is against a hint of its kind on a block of the text. Once the edit is made one text of the
-- block, its names field or an item, is two, of which the other says a capability, and all others are
-- as they were. The client that puts a comma at the range of the fix has the block so, and what is
-- before and after the block as it was, and lacks a newline at the end if it did. The blocks of the
-- text are those that it had but for this one. Each comment and each blank line of the text is as it
-- was, on the line that it was on.
pub record IsParting (text : List ℕ) (fix : HintFix) : Type 0 where
  pub at : ℕ
  pub hint : Hint
  pub part : Part
  pub front : List ℕ
  pub back : List ℕ
  pub found : Contains (block_hints (text_at (held text) at)) hint
  pub against : fix.kind ≡ hint.kind
  pub before : front ≡ preface_of text ++ concat (take at (held text))
  pub whole : text ++ missing_newline text ≡ front ++ (text_at (held text) at ++ back)
  pub parted : IsParted (texts_of (text_at (held text) at)) (texts_of (with_comma (text_at (held text) at) part))
  pub applied : client_with_comma text fix ++ missing_newline text ≡ front ++ (with_comma (text_at (held text) at) part ++ back)
  pub cut : source_texts (client_with_comma text fix) ≡ slice_set (held text) at (with_comma (text_at (held text) at) part)
  pub lines : KeepsLines text (client_with_comma text fix)

-- each fix of a text that is against a hint is so
abbrev pub CommasPart : Type 0
CommasPart = (text : List ℕ) (range : Range) (fix : HintFix) → Contains (hint_fixes_of text range) fix → IsParting text fix
