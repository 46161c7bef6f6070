-- What a fix makes of the text of a document once the client has made the edit (own; Language
-- Server Protocol 3.17, "TextEdit" and "Position").
use Rattle.std.specs.Prelude.{ℕ, ◌≡◌, ◌≢◌, ◌<◌, All, Contains, List, ◌++◌, slice_set, take, true}
use Rattle.std.specs.List.{concat}
use Rattle.ti_text.specs.Ascii as ascii
use Rattle.ti_text.specs.Texts.{AreBytes}
use Rattle.tools_sources.specs.Sources.{preface_of, source_texts}
use Rattle.source_types.specs.declared.places.Range.{Range}
use Rattle.source_document.specs.Diagnostics.{text_at}
use Rattle.source_document.specs.Documents.{held}
use Rattle.source_diagnostics.specs.declared.capabilities.Capabilities.{Capabilities}
use Rattle.source_places.specs.Position.{is_start, offset_of}
use Rattle.source_places.specs.Splicing.{spliced}
use Rattle.source_blocks.specs.Places.{missing_newline}
use Rattle.source_keeping.specs.Keeping.{KeepsLines}
use Rattle.source_edits.specs.Edits.{EditSeen}
use Rattle.source_fixes.specs.Fixes.{FixSeen, fixes_of}
use Rattle.source_fixes.specs.Healing.{Heals, block_after}

-- a text once the client has exchanged the range of a fix, as a change of that range does
abbrev pub client_edited : List ℕ → FixSeen → List ℕ
client_edited text fix = spliced text (offset_of text fix.range.start) (offset_of text fix.range.end) fix.text

-- A fix is of a block of the text, of which an item has a fault, uses a name that no block has, or
-- has a user-defined name that is not known: once the edit is made the item is healed, and all other
-- items of the block are as they were. The client that makes it at the range of the fix has the
-- block so, and what is before and after the block as it was, and lacks a newline at the end if it
-- did. The blocks of the text are those that it had but for this one. Each comment and each blank
-- line of the text is as it was, on the line that it was on.
pub record IsHealing (text : List ℕ) (fix : FixSeen) : Type 0 where
  pub at : ℕ
  pub ordinal : ℕ
  pub edit : EditSeen
  pub front : List ℕ
  pub back : List ℕ
  pub before : front ≡ preface_of text ++ concat (take at (held text))
  pub whole : text ++ missing_newline text ≡ front ++ (text_at (held text) at ++ back)
  pub heals : Heals (held text) at (text_at (held text) at) (block_after (text_at (held text) at) edit) ordinal
  pub applied : client_edited text fix ++ missing_newline text ≡ front ++ (block_after (text_at (held text) at) edit ++ back)
  pub cut : source_texts (client_edited text fix) ≡ slice_set (held text) at (block_after (text_at (held text) at) edit)
  pub lines : KeepsLines text (client_edited text fix)

-- each fix of a text is so
abbrev pub FixesHeal : Type 0
FixesHeal =
    (capabilities : Capabilities) (text : List ℕ) (range : Range) (fix : FixSeen) → AreBytes text → Contains (fixes_of capabilities text range) fix
    → IsHealing text fix

-- in ASCII with no CR each place is the start of a character
abbrev pub AsciiPlacesAreStarts : Type 0
AsciiPlacesAreStarts =
    (text : List ℕ) (offset : ℕ) → All (λ byte. byte < 128) text → All (λ byte. byte ≢ ascii.carriage_return) text → is_start 0 text offset ≡ true
