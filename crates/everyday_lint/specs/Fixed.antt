-- What the fixes that are made of a text make of its blocks (own; Language Server Protocol 3.17,
-- "TextEdit[]": all ranges are those of the text before).
use Rattle.std.specs.Prelude.{ℕ, ◌≡◌, ◌⊎◌, ◌+◌, ◌<◌, ◌==◌, All, Bool, Contains, List, false, filter, length, Some, slice_get, take}
use Rattle.std.specs.List.{concat, list_any}
use Rattle.ti_source.specs.Folding.{PlacedByte}
use Rattle.tools_sources.specs.Sources.{preface_of, source_texts}
use Rattle.source_spans.specs.Folding.{folded_of}
use Rattle.source_spans.specs.Replacing.{fault_at}
use Rattle.source_spans.specs.Subjects.{items_of}
use Rattle.source_plain.specs.Reading.{is_return, plain_source}
use Rattle.source_document.specs.Diagnostics.{Shown}
use Rattle.source_diagnostics.specs.declared.capabilities.Capabilities.{Capabilities}
use Rattle.source_blocks.specs.Places.{missing_newline}
use Rattle.source_keeping.specs.Keeping.{stays_in_line}
use Rattle.source_edits.specs.Edits.{EditSeen}
use Rattle.source_fixes.specs.Together.{AreMade, IsSound, certain_edits, certain_for, edited_last}
use Rattle.everyday_lint.specs.Checking.{made_in, offers_in}
use Rattle.everyday_lint.specs.Fates.{fixed_source}
use Rattle.everyday_lint.specs.Fixing.{begins, ends, fixed_text, made}
use Rattle.everyday_lint.specs.Offers.{OfferSeen, offers_of}
use Rattle.everyday_lint.specs.declared.options.LintOptions.{LintOptions}

-- where the block of a text at that position begins
abbrev pub block_begins : List ℕ → ℕ → ℕ
block_begins text at = length (preface_of text) + length (concat (take at (source_texts text)))

-- whether one of these fixes of a text begins where an edit of the block at that position does
abbrev pub is_made_by : List ℕ → List OfferSeen → (at : ℕ) → EditSeen → Bool
is_made_by text fixes at edit = list_any (λ (fix : OfferSeen). begins text fix == block_begins text at + edit.part.start) fixes

-- a block of a text with fixes made is the block that was there with those of its certain edits made at
-- once that begin where a fix does. So each item of which one was made is sound, and each other is as it
-- was. An item that has a certain edit still is one of which none was made.
pub record BlockIsFixed (text : List ℕ) (fixes : List OfferSeen) (at : ℕ) (block after : List ℕ) : Type 0 where
  pub is : after ≡ edited_last block (filter (is_made_by text fixes at) (certain_edits block))
  pub made : AreMade (is_made_by text fixes at) block after
  pub left : (ordinal : ℕ) (item now : List PlacedByte) (edit still : EditSeen) → slice_get (items_of (folded_of block)) ordinal ≡ Some item
      → Contains (certain_for item (fault_at block ordinal)) edit → slice_get (items_of (folded_of after)) ordinal ≡ Some now
      → Contains (certain_for now (fault_at after ordinal)) still → is_made_by text fixes at edit ≡ false

-- a fix that is made of a text is a certain edit of an item: it exchanges that part, and no more, for that
-- new text. The item is sound then.
pub record MendsItem (text after : List ℕ) (fix : OfferSeen) : Type 0 where
  pub at : ℕ
  pub block : List ℕ
  pub fixed : List ℕ
  pub ordinal : ℕ
  pub item : List PlacedByte
  pub edit : EditSeen
  pub was : slice_get (source_texts text) at ≡ Some block
  pub is : slice_get (source_texts after) at ≡ Some fixed
  pub there : slice_get (items_of (folded_of block)) ordinal ≡ Some item
  pub certain : Contains (certain_for item (fault_at block ordinal)) edit
  pub start : begins text fix ≡ block_begins text at + edit.part.start
  pub end : ends text fix ≡ block_begins text at + edit.part.end
  pub gives : fix.fix.text ≡ edit.text
  pub sound : IsSound fixed ordinal

-- a fix that could be made mends its item, but if it is not within a line of items, or begins before one
-- that is made
abbrev pub MendsUnless : List ℕ → List OfferSeen → List ℕ → OfferSeen → Type 0
MendsUnless text fixes after offer =
    MendsItem text after offer
    ⊎ ((stays_in_line text (begins text offer) (ends text offer) offer.fix.text ≡ false)
    ⊎ ((fix : OfferSeen) × Contains fixes fix × (begins text offer < begins text fix)))

-- a text with some of its certain fixes made has as many blocks as before, and each is so; what is before
-- the first is as it was, and a newline ends the text if one did. Each fix that is made mends an item.
-- So each that is certain does if they come in the order of the text and are within lines of items.
pub record TextIsFixed (text : List ℕ) (offers fixes : List OfferSeen) (after : List ℕ) : Type 0 where
  pub preface : preface_of after ≡ preface_of text
  pub newline : missing_newline after ≡ missing_newline text
  pub as_many : length (source_texts after) ≡ length (source_texts text)
  pub each_block : (at : ℕ) (block fixed : List ℕ) → slice_get (source_texts text) at ≡ Some block → slice_get (source_texts after) at ≡ Some fixed
      → BlockIsFixed text fixes at block fixed
  pub each_fix : All (MendsItem text after) fixes
  pub each_offer : All (MendsUnless text fixes after) offers

-- Whatever the diagnostics, a text with those of their fixes made that are certain and are chosen is so.
abbrev pub CertainFixesMendBlocks : Type 0
CertainFixesMendBlocks =
    (capabilities : Capabilities) (text : List ℕ) (all : List Shown)
    → TextIsFixed text (offers_of capabilities text all) (made text 0 (offers_of capabilities text all))
    (fixed_text text 0 (made text 0 (offers_of capabilities text all)))

-- What is read of a source is without the byte order mark in front, and without the CR of each CR LF, and
-- the diagnostics are of that. If it has no other CR, what is read of the source with the fixes made is so.
abbrev pub CertainFixesMendSources : Type 0
CertainFixesMendSources =
    (options : LintOptions) (source : List ℕ) → list_any is_return (plain_source source) ≡ false
    → TextIsFixed (plain_source source) (offers_in options (plain_source source)) (made_in options source)
    (plain_source (fixed_source source (made_in options source)))
