-- What the certain edits of a block make of it if several of them are made at once (own; Language
-- Server Protocol 3.17, "TextEdit[]": each is of the text as it was).
use Rattle.std.specs.Prelude.{ℕ, suc, ◌≡◌, Bool, true, Contains, List, [], ◌∷◌, ◌++◌, filter, length, Option, Some, slice_get}
use Rattle.ti_source.specs.Cutting.{OneBlock}
use Rattle.ti_source.specs.Folding.{PlacedByte}
use Rattle.ti_source.specs.Reading.{Said}
use Rattle.ti_source.specs.declared.code.Code.{Code}
use Rattle.ti_source.specs.declared.code.Code.TheVariants as code
use Rattle.source_spans.specs.Folding.{folded_of}
use Rattle.source_spans.specs.Replacing.{fault_at, item_texts, said_at}
use Rattle.source_spans.specs.Subjects.{head_text, items_of}
use Rattle.source_edits.specs.Edits.{EditSeen, carets, edits_for, is_certain, kind_signs}
use Rattle.source_fixes.specs.Healing.{block_after}

-- ---- the edits

-- the edits that are certain for an item with this fault: the sign of its kind, or a backslash before
-- a `^`
abbrev pub certain_for : List PlacedByte → Option Code → List EditSeen
certain_for item (Some code.WrongKind) = kind_signs item
certain_for item (Some code.BadString) = carets item
certain_for item _ = []

-- those of items of a block, of which the first has that ordinal
abbrev pub certain_from : List ℕ → ℕ → List (List PlacedByte) → List EditSeen
certain_from block ordinal [] = []
certain_from block ordinal (item ∷ items) = certain_for item (fault_at block ordinal) ++ certain_from block (suc ordinal) items

-- those of a block, in its order
abbrev pub certain_edits : List ℕ → List EditSeen
certain_edits block = certain_from block 0 (items_of (folded_of block))

-- a block with these edits made, each where it is in the block as it was: the last is made first
abbrev pub edited_last : List ℕ → List EditSeen → List ℕ
edited_last block [] = block
edited_last block (edit ∷ edits) = block_after (edited_last block edits) edit

-- ---- which they are

-- of what is offered for an item those are certain, and no others
pub record TheseAreCertain : Type 0 where
  pub these : (item : List PlacedByte) (fault : Option Code) (value : Option (List ℕ)) (edit : EditSeen) → Contains (certain_for item fault) edit
      → Contains (edits_for item fault value) edit × (is_certain edit.advice ≡ true)
  pub no_others : (item : List PlacedByte) (fault : Option Code) (value : Option (List ℕ)) (edit : EditSeen) → Contains (edits_for item fault value) edit
      → is_certain edit.advice ≡ true → Contains (certain_for item fault) edit

-- ---- what they make of the block

-- an item has the text that it had, and is read as it was
pub record StaysAsItWas (block after : List ℕ) (ordinal : ℕ) : Type 0 where
  pub text : slice_get (item_texts after) ordinal ≡ slice_get (item_texts block) ordinal
  pub says : said_at after ordinal ≡ said_at block ordinal
  pub fault : fault_at after ordinal ≡ fault_at block ordinal

-- an item says something, and has no fault but that of an odd escape, against which no edit is certain
pub record IsSound (block : List ℕ) (ordinal : ℕ) : Type 0 where
  pub said : Said
  pub says : said_at block ordinal ≡ Some said
  pub fault : (found : Code) → fault_at block ordinal ≡ Some found → found ≡ code.UnknownEscape

-- Certain edits are made that are chosen: the block is one block then, with the names field and as many
-- items as before. An item of which one was chosen is sound, and any other is as it was. So an item
-- that has a certain edit then is one of which none was chosen.
pub record AreMade (chosen : EditSeen → Bool) (block after : List ℕ) : Type 0 where
  pub one : OneBlock after
  pub head : head_text after ≡ head_text block
  pub as_many : length (item_texts after) ≡ length (item_texts block)
  pub sound : (ordinal : ℕ) (item : List PlacedByte) (edit : EditSeen) → slice_get (items_of (folded_of block)) ordinal ≡ Some item
      → Contains (certain_for item (fault_at block ordinal)) edit → chosen edit ≡ true → IsSound after ordinal
  pub others : (ordinal : ℕ) (item : List PlacedByte) → slice_get (items_of (folded_of block)) ordinal ≡ Some item
      → filter chosen (certain_for item (fault_at block ordinal)) ≡ [] → StaysAsItWas block after ordinal
  pub left : (ordinal : ℕ) (item : List PlacedByte) (edit : EditSeen) → slice_get (items_of (folded_of after)) ordinal ≡ Some item
      → Contains (certain_for item (fault_at after ordinal)) edit → StaysAsItWas block after ordinal

-- The certain edits of a block that pass any test are made at once.
abbrev pub CertainEditsAreMade : Type 0
CertainEditsAreMade =
    (chosen : EditSeen → Bool) (block : List ℕ) → OneBlock block → AreMade chosen block (edited_last block (filter chosen (certain_edits block)))
