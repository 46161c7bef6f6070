-- What a fix makes of the block of its item once the client has made the edit (own; Language Server
-- Protocol 3.17, "TextEdit"): that item has lost its fault or its unknown name, and the others are
-- as they were.
use Rattle.std.specs.Prelude.{ℕ, ◌≡◌, ◌≢◌, ◌≤◌, ◌<◌, ◌⊎◌, All, Contains, List, ◌++◌, is_some, length, None, Some, slice_get, slice_set, take, true}
use Rattle.ti_text.specs.Ascii as ascii
use Rattle.ti_text.specs.Texts.{AreBytes, last_byte}
use Rattle.ti_source.specs.Cutting.{OneBlock}
use Rattle.ti_source.specs.Folding.{PlacedByte}
use Rattle.ti_source.specs.Parsing.{reading_of_text}
use Rattle.ti_source.specs.Reading.{Said, said_import}
use Rattle.ti_source.specs.Verdicts.{Verdict}
use Rattle.ti_source.specs.declared.code.Code.{Code}
use Rattle.ti_source.specs.declared.code.Code.TheVariants as code
use Rattle.base_meaning.specs.Owner.{owner, readings}
use Rattle.source_spans.specs.Folding.{folded_of}
use Rattle.source_spans.specs.Replacing.{IsReadBy, exchanged, fault_at, item_texts, said_at}
use Rattle.source_spans.specs.Subjects.{head_text, items_of}
use Rattle.source_spans.specs.declared.parts.Part.{Part}
use Rattle.source_document.specs.Diagnostics.{text_at}
use Rattle.source_descriptions.specs.UserDescriptions.{user_described}
use Rattle.source_hints.specs.Unknown.{is_unknown_name}
use Rattle.source_edits.specs.Edits.{EditSeen}
use Rattle.source_edits.specs.Laws.{IsOfCapability, IsRead}
use Rattle.source_fixes.specs.Fixes.{item_edits}

-- a part is one of a block
abbrev pub IsPartOf : List ℕ → Part → Type 0
IsPartOf block part = (part.start ≤ part.end) × (part.end ≤ length block)

-- a block once an edit of it is made
abbrev pub block_after : List ℕ → EditSeen → List ℕ
block_after block edit = exchanged block edit.part edit.text

-- once a part of a block is exchanged for a new text, no line ends with that text, nor just before
-- it if it is empty
abbrev pub IsInLine : List ℕ → Part → List ℕ → Type 0
IsInLine block part new = last_byte ascii.newline (take part.start block ++ new) ≢ ascii.newline

-- a new text is in the place of a part of a block, which is one block then too, and within a line
abbrev pub StaysOne : List ℕ → Part → List ℕ → Type 0
StaysOne block part new = IsPartOf block part × OneBlock (exchanged block part new) × IsInLine block part new

-- an edit of a block is so
abbrev pub Stays : List ℕ → EditSeen → Type 0
Stays block edit = StaysOne block edit.part edit.text

-- the item of that ordinal gets this text, and is read as the text is judged; the names field and
-- every other item have the texts that they had, and are read as they were
pub record OneItemChanges (block after : List ℕ) (ordinal : ℕ) (text : List ℕ) : Type 0 where
  pub texts : item_texts after ≡ slice_set (item_texts block) ordinal text
  pub head : head_text after ≡ head_text block
  pub reads : (verdict : Verdict) → IsRead text verdict → IsReadBy after ordinal verdict
  pub others : (at : ℕ) → at ≢ ordinal → (said_at after at ≡ said_at block at) × (fault_at after at ≡ fault_at block at)

-- what becomes of an item with a fault of that code: it is of a capability of its kind (W1), it says
-- what it said and has no fault (W3), or it is accepted (W2, E5)
abbrev pub IsFixed : Code → (block after : List ℕ) (ordinal : ℕ) (text : List ℕ) → Type 0
IsFixed code.UnknownCapability block after ordinal text = IsOfCapability text
IsFixed code.WrongKind block after ordinal text = (said : Said) × (said_at after ordinal ≡ Some said)
IsFixed code.UnknownEscape block after ordinal text = (said_at after ordinal ≡ said_at block ordinal) × (fault_at after ordinal ≡ None)
IsFixed code.BadString block after ordinal text = (said : Said) × (said_at after ordinal ≡ Some said)
IsFixed _ block after ordinal text = ⊥

-- the fault of an item is gone, and no other item has changed
pub record LosesFault (block after : List ℕ) (ordinal : ℕ) : Type 0 where
  pub code : Code
  pub text : List ℕ
  pub had : fault_at block ordinal ≡ Some code
  pub gone : fault_at after ordinal ≢ Some code
  pub changes : OneItemChanges block after ordinal text
  pub fixed : IsFixed code block after ordinal text

-- an item that used a name which no block has uses one of another block (E6), also once the block
-- is in its place, and no other item has changed
pub record GetsOwner (blocks : List (List ℕ)) (at : ℕ) (block after : List ℕ) (ordinal : ℕ) : Type 0 where
  pub name : List ℕ
  pub other : List ℕ
  pub place : ℕ
  pub text : List ℕ
  pub used : said_at block ordinal ≡ Some (said_import name)
  pub missing : owner (readings blocks) name ≡ None
  pub changes : OneItemChanges block after ordinal text
  pub uses : said_at after ordinal ≡ Some (said_import other)
  pub sound : fault_at after ordinal ≡ None
  pub owned : owner (readings blocks) other ≡ Some place
  pub leads : owner (readings (slice_set blocks at after)) other ≡ Some place
  pub apart : place ≢ at

-- an item with a user-defined name that is not known has a known one in its place (N8), what is
-- after the name stays, and no other item has changed
pub record GetsKnownName (block after : List ℕ) (ordinal : ℕ) : Type 0 where
  pub name : List ℕ
  pub other : List ℕ
  pub rest : List ℕ
  pub had : slice_get (item_texts block) ordinal ≡ Some (name ++ rest)
  pub unknown : is_unknown_name name ≡ true
  pub known : is_some (user_described other) ≡ true
  pub changes : OneItemChanges block after ordinal (other ++ rest)

-- one of these
abbrev pub Heals : (blocks : List (List ℕ)) (at : ℕ) (block after : List ℕ) (ordinal : ℕ) → Type 0
Heals blocks at block after ordinal = LosesFault block after ordinal ⊎ (GetsOwner blocks at block after ordinal ⊎ GetsKnownName block after ordinal)

-- each edit that is offered for an item of a block is of a part of the block, which stays one
-- block, and heals that item
abbrev pub EditsHeal : Type 0
EditsHeal =
    (blocks : List (List ℕ)) (at ordinal : ℕ) (item : List PlacedByte) (edit : EditSeen) → All OneBlock blocks → at < length blocks
    → AreBytes (text_at blocks at)
    → slice_get (items_of (folded_of (text_at blocks at))) ordinal ≡ Some item
    → Contains (item_edits blocks at ordinal (reading_of_text (text_at blocks at)) item) edit
    → Heals blocks at (text_at blocks at) (block_after (text_at blocks at) edit) ordinal × Stays (text_at blocks at) edit
