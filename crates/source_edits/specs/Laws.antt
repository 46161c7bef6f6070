-- What an edit makes of the item that it is offered for (own): the item is read without the fault.
use Rattle.std.specs.Prelude.{◌≡◌, ◌≢◌, ℕ, nat_le, nat_lt, All, Contains, List, ◌++◌, filter, map, Some}
use Rattle.ti_text.specs.Texts.{AreBytes}
use Rattle.ti_caps.specs.Tables.{Capability}
use Rattle.ti_source.specs.Folding.{PlacedByte}
use Rattle.ti_source.specs.Items.{Statement, States, bytes}
use Rattle.ti_source.specs.Reading.{Said, said_text}
use Rattle.ti_source.specs.Sound.{IsRising}
use Rattle.ti_source.specs.Verdicts.{Judges, Verdict, accepted, accepted_odd, refused, said_by}
use Rattle.ti_source.specs.declared.code.Code.TheVariants as code
use Rattle.source_spans.specs.Folding.{folded_of}
use Rattle.source_spans.specs.Subjects.{items_of}
use Rattle.source_edits.specs.Edits.{EditSeen, carets, kind_signs, known_names, spellings}

-- an item of this text states something, on which this is the verdict
pub record IsRead (text : List ℕ) (verdict : Verdict) : Type 0 where
  pub statement : Statement
  pub states : States text (Some statement)
  pub judges : Judges statement.name statement.claim verdict

-- there are no two verdicts on an item
abbrev pub ItemsHaveOneVerdict : Type 0
ItemsHaveOneVerdict = (text : List ℕ) (one other : Verdict) → IsRead text one → IsRead text other → one ≡ other

-- the bytes of an item once its block is edited: those before the part that is exchanged, the new
-- text, and those after the part
abbrev pub edited : List PlacedByte → EditSeen → List ℕ
edited item edit =
    bytes (filter (λ (x : PlacedByte). nat_lt x.1 edit.part.start) item) ++ edit.text ++ bytes (filter (λ (x : PlacedByte). nat_le edit.part.end x.1) item)

-- each byte of an item is after the one before it in its block
abbrev pub IsInOrder : List PlacedByte → Type 0
IsInOrder item = IsRising (map (λ (x : PlacedByte). x.1) item)

-- the bytes of each item of a block are in its order
abbrev pub ItemsAreInOrder : Type 0
ItemsAreInOrder = (block : List ℕ) → All IsInOrder (items_of (folded_of block))

-- an item of this text is read as one of a capability of its kind
pub record IsOfCapability (text : List ℕ) : Type 0 where
  pub verdict : Verdict
  pub is_read : IsRead text verdict
  pub known : verdict ≢ refused code.UnknownCapability
  pub of_kind : verdict ≢ refused code.WrongKind

-- an item is of a capability with a name that is offered for its own
abbrev pub NamesAreOfCapabilities : Type 0
NamesAreOfCapabilities = (item : List PlacedByte) (edit : EditSeen) → IsInOrder item → Contains (known_names item) edit → IsOfCapability (edited item edit)

-- an item of this text is read and accepted, and says something
pub record IsAccepted (text : List ℕ) : Type 0 where
  pub said : Said
  pub verdict : Verdict
  pub is_read : IsRead text verdict
  pub accepts : said_by verdict ≡ Some said

-- an item of the wrong kind is accepted with the sign that is offered for it
abbrev pub SignsFitTheKind : Type 0
SignsFitTheKind =
    (item : List PlacedByte) (edit : EditSeen) → IsInOrder item → IsRead (bytes item) (refused code.WrongKind) → Contains (kind_signs item) edit
    → IsAccepted (edited item edit)

-- a string with an odd escape says the same with the spelling that is offered for it, and no escape
-- is odd
abbrev pub SpellingsReadBack : Type 0
SpellingsReadBack =
    (item : List PlacedByte) (c : Capability) (value : List ℕ) (edit : EditSeen) → IsInOrder item → AreBytes (bytes item)
    → IsRead (bytes item) (accepted_odd (said_text c value)) → Contains (spellings item value) edit
    → IsRead (edited item edit) (accepted (said_text c value))

-- a string that cannot be read is read with a backslash before the `^` at its end, if that is
-- offered
abbrev pub CaretsHeal : Type 0
CaretsHeal =
    (item : List PlacedByte) (edit : EditSeen) → IsInOrder item → IsRead (bytes item) (refused code.BadString) → Contains (carets item) edit
    → IsAccepted (edited item edit)
