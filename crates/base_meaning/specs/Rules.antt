-- Laws on the rules by which a block's items and uses give its mentions: what a block says of a
-- capability by its own mentions first, and that the rules agree on plain blocks.
use Rattle.std.specs.Prelude.{ℕ, ◌≡◌, List, ◌∷◌, ◌++◌, map, length, slice_get, All, Option, Some, None, is_some, option_and_then, IsSome}
use Rattle.std.specs.Prelude.{true, false, if◌then◌else◌}
use Rattle.ti_caps.specs.Tables.{Capability, same_capability}
use Rattle.ti_source.specs.declared.parsing.Rule.{Rule}
use Rattle.ti_source.specs.declared.parsing.Rule.TheVariants.{Leftmost, OwnFirst}
use Rattle.ti_source.specs.Reading.{Reading, ReadItem, Said, said_flag, said_number, said_text, said_cancel, said_import}
use Rattle.ti_layout.specs.Laws.{without_cancel}
use Rattle.ti_layout.specs.Values.{Content, content_true, content_number, content_text, content_cancelled, Mention, contents}
use Rattle.base_meaning.specs.Compiled.{compiled, compiled_by}
use Rattle.base_meaning.specs.Expansion.{block_mentions, expansion, is_use}
use Rattle.base_meaning.specs.Owner.{owner_block, readings}
use Rattle.base_meaning.specs.Reaching.{Uses}
use Rattle.base_meaning.specs.Readings.{by_rule, readings_by}
use Rattle.base_meaning.specs.ValueTables.{names_at}

-- in each of the blocks the leftmost mention of a capability decides
abbrev pub AreLeftmost : List Reading → Type 0
AreLeftmost blocks = (at : ℕ) (block : Reading) → slice_get blocks at ≡ Some block → block.rule ≡ Leftmost

-- the blocks of a source are read so
abbrev pub ReadingsAreLeftmost : Type 0
ReadingsAreLeftmost = (texts : List (List ℕ)) → AreLeftmost (readings texts)

-- the blocks by a rule
abbrev pub all_by_rule : Rule → List Reading → List Reading
all_by_rule rule blocks = map (by_rule rule) blocks

-- read by a rule, they are what they are read as, by that rule
abbrev pub ReadingsAreByRule : Type 0
ReadingsAreByRule = (rule : Rule) (texts : List (List ℕ)) → readings_by rule texts ≡ all_by_rule rule (readings texts)

-- ---- a block's own mentions first

-- what an item says of a capability itself
abbrev pub said_itself : Capability → Said → Option Content
said_itself c (said_flag other) = if same_capability other c then Some content_true else None
said_itself c (said_number other n) = if same_capability other c then Some (content_number n) else None
said_itself c (said_text other t) = if same_capability other c then Some (content_text t) else None
said_itself c (said_cancel other) = if same_capability other c then Some content_cancelled else None
said_itself c (said_import name) = None

-- what the entry says of it that an item uses; `of_name` has the mentions of a used name
abbrev pub said_by_use : (List ℕ → Option (List Mention)) → Capability → Said → Option Content
said_by_use of_name c (said_import name) = option_and_then (λ (mentions : List Mention). contents mentions c) (of_name name)
said_by_use of_name c _ = None

-- none of the items says anything so
abbrev pub AreSilent : (Said → Option Content) → List ReadItem → Type 0
AreSilent says items = All (λ (item : ReadItem). says item.said ≡ None) items

-- the first of the items that says something so says this
pub record IsFirstSaid (says : Said → Option Content) (items : List ReadItem) (content : Content) : Type 0 where
  pub before : List ReadItem
  pub item : ReadItem
  pub after : List ReadItem
  pub whole : items ≡ before ++ item ∷ after
  pub silent : AreSilent says before
  pub here : says item.said ≡ Some content

-- the last of the items that says something so says this
pub record IsLastSaid (says : Said → Option Content) (items : List ReadItem) (content : Content) : Type 0 where
  pub before : List ReadItem
  pub item : ReadItem
  pub after : List ReadItem
  pub whole : items ≡ before ++ item ∷ after
  pub silent : AreSilent says after
  pub here : says item.said ≡ Some content

-- What a block says of a capability by the rule `OwnFirst`: what it says itself, the last of it,
-- wherever its uses stand; else what the first of its uses says whose entry says something of it,
-- and nothing if that is a cancel; else nothing.
pub data SaysOwnFirst (of_name : List ℕ → Option (List Mention)) (items : List ReadItem) (c : Capability) : Option Content → Type 0 where
  says_itself : (content : Content) → IsLastSaid (said_itself c) items content → SaysOwnFirst of_name items c (Some content)
  says_by_use : (content : Content) → AreSilent (said_itself c) items → IsFirstSaid (said_by_use of_name c) items content
      → SaysOwnFirst of_name items c (without_cancel (Some content))
  says_nothing : AreSilent (said_itself c) items → AreSilent (said_by_use of_name c) items → SaysOwnFirst of_name items c None

-- a block's mentions by that rule say so
abbrev pub OwnMentionsComeFirst : Type 0
OwnMentionsComeFirst =
    (of_name : List ℕ → Option (List Mention)) (items : List ReadItem) (mentions : List Mention) → block_mentions OwnFirst of_name items ≡ Some mentions
    → (c : Capability) → SaysOwnFirst of_name items c (contents mentions c)

-- ---- where the rules agree

-- no two of the items say something of the same capability themselves
abbrev pub SayNothingTwice : List ReadItem → Type 0
SayNothingTwice items =
    (c : Capability) (i j : ℕ) (one other : ReadItem) → slice_get items i ≡ Some one → slice_get items j ≡ Some other
    → IsSome (said_itself c one.said) → IsSome (said_itself c other.said) → i ≡ j

-- a block is plain if its uses come last, it says nothing twice, and no entry that it uses cancels
-- anything
pub record IsPlain (of_name : List ℕ → Option (List Mention)) (items : List ReadItem) : Type 0 where
  pub own : List ReadItem
  pub uses : List ReadItem
  pub uses_last : items ≡ own ++ uses
  pub own_are : All (λ (item : ReadItem). is_use item.said ≡ false) own
  pub uses_are : All (λ (item : ReadItem). is_use item.said ≡ true) uses
  pub once : SayNothingTwice items
  pub none_cancelled : (c : Capability) (name : List ℕ) → Uses items name → said_by_use of_name c (said_import name) ≡ Some content_cancelled → ⊥

-- blocks of which each is plain
abbrev pub ArePlain : List Reading → Type 0
ArePlain blocks =
    (at : ℕ) (block : Reading) → slice_get blocks at ≡ Some block
    → IsPlain (names_at (owner_block (all_by_rule Leftmost blocks)) (length blocks)) block.items

-- both are there or neither is, and what they say of each capability is equal
pub record SaySame (one other : Option (List Mention)) : Type 0 where
  pub there : is_some one ≡ is_some other
  pub same : (c : Capability) → option_and_then (λ (mentions : List Mention). contents mentions c) one
      ≡ option_and_then (λ (mentions : List Mention). contents mentions c) other

-- of plain blocks each says the same by either rule
abbrev pub RulesAgreeOnPlainBlocks : Type 0
RulesAgreeOnPlainBlocks =
    (blocks : List Reading) → ArePlain blocks → (at : ℕ) (block : Reading) → slice_get blocks at ≡ Some block
    → SaySame (expansion (all_by_rule Leftmost blocks) (by_rule Leftmost block)) (expansion (all_by_rule OwnFirst blocks) (by_rule OwnFirst block))

-- a source of plain blocks has the same entries by either rule
abbrev pub PlainSourcesCompileAlike : Type 0
PlainSourcesCompileAlike = (texts : List (List ℕ)) → ArePlain (readings texts) → (at : ℕ) → compiled_by OwnFirst texts at ≡ compiled texts at
