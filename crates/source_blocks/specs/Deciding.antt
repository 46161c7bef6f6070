-- Which block decides what an entry has of a capability (own; terminfo(5), "Similar Terminals"):
-- the first item of a block that says something of the capability. An item that gives it a value or
-- a cancel decides it in that block; a use hands it on to the block that owns the name.
use Rattle.std.specs.Prelude.{ℕ, zero, suc, ◌≡◌, ◌↔◌, nat_eq, is_some, All, List, [], ◌∷◌, ◌++◌, filter, map, Option, None, Some, if◌then◌else◌, length}
use Rattle.std.specs.Prelude.{option_and_then, slice_get}
use Rattle.std.specs.List.{find}
use Rattle.std.specs.Option.{option_map_or}
use Rattle.std.specs.String.{string_bytes}
use Rattle.ti_caps.specs.Tables.{Capability, capability, count_of, same_capability}
use Rattle.ti_caps.specs.declared.capability.Kind.{Kind}
use Rattle.ti_caps.specs.declared.capability.Kind.TheVariants.{Flag, Number, Text}
use Rattle.ti_source.specs.Parsing.{reading_of_text}
use Rattle.ti_source.specs.Reading.{Reading, ReadItem, Said, said_flag, said_number, said_text, said_cancel, said_import}
use Rattle.ti_layout.specs.Image.{is_there}
use Rattle.ti_layout.specs.Values.{Content, Mention, contents}
use Rattle.base_meaning.specs.Compiled.{compiled}
use Rattle.base_meaning.specs.Expansion.{expansion}
use Rattle.base_meaning.specs.Owner.{is_owner, owner, readings}
use Rattle.base_meaning.specs.Report.{shown_detail}
use Rattle.base_meaning.specs.Rules.{AreLeftmost}
use Rattle.source_blocks.specs.declared.deciding.Inherited.{Inherited}
use Rattle.source_blocks.specs.declared.deciding.Say.{Say}
use Rattle.source_blocks.specs.declared.deciding.Say.TheVariants.{Silent, Decisive, HandsOn}
use Rattle.source_blocks.specs.declared.deciding.DecidingBlock.{DecidingBlock}

-- what a block of the list says of a capability once its uses are expanded
abbrev pub said_of : List Reading → Capability → Reading → Option Content
said_of blocks c block = option_and_then (λ (mentions : List Mention). contents mentions c) (expansion blocks block)

-- what the block at that position says of it
abbrev pub said_by : List Reading → Capability → ℕ → Option Content
said_by blocks c at = option_and_then (said_of blocks c) (slice_get blocks at)

-- the items of the block at that position
abbrev pub items_of : List Reading → ℕ → List ReadItem
items_of blocks at = option_map_or (λ (block : Reading). block.items) (slice_get blocks at) []

-- ---- the first item that says something

-- what a mention of a capability says of one: it decides the same one
abbrev pub say_of_mention : Capability → Capability → Say
say_of_mention c other = if same_capability other c then Decisive else Silent

-- what a use says of a capability: it hands it on to the owner, if that says something of it
abbrev pub say_of_use : List Reading → Capability → Option ℕ → Say
say_of_use blocks c None = Silent
say_of_use blocks c (Some at) = if is_some (said_by blocks c at) then HandsOn at else Silent

-- what an item says of a capability
abbrev pub say_of : List Reading → Capability → Said → Say
say_of blocks c (said_flag other) = say_of_mention c other
say_of blocks c (said_number other number) = say_of_mention c other
say_of blocks c (said_text other value) = say_of_mention c other
say_of blocks c (said_cancel other) = say_of_mention c other
say_of blocks c (said_import name) = say_of_use blocks c (owner blocks name)

-- what is said first: that, unless it is nothing, else what is said later
abbrev pub say_before : Say → Say → Say
say_before Silent later = later
say_before Decisive later = Decisive
say_before (HandsOn next) later = HandsOn next

-- what the first of some items that says something of a capability says of it
abbrev pub first_say : List Reading → Capability → List ReadItem → Say
first_say blocks c [] = Silent
first_say blocks c (item ∷ items) = say_before (say_of blocks c item.said) (first_say blocks c items)

-- what the block at that position says first of a capability
abbrev pub say_at : List Reading → Capability → ℕ → Say
say_at blocks c at = first_say blocks c (items_of blocks at)

-- a capability of the block `at` is decided by the block `by`
pub data Decides (blocks : List Reading) (c : Capability) : (at by : ℕ) → Type 0 where
  decides_it : {at : ℕ} → say_at blocks c at ≡ Decisive → Decides blocks c at at
  hands_it_on : {at next by : ℕ} → say_at blocks c at ≡ HandsOn next → Decides blocks c next by → Decides blocks c at by

-- ---- computed

-- the deciding block, given what the block `at` says first: that block, or the one that decides for
-- the block that it hands on to
abbrev pub decider_by : Say → ℕ → (ℕ → Option ℕ) → Option ℕ
decider_by Silent at on = None
decider_by Decisive at on = Some at
decider_by (HandsOn next) at on = on next

-- the block that decides a capability for the block `at`, if it is one of so many that follow
unfoldable pub decider_in : List Reading → Capability → (most at : ℕ) → Option ℕ
decider_in blocks c zero at = None
decider_in blocks c (suc most) at = decider_by (say_at blocks c at) at (decider_in blocks c most)

-- the block that decides a capability for the block at that position: by the laws below one is
-- found if the block says something of the capability
abbrev pub decider : List Reading → Capability → ℕ → Option ℕ
decider blocks c at = decider_by (say_at blocks c at) at (decider_in blocks c (length blocks))

-- ---- what is inherited

-- a block, if it is another than that one
abbrev pub if_another : ℕ → ℕ → Option ℕ
if_another at by = if nat_eq by at then None else Some by

-- the block that decides a capability for the block at that position, if that has a value of it and
-- another block decides it
abbrev pub other_decider : List Reading → ℕ → Capability → Option ℕ
other_decider blocks at c = if is_there (said_by blocks c at) then option_and_then (if_another at) (decider blocks c at) else None

-- a capability with the block that decides it, if there is one
abbrev pub inherited_from : Capability → Option ℕ → List Inherited
inherited_from c None = []
inherited_from c (Some by) = record { capability = c; by = by } ∷ []

-- the capability, if the block at that position inherits it
abbrev pub inherited_one : List Reading → ℕ → Capability → List Inherited
inherited_one blocks at c = inherited_from c (other_decider blocks at c)

-- those of a kind whose places are below n, in order
unfoldable pub inherited_below : List Reading → ℕ → Kind → ℕ → List Inherited
inherited_below blocks at kind zero = []
inherited_below blocks at kind (suc n) = inherited_below blocks at kind n ++ inherited_one blocks at (capability kind n)

-- those of a kind
abbrev pub inherited_kind : List Reading → ℕ → Kind → List Inherited
inherited_kind blocks at kind = inherited_below blocks at kind (count_of kind)

-- the capabilities that the entry of the block at that position has values of and another block
-- decides, in the order of the compiled entry
abbrev pub inherited_of : List Reading → ℕ → List Inherited
inherited_of blocks at = inherited_kind blocks at Flag ++ inherited_kind blocks at Number ++ inherited_kind blocks at Text

-- ---- by their blocks

-- a block, by the first of its lookup names that it owns as a report shows it, and the capabilities
-- that it decides
pub record SourceSeen : Type 0 where
  pub name : List ℕ
  pub capabilities : List Capability

-- what holds its name in memory, as plain data
abbrev pub source_seen : DecidingBlock → SourceSeen
source_seen source = record { name = string_bytes source.name; capabilities = source.capabilities.items }

-- those of the capabilities that the block decides
abbrev pub decided_by : ℕ → List Inherited → List Capability
decided_by by inherited = map (λ (one : Inherited). one.capability) (filter (λ (one : Inherited). nat_eq one.by by) inherited)

-- the first of some names that the block at that position owns, as a report shows it
abbrev pub own_name : List (List ℕ) → (at : ℕ) → List (List ℕ) → List ℕ
own_name texts at names = option_map_or shown_detail (find (λ name. is_owner (readings texts) name at) names) []

-- a block of that name with the capabilities that it decides, if there are any
abbrev pub source_with : List ℕ → List Capability → List SourceSeen
source_with name [] = []
source_with name (c ∷ cs) = record { name = name; capabilities = c ∷ cs } ∷ []

-- what the block at that position of the texts decides of the capabilities, if it has these names
abbrev pub source_at : List (List ℕ) → List Inherited → (at : ℕ) → List (List ℕ) → List SourceSeen
source_at texts inherited at names = source_with (own_name texts at names) (decided_by at inherited)

-- the blocks of the texts that decide any of the capabilities: those from position `at` on
abbrev pub sources_from : List (List ℕ) → List Inherited → (at : ℕ) → List (List ℕ) → List SourceSeen
sources_from texts inherited at [] = []
sources_from texts inherited at (text ∷ rest) = source_at texts inherited at (reading_of_text text).names ++ sources_from texts inherited (suc at) rest

-- the blocks that decide what the block at that position inherits, in the order of the list
abbrev pub sources_of : List (List ℕ) → ℕ → List SourceSeen
sources_of texts at = sources_from texts (inherited_of (readings texts) at) 0 texts

-- those of the block at a position, if it has an entry
abbrev pub sources_at : List (List ℕ) → ℕ → List SourceSeen
sources_at texts at = if is_some (compiled texts at) then sources_of texts at else []

-- those of the block that owns a name
abbrev pub sources_named : List (List ℕ) → List ℕ → List SourceSeen
sources_named texts name = option_map_or (sources_at texts) (owner (readings texts) name) []

-- ---- laws, of blocks in which the leftmost mention of a capability decides, as in those of a source

-- at most one block decides a capability
abbrev pub OneBlockDecides : Type 0
OneBlockDecides = (blocks : List Reading) (c : Capability) (at one other : ℕ) → Decides blocks c at one → Decides blocks c at other → one ≡ other

-- if a block says something of a capability, the computed one is the block that decides
abbrev pub DecidersAreFound : Type 0
DecidersAreFound =
    (blocks : List Reading) → AreLeftmost blocks → (c : Capability) (at by : ℕ) (said : Content) → said_by blocks c at ≡ Some said
    → (decider blocks c at ≡ Some by) ↔ Decides blocks c at by

-- what a block says of a capability is what the block says that decides it
abbrev pub DecidersSayIt : Type 0
DecidersSayIt =
    (blocks : List Reading) → AreLeftmost blocks → (c : Capability) (at by : ℕ) (said : Content) → said_by blocks c at ≡ Some said
    → Decides blocks c at by → said_by blocks c by ≡ Some said

-- a capability that a block says something of is decided by some block
abbrev pub SomeBlockDecides : Type 0
SomeBlockDecides =
    (blocks : List Reading) → AreLeftmost blocks → (c : Capability) (at : ℕ) (said : Content) → said_by blocks c at ≡ Some said
    → (by : ℕ) × Decides blocks c at by

-- a block that decides capabilities which the block at that position inherits, as it is shown
pub record IsSource (texts : List (List ℕ)) (at : ℕ) (source : SourceSeen) : Type 0 where
  pub by : ℕ
  pub name : List ℕ
  pub owns : owner (readings texts) name ≡ Some by
  pub shown : source.name ≡ shown_detail name
  pub decides : source.capabilities ≡ decided_by by (inherited_of (readings texts) at)

-- a block is shown under a name that it owns
abbrev pub SourcesOwnTheirNames : Type 0
SourcesOwnTheirNames = (texts : List (List ℕ)) (at : ℕ) → All (IsSource texts at) (sources_of texts at)
