-- What a block says of user-defined capabilities once its uses are expanded (terminfo(5),
-- user_caps(5)): a use is replaced by all that the owner of the name says, expanded in the same
-- way, and the leftmost mention of a name decides, its kind too, or what the block says itself, as
-- the rule of the source has it.
use Rattle.std.specs.Prelude.{ℕ, zero, suc, List, [], ◌∷◌, ◌++◌, filter, length, Option, Some, None, is_some, option_map, option_and_then, slice_get}
use Rattle.std.specs.Prelude.{Bool, true, false, if◌then◌else◌}
use Rattle.std.specs.Str.{bytes_eq}
use Rattle.ti_text.specs.Lists.{both_lists}
use Rattle.ti_source.specs.declared.parsing.Rule.{Rule}
use Rattle.ti_source.specs.declared.parsing.Rule.TheVariants.{Leftmost, OwnFirst}
use Rattle.ti_source.specs.Parsing.{reading_of_text}
use Rattle.ti_layout.specs.Values.{Content}
use Rattle.ti_layout.specs.Laws.{without_cancel}
use Rattle.base_meaning.specs.Owner.{owner, readings}
use Rattle.base_meaning.specs.Expansion.{is_broken}
use Rattle.user_items.specs.Verdicts.{UserSaid, says, imports}
use Rattle.user_items.specs.Reading.{ReadUserItem}
use Rattle.user_items.specs.Parsing.{user_reading_of_text}

-- a name, and the value or the cancel that it is given
abbrev pub UserMention : Type 0
UserMention = List ℕ × Content

-- what the mentions say of a name: what the first of it gives it, a cancel too, if there is one
abbrev pub first_said : List UserMention → List ℕ → Option Content
first_said [] name = None
first_said (m ∷ ms) name = if bytes_eq m.0 name then Some m.1 else first_said ms name

-- the mentions that one item gives; `of_name` has those of a used name
abbrev pub mentions_of : (List ℕ → Option (List UserMention)) → UserSaid → Option (List UserMention)
mentions_of of_name (says name content) = Some ((name, content) ∷ [])
mentions_of of_name (imports name) = of_name name

-- the mentions of all items, in order; none if an item has none
abbrev pub expand_items : (List ℕ → Option (List UserMention)) → List ReadUserItem → Option (List UserMention)
expand_items of_name [] = Some []
expand_items of_name (item ∷ items) = both_lists (mentions_of of_name item.said) (expand_items of_name items)

-- ---- the rule by which a block's items and uses give its mentions

-- whether an item is a use
abbrev pub is_use : UserSaid → Bool
is_use (says name content) = false
is_use (imports name) = true

-- the items that are uses, in order
abbrev pub use_items : List ReadUserItem → List ReadUserItem
use_items [] = []
use_items (item ∷ items) = if is_use item.said then item ∷ use_items items else use_items items

-- the other items, from the last to the first
abbrev pub own_items : List ReadUserItem → List ReadUserItem
own_items [] = []
own_items (item ∷ items) = if is_use item.said then own_items items else own_items items ++ item ∷ []

-- the mentions of names that the first mention does not cancel
unfoldable pub uncancelled : List UserMention → List UserMention
uncancelled mentions = filter (λ (mention : UserMention). is_some (without_cancel (first_said mentions mention.0))) mentions

-- the mentions of a block's items by a rule. What the block cancels itself remains a cancel; a
-- cancel that a used entry has hides later uses, and is then absent
abbrev pub block_mentions : Rule → (List ℕ → Option (List UserMention)) → List ReadUserItem → Option (List UserMention)
block_mentions Leftmost of_name items = expand_items of_name items
block_mentions OwnFirst of_name items =
    both_lists (expand_items of_name (own_items items)) (option_map uncancelled (expand_items of_name (use_items items)))

-- ---- the blocks of a source

-- the text of the block that owns a name
abbrev pub owner_text : List (List ℕ) → List ℕ → Option (List ℕ)
owner_text texts name = option_and_then (slice_get texts) (owner (readings texts) name)

-- a block's mentions by a rule, with uses expanded to at most this depth. None if the block is
-- broken, nobody owns a used name, or the depth does not suffice
abbrev pub expand_by : Rule → List (List ℕ) → ℕ → List ℕ → Option (List UserMention)
expand_by rule texts zero text = None
expand_by rule texts (suc depth) text =
    if is_broken (reading_of_text text) then None
    else block_mentions rule (λ name. option_and_then (expand_by rule texts depth) (owner_text texts name)) (user_reading_of_text text).items

-- what a block of the list says by a rule with all its uses expanded, if it resolves
abbrev pub expansion_by : Rule → List (List ℕ) → List ℕ → Option (List UserMention)
expansion_by rule texts text = expand_by rule texts (suc (length texts)) text

-- the value of a name in the block at that position of a source: what its first mention gives it,
-- and absent if that is a cancel or there is none
abbrev pub user_value_by : Rule → List (List ℕ) → ℕ → List ℕ → Option Content
user_value_by rule texts at name =
    option_and_then (λ mentions. without_cancel (first_said mentions name)) (option_and_then (expansion_by rule texts) (slice_get texts at))

-- ---- in the profile, where the leftmost mention decides

abbrev pub expand : List (List ℕ) → ℕ → List ℕ → Option (List UserMention)
expand texts depth text = expand_by Leftmost texts depth text

-- what a block of the list says then, if it resolves
abbrev pub expansion : List (List ℕ) → List ℕ → Option (List UserMention)
expansion texts text = expansion_by Leftmost texts text

-- the value of a name then
abbrev pub user_value : List (List ℕ) → ℕ → List ℕ → Option Content
user_value texts at name = user_value_by Leftmost texts at name
