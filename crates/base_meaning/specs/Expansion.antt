-- What a block says once its uses are expanded (terminfo(5), "Similar Terminals"): a use is
-- replaced by all that the owner of the name says, expanded in the same way. By the block's rule the
-- leftmost mention of a capability decides, or what the block says itself does before its uses.
use Rattle.std.specs.Prelude.{ℕ, zero, suc, List, [], ◌∷◌, ◌++◌, filter, length, Option, Some, None, is_some, option_map, option_and_then}
use Rattle.std.specs.Prelude.{Bool, true, false, if◌then◌else◌}
use Rattle.std.specs.List.{list_any}
use Rattle.ti_text.specs.Lists.{both_lists}
use Rattle.ti_source.specs.Code.{is_error}
use Rattle.ti_source.specs.declared.parsing.Rule.{Rule}
use Rattle.ti_source.specs.declared.parsing.Rule.TheVariants.{Leftmost, OwnFirst}
use Rattle.ti_source.specs.Reading.{Reading, ReadItem, ReadFault, Said, said_flag, said_number, said_text, said_cancel, said_import}
use Rattle.ti_layout.specs.Values.{content_true, content_number, content_text, content_cancelled, Contents, Mention, contents}
use Rattle.ti_layout.specs.Laws.{without_cancel}
use Rattle.base_meaning.specs.Owner.{owner_block}

-- the value of each capability: what its leftmost mention gives it, and absent if that is a cancel
-- or there is none
abbrev pub values : List Mention → Contents
values mentions capability = without_cancel (contents mentions capability)

-- whether reading gave the block a fault that leaves it without an entry: one of its header, its
-- numbers or its strings
abbrev pub is_broken : Reading → Bool
is_broken block = list_any (λ (fault : ReadFault). is_error fault.code) block.faults

-- the mentions that one item gives; `of_name` has those of a used name
abbrev pub mentions_of : (List ℕ → Option (List Mention)) → Said → Option (List Mention)
mentions_of of_name (said_flag c) = Some ((c, content_true) ∷ [])
mentions_of of_name (said_number c n) = Some ((c, content_number n) ∷ [])
mentions_of of_name (said_text c t) = Some ((c, content_text t) ∷ [])
mentions_of of_name (said_cancel c) = Some ((c, content_cancelled) ∷ [])
mentions_of of_name (said_import name) = of_name name

-- the mentions of all items, in order; none if an item has none
abbrev pub expand_items : (List ℕ → Option (List Mention)) → List ReadItem → Option (List Mention)
expand_items of_name [] = Some []
expand_items of_name (item ∷ items) = both_lists (mentions_of of_name item.said) (expand_items of_name items)

-- ---- the rule by which a block's items and uses give its mentions

-- whether an item is a use of another entry
abbrev pub is_use : Said → Bool
is_use (said_import name) = true
is_use _ = false

-- the uses among the items, from the first to the last
abbrev pub use_items : List ReadItem → List ReadItem
use_items [] = []
use_items (item ∷ items) = if is_use item.said then item ∷ use_items items else use_items items

-- what the items say themselves, from the last to the first
abbrev pub own_items : List ReadItem → List ReadItem
own_items [] = []
own_items (item ∷ items) = if is_use item.said then own_items items else own_items items ++ item ∷ []

-- the mentions of the capabilities that have a value by them: of one that its first mention cancels
-- nothing is passed on
unfoldable pub uncancelled : List Mention → List Mention
uncancelled mentions = filter (λ (mention : Mention). is_some (values mentions mention.0)) mentions

-- the mentions of a block's items by a rule, of which the first of a capability decides: those of
-- all items in order, or those of the block itself, the last first, and then those of its uses. A
-- cancel of the block itself is passed on; one that comes by a use hides later uses, and ends there
abbrev pub block_mentions : Rule → (List ℕ → Option (List Mention)) → List ReadItem → Option (List Mention)
block_mentions Leftmost of_name items = expand_items of_name items
block_mentions OwnFirst of_name items =
    both_lists (expand_items of_name (own_items items)) (option_map uncancelled (expand_items of_name (use_items items)))

-- a block's mentions with uses expanded to at most this depth; `env` gives the block that owns a
-- name. None if the block is broken, nobody owns a used name, or the depth does not suffice
abbrev pub expand : (List ℕ → Option Reading) → ℕ → Reading → Option (List Mention)
expand env zero block = None
expand env (suc depth) block =
    if is_broken block then None else block_mentions block.rule (λ name. option_and_then (expand env depth) (env name)) block.items

-- what a block of the list says with all its uses expanded, if it resolves: no way through owners
-- that comes to no block twice is longer than the list, so one depth serves
abbrev pub expansion : List Reading → Reading → Option (List Mention)
expansion blocks block = expand (owner_block blocks) (suc (length blocks)) block

-- whether a block of the list resolves
abbrev pub resolves : List Reading → Reading → Bool
resolves blocks block = is_some (expansion blocks block)
