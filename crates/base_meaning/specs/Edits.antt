-- Edits of a source (own): which of them are refused, and what the others make of the list of its
-- blocks' texts.
use Rattle.ti_text.specs.Limits.{block_bytes_max, blocks_max}
use Rattle.std.specs.Prelude.{ℕ, ◌≡◌, ◌<◌, ◌≤◌, List, [], ◌∷◌, length, insert, remove, slice_get, slice_set, Result, Ok, Err}
use Rattle.std.specs.Option.{option_map_or}
use Rattle.ti_source.specs.Cutting.{OneBlock}
use Rattle.base_meaning.specs.declared.edits.Edit.{Edit}
use Rattle.base_meaning.specs.declared.edits.Edit.TheVariants as edit
use Rattle.base_meaning.specs.declared.edits.Edited.{Edited}
use Rattle.base_meaning.specs.declared.edits.EditError.{EditError}
use Rattle.base_meaning.specs.declared.edits.EditError.TheVariants.{Position, TooLong, NotOneBlock, TooMany, Memory}
use Rattle.base_meaning.specs.declared.edits.Outcome.{Outcome}
use Rattle.base_meaning.specs.declared.edits.Outcome.TheVariants.{Accepted, Refused}

-- an edit of a list of texts, as plain data: a block put in before a position, or replaced, or
-- taken out, or moved from one position to another
pub data Change : Type 0 where
  insertion : ℕ → List ℕ → Change
  replacement : ℕ → List ℕ → Change
  removal : ℕ → Change
  relocation : ℕ → ℕ → Change

-- an edit that holds its text in memory, as plain data
abbrev pub change_of : Edit → Change
change_of (edit.Insert at text) = insertion at text.now
change_of (edit.Replace at text) = replacement at text.now
change_of (edit.Remove at) = removal at
change_of (edit.Relocate from to) = relocation from to

-- the position is one of the list, or for an insertion its end
abbrev pub IsInPlace : List (List ℕ) → Change → Type 0
IsInPlace texts (insertion at text) = at ≤ length texts
IsInPlace texts (replacement at text) = at < length texts
IsInPlace texts (removal at) = at < length texts
IsInPlace texts (relocation from to) = (from < length texts) × (to < length texts)

-- the new text, if there is one, is no longer than a block may be
abbrev pub IsShort : Change → Type 0
IsShort (insertion at text) = length text ≤ block_bytes_max
IsShort (replacement at text) = length text ≤ block_bytes_max
IsShort (removal at) = Unit {0}
IsShort (relocation from to) = Unit {0}

-- the new text, if there is one, is one block
abbrev pub IsBlock : Change → Type 0
IsBlock (insertion at text) = OneBlock text
IsBlock (replacement at text) = OneBlock text
IsBlock (removal at) = Unit {0}
IsBlock (relocation from to) = Unit {0}

-- the list has room for one more block, if the edit brings one
abbrev pub HasRoom : List (List ℕ) → Change → Type 0
HasRoom texts (insertion at text) = length texts < blocks_max
HasRoom texts (replacement at text) = Unit {0}
HasRoom texts (removal at) = Unit {0}
HasRoom texts (relocation from to) = Unit {0}

-- nothing is wrong with the edit
pub record IsSoundEdit (texts : List (List ℕ)) (change : Change) : Type 0 where
  pub in_place : IsInPlace texts change
  pub short : IsShort change
  pub block : IsBlock change
  pub room : HasRoom texts change

-- the edit is refused for this cause: each cause is the first that holds, and `Memory` comes only
-- if none holds
abbrev pub IsRefusal : List (List ℕ) → Change → EditError → Type 0
IsRefusal texts change Position = ¬ (IsInPlace texts change)
IsRefusal texts change TooLong = IsInPlace texts change × (¬ (IsShort change))
IsRefusal texts change NotOneBlock = IsInPlace texts change × IsShort change × (¬ (IsBlock change))
IsRefusal texts change TooMany = IsInPlace texts change × IsShort change × IsBlock change × (¬ (HasRoom texts change))
IsRefusal texts change Memory = IsSoundEdit texts change

-- an edit of a list is refused for only one cause
abbrev pub EditsHaveOneCause : Type 0
EditsHaveOneCause = (texts : List (List ℕ)) (change : Change) (cause other : EditError)
    → IsRefusal texts change cause → IsRefusal texts change other → cause ≡ other

-- the list with the item at one position taken out and put in so that it is then at the other
abbrev pub with_item_moved : {X : Type 0} → List X → ℕ → ℕ → List X
with_item_moved xs from to = option_map_or (λ x. insert (remove xs from) to x) (slice_get xs from) xs

-- the list with the block put in, replaced, taken out or moved
abbrev pub list_after : List (List ℕ) → Change → List (List ℕ)
list_after texts (insertion at text) = insert texts at text
list_after texts (replacement at text) = slice_set texts at text
list_after texts (removal at) = remove texts at
list_after texts (relocation from to) = with_item_moved texts from to

-- one edit leads from one list to the next: it is accepted if nothing is wrong with it, and else
-- the list does not change
abbrev pub EditStep : List (List ℕ) → Change → Outcome → List (List ℕ) → Type 0
EditStep texts change Accepted next = IsSoundEdit texts change × (next ≡ list_after texts change)
EditStep texts change (Refused error) next = IsRefusal texts change error × (next ≡ texts)

-- edits, in their order, lead from one list to another, with an outcome each
abbrev pub EditRun : List (List ℕ) → List Change → List Outcome → List (List ℕ) → Type 0
EditRun texts [] [] last = last ≡ texts
EditRun texts [] (outcome ∷ outcomes) last = ⊥
EditRun texts (change ∷ changes) [] last = ⊥
EditRun texts (change ∷ changes) (outcome ∷ outcomes) last =
    (next : List (List ℕ)) × EditStep texts change outcome next × EditRun next changes outcomes last

-- the outcome of an edit, by its answer
abbrev pub outcome_of : Result Edited EditError → Outcome
outcome_of (Ok edited) = Accepted
outcome_of (Err error) = Refused error
