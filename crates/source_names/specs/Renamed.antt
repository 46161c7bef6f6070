-- What a rename leaves as it is (own): of blocks as they are read before and after it, each use
-- leads to the block that it led to, and each block says what it said.
use Rattle.std.specs.Prelude.{ℕ, suc, ◌≡◌, ◌==◌, Bool, false, List, [], ◌∷◌, map, Some, option_and_then, slice_get, if◌then◌else◌}
use Rattle.std.specs.Str.{bytes_eq}
use Rattle.ti_source.specs.Reading.{Reading, ReadItem, Said, said_flag, said_number, said_text, said_cancel, said_import}
use Rattle.base_meaning.specs.Compiled.{entry, entry_of}
use Rattle.base_meaning.specs.Expansion.{expansion, is_broken}
use Rattle.base_meaning.specs.Owner.{owner}
use Rattle.base_meaning.specs.Reaching.{Uses}
use Rattle.source_names.specs.Renaming.{is_taken}

-- what another name becomes of a name in a rename
abbrev pub renamed_name : (name new : List ℕ) → List ℕ → List ℕ
renamed_name name new used = if bytes_eq used name then new else used

-- what becomes of what an item says
abbrev pub renamed_said : (name new : List ℕ) → Said → Said
renamed_said name new (said_flag c) = said_flag c
renamed_said name new (said_number c n) = said_number c n
renamed_said name new (said_text c t) = said_text c t
renamed_said name new (said_cancel c) = said_cancel c
renamed_said name new (said_import used) = said_import (renamed_name name new used)

-- a block before and after a rename: its names become the new ones if the name is its `own`, and
-- its uses do. Its values count by the same rule. The field that holds its names, and the lines of
-- its items, may be others.
pub record IsRenamed (name new : List ℕ) (own : Bool) (block other : Reading) : Type 0 where
  pub same_rule : other.rule ≡ block.rule
  pub names : other.names ≡ (if own then map (renamed_name name new) block.names else block.names)
  pub sayings : map (λ (item : ReadItem). item.said) other.items ≡ map (λ (item : ReadItem). renamed_said name new item.said) block.items
  pub broken : is_broken other ≡ is_broken block

-- blocks before and after a rename of a name of the block `owner`; the first is at position `at`
abbrev pub AreRenamed : (name new : List ℕ) → (owner at : ℕ) → (blocks others : List Reading) → Type 0
AreRenamed name new owner at [] [] = Unit {0}
AreRenamed name new owner at [] (other ∷ others) = ⊥
AreRenamed name new owner at (block ∷ blocks) [] = ⊥
AreRenamed name new owner at (block ∷ blocks) (other ∷ others) =
    IsRenamed name new (at == owner) block other × AreRenamed name new owner (suc at) blocks others

-- blocks before and after a rename that is accepted: the block at that position owns the name, and
-- the new one is not taken
pub record IsAccepted (blocks others : List Reading) (at : ℕ) (name new : List ℕ) : Type 0 where
  pub owns : owner blocks name ≡ Some at
  pub free : is_taken blocks at new ≡ false
  pub renamed : AreRenamed name new at 0 blocks others

-- ---- laws

-- each use leads to the block that it led to
abbrev pub UsesLeadWhereTheyDid : Type 0
UsesLeadWhereTheyDid =
    (blocks others : List Reading) (at : ℕ) (name new : List ℕ) → IsAccepted blocks others at name new
    → (place : ℕ) (block : Reading) (used : List ℕ) → slice_get blocks place ≡ Some block → Uses block.items used
    → owner others (renamed_name name new used) ≡ owner blocks used

-- each block says what it said once its uses are expanded
abbrev pub BlocksSayWhatTheyDid : Type 0
BlocksSayWhatTheyDid =
    (blocks others : List Reading) (at : ℕ) (name new : List ℕ) → IsAccepted blocks others at name new
    → (place : ℕ) (block other : Reading) → slice_get blocks place ≡ Some block → slice_get others place ≡ Some other
    → expansion others other ≡ expansion blocks block

-- so its entry is what it was, but for its names field
abbrev pub EntriesHoldWhatTheyDid : Type 0
EntriesHoldWhatTheyDid =
    (blocks others : List Reading) (at : ℕ) (name new : List ℕ) → IsAccepted blocks others at name new
    → (place : ℕ) (block other : Reading) → slice_get blocks place ≡ Some block → slice_get others place ≡ Some other
    → entry others other ≡ option_and_then (entry_of other) (expansion blocks block)
