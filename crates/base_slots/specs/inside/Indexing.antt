-- How an index changes as names come or go with one block (own).
use Rattle.std.specs.Prelude.{ℕ, ◌≡◌, ◌<◌, ◌++◌, List, length, Bool, true, false, Option, Some, None, option_map, filter, map, not, nat_eq, ◌&&◌, ◌||◌}
use Rattle.std.specs.List.{list_any}
use Rattle.std.specs.Str.{bytes_eq}
use Rattle.std.specs.Rc.{rc_slice_items}
use Rattle.std.specs.declared.rc.RcSlice.{RcSlice}
use Rattle.std.specs.declared.alloc.Global.{Global}
use Rattle.ti_source.specs.Reading.{item_of}
use Rattle.ti_source.specs.declared.parsing.Item.{Item}
use Rattle.ti_source.specs.declared.parsing.Parsed.{Parsed}
use Rattle.base_meaning.specs.Owner.{is_among}
use Rattle.base_meaning.specs.Reaching.{any_use, used_name}
use Rattle.base_index.specs.declared.names.NameIndex.{NameIndex}
use Rattle.base_index.specs.Names.{holders_at, users_at, holder_capacity, user_capacity, IsForgotten, IsSeenSame, KeepsCapacity}
use Rattle.base_slots.specs.declared.indexing.Role.{Role}
use Rattle.base_slots.specs.declared.indexing.Role.TheVariants.{Holder, User}

-- ---- the names that a block says

-- a name in a role, or none
abbrev pub Said : Type 0
Said = Option (Role × List ℕ)

abbrev pub said_as_own : RcSlice ℕ Global → Said
said_as_own name = Some (Holder, rc_slice_items name)

abbrev pub said_as_used : Item → Said
said_as_used item = option_map (λ name. (User, name)) (used_name (item_of item).said)

-- what the block says at each place: its names, then the names that its items use
abbrev pub all_said : Parsed → List Said
all_said block = map said_as_own block.names.items ++ map said_as_used block.items.items

-- whether the block says the name in the role
abbrev pub says_of : Parsed → Role → List ℕ → Bool
says_of block Holder name = is_among name (map rc_slice_items block.names.items)
says_of block User name = any_use (bytes_eq name) (map item_of block.items.items)

abbrev pub is_role : Role → Role → Bool
is_role Holder Holder = true
is_role Holder User = false
is_role User Holder = false
is_role User User = true

-- whether it is this name in this role
abbrev pub is_said : Role → List ℕ → Said → Bool
is_said role name None = false
is_said role name (Some said) = is_role role said.0 && bytes_eq name said.1

-- whether one of them is
abbrev pub is_among_said : List Said → Role → List ℕ → Bool
is_among_said all role name = list_any (is_said role name) all

-- ---- the index

-- the blocks that have or use the name
abbrev pub ids_at : Role → NameIndex → List ℕ → List ℕ
ids_at Holder index name = holders_at index name
ids_at User index name = users_at index name

-- how many can be listed without more memory
abbrev pub capacity_at : Role → NameIndex → List ℕ → ℕ
capacity_at Holder index name = holder_capacity index name
capacity_at User index name = user_capacity index name

-- one more can be listed
abbrev pub HasRoom : NameIndex → Role → List ℕ → Type 0
HasRoom index role name = length (ids_at role index name) < capacity_at role index name

-- the list has those of the order that pass some test
abbrev pub IsPart : List ℕ → List ℕ → Type 0
IsPart listed list = (test : ℕ → Bool) × (list ≡ filter test listed)

-- the id has come to the lists of the names that pass a test
pub record AddsId (listed : List ℕ) (passes : Role → List ℕ → Bool) (id : ℕ) (old new : NameIndex) : Type 0 where
  pub added : (role : Role) (name : List ℕ) (test : ℕ → Bool) → ids_at role old name ≡ filter test listed
      → ids_at role new name ≡ filter (λ x. (nat_eq x id && passes role name) || test x) listed
  pub capacity : (name : List ℕ) → KeepsCapacity old new name

-- the id has gone from the lists of the names that pass a test
pub record Removes (listed : List ℕ) (passes : Role → List ℕ → Bool) (id : ℕ) (old new : NameIndex) : Type 0 where
  pub removed : (role : Role) (name : List ℕ) (test : ℕ → Bool) → ids_at role old name ≡ filter test listed
      → ids_at role new name ≡ filter (λ x. not (nat_eq x id && passes role name) && test x) listed
  pub capacity : (name : List ℕ) → KeepsCapacity old new name

-- the index shows what it showed
abbrev pub ShowsSameNames : NameIndex → NameIndex → Type 0
ShowsSameNames old new = (name : List ℕ) → IsSeenSame old new name

-- the index has lost no capacity
pub record IsGrown (old new : NameIndex) : Type 0 where
  pub seen : ShowsSameNames old new
  pub capacity : (name : List ℕ) → KeepsCapacity old new name

-- there is room at the names that pass a test
abbrev pub HasRoomAt : (Role → List ℕ → Bool) → NameIndex → Type 0
HasRoomAt passes index = (role : Role) (name : List ℕ) → passes role name ≡ true → HasRoom index role name

-- the index shows the same; of the names that pass a test, those that no block has or uses are
-- forgotten
pub record Forgets (passes : Role → List ℕ → Bool) (old new : NameIndex) : Type 0 where
  pub same : ShowsSameNames old new
  pub gone : (role : Role) (name : List ℕ) → passes role name ≡ true → IsForgotten new name
  pub kept : (name : List ℕ) → IsForgotten old name → IsForgotten new name
