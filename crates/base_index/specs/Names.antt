-- Names with the blocks that have and use them, as an index shows them.
use Rattle.std.specs.Prelude.{ℕ, ◌≡◌, ◌≢◌, ◌<◌, ◌≤◌, List, [], length, Option, None}
use Rattle.std.specs.Option.{option_map_or}
use Rattle.std.specs.Vec.{vec_capacity}
use Rattle.std.specs.BTreeMap.{BTreeMap, get_by}
use Rattle.std.specs.Cmp.Lexicographic.{slice_cmp}
use Rattle.std.specs.Ordering.{nat_cmp}
use Rattle.std.specs.declared.vec.Vec.{Vec}
use Rattle.std.specs.declared.alloc.Global.{Global}
use Rattle.base_index.specs.declared.names.Mentions.{Mentions}
use Rattle.base_index.specs.declared.names.NameIndex.{NameIndex}

-- what a map has at a name
abbrev pub found_in : BTreeMap (Vec ℕ Global) Mentions → List ℕ → Option Mentions
found_in map name = get_by (λ key. slice_cmp nat_cmp name key.items) map

-- what an index has at a name
abbrev pub mentions_at : NameIndex → List ℕ → Option Mentions
mentions_at index name = found_in index.entries name

-- the blocks that have the name
abbrev pub holders_at : NameIndex → List ℕ → List ℕ
holders_at index name = option_map_or (λ m. m.holders.items) (mentions_at index name) []

-- the blocks that use the name
abbrev pub users_at : NameIndex → List ℕ → List ℕ
users_at index name = option_map_or (λ m. m.users.items) (mentions_at index name) []

-- how many blocks that have the name can be listed without more memory
abbrev pub holder_capacity : NameIndex → List ℕ → ℕ
holder_capacity index name = option_map_or (λ m. vec_capacity m.holders) (mentions_at index name) 0

-- how many blocks that use the name can be listed without more memory
abbrev pub user_capacity : NameIndex → List ℕ → ℕ
user_capacity index name = option_map_or (λ m. vec_capacity m.users) (mentions_at index name) 0

-- one more block that has the name can be listed
abbrev pub HasHolderRoom : NameIndex → List ℕ → Type 0
HasHolderRoom index name = length (holders_at index name) < holder_capacity index name

-- one more block that uses the name can be listed
abbrev pub HasUserRoom : NameIndex → List ℕ → Type 0
HasUserRoom index name = length (users_at index name) < user_capacity index name

-- both indexes show the same blocks of a name
pub record IsSeenSame (old new : NameIndex) (name : List ℕ) : Type 0 where
  pub holders : holders_at new name ≡ holders_at old name
  pub users : users_at new name ≡ users_at old name

-- no capacity was lost
pub record KeepsCapacity (old new : NameIndex) (name : List ℕ) : Type 0 where
  pub holders : holder_capacity old name ≤ holder_capacity new name
  pub users : user_capacity old name ≤ user_capacity new name

-- all other names are as before
abbrev pub KeepsOthers : NameIndex → NameIndex → List ℕ → Type 0
KeepsOthers old new name = (other : List ℕ) → other ≢ name → mentions_at new other ≡ mentions_at old other

-- nothing is stored for a name that no block has or uses
abbrev pub IsForgotten : NameIndex → List ℕ → Type 0
IsForgotten index name = holders_at index name ≡ [] → users_at index name ≡ [] → mentions_at index name ≡ None
