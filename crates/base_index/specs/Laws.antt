-- Laws of lists of the ids that pass a test, in the order of all.
use Rattle.std.specs.Prelude.{ℕ, ◌≡◌, ◌<◌, ◌≤◌, List, [], length, Bool, true, false, Some, slice_get, filter, insert, remove}
use Rattle.base_index.specs.Listing.{AreAmong}
use Rattle.base_index.specs.Names.{holders_at, users_at, holder_capacity, user_capacity}
use Rattle.base_index.specs.declared.names.NameIndex.{NameIndex}

-- each is among all
abbrev pub ListsAreAmong : Type 0
ListsAreAmong = (listed : List ℕ) (test : ℕ → Bool) → AreAmong (filter test listed) listed

-- an id that fails the test comes and goes without a change of the list
pub record ListsStay : Type 0 where
  pub inserted : (listed : List ℕ) (position id : ℕ) (test : ℕ → Bool) → test id ≡ false → filter test (insert listed position id) ≡ filter test listed
  pub removed : (listed : List ℕ) (position id : ℕ) (test : ℕ → Bool) → slice_get listed position ≡ Some id → test id ≡ false
      → filter test (remove listed position) ≡ filter test listed

-- tests that agree on all ids give one list
abbrev pub ListsAgree : Type 0
ListsAgree = (listed : List ℕ) (test other : ℕ → Bool) → ((i id : ℕ) → slice_get listed i ≡ Some id → test id ≡ other id)
    → filter test listed ≡ filter other listed

-- the id is at that position and passes, and none before it does
pub record IsFirstPassing (listed : List ℕ) (test : ℕ → Bool) (position id : ℕ) : Type 0 where
  pub stands : slice_get listed position ≡ Some id
  pub passes : test id ≡ true
  pub first : (before other : ℕ) → before < position → slice_get listed before ≡ Some other → test other ≡ false

-- the first of the list is the first of all that passes, and if it is empty none does
pub record FirstsAreFirst : Type 0 where
  pub some : (listed : List ℕ) (test : ℕ → Bool) (id : ℕ) → slice_get (filter test listed) 0 ≡ Some id → (position : ℕ) × IsFirstPassing listed test position id
  pub none : (listed : List ℕ) (test : ℕ → Bool) → filter test listed ≡ [] → (position id : ℕ) → slice_get listed position ≡ Some id → test id ≡ false

-- the lists of a name have no more blocks than they can have without memory
pub record ListsFit : Type 0 where
  pub holders : (index : NameIndex) (name : List ℕ) → length (holders_at index name) ≤ holder_capacity index name
  pub users : (index : NameIndex) (name : List ℕ) → length (users_at index name) ≤ user_capacity index name
