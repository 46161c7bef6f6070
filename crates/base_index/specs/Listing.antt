-- Lists of some ids of an ordered list, in its order: each is the ordered list without the ids
-- that fail a test.
use Rattle.std.specs.Prelude.{ℕ, ◌≡◌, List, Bool, true, Some, slice_get, length, filter, take, nat_eq, not, ◌&&◌, ◌||◌}
use Rattle.ti_text.specs.Lists.{Has}

-- each is in the ordered list
abbrev pub AreAmong : List ℕ → List ℕ → Type 0
AreAmong list listed = (i id : ℕ) → slice_get list i ≡ Some id → Has listed id

-- so many of the list come before the id
abbrev pub ListsBefore : List ℕ → List ℕ → ℕ → ℕ → Type 0
ListsBefore listed list id count = (test : ℕ → Bool) (place : ℕ) → list ≡ filter test listed → slice_get listed place ≡ Some id
    → count ≡ length (filter test (take place listed))

-- of the ids that pass a test, the new list has the id too
abbrev pub ListsToo : List ℕ → List ℕ → List ℕ → ℕ → Type 0
ListsToo listed old new id = (test : ℕ → Bool) → old ≡ filter test listed → new ≡ filter (λ x. nat_eq x id || test x) listed

-- of the ids that pass a test, the new list has all but the id
abbrev pub ListsNoMore : List ℕ → List ℕ → List ℕ → ℕ → Type 0
ListsNoMore listed old new id = (test : ℕ → Bool) → old ≡ filter test listed → new ≡ filter (λ x. not (nat_eq x id) && test x) listed

-- the list has the ids that pass a test, and the id is one of them
abbrev pub Lists : List ℕ → List ℕ → ℕ → Type 0
Lists listed list id = (test : ℕ → Bool) × (list ≡ filter test listed) × (test id ≡ true)
