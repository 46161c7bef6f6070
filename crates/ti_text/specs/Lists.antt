-- Properties of lists of any kind (own).
use Rattle.std.specs.Prelude.{◌≡◌, ◌<◌, ℕ, Bool, true, List, ◌++◌, Option, Some, None, slice_get}
use Rattle.std.specs.List.{AllByRecursion}

-- a number is in the list
abbrev pub Has : List ℕ → ℕ → Type 0
Has xs x = (i : ℕ) × (slice_get xs i ≡ Some x)

-- each number is below a bound
abbrev pub AreBelow : List ℕ → ℕ → Type 0
AreBelow xs bound = (i x : ℕ) → slice_get xs i ≡ Some x → x < bound

-- no element is there twice
abbrev pub AreDistinct : {X : Type 0} → List X → Type 0
AreDistinct {X} xs = (i j : ℕ) (x : X) → slice_get xs i ≡ Some x → slice_get xs j ≡ Some x → i ≡ j

-- each number passes the test
abbrev pub AllAre : (ℕ → Bool) → List ℕ → Type 0
AllAre p xs = AllByRecursion (λ x. p x ≡ true) xs

-- two lists, one after the other, if both are there
abbrev pub both_lists : {X : Type 0} → Option (List X) → Option (List X) → Option (List X)
both_lists None _ = None
both_lists (Some xs) None = None
both_lists (Some xs) (Some ys) = Some (xs ++ ys)
