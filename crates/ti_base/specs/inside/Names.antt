-- The names that were seen, as a set of them shows (own).
use Rattle.std.specs.Prelude.{ℕ, List, Bool}
use Rattle.std.specs.Ordering.{nat_cmp}
use Rattle.std.specs.Cmp.Lexicographic.{slice_cmp}
use Rattle.std.specs.BTreeSet.{BTreeSet, contains_by}
use denote.Ref.{Bor}

-- whether the name is in the set
abbrev pub is_seen : BTreeSet (Bor (List ℕ)) → List ℕ → Bool
is_seen seen name = contains_by (λ key. slice_cmp nat_cmp name key.now) seen
