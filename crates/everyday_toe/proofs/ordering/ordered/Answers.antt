use Rattle.std.proofs.Common.{List, map, subst}
use Rattle.std.specs.List.Sorted.{IsPermutation}
use Rattle.std.proofs.lemmas.List.Sorted.{IsPermutation-map}
use Rattle.everyday_toe.specs.Ordering.{Key, key_of}
use Rattle.everyday_toe.proofs.ordering.ordered.Goals as goal

pub returns : goal.returns
returns c = record {
  same = subst (λ (keys : List Key). IsPermutation keys (map key_of c.sort.new.self.items)) c.in_ok-keys.ensures
      (IsPermutation-map key_of _ _ c.in_ok-sort.ensures.permutation);
  rises = c.in_ok-sort.ensures.sorted;
}
