-- when one of the lists is at its end, the rest of the other follows
use Rattle.std.proofs.Common.{◌∙◌, ◌++◌, ℕ, List, Bor, map, drop, ap, inl, inr}
use Rattle.std.proofs.lemmas.List.{map-append, take_rest}
use Rattle.user_listing.proofs.Rows.{both-ended}
use Rattle.user_listing.proofs.names.names_of_both.Goals as goal
use Rattle.user_listing.proofs.names.names_of_both.Goals.{then-loop-left-test+else-right-other, else-loop-left-test}

pub returns : goal.returns
returns c =
    let one = c.args.one.now in
    let other = c.args.other.now in
    let names = c.loop-left.names.items in
    let left = c.loop-left.left in
    let right = c.loop-left.right in
    let f : Bor (List ℕ) → List ℕ = λ name. name.now in
    let first = ap (map f) (c.in_ok-extend_from_slice.ensures.items ∙ ap (λ (xs : List (Bor (List ℕ))). names ++ xs) (take_rest one left))
    ∙ map-append f names (drop left one) in
    let both = ap (map f) (c.in_ok-extend_from_slice-2.ensures.items
    ∙ ap (λ (xs : List (Bor (List ℕ))). c.extend_from_slice.new.self.items ++ xs) (take_rest other right))
    ∙ map-append f c.extend_from_slice.new.self.items (drop right other) ∙ ap (λ (t : List (List ℕ)). t ++ map f (drop right other)) first in
    elim c.loop-left-test.branch [
      | then-loop-left-test+else-right-other w ↦ both ∙ both-ended f one other left right (map f names) _
          (inr w.if-right-other.false) c.loop-left.invariant.done
      | else-loop-left-test w ↦ both ∙ both-ended f one other left right (map f names) _ (inl w.loop-left-test.false) c.loop-left.invariant.done
    ]
