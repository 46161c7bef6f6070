use Rattle.std.proofs.Common.{◌≤◌, ◌+◌, ℕ, if◌then◌else◌, List, [], ◌∷◌, length, true, false, arith}
use Rattle.ti_source.specs.declared.items.Escape.{Escape}
use Rattle.ti_source.specs.declared.items.Escape.TheVariants as escape
use Rattle.ti_source.specs.Folding.{PlacedByte}
use Rattle.ti_source.specs.inside.Items.{items_of, with_first, cuts, escape_after}
use Rattle.ti_source.proofs.FoldLemmas.{length-after_field}
use Rattle.ti_source.proofs.statements.ItemWalk.new.Goals as goal

one_first : (x : PlacedByte) (items : List (List PlacedByte)) (n : ℕ) → length items ≤ n + 1 → length (with_first x items) ≤ n + 1
one_first x [] n h = omega arith
one_first x (item ∷ items) n h = h

some_more : (a n : ℕ) → a ≤ n + 1 → a ≤ n + 1 + 1
some_more a n h = omega arith

few_items : (by : Escape) (before : ℕ) (text : List PlacedByte) → length (items_of by before text) ≤ length text + 1
few_items by before [] = omega arith
few_items by before (x ∷ xs) =
    elim (cuts by x.0) as (λ b. length (if b then [] ∷ items_of escape.Nothing 44 xs else with_first x
    (items_of (escape_after by before x.0) x.0 xs)) ≤ length (x ∷ xs) + 1) [
      | true ↦ (let h = few_items escape.Nothing 44 xs in omega arith)
      | false ↦ (let h = one_first x (items_of (escape_after by before x.0) x.0 xs) (length xs) (few_items (escape_after by before x.0) x.0 xs) in omega arith)
    ]

pub returns-clause-few : goal.returns-clause-few
returns-clause-few c =
    let h = few_items escape.Nothing 44 c.read_field.new.source in
    let g = length-after_field c.new-source.result in
    rw c.in_ok-read_field.ensures.rest (let k = rw c.in_ok-read_field.ensures.rest at h in omega (arith, k, g, c.new-source.ensures.len))
