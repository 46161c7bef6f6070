-- The uses and the own items of a block, gone through one by one.
use Rattle.std.proofs.Common.{◌≡◌, ℕ, suc, ◌+◌, ◌-◌, ◌<◌, Bool, true, false, cond, List, [], ◌∷◌, ◌++◌, length, get_or, drop, take, map, refl, sym, ◌∙◌, ap, subst, arith}
use Rattle.ti_source.specs.declared.parsing.Item.{Item}
use Rattle.ti_source.specs.Reading.{Reading, ReadItem, item_of}
use Rattle.ti_layout.specs.Values.{Contents}
use Rattle.base_meaning.specs.Expansion.{is_use, own_items, use_items}
use Rattle.base_meaning.specs.ValueTables.{IsTableOfItems, AddsSaid}
use Rattle.base_meaning.proofs.MentionMerging.{table_of_one_more}
use Rattle.base_plan.proofs.ItemLists.{map-take_item, map-drop_item}

-- ---- own items, from the last to the first

module _ (bs : List Reading) (xs : List Item) (done : ℕ) (x : Item) (l : done < length xs) (e : x ≡ get_or xs (length xs - 1 - done) x) where
  own_front : own_items (map item_of (drop (length xs - (done + 1)) xs)) ≡ own_items (item_of x ∷ map item_of (drop (length xs - done) xs))
  own_front =
      let i : length xs - (done + 1) ≡ length xs - 1 - done = omega arith in
      let j : length xs - done ≡ (length xs - 1 - done) + 1 = omega arith in
      let within : length xs - 1 - done < length xs = omega arith in
      rw (i, j, map-drop_item item_of xs (length xs - 1 - done) x within e) refl

  pub own_more : (f g : Contents) → is_use (item_of x).said ≡ false → IsTableOfItems bs (own_items (map item_of (drop (length xs - done) xs))) f
      → AddsSaid bs (item_of x).said f g
      → IsTableOfItems bs (own_items (map item_of (drop (length xs - (done + 1)) xs))) g
  own_more f g test t h =
      let P : List ReadItem → Type 0 = λ is. IsTableOfItems bs is g in
      subst P (sym own_front) (rw test (table_of_one_more bs (own_items (map item_of (drop (length xs - done) xs))) (item_of x) f g t h))

  pub own_same : (f : Contents) → is_use (item_of x).said ≡ true → IsTableOfItems bs (own_items (map item_of (drop (length xs - done) xs))) f
      → IsTableOfItems bs (own_items (map item_of (drop (length xs - (done + 1)) xs))) f
  own_same f test t = let P : List ReadItem → Type 0 = λ is. IsTableOfItems bs is f in subst P (sym own_front) (rw test t)

-- ---- uses, from the first to the last

one_use : (b c : Bool) (i : ReadItem) (is js ks : List ReadItem) → js ≡ cond c (is ++ ks) is → cond b (i ∷ js) js ≡ cond c (cond b (i ∷ is) is ++ ks) (cond b (i ∷ is) is)
one_use true true i is js ks e = ap (λ x. i ∷ x) e
one_use true false i is js ks e = ap (λ x. i ∷ x) e
one_use false true i is js ks e = e
one_use false false i is js ks e = e

use_items-last : (is : List ReadItem) (y : ReadItem) → use_items (is ++ y ∷ []) ≡ cond (is_use y.said) (use_items is ++ y ∷ []) (use_items is)
use_items-last [] y = refl
use_items-last (i ∷ is) y = one_use (is_use i.said) (is_use y.said) i (use_items is) (use_items (is ++ y ∷ [])) (y ∷ []) (use_items-last is y)

module _ (bs : List Reading) (xs : List Item) (i : ℕ) (x : Item) (l : i < length xs) (e : x ≡ get_or xs i x) where
  use_back : use_items (map item_of (take (i + 1) xs)) ≡ cond (is_use (item_of x).said) (use_items (map item_of (take i xs)) ++ item_of x ∷ []) (use_items (map item_of (take i xs)))
  use_back = rw (map-take_item item_of xs i x l e) (use_items-last (map item_of (take i xs)) (item_of x))

  pub use_more : (f g : Contents) → is_use (item_of x).said ≡ true → IsTableOfItems bs (use_items (map item_of (take i xs))) f
      → AddsSaid bs (item_of x).said f g
      → IsTableOfItems bs (use_items (map item_of (take (i + 1) xs))) g
  use_more f g test t h =
      let P : List ReadItem → Type 0 = λ is. IsTableOfItems bs is g in
      subst P (sym use_back) (rw test (table_of_one_more bs (use_items (map item_of (take i xs))) (item_of x) f g t h))

  pub use_same : (f : Contents) → is_use (item_of x).said ≡ false → IsTableOfItems bs (use_items (map item_of (take i xs))) f
      → IsTableOfItems bs (use_items (map item_of (take (i + 1) xs))) f
  use_same f test t = let P : List ReadItem → Type 0 = λ is. IsTableOfItems bs is f in subst P (sym use_back) (rw test t)
