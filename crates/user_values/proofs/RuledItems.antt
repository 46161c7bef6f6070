-- The uses and the own items of a block, gone through one by one.
use Rattle.std.proofs.Common.{◌≡◌, ℕ, suc, ◌+◌, ◌-◌, ◌<◌, Bool, true, false, cond, List, [], ◌∷◌, ◌++◌, length, get_or, drop, take, map, refl, sym, ◌∙◌, ap, subst, arith, drop-cons}
use Rattle.ti_text.proofs.Lists.{map-take_item}
use Rattle.ti_source.specs.declared.parsing.Rule.{Rule}
use Rattle.user_items.specs.declared.reading.UserItem.{UserItem}
use Rattle.user_items.specs.Reading.{ReadUserItem, user_item_of}
use Rattle.user_values.specs.Expansion.{is_use, own_items, use_items}
use Rattle.user_values.specs.Tables.{Said, AddsSaidBy}
use Rattle.user_values.specs.inside.Settling.{IsTableOfItems}
use Rattle.user_values.proofs.Making.{table_of_one_more}

-- ---- own items, from the last to the first

-- what is left before an index is its item and what is left after it
drop_item : {X : Type 0} (xs : List X) (i : ℕ) (x : X) → i < length xs → x ≡ get_or xs i x → drop i xs ≡ x ∷ drop (i + 1) xs
drop_item xs i x l e = drop-cons xs i x l ∙ (let f : suc i ≡ i + 1 = omega arith in rw (f, ← e) refl)

module _ (rule : Rule) (texts : List (List ℕ)) (xs : List UserItem) (done : ℕ) (x : UserItem) (l : done < length xs)
    (e : x ≡ get_or xs (length xs - 1 - done) x) where
  own_front : own_items (map user_item_of (drop (length xs - (done + 1)) xs))
      ≡ own_items (user_item_of x ∷ map user_item_of (drop (length xs - done) xs))
  own_front =
      let i : length xs - (done + 1) ≡ length xs - 1 - done = omega arith in
      let j : length xs - done ≡ (length xs - 1 - done) + 1 = omega arith in
      let within : length xs - 1 - done < length xs = omega arith in
      rw (i, j, drop_item xs (length xs - 1 - done) x within e) refl

  pub own_more : (old new : Said) → is_use (user_item_of x).said ≡ false
      → IsTableOfItems rule texts (own_items (map user_item_of (drop (length xs - done) xs))) old
      → AddsSaidBy rule texts (user_item_of x).said old new
      → IsTableOfItems rule texts (own_items (map user_item_of (drop (length xs - (done + 1)) xs))) new
  own_more old new test t h =
      let P : List ReadUserItem → Type 0 = λ is. IsTableOfItems rule texts is new in
      subst P (sym own_front)
      (rw test (table_of_one_more rule texts (own_items (map user_item_of (drop (length xs - done) xs))) (user_item_of x) old new t h))

  pub own_same : (said : Said) → is_use (user_item_of x).said ≡ true
      → IsTableOfItems rule texts (own_items (map user_item_of (drop (length xs - done) xs))) said
      → IsTableOfItems rule texts (own_items (map user_item_of (drop (length xs - (done + 1)) xs))) said
  own_same said test t = let P : List ReadUserItem → Type 0 = λ is. IsTableOfItems rule texts is said in subst P (sym own_front) (rw test t)

-- ---- uses, from the first to the last

one_use : (b c : Bool) (i : ReadUserItem) (is js ks : List ReadUserItem) → js ≡ cond c (is ++ ks) is
    → cond b (i ∷ js) js ≡ cond c (cond b (i ∷ is) is ++ ks) (cond b (i ∷ is) is)
one_use true true i is js ks e = ap (λ x. i ∷ x) e
one_use true false i is js ks e = ap (λ x. i ∷ x) e
one_use false true i is js ks e = e
one_use false false i is js ks e = e

use_items-last : (is : List ReadUserItem) (y : ReadUserItem) → use_items (is ++ y ∷ []) ≡ cond (is_use y.said) (use_items is ++ y ∷ []) (use_items is)
use_items-last [] y = refl
use_items-last (i ∷ is) y = one_use (is_use i.said) (is_use y.said) i (use_items is) (use_items (is ++ y ∷ [])) (y ∷ []) (use_items-last is y)

module _ (rule : Rule) (texts : List (List ℕ)) (xs : List UserItem) (i : ℕ) (x : UserItem) (l : i < length xs) (e : x ≡ get_or xs i x) where
  use_back : use_items (map user_item_of (take (i + 1) xs))
      ≡ cond (is_use (user_item_of x).said) (use_items (map user_item_of (take i xs)) ++ user_item_of x ∷ []) (use_items (map user_item_of (take i xs)))
  use_back = rw (map-take_item user_item_of xs i x l e) (use_items-last (map user_item_of (take i xs)) (user_item_of x))

  pub use_more : (old new : Said) → is_use (user_item_of x).said ≡ true → IsTableOfItems rule texts (use_items (map user_item_of (take i xs))) old
      → AddsSaidBy rule texts (user_item_of x).said old new
      → IsTableOfItems rule texts (use_items (map user_item_of (take (i + 1) xs))) new
  use_more old new test t h =
      let P : List ReadUserItem → Type 0 = λ is. IsTableOfItems rule texts is new in
      subst P (sym use_back) (rw test (table_of_one_more rule texts (use_items (map user_item_of (take i xs))) (user_item_of x) old new t h))

  pub use_same : (said : Said) → is_use (user_item_of x).said ≡ false → IsTableOfItems rule texts (use_items (map user_item_of (take i xs))) said
      → IsTableOfItems rule texts (use_items (map user_item_of (take (i + 1) xs))) said
  use_same said test t = let P : List ReadUserItem → Type 0 = λ is. IsTableOfItems rule texts is said in subst P (sym use_back) (rw test t)
