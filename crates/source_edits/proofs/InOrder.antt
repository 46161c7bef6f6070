-- The bytes of an item are in the order of its block.
use Rattle.std.proofs.Common.{ℕ, suc, ◌<◌, ◌≤◌, ◌==◌, ◌||◌, ◌&&◌, Bool, true, false, List, [], ◌∷◌, cond, map, arith}
use Rattle.std.specs.List.{AllByRecursion}
use Rattle.std.proofs.lemmas.List.Elements.{All-from_recursion}
use Rattle.ti_text.specs.WhiteSpace.{is_white_space}
use Rattle.ti_source.specs.Folding.{PlacedByte}
use Rattle.ti_source.specs.Items.{takes, without_front}
use Rattle.source_spans.specs.Folding.{bytes_at, folded_of, in_comment, without_breaks, without_comments}
use Rattle.source_spans.specs.Parts.{items_after, rest_of, with_first}
use Rattle.source_spans.specs.Subjects.{items_of}
use Rattle.source_edits.specs.Laws.{IsInOrder, ItemsAreInOrder}

-- offsets that rise from a place on
From : ℕ → List PlacedByte → Type 0
From low [] = Unit {0}
From low (x ∷ xs) = (low ≤ x.1) × From (suc x.1) xs

lower : (low less : ℕ) (text : List PlacedByte) → low ≤ less → From less text → From low text
unfolding From
lower low less [] up from = tt
lower low less (x ∷ xs) up from = (let l = from.0 in omega (arith, l, up), from.1)

skip : (low : ℕ) (x : PlacedByte) (xs : List PlacedByte) → low ≤ x.1 → From (suc x.1) xs → From low xs
skip low x xs up from = lower low (suc x.1) xs (omega (arith, up)) from

bytes_from : (low : ℕ) (text : List ℕ) → From low (bytes_at low text)
unfolding From
bytes_from low [] = tt
bytes_from low (byte ∷ bytes) = (omega arith, bytes_from (suc low) bytes)

comments_from : (low : ℕ) (comment : Bool) (before : ℕ) (text : List PlacedByte) → From low text → From low (without_comments comment before text)
unfolding From
comments_from low comment before [] from = tt
comments_from low comment before (x ∷ xs) from =
    elim (in_comment comment before x.0) as (λ b. From low (cond b (without_comments true x.0 xs) (x ∷ without_comments false x.0 xs))) [
      | true ↦ skip low x (without_comments true x.0 xs) from.0 (comments_from (suc x.1) true x.0 xs from.1)
      | false ↦ (from.0, comments_from (suc x.1) false x.0 xs from.1)
    ]

breaks_from : (low : ℕ) (joining : Bool) (text : List PlacedByte) → From low text → From low (without_breaks joining text)
unfolding From
breaks_from low joining [] from = tt
breaks_from low joining (x ∷ xs) from =
    elim (x.0 == 10 || (joining && is_white_space x.0)) as (λ b. From low (cond b (without_breaks true xs) (x ∷ without_breaks false xs))) [
      | true ↦ skip low x (without_breaks true xs) from.0 (breaks_from (suc x.1) true xs from.1)
      | false ↦ (from.0, breaks_from (suc x.1) false xs from.1)
    ]

rest_from : (low : ℕ) (text : List PlacedByte) → From low text → From low (rest_of text)
unfolding From
rest_from low [] from = tt
rest_from low (x ∷ xs) from =
    elim (x.0 == 44) as (λ b. From low (cond b xs (rest_of xs))) [
      | true ↦ skip low x xs from.0 from.1
      | false ↦ skip low x (rest_of xs) from.0 (rest_from (suc x.1) xs from.1)
    ]

front_from : (low : ℕ) (text : List PlacedByte) → From low text → From low (without_front text)
unfolding From
front_from low [] from = tt
front_from low (x ∷ xs) from =
    elim (is_white_space x.0) as (λ b. From low (cond b (without_front xs) (x ∷ xs))) [
      | true ↦ skip low x (without_front xs) from.0 (front_from (suc x.1) xs from.1)
      | false ↦ from
    ]

-- ---- items

EachFrom : ℕ → List (List PlacedByte) → Type 0
EachFrom low parts = AllByRecursion (From low) parts

each_lower : (low less : ℕ) (parts : List (List PlacedByte)) → low ≤ less → EachFrom less parts → EachFrom low parts
unfolding EachFrom
each_lower low less [] up each = tt
each_lower low less (part ∷ parts) up each = (lower low less part up each.0, each_lower low less parts up each.1)

first_from : (low : ℕ) (x : PlacedByte) (parts : List (List PlacedByte)) → low ≤ x.1 → EachFrom (suc x.1) parts → EachFrom low (with_first x parts)
unfolding EachFrom From
first_from low x [] up each = ((up, tt), tt)
first_from low x (part ∷ parts) up each = ((up, each.0), each_lower low (suc x.1) parts (omega (arith, up)) each.1)

items_from : (low before : ℕ) (text : List PlacedByte) → From low text → EachFrom low (items_after before text)
unfolding EachFrom From
items_from low before [] from = (tt, tt)
items_from low before (x ∷ []) from =
    elim (x.0 == 44) as (λ b. EachFrom low (cond b ([] ∷ [] ∷ []) ((x ∷ []) ∷ []))) [ true ↦ (tt, (tt, tt)) | false ↦ ((from.0, tt), tt) ]
items_from low before (x ∷ y ∷ ys) from =
    let rest = from.1 in
    elim (x.0 == 44) as (λ b. EachFrom low
    (cond b ([] ∷ items_after 44 (y ∷ ys)) (cond (takes before x.0 y.0) (with_first x (with_first y (items_after y.0 ys)))
    (with_first x (items_after x.0 (y ∷ ys)))))) [
      | true ↦ (tt, each_lower low (suc x.1) (items_after 44 (y ∷ ys)) (let l = from.0 in omega (arith, l)) (items_from (suc x.1) 44 (y ∷ ys) rest))
      | false ↦
          elim (takes before x.0 y.0) as (λ b. EachFrom low (cond b (with_first x (with_first y (items_after y.0 ys)))
          (with_first x (items_after x.0 (y ∷ ys))))) [
            | true ↦ first_from low x (with_first y (items_after y.0 ys)) from.0
                (first_from (suc x.1) y (items_after y.0 ys) rest.0 (items_from (suc y.1) y.0 ys rest.1))
            | false ↦ first_from low x (items_after x.0 (y ∷ ys)) from.0 (items_from (suc x.1) x.0 (y ∷ ys) rest)
          ]
    ]

-- ---- they are in order

above : (n low : ℕ) (text : List PlacedByte) → n < low → From low text → AllByRecursion (λ (m : ℕ). n < m) (map (λ (x : PlacedByte). x.1) text)
unfolding From
above n low [] up from = tt
above n low (x ∷ xs) up from = let l = from.0 in (omega (arith, l, up), above n (suc x.1) xs (omega (arith, l, up)) from.1)

in_order : (low : ℕ) (text : List PlacedByte) → From low text → IsInOrder text
unfolding From
in_order low [] from = tt
in_order low (x ∷ xs) from = (above x.1 (suc x.1) xs (omega arith) from.1, in_order (suc x.1) xs from.1)

-- the bytes of a block as it is read
pub folded_in_order : (block : List ℕ) → IsInOrder (folded_of block)
folded_in_order block =
    in_order 0 (folded_of block)
    (breaks_from 0 false (without_comments false 10 (bytes_at 0 block)) (comments_from 0 false 10 (bytes_at 0 block) (bytes_from 0 block)))

fronts_in_order : (parts : List (List PlacedByte)) → EachFrom 0 parts → AllByRecursion IsInOrder (map without_front parts)
unfolding EachFrom
fronts_in_order [] each = tt
fronts_in_order (part ∷ parts) each = (in_order 0 (without_front part) (front_from 0 part each.0), fronts_in_order parts each.1)

pub items_in_order : ItemsAreInOrder
items_in_order block =
    let text = folded_of block in
    let folded = breaks_from 0 false (without_comments false 10 (bytes_at 0 block)) (comments_from 0 false 10 (bytes_at 0 block) (bytes_from 0 block)) in
    All-from_recursion IsInOrder (items_of text) (fronts_in_order (items_after 44 (rest_of text)) (items_from 0 44 (rest_of text) (rest_from 0 text folded)))
