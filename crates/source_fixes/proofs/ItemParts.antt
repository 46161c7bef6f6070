-- What an item holds is of its block.
use Rattle.std.proofs.Common.{◌≡◌, ℕ, suc, ◌+◌, ◌<◌, ◌≤◌, ◌==◌, ◌||◌, ◌&&◌, All, Bool, true, false, List, [], ◌∷◌, ◌++◌, cond, length, map, Some, slice_get}
use Rattle.std.proofs.Common.{subst, arith}
use Rattle.std.specs.List.{AllByRecursion}
use Rattle.std.proofs.lemmas.List.Elements.{All-cons, All-from_recursion, All-head, All-nil, All-tail}
use Rattle.std.proofs.lemmas.Option.{get_or_from_slice_get, slice_get_within}
use Rattle.ti_text.specs.Texts.{AreBytes}
use Rattle.ti_text.specs.WhiteSpace.{is_white_space}
use Rattle.ti_source.specs.Cutting.{OneBlock}
use Rattle.ti_source.specs.Folding.{PlacedByte}
use Rattle.ti_source.specs.Items.{bytes, takes, without_front}
use Rattle.source_spans.specs.Folding.{bytes_at, folded_of, in_comment, without_breaks, without_comments}
use Rattle.source_spans.specs.Parts.{end_of, items_after, rest_of, spanned, with_first}
use Rattle.source_spans.specs.Replacing.{IsOneLine, Replaces}
use Rattle.source_spans.specs.Subjects.{items_of}
use Rattle.source_spans.specs.declared.parts.Part.{Part}
use Rattle.source_edits.specs.Laws.{IsInOrder}
use Rattle.source_edits.proofs.Exchanging.{any_cut}
use Rattle.source_fixes.specs.Healing.{IsPartOf, StaysOne}
use Rattle.source_fixes.proofs.Placing.{item_in_order}
use Rattle.source_fixes.proofs.Staying.{stays_one}

-- what holds of each byte of a block holds of each byte of an item
module _ (P : PlacedByte → Type 0) where
  abbrev Each : List PlacedByte → Type 0
  Each text = AllByRecursion P text

  abbrev EachOfAll : List (List PlacedByte) → Type 0
  EachOfAll parts = AllByRecursion Each parts

  of_comments : (comment : Bool) (before : ℕ) (text : List PlacedByte) → Each text → Each (without_comments comment before text)
  of_comments comment before [] are = tt
  of_comments comment before (x ∷ xs) are =
      elim (in_comment comment before x.0) as (λ b. Each (cond b (without_comments true x.0 xs) (x ∷ without_comments false x.0 xs))) [
        | true ↦ of_comments true x.0 xs are.1
        | false ↦ (are.0, of_comments false x.0 xs are.1)
      ]

  of_breaks : (joining : Bool) (text : List PlacedByte) → Each text → Each (without_breaks joining text)
  of_breaks joining [] are = tt
  of_breaks joining (x ∷ xs) are =
      elim (x.0 == 10 || (joining && is_white_space x.0)) as (λ b. Each (cond b (without_breaks true xs) (x ∷ without_breaks false xs))) [
        | true ↦ of_breaks true xs are.1
        | false ↦ (are.0, of_breaks false xs are.1)
      ]

  of_rest : (text : List PlacedByte) → Each text → Each (rest_of text)
  of_rest [] are = tt
  of_rest (x ∷ xs) are = elim (x.0 == 44) as (λ b. Each (cond b xs (rest_of xs))) [ true ↦ are.1 | false ↦ of_rest xs are.1 ]

  of_front : (text : List PlacedByte) → Each text → Each (without_front text)
  of_front [] are = tt
  of_front (x ∷ xs) are = elim (is_white_space x.0) as (λ b. Each (cond b (without_front xs) (x ∷ xs))) [ true ↦ of_front xs are.1 | false ↦ are ]

  of_first : (x : PlacedByte) (parts : List (List PlacedByte)) → P x → EachOfAll parts → EachOfAll (with_first x parts)
  of_first x [] is are = ((is, tt), tt)
  of_first x (part ∷ parts) is are = ((is, are.0), are.1)

  of_items : (before : ℕ) (text : List PlacedByte) → Each text → EachOfAll (items_after before text)
  of_items before [] are = (tt, tt)
  of_items before (x ∷ []) are = elim (x.0 == 44) as (λ b. EachOfAll (cond b ([] ∷ [] ∷ []) ((x ∷ []) ∷ []))) [ true ↦ (tt, (tt, tt)) | false ↦ (are, tt) ]
  of_items before (x ∷ y ∷ ys) are =
      let rest = are.1 in
      elim (x.0 == 44) as (λ b. EachOfAll
      (cond b ([] ∷ items_after 44 (y ∷ ys)) (cond (takes before x.0 y.0) (with_first x (with_first y (items_after y.0 ys)))
      (with_first x (items_after x.0 (y ∷ ys)))))) [
        | true ↦ (tt, of_items 44 (y ∷ ys) rest)
        | false ↦
            elim (takes before x.0 y.0) as (λ b. EachOfAll (cond b (with_first x (with_first y (items_after y.0 ys)))
            (with_first x (items_after x.0 (y ∷ ys))))) [
              | true ↦ of_first x (with_first y (items_after y.0 ys)) are.0 (of_first y (items_after y.0 ys) rest.0 (of_items y.0 ys rest.1))
              | false ↦ of_first x (items_after x.0 (y ∷ ys)) are.0 (of_items x.0 (y ∷ ys) rest)
            ]
      ]

  of_fronts : (parts : List (List PlacedByte)) → EachOfAll parts → EachOfAll (map without_front parts)
  of_fronts [] are = tt
  of_fronts (part ∷ parts) are = (of_front part are.0, of_fronts parts are.1)

  item_holds : (block : List ℕ) (ordinal : ℕ) (item : List PlacedByte) → Each (bytes_at 0 block)
      → slice_get (items_of (folded_of block)) ordinal ≡ Some item → Each item
  item_holds block ordinal item are there =
      let items = items_of (folded_of block) in
      let folded = of_breaks false (without_comments false 10 (bytes_at 0 block)) (of_comments false 10 (bytes_at 0 block) are) in
      let all : All Each items = All-from_recursion Each items
      (of_fronts (items_after 44 (rest_of (folded_of block))) (of_items 44 (rest_of (folded_of block)) (of_rest (folded_of block) folded))) in
      subst Each (get_or_from_slice_get items ordinal item [] there) (all ordinal [] (slice_get_within items ordinal item there))

-- ---- bytes

abbrev IsSmall : PlacedByte → Type 0
IsSmall x = x.0 < 256

small_at : (offset : ℕ) (block : List ℕ) → AreBytes block → AllByRecursion IsSmall (bytes_at offset block)
small_at offset [] are = tt
small_at offset (x ∷ xs) are = (All-head (λ b. b < 256) x xs are, small_at (suc offset) xs (All-tail (λ b. b < 256) x xs are))

small_bytes : (text : List PlacedByte) → AllByRecursion IsSmall text → AreBytes (bytes text)
small_bytes [] are = All-nil (λ b. b < 256)
small_bytes (x ∷ xs) are = All-cons (λ b. b < 256) x.0 (bytes xs) are.0 (small_bytes xs are.1)

pub item_bytes : (block : List ℕ) (ordinal : ℕ) (item : List PlacedByte) → AreBytes block → slice_get (items_of (folded_of block)) ordinal ≡ Some item
    → AreBytes (bytes item)
item_bytes block ordinal item are there = small_bytes item (item_holds IsSmall block ordinal item (small_at 0 block are) there)

-- ---- offsets

abbrev IsBelow : ℕ → PlacedByte → Type 0
IsBelow size x = x.1 < size

below_at : (size offset : ℕ) (text : List ℕ) → offset + length text ≤ size → AllByRecursion (IsBelow size) (bytes_at offset text)
below_at size offset [] within = tt
below_at size offset (x ∷ xs) within = (omega (arith, within), below_at size (suc offset) xs (omega (arith, within)))

of_back : (P : PlacedByte → Type 0) (front back : List PlacedByte) → AllByRecursion P (front ++ back) → AllByRecursion P back
of_back P [] back all = all
of_back P (x ∷ xs) back all = of_back P xs back all.1

end_below : (size end : ℕ) (xs back : List PlacedByte) → end ≤ size → AllByRecursion (IsBelow size) (xs ++ back) → end_of end xs ≤ size
end_below size end [] back within all = within
end_below size end (x ∷ xs) back within all = let below = all.0 in end_below size (suc x.1) xs back (omega (arith, below)) all.1

-- a part of an item is one of its block
item_part : (block : List ℕ) (ordinal : ℕ) (item front middle back : List PlacedByte) (part : Part)
    → slice_get (items_of (folded_of block)) ordinal ≡ Some item → item ≡ front ++ (middle ++ back)
    → spanned middle ≡ Some part → IsPartOf block part
item_part block ordinal item front [] back part there whole is = absurd cc
item_part block ordinal item front (x ∷ xs) back part there whole is =
    let size = length block in
    let one : Part = record { start = x.1; end = end_of (suc x.1) xs } in
    let same : one ≡ part = cc in
    let all = item_holds (IsBelow size) block ordinal item (below_at size 0 block (omega arith)) there in
    let here = of_back (IsBelow size) front ((x ∷ xs) ++ back) (subst (AllByRecursion (IsBelow size)) whole all) in
    let first : x.1 < size = here.0 in
    let cut = any_cut front x xs back (subst IsInOrder whole (item_in_order block ordinal item there)) in
    subst (IsPartOf block) same (cut.forward, end_below size (suc x.1) xs back (omega (arith, first)) here.1)

-- and once it is exchanged the block is one
pub exchanged_part : (block : List ℕ) (ordinal : ℕ) (item front middle back : List PlacedByte) (part : Part) (new : List ℕ) → OneBlock block
    → slice_get (items_of (folded_of block)) ordinal ≡ Some item
    → item ≡ front ++ (middle ++ back) → spanned middle ≡ Some part → IsOneLine new → StaysOne block part new
exchanged_part block ordinal item front middle back part new single there whole is line =
    let still = stays_one block ordinal item front middle back part new single there whole is line in
    (item_part block ordinal item front middle back part there whole is, still.0, still.1)

pub replaced_part : (block : List ℕ) (ordinal : ℕ) (item : List PlacedByte) (part : Part) (new text : List ℕ) → OneBlock block
    → slice_get (items_of (folded_of block)) ordinal ≡ Some item
    → Replaces item part new text → StaysOne block part new
replaced_part block ordinal item part new text single there r =
    exchanged_part block ordinal item r.front r.middle r.back part new single there r.whole r.there r.one_line
