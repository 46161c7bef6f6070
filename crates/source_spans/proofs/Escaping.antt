-- The items of a text, byte by byte.
use Rattle.std.proofs.Common.{◌≡◌, ◌≢◌, ℕ, ◌==◌, ◌&&◌, not, Bool, true, false, cond, List, [], ◌∷◌, inl, inr, refl, sym, ap, ◌∙◌}
use Rattle.std.proofs.lemmas.Bool.{and_parts, cases_Bool, eqb-true, false≢true, ne_eqb}
use Rattle.ti_source.specs.Folding.{PlacedByte}
use Rattle.ti_source.specs.Items.{AreItems, item_ends, last_item, pair_of_bytes, single_byte, stands_alone, takes}
use Rattle.source_spans.specs.Parts.{with_first}

-- what takes a byte
pub data Escape : Type 0 where
  nothing : Escape
  backslash : Escape
  caret : Escape

-- what takes the byte after `x`: `before` is just before `x`, and `by` takes `x` itself
abbrev pub escape_after : Escape → ℕ → ℕ → Escape
escape_after nothing before x = cond (x == 92) backslash (cond (x == 94 && not (before == 37)) caret nothing)
escape_after backslash before x = nothing
escape_after caret before x = nothing

-- whether a byte ends an item
abbrev pub cuts : Escape → ℕ → Bool
cuts nothing x = x == 44
cuts backslash x = false
cuts caret x = x == 44

-- the items of a text, from left to right
abbrev pub items_of : Escape → ℕ → List PlacedByte → List (List PlacedByte)
items_of by before [] = [] ∷ []
items_of by before (x ∷ xs) = cond (cuts by x.0) ([] ∷ items_of nothing 44 xs) (with_first x (items_of (escape_after by before x.0) x.0 xs))

items_of-plain : (by : Escape) (before : ℕ) (x : PlacedByte) (xs : List PlacedByte) → cuts by x.0 ≡ false
    → items_of by before (x ∷ xs) ≡ with_first x (items_of (escape_after by before x.0) x.0 xs)
items_of-plain by before x xs f = rw f

not_true : (b : Bool) → not b ≡ true → b ≡ false
not_true true e = absurd (false≢true e)
not_true false e = refl

not_not : (b : Bool) → not (not b) ≡ true → b ≡ true
not_not true e = refl
not_not false e = absurd (false≢true e)

-- of two bytes, of which the first takes the second, neither ends an item, and nothing takes the
-- byte after them
escape_after-takes : (before x y : ℕ) → takes before x y ≡ true
    → (x == 44 ≡ false) × (cuts (escape_after nothing before x) y ≡ false) × (escape_after (escape_after nothing before x) x y ≡ nothing)
escape_after-takes before x y t =
    elim (cases_Bool (x == 92)) [
      | inl slash ↦ rw (eqb-true x 92 slash) (refl, refl, refl)
      | inr other ↦
          let parts = and_parts (x == 94 && not (before == 37)) (not (y == 44)) (rw other at t) in
          let mark = and_parts (x == 94) (not (before == 37)) parts.0 in
          let no_comma : y == 44 ≡ false = not_true (y == 44) parts.1 in
          rw (eqb-true x 94 mark.0, mark.1) (refl, no_comma, refl)
    ]

items_of-pair : (before : ℕ) (x y : PlacedByte) (text : List PlacedByte) → takes before x.0 y.0 ≡ true
    → items_of nothing before (x ∷ y ∷ text) ≡ with_first x (with_first y (items_of nothing y.0 text))
items_of-pair before x y text t =
    let facts = escape_after-takes before x.0 y.0 t in
    items_of-plain nothing before x (y ∷ text) facts.0
    ∙ ap (with_first x) (items_of-plain (escape_after nothing before x.0) x.0 y text facts.1 ∙ ap (λ by. with_first y (items_of by y.0 text)) facts.2)

-- a byte that takes nothing is by itself
alone-same : (before x : ℕ) (text : List PlacedByte) → stands_alone before x text ≡ true → items_of (escape_after nothing before x) x text
    ≡ items_of nothing x text
alone-same before x [] alone = refl
alone-same before x (y ∷ ys) alone =
    elim (cases_Bool (x == 92)) [
      | inl slash ↦ absurd (false≢true (rw slash at alone))
      | inr other ↦
          elim (cases_Bool (x == 94 && not (before == 37))) [
            | inl mark ↦ let comma : y.0 == 44 ≡ true = not_not (y.0 == 44) (rw (other, mark) at alone) in rw (other, mark, comma) refl
            | inr plain ↦ rw (other, plain) refl
          ]
    ]

items_of-alone : (before : ℕ) (x : PlacedByte) (text : List PlacedByte) → x.0 ≢ 44 → stands_alone before x.0 text ≡ true
    → items_of nothing before (x ∷ text) ≡ with_first x (items_of nothing x.0 text)
items_of-alone before x text h alone = items_of-plain nothing before x text (ne_eqb x.0 44 h) ∙ ap (with_first x) (alone-same before x.0 text alone)

pub one_items : (before : ℕ) (text : List PlacedByte) (items : List (List PlacedByte)) → AreItems before text items → items ≡ items_of nothing before text
one_items _ _ _ (last_item before) = refl
one_items _ _ _ (item_ends before line text items are) = ap (λ later. [] ∷ later) (one_items 44 text items are)
one_items _ _ _ (pair_of_bytes before x y text item items t are) =
    ap (λ all. with_first x (with_first y all)) (one_items y.0 text (item ∷ items) are) ∙ sym (items_of-pair before x y text t)
one_items _ _ _ (single_byte before x text item items h alone are) =
    ap (with_first x) (one_items x.0 text (item ∷ items) are) ∙ sym (items_of-alone before x text h alone)
