-- What is before a rest, and then the rest.
use Rattle.std.proofs.Common.{◌≡◌, ℕ, ◌+◌, Bool, true, false, ◌||◌, nat_lt, cond, List, [], ◌∷◌, ◌++◌, refl, sym, ◌∙◌, ap, append_assoc}
use Rattle.ti_source.specs.Reading.{Said, said_import}
use Rattle.ti_layout.specs.View.{Entry}
use Rattle.ti_list.specs.declared.layout.Layout.{Layout}
use Rattle.ti_list.specs.Items.{item_text}
use Rattle.ti_list.specs.Listing.{further_items, lines_of, size_of}
use Rattle.ti_list.specs.RelativeSource.{first_name, use_lines}
use Rattle.ti_list.specs.inside.Listing.{further_before, lines_before, uses_before}

-- an item with its comma, and what follows it
item-then : (item : Said) (later later_before rest : List ℕ) → later_before ≡ later ++ rest
    → item_text item ++ 44 ∷ later_before ≡ (item_text item ++ 44 ∷ later) ++ rest
item-then item later later_before rest is = ap (λ (t : List ℕ). item_text item ++ 44 ∷ t) is ∙ sym (append_assoc (item_text item) (44 ∷ later) rest)

either-then : (b : Bool) (x y x_before y_before rest : List ℕ) → x_before ≡ x ++ rest → y_before ≡ y ++ rest → cond b x_before y_before ≡ cond b x y ++ rest
either-then true x y x_before y_before rest one other = one
either-then false x y x_before y_before rest one other = other

pub further-then : (layout : Layout) (column : ℕ) (items : List Said) (rest : List ℕ) → further_before layout column items rest
    ≡ further_items layout column items ++ rest
further-then layout column [] rest = refl
further-then layout column (item ∷ items) rest =
    either-then (layout.one_per_line || nat_lt layout.width (column + 1 + size_of item)) _ _ _ _ rest
    (ap (λ (t : List ℕ). 10 ∷ 9 ∷ t) (item-then item (further_items layout (8 + size_of item) items) _ rest
    (further-then layout (8 + size_of item) items rest)))
    (ap (λ (t : List ℕ). 32 ∷ t) (item-then item (further_items layout (column + 1 + size_of item) items) _ rest
    (further-then layout (column + 1 + size_of item) items rest)))

pub lines-then : (layout : Layout) (items : List Said) (rest : List ℕ) → lines_before layout items rest ≡ lines_of layout items ++ rest
lines-then layout [] rest = refl
lines-then layout (item ∷ items) rest =
    ap (λ (t : List ℕ). 10 ∷ 9 ∷ t) (item-then item (further_items layout (8 + size_of item) items) _ rest (further-then layout (8 + size_of item) items rest))

pub uses-then : (others : List Entry) (rest : List ℕ) → uses_before others rest ≡ use_lines others ++ rest
uses-then [] rest = refl
uses-then (other ∷ others) rest =
    ap (λ (t : List ℕ). 10 ∷ 9 ∷ t) (item-then (said_import (first_name other.names)) (use_lines others) _ rest (uses-then others rest))
