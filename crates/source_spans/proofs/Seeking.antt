-- The next element of a list that is so, and names that are told by their lengths and fronts.
use Rattle.std.proofs.Common.{◌≡◌, ◌+◌, ◌-◌, ◌<◌, ◌≤◌, ◌==◌, ◌&&◌, ℕ, Bool, true, false, List, [], ◌∷◌, Some, None, drop, map, length, get_or, refl, ap, ◌∙◌, add-one, arith}
use Rattle.std.specs.Str.{bytes_eq}
use Rattle.std.proofs.lemmas.List.{drop_all, length-drop, length-take-le}
use Rattle.std.proofs.Math.Seq.{drop-cons}
use Rattle.ti_source.specs.Folding.{PlacedByte}
use Rattle.ti_source.specs.Items.{bytes}
use Rattle.source_spans.specs.Faulty.{first_and_rest}
use Rattle.source_spans.specs.Parts.{IsWithin, part_of}
use Rattle.source_spans.specs.Subjects.{begins_with}
use Rattle.source_spans.specs.declared.parts.Part.{Part}

-- what is left is its next element and the rest
left : {X : Type 0} (xs : List X) (i : ℕ) (x : X) → i < length xs → x ≡ get_or xs i x → drop i xs ≡ x ∷ drop (i + 1) xs
left xs i x low is = drop-cons xs i x low ∙ rw (← is, add-one) refl

module _ {X Y : Type 0} (is_so : Y → Bool) (f : X → Y) where
  -- the next is the one
  pub seek_here : (xs : List X) (i : ℕ) (x : X) → i < length xs → x ≡ get_or xs i x → is_so (f x) ≡ true
      → first_and_rest is_so (map f (drop i xs)) ≡ Some (f x, map f (drop (i + 1) xs))
  seek_here xs i x low is yes_here = rw (left xs i x low is, yes_here) refl

  -- the next is not
  pub seek_later : (xs : List X) (i : ℕ) (x : X) → i < length xs → x ≡ get_or xs i x → is_so (f x) ≡ false
      → first_and_rest is_so (map f (drop (i + 1) xs)) ≡ first_and_rest is_so (map f (drop i xs))
  seek_later xs i x low is not_here = rw (left xs i x low is, not_here) refl

  -- none is left
  pub seek_none : (xs : List X) (i : ℕ) → length xs ≤ i → first_and_rest is_so (map f (drop i xs)) ≡ None
  seek_none xs i past = rw (drop_all i xs past) refl

-- a text that is as long as its front is that
begins_as : (name : List ℕ) (text : List PlacedByte) → length text ≡ length name → begins_with name text ≡ bytes_eq (bytes text) name
begins_as [] [] same = refl
begins_as [] (x ∷ xs) same = absurd (omega (arith, same))
begins_as (byte ∷ name) [] same = absurd (omega (arith, same))
begins_as (byte ∷ name) (x ∷ xs) same = ap (λ b. x.0 == byte && b) (begins_as name xs (omega (arith, same)))

pub part_is_name : (text : List PlacedByte) (part : Part) (name : List ℕ) → IsWithin text part → part.end - part.start ≡ length name
    → begins_with name (part_of text part) ≡ bytes_eq (bytes (part_of text part)) name
part_is_name text part name within same =
    begins_as name (part_of text part) (length-take-le (part.end - part.start) (drop part.start text) (omega (arith, length-drop part.start text, within)) ∙ same)
