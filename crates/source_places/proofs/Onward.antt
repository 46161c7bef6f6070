-- The place of an offset, from that of one before it.
use Rattle.std.proofs.Common.{◌≡◌, ℕ, zero, suc, ◌-◌, ◌≤◌, List, [], ◌∷◌, drop, refl, ap, ◌∙◌, arith}
use Rattle.std.proofs.lemmas.List.{drop_all}
use Rattle.source_places.specs.Position.{place_after, step_over}
use Rattle.source_types.specs.declared.places.Position.{Position}

pub place_onward : (place : Position) (text : List ℕ) (from offset : ℕ) → from ≤ offset
    → place_after (place_after place text from) (drop from text) (offset - from) ≡ place_after place text offset
place_onward place [] from offset order = ap (λ (text : List ℕ). place_after place text (offset - from)) (drop_all from [] (omega arith))
place_onward place (byte ∷ bytes) zero offset order =
    let all : offset - 0 ≡ offset = omega arith in ap (place_after place (byte ∷ bytes)) all
place_onward place (byte ∷ bytes) (suc from) zero order = absurd (omega (arith, order))
place_onward place (byte ∷ bytes) (suc from) (suc offset) order =
    let left : suc offset - suc from ≡ offset - from = omega arith in
    ap (place_after (place_after (step_over (byte ∷ bytes) place) bytes from) (drop from bytes)) left
    ∙ place_onward (step_over (byte ∷ bytes) place) bytes from offset (omega (arith, order))

-- the place of the first offset is that from which it goes on
pub place_first : (place : Position) (text : List ℕ) → place_after place text 0 ≡ place
place_first place [] = refl
place_first place (byte ∷ bytes) = refl
