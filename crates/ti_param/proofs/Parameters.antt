-- The parameters of the machine.
use Rattle.std.proofs.Common.{◌≡◌, ℕ, zero, suc, ◌<◌, List, [], ◌∷◌, drop, get_or, refl, arith}
use Rattle.ti_param.specs.Meaning.{FormatArgument}

-- after the first two they are as they were given
pub after_two : (given : List FormatArgument) (first second none : FormatArgument) (place : ℕ) → 1 < place →
    get_or given place none ≡ get_or (first ∷ (second ∷ drop 2 given)) place none
after_two given first second none zero after = absurd (omega arith)
after_two given first second none (suc zero) after = absurd (omega arith)
after_two [] first second none (suc (suc place)) after = refl
after_two (x ∷ []) first second none (suc (suc place)) after = refl
after_two (x ∷ (y ∷ given)) first second none (suc (suc place)) after = refl
