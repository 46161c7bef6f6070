-- The last byte of joined texts.
use Rattle.std.proofs.Common.{◌≡◌, ℕ, List, [], ◌∷◌, ◌++◌, refl}
use Rattle.ti_text.specs.Texts.{last_byte}

pub last_byte-append : (before : ℕ) (s t : List ℕ) → last_byte before (s ++ t) ≡ last_byte (last_byte before s) t
last_byte-append before [] t = refl
last_byte-append before (x ∷ xs) t = last_byte-append x xs t
