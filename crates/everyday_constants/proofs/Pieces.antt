-- How a string is written piece by piece.
use Rattle.std.proofs.Common.{◌≡◌, ℕ, zero, suc, ◌-◌, ◌<◌, List, [], ◌∷◌, ◌++◌, drop, length, ap, ◌∙◌, arith, append_assoc}
use Rattle.everyday_constants.specs.Constants.{constant_at, size_by, text_by, written_from}

-- what is left of a piece is passed over
pub skips : (left : ℕ) (text : List ℕ) → written_from left text ≡ written_from 0 (drop left text)
skips zero text = grind arith
skips (suc left) [] = grind arith
skips (suc left) (x ∷ xs) = skips left xs

-- one more piece is written
pub writes_on : (out after rest whole : List ℕ) → 0 < length rest → after ≡ out ++ text_by (constant_at rest) rest → out ++ written_from 0 rest ≡ whole
    → after ++ written_from 0 (drop (size_by (constant_at rest) rest - 1) (drop 1 rest)) ≡ whole
writes_on out after [] whole some is h = absurd (omega arith)
writes_on out after (x ∷ xs) whole some is h =
    let size = size_by (constant_at (x ∷ xs)) (x ∷ xs) in
    let text = text_by (constant_at (x ∷ xs)) (x ∷ xs) in
    let passed : written_from (size - 1) xs ≡ written_from 0 (drop (size - 1) xs) = skips (size - 1) xs in
    rw (is, ← passed, append_assoc) h
