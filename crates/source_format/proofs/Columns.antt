-- The columns of texts.
use Rattle.std.proofs.Common.{◌≡◌, ℕ, ◌+◌, List, [], ◌∷◌, ◌++◌, arith}
use Rattle.source_format.specs.Layout.{columns}

pub columns-append : (s t : List ℕ) → columns (s ++ t) ≡ columns s + columns t
columns-append [] t = omega arith
columns-append (x ∷ s) t = let later = columns-append s t in omega (arith, later)

-- a comma takes one more
pub columns-comma : (s : List ℕ) → columns (s ++ 44 ∷ []) ≡ columns s + 1
columns-comma s = columns-append s (44 ∷ [])
