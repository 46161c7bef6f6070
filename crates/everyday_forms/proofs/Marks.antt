-- A byte that is repeated.
use Rattle.std.proofs.Common.{◌≡◌, ℕ, ◌+◌, ◌++◌, ◌∷◌, [], replicate}
use Rattle.std.proofs.lemmas.List.{replicate-append-replicate}

-- once more
pub replicate_more : (n a : ℕ) → replicate n a ++ a ∷ [] ≡ replicate (n + 1) a
replicate_more n a = replicate-append-replicate n 1 a
