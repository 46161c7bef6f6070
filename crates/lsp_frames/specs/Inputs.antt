-- What is read of an input in pieces, as many bytes as a read brings, and used byte by byte (own).
use Rattle.std.specs.Prelude.{ℕ, ◌≡◌, ◌<◌, List, [], ◌∷◌, ◌++◌, Option, length}
use Rattle.std.specs.Io.KnownBytes.{Consumes}

-- what a contract sees of an input: the bytes that are left to use, if they are known; how often
-- reading failed; what each read brought that brought some, in order; and what of it is not used yet
pub record InputSeen : Type 0 where
  pub bytes : Option (List ℕ)
  pub failures : ℕ
  pub pieces : List (List ℕ)
  pub ahead : List ℕ

-- pieces, one after another
abbrev pub joined : List (List ℕ) → List ℕ
joined [] = []
joined (piece ∷ pieces) = piece ++ joined pieces

-- the last of some pieces was needed: fewer bytes are left than it has
abbrev pub IsNeeded : List (List ℕ) → List ℕ → Type 0
IsNeeded [] left = Unit {0}
IsNeeded (piece ∷ []) left = length left < length piece
IsNeeded (piece ∷ next ∷ pieces) left = IsNeeded (next ∷ pieces) left

-- of the bytes ahead, and of pieces that came once those were used up, some are used and others are
-- left; no piece came that was not needed
pub record Takes (ahead : List ℕ) (came : List (List ℕ)) (taken left : List ℕ) : Type 0 where
  pub whole : ahead ++ joined came ≡ taken ++ left
  pub needed : IsNeeded came left

-- these bytes of an input were used
pub record Uses (given left : InputSeen) (taken : List ℕ) : Type 0 where
  pub bytes : Consumes given.bytes left.bytes taken
  pub came : List (List ℕ)
  pub pieces : left.pieces ≡ given.pieces ++ came
  pub takes : Takes given.ahead came taken left.ahead

-- these bytes of an input were used, and reading did not fail
pub record Gives (given left : InputSeen) (taken : List ℕ) : Type 0 where
  pub uses : Uses given left taken
  pub failures : left.failures ≡ given.failures
