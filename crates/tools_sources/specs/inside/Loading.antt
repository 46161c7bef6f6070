-- The edits by which a source is taken, and what came of them (own).
use Rattle.std.specs.Prelude.{ℕ, suc, List, [], ◌∷◌, Option, None, Some}
use Rattle.base_meaning.specs.Edits.{Change, insertion}
use Rattle.base_meaning.specs.declared.edits.EditError.{EditError}
use Rattle.base_meaning.specs.declared.edits.Outcome.{Outcome}
use Rattle.base_meaning.specs.declared.edits.Outcome.TheVariants.{Accepted, Refused}

-- the insertions of these texts one after the other, from that position on
abbrev pub insertions : ℕ → List (List ℕ) → List Change
insertions at [] = []
insertions at (text ∷ texts) = insertion at text ∷ insertions (suc at) texts

-- why the first edit that was refused was refused, if one was
abbrev pub first_refusal : List Outcome → Option EditError
first_refusal [] = None
first_refusal (Accepted ∷ outcomes) = first_refusal outcomes
first_refusal (Refused error ∷ outcomes) = Some error
