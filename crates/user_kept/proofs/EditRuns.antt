-- A run of edits, one after another.
use Rattle.std.proofs.Common.{ℕ, List, [], ◌∷◌, ◌++◌, append_assoc}
use Rattle.base_meaning.specs.declared.edits.Outcome.{Outcome}
use Rattle.base_meaning.specs.Edits.{Change, EditStep, EditRun}

-- what follows from a list, after these outcomes, is a run of all edits
abbrev pub RunExtends : List Change → List Outcome → List (List ℕ) → List Change → Type 0
RunExtends all outcomes texts rest = (more : List Outcome) (last : List (List ℕ)) → EditRun texts rest more last → EditRun [] all (outcomes ++ more) last

pub run_extends : (all : List Change) (outcomes : List Outcome) (texts next : List (List ℕ)) (change : Change) (rest : List Change) (outcome : Outcome)
    → RunExtends all outcomes texts (change ∷ rest) → EditStep texts change outcome next → RunExtends all (outcomes ++ outcome ∷ []) next rest
run_extends all outcomes texts next change rest outcome h step more last r =
    rw append_assoc (h (outcome ∷ more) last (next, step, r))
