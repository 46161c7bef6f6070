use Rattle.std.proofs.Common.{◌≡◌, ◌<◌, ℕ, List, Some, false}
use Rattle.std.specs.Prelude.{slice_get}
use Rattle.everyday_tic.specs.Termcap.{is_termcap}
use Rattle.everyday_tic.proofs.termcap.first_termcap.Given as goal

-- no block so far is termcap
abbrev pub invariant-loop-at : goal.invariant-loop-at
invariant-loop-at l = (before : ℕ) (text : List ℕ) → before < l.at → slice_get l.database.texts before ≡ Some text → is_termcap text ≡ false
