-- What an expansion gives, computed, and what its relations say.
use Rattle.std.proofs.Common.{◌≡◌, ℕ, List, refl, ap, sym, ◌∙◌}
use Rattle.std.specs.Prelude.{Result, Ok, Err, IfOk, IsErrOf, MatchResult, ◌↔◌, ℤ}
use Rattle.std.specs.Global.{Vec}
use Rattle.ti_param.specs.declared.errors.ParamError.{ParamError}
use Rattle.ti_param.specs.declared.errors.ParamError.TheVariants.{BadFormat, StackFull, Memory}
use Rattle.ti_param.specs.Expansion.{Expands, Overflows}
use Rattle.ti_formats.specs.Formats.{FormatTree, IsTree, IsStuck}
use Rattle.ti_param.specs.Meaning.{FormatArgument, MachineOutcome, meaning, start}
use Rattle.ti_param.specs.inside.Expansion.{expanded, bad_format, stack_full, expansion_by, unless_stuck, format_expansion, EndsWith}
use Rattle.ti_formats.specs.inside.Formats.{tree_of}
use Rattle.ti_formats.proofs.OneTree.{is_computed}

module _ (format : List ℕ) (parameters : List FormatArgument) (before : List ℤ) where
  pub expands_computed : (output : List ℕ) (after : List ℤ) → Expands format parameters before output after →
      format_expansion format parameters before ≡ expanded output after
  unfolding format_expansion
  expands_computed output after h =
      let (none, same) = ((is_computed format).tree h.tree).0 h.is_tree in
      rw none (ap expansion_by (ap (λ t. meaning t (start parameters before)) same ∙ h.runs)
      ∙ ap (λ o. expanded o h.final.statics) (sym h.output_is) ∙ ap (expanded output) (sym h.statics_are))

  pub overflows_computed : (place : ℕ) → Overflows format parameters before place → format_expansion format parameters before ≡ stack_full place
  unfolding format_expansion
  overflows_computed place h =
      let (none, same) = ((is_computed format).tree h.tree).0 h.is_tree in
      rw none (ap expansion_by (ap (λ t. meaning t (start parameters before)) same ∙ h.runs))

  pub stuck_computed : (place : ℕ) → IsStuck format place → format_expansion format parameters before ≡ bad_format place
  unfolding format_expansion
  stuck_computed place h =
      ap (λ stuck. unless_stuck stuck (meaning (tree_of format) (start parameters before))) (((is_computed format).stuck place).0 h)

  memory_ends : (t : FormatTree) → IsTree format t → EndsWith Memory (format_expansion format parameters before)
  unfolding format_expansion
  memory_ends t tree = rw (((is_computed format).tree t).0 tree).0 (ends (meaning (tree_of format) (start parameters before)))
    where
      ends : (o : MachineOutcome) → EndsWith Memory (expansion_by o)
      ends (Ok final) = tt
      ends (Err place) = tt

  -- the answer of an expansion, computed
  pub answer_computed : (result : Result (Vec ℕ) ParamError) (after : List ℤ)
      → IfOk result (λ output. Expands format parameters before output.items after)
      → ((place : ℕ) → IsErrOf result (BadFormat place) ↔ IsStuck format place)
      → ((place : ℕ) → IsErrOf result (StackFull place) → Overflows format parameters before place)
      → (IsErrOf result Memory → (t : FormatTree) × IsTree format t)
      → MatchResult result (λ output. format_expansion format parameters before ≡ expanded output.items after)
      (λ error. EndsWith error (format_expansion format parameters before))
  answer_computed (Ok output) after ok stuck full memory = expands_computed output.items after ok
  answer_computed (Err (BadFormat place)) after ok stuck full memory = stuck_computed place ((stuck place).0 refl)
  answer_computed (Err (StackFull place)) after ok stuck full memory = overflows_computed place (full place refl)
  answer_computed (Err Memory) after ok stuck full memory = let (t, tree) = memory refl in memory_ends t tree
