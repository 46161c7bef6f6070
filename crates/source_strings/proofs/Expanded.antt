-- What an expansion gives, computed.
use Rattle.std.proofs.Common.{◌≡◌, ℕ, List, ap, sym, ◌∙◌}
use Rattle.std.specs.Prelude.{ℤ}
use Rattle.ti_param.specs.Expansion.{Expands, Overflows}
use Rattle.ti_formats.specs.Formats.{IsStuck}
use Rattle.ti_param.specs.Meaning.{FormatArgument, meaning, start}
use Rattle.ti_param.specs.inside.Expansion.{expanded, bad_format, stack_full, expansion_by, unless_stuck, format_expansion}
use Rattle.ti_formats.specs.inside.Formats.{tree_of}
use Rattle.ti_formats.proofs.OneTree.{is_computed}

module _ (format : List ℕ) (parameters : List FormatArgument) (before : List ℤ) where
  pub expands_computed : (output : List ℕ) (after : List ℤ) → Expands format parameters before output after →
      format_expansion format parameters before ≡ expanded output after
  unfolding format_expansion
  expands_computed output after h =
      let (none, same) = ((is_computed format).tree h.tree).0 h.is_tree in
      rw none (ap expansion_by (ap (λ t. meaning t (start parameters before)) same ∙ h.runs)
      ∙ ap (λ o. expanded o h.final.statics) (sym h.output_is) ∙ ap (expanded output) (sym h.statics_are))

  pub overflows_computed : (place : ℕ) → Overflows format parameters before place → format_expansion format parameters before ≡ stack_full place
  unfolding format_expansion
  overflows_computed place h =
      let (none, same) = ((is_computed format).tree h.tree).0 h.is_tree in
      rw none (ap expansion_by (ap (λ t. meaning t (start parameters before)) same ∙ h.runs))

  pub stuck_computed : (place : ℕ) → IsStuck format place → format_expansion format parameters before ≡ bad_format place
  unfolding format_expansion
  stuck_computed place h =
      ap (λ stuck. unless_stuck stuck (meaning (tree_of format) (start parameters before))) (((is_computed format).stuck place).0 h)
