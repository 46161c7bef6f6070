-- What an expansion says of the stack.
use Rattle.std.proofs.Common.{◌≡◌, ℕ, ℤ, List, None, Some, sym, ap, ◌∙◌}
use Rattle.ti_formats.specs.Formats.{FormatTree, IsStuck, IsTree}
use Rattle.ti_formats.specs.inside.Formats.{tree_of}
use Rattle.ti_formats.proofs.OneTree.{is_computed, reading_of as computed_reading}
use Rattle.ti_param.specs.Expansion.{Expands, Overflows}
use Rattle.ti_param.specs.Meaning.{meaning, no_variables, start}
use Rattle.source_block_hints.specs.Formats.{reading_of}
use Rattle.source_block_hints.specs.Stacks.{full_at, full_in_whole, no_parameters}

-- a format with a tree is not stuck
stop_none : (format : List ℕ) (t : FormatTree) → IsTree format t → (reading_of format).stop ≡ None
stop_none format t tree = ((computed_reading format).whole t tree).0

-- its tree is the one that is computed
tree_same : (format : List ℕ) (t : FormatTree) → IsTree format t → tree_of format ≡ t
tree_same format t tree = (((is_computed format).tree t).0 tree).1

run_of : (format : List ℕ) (t : FormatTree) → IsTree format t
    → full_in_whole (reading_of format).stop format ≡ full_at (meaning t (start no_parameters no_variables))
run_of format t tree =
    ap (λ stop. full_in_whole stop format) (stop_none format t tree)
    ∙ ap (λ (u : FormatTree). full_at (meaning u (start no_parameters no_variables))) (tree_same format t tree)

pub expands : (format : List ℕ) (output : List ℕ) (after : List ℤ) → Expands format no_parameters no_variables output after
    → None ≡ full_in_whole (reading_of format).stop format
expands format output after e = sym (run_of format e.tree e.is_tree ∙ ap full_at e.runs)

pub overflows : (format : List ℕ) (place : ℕ) → Overflows format no_parameters no_variables place
    → Some place ≡ full_in_whole (reading_of format).stop format
overflows format place o = sym (run_of format o.tree o.is_tree ∙ ap full_at o.runs)

pub stuck : (format : List ℕ) (place : ℕ) → IsStuck format place → None ≡ full_in_whole (reading_of format).stop format
stuck format place is = sym (ap (λ stop. full_in_whole stop format) ((computed_reading format).stuck place is).0)
