-- The tree of a list of tokens is the one that `parsed` computes.
use Rattle.std.proofs.Common.{◌≡◌, ℕ, List, ◌∷◌, refl, ap, ◌∙◌}
use Rattle.ti_formats.specs.declared.codes.Token.TheVariants.{Literal, Operation, Then}
use Rattle.ti_formats.specs.declared.codes.Placed.{Placed}
use Rattle.ti_formats.specs.Formats.{FormatTree, nothing, group, choice, placed_token, Closes, by_mark, by_end, IsSequence, no_piece, byte_piece, code_piece}
use Rattle.ti_formats.specs.Formats.{conditional_piece, IsConditional, test_alone, test_then, test_then_else}
use Rattle.ti_formats.specs.inside.Formats.{Marks, conditional_of, grouped_tree, with_first_token, tree_and_marks}

-- a sequence stops before a `%t`, an `%e`, a `%;` or the end
abbrev pub Stopped : List Placed → Type 0
Stopped left = (tree_and_marks left).0 ≡ nothing

closing_stops : (inner after : List Placed) → Closes inner after → Stopped inner
unfolding tree_and_marks
closing_stops inner after (by_mark place) = refl
closing_stops inner after by_end = refl

test_ends : (inner after : List Placed) (test : FormatTree) → Closes inner after →
    conditional_of test (tree_and_marks inner).1 ≡ (test, (tree_and_marks after).0, (tree_and_marks after).1)
unfolding tree_and_marks
test_ends inner after test (by_mark place) = refl
test_ends inner after test by_end = refl

taken_ends : (inner after : List Placed) (test taken : FormatTree) → Closes inner after →
    conditional_of test ((Then, taken) ∷ (tree_and_marks inner).1) ≡ (choice test taken nothing, (tree_and_marks after).0, (tree_and_marks after).1)
unfolding tree_and_marks
taken_ends inner after test taken (by_mark place) = refl
taken_ends inner after test taken by_end = refl

mutual
  unfolding tree_and_marks

  pub sequence_parsed : {depth : ℕ} {tokens left : List Placed} {t : FormatTree} → IsSequence depth tokens left t →
      Stopped left → ◌≡◌ {A = FormatTree × Marks} (tree_and_marks tokens) (t, (tree_and_marks left).1)
  sequence_parsed (no_piece {left}) stops = ap (λ t. (t, (tree_and_marks left).1)) stops
  sequence_parsed (byte_piece place b next) stops = ap (with_first_token (placed_token place (Literal b))) (sequence_parsed next stops)
  sequence_parsed (code_piece place c next) stops = ap (with_first_token (placed_token place (Operation c))) (sequence_parsed next stops)
  sequence_parsed (conditional_piece place {after} {conditional} few inner closes next) stops =
      ap grouped_tree (conditional_parsed inner after closes)
      ∙ ap (λ parts. (group conditional parts.0, parts.1)) (sequence_parsed next stops)

  pub conditional_parsed : {depth : ℕ} {tokens inner : List Placed} {t : FormatTree} → IsConditional depth tokens inner t →
      (after : List Placed) → Closes inner after → conditional_of (tree_and_marks tokens).0 (tree_and_marks tokens).1
      ≡ (t, (tree_and_marks after).0, (tree_and_marks after).1)
  conditional_parsed (test_alone {left = inner} {test} tested) after closes =
      ap (λ parts. conditional_of parts.0 parts.1) (sequence_parsed tested (closing_stops inner after closes))
      ∙ test_ends inner after test closes
  conditional_parsed (test_then place {more} {left = inner} {test} {taken} tested took) after closes =
      ap (λ parts. conditional_of parts.0 parts.1) (sequence_parsed tested refl)
      ∙ ap (λ parts. conditional_of test ((Then, parts.0) ∷ parts.1)) (sequence_parsed took (closing_stops inner after closes))
      ∙ taken_ends inner after test taken closes
  conditional_parsed (test_then_else place at {more} {others} {left = inner} {test} {taken} {rest} tested took other) after closes =
      ap (λ parts. conditional_of parts.0 parts.1) (sequence_parsed tested refl)
      ∙ ap (λ parts. conditional_of test ((Then, parts.0) ∷ parts.1)) (sequence_parsed took refl)
      ∙ ap (λ parts. (choice test taken parts.0, parts.1, parts.2)) (conditional_parsed other after closes)
