-- What is read of a format, whichever way it is read.
use Rattle.std.proofs.Common.{◌≡◌, ℕ, List, [], ◌∷◌, length, refl, sym, ap, ◌∙◌}
use Rattle.std.specs.Prelude.{Option, Some, None}
use Rattle.ti_formats.specs.Reading.{Scan, IsReadingOf}
use Rattle.ti_formats.specs.declared.codes.Placed.{Placed}
use Rattle.ti_formats.specs.inside.Formats.{stuck_place, tree_of}
use Rattle.ti_formats.proofs.OneTree as trees
use Rattle.source_strings.specs.Words.{words_of}
use Rattle.source_strings.specs.Pieces.{is_literal, pieces_after, pieces_in, pieces_of, reading_of, stop_or}

module _ (format : List ℕ) (r : Scan) (read : IsReadingOf format r) where
  same : (r.tokens ≡ (reading_of format).tokens) × (r.stop ≡ (reading_of format).stop)
  same = either (stuck_place format) refl
    where
      either : (o : Option ℕ) → stuck_place format ≡ o → (r.tokens ≡ (reading_of format).tokens) × (r.stop ≡ (reading_of format).stop)
      either None is =
          let tree = ((trees.is_computed format).tree (tree_of format)).1 (is, refl) in
          let (stop, tokens) = read.whole (tree_of format) tree in
          let (stops, all) = (trees.reading_of format).whole (tree_of format) tree in
          (tokens ∙ sym all, stop ∙ sym stops)
      either (Some place) is =
          let stuck = ((trees.is_computed format).stuck place).1 is in
          let (stop, tokens) = read.stuck place stuck in
          let (stops, all) = (trees.reading_of format).stuck place stuck in
          (tokens ∙ sym all, stop ∙ sym stops)

  pub stop_read : r.stop ≡ (reading_of format).stop
  stop_read = same.1

  pub tokens_read : r.tokens ≡ (reading_of format).tokens
  tokens_read = same.0

  pub nothing_read : r.tokens ≡ [] → [] ≡ pieces_of format
  nothing_read none =
      ap (λ tokens. pieces_in tokens (stop_or (length format) (reading_of format).stop)) (sym none ∙ same.0)

  pub pieces_read : (first : Placed) (s : Scan) → r.tokens ≡ first ∷ s.tokens → s.stop ≡ r.stop
      → pieces_after first.place (is_literal first.token) (words_of first.token) s.tokens (stop_or (length format) s.stop) ≡ pieces_of format
  pieces_read first s tokens stop =
      ap (λ o. pieces_in (first ∷ s.tokens) (stop_or (length format) o)) (stop ∙ same.1)
      ∙ ap (λ ts. pieces_in ts (stop_or (length format) (reading_of format).stop)) (sym tokens ∙ same.0)
