-- What is read of a format is the one reading that it has.
use Rattle.std.proofs.Common.{◌≡◌, ℕ, List, inl, inr, sym, ◌∙◌}
use Rattle.ti_formats.specs.Reading.{IsReadingOf, Scan}
use Rattle.ti_formats.proofs.OneTree.{one_reading, reading_of as computed_reading}
use Rattle.source_block_hints.specs.Formats.{reading_of}

pub same_stop : (format : List ℕ) (reading : Scan) → IsReadingOf format reading → reading.stop ≡ (reading_of format).stop
same_stop format reading read = elim (one_reading format).some [
  | inl (t, tree) ↦ (read.whole t tree).0 ∙ sym ((computed_reading format).whole t tree).0
  | inr (place, stuck) ↦ (read.stuck place stuck).0 ∙ sym ((computed_reading format).stuck place stuck).0
]

pub same_tokens : (format : List ℕ) (reading : Scan) → IsReadingOf format reading → reading.tokens ≡ (reading_of format).tokens
same_tokens format reading read = elim (one_reading format).some [
  | inl (t, tree) ↦ (read.whole t tree).1 ∙ sym ((computed_reading format).whole t tree).1
  | inr (place, stuck) ↦ (read.stuck place stuck).1 ∙ sym ((computed_reading format).stuck place stuck).1
]
