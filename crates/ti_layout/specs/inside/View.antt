-- What holds of every view (own).
use Rattle.std.specs.Prelude.{ℕ, ◌<◌, List, length}
use Rattle.ti_layout.specs.declared.layout.Format.TheVariants.{Legacy}
use Rattle.ti_layout.specs.Layout.{first_negative}
use Rattle.ti_layout.specs.Sections.{EachNumber}

-- each offset that is not negative leads into the string table
abbrev pub OffsetsEnd : List ℕ → List ℕ → Type 0
OffsetsEnd offsets strings = EachNumber Legacy offsets (λ n. n < first_negative Legacy → n < length strings)
