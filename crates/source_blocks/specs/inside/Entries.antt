-- Bytes that are read as an entry (own).
use Rattle.std.specs.Prelude.{ℕ, List}
use Rattle.ti_layout.specs.Reading.{Reads}
use Rattle.ti_layout.specs.Values.{Contents}

-- bytes are an entry
abbrev pub IsEntry : List ℕ → Type 0
IsEntry bytes = (names : List ℕ) × (contents : Contents) × Reads bytes names contents
