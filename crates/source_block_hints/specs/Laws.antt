-- Whose counts of parameters these are.
use Prim.Native.String.{String}
use Rattle.std.specs.Prelude.{◌≡◌, ℕ, map}
use Rattle.ti_caps.specs.Names.{text_names}
use Rattle.source_block_hints.specs.Counts.{counts}

-- Each string has a count of parameters, in the order of the compiled entry, and nothing else has.
abbrev pub EachStringHasACount : Type 0
EachStringHasACount = map (λ (row : String × ℕ). row.0) counts ≡ text_names
