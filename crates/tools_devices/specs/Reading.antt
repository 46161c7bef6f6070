-- Bytes read from a device (own).
use Rattle.std.specs.Prelude.{◌≡◌, ℕ, ◌+◌, List, ◌⊎◌}
use Rattle.std.specs.Io.KnownBytes.{Consumes}
use Rattle.tools_devices.specs.Counted.{Observed}

-- the greatest number of reads of a run over lines
abbrev pub reads_max : ℕ
reads_max = 4294967296

-- the reader gave these bytes, and did not fail
pub record Gives (given left : Observed) (taken : List ℕ) : Type 0 where
  pub bytes : Consumes given.bytes left.bytes taken
  pub failures : left.failures ≡ given.failures

-- the reader failed once, or it did not and has been read from as often as it may be
abbrev pub CannotReadOn : Observed → Observed → Type 0
CannotReadOn given left =
    (left.failures ≡ given.failures + 1) ⊎ ((left.failures ≡ given.failures) × (left.reads ≡ given.reads + reads_max))
