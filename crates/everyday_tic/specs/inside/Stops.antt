-- What was written up to a stop.
use Rattle.std.specs.Prelude.{◌≡◌, ℕ, List, Option, Some, Result, Ok, Err, slice_get}
use Rattle.std.specs.String.{string_bytes}
use Rattle.tools_devices.specs.Counted.{Observed}
use Rattle.tools_devices.specs.Tree.{FileAt, Files, Writes, WritesUpTo}
use Rattle.tools_devices.specs.Writing.{TakesAll, TakesFront}
use Rattle.everyday_tic.specs.declared.writing.TicStop.{TicStop}
use Rattle.everyday_tic.specs.declared.writing.TicStop.TheVariants.{Report, File, Memory}

-- bytes are said, or up to one at which the device failed
abbrev pub Said : Observed → Observed → List ℕ → Result Unit TicStop → Type 0
Said said now bytes (Ok done) = TakesAll said now bytes
Said said now bytes (Err Report) = TakesFront said now bytes
Said said now bytes (Err (File path)) = ⊥
Said said now bytes (Err Memory) = ⊥

-- the same, or memory ran out before any of them was
abbrev pub SaidIfMade : Observed → Observed → List ℕ → Result Unit TicStop → Type 0
SaidIfMade said now bytes (Ok done) = TakesAll said now bytes
SaidIfMade said now bytes (Err Report) = TakesFront said now bytes
SaidIfMade said now bytes (Err (File path)) = ⊥
SaidIfMade said now bytes (Err Memory) = now ≡ said

-- the file at an index could not be written
abbrev pub IsPathAt : List FileAt → ℕ → TicStop → Type 0
IsPathAt files at Report = ⊥
IsPathAt files at (File path) = (bytes : List ℕ) × (slice_get files at ≡ Some (string_bytes path, bytes))
IsPathAt files at Memory = Unit {0}

-- files are written in order, or up to one that could not be
abbrev pub Filed : List FileAt → Option Files → Option Files → Result Unit TicStop → Type 0
Filed files before after (Ok done) = Writes files before after
Filed files before after (Err stop) = (count : ℕ) × WritesUpTo count files before after × IsPathAt files count stop
