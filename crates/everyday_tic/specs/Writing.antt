-- What `ti-tic` writes (tic(1)): what is said, the files, and at `-s` how many entries they are of.
use Rattle.std.specs.Prelude.{◌≡◌, ◌⊎◌, ℕ, Bool, List, [], ◌∷◌, ◌++◌, ◌&&◌, not, codes, Option, Some, slice_get, Result, Ok, Err, if◌then◌else◌}
use Rattle.std.specs.Fmt.{decimal}
use Rattle.std.specs.List.{concat}
use Rattle.std.specs.String.{string_bytes}
use Rattle.tools_devices.specs.Counted.{Observed}
use Rattle.tools_devices.specs.Tree.{Files, Writes, WritesUpTo}
use Rattle.tools_devices.specs.Writing.{TakesAll, TakesFront}
use Rattle.everyday_tic.specs.Outcomes.{Asked, ComesOfPlain, Made}
use Rattle.source_plain.specs.Reading.{plain_source}
use Rattle.everyday_tic.specs.declared.writing.TicStop.{TicStop}
use Rattle.everyday_tic.specs.declared.writing.TicStop.TheVariants.{Report, File, Memory}

-- the line of `-s`
abbrev pub summary : ℕ → List ℕ → List ℕ
summary entries directory = concat (decimal entries ∷ codes " entries written to " ∷ directory ∷ codes "\n" ∷ [])

-- the line of `-s`, if it is asked for
abbrev pub summary_if : Bool → ℕ → List ℕ → List ℕ
summary_if asked entries directory = if asked then summary entries directory else []

-- whether the line of `-s` is said: not if the source is only checked, as ncurses's `tic` does (tried)
abbrev pub says_summary : Asked → Bool → Bool
says_summary asked summarizes = summarizes && not asked.check

-- The report of what comes of a source is said, then its files are written in order, and then the
-- line of `-s` is said. It stops where a device fails: at the report no file is written; at a file
-- those before it are; at the line all are.
abbrev pub WritesOut : Bool → List ℕ → Made → Option Files → Option Files → Observed → Observed → Result ℕ TicStop → Type 0
WritesOut summarizes directory made before after said now (Ok status) =
    (status ≡ made.status) × Writes made.files before after × TakesAll said now (made.report ++ summary_if summarizes made.entries directory)
WritesOut summarizes directory made before after said now (Err Report) =
    ((after ≡ before) × TakesFront said now made.report)
    ⊎ (Writes made.files before after
    × (between : Observed) × TakesAll said between made.report × TakesFront between now (summary_if summarizes made.entries directory))
WritesOut summarizes directory made before after said now (Err (File path)) =
    TakesAll said now made.report
    × (count : ℕ) × (bytes : List ℕ) × WritesUpTo count made.files before after × (slice_get made.files count ≡ Some (string_bytes path, bytes))
WritesOut summarizes directory made before after said now (Err Memory) =
    TakesAll said now made.report × (((count : ℕ) × WritesUpTo count made.files before after) ⊎ Writes made.files before after)

-- What a run does: what comes of the source is written, or memory ran out before anything was.
abbrev pub Runs : Asked → Bool → List (List ℕ) → List ℕ → List ℕ → Option Files → Option Files → ℕ → Observed → Observed → Result ℕ TicStop → Type 0
Runs asked summarizes directories file source before after failures said now result =
    ((result ≡ Err Memory) × (after ≡ before) × (now ≡ said))
    ⊎ ((made : Made) × (between : ℕ) × ComesOfPlain asked before directories file (plain_source source) failures between made
    × WritesOut (says_summary asked summarizes) asked.directory made before after said now result)
