-- What formatting promises of a source, of each file and of standard input (own).
use Rattle.std.specs.Prelude.{◌≡◌, ◌⊎◌, ℕ, false, List, [], ◌∷◌, Option}
use Rattle.tools_devices.specs.Tree.{Files, Sets}
use Rattle.everyday_fmt.specs.Fates.{FormatsFiles, Held, Holds}
use Rattle.everyday_fmt.specs.Layouts.{IsLaid}
use Rattle.everyday_fmt.specs.Report.{status_of}
use Rattle.everyday_fmt.specs.Tool.{IsOutcomeOfInput}
use Rattle.everyday_fmt.specs.declared.files.Done.{Done}
use Rattle.everyday_fmt.specs.declared.options.FmtOptions.{FmtOptions}
use Rattle.everyday_fmt.specs.declared.options.FmtOutcome.{FmtOutcome}

-- a file holds a text that is laid out in the place of the source that it held; nothing changes if it
-- held that text
abbrev pub HoldsLaidOut : FmtOptions → List ℕ → Option Files → Option Files → Type 0
HoldsLaidOut options path before after =
    (source : List ℕ) × (text : List ℕ) × Holds path before source × IsLaid options source text
    × (((text ≡ source) × (after ≡ before)) ⊎ Sets (path, text) before after)

-- each of these files, one after another, holds such a text
abbrev pub HoldLaidOut : FmtOptions → List (List ℕ) → Held → Held → Type 0
HoldLaidOut options [] before after = after ≡ before
HoldLaidOut options (path ∷ paths) before after = (mid : Held) × HoldsLaidOut options path before.files mid.files × HoldLaidOut options paths mid after

-- files that are formatted, with the status 0, hold texts that are laid out in the place of what they
-- held
abbrev pub FilesAreLaidOut : Type 0
FilesAreLaidOut =
    (options : FmtOptions) (paths : List (List ℕ)) (before after : Held) (done : List Done) → FormatsFiles options paths before after done
    → options.check ≡ false → status_of options.check done ≡ 0 → HoldLaidOut options paths before after

-- what is printed of standard input is laid out in its place
abbrev pub InputIsLaidOut : Type 0
InputIsLaidOut =
    (options : FmtOptions) (source : List ℕ) (outcome : FmtOutcome) → IsOutcomeOfInput options source outcome → options.check ≡ false
    → IsLaid options source outcome.output.items
