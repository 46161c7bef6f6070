-- What comes of files, and of standard input (own).
use Rattle.std.specs.Prelude.{◌≡◌, ◌≢◌, ◌⊎◌, ℕ, Bool, true, false, List, [], codes}
use Rattle.std.specs.List.{flat_map}
use Rattle.everyday_fmt.specs.Fates.{FormatsFiles, Held}
use Rattle.everyday_fmt.specs.Layouts.{laid}
use Rattle.everyday_fmt.specs.Report.{error_line, name_line, status_of}
use Rattle.everyday_fmt.specs.declared.files.Done.{Done}
use Rattle.everyday_fmt.specs.declared.options.FmtOptions.{FmtOptions}
use Rattle.everyday_fmt.specs.declared.options.FmtOutcome.{FmtOutcome}

-- what is printed of files, by what became of them, and the status
pub record IsOutcomeOf (check : Bool) (done : List Done) (outcome : FmtOutcome) : Type 0 where
  pub output : outcome.output.items ≡ flat_map (name_line check) done
  pub errors : outcome.errors.items ≡ flat_map error_line done
  pub status : outcome.status ≡ status_of check done

-- what comes of files: each is done in turn, and what became of them is printed
abbrev pub ComesOfFiles : FmtOptions → List (List ℕ) → Held → Held → FmtOutcome → Type 0
ComesOfFiles options paths before after outcome =
    (done : List Done) × FormatsFiles options paths before after done × IsOutcomeOf options.check done outcome

-- ---- standard input

-- what is printed of it, and the status
pub record Prints (text : List ℕ) (code : ℕ) (outcome : FmtOutcome) : Type 0 where
  pub output : outcome.output.items ≡ text
  pub errors : outcome.errors.items ≡ []
  pub status : outcome.status ≡ code

-- the source in its layout; or, if it is only checked, its name if it has another
abbrev pub PrintsInput : Bool → List ℕ → List ℕ → FmtOutcome → Type 0
PrintsInput false text source outcome = Prints text 0 outcome
PrintsInput true text source outcome =
    ((text ≡ source) × Prints [] 0 outcome) ⊎ ((text ≢ source) × Prints (codes "<stdin>\n") 1 outcome)

-- what is printed for standard input, and the status
abbrev pub IsOutcomeOfInput : FmtOptions → List ℕ → FmtOutcome → Type 0
IsOutcomeOfInput options source outcome = PrintsInput options.check (laid options source) source outcome
