-- What comes of files, and of standard input (own).
use Rattle.std.specs.Prelude.{◌≡◌, ℕ, List, [], ◌∷◌, ◌++◌, codes, count_by, flat_map}
use Rattle.everyday_fmt.specs.Fates.{Held}
use Rattle.std.specs.String.{string_bytes}
use Rattle.source_settings.specs.Settings.{SeenSettings}
use Rattle.everyday_forms.specs.Counts.{summary}
use Rattle.everyday_forms.specs.Forms.{whole}
use Rattle.everyday_lint.specs.Checking.{IsLintedSource}
use Rattle.everyday_lint.specs.Fates.{IsUnsettled, LintsFiles, SettlesFor}
use Rattle.everyday_lint.specs.Report.{is_checked, lines_of, severities_of, status_of, told_of}
use Rattle.everyday_lint.specs.declared.files.Done.{Done}
use Rattle.everyday_lint.specs.declared.files.Fate.{Fate}
use Rattle.everyday_lint.specs.declared.files.Fate.TheVariants.{Checked, Unsettled}
use Rattle.everyday_lint.specs.declared.options.LintOptions.{LintOptions}
use Rattle.everyday_lint.specs.declared.options.LintOutcome.{LintOutcome}

-- what is printed of files, by what became of them, and the status
pub record IsOutcomeOf (options : LintOptions) (done : List Done) (outcome : LintOutcome) : Type 0 where
  pub output : outcome.output.items ≡ whole options.form (flat_map told_of done)
  pub errors : outcome.errors.items ≡ flat_map lines_of done ++ summary (flat_map severities_of done) (count_by is_checked done)
  pub status : outcome.status ≡ status_of options.strict (flat_map severities_of done) done

-- what comes of files: each is done in turn, and what became of them is printed
abbrev pub ComesOfFiles : LintOptions → List (List ℕ) → Held → Held → LintOutcome → Type 0
ComesOfFiles options paths before after outcome =
    (done : List Done) × LintsFiles options paths before after done × IsOutcomeOf options done outcome

-- ---- standard input

-- what becomes of standard input, by what is settled for a file in the current directory
abbrev pub ChecksInput : LintOptions → List ℕ → Held → Held → Fate → Type 0
ChecksInput options source before after (Checked linted) =
    (settings : SeenSettings) × SettlesFor before.files [] settings × IsLintedSource options settings (codes "<stdin>") source [] linted
    × (after.files ≡ before.files)
ChecksInput options source before after (Unsettled text) = (after.files ≡ before.files) × IsUnsettled [] before after text
ChecksInput options source before after fate = ⊥

-- what comes of it: what became of it is printed as that of a file
abbrev pub ComesOfInput : LintOptions → List ℕ → Held → Held → LintOutcome → Type 0
ComesOfInput options source before after outcome =
    (done : Done) × (string_bytes done.path ≡ codes "<stdin>") × ChecksInput options source before after done.fate × IsOutcomeOf options (done ∷ []) outcome
