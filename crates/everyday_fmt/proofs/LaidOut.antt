-- Files and standard input are laid out.
use Rattle.std.proofs.Common.{◌≡◌, ◌||◌, ℕ, Bool, true, false, cond, List, [], ◌∷◌, Option, refl, sym, subst, inl, inr}
use Rattle.std.specs.List.{list_any}
use Rattle.std.proofs.lemmas.Bool.{true≢false}
use Rattle.tools_devices.specs.Tree.{Files, Sets}
use Rattle.source_format.specs.Sources.{FormattedSourcesAreLaidOut}
use Rattle.source_kept_lines.specs.Sources.{RepairedSourcesAreRepaired}
use Rattle.everyday_fmt.specs.Fates.{FormatsFile, FormatsFiles, GetsLayout, Held}
use Rattle.everyday_fmt.specs.Laws.{FilesAreLaidOut, HoldLaidOut, HoldsLaidOut, InputIsLaidOut}
use Rattle.everyday_fmt.specs.Layouts.{IsLaid, IsLaidBy, laid, laid_by}
use Rattle.everyday_fmt.specs.Report.{is_wrong, is_wrong_fate}
use Rattle.everyday_fmt.specs.Tool.{PrintsInput}
use Rattle.everyday_fmt.specs.declared.files.Done.{Done}
use Rattle.everyday_fmt.specs.declared.files.Fate.{Fate}
use Rattle.everyday_fmt.specs.declared.files.Fate.TheVariants.{Absent, Changed, Failed, Same}
use Rattle.everyday_fmt.specs.declared.options.FmtOptions.{FmtOptions}
use Rattle.everyday_fmt.specs.declared.options.FmtOutcome.{FmtOutcome}

-- ---- either layout

-- each source has what its layout promises
abbrev pub AllAreLaid : Type 0
AllAreLaid = (options : FmtOptions) (source : List ℕ) → IsLaid options source (laid options source)

laid_either : FormattedSourcesAreLaidOut → RepairedSourcesAreRepaired → (keep : Bool) (width : ℕ) (source : List ℕ) → IsLaidBy keep width source (laid_by keep width source)
laid_either formatted repaired false width source = formatted width source
laid_either formatted repaired true width source = repaired width source

pub all_are_laid : FormattedSourcesAreLaidOut → RepairedSourcesAreRepaired → AllAreLaid
all_are_laid formatted repaired options source = laid_either formatted repaired options.keep options.width source

-- ---- files

is_set : (check : Bool) (path text : List ℕ) (before after : Option Files) → check ≡ false → GetsLayout check path text before after
    → Sets (path, text) before after
is_set true path text before after e gets = absurd (true≢false e)
is_set false path text before after e gets = gets

file_laid_out : AllAreLaid → (options : FmtOptions) (path : List ℕ) (before after : Held) (fate : Fate) → options.check ≡ false
    → is_wrong_fate options.check fate ≡ false → FormatsFile options path before after fate → HoldsLaidOut options path before.files after.files
file_laid_out are options path before after Same unchecked right formats =
    (formats.0, formats.0, formats.1, subst (λ (text : List ℕ). IsLaid options formats.0 text) formats.2 (are options formats.0), inl (refl, formats.3))
file_laid_out are options path before after Changed unchecked right formats =
    let text = laid options formats.0 in
    (formats.0, text, formats.1, are options formats.0, inr (is_set options.check path text before.files after.files unchecked formats.3))
file_laid_out are options path before after Absent unchecked right formats = absurd (true≢false right)
file_laid_out are options path before after (Failed reason) unchecked right formats = absurd (true≢false right)

right_first : (a b : Bool) → (a || b) ≡ false → (a ≡ false) × (b ≡ false)
right_first true b e = absurd (true≢false e)
right_first false b e = (refl, e)

files_in_turn : AllAreLaid → (options : FmtOptions) (paths : List (List ℕ)) (before after : Held) (done : List Done)
    → FormatsFiles options paths before after done → options.check ≡ false → list_any (is_wrong options.check) done ≡ false
    → HoldLaidOut options paths before after
files_in_turn are options [] before after [] formats unchecked right = formats
files_in_turn are options [] before after (d ∷ done) formats unchecked right = absurd formats
files_in_turn are options (path ∷ paths) before after [] formats unchecked right = absurd formats
files_in_turn are options (path ∷ paths) before after (d ∷ done) formats unchecked right =
    let both = right_first (is_wrong options.check d) (list_any (is_wrong options.check) done) right in (
      formats.1,
      file_laid_out are options path before formats.1 d.fate unchecked both.0 formats.2,
      files_in_turn are options paths formats.1 after done formats.3 unchecked both.1,
    )

none_wrong : (wrong : Bool) → ◌≡◌ {A = ℕ} (cond wrong 1 0) 0 → wrong ≡ false
none_wrong true e = cc
none_wrong false e = refl

pub files_laid_out : AllAreLaid → FilesAreLaidOut
files_laid_out are options paths before after done formats unchecked status =
    files_in_turn are options paths before after done formats unchecked (none_wrong (list_any (is_wrong options.check) done) status)

-- ---- standard input

printed : (check : Bool) (text source : List ℕ) (outcome : FmtOutcome) → check ≡ false → PrintsInput check text source outcome → outcome.output.items ≡ text
printed true text source outcome e prints = absurd (true≢false e)
printed false text source outcome e prints = prints.output

pub input_laid_out : AllAreLaid → InputIsLaidOut
input_laid_out are options source outcome comes unchecked =
    let text = laid options source in
    subst (λ (written : List ℕ). IsLaid options source written) (sym (printed options.check text source outcome unchecked comes))
    (are options source)
