-- The two layouts of a source (own): that of a listing, and the one that keeps its lines.
use Rattle.std.specs.Prelude.{ℕ, Bool, true, false, List}
use Rattle.source_format.specs.Sources.{IsLaidOut, formatted_source}
use Rattle.source_kept_lines.specs.Sources.{IsRepaired, repaired_source}
use Rattle.everyday_fmt.specs.declared.options.FmtOptions.{FmtOptions}

-- a source in the layout of a listing, or in its own lines
abbrev pub laid_by : (keep : Bool) → ℕ → List ℕ → List ℕ
laid_by false width source = formatted_source width source
laid_by true width source = repaired_source width source

-- the same, by the options
abbrev pub laid : FmtOptions → List ℕ → List ℕ
laid options source = laid_by options.keep options.width source

-- what the layout promises of a text in the place of a source
abbrev pub IsLaidBy : (keep : Bool) → ℕ → List ℕ → List ℕ → Type 0
IsLaidBy false width source text = IsLaidOut width source text
IsLaidBy true width source text = IsRepaired width source text

-- the same, by the options
abbrev pub IsLaid : FmtOptions → List ℕ → List ℕ → Type 0
IsLaid options source text = IsLaidBy options.keep options.width source text
