-- What is told as GNU's compilers do (own; GNU Coding Standards, "Formatting Error Messages"; of the
-- colors ECMA-48, "Select graphic rendition").
use Rattle.std.specs.Prelude.{ℕ, ◌+◌, ◌++◌, ◌∷◌, [], Bool, true, false, List, codes}
use Rattle.std.specs.Fmt.{decimal}
use Rattle.ti_text.specs.Ascii as ascii
use Rattle.source_types.specs.declared.severities.Severity.{Severity}
use Rattle.source_types.specs.declared.severities.Severity.TheVariants.{Error, Warning, Information, Hint}
use Rattle.everyday_forms.specs.Excerpts.{excerpt, indent, mark_of}
use Rattle.everyday_forms.specs.Told.{ToldSeen}

-- what an error, a warning and a hint are called
abbrev pub severity_word : Severity → List ℕ
severity_word Error = codes "error"
severity_word Warning = codes "warning"
severity_word Information = codes "note"
severity_word Hint = codes "note"

-- the number of what is at a place, counted from 0
abbrev pub ordinal : ℕ → List ℕ
ordinal at = decimal (at + 1)

-- ---- colors

-- that of an error is red, that of a warning magenta, that of a hint cyan; all are bold
abbrev pub severity_color : Severity → List ℕ
severity_color Error = codes "1;31"
severity_color Warning = codes "1;35"
severity_color Information = codes "1;36"
severity_color Hint = codes "1;36"

-- what begins a color, if colors are used
abbrev pub begin_color : Bool → List ℕ → List ℕ
begin_color false how = []
begin_color true how = ascii.escape ∷ codes "[" ++ how ++ codes "m"

-- what ends a color, if colors are used
abbrev pub end_color : Bool → List ℕ
end_color false = []
end_color true = ascii.escape ∷ codes "[m"

-- a text in a color, if colors are used
abbrev pub painted : Bool → List ℕ → List ℕ → List ℕ
painted color how text = begin_color color how ++ text ++ end_color color

-- ---- the lines

-- `FILE:LINE:COLUMN:`, each counted from 1, and the column in bytes
abbrev pub place : ToldSeen → List ℕ
place told = told.file ++ codes ":" ++ ordinal told.range.start.line ++ codes ":" ++ ordinal told.offset ++ codes ":"

-- the place, and how bad it is, each in its color
abbrev pub head : Bool → ToldSeen → List ℕ
head color told =
    painted color (codes "1") (place told) ++ codes " " ++ painted color (severity_color told.severity) (severity_word told.severity ++ codes ":")

-- what is said, and in brackets its title
abbrev pub words : ToldSeen → List ℕ
words told = codes " " ++ told.sentence ++ codes " [" ++ told.title ++ codes "]\n"

-- the source, with a mark below the part that it is of
abbrev pub source : Bool → ToldSeen → List ℕ
source color told =
    excerpt told.line told.offset ++ indent told.line told.offset
    ++ painted color (codes "1;32") (mark_of told.line told.offset told.size) ++ codes "\n"

-- the line, and the source below it
abbrev pub gcc_text : Bool → ToldSeen → List ℕ
gcc_text color told = head color told ++ words told ++ source color told

-- the line alone, without colors
abbrev pub line_text : ToldSeen → List ℕ
line_text told = head false told ++ words told
