-- What is printed about files, and the status of the process (own).
use Rattle.std.specs.Prelude.{ℕ, ◌||◌, nat_lt, Bool, true, false, if◌then◌else◌, List, [], ◌++◌, codes, count_by, length}
use Rattle.std.specs.List.{list_any}
use Rattle.std.specs.String.{string_bytes}
use Rattle.source_types.specs.declared.severities.Severity.{Severity}
use Rattle.everyday_forms.specs.Counts.{is_bad}
use Rattle.everyday_lint.specs.declared.files.Done.{Done}
use Rattle.everyday_lint.specs.declared.files.Fate.{Fate}
use Rattle.everyday_lint.specs.declared.files.Fate.TheVariants.{Absent, Checked, Failed, Unsettled}

-- what is told of a file
abbrev pub told_by : Fate → List ℕ
told_by (Checked linted) = linted.told.items
told_by Absent = []
told_by (Failed reason) = []
told_by (Unsettled text) = []

-- the same of a file and what became of it
abbrev pub told_of : Done → List ℕ
told_of done = told_by done.fate

-- how bad each thing is that is told of it
abbrev pub severities_by : Fate → List Severity
severities_by (Checked linted) = linted.severities.items
severities_by Absent = []
severities_by (Failed reason) = []
severities_by (Unsettled text) = []

-- the same of a file and what became of it
abbrev pub severities_of : Done → List Severity
severities_of done = severities_by done.fate

-- the line of a file that was not checked
abbrev pub failure_line : List ℕ → List ℕ → List ℕ
failure_line path reason = codes "ti-lint: " ++ path ++ codes ": " ++ reason ++ codes "\n"

-- the lines of a file: of the fixes that were made, or why it was not checked
abbrev pub lines_by : List ℕ → Fate → List ℕ
lines_by path (Checked linted) = linted.fixes.items
lines_by path Absent = failure_line path (codes "No such file or directory")
lines_by path (Failed reason) = failure_line path (string_bytes reason)
lines_by path (Unsettled text) = failure_line path (string_bytes text)

-- the same of a file and what became of it
abbrev pub lines_of : Done → List ℕ
lines_of done = lines_by (string_bytes done.path) done.fate

-- whether a file was checked
abbrev pub is_checked_fate : Fate → Bool
is_checked_fate (Checked linted) = true
is_checked_fate Absent = false
is_checked_fate (Failed reason) = false
is_checked_fate (Unsettled text) = false

-- the same of a file and what became of it
abbrev pub is_checked : Done → Bool
is_checked done = is_checked_fate done.fate

-- the status: 1 if something that is told is bad, or a file was not checked; else 0
abbrev pub status_of : Bool → List Severity → List Done → ℕ
status_of strict severities done =
    if list_any (is_bad strict) severities || nat_lt (count_by is_checked done) (length done) then 1 else 0
