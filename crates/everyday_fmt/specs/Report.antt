-- The lines about files, and the status of the process (own, as of gofmt -l and rustfmt --check).
use Rattle.std.specs.Prelude.{ℕ, Bool, true, false, if◌then◌else◌, List, [], ◌++◌, codes}
use Rattle.std.specs.List.{list_any}
use Rattle.std.specs.String.{string_bytes}
use Rattle.everyday_fmt.specs.declared.files.Done.{Done}
use Rattle.everyday_fmt.specs.declared.files.Fate.{Fate}
use Rattle.everyday_fmt.specs.declared.files.Fate.TheVariants.{Absent, Changed, Failed, Same}

-- the name of a file, on a line of its own, if it is only checked and has another layout
abbrev pub name_if : Bool → List ℕ → Fate → List ℕ
name_if true path Changed = path ++ codes "\n"
name_if check path fate = []

abbrev pub name_line : Bool → Done → List ℕ
name_line check done = name_if check (string_bytes done.path) done.fate

-- the line of a file that could not be read or written
abbrev pub failure_line : List ℕ → List ℕ → List ℕ
failure_line path reason = codes "ti-fmt: " ++ path ++ codes ": " ++ reason ++ codes "\n"

-- the line of a file, if there is something to say
abbrev pub error_of : List ℕ → Fate → List ℕ
error_of path Absent = failure_line path (codes "No such file or directory")
error_of path (Failed reason) = failure_line path (string_bytes reason)
error_of path fate = []

abbrev pub error_line : Done → List ℕ
error_line done = error_of (string_bytes done.path) done.fate

-- whether the status says that something is wrong with a file
abbrev pub is_wrong_fate : Bool → Fate → Bool
is_wrong_fate check Same = false
is_wrong_fate check Changed = check
is_wrong_fate check Absent = true
is_wrong_fate check (Failed reason) = true

abbrev pub is_wrong : Bool → Done → Bool
is_wrong check done = is_wrong_fate check done.fate

-- the status: 1 if something is wrong with a file, else 0
abbrev pub status_of : Bool → List Done → ℕ
status_of check done = if list_any (is_wrong check) done then 1 else 0
