-- What becomes of files (own, as users of gofmt and rustfmt know it).
use Rattle.std.specs.Prelude.{◌≡◌, ◌≢◌, ◌⊎◌, ℕ, ◌+◌, ◌^◌, Bool, true, false, List, [], ◌∷◌, ◌++◌, Option, Some, None}
use Rattle.std.specs.String.{string_bytes}
use Rattle.tools_devices.specs.Tree.{ChangesOnly, Files, FindsFile, Sets}
use Rattle.everyday_fmt.specs.Layouts.{laid}
use Rattle.everyday_fmt.specs.declared.files.Done.{Done}
use Rattle.everyday_fmt.specs.declared.files.Fate.{Fate}
use Rattle.everyday_fmt.specs.declared.files.Fate.TheVariants.{Absent, Changed, Failed, Same}
use Rattle.everyday_fmt.specs.declared.options.FmtOptions.{FmtOptions}

-- ---- a tree of files that says why a call failed

-- a text is the reason, if that is known
abbrev pub IsReason : Option (List ℕ) → List ℕ → Type 0
IsReason None text = Unit {0}
IsReason (Some cause) text = text ≡ cause

-- what a contract sees of such a tree: the files that it holds, if they are known, how often it
-- failed, and why it failed last, if that is known
pub record Held : Type 0 where
  pub files : Option Files
  pub failures : ℕ
  pub cause : Option (List ℕ)

-- the same, given how they are seen: `held T.files T.failures T.cause tree`
abbrev pub held : {T : Type 0} → (T → Option Files) → (T → ℕ) → (T → Option (List ℕ)) → T → Held
held files failures cause tree = record { files = files tree; failures = failures tree; cause = cause tree }

-- ---- one file

-- how many bytes of a file are read: all, since no file that is read has more
abbrev pub whole_size : ℕ
whole_size = 2 ^ 64

-- the file at a path has these bytes
abbrev pub Holds : List ℕ → Option Files → List ℕ → Type 0
Holds path files source = FindsFile path whole_size files (Some source)

-- a file of another layout gets its own, unless it is only checked
abbrev pub GetsLayout : Bool → List ℕ → List ℕ → Option Files → Option Files → Type 0
GetsLayout true path text before after = after ≡ before
GetsLayout false path text before after = Sets (path, text) before after

-- at most the file at a path changed, and none if it is only checked
abbrev pub MayChange : Bool → List ℕ → Option Files → Option Files → Type 0
MayChange true path before after = after ≡ before
MayChange false path before after = ChangesOnly path before after

-- the same, by the options
abbrev pub Stays : FmtOptions → List ℕ → Option Files → Option Files → Type 0
Stays options path before after = MayChange options.check path before after

-- a failure comes with its reason
abbrev pub TellsFailure : Option (List ℕ) → Fate → Type 0
TellsFailure cause (Failed reason) = IsReason cause (string_bytes reason)
TellsFailure cause fate = ⊥

-- what becomes of the file at a path: it has its layout; or it had another one; or it is not there; or
-- it could not be read, or could not be written in its layout, and the tree says why
abbrev pub FormatsFile : FmtOptions → List ℕ → Held → Held → Fate → Type 0
FormatsFile options path before after Same =
    (source : List ℕ) × Holds path before.files source × (laid options source ≡ source)
    × (after.files ≡ before.files) × (after.failures ≡ before.failures)
FormatsFile options path before after Changed =
    (source : List ℕ) × Holds path before.files source × (laid options source ≢ source)
    × GetsLayout options.check path (laid options source) before.files after.files × (after.failures ≡ before.failures)
FormatsFile options path before after Absent =
    FindsFile path whole_size before.files None × (after.files ≡ before.files) × (after.failures ≡ before.failures)
FormatsFile options path before after (Failed reason) =
    IsReason after.cause (string_bytes reason) × (after.failures ≡ before.failures + 1)
    × ((after.files ≡ before.files)
    ⊎ ((options.check ≡ false) × (source : List ℕ) × Holds path before.files source × (laid options source ≢ source)
    × ChangesOnly path before.files after.files))

-- ---- files in turn

-- what becomes of each of these files, one after another
abbrev pub FormatsFiles : FmtOptions → List (List ℕ) → Held → Held → List Done → Type 0
FormatsFiles options [] before after [] = after ≡ before
FormatsFiles options (path ∷ paths) before after (done ∷ others) =
    (string_bytes done.path ≡ path) × (mid : Held) × FormatsFile options path before mid done.fate × FormatsFiles options paths mid after others
FormatsFiles options paths before after done = ⊥

-- memory ran out: files up to some are done, and of the others at most the next one has changed; or all
-- are done
abbrev pub StopsAmong : FmtOptions → List (List ℕ) → Held → Option Files → Type 0
StopsAmong options paths before after =
    (first : List (List ℕ)) × (others : List (List ℕ)) × (done : List Done) × (mid : Held)
    × (paths ≡ first ++ others) × FormatsFiles options first before mid done
    × ((after ≡ mid.files) ⊎ ((next : List ℕ) × (rest : List (List ℕ)) × (others ≡ next ∷ rest) × Stays options next mid.files after))
