-- What becomes of files (own).
use Rattle.std.specs.Prelude.{◌≡◌, ◌⊎◌, ℕ, ◌+◌, Bool, true, false, List, [], ◌∷◌, ◌++◌, Option, None, String, codes}
use Rattle.std.specs.declared.alloc.Global.{Global}
use Rattle.std.specs.String.{string_bytes}
use Rattle.tools_devices.specs.Tree.{ChangesOnly, Files, FindsFile, Sets}
use Rattle.source_plain.specs.Reading.{without_mark}
use Rattle.source_plain.specs.Writing.{marked_like}
use Rattle.source_settings.specs.Finding.{IsReadFor, IsSettled}
use Rattle.source_settings.specs.Settings.{SeenSettings, settings_seen}
use Rattle.source_settings.specs.declared.finding.Settled.TheVariants.{By, Unread, Wrong}
use Rattle.source_settings.specs.declared.settings.Settings.{Settings}
use Rattle.everyday_fmt.specs.Fates.{Held, Holds, IsReason, whole_size}
use Rattle.everyday_lint.specs.Checking.{IsLintedSource, made_in}
use Rattle.everyday_lint.specs.Fixing.{fix_lines, fixed_text}
use Rattle.everyday_lint.specs.Offers.{OfferSeen}
use Rattle.everyday_lint.specs.declared.files.Done.{Done}
use Rattle.everyday_lint.specs.declared.files.Fate.{Fate}
use Rattle.everyday_lint.specs.declared.files.Fate.TheVariants.{Absent, Checked, Failed, Unsettled}
use Rattle.everyday_lint.specs.declared.options.LintOptions.{LintOptions}

-- ---- one file

-- at most the file at a path changed, and none unless fixes are made
abbrev pub MayChange : Bool → List ℕ → Option Files → Option Files → Type 0
MayChange true path before after = ChangesOnly path before after
MayChange false path before after = after ≡ before

-- the same, by the options
abbrev pub Stays : LintOptions → List ℕ → Option Files → Option Files → Type 0
Stays options path before after = MayChange options.fix path before after

-- a failure comes with its reason
abbrev pub TellsFailure : Option (List ℕ) → Fate → Type 0
TellsFailure cause (Failed reason) = IsReason cause (string_bytes reason)
TellsFailure cause fate = ⊥

-- a source with fixes made, in its lines as they are; a byte order mark stays, and counts in no place
abbrev pub fixed_source : List ℕ → List OfferSeen → List ℕ
fixed_source source offers = marked_like source (fixed_text (without_mark source) 0 offers)

-- what becomes of the file at a path, of this source, in which these fixes are made: it gets the source
-- with them, and that is what is told of; or it could not be written, and the tree says why
abbrev pub Fixes : LintOptions → SeenSettings → (path source : List ℕ) → List OfferSeen → Held → Held → Fate → Type 0
Fixes options settings path source offers before after (Checked linted) =
    IsLintedSource options settings path (fixed_source source offers) (fix_lines path (without_mark source) offers) linted
    × Sets (path, fixed_source source offers) before.files after.files × (after.failures ≡ before.failures)
Fixes options settings path source offers before after (Failed reason) =
    IsReason after.cause (string_bytes reason) × (after.failures ≡ before.failures + 1) × ChangesOnly path before.files after.files
Fixes options settings path source offers before after fate = ⊥

-- the same if there may be no fixes: then it stays as it is
abbrev pub FixesIfSome : LintOptions → SeenSettings → (path source : List ℕ) → List OfferSeen → Held → Held → Fate → Type 0
FixesIfSome options settings path source [] before after (Checked linted) =
    IsLintedSource options settings path source [] linted × (after.files ≡ before.files) × (after.failures ≡ before.failures)
FixesIfSome options settings path source [] before after fate = ⊥
FixesIfSome options settings path source (offer ∷ offers) before after fate = Fixes options settings path source (offer ∷ offers) before after fate

-- what becomes of the file at a path, of this source, for which this is settled
abbrev pub Finds : LintOptions → SeenSettings → (path source : List ℕ) → Held → Held → Fate → Type 0
Finds options settings path source before after fate = FixesIfSome options settings path source (made_in options source) before after fate

-- ---- what is settled

-- this is settled for the source at a path
abbrev pub SettlesFor : Option Files → List ℕ → SeenSettings → Type 0
SettlesFor files path settings = (by_file : Settings) × IsReadFor files path (By by_file) × (settings_seen by_file ≡ settings)

-- the text says that the file of settings at a path could not be read, and why
abbrev pub SaysUnread : Option (List ℕ) → (path text : List ℕ) → Type 0
SaysUnread cause path text = (reason : List ℕ) × IsReason cause reason × (text ≡ path ++ codes ": " ++ reason)

-- that is what becomes of a source
abbrev pub IsUnread : Option (List ℕ) → List ℕ → Fate → Type 0
IsUnread cause path (Unsettled text) = SaysUnread cause path (string_bytes text)
IsUnread cause path fate = ⊥

-- what is settled for the source at a path is not known, and the text says why: something is wrong with the
-- nearest file of settings, or it could not be read
abbrev pub IsUnsettled : (path : List ℕ) → Held → Held → String Global → Type 0
IsUnsettled path before after text =
    (IsReadFor before.files path (Wrong text) × (after.failures ≡ before.failures))
    ⊎ ((unread : String Global) × IsSettled before.files path before.failures after.failures (Unread unread)
    × SaysUnread after.cause (string_bytes unread) (string_bytes text))

-- what becomes of the file at a path, of this source, by what is settled for it
abbrev pub LintsSource : LintOptions → (path source : List ℕ) → Held → Held → Fate → Type 0
LintsSource options path source before after Absent = ⊥
LintsSource options path source before after (Unsettled text) = (after.files ≡ before.files) × IsUnsettled path before after text
LintsSource options path source before after fate =
    (settings : SeenSettings) × SettlesFor before.files path settings × Finds options settings path source before after fate

-- ---- the file

-- what becomes of the file at a path: what is in it is told of; or it is not there, or could not be
-- read, and the tree says why; or what is settled for it is not known
abbrev pub LintsFile : LintOptions → List ℕ → Held → Held → Fate → Type 0
LintsFile options path before after Absent =
    FindsFile path whole_size before.files None × (after.files ≡ before.files) × (after.failures ≡ before.failures)
LintsFile options path before after (Failed reason) =
    IsReason after.cause (string_bytes reason) × (after.failures ≡ before.failures + 1)
    × ((after.files ≡ before.files)
    ⊎ ((source : List ℕ) × Holds path before.files source × LintsSource options path source before after (Failed reason)))
LintsFile options path before after fate =
    (source : List ℕ) × Holds path before.files source × LintsSource options path source before after fate

-- ---- files in turn

-- what becomes of each of these files, one after another
abbrev pub LintsFiles : LintOptions → List (List ℕ) → Held → Held → List Done → Type 0
LintsFiles options [] before after [] = after ≡ before
LintsFiles options (path ∷ paths) before after (done ∷ others) =
    (string_bytes done.path ≡ path) × (mid : Held) × LintsFile options path before mid done.fate × LintsFiles options paths mid after others
LintsFiles options paths before after done = ⊥

-- memory ran out: files up to some are done, and of the others at most the next one has changed; or all
-- are done
abbrev pub StopsAmong : LintOptions → List (List ℕ) → Held → Option Files → Type 0
StopsAmong options paths before after =
    (first : List (List ℕ)) × (others : List (List ℕ)) × (done : List Done) × (mid : Held)
    × (paths ≡ first ++ others) × LintsFiles options first before mid done
    × ((after ≡ mid.files) ⊎ ((next : List ℕ) × (rest : List (List ℕ)) × (others ≡ next ∷ rest) × Stays options next mid.files after))
