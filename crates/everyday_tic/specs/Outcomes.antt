-- What `ti-tic` makes of a source (tic(1)): files, what is said on standard error, and a status.
use Rattle.std.specs.Prelude.{◌≡◌, ◌⊎◌, ℕ, ◌+◌, ◌≤◌, ◌==◌, ◌||◌, Bool, true, false, not, List, [], ◌++◌, length, map, codes, Option, Some, None, if◌then◌else◌}
use Rattle.std.specs.List.{flat_map}
use Rattle.ti_source.specs.declared.parsing.Rule.{Rule}
use Rattle.ti_source.specs.declared.parsing.Rule.TheVariants.{OwnFirst}
use Rattle.base_meaning.specs.Compiled.{EntryState}
use Rattle.base_meaning.specs.Faults.{faults}
use Rattle.base_meaning.specs.Readings.{readings_by}
use Rattle.base_meaning.specs.Report.{lines_before}
use Rattle.tools_devices.specs.Placing.{entries}
use Rattle.tools_devices.specs.Tree.{FileAt, Files}
use Rattle.tools_sources.specs.Sources.{AreTaken, IsSourceRefusal, first_line, source_texts}
use Rattle.tools_sources.specs.declared.source_error.SourceError.{SourceError}
use Rattle.tools_sources.specs.declared.source_error.SourceError.TheVariants.{BlockTooLong, TooManyBlocks}
use Rattle.user_compiling.specs.Faults.{ExtendedSourceFault, extended_faults_by, of_profile}
use Rattle.user_values.specs.Limit.{IsOverLimitAt, name_count, name_limit}
use Rattle.everyday_graphics.specs.Entries.{AreWrittenStates}
use Rattle.everyday_names.specs.Fields.{fitted, long_field}
use Rattle.everyday_tic.specs.Characters.{AreWithCharacters}
use Rattle.everyday_tic.specs.Named.{named_states}
use Rattle.everyday_tic.specs.Entries.{BecomeThese, entry_count, first_files}
use Rattle.everyday_tic.specs.Messages.{problem_line, unknown_lines}
use Rattle.everyday_tic.specs.Notes.{note_lines}
use Rattle.everyday_tic.specs.Termcap.{IsFirstTermcap, termcap_source}
use Rattle.everyday_report.specs.Report.{fault_lines, has_error, said}
use Rattle.everyday_report.specs.Sentences.{too_many_names}
use Rattle.source_spans.specs.Sentences.{block_too_long, too_many_blocks}
use Rattle.source_plain.specs.Reading.{plain_source}
use Rattle.everyday_sources.specs.Used.{ProblemSeen, TakesUsed}
use Rattle.everyday_tic.specs.declared.options.TicOptions.{TicOptions}
use Rattle.everyday_tic.specs.declared.options.TicOutcome.{TicOutcome}
use Rattle.std.specs.Option.{option_map}

-- what is asked for, as plain data: whether user-defined capabilities are kept, whether line graphics
-- are drawn, whether the source is only checked, which entries are written, and below which directory
pub record Asked : Type 0 where
  pub user_defined : Bool
  pub draws : Bool
  pub check : Bool
  pub entries : Option (List ℕ)
  pub directory : List ℕ

-- options in memory, as plain data
abbrev pub asked_of : TicOptions → Asked
asked_of options = record {
  user_defined = options.user_defined;
  draws = options.draws;
  check = options.check;
  entries = option_map (λ e. e.now) options.entries;
  directory = options.directory.now;
}

-- what comes of a source, as plain data
pub record Made : Type 0 where
  pub files : List FileAt
  pub entries : ℕ
  pub report : List ℕ
  pub status : ℕ

-- an outcome in memory, as plain data
abbrev pub made_of : TicOutcome → Made
made_of outcome = record {
  files = entries outcome.files.items;
  entries = outcome.entries;
  report = outcome.report.items;
  status = outcome.status;
}

-- ---- a source that is not compiled

-- what comes of it: a line, with a sentence and a word in brackets
abbrev pub refusal : List ℕ → ℕ → List ℕ → List ℕ → Made
refusal file line sentence word = record {
  files = [];
  entries = 0;
  report = said (record { file = file; line = line; column = 1 }) true None sentence word;
  status = 1;
}

-- of a source that no database takes
abbrev pub refusal_of : List ℕ → SourceError → Made
refusal_of file (BlockTooLong line) = refusal file line block_too_long (codes "BlockTooLong")
refusal_of file (TooManyBlocks line) = refusal file line too_many_blocks (codes "TooManyBlocks")

-- of one with a block that is termcap, which is at that position
abbrev pub termcap_refusal : List ℕ → ℕ → List (List ℕ) → ℕ → Made
termcap_refusal file first texts at = refusal file (first + lines_before texts at) termcap_source (codes "TermcapSource")

-- of one with one user-defined name too many, which is in the block at that position
abbrev pub names_refusal : List ℕ → ℕ → List (List ℕ) → ℕ → Made
names_refusal file first texts at = refusal file (first + lines_before texts at) too_many_names (codes "TooManyNames")

-- ---- a source that is compiled

-- its faults, read by a rule: those of `user_compiling` if user-defined capabilities are kept, else
-- those of the profile
abbrev pub faults_by : Rule → Bool → List (List ℕ) → List EntryState → List ExtendedSourceFault
faults_by rule true texts states = extended_faults_by rule texts states
faults_by rule false texts states = map of_profile (faults (readings_by rule texts))

-- what is said before its faults: of the files that were found, and of names that no block has
abbrev pub front_lines : Asked → List (List ℕ) → ℕ → List ProblemSeen → List ℕ
front_lines asked texts count problems = flat_map problem_line problems ++ unknown_lines texts count asked.entries

-- what comes of the first blocks of these, of that many, read by a rule, of which the former becomes
-- and the latter is written; the others are installed entries
abbrev pub compilation : Rule → Asked → List ℕ → ℕ → List (List ℕ) → ℕ → List EntryState → List EntryState → List ProblemSeen → Made
compilation rule asked file first texts count states drawn problems = record {
  files = if asked.check then [] else first_files asked.directory asked.entries texts drawn count;
  entries = if asked.check then 0 else entry_count asked.directory asked.entries texts drawn count;
  report = front_lines asked texts count problems ++ fault_lines file texts first count (faults_by rule asked.user_defined texts states)
      ++ (if asked.check then note_lines file first texts states drawn count else []);
  status = if not (length (front_lines asked texts count problems) == 0) || has_error count (faults_by rule asked.user_defined texts states) then 1 else 0;
}

-- what is written of blocks with these names fields: a source that is only checked gets no files, and
-- so no names
abbrev pub written_of : Asked → List (Option (List ℕ)) → List EntryState → List EntryState
written_of asked fields drawn = if asked.check then drawn else named_states fields drawn

-- there are at most as many user-defined names as may be, if they are kept
abbrev pub FewNames : Bool → List (List ℕ) → Type 0
FewNames user_defined texts = user_defined ≡ true → name_count texts (length texts) ≤ name_limit

-- The same of a source with the entries that it uses after it: it has one user-defined name too
-- many, or each block becomes something, and that is written with its line graphics, with the
-- constants of its strings as characters, and with these names fields of the first blocks, where they
-- are too long for the profile.
abbrev pub ComesOf : Rule → Asked → List ℕ → ℕ → List (Option (List ℕ)) → List (List ℕ) → ℕ → List ProblemSeen → Made → Type 0
ComesOf rule asked file first fields texts count problems made =
    ((asked.user_defined ≡ true) × (at : ℕ) × IsOverLimitAt texts at × (made ≡ names_refusal file first texts at))
    ⊎ (FewNames asked.user_defined texts
    × (states : List EntryState) × BecomeThese rule asked.user_defined texts states
    × (drawn : List EntryState) × AreWrittenStates rule asked.user_defined asked.draws texts drawn
    × (spelled : List EntryState) × AreWithCharacters asked.check drawn spelled
    × (made ≡ compilation rule asked file first texts count states (written_of asked fields spelled) problems))

-- what comes of the blocks of a source, read by a rule, the first on the line of that number, with
-- these names fields: it is refused if one of them is termcap
abbrev pub ComesOfBlocks : Rule → Asked → Option Files → List (List ℕ) → List ℕ → ℕ → List (Option (List ℕ)) → List (List ℕ) → ℕ → ℕ → Made → Type 0
ComesOfBlocks rule asked files directories file first fields blocks before after made =
    ((at : ℕ) × IsFirstTermcap blocks (Some at) × (after ≡ before) × (made ≡ termcap_refusal file first blocks at))
    ⊎ (IsFirstTermcap blocks None × (texts : List (List ℕ)) × (problems : List ProblemSeen)
    × TakesUsed rule asked.user_defined files directories blocks before after texts problems
    × ComesOf rule asked file first fields texts (length blocks) problems made)

-- What comes of a source without a mark and without CR LF, by the files of the tree and how often it
-- failed before and after. The value of a capability is that of ncurses's tic: what a block says
-- itself decides before its uses. A block with a names field that is too long for the profile is read
-- with a part of it, and its entry is written with the whole field.
abbrev pub ComesOfPlain : Asked → Option Files → List (List ℕ) → List ℕ → List ℕ → ℕ → ℕ → Made → Type 0
ComesOfPlain asked files directories file source before after made =
    ((error : SourceError) × IsSourceRefusal source error × (after ≡ before) × (made ≡ refusal_of file error))
    ⊎ (AreTaken (source_texts source)
    × ComesOfBlocks OwnFirst asked files directories file (first_line source) (map long_field (source_texts source)) (map fitted (source_texts source))
    before after made)

-- what comes of a source
abbrev pub Comes : Asked → Option Files → List (List ℕ) → List ℕ → List ℕ → ℕ → ℕ → TicOutcome → Type 0
Comes asked files directories file source before after outcome = ComesOfPlain asked files directories file (plain_source source) before after (made_of outcome)
