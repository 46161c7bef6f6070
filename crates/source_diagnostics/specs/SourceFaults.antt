-- The faults of a source, by which capabilities it may have (own; tic(1), at `-x`).
use Rattle.std.specs.Prelude.{◌≡◌, ℕ, Bool, not, nat_le, List, [], ◌∷◌, ◌++◌, filter, length, map, Option, None, Some, if◌then◌else◌}
use Rattle.std.specs.Str.{bytes_eq}
use Rattle.ti_source.specs.Parsing.{reading_of_text}
use Rattle.ti_layout.specs.Values.{Content, content_true, content_number, content_text, content_cancelled, Mention}
use Rattle.base_meaning.specs.Compiled.{EntryState, unresolved}
use Rattle.base_meaning.specs.Expansion.{expansion}
use Rattle.base_meaning.specs.Faults.{faults}
use Rattle.base_meaning.specs.Owner.{readings}
use Rattle.user_extension.specs.UserDefined.{Row, comes_before}
use Rattle.user_values.specs.Expansion.{UserMention, expansion as user_expansion}
use Rattle.user_values.specs.Limit.{name_count, name_limit}
use Rattle.user_compiling.specs.Entries.{AreStates, state_with}
use Rattle.user_compiling.specs.Faults.{ExtendedSourceFault, extended_faults, of_profile}
use Rattle.source_diagnostics.specs.declared.capabilities.Capabilities.{Capabilities}
use Rattle.source_diagnostics.specs.declared.capabilities.Capabilities.TheVariants.{Profile, UserDefined}

-- ---- the user-defined capabilities of mentions

-- those of other names
abbrev pub without_name : List ℕ → List Row → List Row
without_name name rows = filter (λ row. not (bytes_eq row.0 name)) rows

-- one more, in the order of kinds and names
abbrev pub with_row : Row → List Row → List Row
with_row row rows = filter (λ other. comes_before other row) rows ++ row ∷ filter (λ other. comes_before row other) rows

-- one more unless it is a cancel
abbrev pub with_content : List ℕ → Content → List Row → List Row
with_content name content_true rows = with_row (name, content_true) rows
with_content name (content_number n) rows = with_row (name, content_number n) rows
with_content name (content_text t) rows = with_row (name, content_text t) rows
with_content name content_cancelled rows = rows

-- what an entry has by mentions: of each name what the first of them gives it
abbrev pub rows_said : List UserMention → List Row
rows_said [] = []
rows_said (mention ∷ mentions) = with_content mention.0 mention.1 (without_name mention.0 (rows_said mentions))

-- ---- what becomes of the blocks of a source whose user-defined capabilities are kept

-- of a block that says this of the tables and of user-defined names, if it resolves
abbrev pub state_by : List ℕ → Option (List Mention) → Option (List UserMention) → EntryState
state_by text None user = unresolved
state_by text (Some mentions) None = unresolved
state_by text (Some mentions) (Some user) = state_with (reading_of_text text) mentions (rows_said user)

-- of a block of the list
abbrev pub state_in : List (List ℕ) → List ℕ → EntryState
state_in texts text = state_by text (expansion (readings texts) (reading_of_text text)) (user_expansion texts text)

-- of each block
abbrev pub states_in : List (List ℕ) → List EntryState
states_in texts = map (state_in texts) texts

-- ---- the faults

-- whether a source has no more user-defined names than it may
abbrev pub has_few_names : List (List ℕ) → Bool
has_few_names texts = nat_le (name_count texts (length texts)) name_limit

-- the faults of a source whose user-defined capabilities are kept; those of the profile if it has
-- too many user-defined names
abbrev pub user_faults : List (List ℕ) → List ExtendedSourceFault
user_faults texts = if has_few_names texts then extended_faults texts (states_in texts) else map of_profile (faults (readings texts))

-- the faults of a source
abbrev pub faults_by : Capabilities → List (List ℕ) → List ExtendedSourceFault
faults_by Profile texts = map of_profile (faults (readings texts))
faults_by UserDefined texts = user_faults texts

-- ---- law

-- what `tic -x` makes of the blocks of a source is this
abbrev pub StatesAreThose : Type 0
StatesAreThose = (texts : List (List ℕ)) (states : List EntryState) → AreStates texts states → states ≡ states_in texts
