-- Laws of a source with installed entries after it, and of what comes of it (tic(1)).
use Rattle.std.specs.Prelude.{◌≡◌, ◌<◌, ℕ, List, ◌++◌, length, Some}
use Rattle.base_meaning.specs.Owner.{readings}
use Rattle.base_meaning.specs.OwnNames.{own_names}
use Rattle.tools_devices.specs.Tree.{Files}
use Rattle.tools_sources.specs.EntryFiles.{names_at}
use Rattle.everyday_tic.specs.Outcomes.{Asked, Comes, made_of}
use Rattle.everyday_tic.specs.declared.options.TicOutcome.{TicOutcome}

-- A block of a source has files by the same names with further blocks after the source as without
-- them: an installed entry takes no name from it.
abbrev pub OwnNamesAreWritten : Type 0
OwnNamesAreWritten =
    (texts others : List (List ℕ)) (at : ℕ) → at < length texts
    → (names_at (texts ++ others) at ≡ names_at texts at)
    × (own_names (readings (texts ++ others)) at (names_at texts at) ≡ own_names (readings texts) at (names_at texts at))

-- Of a source, with a request, directories and files that are known and with no read that failed, only
-- one outcome comes: the same files, the same text for standard error, and the same status.
abbrev pub OutcomesAreDetermined : Type 0
OutcomesAreDetermined =
    (asked : Asked) (files : Files) (directories : List (List ℕ)) (file source : List ℕ) (before since : ℕ) (one other : TicOutcome)
    → Comes asked (Some files) directories file source before before one → Comes asked (Some files) directories file source since since other
    → made_of one ≡ made_of other
