-- What is kept of a source.
use Rattle.std.specs.Prelude.{ℕ, ◌≡◌, ◌≤◌, List, Some, Contains, length, slice_get}
use Rattle.base_meaning.specs.Compiled.{EntryState}
use Rattle.base_meaning.specs.Dependents.{AreDependents}
use Rattle.base_meaning.specs.Edits.{Change, IsInPlace, list_after}
use Rattle.base_meaning.specs.Exchange.{exchange_of}
use Rattle.user_values.specs.Limit.{name_count, name_limit}
use Rattle.user_compiling.specs.Entries.{IsStateOf}
use Rattle.user_compiling.specs.Findings.{IsFindingBy}
use Rattle.user_compiling.specs.declared.finding.Finding.{Finding}
use Rattle.user_kept.specs.declared.kept.Kept.{Kept}

-- this is found out about a block of the source
pub record IsRightOf (texts : List (List ℕ)) (text : List ℕ) (finding : Finding) : Type 0 where
  pub state : EntryState
  pub becomes : IsStateOf texts text state
  pub by : IsFindingBy text state finding

-- this is found out about the block at each position but these
abbrev pub AreRightOff : List (List ℕ) → List ℕ → List Finding → Type 0
AreRightOff texts places findings =
    (at : ℕ) (text : List ℕ) (finding : Finding) → ¬ (Contains places at) → slice_get texts at ≡ Some text → slice_get findings at ≡ Some finding
    → IsRightOf texts text finding

-- this is found out about each block
pub record AreRight (texts : List (List ℕ)) (findings : List Finding) : Type 0 where
  pub as_many : length findings ≡ length texts
  pub each : (at : ℕ) (text : List ℕ) (finding : Finding) → slice_get texts at ≡ Some text → slice_get findings at ≡ Some finding → IsRightOf texts text finding

-- this is kept of a source
pub record IsKeptOf (texts : List (List ℕ)) (kept : Kept) : Type 0 where
  pub findings : AreRight texts kept.findings.items
  pub names : name_count texts (length texts) ≤ kept.names
  pub few : kept.names ≤ name_limit

-- this was kept before an edit, which led to that source and made those blocks anew
pub record IsKeptBefore (next : List (List ℕ)) (edit : List ℕ → Change) (rebuilt : List ℕ) (kept : Kept) : Type 0 where
  pub texts : List (List ℕ)
  pub text : List ℕ
  pub kept_of : IsKeptOf texts kept
  pub in_place : IsInPlace texts (edit text)
  pub next_is : next ≡ list_after texts (edit text)
  pub dependents : AreDependents (exchange_of texts (edit text)) rebuilt
