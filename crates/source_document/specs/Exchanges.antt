-- How the blocks of one text are made those of another by edits (own).
use Rattle.std.specs.Prelude.{ℕ, suc, zero, ◌≡◌, ◌≢◌, ◌+◌, ◌-◌, ◌≤◌, ◌<◌, List, insert, length, max, remove, slice_get, slice_set}
use Rattle.base_meaning.specs.Edits.{Change, EditStep}
use Rattle.base_meaning.specs.declared.edits.Outcome.TheVariants.{Accepted}

-- the most blocks that are exchanged one by one; of more the database is loaded anew
abbrev pub edits_max : ℕ
edits_max = 64

-- so many blocks at the front are the same, and no more
pub record AtFront (old new : List (List ℕ)) (front : ℕ) : Type 0 where
  pub held : front ≤ length old
  pub there : front ≤ length new
  pub same : (at : ℕ) → at < front → slice_get old at ≡ slice_get new at
  pub most : front < length old → front < length new → slice_get old front ≢ slice_get new front

-- so many blocks at the end are the same, after those at the front, and no more
pub record AtBack (old new : List (List ℕ)) (front back : ℕ) : Type 0 where
  pub held : front + back ≤ length old
  pub there : front + back ≤ length new
  pub same : (at : ℕ) → at < back → slice_get old (length old - 1 - at) ≡ slice_get new (length new - 1 - at)
  pub most : front + back < length old → front + back < length new → slice_get old (length old - 1 - back) ≢ slice_get new (length new - 1 - back)

-- so many accepted edits lead from one list of blocks to the other
abbrev pub EditsLead : ℕ → List (List ℕ) → List (List ℕ) → Type 0
EditsLead zero old new = new ≡ old
EditsLead (suc n) old new = (change : Change) × (before : List (List ℕ)) × EditsLead n old before × EditStep before change Accepted new

-- the blocks between what both lists have in common, in the longer of them, are exchanged by an
-- edit each; if they are too many, the list is loaded anew
pub record Exchanged (old new : List (List ℕ)) (edits : ℕ) : Type 0 where
  pub front : ℕ
  pub back : ℕ
  pub at_front : AtFront old new front
  pub at_back : AtBack old new front back
  pub few : max (length old) (length new) - front - back ≤ edits_max → (edits ≡ max (length old) (length new) - front - back) × EditsLead edits old new
  pub many : edits_max < max (length old) (length new) - front - back → edits ≡ 0

-- ---- a small change takes few edits

-- the same blocks take none
abbrev pub SameBlocksTakeNoEdit : Type 0
SameBlocksTakeNoEdit = (blocks : List (List ℕ)) (edits : ℕ) → Exchanged blocks blocks edits → edits ≡ 0

-- one block that is changed takes at most one edit, which leads there
abbrev pub OneChangedIsOneEdit : Type 0
OneChangedIsOneEdit = (old : List (List ℕ)) (at : ℕ) (text : List ℕ) (edits : ℕ) → Exchanged old (slice_set old at text) edits
    → (edits ≤ 1) × EditsLead edits old (slice_set old at text)

-- one block that is put in takes one edit, which leads there
abbrev pub OneInsertedIsOneEdit : Type 0
OneInsertedIsOneEdit = (old : List (List ℕ)) (at : ℕ) (text : List ℕ) (edits : ℕ) → at ≤ length old → Exchanged old (insert old at text) edits
    → (edits ≡ 1) × EditsLead edits old (insert old at text)

-- one block that is taken out takes one edit, which leads there
abbrev pub OneRemovedIsOneEdit : Type 0
OneRemovedIsOneEdit = (old : List (List ℕ)) (at : ℕ) (edits : ℕ) → at < length old → Exchanged old (remove old at) edits
    → (edits ≡ 1) × EditsLead edits old (remove old at)
