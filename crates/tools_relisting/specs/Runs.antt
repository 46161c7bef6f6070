-- What a run of edits leaves that inserts listings one after the other (own).
use Rattle.std.specs.Prelude.{ℕ, suc, ◌≡◌, List, [], ◌∷◌, All, Some, slice_get}
use Rattle.ti_layout.specs.View.{Entry}
use Rattle.ti_list.specs.declared.layout.Layout.{Layout}
use Rattle.ti_list.specs.RelativeSource.{Listed, entries_of, with_others}
use Rattle.base_meaning.specs.Compiled.{compiled}
use Rattle.base_meaning.specs.Edits.{Change, EditRun, insertion}
use Rattle.base_meaning.specs.declared.edits.Outcome.{Outcome}
use Rattle.base_meaning.specs.declared.edits.Outcome.TheVariants.{Accepted}
use Rattle.tools_relisting.specs.Entries.{IsEntry, IsUsedEntry, ShownEntry, listings}
use Rattle.tools_relisting.specs.Relisting.{OwnTheirNames}

-- the insertions of these texts from that position on, each after those before it
abbrev pub insertions : ℕ → List (List ℕ) → List Change
insertions at [] = []
insertions at (text ∷ texts) = insertion at text ∷ insertions (suc at) texts

-- a run that begins with no blocks inserts these texts, each of which is accepted, and leaves this
-- list
abbrev pub IsMadeOf : List (List ℕ) → List (List ℕ) → Type 0
IsMadeOf texts last = (outcomes : List Outcome) × EditRun [] (insertions 0 texts) outcomes last × All (λ outcome. outcome ≡ Accepted) outcomes

-- The texts that such a run inserts are what it leaves.
abbrev pub RunsLeaveTheirTexts : Type 0
RunsLeaveTheirTexts = (texts last : List (List ℕ)) → IsMadeOf texts last → last ≡ texts

-- If the texts are the listings of compiled entries, each block that the run leaves compiles to its
-- entry, whatever names they share.
abbrev pub RelistingsByRun : Type 0
RelistingsByRun =
    (entries : List ShownEntry) (layout : Layout) (last : List (List ℕ)) → All (λ (entry : ShownEntry). IsEntry entry.0 entry.1) entries
    → IsMadeOf (listings entries layout) last
    → (i : ℕ) (entry : ShownEntry) → slice_get entries i ≡ Some entry → compiled last i ≡ Some entry.0

-- If the texts are the relative source of a compiled entry and the listings of the entries that it
-- uses, the first block that the run leaves compiles to the entry.
abbrev pub RelativeSourceByRun : Type 0
RelativeSourceByRun =
    (bytes : List ℕ) (shown : Entry) (layout : Layout) (listed : List Listed) (last : List (List ℕ)) → IsEntry bytes shown
    → All IsUsedEntry (entries_of listed) → OwnTheirNames shown layout listed → IsMadeOf (with_others shown layout listed) last
    → compiled last 0 ≡ Some bytes
