-- Compiled entries of sources as they are shown, and that their listings compile back to them
-- (own).
use Rattle.ti_text.specs.Ascii as ascii
use Rattle.std.specs.Prelude.{◌≡◌, ◌≢◌, ℕ, List, All, Some, map, [], ◌∷◌, slice_get}
use Rattle.ti_spelling.specs.Spelling.{AreBytes}
use Rattle.ti_source.specs.Cutting.{last_byte, Cut, OneBlock}
use Rattle.ti_layout.specs.Reading.{Reads}
use Rattle.base_meaning.specs.Compiled.{compiled}
use Rattle.ti_layout.specs.View.{Entry}
use Rattle.ti_list.specs.RelativeSource.{Listed, entries_of, first_name, with_others}
use Rattle.tools_relisting.specs.Relisting.{OwnTheirNames}
use Rattle.std.specs.List.{concat}
use Rattle.ti_list.specs.declared.layout.Layout.{Layout}
use Rattle.ti_list.specs.Listing.{listing}

-- the bytes are the compiled entry of a block of some source, whose blocks are bytes and are blocks
-- by themselves; they are read as this names field and these contents
pub record IsEntry (entry : List ℕ) (shown : Entry) : Type 0 where
  pub texts : List (List ℕ)
  pub at : ℕ
  pub blocks : All OneBlock texts
  pub of_bytes : All AreBytes texts
  pub is : compiled texts at ≡ Some entry
  pub reads : Reads entry shown.names shown.contents

-- a compiled entry that others can use: no backslash is in its first name
pub record IsUsedEntry (shown : Entry) : Type 0 where
  pub bytes : List ℕ
  pub entry : IsEntry bytes shown
  pub bare : All (λ byte. byte ≢ ascii.backslash) (first_name shown.names)

-- Each entry of a source is a compiled entry as above: a source is bytes, and is empty or ends with
-- a newline.
abbrev pub EntriesOfSources : Type 0
EntriesOfSources =
    (source preface : List ℕ) (texts : List (List ℕ)) (at : ℕ) (entry : List ℕ) (shown : Entry) → AreBytes source
    → last_byte ascii.newline source ≡ ascii.newline → Cut source preface texts
    → compiled texts at ≡ Some entry → Reads entry shown.names shown.contents → IsEntry entry shown

-- the source has these texts for its blocks and nothing before them, and each of them is a block by
-- itself
pub record IsSourceOf (source : List ℕ) (texts : List (List ℕ)) : Type 0 where
  pub cut : Cut source [] texts
  pub single : All OneBlock texts

-- The listing of a compiled entry, in any layout, is a source of one block, which compiles to the
-- entry, byte for byte.
abbrev pub Relisting : Type 0
Relisting =
    (bytes : List ℕ) (shown : Entry) (layout : Layout) → IsEntry bytes shown
    → IsSourceOf (listing shown.names shown.contents layout) (listing shown.names shown.contents layout ∷ [])
    × (compiled (listing shown.names shown.contents layout ∷ []) 0 ≡ Some bytes)

-- an entry, and what it is shown as
abbrev pub ShownEntry : Type 0
ShownEntry = List ℕ × Entry

-- the listings of entries, one after the other
abbrev pub listings : List ShownEntry → Layout → List (List ℕ)
listings entries layout = map (λ (entry : ShownEntry). listing entry.1.names entry.1.contents layout) entries

-- The listings of compiled entries, one after the other, are a source of as many blocks, each of
-- which compiles to its entry, whatever names they share.
abbrev pub Relistings : Type 0
Relistings =
    (entries : List ShownEntry) (layout : Layout) → All (λ (entry : ShownEntry). IsEntry entry.0 entry.1) entries
    → IsSourceOf (concat (listings entries layout)) (listings entries layout)
    × ((i : ℕ) (entry : ShownEntry) → slice_get entries i ≡ Some entry → compiled (listings entries layout) i ≡ Some entry.0)

-- The relative source of a compiled entry, with the listings of the entries that it uses after it,
-- each in any layout, is a source of these blocks, of which the first compiles to the entry, byte
-- for byte.
abbrev pub RelativeSource : Type 0
RelativeSource =
    (bytes : List ℕ) (shown : Entry) (layout : Layout) (listed : List Listed)
    → IsEntry bytes shown → All IsUsedEntry (entries_of listed) → OwnTheirNames shown layout listed
    → IsSourceOf (concat (with_others shown layout listed)) (with_others shown layout listed) × (compiled (with_others shown layout listed) 0 ≡ Some bytes)
