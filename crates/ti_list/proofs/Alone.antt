-- The source of an entry that uses no others is its listing.
use Rattle.std.proofs.Common.{◌≡◌, List, [], ◌∷◌, Option, Some, None, refl}
use Rattle.std.proofs.lemmas.List.{append-nil}
use Rattle.ti_caps.specs.Tables.{Capability}
use Rattle.ti_layout.specs.Values.{Content, Contents}
use Rattle.ti_list.specs.declared.layout.Layout.{Layout}
use Rattle.ti_list.specs.Listing.{items_for, listing}
use Rattle.ti_layout.specs.View.{Entry}
use Rattle.ti_list.specs.RelativeSource.{difference, differing_contents, relative}

alone : (own : Option Content) → difference own None ≡ own
alone None = refl
alone (Some x) = refl

items-alone : (table : Contents) (caps : List Capability) → items_for (differing_contents table []) caps ≡ items_for table caps
items-alone table [] = refl
items-alone table (c ∷ cs) = rw (alone (table c), items-alone table cs) refl

pub relative-alone : (entry : Entry) (layout : Layout) → relative entry [] layout ≡ listing entry.names entry.contents layout
relative-alone entry layout = simp (items-alone entry.contents, append-nil)
