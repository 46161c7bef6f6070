-- What ties the listings with user-defined capabilities to those without (own).
use Rattle.std.specs.Prelude.{◌≡◌, ℕ, List, All}
use Rattle.std.specs.List.Sorted.{IsStrictlySortedBy}
use Rattle.std.specs.Ordering.{nat_cmp}
use Rattle.std.specs.Cmp.Lexicographic.{slice_cmp}
use Rattle.ti_caps.specs.declared.capability.Kind.{Kind}
use Rattle.ti_list.specs.declared.layout.Layout.{Layout}
use Rattle.ti_list.specs.declared.layout.Order.{Order}
use Rattle.ti_list.specs.declared.layout.Mode.{Mode}
use Rattle.ti_list.specs.Listing.{listing}
use Rattle.ti_list.specs.RelativeSource.{relative}
use Rattle.ti_list.specs.Comparison.{comparison}
use Rattle.user_extension.specs.UserDefined.{AreUserDefined, Row}
use Rattle.user_extension.specs.Laws.{as_read}
use Rattle.user_listing.specs.Entries.{Extended, entries_in}
use Rattle.user_listing.specs.Names.{names_of_both, names_of_kind}
use Rattle.user_listing.specs.Listing.{HasNoUserDefined, extended_listing}
use Rattle.user_listing.specs.RelativeSource.{extended_relative}
use Rattle.user_listing.specs.Comparison.{extended_comparison}

-- an entry without user-defined values is listed as if there were none
abbrev pub ListingsAreThoseOfTheProfile : Type 0
ListingsAreThoseOfTheProfile =
    (entry : Extended) (layout : Layout) → HasNoUserDefined entry → extended_listing entry layout ≡ listing entry.entry.names entry.entry.contents layout

-- so is its relative source, if the others have none either
abbrev pub RelativesAreThoseOfTheProfile : Type 0
RelativesAreThoseOfTheProfile =
    (entry : Extended) (others : List Extended) (layout : Layout) → HasNoUserDefined entry → All HasNoUserDefined others
    → extended_relative entry others layout ≡ relative entry.entry (entries_in others) layout

-- and so is a comparison of two such entries
abbrev pub ComparisonsAreThoseOfTheProfile : Type 0
ComparisonsAreThoseOfTheProfile =
    (one other : Extended) (mode : Mode) (order : Order) → HasNoUserDefined one → HasNoUserDefined other
    → extended_comparison one other mode order ≡ comparison one.entry other.entry mode order

-- the names of a kind that an entry of `-x` has rise, byte by byte
abbrev pub NamesOfEntriesRise : Type 0
NamesOfEntriesRise = (rows : List Row) (kind : Kind) → AreUserDefined rows → IsStrictlySortedBy (slice_cmp nat_cmp) (names_of_kind kind (as_read rows))

-- names of two lists that rise, rise together
abbrev pub NamesOfBothRise : Type 0
NamesOfBothRise =
    (one other : List (List ℕ)) → IsStrictlySortedBy (slice_cmp nat_cmp) one → IsStrictlySortedBy (slice_cmp nat_cmp) other
    → IsStrictlySortedBy (slice_cmp nat_cmp) (names_of_both one other)
