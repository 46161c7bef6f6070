-- The source of an installed entry (infocmp(1)): its listing, with its user-defined capabilities if
-- they are kept, and with a names field that a source can have. By the laws of `tools_relisting` and
-- `user_relisting` it is read as what the entry has.
use Rattle.std.specs.Prelude.{◌≡◌, ℕ, ◌==◌, ◌&&◌, nat_le, not, Bool, true, false, if◌then◌else◌, List, [], ◌∷◌, length, Option, Result, Ok, Err}
use Rattle.std.specs.List.{list_any}
use Rattle.ti_text.specs.Ascii as ascii
use Rattle.ti_text.specs.Limits.{names_max}
use Rattle.base_meaning.specs.Owner.{is_among}
use Rattle.ti_layout.specs.View.{names_of, view_contents}
use Rattle.ti_layout.specs.declared.view.View.{View}
use Rattle.ti_list.specs.Listing.{listing}
use Rattle.ti_list.specs.declared.layout.Layout.{Layout}
use Rattle.ti_list.specs.declared.layout.Order.TheVariants as order
use Rattle.ti_source.specs.Header.{ReadsNames}
use Rattle.ti_source.specs.Judging.{names_found}
use Rattle.tools_devices.specs.Searching.{file_bytes_max}
use Rattle.tools_directories.specs.Reading.{Opens}
use Rattle.user_extension.specs.View.{read_rows}
use Rattle.user_extension.specs.declared.view.Extension.{Extension}
use Rattle.user_listing.specs.Listing.{extended_listing}
use Rattle.everyday_sources.specs.declared.problem.Cause.{Cause}
use Rattle.everyday_sources.specs.declared.problem.Cause.TheVariants as cause

-- whether a name is among the lookup names of a names field
abbrev pub HasName : List ℕ → List ℕ → Bool → Type 0
HasName field name has = (names : Option (List (List ℕ))) × ReadsNames field names × (has ≡ is_among name (names_found names))

-- whether a text begins a comment
abbrev pub begins_comment : List ℕ → Bool
begins_comment [] = false
begins_comment (first ∷ others) = first == ascii.number_sign

-- whether a byte is in a text
abbrev pub has_byte : ℕ → List ℕ → Bool
has_byte byte text = list_any (λ other. other == byte) text

-- whether the names field of an entry can be that of a block: it is within the limit, no comma and no
-- newline ends it, and it begins no comment
abbrev pub can_begin_block : List ℕ → Bool
can_begin_block field =
    nat_le (length field) names_max && not (has_byte ascii.comma field) && not (has_byte ascii.newline field) && not (begins_comment field)

-- the names field of the block of an entry that was found by a name: its own, or else that name alone
abbrev pub block_names : (field name : List ℕ) → List ℕ
block_names field name = if can_begin_block field then field else name

-- the layout of the listing
abbrev pub layout : Layout
layout = record { width = 60; one_per_line = false; order = order.Table }

-- the listing of an entry with a names field
abbrev pub listing_of : Bool → List ℕ → View → Extension → List ℕ
listing_of false field view extension = listing field (view_contents view) layout
listing_of true field view extension =
    extended_listing (record { entry = record { names = field; contents = view_contents view }; rows = read_rows extension }) layout

-- what the bytes of a file give that was found by a name: the listing of the entry that they are, with
-- the names field of its block, if it has the name; or why it is not taken
abbrev pub Gives : Bool → List ℕ → List ℕ → Result (List ℕ) Cause → Type 0
Gives user_defined bytes name (Ok text) =
    (view : View) × (extension : Extension) × Opens file_bytes_max bytes (Ok (view, extension)) × HasName (names_of view) name true
    × (text ≡ listing_of user_defined (block_names (names_of view) name) view extension)
Gives user_defined bytes name (Err (cause.BadEntry error)) = Opens file_bytes_max bytes (Err error)
Gives user_defined bytes name (Err cause.OtherNames) =
    (view : View) × (extension : Extension) × Opens file_bytes_max bytes (Ok (view, extension)) × HasName (names_of view) name false
Gives user_defined bytes name (Err cause.NoRoom) = ⊥
