-- What the laws say of small entries, and why the blocks of the sources have to be blocks by
-- themselves.
use Rattle.std.proofs.Common.{◌≡◌, ℕ, false, List, [], ◌∷◌, Some, None, refl}
use Rattle.std.specs.Prelude.{codes}
use Rattle.std.specs.Fmt.{digits}
use Rattle.ti_caps.specs.Names.{flag_names, number_names, text_names}
use Rattle.ti_caps.specs.declared.capability.Kind.TheVariants.{Flag, Number}
use Rattle.ti_caps.specs.Tables.{capability, names, capability_named}
use Rattle.ti_source.specs.Parsing.{reading_of_text}
use Rattle.ti_layout.specs.Values.{content_true, content_number, Contents, contents}
use Rattle.ti_layout.specs.Layout.{number_section}
use Rattle.ti_layout.specs.Image.{image, image_in, last_passing, some_below, below, texts_below}
use Rattle.base_meaning.specs.Compiled.{compiled}
use Rattle.ti_list.specs.declared.layout.Layout.{Layout}
use Rattle.ti_list.specs.declared.layout.Order.TheVariants as order
use Rattle.ti_list.specs.Listing.{in_order, listing}
use Rattle.ti_layout.specs.View.{Entry}
use Rattle.ti_list.specs.RelativeSource.{first_name, with_others}
use Rattle.base_meaning.specs.Owner.{owner, readings}

abbrev layout : Layout
layout = record { width = 60; one_per_line = false; order = order.Table }

abbrev nothing : Contents
nothing c = None

-- a text whose names field begins with a `#`, after a line break: no head line begins it, so it is
-- no block of a source
abbrev hidden : List ℕ
hidden = codes "\n #x,\n"

hidden-compiles : compiled (hidden ∷ []) 0 ≡ Some (image (codes "#x") nothing)
unfolding reading_of_text capability_named names flag_names number_names text_names last_passing some_below below texts_below number_section image image_in
    contents
hidden-compiles = refl

-- the listing of such a text is a comment, and has no entry
hidden-lost : compiled (listing (codes "#x") nothing layout ∷ []) 0 ≡ None
unfolding reading_of_text in_order
hidden-lost = refl

-- an entry whose first name ends in a backslash, which takes the comma after a use of it
abbrev slashed : Entry
slashed = record { names = codes "a\\"; contents = nothing }

abbrev plain : Entry
plain = record { names = codes "b"; contents = nothing }

slashed-owns : owner (readings (with_others plain layout ((slashed, layout) ∷ []))) (first_name slashed.names) ≡ Some 1
unfolding reading_of_text in_order
slashed-owns = refl

-- a relative source that uses the entry does not resolve
slashed-lost : compiled (with_others plain layout ((slashed, layout) ∷ [])) 0 ≡ None
unfolding reading_of_text in_order
slashed-lost = refl

-- a number over 32,767 is listed and comes back
abbrev wide : Contents
wide = contents ((capability Flag 1, content_true) ∷ (capability Number 0, content_number 65536) ∷ (capability Number 2, content_number 24) ∷ [])

wide-listed : listing (codes "x") wide layout ≡ codes "x,\n\tam,\n\tcols#65536, lines#24,\n"
unfolding names flag_names number_names digits in_order contents
wide-listed = refl

wide-back : compiled (codes "x,am,cols#65536,lines#24,\n" ∷ []) 0 ≡ Some (image (codes "x") wide)
unfolding reading_of_text capability_named names flag_names number_names text_names last_passing some_below below texts_below number_section image image_in
    contents
wide-back = refl
