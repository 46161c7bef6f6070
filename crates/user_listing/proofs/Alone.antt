-- The source of an entry that uses no others is its listing.
use Rattle.std.proofs.Common.{◌≡◌, ℕ, List, [], ◌∷◌, ◌++◌, map, Option, Some, None, refl, ◌∙◌, ap, append-nil}
use Rattle.std.specs.List.{flat_map}
use Rattle.ti_caps.specs.Tables.{Capability}
use Rattle.ti_caps.specs.declared.capability.Kind.{Kind}
use Rattle.ti_caps.specs.declared.capability.Kind.TheVariants.{Flag, Number, Text}
use Rattle.ti_layout.specs.Values.{Content, Contents}
use Rattle.ti_list.specs.declared.layout.Layout.{Layout}
use Rattle.ti_list.specs.Items.{item_text}
use Rattle.ti_list.specs.Listing.{in_order, items_for}
use Rattle.ti_list.specs.RelativeSource.{difference, differing_contents}
use Rattle.user_extension.specs.Reading.{ReadRow, said}
use Rattle.user_listing.specs.Entries.{Extended}
use Rattle.user_listing.specs.Names.{names_of_kind, of_kind}
use Rattle.user_listing.specs.Items.{item_if_said, kind_lines, table_items}
use Rattle.user_listing.specs.Listing.{extended_listing, listed_kind}
use Rattle.user_listing.specs.RelativeSource.{differing_items, differing_kind, extended_relative, user_difference}

alone : (own : Option Content) → difference own None ≡ own
alone None = refl
alone (Some x) = refl

items-alone : (table : Contents) (caps : List Capability) → items_for (differing_contents table []) caps ≡ items_for table caps
items-alone table [] = refl
items-alone table (c ∷ cs) = rw (alone (table c), items-alone table cs) refl

said-alone : (kind : Kind) (own : Option Content) → user_difference kind own None ≡ of_kind kind own
said-alone kind None = refl
said-alone kind (Some x) = refl

names-alone : (kind : Kind) (rows : List ReadRow) (names : List (List ℕ))
    → flat_map (λ (name : List ℕ). item_if_said name (user_difference kind (said rows name) None)) names ≡ flat_map (λ (name : List ℕ). item_if_said name
    (of_kind kind (said rows name))) names
names-alone kind rows [] = refl
names-alone kind rows (name ∷ names) = rw (said-alone kind (said rows name), names-alone kind rows names) refl

kind-alone : (layout : Layout) (entry : Extended) (kind : Kind) → differing_kind layout entry [] kind ≡ listed_kind layout entry kind
kind-alone layout entry kind =
    ap (λ (items : List (List ℕ)). kind_lines layout (items ++ differing_items kind entry []))
    (ap (map item_text) (items-alone entry.entry.contents (in_order layout.order kind)))
    ∙ ap (λ (items : List (List ℕ)). kind_lines layout (table_items layout entry.entry.contents kind ++ items))
    (names-alone kind entry.rows (names_of_kind kind entry.rows))

pub relative-alone : (entry : Extended) (layout : Layout) → extended_relative entry [] layout ≡ extended_listing entry layout
relative-alone entry layout =
    rw (kind-alone layout entry Flag, kind-alone layout entry Number, kind-alone layout entry Text) (ap (λ (t : List ℕ). t ++ 10 ∷ []) (append-nil _))
