-- The items of a kind on their lines, one after the other.
use Rattle.std.proofs.Common.{◌≡◌, ℕ, ◌+◌, ◌≤◌, List, [], ◌∷◌, ◌++◌, map, length, drop, slice_get, Option, Some, None, refl, sym, ◌∙◌, ap}
use Rattle.std.specs.List.{flat_map}
use Rattle.std.proofs.lemmas.List.{drop_all}
use Rattle.ti_caps.specs.Tables.{Capability, name_of}
use Rattle.ti_layout.specs.Values.{Content, content_true, content_number, content_text, content_cancelled, Contents}
use Rattle.ti_list.specs.declared.layout.Layout.{Layout}
use Rattle.ti_list.specs.inside.Contents.{said_for}
use Rattle.ti_list.specs.Items.{item_text}
use Rattle.ti_list.specs.Listing.{items_for}
use Rattle.ti_list.proofs.Steps.{items-some, items-none}
use Rattle.user_listing.specs.Items.{item_if_said, named_item}
use Rattle.user_listing.specs.inside.Lines.{flow}

-- an item of the tables is one of its name
pub item-named : (c : Capability) (x : Content) → item_text (said_for c x) ≡ named_item (name_of c) x
item-named c content_true = refl
item-named c (content_number n) = refl
item-named c (content_text t) = refl
item-named c content_cancelled = refl

-- after the last item nothing is still to come
pub flow-end : (layout : Layout) (line : Option ℕ) → flow layout line [] ≡ []
flow-end layout None = refl
flow-end layout (Some column) = refl

-- the items of the tables from a place of the order on
abbrev pub table_from : Contents → List Capability → ℕ → List (List ℕ)
table_from table caps place = map item_text (items_for table (drop place caps))

table-at : (table : Contents) (caps : List Capability) (place : ℕ) (c : Capability) (x : Content) → slice_get caps place ≡ Some c → table c ≡ Some x
    → table_from table caps place ≡ named_item (name_of c) x ∷ table_from table caps (place + 1)
table-at table caps place c x at some =
    ap (map item_text) (items-some table caps place c x at some) ∙ ap (λ (t : List ℕ). t ∷ table_from table caps (place + 1)) (item-named c x)

-- after the item of a capability was written, what is still to come is as it was
pub table-some : (layout : Layout) (line taken : Option ℕ) (before after all : List ℕ) (table : Contents) (caps : List Capability) (place : ℕ) (c : Capability)
    (x : Content) (later : List (List ℕ))
    → slice_get caps place ≡ Some c → table c ≡ Some x
    → ((items : List (List ℕ)) → after ++ flow layout taken items ≡ before ++ flow layout line (named_item (name_of c) x ∷ items))
    → before ++ flow layout line (table_from table caps place ++ later) ≡ all
    → after ++ flow layout taken (table_from table caps (place + 1) ++ later) ≡ all
table-some layout line taken before after all table caps place c x later at some writes invariant =
    writes (table_from table caps (place + 1) ++ later)
    ∙ ap (λ (items : List (List ℕ)). before ++ flow layout line (items ++ later)) (sym (table-at table caps place c x at some)) ∙ invariant

-- if a capability has no item, what is still to come is as it was
pub table-none : (layout : Layout) (line : Option ℕ) (before all : List ℕ) (table : Contents) (caps : List Capability) (place : ℕ) (c : Capability)
    (later : List (List ℕ))
    → slice_get caps place ≡ Some c → table c ≡ None
    → before ++ flow layout line (table_from table caps place ++ later) ≡ all
    → before ++ flow layout line (table_from table caps (place + 1) ++ later) ≡ all
table-none layout line before all table caps place c later at none invariant =
    ap (λ items. before ++ flow layout line (map item_text items ++ later)) (sym (items-none table caps place c at none)) ∙ invariant

-- after the last capability what is later is still to come
pub table-end : (layout : Layout) (line : Option ℕ) (before : List ℕ) (table : Contents) (caps : List Capability) (place : ℕ) (later : List (List ℕ))
    → length caps ≤ place
    → before ++ flow layout line later ≡ before ++ flow layout line (table_from table caps place ++ later)
table-end layout line before table caps place later past =
    ap (λ (cs : List Capability). before ++ flow layout line (map item_text (items_for table cs) ++ later)) (sym (drop_all place caps past))

-- the items of names of which this is said
abbrev pub said_items : (List ℕ → Option Content) → List (List ℕ) → List (List ℕ)
said_items say names = flat_map (λ (name : List ℕ). item_if_said name (say name)) names

-- after the item of a name was written, what is still to come is as it was
pub name-some : (layout : Layout) (line taken : Option ℕ) (before after all : List ℕ) (say : List ℕ → Option Content) (names names_then : List (List ℕ))
    (name : List ℕ) (x : Content)
    → names ≡ name ∷ names_then → say name ≡ Some x
    → ((items : List (List ℕ)) → after ++ flow layout taken items ≡ before ++ flow layout line (named_item name x ∷ items))
    → before ++ flow layout line (said_items say names) ≡ all
    → after ++ flow layout taken (said_items say names_then) ≡ all
name-some layout line taken before after all say names names_then name x at some writes invariant =
    let is : said_items say (name ∷ names_then) ≡ named_item name x ∷ said_items say names_then = rw some refl in
    writes (said_items say names_then) ∙ ap (λ items. before ++ flow layout line items) (sym (ap (said_items say) at ∙ is)) ∙ invariant

-- if nothing is said of a name, what is still to come is as it was
pub name-none : (layout : Layout) (line : Option ℕ) (before all : List ℕ) (say : List ℕ → Option Content) (names names_then : List (List ℕ)) (name : List ℕ)
    → names ≡ name ∷ names_then → say name ≡ None
    → before ++ flow layout line (said_items say names) ≡ all
    → before ++ flow layout line (said_items say names_then) ≡ all
name-none layout line before all say names names_then name at none invariant =
    let is : said_items say (name ∷ names_then) ≡ said_items say names_then = rw none refl in
    ap (λ items. before ++ flow layout line items) (sym (ap (said_items say) at ∙ is)) ∙ invariant
