-- One capability of a kind after the other.
use Rattle.std.proofs.Common.{◌≡◌, ℕ, ◌+◌, ◌<◌, List, [], ◌∷◌, ◌++◌, length, drop, get_or, slice_get, Option, Some, None, refl, sym, ◌∙◌, ap, add-one}
use Rattle.std.proofs.Math.Seq.{drop-cons}
use Rattle.std.proofs.lemmas.Option.{slice_get_within, get_or_from_slice_get}
use Rattle.ti_caps.specs.Tables.{Capability}
use Rattle.ti_source.specs.Reading.{Said}
use Rattle.ti_layout.specs.Values.{Content, content_true, content_number, content_text, content_cancelled, Contents}
use Rattle.ti_list.specs.inside.Contents.{said_for}
use Rattle.ti_list.specs.declared.layout.Layout.{Layout}
use Rattle.ti_list.specs.inside.Listing.{flow, further_before}
use Rattle.ti_list.specs.Listing.{item_for, items_for}

-- what is at a place, and then what follows it
pub drop_at : {X : Type 0} → (xs : List X) (place : ℕ) (x : X) → slice_get xs place ≡ Some x → drop place xs ≡ x ∷ drop (place + 1) xs
drop_at xs place x at =
    let within : place < length xs = slice_get_within xs place x at in
    let is : get_or xs place x ≡ x = get_or_from_slice_get xs place x x at in
    rw (add-one, ← is) (drop-cons xs place x within)

-- the one item of a capability that has something
item_for-some : (c : Capability) (x : Content) (items : List Said) → item_for c (Some x) ++ items ≡ said_for c x ∷ items
item_for-some c content_true items = refl
item_for-some c (content_number n) items = refl
item_for-some c (content_text t) items = refl
item_for-some c content_cancelled items = refl

pub items-none : (table : Contents) (caps : List Capability) (place : ℕ) (c : Capability) → slice_get caps place ≡ Some c → table c ≡ None
    → items_for table (drop place caps) ≡ items_for table (drop (place + 1) caps)
items-none table caps place c at none = rw (drop_at caps place c at, none) refl

pub items-some : (table : Contents) (caps : List Capability) (place : ℕ) (c : Capability) (x : Content) → slice_get caps place ≡ Some c → table c ≡ Some x
    → items_for table (drop place caps) ≡ said_for c x ∷ items_for table (drop (place + 1) caps)
items-some table caps place c x at some = rw (drop_at caps place c at, some) (item_for-some c x _)

-- after the item of a capability was written, what is still to come is as it was
pub flow-some : (layout : Layout) (line : Option ℕ) (column : ℕ) (before after all : List ℕ) (table : Contents) (caps : List Capability) (place : ℕ)
    (c : Capability) (x : Content) (rest : List ℕ)
    → slice_get caps place ≡ Some c → table c ≡ Some x
    → ((items : List Said) (end : List ℕ) → after ++ further_before layout column items end ≡ before ++ flow layout line (said_for c x ∷ items) end)
    → before ++ flow layout line (items_for table (drop place caps)) rest ≡ all
    → after ++ flow layout (Some column) (items_for table (drop (place + 1) caps)) rest ≡ all
flow-some layout line column before after all table caps place c x rest at some writes invariant =
    writes (items_for table (drop (place + 1) caps)) rest ∙ ap (λ (items : List Said). before ++ flow layout line items rest)
    (sym (items-some table caps place c x at some)) ∙ invariant

-- if a capability has no item, what is still to come is as it was
pub flow-none : (layout : Layout) (line : Option ℕ) (before all : List ℕ) (table : Contents) (caps : List Capability) (place : ℕ) (c : Capability)
    (rest : List ℕ)
    → slice_get caps place ≡ Some c → table c ≡ None
    → before ++ flow layout line (items_for table (drop place caps)) rest ≡ all
    → before ++ flow layout line (items_for table (drop (place + 1) caps)) rest ≡ all
flow-none layout line before all table caps place c rest at none invariant =
    ap (λ (items : List Said). before ++ flow layout line items rest) (sym (items-none table caps place c at none)) ∙ invariant

-- after the last capability nothing is still to come
pub flow-end : (layout : Layout) (line : Option ℕ) (rest : List ℕ) → flow layout line [] rest ≡ rest
flow-end layout None rest = refl
flow-end layout (Some column) rest = refl
