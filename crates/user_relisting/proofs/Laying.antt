-- How items stand on lines, and the items of the tables among them.
use Rattle.std.proofs.Common.{◌≡◌, ℕ, ◌+◌, ◌||◌, nat_lt, true, false, List, [], ◌∷◌, ◌++◌, map, cond, Option, Some, None, refl, ap, sym, ◌∙◌, subst}
use Rattle.std.proofs.Common.{append_assoc}
use Rattle.std.specs.List.{All, AllByRecursion, filter_map}
use Rattle.std.proofs.lemmas.List.{map-append}
use Rattle.std.proofs.lemmas.List.Elements.{All-nil, All-cons, All-append, recursion_from_All}
use Rattle.ti_caps.specs.NameOrder.{EachKindIsInOrder}
use Rattle.ti_caps.specs.Tables.{Capability, IsCapability}
use Rattle.ti_caps.specs.declared.capability.Kind.TheVariants.{Flag, Number, Text}
use Rattle.ti_source.specs.Reading.{Said, said_flag, said_number, said_text, said_cancel}
use Rattle.ti_layout.specs.Values.{Content, content_true, content_number, content_text, content_cancelled, Contents}
use Rattle.ti_list.specs.declared.layout.Layout.{Layout}
use Rattle.ti_list.specs.Items as tables
use Rattle.ti_list.specs.Listing.{item_for, items_for, in_order}
use Rattle.tools_relisting.specs.Relisting.{CanHave, CanHaveAll}
use Rattle.tools_relisting.proofs.Orders.{all_in, all_in-all}
use Rattle.user_listing.specs.Items.{columns_of, further_lines, kind_lines}
use Rattle.user_relisting.specs.Items.{Item, of_tables, item_text, user_said, IsTail, same_line, new_line, IsSource, CanBeWritten}

-- ---- the layout

item-then : (item : Item) (later rest : List ℕ) → item_text item ++ 44 ∷ (later ++ rest) ≡ (item_text item ++ 44 ∷ later) ++ rest
item-then item later rest = sym (append_assoc (item_text item) (44 ∷ later) rest)

further-tail : (layout : Layout) (column : ℕ) (items more : List Item) (rest : List ℕ) → IsTail more rest
    → IsTail (items ++ more) (further_lines layout column (map item_text items) ++ rest)
further-tail layout column [] more rest laid = laid
further-tail layout column (item ∷ items) more rest laid =
    let size : ℕ = columns_of (item_text item) in
    let below = further_lines layout (8 + size) (map item_text items) in
    let beside = further_lines layout (column + 1 + size) (map item_text items) in
    let broken = new_line item (items ++ more) (below ++ rest) (further-tail layout (8 + size) items more rest laid) in
    let same = same_line item (items ++ more) (beside ++ rest) (further-tail layout (column + 1 + size) items more rest laid) in
    elim (layout.one_per_line || nat_lt layout.width (column + 1 + size))
    as (λ b. IsTail (item ∷ (items ++ more)) (cond b (10 ∷ 9 ∷ item_text item ++ 44 ∷ below) (32 ∷ item_text item ++ 44 ∷ beside) ++ rest)) [
      | true ↦ subst (λ t. IsTail (item ∷ (items ++ more)) (10 ∷ 9 ∷ t)) (item-then item below rest) broken
      | false ↦ subst (λ t. IsTail (item ∷ (items ++ more)) (32 ∷ t)) (item-then item beside rest) same
    ]

pub lines-tail : (layout : Layout) (items more : List Item) (rest : List ℕ) → IsTail more rest
    → IsTail (items ++ more) (kind_lines layout (map item_text items) ++ rest)
lines-tail layout [] more rest laid = laid
lines-tail layout (item ∷ items) more rest laid =
    let below = further_lines layout (8 + columns_of (item_text item)) (map item_text items) in
    subst (λ t. IsTail (item ∷ (items ++ more)) (10 ∷ 9 ∷ t)) (item-then item below rest)
    (new_line item (items ++ more) (below ++ rest) (further-tail layout (8 + columns_of (item_text item)) items more rest laid))

-- items of three kinds in turn, with the names field before them and others after them
pub three-kinds : (layout : Layout) (field : List ℕ) (one two three more : List Item) (rest : List ℕ) → IsTail more rest
    → IsSource field (one ++ (two ++ (three ++ more)))
    (field ++ 44 ∷ kind_lines layout (map item_text one) ++ kind_lines layout (map item_text two) ++ kind_lines layout (map item_text three) ++ rest)
three-kinds layout field one two three more rest laid =
    let first = kind_lines layout (map item_text one) in
    let second = kind_lines layout (map item_text two) in
    let third = kind_lines layout (map item_text three) in
    record {
      tail = first ++ (second ++ (third ++ rest));
      whole = append_assoc ((field ++ 44 ∷ first) ++ second) third rest ∙ append_assoc (field ++ 44 ∷ first) second (third ++ rest)
          ∙ append_assoc field (44 ∷ first) (second ++ (third ++ rest));
      is_tail = lines-tail layout one (two ++ (three ++ more)) (second ++ (third ++ rest))
          (lines-tail layout two (three ++ more) (third ++ rest) (lines-tail layout three more rest laid));
    }

pub left-part : {X : Type 0} (P : X → Type 0) (xs ys : List X) → AllByRecursion P (xs ++ ys) → AllByRecursion P xs
left-part P [] ys all = tt
left-part P (x ∷ xs) ys all = (all.0, left-part P xs ys all.1)

pub right-part : {X : Type 0} (P : X → Type 0) (xs ys : List X) → AllByRecursion P (xs ++ ys) → AllByRecursion P ys
right-part P [] ys all = all
right-part P (x ∷ xs) ys all = right-part P xs ys all.1

-- ---- the items of the tables

table-can : (c : Capability) (o : Option Content) → IsCapability c → CanHave c o → All CanBeWritten (map of_tables (item_for c o))
table-can c None is has = All-nil CanBeWritten
table-can c (Some content_true) is has = All-cons CanBeWritten (of_tables (said_flag c)) [] (is, has) (All-nil CanBeWritten)
table-can c (Some (content_number n)) is has = All-cons CanBeWritten (of_tables (said_number c n)) [] (is, has.0, has.1) (All-nil CanBeWritten)
table-can c (Some (content_text t)) is has = All-cons CanBeWritten (of_tables (said_text c t)) [] (is, has.0.0, has.1, has.0.1) (All-nil CanBeWritten)
table-can c (Some content_cancelled) is has = All-cons CanBeWritten (of_tables (said_cancel c)) [] is (All-nil CanBeWritten)

pub tables-can : (table : Contents) (cs : List Capability) → AllByRecursion IsCapability cs → CanHaveAll table
    → All CanBeWritten (map of_tables (items_for table cs))
tables-can table [] valid has = All-nil CanBeWritten
tables-can table (c ∷ cs) valid has =
    subst (All CanBeWritten) (sym (map-append of_tables (item_for c (table c)) (items_for table cs)))
    (All-append CanBeWritten (map of_tables (item_for c (table c))) (map of_tables (items_for table cs)) (table-can c (table c) valid.0 (has c valid.0))
    (tables-can table cs valid.1 has))

pub texts-map : (says : List Said) → map item_text (map of_tables says) ≡ map tables.item_text says
texts-map [] = refl
texts-map (s ∷ ss) = ap (λ (items : List (List ℕ)). tables.item_text s ∷ items) (texts-map ss)

-- ---- what they give to user-defined capabilities: nothing

table-gives : (c : Capability) (o : Option Content) (items : List Item) → filter_map user_said (map of_tables (item_for c o) ++ items)
    ≡ filter_map user_said items
table-gives c None items = refl
table-gives c (Some content_true) items = refl
table-gives c (Some (content_number n)) items = refl
table-gives c (Some (content_text t)) items = refl
table-gives c (Some content_cancelled) items = refl

pub tables-give : (table : Contents) (cs : List Capability) (items : List Item) → filter_map user_said (map of_tables (items_for table cs) ++ items)
    ≡ filter_map user_said items
tables-give table [] items = refl
tables-give table (c ∷ cs) items =
    ap (λ (xs : List Item). filter_map user_said (xs ++ items)) (map-append of_tables (item_for c (table c)) (items_for table cs))
    ∙ ap (filter_map user_said) (append_assoc (map of_tables (item_for c (table c))) (map of_tables (items_for table cs)) items)
    ∙ table-gives c (table c) (map of_tables (items_for table cs) ++ items) ∙ tables-give table cs items

pub kind-valid : EachKindIsInOrder → (layout : Layout)
    → (AllByRecursion IsCapability (in_order layout.order Flag)) × (AllByRecursion IsCapability (in_order layout.order Number))
    × AllByRecursion IsCapability (in_order layout.order Text)
kind-valid ordered layout =
    let all = recursion_from_All IsCapability (all_in layout.order) (all_in-all ordered layout.order).valid in
    let rest = right-part IsCapability (in_order layout.order Flag) (in_order layout.order Number ++ in_order layout.order Text) all in (
      left-part IsCapability (in_order layout.order Flag) (in_order layout.order Number ++ in_order layout.order Text) all,
      left-part IsCapability (in_order layout.order Number) (in_order layout.order Text) rest,
      right-part IsCapability (in_order layout.order Number) (in_order layout.order Text) rest,
    )
