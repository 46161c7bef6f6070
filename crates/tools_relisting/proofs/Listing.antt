-- A listing is laid out as the items of its entry, and says of each capability what the entry has.
use Rattle.std.proofs.Common.{◌≡◌, ℕ, ◌+◌, Bool, true, false, ◌||◌, nat_lt, List, [], ◌∷◌, ◌++◌, map, cond, Option, Some, None, refl, ap, sym, ◌∙◌, subst}
use Rattle.std.proofs.Common.{inl, inr, append_assoc}
use Rattle.std.specs.List.{All}
use Rattle.std.specs.Option.{option_or}
use Rattle.std.proofs.lemmas.Bool.{cases_Bool}
use Rattle.std.proofs.lemmas.List.Elements.{All-nil, All-cons, All-head, All-tail, All-append}
use Rattle.std.proofs.lemmas.List.{append-nil}
use Rattle.ti_caps.specs.NameOrder.{EachKindIsInOrder}
use Rattle.ti_caps.specs.Tables.{Capability, IsCapability, same_capability}
use Rattle.ti_caps.proofs.Same.{same_capability-true}
use Rattle.ti_caps.specs.declared.capability.Kind.TheVariants.{Flag, Number, Text}
use Rattle.ti_source.specs.Reading.{Said, said_flag, said_number, said_text, said_cancel, said_import, ReadItem}
use Rattle.ti_layout.specs.Values.{Content, content_true, content_number, content_text, content_cancelled, Contents, contents, Mention}
use Rattle.ti_text.specs.Lists.{both_lists}
use Rattle.base_meaning.specs.Expansion.{mentions_of, expand_items}
use Rattle.ti_list.specs.declared.layout.Layout.{Layout}
use Rattle.ti_list.specs.Items.{item_text, IsTail, no_more, same_line, new_line, IsListing, CanBeListed}
use Rattle.ti_list.specs.Listing.{item_for, items_for, kind_items, in_order, size_of, further_items, lines_of, source_lines, listing}
use Rattle.ti_layout.specs.View.{Entry}
use Rattle.ti_list.specs.RelativeSource.{first_name, differing_contents, relative, use_lines}
use Rattle.tools_relisting.specs.Relisting.{CanHave, CanHaveAll}
use Rattle.tools_relisting.specs.Layouts.{entry_items, uses_of, ListingsAreLaidOut, RelativesAreLaidOut}
use Rattle.tools_relisting.proofs.Orders.{is_among, all_in, all_in-all}

-- ---- the layout

-- an item with its comma, and what follows it
item-then : (item : Said) (later rest : List ℕ) → item_text item ++ 44 ∷ (later ++ rest) ≡ (item_text item ++ 44 ∷ later) ++ rest
item-then item later rest = sym (append_assoc (item_text item) (44 ∷ later) rest)

further-tail : (layout : Layout) (column : ℕ) (items more : List Said) (rest : List ℕ) → IsTail more rest
    → IsTail (items ++ more) (further_items layout column items ++ rest)
further-tail layout column [] more rest laid = laid
further-tail layout column (item ∷ items) more rest laid =
    let below = further_items layout (8 + size_of item) items in
    let beside = further_items layout (column + 1 + size_of item) items in
    let broken = new_line item (items ++ more) (below ++ rest) (further-tail layout (8 + size_of item) items more rest laid) in
    let same = same_line item (items ++ more) (beside ++ rest) (further-tail layout (column + 1 + size_of item) items more rest laid) in
    elim (layout.one_per_line || nat_lt layout.width (column + 1 + size_of item))
    as (λ b. IsTail (item ∷ (items ++ more)) (cond b (10 ∷ 9 ∷ item_text item ++ 44 ∷ below) (32 ∷ item_text item ++ 44 ∷ beside) ++ rest)) [
      | true ↦ subst (λ t. IsTail (item ∷ (items ++ more)) (10 ∷ 9 ∷ t)) (item-then item below rest) broken
      | false ↦ subst (λ t. IsTail (item ∷ (items ++ more)) (32 ∷ t)) (item-then item beside rest) same
    ]

pub lines-tail : (layout : Layout) (items more : List Said) (rest : List ℕ) → IsTail more rest → IsTail (items ++ more) (lines_of layout items ++ rest)
lines-tail layout [] more rest laid = laid
lines-tail layout (item ∷ items) more rest laid =
    let below = further_items layout (8 + size_of item) items in
    subst (λ t. IsTail (item ∷ (items ++ more)) (10 ∷ 9 ∷ t)) (item-then item below rest)
    (new_line item (items ++ more) (below ++ rest) (further-tail layout (8 + size_of item) items more rest laid))

items_for-append : (table : Contents) (cs ds : List Capability) → items_for table (cs ++ ds) ≡ items_for table cs ++ items_for table ds
items_for-append table [] ds = refl
items_for-append table (c ∷ cs) ds =
    ap (λ l. item_for c (table c) ++ l) (items_for-append table cs ds) ∙ sym (append_assoc (item_for c (table c)) (items_for table cs) (items_for table ds))

-- the items of an entry are those of all capabilities, in the order of the layout
pub entry_items-all : (layout : Layout) (table : Contents) → entry_items layout table ≡ items_for table (all_in layout.order)
entry_items-all layout table =
    let flags = in_order layout.order Flag in
    let numbers = in_order layout.order Number in
    let texts = in_order layout.order Text in
    sym (items_for-append table flags (numbers ++ texts) ∙ ap (λ l. items_for table flags ++ l) (items_for-append table numbers texts))

-- a listing in any layout is one of the items of its entry, and then of those of the rest
listed-is : (field : List ℕ) (table : Contents) (layout : Layout) (more : List Said) (rest : List ℕ) → IsTail more rest
    → IsListing field (entry_items layout table ++ more) (source_lines field table layout ++ rest)
listed-is field table layout more rest laid =
    let flags = kind_items layout table Flag in
    let numbers = kind_items layout table Number in
    let texts = kind_items layout table Text in
    let flag_lines = lines_of layout flags in
    let number_lines = lines_of layout numbers in
    let text_lines = lines_of layout texts in
    let tail = flag_lines ++ (number_lines ++ (text_lines ++ rest)) in
    let by_kind : IsTail (flags ++ (numbers ++ (texts ++ more))) tail =
    lines-tail layout flags (numbers ++ (texts ++ more)) (number_lines ++ (text_lines ++ rest))
    (lines-tail layout numbers (texts ++ more) (text_lines ++ rest) (lines-tail layout texts more rest laid)) in
    let together : (flags ++ (numbers ++ texts)) ++ more ≡ flags ++ (numbers ++ (texts ++ more)) =
    append_assoc flags (numbers ++ texts) more ∙ ap (λ l. flags ++ l) (append_assoc numbers texts more) in
    let whole : source_lines field table layout ++ rest ≡ field ++ 44 ∷ tail =
    append_assoc ((field ++ 44 ∷ flag_lines) ++ number_lines) text_lines rest ∙ append_assoc (field ++ 44 ∷ flag_lines) number_lines (text_lines ++ rest)
    ∙ append_assoc field (44 ∷ flag_lines) (number_lines ++ (text_lines ++ rest)) in
    record { tail = tail; whole = whole; is_tail = subst (λ items. IsTail items tail) (sym together) by_kind }

pub listings_laid_out : ListingsAreLaidOut
listings_laid_out field table layout =
    subst (λ items. IsListing field items (listing field table layout)) (append-nil (entry_items layout table))
    (listed-is field table layout [] (10 ∷ []) no_more)

pub uses-tail : (others : List Entry) → IsTail (uses_of others) (use_lines others ++ 10 ∷ [])
uses-tail [] = no_more
uses-tail (other ∷ others) =
    let use_other = said_import (first_name other.names) in
    subst (λ t. IsTail (use_other ∷ uses_of others) (10 ∷ 9 ∷ t)) (item-then use_other (use_lines others) (10 ∷ []))
    (new_line use_other (uses_of others) (use_lines others ++ 10 ∷ []) (uses-tail others))

pub relatives_laid_out : RelativesAreLaidOut
relatives_laid_out entry others layout =
    let lines = source_lines entry.names (differing_contents entry.contents others) layout in
    subst (λ text. IsListing entry.names (entry_items layout (differing_contents entry.contents others) ++ uses_of others) text)
    (sym (append_assoc lines (use_lines others) (10 ∷ [])))
    (listed-is entry.names (differing_contents entry.contents others) layout (uses_of others) (use_lines others ++ 10 ∷ []) (uses-tail others))

-- a listing in any layout, of the items of all capabilities
pub listed-all : (field : List ℕ) (table : Contents) (layout : Layout) (more : List Said) (rest : List ℕ) → IsTail more rest
    → IsListing field (items_for table (all_in layout.order) ++ more) (source_lines field table layout ++ rest)
listed-all field table layout more rest laid =
    subst (λ items. IsListing field (items ++ more) (source_lines field table layout ++ rest)) (entry_items-all layout table)
    (listed-is field table layout more rest laid)

pub relative-all : (entry : Entry) (others : List Entry) (layout : Layout)
    → IsListing entry.names (items_for (differing_contents entry.contents others) (all_in layout.order) ++ uses_of others) (relative entry others layout)
relative-all entry others layout =
    subst (λ items. IsListing entry.names (items ++ uses_of others) (relative entry others layout))
    (entry_items-all layout (differing_contents entry.contents others))
    (relatives_laid_out entry others layout)

-- ---- what can be listed

item-can : (c : Capability) (o : Option Content) → IsCapability c → CanHave c o → All CanBeListed (item_for c o)
item-can c None is has = All-nil CanBeListed
item-can c (Some content_true) is has = All-cons CanBeListed (said_flag c) [] (is, has) (All-nil CanBeListed)
item-can c (Some (content_number n)) is has = All-cons CanBeListed (said_number c n) [] (is, has.0, has.1) (All-nil CanBeListed)
item-can c (Some (content_text t)) is has = All-cons CanBeListed (said_text c t) [] (is, has.0.0, has.1, has.0.1) (All-nil CanBeListed)
item-can c (Some content_cancelled) is has = All-cons CanBeListed (said_cancel c) [] is (All-nil CanBeListed)

items-can : (table : Contents) (cs : List Capability) → All IsCapability cs → CanHaveAll table → All CanBeListed (items_for table cs)
items-can table [] valid has = All-nil CanBeListed
items-can table (c ∷ cs) valid has =
    let is : IsCapability c = All-head IsCapability c cs valid in
    All-append CanBeListed (item_for c (table c)) (items_for table cs) (item-can c (table c) is (has c is))
    (items-can table cs (All-tail IsCapability c cs valid) has)

pub all-can : EachKindIsInOrder → (table : Contents) (layout : Layout) (more : List Said) → CanHaveAll table → All CanBeListed more
    → All CanBeListed (items_for table (all_in layout.order) ++ more)
all-can ordered table layout more has can =
    All-append CanBeListed (items_for table (all_in layout.order)) more (items-can table (all_in layout.order) (all_in-all ordered layout.order).valid has) can

-- ---- what is said

-- the mention of what a capability has, if it has something
abbrev pub mention_for : Capability → Option Content → List Mention
mention_for c None = []
mention_for c (Some content) = (c, content) ∷ []

-- the mentions of some capabilities, in order
abbrev pub mentions_for : Contents → List Capability → List Mention
mentions_for table [] = []
mentions_for table (c ∷ cs) = mention_for c (table c) ++ mentions_for table cs

-- the mentions of items, without their places
abbrev pub expand_says : (List ℕ → Option (List Mention)) → List Said → Option (List Mention)
expand_says of_name [] = Some []
expand_says of_name (item ∷ items) = both_lists (mentions_of of_name item) (expand_says of_name items)

pub expand_items-says : (of_name : List ℕ → Option (List Mention)) (items : List ReadItem)
    → expand_items of_name items ≡ expand_says of_name (map (λ (item : ReadItem). item.said) items)
expand_items-says of_name [] = refl
expand_items-says of_name (item ∷ items) = ap (both_lists (mentions_of of_name item.said)) (expand_items-says of_name items)

-- mentions before those that follow, if these are there
abbrev pub before : List Mention → Option (List Mention) → Option (List Mention)
before ms None = None
before ms (Some others) = Some (ms ++ others)

joined-before : (m : Mention) (ms : List Mention) (o : Option (List Mention)) → both_lists (Some (m ∷ [])) (before ms o) ≡ before (m ∷ ms) o
joined-before m ms None = refl
joined-before m ms (Some others) = refl

before-nil : (o : Option (List Mention)) → before [] o ≡ o
before-nil None = refl
before-nil (Some others) = refl

-- one mention more, before those that the items give
mention-first : (m : Mention) (ms : List Mention) (later given : Option (List Mention)) → given ≡ before ms later
    → both_lists (Some (m ∷ [])) given ≡ before (m ∷ ms) later
mention-first m ms later given e = ap (both_lists (Some (m ∷ []))) e ∙ joined-before m ms later

item-expands : (of_name : List ℕ → Option (List Mention)) (c : Capability) (o : Option Content) (ms : List Mention) (items : List Said)
    (later : Option (List Mention))
    → expand_says of_name items ≡ before ms later → expand_says of_name (item_for c o ++ items) ≡ before (mention_for c o ++ ms) later
item-expands of_name c None ms items later e = e
item-expands of_name c (Some content_true) ms items later e =
    mention-first ((c, content_true)) ms later (expand_says of_name items) e
item-expands of_name c (Some (content_number n)) ms items later e =
    mention-first ((c, content_number n)) ms later (expand_says of_name items) e
item-expands of_name c (Some (content_text t)) ms items later e =
    mention-first ((c, content_text t)) ms later (expand_says of_name items) e
item-expands of_name c (Some content_cancelled) ms items later e =
    mention-first ((c, content_cancelled)) ms later (expand_says of_name items) e

-- own items give own mentions, whatever follows them
pub own-expands : (of_name : List ℕ → Option (List Mention)) (table : Contents) (cs : List Capability) (more : List Said)
    → expand_says of_name (items_for table cs ++ more) ≡ before (mentions_for table cs) (expand_says of_name more)
own-expands of_name table [] more = sym (before-nil (expand_says of_name more))
own-expands of_name table (c ∷ cs) more =
    ap (expand_says of_name) (append_assoc (item_for c (table c)) (items_for table cs) more)
    ∙ item-expands of_name c (table c) (mentions_for table cs) (items_for table cs ++ more) (expand_says of_name more) (own-expands of_name table cs more)

-- the table, restricted to these capabilities
abbrev told : Contents → List Capability → Contents
told table cs c = cond (is_among cs c) (table c) None

mention-same : (d c : Capability) (o : Option Content) (b : Bool) (ms : List Mention) (later : Option Content) → same_capability d c ≡ true
    → contents ms c ≡ option_or (cond b o None) later → contents (mention_for d o ++ ms) c ≡ option_or o later
unfolding contents
mention-same d c None true ms later s e = e
mention-same d c None false ms later s e = e
mention-same d c (Some content) b ms later s e = rw s refl

mention-other : (d c : Capability) (o : Option Content) (ms : List Mention) → same_capability d c ≡ false
    → contents (mention_for d o ++ ms) c ≡ contents ms c
unfolding contents
mention-other d c None ms f = refl
mention-other d c (Some content) ms f = rw f refl

items-say : (table : Contents) (cs : List Capability) (ms : List Mention) (c : Capability)
    → contents (mentions_for table cs ++ ms) c ≡ option_or (told table cs c) (contents ms c)
unfolding contents
items-say table [] ms c = refl
items-say table (d ∷ cs) ms c =
    let later = items-say table cs ms c in
    ap (λ l. contents l c) (append_assoc (mention_for d (table d)) (mentions_for table cs) ms)
    ∙ elim (cases_Bool (same_capability d c)) [
      | inl t ↦
          let P : Capability → Type 0 = λ x. contents (mention_for d (table x) ++ (mentions_for table cs ++ ms)) c ≡ option_or (table c) (contents ms c) in
          rw t (subst P (sym (same_capability-true d c t)) (mention-same d c (table c) (is_among cs c) (mentions_for table cs ++ ms) (contents ms c) t later))
      | inr f ↦ rw f (mention-other d c (table d) (mentions_for table cs ++ ms) f ∙ later)
    ]

-- if each capability is among them, their mentions say what the table has, and then what follows
pub all-say : (table : Contents) (cs : List Capability) (ms : List Mention) (c : Capability) → is_among cs c ≡ true
    → contents (mentions_for table cs ++ ms) c ≡ option_or (table c) (contents ms c)
all-say table cs ms c t = items-say table cs ms c ∙ ap (λ b. option_or (cond b (table c) None) (contents ms c)) t
