-- Without user-defined values the texts are those of the profile.
use Rattle.std.proofs.Common.{◌≡◌, ℕ, ◌+◌, Bool, true, false, ◌||◌, nat_lt, cond, List, [], ◌∷◌, ◌++◌, map, All, None, refl, ◌∙◌, ap, append_assoc, append-nil}
use Rattle.std.proofs.lemmas.List.Elements.{All-nil, All-cons, All-head, All-tail}
use Rattle.ti_caps.specs.declared.capability.Kind.{Kind}
use Rattle.ti_caps.specs.declared.capability.Kind.TheVariants.{Flag, Number, Text}
use Rattle.ti_source.specs.Reading.{Said}
use Rattle.ti_list.specs.declared.layout.Layout.{Layout}
use Rattle.ti_list.specs.declared.layout.Order.{Order}
use Rattle.ti_list.specs.declared.layout.Mode.{Mode}
use Rattle.ti_list.specs.Items.{item_text}
use Rattle.ti_list.specs.Listing.{further_items, kind_items, lines_of, size_of, in_order}
use Rattle.ti_list.specs.RelativeSource.{differing_contents}
use Rattle.ti_list.specs.Comparison as profile
use Rattle.user_extension.specs.Reading.{ReadRow}
use Rattle.user_listing.specs.Entries.{Extended, entries_in}
use Rattle.user_listing.specs.Names.{is_of_kind, names_among, names_of_kind, with_names_of}
use Rattle.user_listing.specs.Items.{further_lines, kind_lines, table_items}
use Rattle.user_listing.specs.Listing.{HasNoUserDefined, listed_kind, user_items}
use Rattle.user_listing.specs.RelativeSource.{differing_items, differing_kind}
use Rattle.user_listing.specs.Comparison.{compared_kind, user_rows}
use Rattle.user_listing.specs.Laws.{ComparisonsAreThoseOfTheProfile, ListingsAreThoseOfTheProfile, RelativesAreThoseOfTheProfile}

either : (b : Bool) (x y u v : List ℕ) → x ≡ u → y ≡ v → cond b x y ≡ cond b u v
either true x y u v one other = one
either false x y u v one other = other

further-same : (layout : Layout) (column : ℕ) (items : List Said) → further_lines layout column (map item_text items) ≡ further_items layout column items
further-same layout column [] = refl
further-same layout column (item ∷ items) =
    either (layout.one_per_line || nat_lt layout.width (column + 1 + size_of item)) _ _ _ _
    (ap (λ (t : List ℕ). 10 ∷ 9 ∷ item_text item ++ 44 ∷ t) (further-same layout (8 + size_of item) items))
    (ap (λ (t : List ℕ). 32 ∷ item_text item ++ 44 ∷ t) (further-same layout (column + 1 + size_of item) items))

-- the lines of the items of the tables
pub lines-same : (layout : Layout) (items : List Said) → kind_lines layout (map item_text items) ≡ lines_of layout items
lines-same layout [] = refl
lines-same layout (item ∷ items) = ap (λ (t : List ℕ). 10 ∷ 9 ∷ item_text item ++ 44 ∷ t) (further-same layout (8 + size_of item) items)

none-of-kind : (kind : Kind) → is_of_kind kind None ≡ false
none-of-kind Flag = refl
none-of-kind Number = refl
none-of-kind Text = refl

-- no name has a value of any kind
no-names : (kind : Kind) (rows : List ReadRow) → All (λ (row : ReadRow). row.1 ≡ None) rows → names_of_kind kind rows ≡ []
no-names kind [] all = refl
no-names kind (row ∷ rows) all =
    rw (All-head (λ (r : ReadRow). r.1 ≡ None) row rows all, none-of-kind kind) (no-names kind rows (All-tail (λ (r : ReadRow). r.1 ≡ None) row rows all))

no-more-names : (kind : Kind) (others : List Extended) → All HasNoUserDefined others → with_names_of kind [] others ≡ []
no-more-names kind [] all = refl
no-more-names kind (other ∷ others) all =
    ap (λ (names : List (List ℕ)). with_names_of kind names others) (no-names kind other.rows (All-head HasNoUserDefined other others all))
    ∙ no-more-names kind others (All-tail HasNoUserDefined other others all)

none-among : (kind : Kind) (entry : Extended) (others : List Extended) → HasNoUserDefined entry → All HasNoUserDefined others
    → names_among kind entry others ≡ []
none-among kind entry others none all =
    ap (λ (names : List (List ℕ)). with_names_of kind names others) (no-names kind entry.rows none) ∙ no-more-names kind others all

-- ---- listings

listed-same : (layout : Layout) (entry : Extended) (kind : Kind) → HasNoUserDefined entry → listed_kind layout entry kind
    ≡ lines_of layout (kind_items layout entry.entry.contents kind)
listed-same layout entry kind none =
    let items : user_items kind entry.rows ≡ [] = rw (no-names kind entry.rows none) refl in
    ap (λ (more : List (List ℕ)). kind_lines layout (table_items layout entry.entry.contents kind ++ more)) items
    ∙ ap (kind_lines layout) (append-nil (table_items layout entry.entry.contents kind)) ∙ lines-same layout (kind_items layout entry.entry.contents kind)

pub listings-same : ListingsAreThoseOfTheProfile
listings-same entry layout none =
    let one = listed-same layout entry Flag none in
    let two = listed-same layout entry Number none in
    let three = listed-same layout entry Text none in
    rw (one, two, three) (simp append_assoc)

-- ---- relative source

differing-same : (layout : Layout) (entry : Extended) (others : List Extended) (kind : Kind) → HasNoUserDefined entry → All HasNoUserDefined others
    → differing_kind layout entry others kind ≡ lines_of layout (kind_items layout (differing_contents entry.entry.contents (entries_in others)) kind)
differing-same layout entry others kind none all =
    let table = differing_contents entry.entry.contents (entries_in others) in
    let items : differing_items kind entry others ≡ [] = rw (none-among kind entry others none all) refl in
    ap (λ (more : List (List ℕ)). kind_lines layout (table_items layout table kind ++ more)) items
    ∙ ap (kind_lines layout) (append-nil (table_items layout table kind)) ∙ lines-same layout (kind_items layout table kind)

pub relatives-same : RelativesAreThoseOfTheProfile
relatives-same entry others layout none all =
    let one = differing-same layout entry others Flag none all in
    let two = differing-same layout entry others Number none all in
    let three = differing-same layout entry others Text none all in
    rw (one, two, three) (simp append_assoc)

-- ---- comparisons

compared-same : (one other : Extended) (mode : Mode) (order : Order) (kind : Kind) → HasNoUserDefined one → HasNoUserDefined other
    → compared_kind one other mode order kind ≡ profile.compared_kind one.entry other.entry mode order kind
compared-same one other mode order kind none also =
    let rows : user_rows mode kind one other ≡ [] =
    rw (none-among kind one (other ∷ []) none (All-cons HasNoUserDefined other [] also (All-nil HasNoUserDefined))) refl in
    let all : List ℕ = profile.kind_heading kind ++ profile.rows mode one.entry.contents other.entry.contents (in_order order kind) in
    ap (λ (more : List ℕ). all ++ more) rows ∙ append-nil all

pub comparisons-same : ComparisonsAreThoseOfTheProfile
comparisons-same one other mode order none also =
    let first = compared-same one other mode order Flag none also in
    let second = compared-same one other mode order Number none also in
    let third = compared-same one other mode order Text none also in
    rw (first, second, third) refl
