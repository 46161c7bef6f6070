-- The relative source of an entry compiles to the image of the entry.
use Rattle.std.proofs.Common.{◌≡◌, ℕ, zero, suc, true, false, List, [], ◌∷◌, ◌++◌, map, length, cond, Option, Some, None, option_map, option_and_then}
use Rattle.std.proofs.Common.{slice_get, refl, ap, sym, ◌∙◌, subst, inl, inr}
use Rattle.std.specs.List.{All}
use Rattle.std.specs.Option.{option_or}
use Rattle.std.specs.Str.{bytes_eq}
use Rattle.std.proofs.lemmas.Bool.{cases_Bool, eqb-true}
use Rattle.std.proofs.lemmas.Option.{slice_get-map, same_Some, none-some}
use Rattle.std.proofs.lemmas.Slice.Eq.{bytes_eq-Decides}
use Rattle.std.proofs.lemmas.List.Elements.{All-nil, All-cons, All-head, All-tail}
use Rattle.ti_caps.specs.NameOrder.{EachKindIsInOrder}
use Rattle.ti_caps.specs.Tables.{Capability, IsCapability}
use Rattle.ti_source.specs.Reading.{said_import, Reading}
use Rattle.ti_source.specs.Parsing.{reading_of_text}
use Rattle.ti_source.proofs.ReadingLaws.{rule_of_text}
use Rattle.ti_layout.specs.Values.{Content, content_true, content_number, content_text, content_cancelled, Contents, contents, Mention}
use Rattle.ti_layout.specs.Laws.{without_cancel, ImagesAreOfValues, LimitsAreOfValues}
use Rattle.base_meaning.specs.Owner.{is_among, owner, owner_block, readings}
use Rattle.base_meaning.specs.Expansion.{expand, expansion}
use Rattle.ti_list.specs.Items.{CanBeListed, IsReadAs}
use Rattle.ti_list.specs.Listing.{listing}
use Rattle.ti_layout.specs.View.{Entry}
use Rattle.ti_list.specs.RelativeSource.{Listed, entries_of, first_name, same_content, first_of, difference, differing_contents, relative, with_others}
use Rattle.ti_list.specs.Listing.{items_for}
use Rattle.tools_relisting.specs.Layouts.{uses_of}
use Rattle.tools_relisting.specs.Relisting.{CanHave, CanHaveAll, CanBeUsed, RelativesCompile}
use Rattle.tools_relisting.specs.ReadingBack.{PartsAreRead}
use Rattle.tools_relisting.proofs.Orders.{all_in}
use Rattle.tools_relisting.proofs.Listing.{relative-all, all-can, mentions_for, expand_says, before}
use Rattle.tools_relisting.proofs.Compiling.{used_at, own-at, entry-is, listing-expands, all-contents}

-- ---- what the entry and the others say together is what the entry says

same_text-true : (t u : List ℕ) → bytes_eq t u ≡ true → t ≡ u
same_text-true t u e = (bytes_eq-Decides t u).0 e

same_content-true : (x y : Content) → same_content x y ≡ true → x ≡ y
same_content-true content_true content_true e = refl
same_content-true content_true (content_number n) e = cc
same_content-true content_true (content_text u) e = cc
same_content-true content_true content_cancelled e = cc
same_content-true (content_number m) content_true e = cc
same_content-true (content_number m) (content_number n) e = ap content_number (eqb-true m n e)
same_content-true (content_number m) (content_text u) e = cc
same_content-true (content_number m) content_cancelled e = cc
same_content-true (content_text t) content_true e = cc
same_content-true (content_text t) (content_number n) e = cc
same_content-true (content_text t) (content_text u) e = ap content_text (same_text-true t u e)
same_content-true (content_text t) content_cancelled e = cc
same_content-true content_cancelled content_true e = cc
same_content-true content_cancelled (content_number n) e = cc
same_content-true content_cancelled (content_text u) e = cc
same_content-true content_cancelled content_cancelled e = refl

restores : (own theirs : Option Content) → without_cancel (option_or (difference own theirs) theirs) ≡ without_cancel own
restores None None = refl
restores None (Some x) = refl
restores (Some h) None = refl
restores (Some h) (Some x) =
    elim (cases_Bool (same_content h x)) [
      | inl t ↦ rw t (ap (λ y. without_cancel (Some y)) (sym (same_content-true h x t)))
      | inr f ↦ rw f refl
    ]

difference-can : (c : Capability) (own theirs : Option Content) → CanHave c own → CanHave c (difference own theirs)
difference-can c None None has = tt
difference-can c None (Some x) has = tt
difference-can c (Some h) None has = has
difference-can c (Some h) (Some x) has = elim (same_content h x) as (λ b. CanHave c (cond b None (Some h))) [ true ↦ tt | false ↦ has ]

pub differing-can : (table : Contents) (others : List Entry) → CanHaveAll table → CanHaveAll (differing_contents table others)
differing-can table others holds c is = difference-can c (table c) (first_of others c) (holds c is)

-- ---- the uses

pub uses-can : (others : List Entry) → All CanBeUsed others → All CanBeListed (uses_of others)
uses-can [] can = All-nil CanBeListed
uses-can (other ∷ others) can =
    let first = (All-head CanBeUsed other others can).first in
    All-cons CanBeListed (said_import (first_name other.names)) (uses_of others) (first.lookup, first.bare)
    (uses-can others (All-tail CanBeUsed other others can))

-- the mentions of the others, in turn
abbrev pub used_mentions : List Listed → List Mention
used_mentions [] = []
used_mentions (one ∷ listed) = mentions_for one.0.contents (all_in one.1.order) ++ used_mentions listed

uses-expand : (of_name : List ℕ → Option (List Mention)) (listed : List Listed)
    → ((i : ℕ) (one : Listed) → slice_get listed i ≡ Some one → of_name (first_name one.0.names) ≡ Some (mentions_for one.0.contents (all_in one.1.order)))
    → expand_says of_name (uses_of (entries_of listed)) ≡ Some (used_mentions listed)
uses-expand of_name [] h = refl
uses-expand of_name (one ∷ listed) h =
    let later = uses-expand of_name listed (λ i o e. h (suc i) o e) in
    let first = h 0 one refl in
    rw (first, later) refl

used-contents : EachKindIsInOrder → (listed : List Listed) (c : Capability) → IsCapability c
    → contents (used_mentions listed) c ≡ first_of (entries_of listed) c
unfolding contents
used-contents ordered [] c is = refl
used-contents ordered (one ∷ listed) c is =
    all-contents ordered one.0.contents one.1 (used_mentions listed) c is ∙ ap (option_or (one.0.contents c)) (used-contents ordered listed c is)

-- ---- the owners

owned-some : (b : Reading) (bs : List Reading) (name : List ℕ) (o : Option ℕ) (i : ℕ) → owner bs name ≡ o
    → ((j : ℕ) → owner bs name ≡ Some j → owner_block bs name ≡ slice_get bs j)
    → option_map (λ at. suc at) o ≡ Some i → owner_block bs name ≡ slice_get (b ∷ bs) i
owned-some b bs name None i is later e = absurd (none-some i e)
owned-some b bs name (Some j) i is later e =
    let P : ℕ → Type 0 = λ at. owner_block bs name ≡ slice_get (b ∷ bs) at in
    subst P (same_Some (suc j) i e) (later j is)

pub owned-at : (bs : List Reading) (name : List ℕ) (i : ℕ) → owner bs name ≡ Some i → owner_block bs name ≡ slice_get bs i
owned-at [] name i e = absurd (none-some i e)
owned-at (b ∷ bs) name i e =
    elim (cases_Bool (is_among name b.names)) [
      | inl t ↦
          let P : ℕ → Type 0 = λ at. Some b ≡ slice_get (b ∷ bs) at in
          rw t (subst P (same_Some 0 i (rw t at e)) refl)
      | inr f ↦ rw f (owned-some b bs name (owner bs name) i refl (λ j is. owned-at bs name j is) (rw f at e))
    ]

at-place : {X Y : Type 0} (f : X → Y) (xs : List X) (i : ℕ) (x : X) → slice_get xs i ≡ Some x → slice_get (map f xs) i ≡ Some (f x)
at-place f xs i x e = slice_get-map f xs i ∙ ap (option_map f) e

pub All-at : {X : Type 0} (P : X → Type 0) (xs : List X) (i : ℕ) (x : X) → All P xs → slice_get xs i ≡ Some x → P x
All-at P [] i x all e = absurd (none-some x e)
All-at P (y ∷ xs) zero x all e = subst P (same_Some y x e) (All-head P y xs all)
All-at P (y ∷ xs) (suc i) x all e = All-at P xs i x (All-tail P y xs all) e

pub relatives_compile : EachKindIsInOrder → PartsAreRead → ImagesAreOfValues → LimitsAreOfValues → RelativesCompile
relatives_compile ordered read images limits e layout listed shown used owns within =
    let others = entries_of listed in
    let text = relative e others layout in
    let blocks = readings (with_others e layout listed) in
    let block = reading_of_text text in
    let table = differing_contents e.contents others in
    let has : CanHaveAll table = differing-can e.contents others shown.holds in
    let own = items_for table (all_in layout.order) in
    let is : IsReadAs e.names shown.names (own ++ uses_of others) block =
    read e.names shown.names (own ++ uses_of others) text shown.listable
    (all-can ordered table layout (uses_of others) has (uses-can others used)) (relative-all e others layout) in
    let list_one : Listed → List ℕ = λ one. listing one.0.names one.0.contents one.1 in
    let expands : (i : ℕ) (one : Listed) → slice_get listed i ≡ Some one
    → used_at (owner_block blocks) (length blocks) (first_name one.0.names) ≡ Some (mentions_for one.0.contents (all_in one.1.order)) =
    λ i one at.
    let one_shown = (All-at CanBeUsed others i one.0 used (at-place (λ (o : Listed). o.0) listed i one at)).shown in
    let stands : slice_get blocks (suc i) ≡ Some (reading_of_text (list_one one)) =
    at-place reading_of_text (map list_one listed) i (list_one one) (at-place list_one listed i one at) in
    ap (option_and_then (expand (owner_block blocks) (length blocks))) (owned-at blocks (first_name one.0.names) (suc i) (owns i one at) ∙ stands)
    ∙ listing-expands ordered read (owner_block blocks) (length (map reading_of_text (map list_one listed))) one.0.names one_shown.names one.0.contents
    one.1 one_shown.listable one_shown.holds in
    let ms = mentions_for table (all_in layout.order) ++ used_mentions listed in
    let expanded : expansion blocks block ≡ Some ms =
    own-at (owner_block blocks) (length blocks) block table (all_in layout.order) (uses_of others)
    (rule_of_text (relative e (entries_of listed) layout)) is.none_wrong is.says
    ∙ ap (before (mentions_for table (all_in layout.order))) (uses-expand (used_at (owner_block blocks) (length blocks)) listed expands) in
    let tells : (c : Capability) → IsCapability c → without_cancel (contents ms c) ≡ without_cancel (e.contents c) =
    λ c cap. ap without_cancel (all-contents ordered table layout (used_mentions listed) c cap ∙ ap (option_or (table c)) (used-contents ordered listed c cap))
    ∙ restores (e.contents c) (first_of others c) in
    entry-is images limits blocks block e.names e.contents ms expanded is.same_field tells within
