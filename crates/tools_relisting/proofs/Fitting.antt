-- What a block of a source says fits its capabilities.
use Rattle.std.proofs.Common.{◌≡◌, ℕ, zero, suc, false, option_map, List, [], ◌∷◌, ◌++◌, Option, Some, None, option_and_then, refl, sym, subst, inl, inr}
use Rattle.std.specs.List.{All}
use Rattle.std.proofs.lemmas.Bool.{cases_Bool}
use Rattle.std.proofs.lemmas.Option.{same_Some, none-some}
use Rattle.std.proofs.lemmas.List.Elements.{All-nil, All-cons, All-head, All-tail, All-append}
use Rattle.ti_caps.specs.Tables.{Capability, IsCapability, same_capability}
use Rattle.ti_source.specs.declared.parsing.Rule.{Rule}
use Rattle.ti_source.specs.declared.parsing.Rule.TheVariants.{Leftmost, OwnFirst}
use Rattle.ti_source.specs.Reading.{Said, said_flag, said_number, said_text, said_cancel, said_import, ReadItem, Reading}
use Rattle.ti_source.specs.Sound.{SetsItsKind}
use Rattle.ti_layout.specs.Values.{Content, content_true, content_number, content_text, content_cancelled, AgreesIfSome, contents, Mention}
use Rattle.ti_layout.specs.Laws.{without_cancel}
use Rattle.base_meaning.specs.Owner.{is_among, owner_block}
use Rattle.ti_text.specs.Lists.{both_lists}
use Rattle.base_meaning.specs.Expansion.{is_broken, mentions_of, expand_items, own_items, use_items, uncancelled, block_mentions, expand}
use Rattle.base_meaning.proofs.Ruling.{mapped_part, own_items-all, use_items-all, uncancelled-all}
use Rattle.tools_relisting.specs.Relisting.{CanHave}
use Rattle.tools_relisting.proofs.TextBytes.{SaysBytes, ItemSaysBytes}
use Rattle.ti_caps.proofs.Same.{same_capability-true}

-- a mention is of a capability, which can have what it says
abbrev pub MentionFits : Mention → Type 0
MentionFits m = IsCapability m.0 × CanHave m.0 (Some m.1)

-- an item says something that its capability can have, unless it is a use
abbrev pub SaidFits : Said → Type 0
SaidFits (said_flag c) = IsCapability c × CanHave c (Some content_true)
SaidFits (said_number c n) = IsCapability c × CanHave c (Some (content_number n))
SaidFits (said_text c t) = IsCapability c × CanHave c (Some (content_text t))
SaidFits (said_cancel c) = IsCapability c
SaidFits (said_import name) = Unit {0}

abbrev pub ItemFits : ReadItem → Type 0
ItemFits item = SaidFits item.said

said-fits : (item : Said) → SetsItsKind item → SaysBytes item → SaidFits item
said-fits (said_flag c) sets are = sets
said-fits (said_number c n) sets are = (sets.0, (sets.1, sets.2))
said-fits (said_text c t) sets are = (sets.0, ((sets.1, sets.2), are))
said-fits (said_cancel c) sets are = sets
said-fits (said_import name) sets are = tt

pub items-fit : (items : List ReadItem) → All (λ (item : ReadItem). SetsItsKind item.said) items → All ItemSaysBytes items → All ItemFits items
items-fit [] sets are = All-nil ItemFits
items-fit (item ∷ items) sets are =
    All-cons ItemFits item items
    (said-fits item.said (All-head (λ (item : ReadItem). SetsItsKind item.said) item items sets) (All-head ItemSaysBytes item items are))
    (items-fit items (All-tail (λ (item : ReadItem). SetsItsKind item.said) item items sets) (All-tail ItemSaysBytes item items are))

-- ---- expansion

-- two lists that are there, one after the other
record AreJoined {X : Type 0} (o p : Option (List X)) (all : List X) : Type 0 where
  pub first : List X
  pub second : List X
  pub is_first : o ≡ Some first
  pub is_second : p ≡ Some second
  pub whole : all ≡ first ++ second

joined-some : {X : Type 0} (o p : Option (List X)) (all : List X) → both_lists o p ≡ Some all → AreJoined o p all
joined-some None p all e = absurd (none-some all e)
joined-some (Some xs) None all e = absurd (none-some all e)
joined-some (Some xs) (Some ys) all e = record { first = xs; second = ys; is_first = refl; is_second = refl; whole = sym (same_Some (xs ++ ys) all e) }

one-fits : (m : Mention) (ms : List Mention) → MentionFits m → Some (m ∷ []) ≡ Some ms → All MentionFits ms
one-fits m ms fits e = subst (λ l. All MentionFits l) (same_Some (m ∷ []) ms e) (All-cons MentionFits m [] fits (All-nil MentionFits))

item-mentions-fit : (of_name : List ℕ → Option (List Mention)) → ((name : List ℕ) (ms : List Mention) → of_name name ≡ Some ms → All MentionFits ms)
    → (item : Said) (ms : List Mention)
    → SaidFits item → mentions_of of_name item ≡ Some ms → All MentionFits ms
item-mentions-fit of_name h (said_flag c) ms fits e = one-fits ((c, content_true)) ms fits e
item-mentions-fit of_name h (said_number c n) ms fits e = one-fits ((c, content_number n)) ms fits e
item-mentions-fit of_name h (said_text c t) ms fits e = one-fits ((c, content_text t)) ms fits e
item-mentions-fit of_name h (said_cancel c) ms fits e = one-fits ((c, content_cancelled)) ms (fits, tt) e
item-mentions-fit of_name h (said_import name) ms fits e = h name ms e

items-mentions-fit : (of_name : List ℕ → Option (List Mention)) → ((name : List ℕ) (ms : List Mention) → of_name name ≡ Some ms → All MentionFits ms)
    → (items : List ReadItem) (ms : List Mention)
    → All ItemFits items → expand_items of_name items ≡ Some ms → All MentionFits ms
items-mentions-fit of_name h [] ms fits e = subst (λ l. All MentionFits l) (same_Some [] ms e) (All-nil MentionFits)
items-mentions-fit of_name h (item ∷ items) ms fits e =
    let parts = joined-some (mentions_of of_name item.said) (expand_items of_name items) ms e in
    subst (λ l. All MentionFits l) (sym parts.whole)
    (All-append MentionFits parts.first parts.second
    (item-mentions-fit of_name h item.said parts.first (All-head ItemFits item items fits) parts.is_first)
    (items-mentions-fit of_name h items parts.second (All-tail ItemFits item items fits) parts.is_second))

pub unbroken-expand : (env : List ℕ → Option Reading) (depth : ℕ) (block : Reading) (ms : List Mention) → expand env (suc depth) block ≡ Some ms
    → is_broken block ≡ false
unbroken-expand env depth block ms e =
    elim (cases_Bool (is_broken block)) [
      | inl t ↦ absurd (none-some ms (rw t at e))
      | inr f ↦ f
    ]

-- by either rule
block-fits : (r : Rule) (of_name : List ℕ → Option (List Mention)) → ((name : List ℕ) (ms : List Mention) → of_name name ≡ Some ms → All MentionFits ms)
    → (items : List ReadItem) (ms : List Mention) → All ItemFits items → block_mentions r of_name items ≡ Some ms → All MentionFits ms
block-fits Leftmost of_name h items ms fits e = items-mentions-fit of_name h items ms fits e
block-fits OwnFirst of_name h items ms fits e =
    let p = joined-some (expand_items of_name (own_items items)) (option_map uncancelled (expand_items of_name (use_items items))) ms e in
    let m = mapped_part uncancelled (expand_items of_name (use_items items)) p.second p.is_second in
    subst (λ l. All MentionFits l) (sym p.whole)
    (All-append MentionFits p.first p.second (items-mentions-fit of_name h (own_items items) p.first (own_items-all ItemFits items fits) p.is_first)
    (subst (λ l. All MentionFits l) m.mapped
    (uncancelled-all MentionFits m.before (items-mentions-fit of_name h (use_items items) m.before (use_items-all ItemFits items fits) m.is))))

-- what follows from a value that is there
pub record Follows {X Y : Type 0} (f : X → Option Y) (o : Option X) (y : Y) : Type 0 where
  pub from : X
  pub is : o ≡ Some from
  pub gives : f from ≡ Some y

pub follows : {X Y : Type 0} (f : X → Option Y) (o : Option X) (y : Y) → option_and_then f o ≡ Some y → Follows f o y
follows f None y e = absurd (none-some y e)
follows f (Some x) y e = record { from = x; is = refl; gives = e }

pub expand-fits : (env : List ℕ → Option Reading) → ((name : List ℕ) (block : Reading) → env name ≡ Some block → All ItemFits block.items)
    → (depth : ℕ) (block : Reading) (ms : List Mention)
    → All ItemFits block.items → expand env depth block ≡ Some ms → All MentionFits ms
expand-fits env good zero block ms fits e = absurd (none-some ms e)
expand-fits env good (suc depth) block ms fits e =
    let of_name : List ℕ → Option (List Mention) = λ name. option_and_then (expand env depth) (env name) in
    let items : block_mentions block.rule of_name block.items ≡ Some ms = rw (unbroken-expand env depth block ms e) at e in
    block-fits block.rule of_name
    (λ name more is. let owner = follows (expand env depth) (env name) more is in
    expand-fits env good depth owner.from more (good name owner.from owner.is) owner.gives)
    block.items ms fits items

pub owned-has : (P : Reading → Type 0) (blocks : List Reading) (name : List ℕ) (block : Reading) → All P blocks → owner_block blocks name ≡ Some block → P block
owned-has P [] name block all e = absurd (none-some block e)
owned-has P (b ∷ bs) name block all e =
    elim (cases_Bool (is_among name b.names)) [
      | inl t ↦ subst P (same_Some b block (rw t at e)) (All-head P b bs all)
      | inr f ↦ owned-has P bs name block (All-tail P b bs all) (rw f at e)
    ]

-- ---- what the mentions say

pub said-has : (ms : List Mention) (c : Capability) → All MentionFits ms → CanHave c (contents ms c)
unfolding contents
said-has [] c fits = tt
said-has (m ∷ ms) c fits =
    elim (cases_Bool (same_capability m.0 c)) [
      | inl t ↦ rw t (subst (λ d. CanHave d (Some m.1)) (same_capability-true m.0 c t) (All-head MentionFits m ms fits).1)
      | inr f ↦ rw f (said-has ms c (All-tail MentionFits m ms fits))
    ]

pub uncancelled-has : (c : Capability) (o : Option Content) → CanHave c o → CanHave c (without_cancel o)
uncancelled-has c None has = tt
uncancelled-has c (Some content_true) has = has
uncancelled-has c (Some (content_number n)) has = has
uncancelled-has c (Some (content_text t)) has = has
uncancelled-has c (Some content_cancelled) has = tt

pub agrees-has : (c : Capability) (o : Option Content) → CanHave c o → AgreesIfSome c o
agrees-has c None has = tt
agrees-has c (Some content_true) has = has
agrees-has c (Some (content_number n)) has = has
agrees-has c (Some (content_text t)) has = has.0
agrees-has c (Some content_cancelled) has = tt
