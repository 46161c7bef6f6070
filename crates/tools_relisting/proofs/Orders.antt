-- Each order of the capabilities has each of them, and nothing else.
use Rattle.std.proofs.Common.{◌≡◌, ℕ, ◌<◌, Bool, true, ◌||◌, nat_lt, List, [], ◌∷◌, ◌++◌, refl, ◌∙◌, inl, inr}
use Rattle.std.specs.List.{list_all, list_any, All, Contains}
use Rattle.std.proofs.lemmas.Bool.{cases_Bool, agree_below, agree_below_at, ltb-true, or_left, or_right}
use Rattle.std.proofs.lemmas.List.Elements.{All-nil, All-cons, All-append, All-weaker, All-contains}
use Rattle.std.proofs.lemmas.List.Sums.{AllPass-from_list_all}
use Rattle.ti_caps.specs.Tables.{Capability, capability, IsCapability, count_of, same_capability}
use Rattle.ti_caps.proofs.Same.{same_capability-itself}
use Rattle.ti_caps.specs.NameOrder.{EachKindIsInOrder, in_name_order}
use Rattle.ti_caps.specs.declared.capability.Kind.{Kind}
use Rattle.ti_caps.specs.declared.capability.Kind.TheVariants.{Flag, Number, Text}
use Rattle.ti_list.specs.declared.layout.Order.{Order}
use Rattle.ti_list.specs.declared.layout.Order.TheVariants as order
use Rattle.ti_list.specs.Listing.{by_index, in_order}

-- whether a capability is one of these
abbrev pub is_among : List Capability → Capability → Bool
is_among cs c = list_any (λ d. same_capability d c) cs

-- each of these is a capability, and all capabilities are among them
pub record AreAll (cs : List Capability) : Type 0 where
  pub valid : All IsCapability cs
  pub complete : (c : Capability) → IsCapability c → is_among cs c ≡ true

-- all capabilities in an order: the booleans, the numbers, the strings
abbrev pub all_in : Order → List Capability
all_in o = in_order o Flag ++ (in_order o Number ++ in_order o Text)

abbrev is_capability : Capability → Bool
is_capability c = nat_lt c.index (count_of c.kind)

among-itself : (cs : List Capability) → All (λ c. is_among cs c ≡ true) cs
among-itself [] = All-nil (λ c. is_among [] c ≡ true)
among-itself (d ∷ cs) =
    All-cons (λ c. is_among (d ∷ cs) c ≡ true) d cs (or_left (same_capability d d) (is_among cs d) (same_capability-itself d))
    (All-weaker (λ c. is_among cs c ≡ true) (λ c. is_among (d ∷ cs) c ≡ true) (λ c h. or_right (same_capability d c) (is_among cs c) h) cs (among-itself cs))

contains-among : (cs : List Capability) (c : Capability) → Contains cs c → is_among cs c ≡ true
contains-among cs c has = All-contains (λ d. is_among cs d ≡ true) cs c (among-itself cs) has

by_index-valid : (kind : Kind) → list_all is_capability (by_index kind) ≡ true
by_index-valid Flag = refl
by_index-valid Number = refl
by_index-valid Text = refl

by_index-complete : (kind : Kind) → agree_below (λ i. is_among (by_index kind) (capability kind i)) (λ i. true) (count_of kind) ≡ true
by_index-complete Flag = refl
by_index-complete Number = refl
by_index-complete Text = refl

kind-valid : EachKindIsInOrder → (o : Order) (kind : Kind) → All IsCapability (in_order o kind)
unfolding in_order
kind-valid ordered order.Table kind =
    All-weaker (λ c. is_capability c ≡ true) IsCapability (λ c h. ltb-true c.index (count_of c.kind) h) (by_index kind)
    (AllPass-from_list_all is_capability (by_index kind) (by_index-valid kind))
kind-valid ordered order.Name kind = All-weaker (λ c. (c.kind ≡ kind) × IsCapability c) IsCapability (λ c h. h.1) (in_name_order kind) (ordered kind).valid

kind-complete : EachKindIsInOrder → (o : Order) (kind : Kind) (i : ℕ) → i < count_of kind → is_among (in_order o kind) (capability kind i) ≡ true
unfolding in_order
kind-complete ordered order.Table kind i lt =
    agree_below_at (λ i. is_among (by_index kind) (capability kind i)) (λ i. true) (count_of kind) i (by_index-complete kind) lt
kind-complete ordered order.Name kind i lt = contains-among (in_name_order kind) (capability kind i) ((ordered kind).all i lt)

among-append : (cs ds : List Capability) (c : Capability) → is_among (cs ++ ds) c ≡ (is_among cs c || is_among ds c)
among-append [] ds c = refl
among-append (d ∷ cs) ds c =
    elim (cases_Bool (same_capability d c)) [
      | inl t ↦ rw t refl
      | inr f ↦ rw f (among-append cs ds c)
    ]

all_in-complete : EachKindIsInOrder → (o : Order) (kind : Kind) (i : ℕ) → i < count_of kind → is_among (all_in o) (capability kind i) ≡ true
all_in-complete ordered o Flag i lt =
    let c = capability Flag i in
    let later = in_order o Number ++ in_order o Text in
    among-append (in_order o Flag) later c ∙ or_left (is_among (in_order o Flag) c) (is_among later c) (kind-complete ordered o Flag i lt)
all_in-complete ordered o Number i lt =
    let c = capability Number i in
    let later = in_order o Number ++ in_order o Text in
    among-append (in_order o Flag) later c
    ∙ or_right (is_among (in_order o Flag) c) (is_among later c)
    (among-append (in_order o Number) (in_order o Text) c ∙ or_left (is_among (in_order o Number) c) (is_among (in_order o Text) c)
    (kind-complete ordered o Number i lt))
all_in-complete ordered o Text i lt =
    let c = capability Text i in
    let later = in_order o Number ++ in_order o Text in
    among-append (in_order o Flag) later c
    ∙ or_right (is_among (in_order o Flag) c) (is_among later c)
    (among-append (in_order o Number) (in_order o Text) c ∙ or_right (is_among (in_order o Number) c) (is_among (in_order o Text) c)
    (kind-complete ordered o Text i lt))

pub all_in-all : EachKindIsInOrder → (o : Order) → AreAll (all_in o)
all_in-all ordered o = record {
  valid = All-append IsCapability (in_order o Flag) (in_order o Number ++ in_order o Text) (kind-valid ordered o Flag)
      (All-append IsCapability (in_order o Number) (in_order o Text) (kind-valid ordered o Number) (kind-valid ordered o Text));
  complete = λ c is. all_in-complete ordered o c.kind c.index is;
}
