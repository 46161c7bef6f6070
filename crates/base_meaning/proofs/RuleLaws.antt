-- The laws on the rules by which a block's items and uses give its mentions.
use Rattle.std.proofs.Common.{◌≡◌, ℕ, zero, suc, ◌≤◌, inl, inr, Bool, true, false, cond, List, [], ◌∷◌, ◌++◌, length, Option, Some, None, is_some}
use Rattle.std.proofs.Common.{option_map, option_and_then, slice_get, refl, sym, subst, ◌∙◌, ap, arith}
use Rattle.std.specs.List.{All}
use Rattle.std.specs.Option.{option_or}
use Rattle.std.proofs.lemmas.Bool.{cases_Bool}
use Rattle.std.proofs.lemmas.List.{length-map}
use Rattle.std.proofs.lemmas.List.Elements.{All-nil, All-cons, All-head, All-tail}
use Rattle.std.proofs.lemmas.Option.{same_Some, none-some}
use Rattle.ti_text.specs.Lists.{both_lists}
use Rattle.ti_caps.specs.Tables.{Capability, same_capability}
use Rattle.ti_source.specs.declared.parsing.Rule.{Rule}
use Rattle.ti_source.specs.declared.parsing.Rule.TheVariants.{Leftmost, OwnFirst}
use Rattle.ti_source.specs.Reading.{Reading, ReadItem, Said, said_flag, said_number, said_text, said_cancel, said_import}
use Rattle.ti_layout.specs.Laws.{without_cancel}
use Rattle.ti_layout.specs.Values.{Content, content_true, content_number, content_text, content_cancelled, Mention, contents}
use Rattle.base_meaning.specs.Expansion.{is_broken, mentions_of, expand_items, is_use, own_items, use_items, uncancelled, block_mentions, expand}
use Rattle.base_meaning.specs.Owner.{is_among, owner_block}
use Rattle.base_meaning.specs.Reaching.{used_name, Uses}
use Rattle.base_meaning.specs.Rules.{said_itself, said_by_use, AreSilent, IsFirstSaid, IsLastSaid, SaysOwnFirst, says_itself, says_by_use, says_nothing}
use Rattle.base_meaning.specs.Readings.{by_rule}
use Rattle.base_meaning.specs.Rules.{OwnMentionsComeFirst, SayNothingTwice, IsPlain, all_by_rule, ArePlain, SaySame, RulesAgreeOnPlainBlocks}
use Rattle.base_meaning.specs.ValueTables.{names_at}
use Rattle.base_meaning.proofs.Owning.{owning, nobody, somebody}
use Rattle.base_meaning.proofs.Depth.{joined_parts, names_at-le}
use Rattle.base_meaning.proofs.MentionMerging.{expand_items-append, option_or-none, option_or-assoc, said-append, uncancelled-says}
use Rattle.base_meaning.proofs.Ruling.{mapped_part}
use Rattle.base_meaning.proofs.Acyclic.{used_is_in}
use Rattle.base_meaning.proofs.UseLawProofs.{block_there}

-- ---- the first and the last that is said

abbrev Says : Type 0
Says = Said → Option Content

first_of : Says → List ReadItem → Option Content
first_of says [] = None
first_of says (i ∷ is) = option_or (says i.said) (first_of says is)

last_of : Says → List ReadItem → Option Content
last_of says [] = None
last_of says (i ∷ is) = option_or (last_of says is) (says i.said)

abbrev IsSilent : Says → ReadItem → Type 0
IsSilent says item = says item.said ≡ None

-- what is said, or nothing
data Found (o : Option Content) : Type 0 where
  absent : o ≡ None → Found o
  present : (content : Content) → o ≡ Some content → Found o

found : (o : Option Content) → Found o
found None = absent refl
found (Some content) = present content refl

both_none : (o p : Option Content) → option_or o p ≡ None → (o ≡ None) × (p ≡ None)
both_none None p e = (refl, e)
both_none (Some x) p e = absurd (none-some x (sym e))

first_silent : (says : Says) (is : List ReadItem) → first_of says is ≡ None → AreSilent says is
unfolding first_of
first_silent says [] e = All-nil (IsSilent says)
first_silent says (i ∷ is) e =
    let b = both_none (says i.said) (first_of says is) e in
    All-cons (IsSilent says) i is b.0 (first_silent says is b.1)

last_silent : (says : Says) (is : List ReadItem) → last_of says is ≡ None → AreSilent says is
unfolding last_of
last_silent says [] e = All-nil (IsSilent says)
last_silent says (i ∷ is) e =
    let b = both_none (last_of says is) (says i.said) e in
    All-cons (IsSilent says) i is b.1 (last_silent says is b.0)

silent_first : (says : Says) (is : List ReadItem) → AreSilent says is → first_of says is ≡ None
unfolding first_of
silent_first says [] all = refl
silent_first says (i ∷ is) all =
    rw (All-head (IsSilent says) i is all) (silent_first says is (All-tail (IsSilent says) i is all))

first_said : (says : Says) (is : List ReadItem) (v : Content) → first_of says is ≡ Some v → IsFirstSaid says is v
unfolding first_of
first_said says [] v e = absurd (none-some v e)
first_said says (i ∷ is) v e =
    elim (found (says i.said)) [
      | present w s ↦
          let same : w ≡ v = same_Some w v (sym (ap (λ o. option_or o (first_of says is)) s) ∙ e) in
          record { before = []; item = i; after = is; whole = refl; silent = All-nil (IsSilent says); here = s ∙ ap (λ x. Some x) same }
      | absent s ↦
          let more = first_said says is v (sym (ap (λ o. option_or o (first_of says is)) s) ∙ e) in
          record {
            before = i ∷ more.before;
            item = more.item;
            after = more.after;
            whole = ap (λ xs. i ∷ xs) more.whole;
            silent = All-cons (IsSilent says) i more.before s more.silent;
            here = more.here;
          }
    ]

last_said : (says : Says) (is : List ReadItem) (v : Content) → last_of says is ≡ Some v → IsLastSaid says is v
unfolding last_of
last_said says [] v e = absurd (none-some v e)
last_said says (i ∷ is) v e =
    elim (found (last_of says is)) [
      | present w s ↦
          let same : w ≡ v = same_Some w v (sym (ap (λ o. option_or o (says i.said)) s) ∙ e) in
          let more = last_said says is v (s ∙ ap (λ x. Some x) same) in
          record {
            before = i ∷ more.before;
            item = more.item;
            after = more.after;
            whole = ap (λ xs. i ∷ xs) more.whole;
            silent = more.silent;
            here = more.here;
          }
      | absent s ↦
          record {
            before = [];
            item = i;
            after = is;
            whole = refl;
            silent = last_silent says is s;
            here = sym (ap (λ o. option_or o (says i.said)) s) ∙ e;
          }
    ]

-- ---- what mentions say

abbrev Names : Type 0
Names = List ℕ → Option (List Mention)

use_is_silent : (c : Capability) (s : Said) → is_use s ≡ true → said_itself c s ≡ None
use_is_silent c (said_flag d) e = cc
use_is_silent c (said_number d n) e = cc
use_is_silent c (said_text d t) e = cc
use_is_silent c (said_cancel d) e = cc
use_is_silent c (said_import name) e = refl

own_is_silent : (f : Names) (c : Capability) (s : Said) → is_use s ≡ false → said_by_use f c s ≡ None
own_is_silent f c (said_flag d) e = refl
own_is_silent f c (said_number d n) e = refl
own_is_silent f c (said_text d t) e = refl
own_is_silent f c (said_cancel d) e = refl
own_is_silent f c (said_import name) e = cc

one_mention : (c : Capability) (m : Mention) (ms : List Mention) → Some (m ∷ []) ≡ Some ms → contents ms c ≡ cond (same_capability m.0 c) (Some m.1) None
unfolding contents
one_mention c m ms e = rw (← same_Some (m ∷ []) ms e) refl

-- what an item says
item_says : (f : Names) (c : Capability) (s : Said) (ms : List Mention) → mentions_of f s ≡ Some ms
    → contents ms c ≡ option_or (said_itself c s) (said_by_use f c s)
item_says f c (said_flag d) ms e = one_mention c (d, content_true) ms e ∙ sym (option_or-none (said_itself c (said_flag d)))
item_says f c (said_number d n) ms e = one_mention c (d, content_number n) ms e ∙ sym (option_or-none (said_itself c (said_number d n)))
item_says f c (said_text d t) ms e = one_mention c (d, content_text t) ms e ∙ sym (option_or-none (said_itself c (said_text d t)))
item_says f c (said_cancel d) ms e = one_mention c (d, content_cancelled) ms e ∙ sym (option_or-none (said_itself c (said_cancel d)))
item_says f c (said_import name) ms e = sym (ap (option_and_then (λ (l : List Mention). contents l c)) e)

-- what an item or its use says
abbrev said_by : Names → Capability → Said → Option Content
said_by f c s = option_or (said_itself c s) (said_by_use f c s)

nothing_said : (c : Capability) (ms : List Mention) → Some [] ≡ Some ms → contents ms c ≡ None
unfolding contents
nothing_said c ms e = rw (← same_Some [] ms e) refl

-- items in order say what the first of them says
items_say : (f : Names) (c : Capability) (is : List ReadItem) (ms : List Mention) → expand_items f is ≡ Some ms → contents ms c ≡ first_of (said_by f c) is
unfolding first_of
items_say f c [] ms e = nothing_said c ms e
items_say f c (i ∷ is) ms e =
    let p = joined_parts (mentions_of f i.said) (expand_items f is) ms e in
    ap (λ l. contents l c) (sym p.whole) ∙ said-append p.front p.back c
    ∙ ap (λ o. option_or o (contents p.back c)) (item_says f c i.said p.front p.front_is)
    ∙ ap (option_or (said_by f c i.said)) (items_say f c is p.back p.back_is)

first_same : (one other : Says) (is : List ReadItem) → All (λ (item : ReadItem). one item.said ≡ other item.said) is → first_of one is ≡ first_of other is
unfolding first_of
first_same one other [] all = refl
first_same one other (i ∷ is) all =
    let P = λ (item : ReadItem). one item.said ≡ other item.said in
    rw (All-head P i is all, first_same one other is (All-tail P i is all)) refl

first_append : (says : Says) (is js : List ReadItem) → first_of says (is ++ js) ≡ option_or (first_of says is) (first_of says js)
unfolding first_of
first_append says [] js = refl
first_append says (i ∷ is) js =
    ap (option_or (says i.said)) (first_append says is js) ∙ sym (option_or-assoc (says i.said) (first_of says is) (first_of says js))

-- the uses say what the first of them says
uses_say : (f : Names) (c : Capability) (is : List ReadItem) (ms : List Mention) → expand_items f (use_items is) ≡ Some ms
    → contents ms c ≡ first_of (said_by_use f c) is
unfolding first_of
uses_say f c [] ms e = nothing_said c ms e
uses_say f c (i ∷ is) ms e =
    elim (cases_Bool (is_use i.said)) [
      | inl t ↦
          let there : both_lists (mentions_of f i.said) (expand_items f (use_items is)) ≡ Some ms = rw t at e in
          let p = joined_parts (mentions_of f i.said) (expand_items f (use_items is)) ms there in
          let here : contents p.front c ≡ said_by_use f c i.said =
          item_says f c i.said p.front p.front_is ∙ ap (λ o. option_or o (said_by_use f c i.said)) (use_is_silent c i.said t) in
          ap (λ l. contents l c) (sym p.whole) ∙ said-append p.front p.back c ∙ ap (λ o. option_or o (contents p.back c)) here
          ∙ ap (option_or (said_by_use f c i.said)) (uses_say f c is p.back p.back_is)
      | inr n ↦
          let there : expand_items f (use_items is) ≡ Some ms = rw n at e in
          uses_say f c is ms there ∙ sym (ap (λ o. option_or o (first_of (said_by_use f c) is)) (own_is_silent f c i.said n))
    ]

-- the other items, from the last to the first, say what the last of them says
own_say : (f : Names) (c : Capability) (is : List ReadItem) (ms : List Mention) → expand_items f (own_items is) ≡ Some ms
    → contents ms c ≡ last_of (said_itself c) is
unfolding last_of
own_say f c [] ms e = nothing_said c ms e
own_say f c (i ∷ is) ms e =
    elim (cases_Bool (is_use i.said)) [
      | inl t ↦
          let there : expand_items f (own_items is) ≡ Some ms = rw t at e in
          own_say f c is ms there
          ∙ sym (ap (option_or (last_of (said_itself c) is)) (use_is_silent c i.said t) ∙ option_or-none (last_of (said_itself c) is))
      | inr n ↦
          let there : expand_items f (own_items is ++ i ∷ []) ≡ Some ms = rw n at e in
          let p = joined_parts (expand_items f (own_items is)) (expand_items f (i ∷ [])) ms (sym (expand_items-append f (own_items is) (i ∷ [])) ∙ there) in
          let q = joined_parts (mentions_of f i.said) (Some []) p.back p.back_is in
          let here : contents p.back c ≡ said_itself c i.said =
          ap (λ l. contents l c) (sym q.whole) ∙ said-append q.front q.back c
          ∙ ap (option_or (contents q.front c)) (nothing_said c q.back q.back_is) ∙ option_or-none (contents q.front c)
          ∙ item_says f c i.said q.front q.front_is ∙ ap (option_or (said_itself c i.said)) (own_is_silent f c i.said n)
          ∙ option_or-none (said_itself c i.said) in
          ap (λ l. contents l c) (sym p.whole) ∙ said-append p.front p.back c
          ∙ ap (λ o. option_or o (contents p.back c)) (own_say f c is p.front p.front_is) ∙ ap (option_or (last_of (said_itself c) is)) here
    ]

-- a block says the last of what it says itself, and else the first of what its uses say, but no cancel
own_first_says : (f : Names) (is : List ReadItem) (ms : List Mention) (c : Capability) → block_mentions OwnFirst f is ≡ Some ms
    → contents ms c ≡ option_or (last_of (said_itself c) is) (without_cancel (first_of (said_by_use f c) is))
own_first_says f is ms c e =
    let p = joined_parts (expand_items f (own_items is)) (option_map uncancelled (expand_items f (use_items is))) ms e in
    let m = mapped_part uncancelled (expand_items f (use_items is)) p.back p.back_is in
    ap (λ l. contents l c) (sym p.whole) ∙ said-append p.front p.back c
    ∙ ap (λ o. option_or o (contents p.back c)) (own_say f c is p.front p.front_is)
    ∙ ap (option_or (last_of (said_itself c) is)) (ap (λ l. contents l c) (sym m.mapped) ∙ uncancelled-says m.before c
    ∙ ap without_cancel (uses_say f c is m.before m.is))

pub own_comes_first : OwnMentionsComeFirst
own_comes_first f is ms e c =
    let itself = last_of (said_itself c) is in
    let by_use = first_of (said_by_use f c) is in
    let says = own_first_says f is ms c e in
    elim (found itself) [
      | present v s ↦
          subst (SaysOwnFirst f is c) (sym (says ∙ ap (λ o. option_or o (without_cancel by_use)) s)) (says_itself v (last_said (said_itself c) is v s))
      | absent s ↦
          let silent = last_silent (said_itself c) is s in
          let rest : contents ms c ≡ without_cancel by_use = says ∙ ap (λ o. option_or o (without_cancel by_use)) s in
          elim (found by_use) [
            | present v u ↦
                subst (SaysOwnFirst f is c) (sym (rest ∙ ap without_cancel u)) (says_by_use v silent (first_said (said_by_use f c) is v u))
            | absent u ↦
                subst (SaysOwnFirst f is c) (sym (rest ∙ ap without_cancel u)) (says_nothing silent (first_silent (said_by_use f c) is u))
          ]
    ]

-- ---- where the rules agree

all_to : (P Q : ReadItem → Type 0) → ((item : ReadItem) → P item → Q item) → (is : List ReadItem) → All P is → All Q is
all_to P Q h [] all = All-nil Q
all_to P Q h (i ∷ is) all = All-cons Q i is (h i (All-head P i is all)) (all_to P Q h is (All-tail P i is all))

all_of : (Q : ReadItem → Type 0) → ((item : ReadItem) → Q item) → (is : List ReadItem) → All Q is
all_of Q h [] = All-nil Q
all_of Q h (i ∷ is) = All-cons Q i is (h i) (all_of Q h is)

there : (before after : List ReadItem) (item : ReadItem) → slice_get (before ++ item ∷ after) (length before) ≡ Some item
there [] after item = refl
there (b ∷ bs) after item = there bs after item

-- what an item says no later one says
never_twice : (i : ReadItem) (is : List ReadItem) → SayNothingTwice (i ∷ is) → (c : Capability) (v w : Content) → said_itself c i.said ≡ Some v
    → last_of (said_itself c) is ≡ Some w → ⊥
never_twice i is once c v w e f =
    let l = last_said (said_itself c) is w f in
    let stands : slice_get is (length l.before) ≡ Some l.item = ap (λ xs. slice_get xs (length l.before)) l.whole ∙ there l.before l.after l.item in
    let never : 0 ≡ suc (length l.before) =
    once c 0 (suc (length l.before)) i l.item refl stands (ap (λ o. is_some o) e) (ap (λ o. is_some o) l.here) in
    omega (arith, never)

once_later : (i : ReadItem) (is : List ReadItem) → SayNothingTwice (i ∷ is) → SayNothingTwice is
once_later i is once c a b one other s t u w = let e : suc a ≡ suc b = once c (suc a) (suc b) one other s t u w in omega (arith, e)

first_is_last : (c : Capability) (is : List ReadItem) → SayNothingTwice is → first_of (said_itself c) is ≡ last_of (said_itself c) is
unfolding first_of last_of
first_is_last c [] once = refl
first_is_last c (i ∷ is) once =
    let first = first_of (said_itself c) is in
    let last = last_of (said_itself c) is in
    elim (found (said_itself c i.said)) [
      | absent s ↦
          ap (λ o. option_or o first) s ∙ first_is_last c is (once_later i is once) ∙ sym (ap (option_or last) s ∙ option_or-none last)
      | present v s ↦
          elim (found last) [
            | present w l ↦ absurd (never_twice i is once c v w s l)
            | absent l ↦ ap (λ o. option_or o first) s ∙ sym (ap (λ o. option_or o (said_itself c i.said)) l ∙ s)
          ]
    ]

-- if uses come last, what is said first is what a block says itself, and else what its uses say
uses_behind : (f : Names) (c : Capability) (own uses : List ReadItem) → All (λ (item : ReadItem). is_use item.said ≡ false) own
    → All (λ (item : ReadItem). is_use item.said ≡ true) uses
    → first_of (said_by f c) (own ++ uses) ≡ option_or (first_of (said_itself c) (own ++ uses)) (first_of (said_by_use f c) (own ++ uses))
uses_behind f c own uses are used =
    let IsOwn = λ (item : ReadItem). is_use item.said ≡ false in
    let IsUse = λ (item : ReadItem). is_use item.said ≡ true in
    let own_first : first_of (said_by f c) own ≡ first_of (said_itself c) own =
    first_same (said_by f c) (said_itself c) own (all_to IsOwn (λ (item : ReadItem). said_by f c item.said ≡ said_itself c item.said)
    (λ i n. ap (option_or (said_itself c i.said)) (own_is_silent f c i.said n) ∙ option_or-none (said_itself c i.said)) own are) in
    let use_first : first_of (said_by f c) uses ≡ first_of (said_by_use f c) uses =
    first_same (said_by f c) (said_by_use f c) uses (all_to IsUse (λ (item : ReadItem). said_by f c item.said ≡ said_by_use f c item.said)
    (λ i t. ap (λ o. option_or o (said_by_use f c i.said)) (use_is_silent c i.said t)) uses used) in
    let no_own : first_of (said_itself c) uses ≡ None =
    silent_first (said_itself c) uses (all_to IsUse (IsSilent (said_itself c)) (λ i t. use_is_silent c i.said t) uses used) in
    let no_use : first_of (said_by_use f c) own ≡ None =
    silent_first (said_by_use f c) own (all_to IsOwn (IsSilent (said_by_use f c)) (λ i n. own_is_silent f c i.said n) own are) in
    let itself = first_of (said_itself c) own in
    let by_use = first_of (said_by_use f c) uses in
    first_append (said_by f c) own uses ∙ ap (λ o. option_or o (first_of (said_by f c) uses)) own_first ∙ ap (option_or itself) use_first
    ∙ sym (ap (λ o. option_or o (first_of (said_by_use f c) (own ++ uses))) (first_append (said_itself c) own uses ∙ ap (option_or itself) no_own
    ∙ option_or-none itself)
    ∙ ap (option_or itself) (first_append (said_by_use f c) own uses ∙ ap (λ o. option_or o by_use) no_use))

uses_amid : (before after : List ReadItem) (item : ReadItem) (name : List ℕ) → used_name item.said ≡ Some name → Uses (before ++ item ∷ after) name
uses_amid [] after item name e = inl e
uses_amid (b ∷ bs) after item name e = inr (uses_amid bs after item name e)

-- what a use says, it says of a name
record Named (f : Names) (c : Capability) (s : Said) (v : Content) : Type 0 where
  name : List ℕ
  used : used_name s ≡ Some name
  says : said_by_use f c (said_import name) ≡ Some v

named : (f : Names) (c : Capability) (s : Said) (v : Content) → said_by_use f c s ≡ Some v → Named f c s v
named f c (said_flag d) v e = absurd (none-some v e)
named f c (said_number d n) v e = absurd (none-some v e)
named f c (said_text d t) v e = absurd (none-some v e)
named f c (said_cancel d) v e = absurd (none-some v e)
named f c (said_import name) v e = record { name = name; used = refl; says = e }

abbrev IsMore : Names → Names → Type 0
IsMore f g = (name : List ℕ) (ms : List Mention) → f name ≡ Some ms → g name ≡ Some ms

abbrev said_by_all : Capability → Option (List Mention) → Option Content
said_by_all c o = option_and_then (λ (ms : List Mention). contents ms c) o

says_more : (f g : Names) → IsMore f g → (c : Capability) (name : List ℕ) (v : Content) → said_by_use f c (said_import name) ≡ Some v
    → said_by_use g c (said_import name) ≡ Some v
says_more f g more c name v e = by_mentions (f name) refl e
  where
    by_mentions : (o : Option (List Mention)) → f name ≡ o → said_by_all c o ≡ Some v → said_by_all c (g name) ≡ Some v
    by_mentions None is h = absurd (none-some v h)
    by_mentions (Some ms) is h = ap (said_by_all c) (more name ms is) ∙ h

uncancelled_same : (o : Option Content) → (o ≡ Some content_cancelled → ⊥) → without_cancel o ≡ o
uncancelled_same None never = refl
uncancelled_same (Some content_true) never = refl
uncancelled_same (Some (content_number n)) never = refl
uncancelled_same (Some (content_text t)) never = refl
uncancelled_same (Some content_cancelled) never = absurd (never refl)

-- a plain block: `deep` has more mentions than `f`
no_cancel : (deep f : Names) (is : List ReadItem) → IsPlain deep is → IsMore f deep → (c : Capability) → first_of (said_by_use f c) is ≡ Some content_cancelled
    → ⊥
no_cancel deep f is plain more c e =
    let l = first_said (said_by_use f c) is content_cancelled e in
    let n = named f c l.item.said content_cancelled l.here in
    let used : Uses is n.name = subst (λ xs. Uses xs n.name) (sym l.whole) (uses_amid l.before l.after l.item n.name n.used) in
    plain.none_cancelled c n.name used (says_more f deep more c n.name content_cancelled n.says)

use_same : (f g : Names) → ((name : List ℕ) → SaySame (f name) (g name)) → (c : Capability) (s : Said) → said_by_use g c s ≡ said_by_use f c s
use_same f g same c (said_flag d) = refl
use_same f g same c (said_number d n) = refl
use_same f g same c (said_text d t) = refl
use_same f g same c (said_cancel d) = refl
use_same f g same c (said_import name) = sym ((same name).same c)

abbrev IsThere : Option (List Mention) → Type 0
IsThere o = (ms : List Mention) × (o ≡ Some ms)

left_there : (o q : Option (List Mention)) → SaySame o q → IsThere q → IsThere o
left_there (Some ms) q s h = (ms, refl)
left_there None q s h = absurd (none-there (s.there ∙ ap (λ x. is_some x) h.1))
  where
    none-there : false ≡ true → ⊥
    none-there e = cc

right_there : (o q : Option (List Mention)) → SaySame o q → IsThere o → IsThere q
right_there o (Some ms) s h = (ms, refl)
right_there o None s h = absurd (none-there (sym s.there ∙ ap (λ x. is_some x) h.1))
  where
    none-there : false ≡ true → ⊥
    none-there e = cc

-- what a plain block says by both rules
plain_same : (deep f g : Names) (is : List ReadItem) → IsPlain deep is → IsMore f deep → ((name : List ℕ) → SaySame (f name) (g name))
    → SaySame (block_mentions Leftmost f is) (block_mentions OwnFirst g is)
plain_same deep f g is plain more same = by_mentions (block_mentions Leftmost f is) (block_mentions OwnFirst g is) refl refl
  where
    says : (ms ns : List Mention) → block_mentions Leftmost f is ≡ Some ms → block_mentions OwnFirst g is ≡ Some ns → (c : Capability)
        → contents ms c ≡ contents ns c
    says ms ns e h c =
        let itself = first_of (said_itself c) is in
        let by_use = first_of (said_by_use f c) is in
        let split : first_of (said_by f c) is ≡ option_or itself by_use =
        subst (λ xs. first_of (said_by f c) xs ≡ option_or (first_of (said_itself c) xs) (first_of (said_by_use f c) xs)) (sym plain.uses_last)
        (uses_behind f c plain.own plain.uses plain.own_are plain.uses_are) in
        let used : first_of (said_by_use g c) is ≡ by_use =
        first_same (said_by_use g c) (said_by_use f c) is
        (all_of (λ (item : ReadItem). said_by_use g c item.said ≡ said_by_use f c item.said) (λ i. use_same f g same c i.said) is) in
        let kept : without_cancel (first_of (said_by_use g c) is) ≡ by_use =
        ap without_cancel used ∙ uncancelled_same by_use (no_cancel deep f is plain more c) in
        items_say f c is ms e ∙ split
        ∙ sym (own_first_says g is ns c h ∙ ap (λ o. option_or o (without_cancel (first_of (said_by_use g c) is))) (sym (first_is_last c is plain.once))
        ∙ ap (option_or itself) kept)

    by_mentions : (o q : Option (List Mention)) → block_mentions Leftmost f is ≡ o → block_mentions OwnFirst g is ≡ q → SaySame o q
    by_mentions None None e h = record { there = refl; same = λ c. refl }
    by_mentions None (Some ns) e h =
        let all = block_there Leftmost f is (λ n u. left_there (f n) (g n) (same n) (used_is_in OwnFirst g is n ns u h)) in
        absurd (none-some all.0 (sym e ∙ all.1))
    by_mentions (Some ms) None e h =
        let all = block_there OwnFirst g is (λ n u. right_there (f n) (g n) (same n) (used_is_in Leftmost f is n ms u e)) in
        absurd (none-some all.0 (sym h ∙ all.1))
    by_mentions (Some ms) (Some ns) e h = record { there = refl; same = λ c. says ms ns e h c }

-- ---- in a list of blocks

same_broken : (b : Bool) (o q : Option (List Mention)) → SaySame o q → SaySame (cond b None o) (cond b None q)
same_broken true o q s = record { there = refl; same = λ c. refl }
same_broken false o q s = s

same_as : (o p q r : Option (List Mention)) → o ≡ p → q ≡ r → SaySame p r → SaySame o q
same_as o p q r e f s = rw (e, f) s

owned_by_rule : (r : Rule) (bs : List Reading) (name : List ℕ) → owner_block (all_by_rule r bs) name ≡ option_map (by_rule r) (owner_block bs name)
owned_by_rule r [] name = refl
owned_by_rule r (b ∷ bs) name = by_name (is_among name b.names) (owned_by_rule r bs name)
  where
    by_name : (t : Bool) → owner_block (all_by_rule r bs) name ≡ option_map (by_rule r) (owner_block bs name)
        → cond t (Some (by_rule r b)) (owner_block (all_by_rule r bs) name) ≡ option_map (by_rule r) (cond t (Some b) (owner_block bs name))
    by_name true e = refl
    by_name false e = e

name_by_rule : (r : Rule) (bs : List Reading) (depth : ℕ) (name : List ℕ) (o : Option Reading) → owner_block bs name ≡ o
    → names_at (owner_block (all_by_rule r bs)) depth name ≡ option_and_then (expand (owner_block (all_by_rule r bs)) depth) (option_map (by_rule r) o)
name_by_rule r bs depth name o e =
    ap (option_and_then (expand (owner_block (all_by_rule r bs)) depth)) (owned_by_rule r bs name ∙ ap (option_map (by_rule r)) e)

agree : (bs : List Reading) → ArePlain bs → (depth : ℕ) → depth ≤ suc (length bs) → (at : ℕ) (b : Reading) → slice_get bs at ≡ Some b
    → SaySame (expand (owner_block (all_by_rule Leftmost bs)) depth (by_rule Leftmost b)) (expand (owner_block (all_by_rule OwnFirst bs)) depth (by_rule OwnFirst b))
agree bs plain zero le at b s = record { there = refl; same = λ c. refl }
agree bs plain (suc d) le at b s =
    let left = owner_block (all_by_rule Leftmost bs) in
    let own = owner_block (all_by_rule OwnFirst bs) in
    let names : (name : List ℕ) → SaySame (names_at left d name) (names_at own d name) = λ name.
    elim (owning bs name) [
      | nobody o none ↦
          same_as (names_at left d name) None (names_at own d name) None (name_by_rule Leftmost bs d name None none) (name_by_rule OwnFirst bs d name None none)
          (record { there = refl; same = λ c. refl })
      | somebody p block h ↦
          same_as (names_at left d name) (expand left d (by_rule Leftmost block)) (names_at own d name) (expand own d (by_rule OwnFirst block))
          (name_by_rule Leftmost bs d name (Some block) h.is) (name_by_rule OwnFirst bs d name (Some block) h.is)
          (agree bs plain d (omega (arith, le)) p block h.stands)
    ] in
    same_broken (is_broken b) (block_mentions Leftmost (names_at left d) b.items) (block_mentions OwnFirst (names_at own d) b.items)
    (plain_same (names_at left (length bs)) (names_at left d) (names_at own d) b.items (plain at b s) (names_at-le left d (length bs) (omega (arith, le))) names)

pub rules_agree : RulesAgreeOnPlainBlocks
rules_agree bs plain at b s =
    let left = owner_block (all_by_rule Leftmost bs) in
    let own = owner_block (all_by_rule OwnFirst bs) in
    same_as (expand left (suc (length (all_by_rule Leftmost bs))) (by_rule Leftmost b)) (expand left (suc (length bs)) (by_rule Leftmost b))
    (expand own (suc (length (all_by_rule OwnFirst bs))) (by_rule OwnFirst b)) (expand own (suc (length bs)) (by_rule OwnFirst b))
    (ap (λ n. expand left (suc n) (by_rule Leftmost b)) (length-map bs (by_rule Leftmost)))
    (ap (λ n. expand own (suc n) (by_rule OwnFirst b)) (length-map bs (by_rule OwnFirst)))
    (agree bs plain (suc (length bs)) (omega arith) at b s)
