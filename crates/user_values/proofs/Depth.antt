-- An expansion is equal at each greater depth.
use Rattle.std.proofs.Common.{◌≡◌, ℕ, zero, suc, ◌+◌, ◌-◌, ◌≤◌, Bool, true, false, cond, List, [], ◌∷◌, ◌++◌, Option, Some, None, option_and_then}
use Rattle.std.proofs.Common.{option_map, refl, sym, ap, ◌∙◌, arith, append_assoc}
use Rattle.std.specs.Option.{option_or}
use Rattle.std.specs.Str.{bytes_eq}
use Rattle.std.proofs.lemmas.Option.{same_Some, none-some}
use Rattle.ti_text.specs.Lists.{both_lists}
use Rattle.ti_source.specs.declared.parsing.Rule.{Rule}
use Rattle.ti_source.specs.declared.parsing.Rule.TheVariants.{Leftmost, OwnFirst}
use Rattle.ti_source.specs.Parsing.{reading_of_text}
use Rattle.base_meaning.specs.Expansion.{is_broken}
use Rattle.user_items.specs.Verdicts.{UserSaid, says, imports}
use Rattle.user_items.specs.Reading.{ReadUserItem}
use Rattle.user_items.specs.Parsing.{user_reading_of_text}
use Rattle.user_values.specs.Expansion.{UserMention, first_said, mentions_of, expand_items, own_items, use_items, uncancelled, block_mentions, owner_text, expand_by}

abbrev pub Mentions : Type 0
Mentions = Option (List UserMention)

-- ---- what two lists joined say

pub record AreJoined (a b : Mentions) (ms : List UserMention) : Type 0 where
  pub front : List UserMention
  pub back : List UserMention
  pub front_is : a ≡ Some front
  pub back_is : b ≡ Some back
  pub whole : front ++ back ≡ ms

pub joined_parts : (a b : Mentions) (ms : List UserMention) → both_lists a b ≡ Some ms → AreJoined a b ms
joined_parts None b ms e = absurd (none-some ms e)
joined_parts (Some xs) None ms e = absurd (none-some ms e)
joined_parts (Some xs) (Some ys) ms e =
    record { front = xs; back = ys; front_is = refl; back_is = refl; whole = same_Some (xs ++ ys) ms e }

joined-assoc : (a b c : Mentions) → both_lists a (both_lists b c) ≡ both_lists (both_lists a b) c
joined-assoc None b c = refl
joined-assoc (Some xs) None c = refl
joined-assoc (Some xs) (Some ys) None = refl
joined-assoc (Some xs) (Some ys) (Some zs) = ap (λ ws. Some ws) (sym (append_assoc xs ys zs))

joined-nothing : (o : Mentions) → o ≡ both_lists (Some []) o
joined-nothing None = refl
joined-nothing (Some xs) = refl

pub expand_items-append : (f : List ℕ → Mentions) (is js : List ReadUserItem) → expand_items f (is ++ js) ≡ both_lists (expand_items f is) (expand_items f js)
expand_items-append f [] js = joined-nothing (expand_items f js)
expand_items-append f (i ∷ is) js =
    ap (both_lists (mentions_of f i.said)) (expand_items-append f is js) ∙ joined-assoc (mentions_of f i.said) (expand_items f is) (expand_items f js)

pub first_said-append : (xs ys : List UserMention) (name : List ℕ) → first_said (xs ++ ys) name ≡ option_or (first_said xs name) (first_said ys name)
first_said-append [] ys name = refl
first_said-append (x ∷ xs) ys name =
    elim (bytes_eq x.0 name) as (λ b. cond b (Some x.1) (first_said (xs ++ ys) name) ≡ option_or (cond b (Some x.1) (first_said xs name))
    (first_said ys name)) [
      | true ↦ refl
      | false ↦ first_said-append xs ys name
    ]

-- ---- what is there remains if names give more

abbrev pub Names : Type 0
Names = List ℕ → Mentions

abbrev pub GivesMore : Names → Names → Type 0
GivesMore f g = (name : List ℕ) (ms : List UserMention) → f name ≡ Some ms → g name ≡ Some ms

mentions_of-more : (f g : Names) → GivesMore f g → (said : UserSaid) (ms : List UserMention) → mentions_of f said ≡ Some ms → mentions_of g said ≡ Some ms
mentions_of-more f g h (says name content) ms e = e
mentions_of-more f g h (imports name) ms e = h name ms e

pub expand_items-more : (f g : Names) → GivesMore f g → (items : List ReadUserItem) (ms : List UserMention) → expand_items f items ≡ Some ms
    → expand_items g items ≡ Some ms
expand_items-more f g h [] ms e = e
expand_items-more f g h (i ∷ is) ms e =
    let p = joined_parts (mentions_of f i.said) (expand_items f is) ms e in
    rw (mentions_of-more f g h i.said p.front p.front_is, expand_items-more f g h is p.back p.back_is, p.whole) refl

-- ---- a list that is mapped or not there

pub record IsMapped (f : List UserMention → List UserMention) (o : Mentions) (ms : List UserMention) : Type 0 where
  pub before : List UserMention
  pub is : o ≡ Some before
  pub mapped : f before ≡ ms

pub mapped_part : (f : List UserMention → List UserMention) (o : Mentions) (ms : List UserMention) → option_map f o ≡ Some ms → IsMapped f o ms
mapped_part f None ms e = absurd (none-some ms e)
mapped_part f (Some x) ms e = record { before = x; is = refl; mapped = same_Some (f x) ms e }

pub block-more : (rule : Rule) (f g : Names) → GivesMore f g → (items : List ReadUserItem) (ms : List UserMention) → block_mentions rule f items ≡ Some ms
    → block_mentions rule g items ≡ Some ms
block-more Leftmost f g h items ms e = expand_items-more f g h items ms e
block-more OwnFirst f g h items ms e =
    let p = joined_parts (expand_items f (own_items items)) (option_map uncancelled (expand_items f (use_items items))) ms e in
    let m = mapped_part uncancelled (expand_items f (use_items items)) p.back p.back_is in
    rw (expand_items-more f g h (own_items items) p.front p.front_is, expand_items-more f g h (use_items items) m.before m.is, m.mapped, p.whole) refl

-- ---- a block at each depth

abbrev pub names_at : Rule → List (List ℕ) → ℕ → Names
names_at rule texts depth name = option_and_then (expand_by rule texts depth) (owner_text texts name)

and_then-more : (f g : List ℕ → Mentions) → ((t : List ℕ) (ms : List UserMention) → f t ≡ Some ms → g t ≡ Some ms)
    → (o : Option (List ℕ)) (ms : List UserMention) → option_and_then f o ≡ Some ms → option_and_then g o ≡ Some ms
and_then-more f g h None ms e = absurd (none-some ms e)
and_then-more f g h (Some t) ms e = h t ms e

if_sound : (b : Bool) (o q : Mentions) (ms : List UserMention) → (o ≡ Some ms → q ≡ Some ms) → cond b None o ≡ Some ms → cond b None q ≡ Some ms
if_sound true o q ms h e = absurd (none-some ms e)
if_sound false o q ms h e = h e

expand-suc : (rule : Rule) (texts : List (List ℕ)) (k : ℕ) (t : List ℕ) (ms : List UserMention) → expand_by rule texts k t ≡ Some ms
    → expand_by rule texts (suc k) t ≡ Some ms
expand-suc rule texts zero t ms e = absurd (none-some ms e)
expand-suc rule texts (suc k) t ms e =
    let items = (user_reading_of_text t).items in
    if_sound (is_broken (reading_of_text t)) (block_mentions rule (names_at rule texts k) items)
    (block_mentions rule (names_at rule texts (suc k)) items) ms
    (block-more rule (names_at rule texts k) (names_at rule texts (suc k))
    (λ name. and_then-more (expand_by rule texts k) (expand_by rule texts (suc k)) (expand-suc rule texts k) (owner_text texts name)) items ms) e

expand-add : (rule : Rule) (texts : List (List ℕ)) (d k : ℕ) (t : List ℕ) (ms : List UserMention) → expand_by rule texts k t ≡ Some ms
    → expand_by rule texts (d + k) t ≡ Some ms
expand-add rule texts zero k t ms e = let i : 0 + k ≡ k = omega arith in rw i e
expand-add rule texts (suc d) k t ms e =
    let i : suc d + k ≡ suc (d + k) = omega arith in rw i (expand-suc rule texts (d + k) t ms (expand-add rule texts d k t ms e))

pub expand-le : (rule : Rule) (texts : List (List ℕ)) (k m : ℕ) (t : List ℕ) (ms : List UserMention) → k ≤ m → expand_by rule texts k t ≡ Some ms
    → expand_by rule texts m t ≡ Some ms
expand-le rule texts k m t ms l e = let i : (m - k) + k ≡ m = omega arith in rw (← i) (expand-add rule texts (m - k) k t ms e)

pub expand_same : (rule : Rule) (texts : List (List ℕ)) (j k : ℕ) (t : List ℕ) (ms ns : List UserMention) → expand_by rule texts j t ≡ Some ms
    → expand_by rule texts k t ≡ Some ns → ms ≡ ns
expand_same rule texts j k t ms ns e f =
    let deep = expand-add rule texts k j t ms e in
    let other = expand-le rule texts k (k + j) t ns (omega arith) f in
    same_Some ms ns (sym deep ∙ other)

pub names_at-le : (rule : Rule) (texts : List (List ℕ)) (k m : ℕ) → k ≤ m → GivesMore (names_at rule texts k) (names_at rule texts m)
names_at-le rule texts k m l name =
    and_then-more (expand_by rule texts k) (expand_by rule texts m) (λ t ms. expand-le rule texts k m t ms l) (owner_text texts name)

-- ---- an expansion in its parts

-- a block that expands is sound, and so are its items together
pub record Expands (rule : Rule) (texts : List (List ℕ)) (depth : ℕ) (text : List ℕ) (ms : List UserMention) : Type 0 where
  pub below : ℕ
  pub deeper : depth ≡ suc below
  pub sound : is_broken (reading_of_text text) ≡ false
  pub items : block_mentions rule (names_at rule texts below) (user_reading_of_text text).items ≡ Some ms

if_parts : (b : Bool) (o : Mentions) (ms : List UserMention) → cond b None o ≡ Some ms → (b ≡ false) × (o ≡ Some ms)
if_parts true o ms e = absurd (none-some ms e)
if_parts false o ms e = (refl, e)

pub expands : (rule : Rule) (texts : List (List ℕ)) (depth : ℕ) (text : List ℕ) (ms : List UserMention) → expand_by rule texts depth text ≡ Some ms
    → Expands rule texts depth text ms
expands rule texts zero text ms e = absurd (none-some ms e)
expands rule texts (suc below) text ms e =
    let p = if_parts (is_broken (reading_of_text text)) (block_mentions rule (names_at rule texts below) (user_reading_of_text text).items) ms e in
    record { below = below; deeper = refl; sound = p.0; items = p.1 }

pub expanded : (rule : Rule) (texts : List (List ℕ)) (below : ℕ) (text : List ℕ) (ms : List UserMention) → is_broken (reading_of_text text) ≡ false
    → block_mentions rule (names_at rule texts below) (user_reading_of_text text).items ≡ Some ms → expand_by rule texts (suc below) text ≡ Some ms
expanded rule texts below text ms sound e = rw sound e
