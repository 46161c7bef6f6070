-- What holds of all that the items of a source say holds of what its blocks say.
use Rattle.std.proofs.Common.{◌≡◌, ℕ, zero, suc, Bool, true, false, cond, List, [], ◌∷◌, ◌++◌, Option, Some, None, is_some, option_map, option_and_then, slice_get, refl, subst}
use Rattle.std.specs.List.{All, AllByRecursion, Contains}
use Rattle.std.specs.Str.{bytes_eq}
use Rattle.std.specs.Cmp.Lexicographic.{bytes_decides}
use Rattle.std.proofs.lemmas.List.Elements.{All-nil, All-cons, All-head, All-tail, All-append, All-filter, All-weaker, All-contains_itself, All-from_recursion, recursion_from_All}
use Rattle.std.proofs.lemmas.Option.{same_Some, none-some, option_and_then_some}
use Rattle.ti_text.specs.Lists.{both_lists}
use Rattle.ti_source.specs.Parsing.{reading_of_text}
use Rattle.ti_source.specs.declared.parsing.Rule.{Rule}
use Rattle.ti_source.specs.declared.parsing.Rule.TheVariants.{Leftmost, OwnFirst}
use Rattle.ti_source.specs.Reading.{Reading, ReadItem, Said, said_flag, said_number, said_text, said_cancel, said_import}
use Rattle.ti_layout.specs.Values.{Content, content_true, content_number, content_text, content_cancelled, Mention}
use Rattle.base_meaning.specs.Owner.{is_among, owner, owner_block, readings}
use Rattle.base_meaning.specs.Expansion.{is_broken, mentions_of as mentions_there, expand_items as expand_there, expand, own_items, use_items, block_mentions}
use Rattle.base_meaning.specs.Expansion.{uncancelled as dropped}
use Rattle.base_meaning.proofs.Ruling.{mapped_part, own_items-all, use_items-all, uncancelled-all}
use Rattle.user_items.specs.Verdicts.{UserSaid, says, imports}
use Rattle.user_items.specs.Reading.{ReadUserItem}
use Rattle.user_items.specs.Parsing.{user_reading_of_text}
use Rattle.user_extension.specs.UserDefined.{Row}
use Rattle.ti_layout.specs.Laws.{without_cancel}
use Rattle.user_values.specs.Expansion.{UserMention, first_said, mentions_of, expand_items, owner_text, expand_by}
use Rattle.user_values.specs.Expansion.{is_use as is_user_use, own_items as own_user_items, use_items as use_user_items}
use Rattle.user_values.specs.Expansion.{block_mentions as user_block_mentions, uncancelled as user_dropped}
use Rattle.user_values.proofs.Depth.{mapped_part as user_mapped_part}
use Rattle.user_compiling.specs.Rows.{AreRowsOf}
use Rattle.user_compiling.proofs.RowLists.{row_same, uncancelled}

-- ---- lists of mentions

both-have : {X : Type 0} (P : X → Type 0) (o p : Option (List X)) (all : List X) → both_lists o p ≡ Some all
    → ((xs : List X) → o ≡ Some xs → All P xs) → ((ys : List X) → p ≡ Some ys → All P ys) → All P all
both-have P None p all e first second = absurd (none-some all e)
both-have P (Some xs) None all e first second = absurd (none-some all e)
both-have P (Some xs) (Some ys) all e first second =
    subst (λ zs. All P zs) (same_Some (xs ++ ys) all e) (All-append P xs ys (first xs refl) (second ys refl))

one-has : {X : Type 0} (P : X → Type 0) (x : X) (all : List X) → P x → Some (x ∷ []) ≡ Some all → All P all
one-has P x all has e = subst (λ zs. All P zs) (same_Some (x ∷ []) all e) (All-cons P x [] has (All-nil P))

none-has : {X : Type 0} (P : X → Type 0) (all : List X) → Some [] ≡ Some all → All P all
none-has P all e = subst (λ zs. All P zs) (same_Some [] all e) (All-nil P)

if_whole : {X : Type 0} (broken : Bool) (o : Option X) (x : X) → cond broken None o ≡ Some x → o ≡ Some x
if_whole true o x e = absurd (none-some x e)
if_whole false o x e = e

-- ---- of the tables

-- what an item gives to a capability has P
abbrev pub SaidHas : (Mention → Type 0) → Said → Type 0
SaidHas P (said_flag c) = P ((c, content_true))
SaidHas P (said_number c n) = P ((c, content_number n))
SaidHas P (said_text c t) = P ((c, content_text t))
SaidHas P (said_cancel c) = P ((c, content_cancelled))
SaidHas P (said_import name) = Unit {0}

-- so does what the items of a block give
abbrev pub ItemsHave : (Mention → Type 0) → Reading → Type 0
ItemsHave P block = AllByRecursion (λ (item : ReadItem). SaidHas P item.said) block.items

item-has : (P : Mention → Type 0) (of_name : List ℕ → Option (List Mention)) → ((name : List ℕ) (ms : List Mention) → of_name name ≡ Some ms → All P ms)
    → (s : Said) (ms : List Mention) → SaidHas P s → mentions_there of_name s ≡ Some ms → All P ms
item-has P of_name h (said_flag c) ms has e = one-has P ((c, content_true)) ms has e
item-has P of_name h (said_number c n) ms has e = one-has P ((c, content_number n)) ms has e
item-has P of_name h (said_text c t) ms has e = one-has P ((c, content_text t)) ms has e
item-has P of_name h (said_cancel c) ms has e = one-has P ((c, content_cancelled)) ms has e
item-has P of_name h (said_import name) ms has e = h name ms e

items-have : (P : Mention → Type 0) (of_name : List ℕ → Option (List Mention)) → ((name : List ℕ) (ms : List Mention) → of_name name ≡ Some ms → All P ms)
    → (items : List ReadItem) (ms : List Mention) → AllByRecursion (λ (item : ReadItem). SaidHas P item.said) items
    → expand_there of_name items ≡ Some ms → All P ms
items-have P of_name h [] ms has e = none-has P ms e
items-have P of_name h (item ∷ items) ms has e =
    both-have P (mentions_there of_name item.said) (expand_there of_name items) ms e (λ xs f. item-has P of_name h item.said xs has.0 f)
    (λ ys f. items-have P of_name h items ys has.1 f)

-- by either rule
ruled-have : (P : Mention → Type 0) (rule : Rule) (of_name : List ℕ → Option (List Mention))
    → ((name : List ℕ) (ms : List Mention) → of_name name ≡ Some ms → All P ms)
    → (items : List ReadItem) (ms : List Mention) → AllByRecursion (λ (item : ReadItem). SaidHas P item.said) items
    → block_mentions rule of_name items ≡ Some ms → All P ms
ruled-have P Leftmost of_name h items ms has e = items-have P of_name h items ms has e
ruled-have P OwnFirst of_name h items ms has e =
    let Has : ReadItem → Type 0 = λ item. SaidHas P item.said in
    let all = All-from_recursion Has items has in
    let own = recursion_from_All Has (own_items items) (own_items-all Has items all) in
    let used = recursion_from_All Has (use_items items) (use_items-all Has items all) in
    both-have P (expand_there of_name (own_items items)) (option_map dropped (expand_there of_name (use_items items))) ms e
    (λ xs f. items-have P of_name h (own_items items) xs own f)
    (λ ys f. let m = mapped_part dropped (expand_there of_name (use_items items)) ys f in
    subst (λ zs. All P zs) m.mapped (uncancelled-all P m.before (items-have P of_name h (use_items items) m.before used m.is)))

pub mentions-have : (P : Mention → Type 0) (env : List ℕ → Option Reading) → ((name : List ℕ) (block : Reading) → env name ≡ Some block → ItemsHave P block)
    → (depth : ℕ) (block : Reading) (ms : List Mention) → ItemsHave P block → expand env depth block ≡ Some ms → All P ms
mentions-have P env good zero block ms has e = absurd (none-some ms e)
mentions-have P env good (suc depth) block ms has e =
    let of_name : List ℕ → Option (List Mention) = λ name. option_and_then (expand env depth) (env name) in
    ruled-have P block.rule of_name
    (λ name more is. option_and_then_some (expand env depth) (env name) more is
    (λ owned o gives. mentions-have P env good depth owned more (good name owned o) gives))
    block.items ms has (if_whole (is_broken block) (block_mentions block.rule of_name block.items) ms e)

owned-at : (P : Reading → Type 0) (b : Reading) (bs : List Reading) (name : List ℕ) (block : Reading) (yes : Bool) → P b
    → (owner_block bs name ≡ Some block → P block) → cond yes (Some b) (owner_block bs name) ≡ Some block → P block
owned-at P b bs name block true here later e = subst P (same_Some b block e) here
owned-at P b bs name block false here later e = later e

-- so does the block that owns a name
pub owned-has : (P : Reading → Type 0) (blocks : List Reading) (name : List ℕ) (block : Reading) → AllByRecursion P blocks
    → owner_block blocks name ≡ Some block → P block
owned-has P [] name block all e = absurd (none-some block e)
owned-has P (b ∷ bs) name block all e = owned-at P b bs name block (is_among name b.names) all.0 (owned-has P bs name block all.1) e

-- ---- of user-defined names

-- what an item gives to a user-defined name has P
abbrev pub UserSaidHas : (UserMention → Type 0) → UserSaid → Type 0
UserSaidHas P (says name content) = P ((name, content))
UserSaidHas P (imports name) = Unit {0}

-- so does what the items of a block give
abbrev pub UserItemsHave : (UserMention → Type 0) → List ℕ → Type 0
UserItemsHave P text = AllByRecursion (λ (item : ReadUserItem). UserSaidHas P item.said) (user_reading_of_text text).items

user-item-has : (P : UserMention → Type 0) (of_name : List ℕ → Option (List UserMention))
    → ((name : List ℕ) (ms : List UserMention) → of_name name ≡ Some ms → All P ms)
    → (s : UserSaid) (ms : List UserMention) → UserSaidHas P s → mentions_of of_name s ≡ Some ms → All P ms
user-item-has P of_name h (says name content) ms has e = one-has P ((name, content)) ms has e
user-item-has P of_name h (imports name) ms has e = h name ms e

user-items-have : (P : UserMention → Type 0) (of_name : List ℕ → Option (List UserMention))
    → ((name : List ℕ) (ms : List UserMention) → of_name name ≡ Some ms → All P ms)
    → (items : List ReadUserItem) (ms : List UserMention) → AllByRecursion (λ (item : ReadUserItem). UserSaidHas P item.said) items
    → expand_items of_name items ≡ Some ms → All P ms
user-items-have P of_name h [] ms has e = none-has P ms e
user-items-have P of_name h (item ∷ items) ms has e =
    both-have P (mentions_of of_name item.said) (expand_items of_name items) ms e (λ xs f. user-item-has P of_name h item.said xs has.0 f)
    (λ ys f. user-items-have P of_name h items ys has.1 f)

own_all : (P : ReadUserItem → Type 0) (b : Bool) (i : ReadUserItem) (own : List ReadUserItem) → P i → All P own → All P (cond b own (own ++ i ∷ []))
own_all P true i own p all = all
own_all P false i own p all = All-append P own (i ∷ []) all (All-cons P i [] p (All-nil P))

own_items_all : (P : ReadUserItem → Type 0) (is : List ReadUserItem) → All P is → All P (own_user_items is)
own_items_all P [] all = all
own_items_all P (i ∷ is) all = own_all P (is_user_use i.said) i (own_user_items is) (All-head P i is all) (own_items_all P is (All-tail P i is all))

use_all : (P : ReadUserItem → Type 0) (b : Bool) (i : ReadUserItem) (used : List ReadUserItem) → P i → All P used → All P (cond b (i ∷ used) used)
use_all P true i used p all = All-cons P i used p all
use_all P false i used p all = all

use_items_all : (P : ReadUserItem → Type 0) (is : List ReadUserItem) → All P is → All P (use_user_items is)
use_items_all P [] all = all
use_items_all P (i ∷ is) all = use_all P (is_user_use i.said) i (use_user_items is) (All-head P i is all) (use_items_all P is (All-tail P i is all))

dropped_all : (P : UserMention → Type 0) (ms : List UserMention) → All P ms → All P (user_dropped ms)
unfolding user_dropped
dropped_all P ms all = All-filter (λ (m : UserMention). is_some (without_cancel (first_said ms m.0))) P ms all

-- by either rule
user-ruled-have : (P : UserMention → Type 0) (rule : Rule) (of_name : List ℕ → Option (List UserMention))
    → ((name : List ℕ) (ms : List UserMention) → of_name name ≡ Some ms → All P ms)
    → (items : List ReadUserItem) (ms : List UserMention) → AllByRecursion (λ (item : ReadUserItem). UserSaidHas P item.said) items
    → user_block_mentions rule of_name items ≡ Some ms → All P ms
user-ruled-have P Leftmost of_name h items ms has e = user-items-have P of_name h items ms has e
user-ruled-have P OwnFirst of_name h items ms has e =
    let Has : ReadUserItem → Type 0 = λ item. UserSaidHas P item.said in
    let all = All-from_recursion Has items has in
    let own = recursion_from_All Has (own_user_items items) (own_items_all Has items all) in
    let used = recursion_from_All Has (use_user_items items) (use_items_all Has items all) in
    both-have P (expand_items of_name (own_user_items items)) (option_map user_dropped (expand_items of_name (use_user_items items))) ms e
    (λ xs f. user-items-have P of_name h (own_user_items items) xs own f)
    (λ ys f. let m = user_mapped_part user_dropped (expand_items of_name (use_user_items items)) ys f in
    subst (λ zs. All P zs) m.mapped (dropped_all P m.before (user-items-have P of_name h (use_user_items items) m.before used m.is)))

pub user-mentions-have : (P : UserMention → Type 0) (rule : Rule) (texts : List (List ℕ))
    → ((at : ℕ) (text : List ℕ) → slice_get texts at ≡ Some text → UserItemsHave P text)
    → (depth : ℕ) (text : List ℕ) (ms : List UserMention) → UserItemsHave P text → expand_by rule texts depth text ≡ Some ms → All P ms
user-mentions-have P rule texts good zero text ms has e = absurd (none-some ms e)
user-mentions-have P rule texts good (suc depth) text ms has e =
    let of_name : List ℕ → Option (List UserMention) = λ name. option_and_then (expand_by rule texts depth) (owner_text texts name) in
    user-ruled-have P rule of_name
    (λ name more is. option_and_then_some (expand_by rule texts depth) (owner_text texts name) more is
    (λ owned o gives. option_and_then_some (slice_get texts) (owner (readings texts) name) owned o
    (λ at p stands. user-mentions-have P rule texts good depth owned more (good at owned stands) gives)))
    (user_reading_of_text text).items ms has
    (if_whole (is_broken (reading_of_text text)) (user_block_mentions rule of_name (user_reading_of_text text).items) ms e)

-- ---- what a name is given

given-at : (P : UserMention → Type 0) (m : UserMention) (ms : List UserMention) (name : List ℕ) (content : Content) (b : Bool) → bytes_eq m.0 name ≡ b → P m
    → (first_said ms name ≡ Some content → P ((name, content))) → cond b (Some m.1) (first_said ms name) ≡ Some content → P ((name, content))
given-at P m ms name content true same here later e =
    subst P (row_same m.0 name m.1 content ((bytes_decides m.0 name).0 same) (same_Some m.1 content e)) here
given-at P m ms name content false other here later e = later e

given-has : (P : UserMention → Type 0) (ms : List UserMention) (name : List ℕ) (content : Content) → All P ms → first_said ms name ≡ Some content
    → P ((name, content))
given-has P [] name content all e = absurd (none-some content e)
given-has P (m ∷ ms) name content all e =
    given-at P m ms name content (bytes_eq m.0 name) refl (All-head P m ms all) (given-has P ms name content (All-tail P m ms all)) e

-- so does each row of a block
pub rows-have : (P : UserMention → Type 0) (ms : List UserMention) (rows : List Row) → AreRowsOf (first_said ms) rows → All P ms → All P rows
rows-have P ms rows are all =
    All-weaker (Contains rows) P
    (λ row here. given-has P ms row.0 row.1 all (uncancelled (first_said ms row.0) row.1 ((are.each row.0 row.1).0 here))) rows (All-contains_itself rows)
