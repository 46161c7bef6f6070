-- The table of a block, made item by item.
use Rattle.std.proofs.Common.{◌≡◌, ℕ, zero, suc, ◌<◌, ◌≤◌, List, [], ◌∷◌, ◌++◌, map, length, Option, Some, None, is_some, option_and_then, slice_get}
use Rattle.std.proofs.Common.{refl, sym, ap, ◌∙◌}
use Rattle.std.specs.Option.{option_map, option_or, IsSome}
use Rattle.std.proofs.lemmas.Bool.{false≢true}
use Rattle.std.proofs.lemmas.List.{length-map, take_all}
use Rattle.std.proofs.lemmas.Option.{same_Some, none-some, slice_get-map, slice_get_read}
use Rattle.std.proofs.Common.{true, false, take, get_or}
use Rattle.ti_source.specs.declared.parsing.Rule.{Rule}
use Rattle.ti_source.specs.declared.parsing.Rule.TheVariants.{Leftmost, OwnFirst}
use Rattle.ti_layout.specs.Values.{Mention, contents}
use Rattle.ti_layout.specs.Laws.{without_cancel}
use Rattle.base_meaning.specs.Readings.{reading_by, readings_by}
use Rattle.base_meaning.specs.ValueTables.{HasTable}
use Rattle.ti_base.proofs.AnyResolving.{resolves_by}
use Rattle.user_items.specs.declared.reading.UserItem.{UserItem}
use Rattle.user_items.specs.Reading.{user_item_of}
use Rattle.ti_text.specs.Lists.{both_lists}
use Rattle.base_meaning.specs.Owner.{owner, readings}
use Rattle.user_items.specs.Verdicts.{imports}
use Rattle.user_items.specs.Reading.{ReadUserItem, UserBlock, user_reading_of}
use Rattle.user_items.specs.declared.reading.UserItems.{UserItems}
use Rattle.user_items.specs.Parsing.{user_reading_of_text}
use Rattle.user_values.specs.Expansion.{UserMention, first_said, mentions_of, expand_items, is_use, own_items, use_items, uncancelled, block_mentions, owner_text, expand_by, expansion_by, user_value_by}
use Rattle.user_values.specs.Tables.{Said, TableSeen, names_by, said_at, AddsSaidBy, IsUserTableBy}
use Rattle.user_values.specs.inside.Settling.{IsTableOfBlock, IsTableOfItems}
use Rattle.user_values.proofs.Depth.{names_at as names_deep, expand_items-append, first_said-append, joined_parts, mapped_part, expands, expanded}
use Rattle.user_values.proofs.Ruling.{use_place, uncancelled-says}
use Rattle.user_values.proofs.Resolving.{found, some_of, as_resolved}

pub table_of_nothing : (rule : Rule) (texts : List (List ℕ)) (said : Said) → ((name : List ℕ) → said name ≡ None) → IsTableOfItems rule texts [] said
table_of_nothing rule texts said h = record { mentions = []; expands_to = refl; is = h }

append_none : {X : Type 0} (xs : List X) → xs ++ [] ≡ xs
append_none [] = refl
append_none (x ∷ xs) = ap (λ ys. x ∷ ys) (append_none xs)

pub table_of_one_more : (rule : Rule) (texts : List (List ℕ)) (items : List ReadUserItem) (item : ReadUserItem) (old new : Said)
    → IsTableOfItems rule texts items old → AddsSaidBy rule texts item.said old new
    → IsTableOfItems rule texts (items ++ item ∷ []) new
table_of_one_more rule texts items item old new h a =
    let f = names_by rule texts in
    record {
      mentions = h.mentions ++ a.0;
      expands_to =
          expand_items-append f items (item ∷ []) ∙ ap (λ o. both_lists o (both_lists (mentions_of f item.said) (Some []))) h.expands_to
          ∙ ap (λ o. both_lists (Some h.mentions) (both_lists o (Some []))) a.1 ∙ ap (λ ms. Some (h.mentions ++ ms)) (append_none a.0);
      is = λ name. a.2 name ∙ ap (λ o. option_or o (first_said a.0 name)) (h.is name) ∙ sym (first_said-append h.mentions a.0 name);
    }

-- if the leftmost mentions decide, the table of all items is what the block says
pub leftmost : (texts : List (List ℕ)) (items : List ReadUserItem) (said : Said) → IsTableOfItems Leftmost texts items said
    → IsTableOfBlock Leftmost texts items said
leftmost texts items said h = record { mentions = h.mentions; expands_to = h.expands_to; is = h.is }

-- else that of its own items, and behind it the values of its uses
pub own_first : (texts : List (List ℕ)) (items : List ReadUserItem) (own used said : Said) → IsTableOfItems OwnFirst texts (own_items items) own
    → IsTableOfItems OwnFirst texts (use_items items) used → ((name : List ℕ) → said name ≡ option_or (own name) (without_cancel (used name)))
    → IsTableOfBlock OwnFirst texts items said
own_first texts items own used said t h says = record {
  mentions = t.mentions ++ uncancelled h.mentions;
  expands_to = rw (t.expands_to, h.expands_to) refl;
  is = λ name.
      says name ∙ ap (λ o. option_or o (without_cancel (used name))) (t.is name)
      ∙ ap (λ o. option_or (first_said t.mentions name) o) (ap without_cancel (h.is name) ∙ sym (uncancelled-says h.mentions name))
      ∙ sym (first_said-append t.mentions (uncancelled h.mentions) name);
}

pub some_from : {X : Type 0} (o : Option X) → IsSome o → (x : X) × (o ≡ Some x)
some_from None h = absurd (false≢true h)
some_from (Some x) h = (x, refl)

-- what the items of a block say is what the block says that resolves
pub table_of_block : (rule : Rule) (texts : List (List ℕ)) (at : ℕ) (text : List ℕ) (said : Said) → slice_get texts at ≡ Some text
    → IsSome (expansion_by rule texts text) → IsTableOfBlock rule texts (user_reading_of_text text).items said → IsUserTableBy rule texts text said
table_of_block rule texts at text said stands some h =
    let whole = some_from (expansion_by rule texts text) some in
    let sound = (expands rule texts (suc (length texts)) text whole.0 whole.1).sound in (
      h.mentions,
      found rule texts at (suc (suc (length texts))) text h.mentions stands
          (expanded rule texts (suc (length texts)) text h.mentions sound h.expands_to),
      h.is,
    )

-- ---- what a block that expands uses

pub record IsSplit {X : Type 0} (xs : List X) (x : X) : Type 0 where
  pub front : List X
  pub back : List X
  pub whole : xs ≡ front ++ x ∷ back

pub split_at : {X : Type 0} (xs : List X) (k : ℕ) (x : X) → slice_get xs k ≡ Some x → IsSplit xs x
split_at [] k x e = absurd (none-some x e)
split_at (y ∷ ys) zero x e = record { front = []; back = ys; whole = ap (λ z. z ∷ ys) (same_Some y x e) }
split_at (y ∷ ys) (suc k) x e = let s = split_at ys k x e in record { front = y ∷ s.front; back = s.back; whole = ap (λ zs. y ∷ zs) s.whole }

pub and_then_parts : {X Y : Type 0} (f : X → Option Y) (o : Option X) (y : Y) → option_and_then f o ≡ Some y → (x : X) × (o ≡ Some x) × (f x ≡ Some y)
and_then_parts f None y e = absurd (none-some y e)
and_then_parts f (Some x) y e = (x, refl, e)

-- a name that a block uses has an owner, which expands one level less
pub record UsesOwner (rule : Rule) (texts : List (List ℕ)) (depth : ℕ) (name : List ℕ) : Type 0 where
  pub below : ℕ
  pub deeper : depth ≡ suc below
  pub at : ℕ
  pub text : List ℕ
  pub mentions : List UserMention
  pub owned : owner (readings texts) name ≡ Some at
  pub stands : slice_get texts at ≡ Some text
  pub expands_to : expand_by rule texts below text ≡ Some mentions

-- what an item gives that has mentions with all others
used_in : (f : List ℕ → Option (List UserMention)) (items : List ReadUserItem) (ms : List UserMention) (k : ℕ) (item : ReadUserItem) (name : List ℕ)
    → expand_items f items ≡ Some ms → slice_get items k ≡ Some item → item.said ≡ imports name → (ns : List UserMention) × (f name ≡ Some ns)
used_in f items ms k item name e s i =
    let split = split_at items k item s in
    let joined = joined_parts (expand_items f split.front) (expand_items f (item ∷ split.back)) ms
    (sym (expand_items-append f split.front (item ∷ split.back)) ∙ ap (expand_items f) (sym split.whole) ∙ e) in
    let here = joined_parts (mentions_of f item.said) (expand_items f split.back) joined.back joined.back_is in
    (here.front, ap (mentions_of f) (sym i) ∙ here.front_is)

used_by : (rule : Rule) (f : List ℕ → Option (List UserMention)) (items : List ReadUserItem) (ms : List UserMention) (k : ℕ) (item : ReadUserItem)
    (name : List ℕ) → block_mentions rule f items ≡ Some ms → slice_get items k ≡ Some item → item.said ≡ imports name
    → (ns : List UserMention) × (f name ≡ Some ns)
used_by Leftmost f items ms k item name e s i = used_in f items ms k item name e s i
used_by OwnFirst f items ms k item name e s i =
    let p = joined_parts (expand_items f (own_items items)) (option_map uncancelled (expand_items f (use_items items))) ms e in
    let m = mapped_part uncancelled (expand_items f (use_items items)) p.back p.back_is in
    let u = use_place items k item s (ap is_use i) in
    used_in f (use_items items) m.before u.0 item name m.is u.1 i

pub used_owner : (rule : Rule) (texts : List (List ℕ)) (depth : ℕ) (text : List ℕ) (ms : List UserMention) (k : ℕ) (item : ReadUserItem) (name : List ℕ)
    → expand_by rule texts depth text ≡ Some ms → slice_get (user_reading_of_text text).items k ≡ Some item → item.said ≡ imports name
    → UsesOwner rule texts depth name
used_owner rule texts depth text ms k item name e s i =
    let p = expands rule texts depth text ms e in
    let used = used_by rule (names_deep rule texts p.below) (user_reading_of_text text).items ms k item name p.items s i in
    let named = and_then_parts (expand_by rule texts p.below) (owner_text texts name) used.0 used.1 in
    let owned = and_then_parts (slice_get texts) (owner (readings texts) name) named.0 named.1 in
    record { below = p.below; deeper = p.deeper; at = owned.0; text = named.0; mentions = used.0; owned = owned.1; stands = owned.2; expands_to = named.2 }

-- ---- the items in memory are those of the text

pub item_read : (texts : List (List ℕ)) (reads : List UserItems) (at : ℕ) (text : List ℕ) (read : UserItems)
    → map user_reading_of reads ≡ map user_reading_of_text texts
    → slice_get texts at ≡ Some text → slice_get reads at ≡ Some read → user_reading_of read ≡ user_reading_of_text text
item_read texts reads at text read e t r =
    same_Some (user_reading_of read) (user_reading_of_text text)
    (sym (slice_get-map user_reading_of reads at ∙ ap (option_map user_reading_of) r) ∙ ap (λ xs. slice_get xs at) e
    ∙ slice_get-map user_reading_of_text texts at ∙ ap (option_map user_reading_of_text) t)

pub read_at : (texts : List (List ℕ)) (reads : List UserItems) (at : ℕ) (read : UserItems) → map user_reading_of reads ≡ map user_reading_of_text texts
    → at < length texts → read ≡ get_or reads at read
    → slice_get reads at ≡ Some read
read_at texts reads at read e within is =
    let n : length texts ≡ length reads = sym (sym (length-map reads user_reading_of) ∙ ap length e ∙ length-map texts user_reading_of_text) in
    slice_get_read reads (length texts) at read n within is

pub item_here : (text : List ℕ) (read : UserItems) (items : List UserItem) (index : ℕ) (item : UserItem) → user_reading_of read ≡ user_reading_of_text text
    → items ≡ read.items.items → index < length items → item ≡ get_or items index item
    → slice_get (user_reading_of_text text).items index ≡ Some (user_item_of item)
item_here text read items index item same d within is =
    ap (λ (b : UserBlock). slice_get b.items index) (sym same) ∙ slice_get-map user_item_of read.items.items index
    ∙ ap (option_map user_item_of) (ap (λ (xs : List UserItem). slice_get xs index) (sym d) ∙ slice_get_read items (length items) index item refl within is)

pub items_whole : (text : List ℕ) (read : UserItems) (items : List UserItem) (index : ℕ) → user_reading_of read ≡ user_reading_of_text text
    → items ≡ read.items.items → length items ≤ index
    → map user_item_of (take index items) ≡ (user_reading_of_text text).items
items_whole text read items index same d past = ap (map user_item_of) (take_all index items past ∙ d) ∙ ap (λ (b : UserBlock). b.items) same

pub item_at_place : (items : List UserItem) (index : ℕ) (item : UserItem) → index < length items → item ≡ get_or items index item
    → slice_get (map user_item_of items) index ≡ Some (user_item_of item)
item_at_place items index item within is =
    slice_get-map user_item_of items index ∙ ap (option_map user_item_of) (slice_get_read items (length items) index item refl within is)

-- ---- a table has the value of each name

pub value_of_table : (rule : Rule) (texts : List (List ℕ)) (at : ℕ) (text : List ℕ) (table : TableSeen) (name : List ℕ) → slice_get texts at ≡ Some text
    → IsUserTableBy rule texts text (said_at table) → without_cancel (said_at table name) ≡ user_value_by rule texts at name
value_of_table rule texts at text table name stands is =
    ap without_cancel (is.2 name)
    ∙ sym (ap (λ o. option_and_then (λ mentions. without_cancel (first_said mentions name)) (option_and_then (expansion_by rule texts) o)) stands
    ∙ ap (λ o. option_and_then (λ mentions. without_cancel (first_said mentions name)) o) is.1)

-- ---- whether a block resolves is known of its table

pub read_by_text : (rule : Rule) (texts : List (List ℕ)) (at : ℕ) (text : List ℕ) → slice_get texts at ≡ Some text
    → slice_get (readings_by rule texts) at ≡ Some (reading_by rule text)
read_by_text rule texts at text stands = slice_get-map (reading_by rule) texts at ∙ ap (option_map (reading_by rule)) stands

none_here : {X : Type 0} (o : Option X) → is_some o ≡ false → o ≡ None
none_here None e = refl
none_here (Some x) e = absurd (false≢true (sym e))

pub unresolved : (rule : Rule) (texts : List (List ℕ)) (text : List ℕ) {B : Type 0} (f : B → List Mention) (r : Option B) → is_some r ≡ false
    → HasTable contents (readings_by rule texts) (reading_by rule text) (option_map f r)
    → expansion_by rule texts text ≡ None
unresolved rule texts text f None e h = none_here (expansion_by rule texts text) (as_resolved rule texts text ∙ (sym (resolves_by rule texts text) ∙ ap is_some h))
unresolved rule texts text f (Some b) e h = absurd (false≢true (sym e))

pub resolved : (rule : Rule) (texts : List (List ℕ)) (text : List ℕ) {B : Type 0} (f : B → List Mention) (r : Option B) → is_some r ≡ true
    → HasTable contents (readings_by rule texts) (reading_by rule text) (option_map f r)
    → IsSome (expansion_by rule texts text)
resolved rule texts text f None e h = absurd (false≢true e)
resolved rule texts text f (Some b) e h =
    let here = some_of (expansion_by rule texts text) (as_resolved rule texts text ∙ (sym (resolves_by rule texts text) ∙ ap is_some h.1)) in
    rw here.1 (is_some_some here.0)
  where
    is_some_some : {X : Type 0} (x : X) → IsSome (Some x)
    is_some_some x = refl
