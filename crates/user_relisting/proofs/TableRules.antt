-- What a block says of the capabilities of the tables by a rule, given what its items say.
use Rattle.std.proofs.Common.{◌≡◌, ℕ, suc, Bool, true, false, cond, List, [], ◌∷◌, ◌++◌, map, Option, Some, None, option_map, refl, ap, sym}
use Rattle.std.proofs.Common.{◌∙◌, append_assoc}
use Rattle.std.specs.List.{AllByRecursion}
use Rattle.std.specs.Option.{option_or}
use Rattle.std.proofs.lemmas.List.{append-nil, map-append}
use Rattle.ti_caps.specs.Tables.{Capability, same_capability}
use Rattle.ti_caps.proofs.Same.{same_capability-true}
use Rattle.ti_text.specs.Lists.{both_lists}
use Rattle.ti_source.specs.declared.parsing.Rule.{Rule}
use Rattle.ti_source.specs.declared.parsing.Rule.TheVariants.{Leftmost, OwnFirst}
use Rattle.ti_source.specs.Parsing.{reading_of_text}
use Rattle.ti_source.specs.Reading.{Reading, ReadItem, Said, said_flag, said_number, said_text, said_cancel, said_import}
use Rattle.ti_layout.specs.Values.{Content, Contents, content_true, content_number, content_text, content_cancelled, Mention, contents}
use Rattle.ti_layout.specs.View.{Entry}
use Rattle.base_meaning.specs.Expansion.{expand, is_broken, mentions_of, expand_items, is_use, own_items, use_items, uncancelled, block_mentions}
use Rattle.base_meaning.specs.Readings.{reading_by}
use Rattle.base_meaning.proofs.MentionMerging.{said-append as contents-append, uncancelled-says}
use Rattle.base_meaning.proofs.Ruling.{read_by}
use Rattle.ti_list.specs.Listing.{item_for, items_for}
use Rattle.ti_list.specs.RelativeSource.{first_name}
use Rattle.tools_relisting.specs.Layouts.{uses_of}
use Rattle.tools_relisting.proofs.Compiling.{used_at}
use Rattle.tools_relisting.proofs.Listing.{expand_says, expand_items-says, mention_for, mentions_for, own-expands}
use Rattle.user_relisting.proofs.Ordering.{both-parts, joined-assoc, joined-nothing, kept, last_first, or-nothing}

-- the mentions of each used name
abbrev pub Names : Type 0
Names = List ℕ → Option (List Mention)

-- ---- what items say

-- what is said by the block itself, from the last to the first
abbrev pub own_said : List Said → List Said
own_said [] = []
own_said (s ∷ ss) = cond (is_use s) (own_said ss) (own_said ss ++ s ∷ [])

-- and the uses, in order
abbrev pub use_said : List Said → List Said
use_said [] = []
use_said (s ∷ ss) = cond (is_use s) (s ∷ use_said ss) (use_said ss)

-- the mentions by a rule
abbrev pub block_says : Rule → Names → List Said → Option (List Mention)
block_says Leftmost of_name ss = expand_says of_name ss
block_says OwnFirst of_name ss = both_lists (expand_says of_name (own_said ss)) (option_map uncancelled (expand_says of_name (use_said ss)))

abbrev said_of : ReadItem → Said
said_of item = item.said

own-items : (items : List ReadItem) → map said_of (own_items items) ≡ own_said (map said_of items)
own-items [] = refl
own-items (item ∷ items) = by_test (is_use item.said) ∙ ap (λ (own : List Said). cond (is_use item.said) own (own ++ item.said ∷ [])) (own-items items) where
  by_test : (b : Bool) → map said_of (cond b (own_items items) (own_items items ++ item ∷ []))
      ≡ cond b (map said_of (own_items items)) (map said_of (own_items items) ++ item.said ∷ [])
  by_test true = refl
  by_test false = map-append said_of (own_items items) (item ∷ [])

use-items : (items : List ReadItem) → map said_of (use_items items) ≡ use_said (map said_of items)
use-items [] = refl
use-items (item ∷ items) = by_test (is_use item.said) ∙ ap (λ (used : List Said). cond (is_use item.said) (item.said ∷ used) used) (use-items items) where
  by_test : (b : Bool) → map said_of (cond b (item ∷ use_items items) (use_items items))
      ≡ cond b (item.said ∷ map said_of (use_items items)) (map said_of (use_items items))
  by_test true = refl
  by_test false = refl

block-says : (rule : Rule) (of_name : Names) (items : List ReadItem)
    → block_mentions rule of_name items ≡ block_says rule of_name (map (λ (item : ReadItem). item.said) items)
block-says Leftmost of_name items = expand_items-says of_name items
block-says OwnFirst of_name items =
    let ss = map (λ (item : ReadItem). item.said) items in
    let own : expand_items of_name (own_items items) ≡ expand_says of_name (own_said ss) =
    expand_items-says of_name (own_items items) ∙ ap (expand_says of_name) (own-items items) in
    let used : expand_items of_name (use_items items) ≡ expand_says of_name (use_said ss) =
    expand_items-says of_name (use_items items) ∙ ap (expand_says of_name) (use-items items) in
    rw (own, used) refl

-- a block that is not broken expands to what it says
pub block-expands : (rule : Rule) (env : List ℕ → Option Reading) (depth : ℕ) (text : List ℕ) (ss : List Said) → is_broken (reading_of_text text) ≡ false
    → map (λ (item : ReadItem). item.said) (reading_of_text text).items ≡ ss
    → expand env (suc depth) (reading_by rule text) ≡ block_says rule (used_at env depth) ss
block-expands rule env depth text ss sound is =
    ap (expand env (suc depth)) (read_by rule text)
    ∙ rw sound (block-says rule (used_at env depth) (reading_of_text text).items ∙ ap (block_says rule (used_at env depth)) is)

-- ---- a block's own mentions, and those of its uses

-- the mention of an item that is no use
abbrev own_mention : Said → List Mention
own_mention (said_flag c) = (c, content_true) ∷ []
own_mention (said_number c n) = (c, content_number n) ∷ []
own_mention (said_text c t) = (c, content_text t) ∷ []
own_mention (said_cancel c) = (c, content_cancelled) ∷ []
own_mention (said_import name) = []

-- the mentions of what is said by the block itself
abbrev pub pairs_of : List Said → List Mention
pairs_of [] = []
pairs_of (s ∷ ss) = own_mention s ++ pairs_of ss

-- the mentions of a block that has these itself and those by its uses
abbrev pub mentions_by : Rule → List Mention → List Mention → List Mention
mentions_by Leftmost own used = own ++ used
mentions_by OwnFirst own used = last_first own ++ uncancelled used

abbrev pub IsOwn : Said → Type 0
IsOwn s = is_use s ≡ false

pub pairs-append : (xs ys : List Said) → pairs_of (xs ++ ys) ≡ pairs_of xs ++ pairs_of ys
pairs-append [] ys = refl
pairs-append (x ∷ xs) ys =
    ap (λ (ms : List Mention). own_mention x ++ ms) (pairs-append xs ys) ∙ sym (append_assoc (own_mention x) (pairs_of xs) (pairs_of ys))

pub says-append : (of_name : Names) (xs ys : List Said) → expand_says of_name (xs ++ ys) ≡ both_lists (expand_says of_name xs) (expand_says of_name ys)
says-append of_name [] ys = joined-nothing (expand_says of_name ys)
says-append of_name (x ∷ xs) ys =
    ap (both_lists (mentions_of of_name x)) (says-append of_name xs ys)
    ∙ joined-assoc (mentions_of of_name x) (expand_says of_name xs) (expand_says of_name ys)

-- own items give their mentions
pub own-expand : (of_name : Names) (own : List Said) → AllByRecursion IsOwn own → expand_says of_name own ≡ Some (pairs_of own)
own-expand of_name [] all = refl
own-expand of_name (said_import name ∷ own) all = let never : true ≡ false = all.0 in absurd cc
own-expand of_name (s ∷ own) all = ap (both_lists (mentions_of of_name s)) (own-expand of_name own all.1)

-- the own ones of any items do, from the last to the first
pub own-last : (of_name : Names) (ss : List Said) → expand_says of_name (own_said ss) ≡ Some (last_first (pairs_of ss))
own-last of_name [] = refl
own-last of_name (said_import name ∷ ss) = own-last of_name ss
own-last of_name (s ∷ ss) =
    says-append of_name (own_said ss) (s ∷ []) ∙ ap (λ o. both_lists o (expand_says of_name (s ∷ []))) (own-last of_name ss)

pub own-skipped : (own more : List Said) → AllByRecursion IsOwn own → use_said (own ++ more) ≡ use_said more
own-skipped [] more all = refl
own-skipped (said_import name ∷ own) more all = let never : true ≡ false = all.0 in absurd cc
own-skipped (s ∷ own) more all = own-skipped own more all.1

pub own-alone : (own : List Said) → AllByRecursion IsOwn own → use_said own ≡ []
own-alone own all = ap use_said (sym (append-nil own)) ∙ own-skipped own [] all

-- ---- the items of a table, and uses after them

module _ (c : Capability) (items : List Said) (ms : List Mention) (more : List Said) (others : List Mention) where
  one-pair : (o : Option Content) → pairs_of (items ++ more) ≡ ms ++ others → pairs_of ((item_for c o ++ items) ++ more) ≡ (mention_for c o ++ ms) ++ others
  one-pair None e = e
  one-pair (Some content_true) e = ap (λ (xs : List Mention). (c, content_true) ∷ xs) e
  one-pair (Some (content_number n)) e = ap (λ (xs : List Mention). (c, content_number n) ∷ xs) e
  one-pair (Some (content_text t)) e = ap (λ (xs : List Mention). (c, content_text t) ∷ xs) e
  one-pair (Some content_cancelled) e = ap (λ (xs : List Mention). (c, content_cancelled) ∷ xs) e

  one-skipped : (o : Option Content) → use_said (items ++ more) ≡ use_said more → use_said ((item_for c o ++ items) ++ more) ≡ use_said more
  one-skipped None e = e
  one-skipped (Some content_true) e = e
  one-skipped (Some (content_number n)) e = e
  one-skipped (Some (content_text t)) e = e
  one-skipped (Some content_cancelled) e = e

table-pairs : (table : Contents) (cs : List Capability) (more : List Said) → pairs_of (items_for table cs ++ more) ≡ mentions_for table cs ++ pairs_of more
table-pairs table [] more = refl
table-pairs table (c ∷ cs) more =
    one-pair c (items_for table cs) (mentions_for table cs) more (pairs_of more) (table c) (table-pairs table cs more)

table-skipped : (table : Contents) (cs : List Capability) (more : List Said) → use_said (items_for table cs ++ more) ≡ use_said more
table-skipped table [] more = refl
table-skipped table (c ∷ cs) more = one-skipped c (items_for table cs) [] more [] (table c) (table-skipped table cs more)

uses-silent : (others : List Entry) → pairs_of (uses_of others) ≡ []
uses-silent [] = refl
uses-silent (other ∷ others) = uses-silent others

uses-alone : (others : List Entry) → use_said (uses_of others) ≡ uses_of others
uses-alone [] = refl
uses-alone (other ∷ others) = ap (λ (ss : List Said). said_import (first_name other.names) ∷ ss) (uses-alone others)

pub uses-last : (rule : Rule) (of_name : Names) (table : Contents) (cs : List Capability) (others : List Entry) (used : List Mention)
    → expand_says of_name (uses_of others) ≡ Some used
    → block_says rule of_name (items_for table cs ++ uses_of others) ≡ Some (mentions_by rule (mentions_for table cs) used)
uses-last Leftmost of_name table cs others used is = own-expands of_name table cs (uses_of others) ∙ rw is refl
uses-last OwnFirst of_name table cs others used is =
    let ss = items_for table cs ++ uses_of others in
    let itself : expand_says of_name (own_said ss) ≡ Some (last_first (mentions_for table cs)) =
    own-last of_name ss
    ∙ ap (λ ms. Some (last_first ms)) (table-pairs table cs (uses_of others) ∙ ap (λ ms. mentions_for table cs ++ ms) (uses-silent others)
    ∙ append-nil (mentions_for table cs)) in
    let by_use : expand_says of_name (use_said ss) ≡ Some used =
    ap (expand_says of_name) (table-skipped table cs (uses_of others) ∙ uses-alone others) ∙ is in
    rw (itself, by_use) refl

-- ---- what they say

-- whether a mention gives its capability what a table has of it
abbrev IsOf : Contents → Mention → Type 0
IsOf table m = table m.0 ≡ Some m.1

table-of : (table : Contents) (cs : List Capability) → AllByRecursion (IsOf table) (mentions_for table cs)
table-of table [] = tt
table-of table (c ∷ cs) =
    both-parts (IsOf table) (mention_for c (table c)) (mentions_for table cs) (one (table c) refl) (table-of table cs) where
      one : (o : Option Content) → table c ≡ o → AllByRecursion (IsOf table) (mention_for c o)
      one None e = tt
      one (Some x) e = (e, tt)

agreed : (table : Contents) (ms : List Mention) (c : Capability) (x : Content) → AllByRecursion (IsOf table) ms → table c ≡ Some x
    → option_or (contents ms c) (Some x) ≡ Some x
unfolding contents
agreed table [] c x all is = refl
agreed table (m ∷ ms) c x all is = by_name (same_capability m.0 c) refl (agreed table ms c x all.1 is) where
  by_name : (b : Bool) → same_capability m.0 c ≡ b → option_or (contents ms c) (Some x) ≡ Some x
      → option_or (cond b (Some m.1) (contents ms c)) (Some x) ≡ Some x
  by_name true e later = sym all.0 ∙ ap table (same_capability-true m.0 c e) ∙ is
  by_name false e later = later

-- mentions of which each gives its capability what it has say the same from the last to the first
last-same : (table : Contents) (ms : List Mention) (c : Capability) → AllByRecursion (IsOf table) ms → contents (last_first ms) c ≡ contents ms c
unfolding contents
last-same table [] c all = refl
last-same table (m ∷ ms) c all =
    contents-append (last_first ms) (m ∷ []) c
    ∙ ap (λ o. option_or o (contents (m ∷ []) c)) (last-same table ms c all.1) ∙ by_name (same_capability m.0 c) refl
  where
    by_name : (b : Bool) → same_capability m.0 c ≡ b → option_or (contents ms c) (cond b (Some m.1) None) ≡ cond b (Some m.1) (contents ms c)
    by_name true e = agreed table ms c m.1 all.1 (ap table (sym (same_capability-true m.0 c e)) ∙ all.0)
    by_name false e = or-nothing (contents ms c)

pub own-tell : (rule : Rule) (table : Contents) (cs : List Capability) (used : List Mention) (c : Capability)
    → contents (mentions_by rule (mentions_for table cs) used) c ≡ option_or (contents (mentions_for table cs) c) (kept rule (contents used c))
own-tell Leftmost table cs used c = contents-append (mentions_for table cs) used c
own-tell OwnFirst table cs used c =
    let own = mentions_for table cs in
    contents-append (last_first own) (uncancelled used) c
    ∙ ap (λ o. option_or o (contents (uncancelled used) c)) (last-same table own c (table-of table cs))
    ∙ ap (option_or (contents own c)) (uncancelled-says used c)

-- of a capability of which mentions say nothing they say nothing from the last to the first
pub last-silent : (ms : List Mention) (c : Capability) → contents ms c ≡ None → contents (last_first ms) c ≡ None
unfolding contents
last-silent [] c e = refl
last-silent (m ∷ ms) c e = contents-append (last_first ms) (m ∷ []) c ∙ by_name (same_capability m.0 c) (last-silent ms c) e where
  by_name : (b : Bool) → (contents ms c ≡ None → contents (last_first ms) c ≡ None) → cond b (Some m.1) (contents ms c) ≡ None
      → option_or (contents (last_first ms) c) (cond b (Some m.1) None) ≡ None
  by_name true later e = cc
  by_name false later e = or-nothing (contents (last_first ms) c) ∙ later e

pub nothing-said : (c : Capability) → contents [] c ≡ None
unfolding contents
nothing-said c = refl
