-- A block says of a capability what the block says that decides it.
use Rattle.std.proofs.Common.{◌≡◌, ℕ, zero, suc, ◌≤◌, Bool, true, false, cond, List, [], ◌∷◌, Option, Some, None, length, slice_get, refl, sym, ap, subst}
use Rattle.std.proofs.Common.{◌∙◌, arith}
use Rattle.std.specs.Prelude.{is_some, option_and_then}
use Rattle.std.specs.Option.{option_map_or, option_or}
use Rattle.std.proofs.lemmas.Option.{none-some, same_Some}
use Rattle.ti_caps.specs.Tables.{Capability, same_capability}
use Rattle.ti_source.specs.Reading.{Reading, ReadItem, Said, said_flag, said_number, said_text, said_cancel, said_import}
use Rattle.ti_layout.specs.Values.{Content, contents, content_true, content_number, content_text, content_cancelled, Mention}
use Rattle.base_meaning.specs.Expansion.{block_mentions, expand, expand_items, expansion, is_broken, mentions_of}
use Rattle.base_meaning.specs.Owner.{owner, owner_block}
use Rattle.base_meaning.specs.Rules.{AreLeftmost}
use Rattle.base_meaning.proofs.Depth.{expand-le, joined_parts, mentions_of-more, names_at, names_at-le}
use Rattle.base_meaning.proofs.MentionMerging.{said-append}
use Rattle.base_meaning.proofs.Owning.{owning, somebody, nobody}
use Rattle.base_meaning.proofs.Ruling.{leftmost-expands}
use Rattle.source_blocks.specs.Deciding.{Decides, DecidersSayIt, SomeBlockDecides, decider, decider_in, decides_it, first_say, hands_it_on, items_of, said_by}
use Rattle.source_blocks.specs.Deciding.{said_of, say_at, say_before, say_of, say_of_mention, say_of_use}
use Rattle.source_blocks.specs.declared.deciding.Say.{Say}
use Rattle.source_blocks.specs.declared.deciding.Say.TheVariants.{Silent, Decisive, HandsOn}
use Rattle.source_blocks.proofs.Deciders.{found_in, in_here, in_later, one_decides}
use Rattle.source_blocks.proofs.Handing.{use_on}

-- ---- a block that resolves

unbroken : (b : Bool) (o : Option (List Mention)) (ms : List Mention) → cond b None o ≡ Some ms → o ≡ Some ms
unbroken true o ms e = absurd (none-some ms e)
unbroken false o ms e = e

-- the mentions of used names
abbrev of_name : List Reading → List ℕ → Option (List Mention)
of_name blocks name = names_at (owner_block blocks) (length blocks) name

-- the block at a position, and what it says
record Says (blocks : List Reading) (at : ℕ) (ms : List Mention) : Type 0 where
  block : Reading
  there : slice_get blocks at ≡ Some block
  expands : expansion blocks block ≡ Some ms

said_is : (blocks : List Reading) (c : Capability) (at : ℕ) (ms : List Mention) → Says blocks at ms → said_by blocks c at ≡ contents ms c
said_is blocks c at ms s =
    ap (option_and_then (said_of blocks c)) s.there ∙ ap (option_and_then (λ (m : List Mention). contents m c)) s.expands

-- the owner of a name, and what it says
record IsUse (blocks : List Reading) (name : List ℕ) (ms : List Mention) : Type 0 where
  at : ℕ
  owns : owner blocks name ≡ Some at
  says : Says blocks at ms

use_of : (blocks : List Reading) (name : List ℕ) (ms : List Mention) → of_name blocks name ≡ Some ms → IsUse blocks name ms
use_of blocks name ms e =
    let expanded = option_and_then (expand (owner_block blocks) (length blocks)) in
    elim (owning blocks name) [
      | nobody o d ↦ absurd (none-some ms (sym (ap expanded d) ∙ e))
      | somebody at block h ↦ record {
        at = at;
        owns = h.owns;
        says = record {
          block = block;
          there = h.stands;
          expands = expand-le (owner_block blocks) (length blocks) (suc (length blocks)) block ms (omega arith) (sym (ap expanded h.is) ∙ e);
        };
      }
    ]

-- ---- what an item says

mention_silent : (c other : Capability) (says : Content) → say_of_mention c other ≡ Silent → contents ((other, says) ∷ []) c ≡ None
unfolding contents
mention_silent c other says e =
    elim (same_capability other c) as (λ b. cond b Decisive Silent ≡ Silent → cond b (Some says) None ≡ None) [ true ↦ λ f. cc | false ↦ λ f. refl ] e

mention_stays : (c other : Capability) (next : ℕ) → say_of_mention c other ≡ HandsOn next → ⊥
mention_stays c other next e = elim (same_capability other c) as (λ b. cond b Decisive Silent ≡ HandsOn next → ⊥) [ true ↦ λ f. cc | false ↦ λ f. cc ] e

quiet : (o : Option Content) (at : ℕ) → cond (is_some o) (HandsOn at) Silent ≡ Silent → o ≡ None
quiet None at e = refl
quiet (Some v) at e = cc

loud : (o : Option Content) (at next : ℕ) → cond (is_some o) (HandsOn at) Silent ≡ HandsOn next → (at ≡ next) × ((v : Content) × (o ≡ Some v))
loud None at next e = cc
loud (Some v) at next e = (cc, (v, refl))

item_silent : (blocks : List Reading) (c : Capability) (said : Said) (ms : List Mention) → say_of blocks c said ≡ Silent
    → mentions_of (of_name blocks) said ≡ Some ms → contents ms c ≡ None
item_silent blocks c (said_flag other) ms s e = subst (λ (m : List Mention). contents m c ≡ None) (same_Some _ ms e) (mention_silent c other content_true s)
item_silent blocks c (said_number other n) ms s e =
    subst (λ (m : List Mention). contents m c ≡ None) (same_Some _ ms e) (mention_silent c other (content_number n) s)
item_silent blocks c (said_text other t) ms s e =
    subst (λ (m : List Mention). contents m c ≡ None) (same_Some _ ms e) (mention_silent c other (content_text t) s)
item_silent blocks c (said_cancel other) ms s e =
    subst (λ (m : List Mention). contents m c ≡ None) (same_Some _ ms e) (mention_silent c other content_cancelled s)
item_silent blocks c (said_import name) ms s e =
    let u = use_of blocks name ms e in
    sym (said_is blocks c u.at ms u.says) ∙ quiet (said_by blocks c u.at) u.at (ap (say_of_use blocks c) (sym u.owns) ∙ s)

-- what the block says that an item hands a capability on to
record Handed (blocks : List Reading) (c : Capability) (next : ℕ) (ms : List Mention) : Type 0 where
  value : Content
  says : Says blocks next ms
  is : contents ms c ≡ Some value

item_hands : (blocks : List Reading) (c : Capability) (said : Said) (next : ℕ) (ms : List Mention) → say_of blocks c said ≡ HandsOn next
    → mentions_of (of_name blocks) said ≡ Some ms → Handed blocks c next ms
item_hands blocks c (said_flag other) next ms s e = absurd (mention_stays c other next s)
item_hands blocks c (said_number other n) next ms s e = absurd (mention_stays c other next s)
item_hands blocks c (said_text other t) next ms s e = absurd (mention_stays c other next s)
item_hands blocks c (said_cancel other) next ms s e = absurd (mention_stays c other next s)
item_hands blocks c (said_import name) next ms s e =
    let u = use_of blocks name ms e in
    let l = loud (said_by blocks c u.at) u.at next (ap (say_of_use blocks c) (sym u.owns) ∙ s) in
    record {
      value = l.1.0;
      says = subst (λ (n : ℕ). Says blocks n ms) l.0 u.says;
      is = sym (said_is blocks c u.at ms u.says) ∙ l.1.1;
    }

-- ---- along the way

-- the mentions of used names, expanded to at most that depth
abbrev Shallow : List Reading → ℕ → List ℕ → Option (List Mention)
Shallow blocks depth name = names_at (owner_block blocks) depth name

-- the block that an item hands a capability on to, expanded to that depth, says this of it
record Next (blocks : List Reading) (c : Capability) (depth next : ℕ) (v : Content) : Type 0 where
  block : Reading
  mentions : List Mention
  there : slice_get blocks next ≡ Some block
  expands : expand (owner_block blocks) depth block ≡ Some mentions
  is : contents mentions c ≡ Some v

-- items that say this of a capability decide it, or hand it on to a block that does
data First (blocks : List Reading) (c : Capability) (depth : ℕ) (v : Content) (say : Say) : Type 0 where
  decisive : say ≡ Decisive → First blocks c depth v say
  handed : (next : ℕ) → say ≡ HandsOn next → Next blocks c depth next v → First blocks c depth v say

first_as : (blocks : List Reading) (c : Capability) (depth : ℕ) (v : Content) (one other : Say) → one ≡ other → First blocks c depth v other
    → First blocks c depth v one
first_as blocks c depth v one other e (decisive d) = decisive (e ∙ d)
first_as blocks c depth v one other e (handed next h n) = handed next (e ∙ h) n

-- the owner of a used name is the next block
use_next : (blocks : List Reading) (c : Capability) (depth next : ℕ) (name : List ℕ) (ms : List Mention) (v : Content) → owner blocks name ≡ Some next
    → Shallow blocks depth name ≡ Some ms → contents ms c ≡ Some v → Next blocks c depth next v
use_next blocks c depth next name ms v owns e is =
    let expanded = option_and_then (expand (owner_block blocks) depth) in
    elim (owning blocks name) [
      | nobody o d ↦ absurd (none-some next (sym o ∙ owns))
      | somebody at block h ↦ record {
        block = block;
        mentions = ms;
        there = ap (slice_get blocks) (same_Some next at (sym owns ∙ h.owns)) ∙ h.stands;
        expands = sym (ap expanded h.is) ∙ e;
        is = is;
      }
    ]

item_next : (blocks : List Reading) (c : Capability) (depth next : ℕ) (said : Said) (ms : List Mention) (v : Content) → say_of blocks c said ≡ HandsOn next
    → mentions_of (Shallow blocks depth) said ≡ Some ms → contents ms c ≡ Some v → Next blocks c depth next v
item_next blocks c depth next (said_flag other) ms v s e is = absurd (mention_stays c other next s)
item_next blocks c depth next (said_number other n) ms v s e is = absurd (mention_stays c other next s)
item_next blocks c depth next (said_text other t) ms v s e is = absurd (mention_stays c other next s)
item_next blocks c depth next (said_cancel other) ms v s e is = absurd (mention_stays c other next s)
item_next blocks c depth next (said_import name) ms v s e is =
    use_next blocks c depth next name ms v (use_on blocks c (owner blocks name) next s) e is

first_of_items : (blocks : List Reading) (c : Capability) (depth : ℕ) (items : List ReadItem) (ms : List Mention) (v : Content) → depth ≤ length blocks
    → expand_items (Shallow blocks depth) items ≡ Some ms → contents ms c ≡ Some v → First blocks c depth v (first_say blocks c items)
unfolding contents
first_of_items blocks c depth [] ms v le e is = absurd (none-some v (ap (λ (m : List Mention). contents m c) (same_Some [] ms e) ∙ is))
first_of_items blocks c depth (item ∷ items) ms v le e is =
    let p = joined_parts (mentions_of (Shallow blocks depth) item.said) (expand_items (Shallow blocks depth) items) ms e in
    let both : option_or (contents p.front c) (contents p.back c) ≡ Some v =
    sym (said-append p.front p.back c) ∙ ap (λ (m : List Mention). contents m c) p.whole ∙ is in
    let later = first_say blocks c items in
    let deep =
    mentions_of-more (Shallow blocks depth) (of_name blocks) (names_at-le (owner_block blocks) depth (length blocks) le) item.said p.front p.front_is in
    elim (say_of blocks c item.said)
    as (λ s. say_of blocks c item.said ≡ s → First blocks c depth v (say_before s later)) [
      | Silent ↦ λ s.
          let silent = item_silent blocks c item.said p.front s deep in
          first_of_items blocks c depth items p.back v le p.back_is (ap (λ (o : Option Content). option_or o (contents p.back c)) (sym silent) ∙ both)
      | Decisive ↦ λ s. decisive refl
      | HandsOn next ↦ λ s.
          let h = item_hands blocks c item.said next p.front s deep in
          let now : contents p.front c ≡ Some v = h.is ∙ (ap (λ (o : Option Content). option_or o (contents p.back c)) (sym h.is) ∙ both) in
          handed next refl (item_next blocks c depth next item.said p.front v s p.front_is now)
    ] refl

-- a way to the block that decides, which says it too
record Found (blocks : List Reading) (c : Capability) (depth at : ℕ) (v : Content) : Type 0 where
  by : ℕ
  found : decider_in blocks c depth at ≡ Some by
  decides : Decides blocks c at by
  says : said_by blocks c by ≡ Some v

items_are : (blocks : List Reading) (at : ℕ) (block : Reading) → slice_get blocks at ≡ Some block → items_of blocks at ≡ block.items
items_are blocks at block there = ap (λ (o : Option Reading). option_map_or (λ (b : Reading). b.items) o []) there

says_there : (blocks : List Reading) (c : Capability) (depth at : ℕ) (block : Reading) (ms : List Mention) (v : Content) → depth ≤ suc (length blocks)
    → slice_get blocks at ≡ Some block
    → expand (owner_block blocks) depth block ≡ Some ms → contents ms c ≡ Some v → said_by blocks c at ≡ Some v
says_there blocks c depth at block ms v le there e is =
    let s : Says blocks at ms = record { block = block; there = there; expands = expand-le (owner_block blocks) depth (suc (length blocks)) block ms le e } in
    said_is blocks c at ms s ∙ is

along : (blocks : List Reading) → AreLeftmost blocks → (c : Capability) (depth at : ℕ) (block : Reading) (ms : List Mention) (v : Content) → depth ≤ suc (length blocks)
    → slice_get blocks at ≡ Some block
    → expand (owner_block blocks) depth block ≡ Some ms → contents ms c ≡ Some v → Found blocks c depth at v
along blocks left c zero at block ms v le there e is = absurd (none-some ms e)
along blocks left c (suc depth) at block ms v le there e is =
    let items = sym (leftmost-expands block.rule (Shallow blocks depth) block.items (left at block there))
    ∙ unbroken (is_broken block) (block_mentions block.rule (Shallow blocks depth) block.items) ms e in
    let first = first_as blocks c depth v (say_at blocks c at) (first_say blocks c block.items) (ap (first_say blocks c) (items_are blocks at block there))
    (first_of_items blocks c depth block.items ms v (omega (arith, le)) items is) in
    elim first [
      | decisive d ↦ record {
        by = at;
        found = in_here blocks c depth at d;
        decides = decides_it d;
        says = says_there blocks c (suc depth) at block ms v le there e is;
      }
      | handed next on n ↦
          let more = along blocks left c depth next n.block n.mentions v (omega (arith, le)) n.there n.expands n.is in
          record { by = more.by; found = in_later blocks c depth at next on ∙ more.found; decides = hands_it_on on more.decides; says = more.says }
    ]

-- a block that says something resolves
record Opened (blocks : List Reading) (c : Capability) (at : ℕ) (v : Content) : Type 0 where
  mentions : List Mention
  says : Says blocks at mentions
  is : contents mentions c ≡ Some v

opened : (blocks : List Reading) (c : Capability) (at : ℕ) (v : Content) (found : Option Reading) → slice_get blocks at ≡ found
    → option_and_then (said_of blocks c) found ≡ Some v → Opened blocks c at v
opened blocks c at v None there e = absurd (none-some v e)
opened blocks c at v (Some block) there e = by_mentions (expansion blocks block) refl e
  where
    by_mentions : (o : Option (List Mention)) → expansion blocks block ≡ o → option_and_then (λ (m : List Mention). contents m c) o ≡ Some v
        → Opened blocks c at v
    by_mentions None expands e = absurd (none-some v e)
    by_mentions (Some ms) expands e = record { mentions = ms; says = record { block = block; there = there; expands = expands }; is = e }

there_is : (blocks : List Reading) → AreLeftmost blocks → (c : Capability) (at : ℕ) (v : Content) → said_by blocks c at ≡ Some v → Found blocks c (suc (length blocks)) at v
there_is blocks left c at v said =
    let o = opened blocks c at v (slice_get blocks at) refl said in
    along blocks left c (suc (length blocks)) at o.says.block o.mentions v (omega arith) o.says.there o.says.expands o.is

pub some_decides : SomeBlockDecides
some_decides blocks left c at said e = let f = there_is blocks left c at said e in (f.by, f.decides)

pub says_it : DecidersSayIt
says_it blocks left c at by said e decides =
    let f = there_is blocks left c at said e in
    subst (λ (n : ℕ). said_by blocks c n ≡ Some said) (one_decides blocks c at f.by by f.decides decides) f.says

pub decided_found : (blocks : List Reading) → AreLeftmost blocks → (c : Capability) (at by : ℕ) (said : Content) → said_by blocks c at ≡ Some said → Decides blocks c at by
    → decider blocks c at ≡ Some by
decided_found blocks left c at by said e decides =
    let f = there_is blocks left c at said e in
    found_in blocks c at ∙ f.found ∙ ap (λ (n : ℕ). Some n) (one_decides blocks c at f.by by f.decides decides)
