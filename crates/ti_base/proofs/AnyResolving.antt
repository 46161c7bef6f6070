-- Whether a block resolves is by any rule the same.
use Rattle.std.proofs.Common.{◌≡◌, ℕ, zero, suc, Bool, true, false, cond, List, [], ◌∷◌, ◌++◌, length, Option, Some, None, is_some, option_map}
use Rattle.std.proofs.Common.{option_and_then, refl, sym, ◌∙◌, ap, subst}
use Rattle.std.proofs.lemmas.Bool.{false≢true}
use Rattle.std.proofs.lemmas.List.{length-map}
use Rattle.ti_text.specs.Lists.{both_lists}
use Rattle.ti_source.specs.declared.parsing.Rule.{Rule}
use Rattle.ti_source.specs.declared.parsing.Rule.TheVariants.{Leftmost, OwnFirst}
use Rattle.ti_source.specs.Parsing.{reading_of_text}
use Rattle.ti_source.specs.Reading.{Reading, ReadItem, Said, said_flag, said_number, said_text, said_cancel, said_import}
use Rattle.ti_layout.specs.Values.{Mention}
use Rattle.base_meaning.specs.Expansion.{is_broken, is_use, mentions_of, expand_items, own_items, use_items, uncancelled, block_mentions, expand, resolves}
use Rattle.base_meaning.specs.Owner.{is_among, owner_block, readings}
use Rattle.base_meaning.specs.Readings.{by_rule, reading_by, readings_by}
use Rattle.base_meaning.specs.Rules.{all_by_rule}
use Rattle.base_meaning.proofs.Depth.{Mentions, Names}
use Rattle.base_meaning.proofs.MentionMerging.{expand_items-append}
use Rattle.base_meaning.proofs.Ruling.{mapped-some, read_by, readings_are_by}

-- ---- whether items have mentions

joined-some : (a b c d : Mentions) → is_some a ≡ is_some c → is_some b ≡ is_some d → is_some (both_lists a b) ≡ is_some (both_lists c d)
joined-some None b None d e f = refl
joined-some None b (Some ys) d e f = absurd (false≢true e)
joined-some (Some xs) b None d e f = absurd (false≢true (sym e))
joined-some (Some xs) None (Some ys) None e f = refl
joined-some (Some xs) None (Some ys) (Some zs) e f = absurd (false≢true f)
joined-some (Some xs) (Some zs) (Some ys) None e f = absurd (false≢true (sym f))
joined-some (Some xs) (Some zs) (Some ys) (Some ws) e f = refl

behind-some : (xs : List Mention) (o : Mentions) → is_some o ≡ is_some (both_lists (Some xs) o)
behind-some xs None = refl
behind-some xs (Some ys) = refl

first-some : (a b : Mentions) → is_some a ≡ true → is_some (both_lists a b) ≡ is_some b
first-some None b e = absurd (false≢true e)
first-some (Some xs) b e = sym (behind-some xs b)

-- an item that is no use has mentions
own-said : (f : Names) (s : Said) → is_use s ≡ false → is_some (mentions_of f s) ≡ true
own-said f (said_flag c) e = refl
own-said f (said_number c n) e = refl
own-said f (said_text c t) e = refl
own-said f (said_cancel c) e = refl
own-said f (said_import name) e = absurd (false≢true (sym e))

own_one : (f : Names) (i : ReadItem) (own : List ReadItem) → is_some (expand_items f own) ≡ true → (b : Bool) → is_use i.said ≡ b
    → is_some (expand_items f (cond b own (own ++ i ∷ []))) ≡ true
own_one f i own h true e = h
own_one f i own h false e =
    let here : is_some (expand_items f (i ∷ [])) ≡ true =
    joined-some (mentions_of f i.said) (Some []) (Some []) (Some []) (own-said f i.said e) refl in
    ap is_some (expand_items-append f own (i ∷ [])) ∙ joined-some (expand_items f own) (expand_items f (i ∷ [])) (Some []) (Some []) h here

own-some : (f : Names) (items : List ReadItem) → is_some (expand_items f (own_items items)) ≡ true
own-some f [] = refl
own-some f (i ∷ is) = own_one f i (own_items is) (own-some f is) (is_use i.said) refl

use_one : (f : Names) (i : ReadItem) (used is : List ReadItem) → is_some (expand_items f used) ≡ is_some (expand_items f is) → (b : Bool) → is_use i.said ≡ b
    → is_some (expand_items f (cond b (i ∷ used) used)) ≡ is_some (both_lists (mentions_of f i.said) (expand_items f is))
use_one f i used is h true e = joined-some (mentions_of f i.said) (expand_items f used) (mentions_of f i.said) (expand_items f is) refl h
use_one f i used is h false e = h ∙ sym (first-some (mentions_of f i.said) (expand_items f is) (own-said f i.said e))

use-some : (f : Names) (items : List ReadItem) → is_some (expand_items f (use_items items)) ≡ is_some (expand_items f items)
use-some f [] = refl
use-some f (i ∷ is) = use_one f i (use_items is) is (use-some f is) (is_use i.said) refl

ruled-some : (rule : Rule) (f : Names) (items : List ReadItem) → is_some (block_mentions rule f items) ≡ is_some (expand_items f items)
ruled-some Leftmost f items = refl
ruled-some OwnFirst f items =
    first-some (expand_items f (own_items items)) (option_map uncancelled (expand_items f (use_items items))) (own-some f items)
    ∙ (mapped-some uncancelled (expand_items f (use_items items)) ∙ use-some f items)

said-some : (f g : Names) → ((name : List ℕ) → is_some (f name) ≡ is_some (g name)) → (said : Said)
    → is_some (mentions_of f said) ≡ is_some (mentions_of g said)
said-some f g h (said_flag c) = refl
said-some f g h (said_number c n) = refl
said-some f g h (said_text c t) = refl
said-some f g h (said_cancel c) = refl
said-some f g h (said_import name) = h name

items-some : (f g : Names) → ((name : List ℕ) → is_some (f name) ≡ is_some (g name)) → (items : List ReadItem)
    → is_some (expand_items f items) ≡ is_some (expand_items g items)
items-some f g h [] = refl
items-some f g h (i ∷ is) =
    joined-some (mentions_of f i.said) (expand_items f is) (mentions_of g i.said) (expand_items g is) (said-some f g h i.said) (items-some f g h is)

-- ---- whether blocks expand

owned_by : (rule : Rule) (blocks : List Reading) (name : List ℕ)
    → owner_block (all_by_rule rule blocks) name ≡ option_map (by_rule rule) (owner_block blocks name)
owned_by rule [] name = refl
owned_by rule (block ∷ blocks) name = by_test (is_among name block.names) (owned_by rule blocks name) where
  by_test : (t : Bool) → owner_block (all_by_rule rule blocks) name ≡ option_map (by_rule rule) (owner_block blocks name)
      → cond t (Some (by_rule rule block)) (owner_block (all_by_rule rule blocks) name)
      ≡ option_map (by_rule rule) (cond t (Some block) (owner_block blocks name))
  by_test true rest = refl
  by_test false rest = rest

sound-some : (b : Bool) (o q : Mentions) → is_some o ≡ is_some q → is_some (cond b None o) ≡ is_some (cond b None q)
sound-some true o q e = refl
sound-some false o q e = e

mapped_owner : (rule : Rule) (f g : Reading → Mentions) → ((block : Reading) → is_some (f (by_rule rule block)) ≡ is_some (g block)) → (o : Option Reading)
    → is_some (option_and_then f (option_map (by_rule rule) o)) ≡ is_some (option_and_then g o)
mapped_owner rule f g h None = refl
mapped_owner rule f g h (Some block) = h block

expands_by : (rule : Rule) (blocks : List Reading) (depth : ℕ) (block : Reading)
    → is_some (expand (owner_block (all_by_rule rule blocks)) depth (by_rule rule block)) ≡ is_some (expand (owner_block blocks) depth block)
expands_by rule blocks zero block = refl
expands_by rule blocks (suc depth) block =
    let there = owner_block (all_by_rule rule blocks) in
    let here = owner_block blocks in
    let f : Names = λ name. option_and_then (expand there depth) (there name) in
    let g : Names = λ name. option_and_then (expand here depth) (here name) in
    let names : (name : List ℕ) → is_some (f name) ≡ is_some (g name) = λ name.
    ap (λ o. is_some (option_and_then (expand there depth) o)) (owned_by rule blocks name)
    ∙ mapped_owner rule (expand there depth) (expand here depth) (expands_by rule blocks depth) (here name) in
    sound-some (is_broken block) (block_mentions rule f block.items) (block_mentions block.rule g block.items)
    (ruled-some rule f block.items ∙ (items-some f g names block.items ∙ sym (ruled-some block.rule g block.items)))

resolves_in : (rule : Rule) (blocks : List Reading) (block : Reading) → resolves (all_by_rule rule blocks) (by_rule rule block) ≡ resolves blocks block
resolves_in rule blocks block =
    ap (λ n. is_some (expand (owner_block (all_by_rule rule blocks)) (suc n) (by_rule rule block))) (length-map blocks (by_rule rule))
    ∙ expands_by rule blocks (suc (length blocks)) block

-- a block of a source resolves by a rule as by any other
pub resolves_by : (rule : Rule) (texts : List (List ℕ)) (text : List ℕ)
    → resolves (readings_by rule texts) (reading_by rule text) ≡ resolves (readings texts) (reading_of_text text)
resolves_by rule texts text =
    ap (λ bs. resolves bs (reading_by rule text)) (readings_are_by rule texts)
    ∙ (ap (λ b. resolves (all_by_rule rule (readings texts)) b) (read_by rule text) ∙ resolves_in rule (readings texts) (reading_of_text text))
