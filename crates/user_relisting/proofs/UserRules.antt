-- What a block says of user-defined names by a rule, given what its items say.
use Rattle.std.proofs.Common.{◌≡◌, ℕ, suc, Bool, true, false, cond, List, [], ◌∷◌, ◌++◌, map, Option, Some, None, option_and_then, option_map}
use Rattle.std.proofs.Common.{refl, ap, sym, ◌∙◌}
use Rattle.std.specs.List.{AllByRecursion}
use Rattle.std.specs.Option.{option_or}
use Rattle.std.specs.Str.{bytes_eq}
use Rattle.std.specs.Cmp.Lexicographic.{bytes_decides}
use Rattle.std.proofs.lemmas.List.{append-nil, map-append}
use Rattle.ti_text.specs.Lists.{both_lists}
use Rattle.ti_source.specs.declared.parsing.Rule.{Rule}
use Rattle.ti_source.specs.declared.parsing.Rule.TheVariants.{Leftmost, OwnFirst}
use Rattle.ti_source.specs.Parsing.{reading_of_text}
use Rattle.ti_layout.specs.Values.{Content}
use Rattle.base_meaning.specs.Expansion.{is_broken}
use Rattle.user_items.specs.Verdicts.{UserSaid, says, imports}
use Rattle.user_items.specs.Reading.{ReadUserItem}
use Rattle.user_items.specs.Parsing.{user_reading_of_text}
use Rattle.user_values.specs.Expansion.{UserMention, first_said as mentioned, mentions_of, expand_items, is_use, own_items, use_items, uncancelled}
use Rattle.user_values.specs.Expansion.{block_mentions, expand_by, owner_text}
use Rattle.user_values.proofs.Depth.{first_said-append}
use Rattle.user_values.proofs.Ruling.{uncancelled-says}
use Rattle.user_relisting.proofs.Ordering.{joined-assoc, joined-nothing, kept, last_first, or-nothing}

-- the mentions of each used name
abbrev pub Names : Type 0
Names = List ℕ → Option (List UserMention)

-- ---- what items say

-- the mentions that what is said gives
abbrev pub expand_said : Names → List UserSaid → Option (List UserMention)
expand_said of_name [] = Some []
expand_said of_name (s ∷ ss) = both_lists (mentions_of of_name s) (expand_said of_name ss)

items-said : (of_name : Names) (items : List ReadUserItem) → expand_items of_name items ≡ expand_said of_name (map (λ (item : ReadUserItem). item.said) items)
items-said of_name [] = refl
items-said of_name (item ∷ items) = ap (both_lists (mentions_of of_name item.said)) (items-said of_name items)

-- what is said by the block itself, from the last to the first
abbrev pub own_said : List UserSaid → List UserSaid
own_said [] = []
own_said (s ∷ ss) = cond (is_use s) (own_said ss) (own_said ss ++ s ∷ [])

-- and the uses, in order
abbrev pub use_said : List UserSaid → List UserSaid
use_said [] = []
use_said (s ∷ ss) = cond (is_use s) (s ∷ use_said ss) (use_said ss)

-- the mentions by a rule
abbrev pub block_says : Rule → Names → List UserSaid → Option (List UserMention)
block_says Leftmost of_name ss = expand_said of_name ss
block_says OwnFirst of_name ss = both_lists (expand_said of_name (own_said ss)) (option_map uncancelled (expand_said of_name (use_said ss)))

abbrev said_of : ReadUserItem → UserSaid
said_of item = item.said

own-items : (items : List ReadUserItem) → map said_of (own_items items) ≡ own_said (map said_of items)
own-items [] = refl
own-items (item ∷ items) =
    by_test (is_use item.said) ∙ ap (λ (own : List UserSaid). cond (is_use item.said) own (own ++ item.said ∷ [])) (own-items items) where
      by_test : (b : Bool) → map said_of (cond b (own_items items) (own_items items ++ item ∷ []))
          ≡ cond b (map said_of (own_items items)) (map said_of (own_items items) ++ item.said ∷ [])
      by_test true = refl
      by_test false = map-append said_of (own_items items) (item ∷ [])

use-items : (items : List ReadUserItem) → map said_of (use_items items) ≡ use_said (map said_of items)
use-items [] = refl
use-items (item ∷ items) =
    by_test (is_use item.said) ∙ ap (λ (used : List UserSaid). cond (is_use item.said) (item.said ∷ used) used) (use-items items) where
      by_test : (b : Bool) → map said_of (cond b (item ∷ use_items items) (use_items items))
          ≡ cond b (item.said ∷ map said_of (use_items items)) (map said_of (use_items items))
      by_test true = refl
      by_test false = refl

block-says : (rule : Rule) (of_name : Names) (items : List ReadUserItem)
    → block_mentions rule of_name items ≡ block_says rule of_name (map (λ (item : ReadUserItem). item.said) items)
block-says Leftmost of_name items = items-said of_name items
block-says OwnFirst of_name items =
    let ss = map (λ (item : ReadUserItem). item.said) items in
    let own : expand_items of_name (own_items items) ≡ expand_said of_name (own_said ss) =
    items-said of_name (own_items items) ∙ ap (expand_said of_name) (own-items items) in
    let used : expand_items of_name (use_items items) ≡ expand_said of_name (use_said ss) =
    items-said of_name (use_items items) ∙ ap (expand_said of_name) (use-items items) in
    rw (own, used) refl

-- the mentions that a used name gives, at a depth
abbrev pub names_in : Rule → List (List ℕ) → ℕ → Names
names_in rule texts depth name = option_and_then (expand_by rule texts depth) (owner_text texts name)

-- a block that is not broken expands to what it says
pub block-expands : (rule : Rule) (texts : List (List ℕ)) (depth : ℕ) (text : List ℕ) (ss : List UserSaid) → is_broken (reading_of_text text) ≡ false
    → map (λ (item : ReadUserItem). item.said) (user_reading_of_text text).items ≡ ss
    → expand_by rule texts (suc depth) text ≡ block_says rule (names_in rule texts depth) ss
block-expands rule texts depth text ss sound is =
    rw sound (block-says rule (names_in rule texts depth) (user_reading_of_text text).items ∙ ap (block_says rule (names_in rule texts depth)) is)

-- ---- a block's own mentions, and those of its uses

-- the mentions of what is said by the block itself
abbrev pub pairs_of : List UserSaid → List UserMention
pairs_of [] = []
pairs_of (says name content ∷ ss) = (name, content) ∷ pairs_of ss
pairs_of (imports name ∷ ss) = pairs_of ss

pub pairs-append : (xs ys : List UserSaid) → pairs_of (xs ++ ys) ≡ pairs_of xs ++ pairs_of ys
pairs-append [] ys = refl
pairs-append (says name content ∷ xs) ys = ap (λ (ms : List UserMention). (name, content) ∷ ms) (pairs-append xs ys)
pairs-append (imports name ∷ xs) ys = pairs-append xs ys

-- the mentions of a block that has these itself and those by its uses
abbrev pub mentions_by : Rule → List UserMention → List UserMention → List UserMention
mentions_by Leftmost own used = own ++ used
mentions_by OwnFirst own used = last_first own ++ uncancelled used

abbrev pub IsOwn : UserSaid → Type 0
IsOwn s = is_use s ≡ false

abbrev pub IsUse : UserSaid → Type 0
IsUse s = is_use s ≡ true

pub said-append : (of_name : Names) (xs ys : List UserSaid) → expand_said of_name (xs ++ ys) ≡ both_lists (expand_said of_name xs) (expand_said of_name ys)
said-append of_name [] ys = joined-nothing (expand_said of_name ys)
said-append of_name (x ∷ xs) ys =
    ap (both_lists (mentions_of of_name x)) (said-append of_name xs ys)
    ∙ joined-assoc (mentions_of of_name x) (expand_said of_name xs) (expand_said of_name ys)

-- own items give their mentions
pub own-expand : (of_name : Names) (own : List UserSaid) → AllByRecursion IsOwn own → expand_said of_name own ≡ Some (pairs_of own)
own-expand of_name [] all = refl
own-expand of_name (says name content ∷ own) all = ap (both_lists (Some ((name, content) ∷ []))) (own-expand of_name own all.1)
own-expand of_name (imports name ∷ own) all = let never : true ≡ false = all.0 in absurd cc

-- the own ones of any items do, from the last to the first
pub own-last : (of_name : Names) (ss : List UserSaid) → expand_said of_name (own_said ss) ≡ Some (last_first (pairs_of ss))
own-last of_name [] = refl
own-last of_name (says name content ∷ ss) =
    said-append of_name (own_said ss) (says name content ∷ []) ∙ ap (λ o. both_lists o (Some ((name, content) ∷ []))) (own-last of_name ss)
own-last of_name (imports name ∷ ss) = own-last of_name ss

pub own-skipped : (own more : List UserSaid) → AllByRecursion IsOwn own → use_said (own ++ more) ≡ use_said more
own-skipped [] more all = refl
own-skipped (says name content ∷ own) more all = own-skipped own more all.1
own-skipped (imports name ∷ own) more all = let never : true ≡ false = all.0 in absurd cc

pub own-alone : (own : List UserSaid) → AllByRecursion IsOwn own → use_said own ≡ []
own-alone own all = ap use_said (sym (append-nil own)) ∙ own-skipped own [] all

uses-alone : (uses : List UserSaid) → AllByRecursion IsUse uses → use_said uses ≡ uses
uses-alone [] all = refl
uses-alone (says name content ∷ uses) all = let never : false ≡ true = all.0 in absurd cc
uses-alone (imports name ∷ uses) all = ap (λ (ss : List UserSaid). imports name ∷ ss) (uses-alone uses all.1)

uses-silent : (uses : List UserSaid) → AllByRecursion IsUse uses → pairs_of uses ≡ []
uses-silent [] all = refl
uses-silent (says name content ∷ uses) all = let never : false ≡ true = all.0 in absurd cc
uses-silent (imports name ∷ uses) all = uses-silent uses all.1

-- a block whose uses come last
pub uses-last : (rule : Rule) (of_name : Names) (own uses : List UserSaid) (used : List UserMention) → AllByRecursion IsOwn own → AllByRecursion IsUse uses
    → expand_said of_name uses ≡ Some used
    → block_says rule of_name (own ++ uses) ≡ Some (mentions_by rule (pairs_of own) used)
uses-last Leftmost of_name own uses used are_own are_uses is =
    said-append of_name own uses ∙ rw (own-expand of_name own are_own, is) refl
uses-last OwnFirst of_name own uses used are_own are_uses is =
    let itself : expand_said of_name (own_said (own ++ uses)) ≡ Some (last_first (pairs_of own)) =
    own-last of_name (own ++ uses)
    ∙ ap (λ ms. Some (last_first ms)) (pairs-append own uses ∙ ap (λ ms. pairs_of own ++ ms) (uses-silent uses are_uses) ∙ append-nil (pairs_of own)) in
    let by_use : expand_said of_name (use_said (own ++ uses)) ≡ Some used =
    ap (expand_said of_name) (own-skipped own uses are_own ∙ uses-alone uses are_uses) ∙ is in
    rw (itself, by_use) refl

-- ---- what they say

-- whether a mention gives its name what it has
abbrev pub IsOf : (List ℕ → Option Content) → UserMention → Type 0
IsOf has m = has m.0 ≡ Some m.1

agreed : (has : List ℕ → Option Content) (ms : List UserMention) (name : List ℕ) (x : Content) → AllByRecursion (IsOf has) ms → has name ≡ Some x
    → option_or (mentioned ms name) (Some x) ≡ Some x
agreed has [] name x all is = refl
agreed has (m ∷ ms) name x all is = by_name (bytes_eq m.0 name) refl (agreed has ms name x all.1 is) where
  by_name : (b : Bool) → bytes_eq m.0 name ≡ b → option_or (mentioned ms name) (Some x) ≡ Some x
      → option_or (cond b (Some m.1) (mentioned ms name)) (Some x) ≡ Some x
  by_name true e later = sym all.0 ∙ ap has ((bytes_decides m.0 name).0 e) ∙ is
  by_name false e later = later

-- mentions of which each gives its name what it has say the same from the last to the first
last-same : (has : List ℕ → Option Content) (ms : List UserMention) (name : List ℕ) → AllByRecursion (IsOf has) ms
    → mentioned (last_first ms) name ≡ mentioned ms name
last-same has [] name all = refl
last-same has (m ∷ ms) name all =
    first_said-append (last_first ms) (m ∷ []) name
    ∙ ap (λ o. option_or o (mentioned (m ∷ []) name)) (last-same has ms name all.1) ∙ by_name (bytes_eq m.0 name) refl
  where
    by_name : (b : Bool) → bytes_eq m.0 name ≡ b → option_or (mentioned ms name) (cond b (Some m.1) None) ≡ cond b (Some m.1) (mentioned ms name)
    by_name true e = agreed has ms name m.1 all.1 (ap has (sym ((bytes_decides m.0 name).0 e)) ∙ all.0)
    by_name false e = or-nothing (mentioned ms name)

pub own-tell : (rule : Rule) (has : List ℕ → Option Content) (own used : List UserMention) (name : List ℕ) → AllByRecursion (IsOf has) own
    → mentioned (mentions_by rule own used) name ≡ option_or (mentioned own name) (kept rule (mentioned used name))
own-tell Leftmost has own used name all = first_said-append own used name
own-tell OwnFirst has own used name all =
    first_said-append (last_first own) (uncancelled used) name
    ∙ ap (λ o. option_or o (mentioned (uncancelled used) name)) (last-same has own name all)
    ∙ ap (option_or (mentioned own name)) (uncancelled-says used name)

-- of a name of which mentions say nothing they say nothing from the last to the first
pub last-silent : (ms : List UserMention) (name : List ℕ) → mentioned ms name ≡ None → mentioned (last_first ms) name ≡ None
last-silent [] name e = refl
last-silent (m ∷ ms) name e = first_said-append (last_first ms) (m ∷ []) name ∙ by_name (bytes_eq m.0 name) (last-silent ms name) e where
  by_name : (b : Bool) → (mentioned ms name ≡ None → mentioned (last_first ms) name ≡ None) → cond b (Some m.1) (mentioned ms name) ≡ None
      → option_or (mentioned (last_first ms) name) (cond b (Some m.1) None) ≡ None
  by_name true later e = cc
  by_name false later e = or-nothing (mentioned (last_first ms) name) ∙ later e
