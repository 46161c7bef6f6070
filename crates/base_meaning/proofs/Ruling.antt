-- What the rule of a block leaves as it is: which names its items use, and what holds of each of
-- them; and which rule a block has that is read from a text.
use Rattle.std.proofs.Common.{◌≡◌, ℕ, ◌⊎◌, inl, inr, Bool, true, false, cond, List, [], ◌∷◌, ◌++◌, Option, Some, None, is_some, option_map, zero, suc, refl, subst}
use Rattle.std.proofs.Common.{◌∙◌, ap}
use Rattle.std.specs.List.{All}
use Rattle.std.proofs.lemmas.List.Elements.{All-nil, All-cons, All-head, All-tail, All-append, All-filter}
use Rattle.std.proofs.lemmas.Option.{same_Some, none-some}
use Rattle.ti_source.proofs.ReadingLaws.{rule_of_text}
use Rattle.ti_source.specs.declared.parsing.Rule.{Rule}
use Rattle.ti_source.specs.declared.parsing.Rule.TheVariants.{Leftmost, OwnFirst}
use Rattle.ti_source.specs.Parsing.{reading_of_text}
use Rattle.ti_source.specs.Reading.{Reading, ReadItem, Said, said_flag, said_number, said_text, said_cancel, said_import}
use Rattle.ti_layout.specs.Values.{Mention}
use Rattle.base_meaning.specs.Expansion.{block_mentions, expand_items, is_use, use_items, own_items, uncancelled, values}
use Rattle.base_meaning.specs.Reaching.{used_name, Uses}
use Rattle.base_meaning.specs.Readings.{by_rule, reading_by, readings_by}
use Rattle.base_meaning.specs.Rules.{ReadingsAreByRule, ReadingsAreLeftmost}

uses-append : (xs ys : List ReadItem) (n : List ℕ) → Uses (xs ++ ys) n → Uses xs n ⊎ Uses ys n
uses-append [] ys n u = inr u
uses-append (x ∷ xs) ys n (inl h) = inl (inl h)
uses-append (x ∷ xs) ys n (inr t) = elim (uses-append xs ys n t) [ inl l ↦ inl (inr l) | inr r ↦ inr r ]

-- ---- uses among a block's own items, of which there are none

own_one : (b : Bool) (i : ReadItem) (is own : List ReadItem) (n : List ℕ) → (Uses own n → Uses is n) → Uses (cond b own (own ++ i ∷ [])) n → Uses (i ∷ is) n
own_one true i is own n rest u = inr (rest u)
own_one false i is own n rest u =
    elim (uses-append own (i ∷ []) n u) [ inl l ↦ inr (rest l) | inr r ↦ elim r [ inl h ↦ inl h | inr x ↦ absurd x ] ]

pub own-uses : (is : List ReadItem) (n : List ℕ) → Uses (own_items is) n → Uses is n
own-uses [] n u = u
own-uses (i ∷ is) n u = own_one (is_use i.said) i is (own_items is) n (own-uses is n) u

-- ---- and among its uses

use_one : (b : Bool) (i : ReadItem) (is used : List ReadItem) (n : List ℕ) → (Uses used n → Uses is n) → Uses (cond b (i ∷ used) used) n → Uses (i ∷ is) n
use_one true i is used n rest (inl h) = inl h
use_one true i is used n rest (inr t) = inr (rest t)
use_one false i is used n rest u = inr (rest u)

pub use-uses : (is : List ReadItem) (n : List ℕ) → Uses (use_items is) n → Uses is n
use-uses [] n u = u
use-uses (i ∷ is) n u = use_one (is_use i.said) i is (use_items is) n (use-uses is n) u

use_said : (s : Said) (n : List ℕ) → used_name s ≡ Some n → is_use s ≡ true
use_said (said_flag c) n e = absurd (none-some n e)
use_said (said_number c k) n e = absurd (none-some n e)
use_said (said_text c t) n e = absurd (none-some n e)
use_said (said_cancel c) n e = absurd (none-some n e)
use_said (said_import name) n e = refl

use_behind : (b : Bool) (i : ReadItem) (used : List ReadItem) (n : List ℕ) → Uses used n → Uses (cond b (i ∷ used) used) n
use_behind true i used n u = inr u
use_behind false i used n u = u

pub uses-use : (is : List ReadItem) (n : List ℕ) → Uses is n → Uses (use_items is) n
uses-use [] n u = u
uses-use (i ∷ is) n (inl h) = rw (use_said i.said n h) (inl h)
uses-use (i ∷ is) n (inr t) = use_behind (is_use i.said) i (use_items is) n (uses-use is n t)

-- ---- what holds of each item, and of each mention

own_all : (P : ReadItem → Type 0) (b : Bool) (i : ReadItem) (own : List ReadItem) → P i → All P own → All P (cond b own (own ++ i ∷ []))
own_all P true i own p all = all
own_all P false i own p all = All-append P own (i ∷ []) all (All-cons P i [] p (All-nil P))

pub own_items-all : (P : ReadItem → Type 0) (is : List ReadItem) → All P is → All P (own_items is)
own_items-all P [] all = all
own_items-all P (i ∷ is) all = own_all P (is_use i.said) i (own_items is) (All-head P i is all) (own_items-all P is (All-tail P i is all))

use_all : (P : ReadItem → Type 0) (b : Bool) (i : ReadItem) (used : List ReadItem) → P i → All P used → All P (cond b (i ∷ used) used)
use_all P true i used p all = All-cons P i used p all
use_all P false i used p all = all

pub use_items-all : (P : ReadItem → Type 0) (is : List ReadItem) → All P is → All P (use_items is)
use_items-all P [] all = all
use_items-all P (i ∷ is) all = use_all P (is_use i.said) i (use_items is) (All-head P i is all) (use_items-all P is (All-tail P i is all))

pub uncancelled-all : (P : Mention → Type 0) (ms : List Mention) → All P ms → All P (uncancelled ms)
unfolding uncancelled
uncancelled-all P ms all = All-filter (λ (m : Mention). is_some (values ms m.0)) P ms all

-- ---- a list that is mapped or not there

pub record IsMapped (f : List Mention → List Mention) (o : Option (List Mention)) (ms : List Mention) : Type 0 where
  pub before : List Mention
  pub is : o ≡ Some before
  pub mapped : f before ≡ ms

pub mapped_part : (f : List Mention → List Mention) (o : Option (List Mention)) (ms : List Mention) → option_map f o ≡ Some ms → IsMapped f o ms
mapped_part f None ms e = absurd (none-some ms e)
mapped_part f (Some x) ms e = record { before = x; is = refl; mapped = same_Some (f x) ms e }

pub mapped-some : (f : List Mention → List Mention) (o : Option (List Mention)) → is_some (option_map f o) ≡ is_some o
mapped-some f None = refl
mapped-some f (Some x) = refl

-- ---- the rule of a block that is read

pub leftmost-expands : (r : Rule) (of_name : List ℕ → Option (List Mention)) (is : List ReadItem) → r ≡ Leftmost
    → block_mentions r of_name is ≡ expand_items of_name is
leftmost-expands r of_name is e = rw e refl

pub readings_leftmost : ReadingsAreLeftmost
readings_leftmost [] at block stands = absurd (none-some block stands)
readings_leftmost (text ∷ texts) zero block stands =
    subst (λ (b : Reading). b.rule ≡ Leftmost) (same_Some (reading_of_text text) block stands) (rule_of_text text)
readings_leftmost (text ∷ texts) (suc at) block stands = readings_leftmost texts at block stands

pub read_by : (rule : Rule) (text : List ℕ) → reading_by rule text ≡ by_rule rule (reading_of_text text)
read_by Leftmost text = ap (λ (r : Rule). by_rule r (reading_of_text text)) (rule_of_text text)
read_by OwnFirst text = refl

pub readings_are_by : ReadingsAreByRule
readings_are_by rule [] = refl
readings_are_by rule (text ∷ texts) =
    ap (λ b. b ∷ readings_by rule texts) (read_by rule text) ∙ ap (λ bs. by_rule rule (reading_of_text text) ∷ bs) (readings_are_by rule texts)
