-- Two sources in which names that are not touched belong to the same text: what does not reach a
-- touched name says the same in both.
use Rattle.std.proofs.Common.{◌≡◌, ℕ, zero, suc, ◌⊎◌, inl, inr, Bool, true, false, cond, List, [], ◌∷◌, ◌++◌, length, Option, Some, None, option_and_then, slice_get}
use Rattle.std.proofs.Common.{refl, sym, ◌∙◌, ap}
use Rattle.std.proofs.lemmas.Option.{same_Some, none-some}
use Rattle.ti_source.specs.declared.parsing.Rule.{Rule}
use Rattle.ti_source.specs.declared.parsing.Rule.TheVariants.{Leftmost, OwnFirst}
use Rattle.ti_source.specs.Parsing.{reading_of_text}
use Rattle.base_meaning.specs.Owner.{owner_block, readings}
use Rattle.base_meaning.specs.Expansion.{is_broken}
use Rattle.base_meaning.specs.Reaching.{Uses}
use Rattle.base_meaning.proofs.Owning.{nobody, somebody, owning}
use Rattle.base_meaning.proofs.KeptWays.{IsFree}
use Rattle.user_items.specs.Verdicts.{UserSaid, says, imports}
use Rattle.user_items.specs.Reading.{ReadUserItem}
use Rattle.user_items.specs.Parsing.{user_reading_of_text}
use Rattle.user_values.specs.Expansion.{UserMention, mentions_of, expand_items, is_use, own_items, use_items, block_mentions, owner_text, expand_by, expansion_by}
use Rattle.user_values.proofs.Depth.{Mentions, Names, names_at}
use Rattle.user_values.proofs.Resolving.{found, text_read}
use Rattle.user_kept.proofs.Imports.{imported, Imports, imports_are_uses, imports_parts}

mentions_of-agree : (f g : Names) (s : UserSaid) → ((n : List ℕ) → imported s ≡ Some n → f n ≡ g n) → mentions_of f s ≡ mentions_of g s
mentions_of-agree f g (says name content) h = refl
mentions_of-agree f g (imports name) h = h name refl

expand_items-agree : (f g : Names) (items : List ReadUserItem) → ((n : List ℕ) → Imports items n → f n ≡ g n) → expand_items f items ≡ expand_items g items
expand_items-agree f g [] h = refl
expand_items-agree f g (i ∷ is) h =
    rw (mentions_of-agree f g i.said (λ n u. h n (inl u)), expand_items-agree f g is (λ n u. h n (inr u))) refl

-- a block's own items import nothing, and its uses what the block does
own_one : (b : Bool) (i : ReadUserItem) (is own : List ReadUserItem) (n : List ℕ) → (Imports own n → Imports is n)
    → Imports (cond b own (own ++ i ∷ [])) n → Imports (i ∷ is) n
own_one true i is own n rest u = inr (rest u)
own_one false i is own n rest u =
    elim (imports_parts own (i ∷ []) n u) [ inl l ↦ inr (rest l) | inr r ↦ elim r [ inl h ↦ inl h | inr x ↦ absurd x ] ]

own-imports : (is : List ReadUserItem) (n : List ℕ) → Imports (own_items is) n → Imports is n
own-imports [] n u = u
own-imports (i ∷ is) n u = own_one (is_use i.said) i is (own_items is) n (own-imports is n) u

use_one : (b : Bool) (i : ReadUserItem) (is used : List ReadUserItem) (n : List ℕ) → (Imports used n → Imports is n) → Imports (cond b (i ∷ used) used) n
    → Imports (i ∷ is) n
use_one true i is used n rest (inl h) = inl h
use_one true i is used n rest (inr t) = inr (rest t)
use_one false i is used n rest u = inr (rest u)

use-imports : (is : List ReadUserItem) (n : List ℕ) → Imports (use_items is) n → Imports is n
use-imports [] n u = u
use-imports (i ∷ is) n u = use_one (is_use i.said) i is (use_items is) n (use-imports is n) u

block-agree : (rule : Rule) (f g : Names) (items : List ReadUserItem) → ((n : List ℕ) → Imports items n → f n ≡ g n)
    → block_mentions rule f items ≡ block_mentions rule g items
block-agree Leftmost f g items h = expand_items-agree f g items h
block-agree OwnFirst f g items h =
    rw (
      expand_items-agree f g (own_items items) (λ n u. h n (own-imports items n u)),
      expand_items-agree f g (use_items items) (λ n u. h n (use-imports items n u)),
    )
    refl

and_then-agree : (o : Option (List ℕ)) (f g : List ℕ → Mentions) → ((t : List ℕ) → o ≡ Some t → f t ≡ g t) → option_and_then f o ≡ option_and_then g o
and_then-agree None f g h = refl
and_then-agree (Some t) f g h = h t refl

-- the block that owns a name is read from the text that owns it
owned_read : (texts : List (List ℕ)) (name text : List ℕ) → owner_text texts name ≡ Some text → owner_block (readings texts) name ≡ Some (reading_of_text text)
owned_read texts name text e =
    elim (owning (readings texts) name) [
      | nobody o _ ↦ absurd (none-some text (sym (ap (option_and_then (slice_get texts)) o) ∙ e))
      | somebody at block own ↦
          let t = text_read texts at block own.stands in
          let same : t.0 ≡ text = same_Some t.0 text (sym t.1 ∙ (sym (ap (option_and_then (slice_get texts)) own.owns) ∙ e)) in
          own.is ∙ ap (λ b. Some b) (sym t.2 ∙ ap reading_of_text same)
    ]

-- names that fail the test belong to the same text
abbrev pub AgreeOff : (List ℕ → Bool) → List (List ℕ) → List (List ℕ) → Type 0
AgreeOff test texts next = (name : List ℕ) → test name ≡ false → owner_text texts name ≡ owner_text next name

pub expand-kept : (rule : Rule) (test : List ℕ → Bool) (texts next : List (List ℕ)) → AgreeOff test texts next → (depth : ℕ) (text : List ℕ)
    → ((n : List ℕ) → Uses (reading_of_text text).items n → IsFree (owner_block (readings texts)) test n)
    → expand_by rule next depth text ≡ expand_by rule texts depth text
expand-kept rule test texts next agree zero text free = refl
expand-kept rule test texts next agree (suc k) text free =
    ap (λ o. cond (is_broken (reading_of_text text)) None o)
    (block-agree rule (names_at rule next k) (names_at rule texts k) (user_reading_of_text text).items (λ n i.
    (let u = imports_are_uses text n i in
    ap (λ o. option_and_then (expand_by rule next k) o) (sym (agree n (free n u [] n refl)))
    ∙ and_then-agree (owner_text texts n) (expand_by rule next k) (expand_by rule texts k)
    (λ t own. expand-kept rule test texts next agree k t
    (λ m v way to w. free n u (m ∷ way) to ((reading_of_text t, owned_read texts n t own, v), w))))))

some_or_none : (o : Mentions) → (o ≡ None) ⊎ ((ms : List UserMention) × (o ≡ Some ms))
some_or_none None = inl refl
some_or_none (Some ms) = inr (ms, refl)

-- expansions that are equal at every depth give the same
pub expansion-same : (rule : Rule) (texts next : List (List ℕ)) (p q : ℕ) (text : List ℕ) → slice_get texts p ≡ Some text → slice_get next q ≡ Some text
    → ((k : ℕ) → expand_by rule next k text ≡ expand_by rule texts k text) → expansion_by rule next text ≡ expansion_by rule texts text
expansion-same rule texts next p q text s t h =
    elim (some_or_none (expansion_by rule texts text)) [
      | inr some ↦ found rule next q (suc (length texts)) text some.0 t (h (suc (length texts)) ∙ some.1) ∙ sym some.1
      | inl none ↦ elim (some_or_none (expansion_by rule next text)) [
        | inl also ↦ also ∙ sym none
        | inr some ↦
            absurd (none-some some.0 (sym none ∙ found rule texts p (suc (length next)) text some.0 s (sym (h (suc (length next))) ∙ some.1)))
      ]
    ]
