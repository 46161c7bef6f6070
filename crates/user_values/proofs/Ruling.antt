-- What the rule of a source leaves as it is: which blocks resolve, which names they use, and what
-- the uncancelled mentions say.
use Rattle.std.proofs.Common.{◌≡◌, ℕ, zero, suc, Bool, true, false, cond, List, [], ◌∷◌, ◌++◌, filter, Option, Some, None, is_some, option_map, slice_get}
use Rattle.std.proofs.Common.{refl, sym, ap, ◌∙◌, subst}
use Rattle.std.specs.Str.{bytes_eq}
use Rattle.std.specs.Cmp.Lexicographic.{bytes_decides}
use Rattle.std.proofs.lemmas.Bool.{false≢true}
use Rattle.std.proofs.lemmas.Option.{same_Some, none-some}
use Rattle.ti_text.specs.Lists.{both_lists}
use Rattle.ti_source.specs.declared.parsing.Rule.{Rule}
use Rattle.ti_source.specs.declared.parsing.Rule.TheVariants.{Leftmost, OwnFirst}
use Rattle.ti_layout.specs.Values.{Content, content_true, content_number, content_text, content_cancelled}
use Rattle.ti_layout.specs.Laws.{without_cancel}
use Rattle.user_items.specs.Verdicts.{UserSaid, says, imports}
use Rattle.user_items.specs.Reading.{ReadUserItem}
use Rattle.user_values.specs.Expansion.{UserMention, first_said, mentions_of, expand_items, is_use, own_items, use_items, uncancelled, block_mentions}
use Rattle.user_values.proofs.Depth.{Names, expand_items-append}

-- ---- whether items have mentions

pub joined-some : {X Y : Type 0} (a b : Option (List X)) (c d : Option (List Y)) → is_some a ≡ is_some c → is_some b ≡ is_some d
    → is_some (both_lists a b) ≡ is_some (both_lists c d)
joined-some None b None d e f = refl
joined-some None b (Some ys) d e f = absurd (false≢true e)
joined-some (Some xs) b None d e f = absurd (false≢true (sym e))
joined-some (Some xs) None (Some ys) None e f = refl
joined-some (Some xs) None (Some ys) (Some zs) e f = absurd (false≢true f)
joined-some (Some xs) (Some zs) (Some ys) None e f = absurd (false≢true (sym f))
joined-some (Some xs) (Some zs) (Some ys) (Some ws) e f = refl

mapped-some : {X : Type 0} (f : X → X) (o : Option X) → is_some (option_map f o) ≡ is_some o
mapped-some f None = refl
mapped-some f (Some x) = refl

behind-some : {X : Type 0} (xs : List X) (o : Option (List X)) → is_some o ≡ is_some (both_lists (Some xs) o)
behind-some xs None = refl
behind-some xs (Some ys) = refl

-- a block's own items have
own_one : (f : Names) (i : ReadUserItem) (own : List ReadUserItem) → is_some (expand_items f own) ≡ true → (s : UserSaid) → i.said ≡ s
    → is_some (expand_items f (cond (is_use i.said) own (own ++ i ∷ []))) ≡ true
own_one f i own h (imports name) e = rw e h
own_one f i own h (says name content) e =
    let here : is_some (expand_items f (i ∷ [])) ≡ true = rw e refl in
    let test : is_use i.said ≡ false = ap is_use e in
    subst (λ b. is_some (expand_items f (cond b own (own ++ i ∷ []))) ≡ true) (sym test)
    (ap is_some (expand_items-append f own (i ∷ []))
    ∙ joined-some (expand_items f own) (expand_items f (i ∷ [])) (Some own) (Some own) h here)

own-some : (f : Names) (items : List ReadUserItem) → is_some (expand_items f (own_items items)) ≡ true
own-some f [] = refl
own-some f (i ∷ is) = own_one f i (own_items is) (own-some f is) i.said refl

use_one : (f : Names) (i : ReadUserItem) (used is : List ReadUserItem) → is_some (expand_items f used) ≡ is_some (expand_items f is) → (s : UserSaid)
    → i.said ≡ s → is_some (expand_items f (cond (is_use i.said) (i ∷ used) used)) ≡ is_some (both_lists (mentions_of f i.said) (expand_items f is))
use_one f i used is h (imports name) e =
    let test : is_use i.said ≡ true = ap is_use e in
    rw test (joined-some (mentions_of f i.said) (expand_items f used) (mentions_of f i.said) (expand_items f is) refl h)
use_one f i used is h (says name content) e = rw e (h ∙ behind-some ((name, content) ∷ []) (expand_items f is))

use-some : (f : Names) (items : List ReadUserItem) → is_some (expand_items f (use_items items)) ≡ is_some (expand_items f items)
use-some f [] = refl
use-some f (i ∷ is) = use_one f i (use_items is) is (use-some f is) i.said refl

some_first : {X : Type 0} (a b : Option (List X)) → is_some a ≡ true → is_some (both_lists a b) ≡ is_some b
some_first None b e = absurd (false≢true e)
some_first (Some xs) b e = sym (behind-some xs b)

-- by each rule the items of a block have mentions, or not
pub ruled-some : (rule : Rule) (f : Names) (items : List ReadUserItem) → is_some (block_mentions rule f items) ≡ is_some (expand_items f items)
ruled-some Leftmost f items = refl
ruled-some OwnFirst f items =
    some_first (expand_items f (own_items items)) (option_map uncancelled (expand_items f (use_items items))) (own-some f items)
    ∙ mapped-some uncancelled (expand_items f (use_items items)) ∙ use-some f items

-- ---- a use is among the uses

pub use_place : (items : List ReadUserItem) (k : ℕ) (item : ReadUserItem) → slice_get items k ≡ Some item → is_use item.said ≡ true
    → (place : ℕ) × (slice_get (use_items items) place ≡ Some item)
use_place [] k item e u = absurd (none-some item e)
use_place (x ∷ items) zero item e u =
    let same : x ≡ item = same_Some x item e in
    let test : is_use x.said ≡ true = ap (λ (i : ReadUserItem). is_use i.said) same ∙ u in
    (0, rw test e)
use_place (x ∷ items) (suc k) item e u = behind (is_use x.said) x (use_items items) item (use_place items k item e u) where
  behind : (b : Bool) (x : ReadUserItem) (used : List ReadUserItem) (item : ReadUserItem) → (place : ℕ) × (slice_get used place ≡ Some item)
      → (place : ℕ) × (slice_get (cond b (x ∷ used) used) place ≡ Some item)
  behind true x used item p = (suc p.0, p.1)
  behind false x used item p = p

-- ---- what the mentions say that are not cancelled

-- what mentions say of a name, of those whose name passes a test
filtered : (p : List ℕ → Bool) (ms : List UserMention) (name : List ℕ)
    → first_said (filter (λ (m : UserMention). p m.0) ms) name ≡ cond (p name) (first_said ms name) None
filtered p [] name = nothing (p name) where
  nothing : (b : Bool) → ◌≡◌ {A = Option Content} None (cond b None None)
  nothing true = refl
  nothing false = refl
filtered p (m ∷ ms) name = by_tests (filtered p ms name) (p m.0) (bytes_eq m.0 name) refl refl where
  by_tests : first_said (filter (λ (m : UserMention). p m.0) ms) name ≡ cond (p name) (first_said ms name) None → (here same : Bool) → p m.0 ≡ here
      → bytes_eq m.0 name ≡ same → first_said (cond here (m ∷ filter (λ (m : UserMention). p m.0) ms) (filter (λ (m : UserMention). p m.0) ms)) name
      ≡ cond (p name) (cond same (Some m.1) (first_said ms name)) None
  by_tests rest true true h s = let one : m.0 ≡ name = (bytes_decides m.0 name).0 s in rw (s, ← one, h) refl
  by_tests rest true false h s = rw s rest
  by_tests rest false true h s = let one : m.0 ≡ name = (bytes_decides m.0 name).0 s in rest ∙ rw (← one, h) refl
  by_tests rest false false h s = rest

absent_or_there : (o : Option Content) → cond (is_some (without_cancel o)) o None ≡ without_cancel o
absent_or_there None = refl
absent_or_there (Some content_true) = refl
absent_or_there (Some (content_number n)) = refl
absent_or_there (Some (content_text t)) = refl
absent_or_there (Some content_cancelled) = refl

pub uncancelled-says : (ms : List UserMention) (name : List ℕ) → first_said (uncancelled ms) name ≡ without_cancel (first_said ms name)
unfolding uncancelled
uncancelled-says ms name = filtered (λ n. is_some (without_cancel (first_said ms n))) ms name ∙ absent_or_there (first_said ms name)
