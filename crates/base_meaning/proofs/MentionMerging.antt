-- What adding mentions to a table makes of it, item by item; and when a block has no expansion at a
-- depth.
use Rattle.std.proofs.Common.{◌≡◌, ℕ, zero, suc, append_assoc, ◌+◌, inl, inr, Bool, true, false, cond, List, [], ◌∷◌, ◌++◌, Option, Some, None, slice_get}
use Rattle.std.proofs.Common.{filter, is_some, refl, sym, ◌∙◌, ap, arith}
use Rattle.std.specs.Option.{option_or}
use Rattle.std.proofs.lemmas.Option.{same_Some, none-some}
use Rattle.ti_caps.specs.Tables.{Capability, IsCapability, same_capability}
use Rattle.ti_source.specs.declared.parsing.Rule.TheVariants.{Leftmost, OwnFirst}
use Rattle.ti_source.specs.Reading.{Reading, ReadItem, Said, said_flag, said_number, said_text, said_cancel, said_import}
use Rattle.ti_caps.proofs.Same.{same_capability-true}
use Rattle.ti_layout.specs.Values.{Contents, Content, content_true, content_number, content_text, content_cancelled, contents, Mention}
use Rattle.ti_layout.specs.Laws.{without_cancel}
use Rattle.base_meaning.specs.Owner.{owner_block}
use Rattle.ti_text.specs.Lists.{both_lists}
use Rattle.base_meaning.specs.Expansion.{is_broken, mentions_of, expand_items, own_items, use_items, values, uncancelled}
use Rattle.base_meaning.specs.Reaching.{used_name, Uses}
use Rattle.base_meaning.specs.ValueTables.{names_at, IsTableOf, IsTableOfItems, AddsSaid}
use Rattle.base_meaning.proofs.Depth.{expand_items-more, names_at-le, mentions_of-more}

-- ---- adding

pub option_or-none : (o : Option Content) → option_or o None ≡ o
option_or-none None = refl
option_or-none (Some x) = refl

pub option_or-assoc : (o p q : Option Content) → option_or (option_or o p) q ≡ option_or o (option_or p q)
option_or-assoc None p q = refl
option_or-assoc (Some x) p q = refl

if_or : (b : Bool) (x : Option Content) (o p : Option Content) (v : Content) → option_or (cond b (Some v) o) p ≡ cond b (Some v) (option_or o p)
if_or true x o p v = refl
if_or false x o p v = refl

-- mentions one after another say what the first say, and else what the others say
pub said-append : (ms ns : List Mention) (c : Capability) → contents (ms ++ ns) c ≡ option_or (contents ms c) (contents ns c)
unfolding contents
said-append [] ns c = refl
said-append (m ∷ ms) ns c =
    rw (said-append ms ns c) (sym (if_or (same_capability m.0 c) None (contents ms c) (contents ns c) m.1))

-- one mention was added
pub added_one : (bs : List Reading) (item : Said) (m : Mention) (old new : Contents) → mentions_of (names_at (owner_block bs) 0) item ≡ Some (m ∷ [])
    → ((c : Capability) → IsCapability c → new c ≡ option_or (old c) (cond (same_capability m.0 c) (Some m.1) None)) → AddsSaid bs item old new
unfolding contents
added_one bs item m old new e added = record { depth = 0; mentions = m ∷ []; expands = e; adds = added }

-- ---- the items of a block, one after another

joined-assoc : (a b c : Option (List Mention)) → both_lists a (both_lists b c) ≡ both_lists (both_lists a b) c
joined-assoc None b c = refl
joined-assoc (Some xs) None c = refl
joined-assoc (Some xs) (Some ys) None = refl
joined-assoc (Some xs) (Some ys) (Some zs) = rw append_assoc refl

joined-nothing : (o : Option (List Mention)) → o ≡ both_lists (Some []) o
joined-nothing None = refl
joined-nothing (Some xs) = refl

pub expand_items-append : (f : List ℕ → Option (List Mention)) (is js : List ReadItem) → expand_items f (is ++ js)
    ≡ both_lists (expand_items f is) (expand_items f js)
expand_items-append f [] js = joined-nothing (expand_items f js)
expand_items-append f (i ∷ is) js = rw (expand_items-append f is js) (joined-assoc (mentions_of f i.said) (expand_items f is) (expand_items f js))

-- a table that mentions nothing is that of no items
pub table_of_nothing : (bs : List Reading) (f : Contents) → ((c : Capability) → f c ≡ None) → IsTableOfItems bs [] f
unfolding contents
table_of_nothing bs f none = record { depth = 0; mentions = []; expands = refl; is_table = λ c _. none c }

-- one more item was added
pub table_of_one_more : (bs : List Reading) (is : List ReadItem) (i : ReadItem) (f g : Contents) → IsTableOfItems bs is f → AddsSaid bs i.said f g
    → IsTableOfItems bs (is ++ i ∷ []) g
unfolding contents
table_of_one_more bs is i f g t h =
    let deep = t.depth + h.depth in
    let env = owner_block bs in
    let front = expand_items-more (names_at env t.depth) (names_at env deep) (names_at-le env t.depth deep (omega arith)) is t.mentions t.expands in
    let back = mentions_of-more (names_at env h.depth) (names_at env deep) (names_at-le env h.depth deep (omega arith)) i.said h.mentions h.expands in
    record {
      depth = deep;
      mentions = t.mentions ++ (h.mentions ++ []);
      expands = expand_items-append (names_at env deep) is (i ∷ []) ∙ (rw (front, back) refl);
      is_table = λ c valid.
          h.adds c valid
          ∙ (ap (λ o. option_or o (contents h.mentions c)) (t.is_table c valid)
          ∙ (ap (λ o. option_or (contents t.mentions c) o) (sym (said-append h.mentions [] c ∙ option_or-none (contents h.mentions c)))
          ∙ sym (said-append t.mentions (h.mentions ++ []) c)));
    }

-- all items of a sound block were added
pub table_of_block : (bs : List Reading) (b : Reading) (f : Contents) → b.rule ≡ Leftmost → is_broken b ≡ false → IsTableOfItems bs b.items f
    → IsTableOf bs b f
table_of_block bs b f rule sound t = record { depth = suc t.depth; mentions = t.mentions; expands = rw (sound, rule, t.expands) refl; is_table = t.is_table }

-- ---- a block's own mentions first

-- the mentions of one capability, of those whose capability passes a test
filtered : (p : Capability → Bool) (ms : List Mention) (c : Capability) → contents (filter (λ (m : Mention). p m.0) ms) c ≡ cond (p c) (contents ms c) None
unfolding contents
filtered p [] c = nothing (p c) where
  nothing : (b : Bool) → None ≡ cond b (contents [] c) None
  nothing true = refl
  nothing false = refl
filtered p (m ∷ ms) c = by_tests (filtered p ms c) (p m.0) (same_capability m.0 c) refl refl where
  by_tests : contents (filter (λ (m : Mention). p m.0) ms) c ≡ cond (p c) (contents ms c) None → (here same : Bool) → p m.0 ≡ here
      → same_capability m.0 c ≡ same → contents (cond here (m ∷ filter (λ (m : Mention). p m.0) ms) (filter (λ (m : Mention). p m.0) ms)) c
      ≡ cond (p c) (cond same (Some m.1) (contents ms c)) None
  by_tests rest true true h s = rw (s, ← same_capability-true m.0 c s, h) refl
  by_tests rest true false h s = rw s rest
  by_tests rest false true h s = rest ∙ rw (← same_capability-true m.0 c s, h) refl
  by_tests rest false false h s = rest

absent_or_there : (o : Option Content) → cond (is_some (without_cancel o)) o None ≡ without_cancel o
absent_or_there None = refl
absent_or_there (Some content_true) = refl
absent_or_there (Some (content_number n)) = refl
absent_or_there (Some (content_text t)) = refl
absent_or_there (Some content_cancelled) = refl

pub uncancelled-says : (ms : List Mention) (c : Capability) → contents (uncancelled ms) c ≡ without_cancel (contents ms c)
unfolding uncancelled
uncancelled-says ms c = filtered (λ d. is_some (values ms d)) ms c ∙ absent_or_there (contents ms c)

-- all own items of a sound block were added from the last to the first, and behind them what its
-- uses say, without cancels
pub own_first_table : (bs : List Reading) (b : Reading) (own used f : Contents) → b.rule ≡ OwnFirst → is_broken b ≡ false
    → IsTableOfItems bs (own_items b.items) own → IsTableOfItems bs (use_items b.items) used
    → ((c : Capability) → IsCapability c → f c ≡ option_or (own c) (without_cancel (used c))) → IsTableOf bs b f
own_first_table bs b own used f rule sound t h says =
    let deep = t.depth + h.depth in
    let env = owner_block bs in
    let front = expand_items-more (names_at env t.depth) (names_at env deep) (names_at-le env t.depth deep (omega arith)) (own_items b.items) t.mentions t.expands in
    let back = expand_items-more (names_at env h.depth) (names_at env deep) (names_at-le env h.depth deep (omega arith)) (use_items b.items) h.mentions h.expands in
    record {
      depth = suc deep;
      mentions = t.mentions ++ uncancelled h.mentions;
      expands = rw (sound, rule, front, back) refl;
      is_table = λ c valid.
          says c valid
          ∙ (ap (λ o. option_or o (without_cancel (used c))) (t.is_table c valid)
          ∙ (ap (λ o. option_or (contents t.mentions c) o) (ap without_cancel (h.is_table c valid) ∙ sym (uncancelled-says h.mentions c))
          ∙ sym (said-append t.mentions (uncancelled h.mentions) c)));
    }

-- ---- no depth expands what remains open

pub uses_at : (items : List ReadItem) (i : ℕ) (item : ReadItem) (name : List ℕ) → slice_get items i ≡ Some item → used_name item.said ≡ Some name
    → Uses items name
uses_at [] i item name s u = absurd (none-some item s)
uses_at (x ∷ xs) zero item name s u = inl (rw (same_Some x item s) u)
uses_at (x ∷ xs) (suc i) item name s u = inr (uses_at xs i item name s u)

pub mentions_of-used : (f : List ℕ → Option (List Mention)) (said : Said) (name : List ℕ) → used_name said ≡ Some name → mentions_of f said ≡ f name
mentions_of-used f (said_flag c) name e = absurd (none-some name e)
mentions_of-used f (said_number c n) name e = absurd (none-some name e)
mentions_of-used f (said_text c t) name e = absurd (none-some name e)
mentions_of-used f (said_cancel c) name e = absurd (none-some name e)
mentions_of-used f (said_import n) name e = ap f (same_Some n name e)

joined-none : (o : Option (List Mention)) → both_lists o None ≡ None
joined-none None = refl
joined-none (Some xs) = refl

pub expand_items-none : (f : List ℕ → Option (List Mention)) (items : List ReadItem) (name : List ℕ) → Uses items name → f name ≡ None
    → expand_items f items ≡ None
expand_items-none f [] name u e = absurd u
expand_items-none f (i ∷ is) name (inl here) e = rw (mentions_of-used f i.said name here, e) refl
expand_items-none f (i ∷ is) name (inr later) e = rw (expand_items-none f is name later e) (joined-none (mentions_of f i.said))

pub if_none : (b : Bool) (o : Option (List Mention)) → o ≡ None → cond b None o ≡ None
if_none true o e = refl
if_none false o e = e
