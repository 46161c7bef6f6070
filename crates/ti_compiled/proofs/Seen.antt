-- What contracts see of an image says what its bytes hold.
use Rattle.std.proofs.Common.{◌≡◌, ◌≢◌, ℕ, zero, suc, ◌<◌, cond, List, ◌++◌, Option, Some, None, refl, sym, ap, ◌∙◌, subst, arith, inl, inr}
use Rattle.std.specs.Option.{option_or}
use Rattle.std.proofs.lemmas.Bool.{cases_lt}
use Rattle.ti_caps.specs.Tables.{Capability, capability, count_of}
use Rattle.ti_caps.specs.declared.capability.Kind.{Kind}
use Rattle.ti_caps.specs.declared.capability.Kind.TheVariants.{Flag, Number, Text}
use Rattle.ti_caps.proofs.Same.{same_capability-itself}
use Rattle.ti_layout.specs.Image.{image}
use Rattle.ti_layout.specs.Values.{Content, Contents, Mention, contents}
use Rattle.ti_layout.proofs.Fronts.{contents-append, contents-none, contents-one}
use Rattle.ti_layout.proofs.SortedEntries.{test_from_other}
use Rattle.ti_compiled.specs.Image.{bytes_of, held_by}
use Rattle.ti_compiled.specs.inside.Image.{IsImage, contents_in, entries_below, entries_with, entry_if, names_in, seen}
use Rattle.ti_compiled.proofs.Given.{HoldsNoOther}

or_none : (a : Option Content) → option_or a None ≡ a
or_none None = refl
or_none (Some x) = refl

-- the entry of a capability says what the capability has, and nothing of any other capability
entry_here : (c : Capability) (o : Option Content) → contents (entry_if c o) c ≡ o
entry_here c None = contents-none c
entry_here c (Some v) = contents-one (c, v) c ∙ ap (λ b. cond b (Some v) None) (same_capability-itself c)

entry_elsewhere : (c d : Capability) (o : Option Content) → c ≢ d → contents (entry_if c o) d ≡ None
entry_elsewhere c d None other = contents-none d
entry_elsewhere c d (Some v) other = contents-one (c, v) d ∙ ap (λ b. cond b (Some v) None) (test_from_other c d other)

apart : (kind : Kind) (i j : ℕ) → i ≢ j → capability kind i ≢ capability kind j
apart kind i j other e = other (ap (λ (c : Capability). c.index) e)

of_other_kinds : (k l : Kind) (i j : ℕ) → k ≢ l → capability k i ≢ capability l j
of_other_kinds k l i j other e = other (ap (λ (c : Capability). c.kind) e)

three : (xs ys zs : List Mention) (c : Capability) (a b d : Option Content) → contents xs c ≡ a → contents ys c ≡ b → contents zs c ≡ d
    → contents (xs ++ ys ++ zs) c ≡ option_or (option_or a b) d
three xs ys zs c a b d h k l =
    contents-append (xs ++ ys) zs c ∙ ap (λ o. option_or o (contents zs c)) (contents-append xs ys c)
    ∙ ap (λ o. option_or (option_or o (contents ys c)) (contents zs c)) h ∙ ap (λ o. option_or (option_or a o) (contents zs c)) k
    ∙ ap (λ o. option_or (option_or a b) o) l

module _ (f : Contents) where
  one_more : (kind : Kind) (n : ℕ) (d : Capability) → contents (entries_below f kind (suc n)) d
      ≡ option_or (contents (entries_below f kind n) d) (contents (entry_if (capability kind n) (f (capability kind n))) d)
  unfolding entries_below
  one_more kind n d = contents-append (entries_below f kind n) (entry_if (capability kind n) (f (capability kind n))) d

  no_more : (kind : Kind) (d : Capability) → contents (entries_below f kind zero) d ≡ None
  unfolding entries_below
  no_more kind d = contents-none d

  below_silent : (kind : Kind) (n : ℕ) (d : Capability) → ((j : ℕ) → j < n → capability kind j ≢ d) → contents (entries_below f kind n) d ≡ None
  below_silent kind zero d other = no_more kind d
  below_silent kind (suc n) d other =
      one_more kind n d
      ∙ ap (λ o. option_or o (contents (entry_if (capability kind n) (f (capability kind n))) d)) (below_silent kind n d (λ j lt. other j (omega arith)))
      ∙ entry_elsewhere (capability kind n) d (f (capability kind n)) (other n (omega arith))

  below_says : (kind : Kind) (n i : ℕ) → i < n → contents (entries_below f kind n) (capability kind i) ≡ f (capability kind i)
  below_says kind zero i lt = absurd (omega arith)
  below_says kind (suc n) i lt =
      let d = capability kind i in
      let own = contents (entry_if (capability kind n) (f (capability kind n))) d in
      elim (cases_lt i n) [
        | inl under ↦
            one_more kind n d ∙ ap (λ o. option_or o own) (below_says kind n i under)
            ∙ ap (option_or (f d)) (entry_elsewhere (capability kind n) d (f (capability kind n)) (apart kind n i (λ e. omega arith))) ∙ or_none (f d)
        | inr not_under ↦
            let same : n ≡ i = omega arith in
            one_more kind n d ∙ ap (λ o. option_or o own) (below_silent kind n d (λ j l. apart kind j i (λ e. omega arith)))
            ∙ subst (λ m. contents (entry_if (capability kind n) (f (capability kind n))) (capability kind m) ≡ f (capability kind m)) same
            (entry_here (capability kind n) (f (capability kind n)))
      ]

  -- the entries of a kind say what the capabilities of the kind have, if no other place has
  -- anything
  kind_says : HoldsNoOther f → (kind : Kind) (i : ℕ) → contents (entries_below f kind (count_of kind)) (capability kind i) ≡ f (capability kind i)
  kind_says past kind i = elim (cases_lt i (count_of kind)) [
    | inl under ↦ below_says kind (count_of kind) i under
    | inr over ↦ below_silent kind (count_of kind) (capability kind i) (λ j l. apart kind j i (λ e. omega arith)) ∙ sym (past kind i over)
  ]

  other_silent : (k l : Kind) (i : ℕ) → k ≢ l → contents (entries_below f k (count_of k)) (capability l i) ≡ None
  other_silent k l i other = below_silent k (count_of k) (capability l i) (λ j lt. of_other_kinds k l j i other)

  all_say : HoldsNoOther f → (kind : Kind) (i : ℕ) → contents (entries_with f) (capability kind i) ≡ f (capability kind i)
  all_say past Flag i =
      three _ _ _ (capability Flag i) (f (capability Flag i)) None None (kind_says past Flag i) (other_silent Number Flag i (λ e. cc))
      (other_silent Text Flag i (λ e. cc))
      ∙ or_none (option_or (f (capability Flag i)) None) ∙ or_none (f (capability Flag i))
  all_say past Number i =
      three _ _ _ (capability Number i) None (f (capability Number i)) None (other_silent Flag Number i (λ e. cc)) (kind_says past Number i)
      (other_silent Text Number i (λ e. cc))
      ∙ or_none (f (capability Number i))
  all_say past Text i =
      three _ _ _ (capability Text i) None None (f (capability Text i)) (other_silent Flag Text i (λ e. cc)) (other_silent Number Text i (λ e. cc))
      (kind_says past Text i)

-- the map that is seen is what the sections say
pub seen_says : (bytes : List ℕ) → IsImage bytes → held_by (seen bytes) ≡ contents_in bytes
seen_says bytes is = λ i c. all_say (contents_in bytes) is.imaged.past c.kind c.index i

-- the layout of the names and the map is the bytes
pub seen_bytes : (bytes : List ℕ) → IsImage bytes → bytes_of (seen bytes) ≡ bytes
seen_bytes bytes is = ap (image (names_in bytes)) (seen_says bytes is) ∙ sym is.whole
