-- The entries with names fields that are too long for the profile.
use Rattle.std.proofs.Common.{◌≡◌, ◌⊎◌, ℕ, zero, suc, List, [], ◌∷◌, ◌++◌, length, Option, None, Some, inl, inr}
use Rattle.std.proofs.Common.{option_and_then, slice_get, refl, sym, ap, ◌∙◌, subst, arith}
use Rattle.std.proofs.lemmas.Option.{none-some, same_Some}
use Rattle.base_meaning.specs.Compiled.{EntryState, oversized, unresolved, written}
use Rattle.user_compiling.specs.Entries.{entry_in}
use Rattle.everyday_tic.specs.Entries.{entry_at}
use Rattle.everyday_tic.specs.Named.{named_state, named_states}
use Rattle.everyday_tic.specs.inside.States.{option_flat, over, put}

-- ---- what is in the place of an entry

pub over-none : (states : List EntryState) → over states [] ≡ states
over-none [] = refl
over-none (s ∷ ss) = refl

pub over-at : (states : List EntryState) (others : List (Option (List ℕ))) (at : ℕ) (state : EntryState) → slice_get states at ≡ Some state
    → slice_get (over states others) at ≡ Some (put state (option_flat (slice_get others at)))
over-at [] others at state e = absurd (none-some state e)
over-at (s ∷ ss) [] at state e = e
over-at (s ∷ ss) (o ∷ os) zero state e = ap (λ (x : EntryState). Some (put x o)) (same_Some s state e)
over-at (s ∷ ss) (o ∷ os) (suc at) state e = over-at ss os at state e

-- no entry gets no names
void-put : (state : EntryState) (other field : Option (List ℕ)) → entry_in (put state other) ≡ None → put state None ≡ named_state field (put state other)
void-put unresolved None None e = refl
void-put unresolved None (Some f) e = refl
void-put oversized None None e = refl
void-put oversized None (Some f) e = refl
void-put (written bytes) None field e = absurd (none-some bytes (sym e))
void-put state (Some bytes) field e = absurd (none-some bytes (sym e))

pub was-written : (state : EntryState) (bytes : List ℕ) → entry_in state ≡ Some bytes → state ≡ written bytes
was-written unresolved bytes e = absurd (none-some bytes e)
was-written oversized bytes e = absurd (none-some bytes e)
was-written (written found) bytes e = ap written (same_Some found bytes e)

module _ (states : List EntryState) (others : List (Option (List ℕ))) (at : ℕ) (state : EntryState) (becomes : slice_get states at ≡ Some state) where
  pub entry-there : entry_at (over states others) at ≡ entry_in (put state (option_flat (slice_get others at)))
  entry-there = ap (option_and_then entry_in) (over-at states others at state becomes)

  pub no-names : (field : Option (List ℕ)) → entry_at (over states others) at ≡ None
      → put state None ≡ named_state field (put state (option_flat (slice_get others at)))
  no-names field none = void-put state (option_flat (slice_get others at)) field (sym entry-there ∙ none)

  pub whole-names : (field bytes named : List ℕ) → entry_at (over states others) at ≡ Some bytes → written named ≡ named_state (Some field) (written bytes)
      → put state (Some named) ≡ named_state (Some field) (put state (option_flat (slice_get others at)))
  whole-names field bytes named is made =
      made ∙ ap (named_state (Some field)) (sym (was-written (put state (option_flat (slice_get others at))) bytes (sym entry-there ∙ is)))

-- ---- all of them

-- what is in the place of an entry is that with its names
abbrev pub IsNamed : List EntryState → List (Option (List ℕ)) → List (Option (List ℕ)) → List (Option (List ℕ)) → ℕ → Type 0
IsNamed states others fields named k =
    (state : EntryState) (other : Option (List ℕ)) → slice_get states k ≡ Some state → slice_get named k ≡ Some other
    → put state other ≡ named_state (option_flat (slice_get fields k)) (put state (option_flat (slice_get others k)))

cons : (s t : EntryState) (ss ts : List EntryState) → s ≡ t → ss ≡ ts → s ∷ ss ≡ t ∷ ts
cons s t ss ts e f = ap (λ (x : EntryState). x ∷ ss) e ∙ ap (λ (xs : List EntryState). t ∷ xs) f

nothing-named : (fields : List (Option (List ℕ))) → [] ≡ named_states fields []
nothing-named [] = refl
nothing-named (f ∷ fs) = refl

pub all-named : (states : List EntryState) (others fields named : List (Option (List ℕ))) → length named ≡ length states
    → ((k : ℕ) → IsNamed states others fields named k) → over states named ≡ named_states fields (over states others)
all-named [] others fields named many each = nothing-named fields
all-named (s ∷ ss) others fields [] many each = absurd (omega (arith, many))
all-named (s ∷ ss) [] [] (n ∷ ns) many each =
    cons (put s n) s (over ss ns) ss (each zero s n refl refl)
    (all-named ss [] [] ns (omega (arith, many)) (λ k. each (suc k)) ∙ over-none ss)
all-named (s ∷ ss) [] (f ∷ fs) (n ∷ ns) many each =
    cons (put s n) (named_state f s) (over ss ns) (named_states fs ss) (each zero s n refl refl)
    (all-named ss [] fs ns (omega (arith, many)) (λ k. each (suc k)) ∙ ap (named_states fs) (over-none ss))
all-named (s ∷ ss) (o ∷ os) [] (n ∷ ns) many each =
    cons (put s n) (put s o) (over ss ns) (over ss os) (each zero s n refl refl) (all-named ss os [] ns (omega (arith, many)) (λ k. each (suc k)))
all-named (s ∷ ss) (o ∷ os) (f ∷ fs) (n ∷ ns) many each =
    cons (put s n) (named_state f (put s o)) (over ss ns) (named_states fs (over ss os)) (each zero s n refl refl)
    (all-named ss os fs ns (omega (arith, many)) (λ k. each (suc k)))

pushed-at : {X : Type 0} (xs : List X) (x y : X) (k : ℕ) → slice_get (xs ++ x ∷ []) k ≡ Some y
    → (slice_get xs k ≡ Some y) ⊎ ((k ≡ length xs) × (x ≡ y))
pushed-at [] x y zero e = inr (refl, same_Some x y e)
pushed-at [] x y (suc k) e = absurd (none-some y e)
pushed-at (z ∷ zs) x y zero e = inl e
pushed-at (z ∷ zs) x y (suc k) e = elim (pushed-at zs x y k e) [ inl there ↦ inl there | inr last ↦ inr (omega (arith, last.0), last.1) ]

-- one more
pub one-named : (states : List EntryState) (others fields named next : List (Option (List ℕ))) (at : ℕ) (other : Option (List ℕ)) → length named ≡ at
    → next ≡ named ++ other ∷ [] → ((k : ℕ) → IsNamed states others fields named k)
    → ((state : EntryState) → slice_get states at ≡ Some state
    → put state other ≡ named_state (option_flat (slice_get fields at)) (put state (option_flat (slice_get others at))))
    → (k : ℕ) → IsNamed states others fields next k
one-named states others fields named next at other many is each here k state o becomes there =
    elim (pushed-at named other o k (ap (λ (os : List (Option (List ℕ))). slice_get os k) (sym is) ∙ there)) [
      | inl before ↦ each k state o becomes before
      | inr last ↦
          let place : at ≡ k = omega (arith, many, last.0) in
          subst (λ (j : ℕ). put state o ≡ named_state (option_flat (slice_get fields j)) (put state (option_flat (slice_get others j)))) place
          (ap (put state) (sym last.1) ∙ here state (ap (slice_get states) place ∙ becomes))
    ]
