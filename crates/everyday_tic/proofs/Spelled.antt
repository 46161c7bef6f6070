-- The entries with the constants of their strings as characters.
use Rattle.std.proofs.Common.{◌≡◌, ◌⊎◌, ◌+◌, ℕ, zero, suc, Bool, true, false, List, [], ◌∷◌, ◌++◌, length, Option, None, Some, inl, inr}
use Rattle.std.proofs.Common.{slice_get, unwrap_or, refl, sym, ap, ◌∙◌, subst, arith}
use Rattle.std.specs.List.{AllZip}
use Rattle.std.proofs.lemmas.Option.{none-some, same_Some}
use Rattle.base_meaning.specs.Compiled.{EntryState, oversized, unresolved, written}
use Rattle.user_compiling.specs.Entries.{entry_in}
use Rattle.everyday_constants.specs.Entries.{IsWithCharacters}
use Rattle.everyday_constants.specs.Laws.{OneWithCharacters}
use Rattle.everyday_tic.specs.Characters.{AreWithCharacters, IsStateWithCharacters}
use Rattle.everyday_tic.specs.Entries.{entry_at}
use Rattle.everyday_tic.specs.inside.States.{option_flat, over, put}
use Rattle.everyday_tic.proofs.Drawn.{pushed-at}
use Rattle.everyday_tic.proofs.WholeNames.{entry-there, over-none, was-written}

-- ---- one of them

-- a block without an entry
void-with : (state : EntryState) (other : Option (List ℕ)) → entry_in (put state other) ≡ None → IsStateWithCharacters (put state other) (put state None)
void-with unresolved None e = refl
void-with oversized None e = refl
void-with (written bytes) None e = absurd (none-some bytes (sym e))
void-with state (Some bytes) e = absurd (none-some bytes (sym e))

module _ (states : List EntryState) (others : List (Option (List ℕ))) (at : ℕ) (state : EntryState) (becomes : slice_get states at ≡ Some state) where
  abbrev before : EntryState
  before = put state (option_flat (slice_get others at))

  pub none-with : entry_at (over states others) at ≡ None → IsStateWithCharacters (put state (option_flat (slice_get others at))) (put state None)
  none-with none = void-with state (option_flat (slice_get others at)) (sym (entry-there states others at state becomes) ∙ none)

  was : (bytes : List ℕ) → entry_at (over states others) at ≡ Some bytes → put state (option_flat (slice_get others at)) ≡ written bytes
  was bytes is = was-written (put state (option_flat (slice_get others at))) bytes (sym (entry-there states others at state becomes) ∙ is)

  -- an entry that is written with characters
  pub some-with : (bytes made : List ℕ) → entry_at (over states others) at ≡ Some bytes → IsWithCharacters bytes made
      → IsStateWithCharacters (put state (option_flat (slice_get others at))) (put state (Some made))
  some-with bytes made is with_them =
      subst (λ (s : EntryState). IsStateWithCharacters s (written made)) (sym (was bytes is)) (made, refl, with_them)

  -- one that stays
  pub same-with : (bytes : List ℕ) (copy : Option (List ℕ)) → entry_at (over states others) at ≡ Some bytes → IsWithCharacters bytes bytes
      → copy ≡ option_flat (slice_get others at) → IsStateWithCharacters (put state (option_flat (slice_get others at))) (put state copy)
  same-with bytes copy is with_them same =
      let there = was bytes is in
      subst (λ (s : EntryState). IsStateWithCharacters s (put state copy)) (sym there)
      (bytes, ap (put state) same ∙ there, with_them)

-- ---- all of them

-- what is in the place of an entry is that with characters
abbrev pub IsSpelled : List EntryState → List (Option (List ℕ)) → List (Option (List ℕ)) → ℕ → Type 0
IsSpelled states others made k =
    (state : EntryState) (other : Option (List ℕ)) → slice_get states k ≡ Some state → slice_get made k ≡ Some other
    → IsStateWithCharacters (put state (option_flat (slice_get others k))) (put state other)

pub all-spelled : (states : List EntryState) (others made : List (Option (List ℕ))) → length made ≡ length states
    → ((k : ℕ) → IsSpelled states others made k) → AllZip IsStateWithCharacters (over states others) (over states made)
all-spelled [] others made many each = tt
all-spelled (s ∷ ss) others [] many each = absurd (omega (arith, many))
all-spelled (s ∷ ss) [] (m ∷ ms) many each = (
  each zero s m refl refl,
  subst (λ (xs : List EntryState). AllZip IsStateWithCharacters xs (over ss ms)) (over-none ss)
      (all-spelled ss [] ms (omega (arith, many)) (λ k state other becomes there. each (suc k) state other becomes there)),
)
all-spelled (s ∷ ss) (o ∷ os) (m ∷ ms) many each = (each zero s m refl refl, all-spelled ss os ms (omega (arith, many)) (λ k. each (suc k)))

pub one-more : (states : List EntryState) (others made next : List (Option (List ℕ))) (at : ℕ) (entry : Option (List ℕ)) → length made ≡ at
    → next ≡ made ++ entry ∷ [] → ((k : ℕ) → IsSpelled states others made k)
    → ((state : EntryState) → slice_get states at ≡ Some state → IsStateWithCharacters (put state (option_flat (slice_get others at))) (put state entry))
    → (k : ℕ) → IsSpelled states others next k
one-more states others made next at entry many is each here k state other becomes there =
    elim (pushed-at made entry other k (ap (λ (os : List (Option (List ℕ))). slice_get os k) (sym is) ∙ there)) [
      | inl before ↦ each k state other becomes before
      | inr last ↦
          let place : at ≡ k = omega (arith, many, last.0) in
          subst (λ (x : Option (List ℕ)). IsStateWithCharacters (put state (option_flat (slice_get others k))) (put state x)) last.1
          (subst (λ (n : ℕ). IsStateWithCharacters (put state (option_flat (slice_get others n))) (put state entry)) place
          (here state (ap (slice_get states) place ∙ becomes)))
    ]

-- ---- in one way

one-state : OneWithCharacters → (state one other : EntryState) → IsStateWithCharacters state one → IsStateWithCharacters state other → one ≡ other
one-state law unresolved one other g h = g ∙ sym h
one-state law oversized one other g h = g ∙ sym h
one-state law (written bytes) one other g h = g.1 ∙ ap written (law bytes g.0 h.0 g.2 h.2) ∙ sym h.1

all-one : OneWithCharacters → (states ones others : List EntryState) → AllZip IsStateWithCharacters states ones → AllZip IsStateWithCharacters states others → ones ≡ others
all-one law [] [] [] g h = refl
all-one law [] [] (z ∷ zs) g h = absurd h
all-one law [] (y ∷ ys) zs g h = absurd g
all-one law (s ∷ ss) [] zs g h = absurd g
all-one law (s ∷ ss) (y ∷ ys) [] g h = absurd h
all-one law (s ∷ ss) (y ∷ ys) (z ∷ zs) g h =
    ap (λ (x : EntryState). x ∷ ys) (one-state law s y z g.0 h.0) ∙ ap (λ (xs : List EntryState). z ∷ xs) (all-one law ss ys zs g.1 h.1)

pub one-spelled : OneWithCharacters → (check : Bool) (states ones others : List EntryState) → AreWithCharacters check states ones
    → AreWithCharacters check states others → ones ≡ others
one-spelled law true states ones others g h = g ∙ sym h
one-spelled law false states ones others g h = all-one law states ones others g h
