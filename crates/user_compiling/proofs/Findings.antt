-- What was found out about blocks serves for their faults.
use Rattle.std.proofs.Common.{◌≡◌, ◌⊎◌, inl, inr, ℕ, zero, suc, Bool, true, false, List, [], ◌∷◌, ◌++◌, map, length, Some, slice_get}
use Rattle.std.proofs.Common.{refl, sym, ap, ◌∙◌, subst}
use Rattle.std.proofs.lemmas.Bool.{false≢true}
use Rattle.std.proofs.lemmas.Option.{same_Some, none-some}
use Rattle.base_meaning.specs.Compiled.{EntryState, unresolved, oversized, written}
use Rattle.base_meaning.specs.Faults.{entry_faults}
use Rattle.user_compiling.specs.Faults.{ExtendedSourceFault, of_profile}
use Rattle.user_compiling.specs.Findings.{is_over_limit, IsFindingBy}
use Rattle.user_compiling.specs.declared.finding.Finding.{Finding}

-- some state that is over the limit, or is not
abbrev pub like_state : Bool → EntryState
like_state true = oversized
like_state false = unresolved

pub like_limit : (b : Bool) → b ≡ is_over_limit (like_state b)
like_limit true = refl
like_limit false = refl

-- ---- the fault of an entry

pub fault_over_limit : (at : ℕ) (names : List (List ℕ)) (state : EntryState) → true ≡ is_over_limit state
    → map of_profile (entry_faults at names oversized) ≡ map of_profile (entry_faults at names state)
fault_over_limit at names unresolved e = absurd (false≢true (sym e))
fault_over_limit at names oversized e = refl
fault_over_limit at names (written bytes) e = absurd (false≢true (sym e))

pub fault_within_limit : (at : ℕ) (names : List (List ℕ)) (state : EntryState) → false ≡ is_over_limit state
    → ◌≡◌ {A = List ExtendedSourceFault} [] (map of_profile (entry_faults at names state))
fault_within_limit at names unresolved e = refl
fault_within_limit at names oversized e = absurd (false≢true e)
fault_within_limit at names (written bytes) e = refl

-- ---- one more finding

pub get-last : {X : Type 0} (xs : List X) (x : X) (k : ℕ) (y : X) → slice_get (xs ++ x ∷ []) k ≡ Some y
    → (slice_get xs k ≡ Some y) ⊎ ((k ≡ length xs) × (x ≡ y))
get-last [] x zero y e = inr (refl, same_Some x y e)
get-last [] x (suc k) y e = absurd (none-some y e)
get-last (z ∷ zs) x zero y e = inl e
get-last (z ∷ zs) x (suc k) y e =
    elim (get-last zs x k y e) [ inl here ↦ inl here | inr last ↦ inr (ap suc last.0, last.1) ]

-- the findings of the first blocks of a source
pub record AreFirst (texts : List (List ℕ)) (states : List EntryState) (findings : List Finding) : Type 0 where
  pub each : (at : ℕ) (text : List ℕ) (state : EntryState) (finding : Finding) → slice_get texts at ≡ Some text → slice_get states at ≡ Some state
      → slice_get findings at ≡ Some finding → IsFindingBy text state finding

pub none_found : (texts : List (List ℕ)) (states : List EntryState) (findings : List Finding) → findings ≡ [] → AreFirst texts states findings
none_found texts states findings e = record {
  each = λ at text state finding t s f. absurd (none-some finding (sym (ap (λ (fs : List Finding). slice_get fs at) e) ∙ f));
}

pub one_more_found : (texts : List (List ℕ)) (states : List EntryState) (findings more : List Finding) (finding : Finding) (place : ℕ) (state : EntryState)
    → AreFirst texts states findings → more ≡ findings ++ finding ∷ [] → place ≡ length findings → slice_get states place ≡ Some state
    → ((text : List ℕ) → slice_get texts place ≡ Some text → IsFindingBy text state finding)
    → AreFirst texts states more
one_more_found texts states findings more finding place state h e n there is = record {
  each = λ at text other found t s f.
      elim (get-last findings finding at found (sym (ap (λ (fs : List Finding). slice_get fs at) e) ∙ f)) [
        | inl before ↦ h.each at text other found t s before
        | inr last ↦
            let here : at ≡ place = last.0 ∙ sym n in
            let stands : slice_get texts place ≡ Some text = sym (ap (slice_get texts) here) ∙ t in
            let same : state ≡ other = same_Some state other (sym there ∙ sym (ap (slice_get states) here) ∙ s) in
            subst (λ f. IsFindingBy text other f) last.1 (subst (λ s. IsFindingBy text s finding) same (is text stands))
      ];
}
