-- How many places are written up to the last that is there, when one place changes.
use Rattle.std.proofs.Common.{◌≡◌, ◌≢◌, ℕ, zero, suc, ◌<◌, ◌≤◌, max, Bool, true, false, cond, Option, refl, sym, ap, ◌∙◌, arith, inl, inr}
use Rattle.std.proofs.lemmas.Bool.{cases_lt, cases_eq}
use Rattle.ti_layout.specs.Image.{last_passing, is_there}
use Rattle.ti_layout.specs.Values.{Content}
use Rattle.ti_layout.proofs.Below.{last_passing-le, last_passing-past, last_passing-is}

-- the place before the end passes
pub last_passing-here : (test : ℕ → Bool) (n i : ℕ) → suc i ≡ last_passing test n → test i ≡ true
unfolding last_passing
last_passing-here test zero i e = absurd (omega arith)
last_passing-here test (suc n) i e =
    elim (test n) as (λ b. test n ≡ b → suc i ≡ cond b (suc n) (last_passing test n) → test i ≡ true) [
      | true ↦ λ t h. let same : i ≡ n = omega arith in ap test same ∙ t
      | false ↦ λ t h. last_passing-here test n i h
    ] refl e

abbrev pub count : (ℕ → Option Content) → ℕ → ℕ
count f n = last_passing (λ i. is_there (f i)) n

module _ (f g : ℕ → Option Content) (n i : ℕ) (within : i < n) (others : (j : ℕ) → j ≢ i → g j ≡ f j) where
  same_there : (j : ℕ) → j ≢ i → is_there (g j) ≡ is_there (f j)
  same_there j other = ap is_there (others j other)

  le : count f n ≤ n
  le = last_passing-le (λ j. is_there (f j)) n

  pub count-put : is_there (g i) ≡ true → (m : ℕ) → m ≡ max (count f n) (suc i) → count g n ≡ m
  count-put there m e = let k = le in last_passing-is (λ j. is_there (g j)) n m (omega arith)
      (λ j h. elim (cases_eq j i) [
        | inl same ↦ ap (λ x. is_there (g x)) same ∙ there
        | inr other ↦ same_there j other ∙ last_passing-here (λ x. is_there (f x)) n j (omega arith)
      ])
      (λ j low lt. same_there j (λ same. omega arith) ∙ last_passing-past (λ x. is_there (f x)) n j (omega arith) lt)

  past_or_here : is_there (g i) ≡ false → (j : ℕ) → (j ≢ i → is_there (f j) ≡ false) → is_there (g j) ≡ false
  past_or_here none j past = elim (cases_eq j i) [
    | inl same ↦ ap (λ x. is_there (g x)) same ∙ none
    | inr other ↦ same_there j other ∙ past other
  ]

  pub count-unchanged : is_there (g i) ≡ false → suc i ≢ count f n → count g n ≡ count f n
  count-unchanged none other = last_passing-is (λ j. is_there (g j)) n (count f n) le
      (λ j h. same_there j (λ same. other (ap suc (sym same) ∙ h)) ∙ last_passing-here (λ x. is_there (f x)) n j h)
      (λ j low lt. past_or_here none j (λ _. last_passing-past (λ x. is_there (f x)) n j low lt))

  -- m is the end of the places before it
  pub count-down : is_there (g i) ≡ false → suc i ≡ count f n → (m : ℕ) → m ≤ i → ((j : ℕ) → suc j ≡ m → is_there (f j) ≡ true)
      → ((j : ℕ) → m ≤ j → j < i → is_there (f j) ≡ false) → count g n ≡ m
  count-down none here m low last past = last_passing-is (λ j. is_there (g j)) n m (omega arith)
      (λ j h. same_there j (λ same. omega arith) ∙ last j h)
      (λ j l lt. past_or_here none j (λ other. elim (cases_lt j i) [
        | inl under ↦ past j l under
        | inr over ↦ last_passing-past (λ x. is_there (f x)) n j (let m : j ≢ i = other in omega arith) lt
      ]))
