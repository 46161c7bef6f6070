-- A test of the places below n that only grows from one depth to the next, and no longer changes
-- once it did not change, is settled at depth n: at each depth before, one more place passes.
use Rattle.std.proofs.Common.{◌≡◌, ℕ, zero, suc, ◌+◌, ◌-◌, ◌<◌, ◌≤◌, ◌⊎◌, inl, inr, Bool, true, false, cond, refl, sym, ◌∙◌, arith}
use Rattle.std.proofs.lemmas.Bool.{cases_lt, false≢true}

-- how many places below n pass
count_below : (ℕ → Bool) → ℕ → ℕ
count_below f zero = 0
count_below f (suc n) = cond (f n) 1 0 + count_below f n

count_below-le : (f : ℕ → Bool) (n : ℕ) → count_below f n ≤ n
unfolding count_below
count_below-le f zero = omega arith
count_below-le f (suc n) =
    elim (f n) as (λ v. cond v 1 0 + count_below f n ≤ suc n) [ true ↦ omega (arith, count_below-le f n) | false ↦ omega (arith, count_below-le f n) ]

abbrev Grows : (ℕ → Bool) → (ℕ → Bool) → ℕ → Type 0
Grows f g n = (p : ℕ) → p < n → f p ≡ true → g p ≡ true

cond_grows : (a b : Bool) → (a ≡ true → b ≡ true) → cond a 1 0 ≤ cond b 1 0
cond_grows true true h = omega arith
cond_grows true false h = absurd (false≢true (h refl))
cond_grows false true h = omega arith
cond_grows false false h = omega arith

count_below-grows : (f g : ℕ → Bool) (n : ℕ) → Grows f g n → count_below f n ≤ count_below g n
unfolding count_below
count_below-grows f g zero h = omega arith
count_below-grows f g (suc n) h =
    let a = cond_grows (f n) (g n) (h n (omega arith)) in
    let b = count_below-grows f g n (λ p l. h p (omega arith)) in
    omega arith

cond_same : (a b : Bool) → (a ≡ true → b ≡ true) → cond b 1 0 ≤ cond a 1 0 → b ≡ a
cond_same true true h l = refl
cond_same true false h l = absurd (false≢true (h refl))
cond_same false true h l = absurd (omega arith)
cond_same false false h l = refl

count_below-same : (f g : ℕ → Bool) (n : ℕ) → Grows f g n → count_below g n ≤ count_below f n → (p : ℕ) → p < n → g p ≡ f p
unfolding count_below
count_below-same f g zero h l p q = absurd (omega arith)
count_below-same f g (suc n) h l p q =
    let rest : Grows f g n = λ r m. h r (omega arith) in
    let a = cond_grows (f n) (g n) (h n (omega arith)) in
    let b = count_below-grows f g n rest in
    let here : g n ≡ f n = cond_same (f n) (g n) (h n (omega arith)) (omega arith) in
    elim (cases_lt p n) [
      | inl below ↦ count_below-same f g n rest (omega arith) p below
      | inr above ↦ let e : p ≡ n = omega arith in rw e here
    ]

count_below-all : (f : ℕ → Bool) (n : ℕ) → n ≤ count_below f n → (p : ℕ) → p < n → f p ≡ true
unfolding count_below
count_below-all f zero l p q = absurd (omega arith)
count_below-all f (suc n) l p q =
    elim (f n) as (λ v. f n ≡ v → suc n ≤ cond v 1 0 + count_below f n → f p ≡ true) [
      | true ↦ λ e m. elim (cases_lt p n) [
        | inl below ↦ count_below-all f n (omega arith) p below
        | inr above ↦ let i : p ≡ n = omega arith in rw i e
      ]
      | false ↦ λ e m. absurd (omega (arith, count_below-le f n))
    ] refl l

-- from one depth to the next no place is lost, and if no place is won none is won later
pub record IsGrowing (r : ℕ → ℕ → Bool) (n : ℕ) : Type 0 where
  pub grows : (k p : ℕ) → p < n → r k p ≡ true → r (suc k) p ≡ true
  pub stays : (k : ℕ) → ((p : ℕ) → p < n → r (suc k) p ≡ r k p) → (p : ℕ) → p < n → r (suc (suc k)) p ≡ r (suc k) p

abbrev Stays : (ℕ → ℕ → Bool) → ℕ → ℕ → Type 0
Stays r n k = (p : ℕ) → p < n → r (suc k) p ≡ r k p

one_more : (r : ℕ → ℕ → Bool) (n : ℕ) → IsGrowing r n → (k : ℕ) → (k ≤ count_below (r k) n) ⊎ Stays r n k
one_more r n h zero = inl (omega arith)
one_more r n h (suc k) =
    elim (one_more r n h k) [
      | inr s ↦ inr (h.stays k s)
      | inl l ↦ elim (cases_lt k (count_below (r (suc k)) n)) [
        | inl more ↦ inl (omega arith)
        | inr same ↦ inr (h.stays k (count_below-same (r k) (r (suc k)) n (h.grows k) (omega arith)))
      ]
    ]

settled_at : (r : ℕ → ℕ → Bool) (n : ℕ) → IsGrowing r n → Stays r n n
settled_at r n h =
    elim (one_more r n h n) [
      | inr s ↦ s
      | inl l ↦ λ p q. let e : r n p ≡ true = count_below-all (r n) n l p q in h.grows n p q e ∙ sym e
    ]

stays_settled : (r : ℕ → ℕ → Bool) (n : ℕ) → IsGrowing r n → (d : ℕ) → Stays r n (d + n)
stays_settled r n h zero = let e : 0 + n ≡ n = omega arith in rw e (settled_at r n h)
stays_settled r n h (suc d) = let e : suc d + n ≡ suc (d + n) = omega arith in rw e (h.stays (d + n) (stays_settled r n h d))

same_settled : (r : ℕ → ℕ → Bool) (n : ℕ) → IsGrowing r n → (d p : ℕ) → p < n → r (d + n) p ≡ r n p
same_settled r n h zero p q = let e : 0 + n ≡ n = omega arith in rw e refl
same_settled r n h (suc d) p q =
    let e : suc d + n ≡ suc (d + n) = omega arith in rw e (stays_settled r n h d p q ∙ same_settled r n h d p q)

-- what passes at some depth passes at each greater one
pub grows_on : (r : ℕ → ℕ → Bool) (n : ℕ) → IsGrowing r n → (d k p : ℕ) → p < n → r k p ≡ true → r (d + k) p ≡ true
grows_on r n h zero k p q e = let i : 0 + k ≡ k = omega arith in rw i e
grows_on r n h (suc d) k p q e = let i : suc d + k ≡ suc (d + k) = omega arith in rw i (h.grows (d + k) p q (grows_on r n h d k p q e))

-- what passes at some depth passes at depth n
pub settles : (r : ℕ → ℕ → Bool) (n : ℕ) → IsGrowing r n → (k p : ℕ) → p < n → r k p ≡ true → r n p ≡ true
settles r n h k p q e =
    elim (cases_lt n k) [
      | inl deep ↦
          let i : (k - n) + n ≡ k = omega arith in
          sym (same_settled r n h (k - n) p q) ∙ (rw i e)
      | inr within ↦ let i : (n - k) + k ≡ n = omega arith in rw (← i) (grows_on r n h (n - k) k p q e)
    ]
