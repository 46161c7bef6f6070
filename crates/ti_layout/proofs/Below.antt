-- Lists that are made place by place, and the places that pass a test.
use Rattle.std.proofs.Common.{◌≡◌, ℕ, zero, suc, ◌+◌, ◌<◌, ◌≤◌, Bool, true, false, cond, [], ◌∷◌, ◌++◌, length, get_or, replicate, Some, None, slice_get}
use Rattle.std.proofs.Common.{refl, sym, ap, ◌∙◌, subst, append_assoc, arith, inl, inr, add-one}
use Rattle.std.proofs.lemmas.Bool.{cases_lt}
use Rattle.std.proofs.lemmas.List.{length-append, get_or_append_left, get_or_at, append-nil, replicate_more}
use Rattle.std.proofs.lemmas.Option.{slice_get-get_or, slice_get_past}
use Rattle.ti_layout.specs.Image.{last_passing, some_below, below}

-- ---- values place by place

pub below-none : (f : ℕ → ℕ) → below f 0 ≡ []
unfolding below
below-none f = refl

pub below-more : (f : ℕ → ℕ) (n : ℕ) → below f (n + 1) ≡ below f n ++ f n ∷ []
unfolding below
below-more f n = rw add-one

pub length-below : (f : ℕ → ℕ) (n : ℕ) → length (below f n) ≡ n
unfolding below
length-below f zero = refl
length-below f (suc n) = omega (arith, length-append (below f n) (f n ∷ []), length-below f n)

pub get_or-below : (f : ℕ → ℕ) (n i d : ℕ) → i < n → get_or (below f n) i d ≡ f i
unfolding below
get_or-below f zero i d lt = absurd (omega arith)
get_or-below f (suc n) i d lt = elim (cases_lt i n) [
  | inl under ↦ get_or_append_left (below f n) (f n ∷ []) d i (omega (arith, length-below f n)) ∙ get_or-below f n i d under
  | inr over ↦
      let same : i ≡ n = omega arith in
      ap (λ j. get_or (below f n ++ f n ∷ []) j d) same ∙ get_or_at (below f n) (f n) [] d n (length-below f n) ∙ ap f (sym same)
]

pub slice_get-below : (f : ℕ → ℕ) (n i : ℕ) → i < n → slice_get (below f n) i ≡ Some (f i)
slice_get-below f n i lt = slice_get-get_or (below f n) i 0 (omega (arith, length-below f n)) ∙ ap (λ x. Some x) (get_or-below f n i 0 lt)

pub slice_get-past_below : (f : ℕ → ℕ) (n i : ℕ) → n ≤ i → slice_get (below f n) i ≡ None
slice_get-past_below f n i le = slice_get_past (below f n) i (omega (arith, length-below f n))

-- only the values of the places count
pub below-same : (f g : ℕ → ℕ) (n : ℕ) → ((i : ℕ) → i < n → f i ≡ g i) → below f n ≡ below g n
unfolding below
below-same f g zero each = refl
below-same f g (suc n) each =
    ap (λ xs. xs ++ f n ∷ []) (below-same f g n (λ i lt. each i (omega arith))) ∙ ap (λ x. below g n ++ x ∷ []) (each n (omega arith))

-- places that have the same value are filled with it
pub below-filled : (f : ℕ → ℕ) (void i k : ℕ) → ((j : ℕ) → i ≤ j → j < i + k → f j ≡ void) → below f (i + k) ≡ below f i ++ replicate k void
below-filled f void i zero each = let e : i + 0 ≡ i = omega arith in ap (below f) e ∙ sym (append-nil (below f i))
below-filled f void i (suc k) each =
    let e : i + suc k ≡ (i + k) + 1 = omega arith in
    let one : k + 1 ≡ suc k = omega arith in
    ap (below f) e ∙ below-more f (i + k)
    ∙ ap (λ xs. xs ++ f (i + k) ∷ []) (below-filled f void i k (λ j low high. each j low (omega arith)))
    ∙ ap (λ x. (below f i ++ replicate k void) ++ x ∷ []) (each (i + k) (omega arith) (omega arith))
    ∙ append_assoc (below f i) (replicate k void) (void ∷ [])
    ∙ ap (λ xs. below f i ++ xs) (replicate_more k void ∙ ap (λ m. replicate m void) one)

-- ---- tests of places

pub some_below-true : (test : ℕ → Bool) (n i : ℕ) → i < n → test i ≡ true → some_below test n ≡ true
unfolding some_below
some_below-true test zero i lt passes = absurd (omega arith)
some_below-true test (suc n) i lt passes = elim (cases_lt i n) [
  | inl under ↦ elim (test n) as (λ b. cond b true (some_below test n) ≡ true) [ true ↦ refl | false ↦ some_below-true test n i under passes ]
  | inr over ↦
      let same : i ≡ n = omega arith in
      ap (λ b. cond b true (some_below test n)) (subst (λ j. test j ≡ true) same passes)
]

pub some_below-false : (test : ℕ → Bool) (n : ℕ) → ((i : ℕ) → i < n → test i ≡ false) → some_below test n ≡ false
unfolding some_below
some_below-false test zero each = refl
some_below-false test (suc n) each =
    ap (λ b. cond b true (some_below test n)) (each n (omega arith)) ∙ some_below-false test n (λ i lt. each i (omega arith))

pub some_below-same : (f g : ℕ → Bool) (n : ℕ) → ((i : ℕ) → i < n → f i ≡ g i) → some_below f n ≡ some_below g n
unfolding some_below
some_below-same f g zero each = refl
some_below-same f g (suc n) each =
    ap (λ b. cond b true (some_below f n)) (each n (omega arith)) ∙ ap (cond (g n) true) (some_below-same f g n (λ i lt. each i (omega arith)))

pub last_passing-same : (f g : ℕ → Bool) (n : ℕ) → ((i : ℕ) → i < n → f i ≡ g i) → last_passing f n ≡ last_passing g n
unfolding last_passing
last_passing-same f g zero each = refl
last_passing-same f g (suc n) each =
    ap (λ b. cond b (suc n) (last_passing f n)) (each n (omega arith)) ∙ ap (cond (g n) (suc n)) (last_passing-same f g n (λ i lt. each i (omega arith)))

-- the last place that passes: no later place does, and it is no more than all
pub last_passing-le : (test : ℕ → Bool) (n : ℕ) → last_passing test n ≤ n
unfolding last_passing
last_passing-le test zero = omega arith
last_passing-le test (suc n) =
    elim (test n) as (λ b. cond b (suc n) (last_passing test n) ≤ suc n) [ true ↦ omega arith | false ↦ omega (arith, last_passing-le test n) ]

pub last_passing-past : (test : ℕ → Bool) (n i : ℕ) → last_passing test n ≤ i → i < n → test i ≡ false
unfolding last_passing
last_passing-past test zero i past lt = absurd (omega (arith, lt))
last_passing-past test (suc n) i past lt =
    elim (test n) as (λ b. test n ≡ b → cond b (suc n) (last_passing test n) ≤ i → test i ≡ false) [
      | true ↦ λ e le. absurd (omega (arith, le, lt))
      | false ↦ λ e le. elim (cases_lt i n) [
        | inl under ↦ last_passing-past test n i le under
        | inr high ↦ let same : i ≡ n = omega arith in rw same e
      ]
    ] refl past

-- a place that passes is before the end
pub last_passing-over : (test : ℕ → Bool) (n i : ℕ) → i < n → test i ≡ true → i < last_passing test n
last_passing-over test n i lt passes = elim (cases_lt i (last_passing test n)) [
  | inl under ↦ under
  | inr past ↦ let fails = last_passing-past test n i (omega arith) lt in let e = passes in absurd cc
]

-- what the end is: the place before it passes, and none from it on
pub last_passing-is : (test : ℕ → Bool) (n p : ℕ) → p ≤ n → ((i : ℕ) → suc i ≡ p → test i ≡ true) → ((i : ℕ) → p ≤ i → i < n → test i ≡ false)
    → last_passing test n ≡ p
unfolding last_passing
last_passing-is test zero p le here past = omega arith
last_passing-is test (suc n) p le here past = elim (cases_lt n p) [
  | inl top ↦ let one : suc n ≡ p = omega arith in ap (λ b. cond b (suc n) (last_passing test n)) (here n one) ∙ one
  | inr under ↦
      ap (λ b. cond b (suc n) (last_passing test n)) (past n (omega arith) (omega arith))
      ∙ last_passing-is test n p (omega arith) here (λ i low lt. past i low (omega arith))
]
