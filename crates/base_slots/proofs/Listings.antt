-- Lists of the ids that pass a test, and of what is under ids, as an id comes or goes.
use Rattle.std.proofs.Common.{◌≡◌, ◌≢◌, ◌<◌, ◌≤◌, ℕ, suc, zero, inl, inr, List, [], ◌∷◌, length, set, Bool, true, false, not, nat_eq, ◌&&◌, ◌||◌, Some}
use Rattle.std.proofs.Common.{slice_get, filter, insert, remove, refl, sym, ◌∙◌, ap, arith, eq-eqb}
use Rattle.std.proofs.lemmas.Bool.{cases_Bool, cases_eq, eqb-true, false≢true}
use Rattle.std.proofs.lemmas.Option.{same_Some, none-some}
use Rattle.ti_text.specs.Lists.{Has, AreDistinct}
use Rattle.base_index.proofs.LawProofs.{agreeing_lists, staying_lists}
use Rattle.base_index.proofs.Keeping.{insert_cases, remove_cases}

-- ---- tests

pub neq_false : (x y : ℕ) → x ≢ y → nat_eq x y ≡ false
neq_false x y n = elim (cases_Bool (nat_eq x y)) [ inl e ↦ absurd (n (eqb-true x y e)) | inr f ↦ f ]

left_test : (a b t : Bool) → (a ≡ true → t ≡ b) → (not (a && b) && t) ≡ (not a && t)
left_test true true t same = refl
left_test true false t same = same refl
left_test false b t same = refl

-- ---- an id comes

-- the ids of the list that pass, among all and the new one
pub list_before : (listed : List ℕ) (at id : ℕ) (has : ℕ → Bool) → (Has listed id → ⊥) → filter has listed
    ≡ filter (λ x. not (nat_eq x id) && has x) (insert listed at id)
list_before listed at id has fresh =
    let other : ℕ → Bool = λ x. not (nat_eq x id) && has x in
    let fails : other id ≡ false = rw (eq-eqb id id refl) refl in
    agreeing_lists listed has other (λ i x e. (let apart = neq_false x id (λ same. fresh (i, rw same at e)) in rw apart refl))
    ∙ sym (staying_lists.inserted listed at id other fails)

pub list_with : (listed : List ℕ) (id : ℕ) (has new : ℕ → Bool) (passes : Bool) → ((x : ℕ) → x ≢ id → new x ≡ has x) → new id ≡ passes
    → filter (λ x. (nat_eq x id && passes) || (not (nat_eq x id) && has x)) listed ≡ filter new listed
list_with listed id has new passes same here =
    agreeing_lists listed (λ x. (nat_eq x id && passes) || (not (nat_eq x id) && has x)) new (λ i x e. elim (cases_eq x id) [
      | inl one ↦ rw (one, eq-eqb id id refl, here) (or_none passes)
      | inr apart ↦ rw (neq_false x id apart) (sym (same x apart))
    ]) where
      or_none : (b : Bool) → (b || false) ≡ b
      or_none true = refl
      or_none false = refl

-- ---- an id goes

pub list_left : (listed : List ℕ) (id : ℕ) (has : ℕ → Bool) (passes : Bool) → has id ≡ passes
    → filter (λ x. not (nat_eq x id && passes) && has x) listed ≡ filter (λ x. not (nat_eq x id) && has x) listed
list_left listed id has passes here =
    agreeing_lists listed (λ x. not (nat_eq x id && passes) && has x) (λ x. not (nat_eq x id) && has x)
    (λ i x e. left_test (nat_eq x id) passes (has x) (λ one. ap has (eqb-true x id one) ∙ here))

pub list_without : (listed : List ℕ) (at id : ℕ) (has new : ℕ → Bool) → slice_get listed at ≡ Some id → ((x : ℕ) → x ≢ id → new x ≡ has x) → new id ≡ false
    → filter (λ x. not (nat_eq x id) && has x) listed ≡ filter new (remove listed at)
list_without listed at id has new stood same gone =
    let other : ℕ → Bool = λ x. not (nat_eq x id) && has x in
    let fails : other id ≡ false = rw (eq-eqb id id refl) refl in
    sym (staying_lists.removed listed at id other stood fails)
    ∙ agreeing_lists (remove listed at) other new (λ i x e. elim (cases_eq x id) [
      | inl one ↦ rw (one, eq-eqb id id refl) (sym gone)
      | inr apart ↦ rw (neq_false x id apart) (sym (same x apart))
    ])

-- fewer pass a stricter test
stricter : (t u : ℕ → Bool) (x : ℕ) (xs : List ℕ) → (u x ≡ true → t x ≡ true) → length (filter u xs) ≤ length (filter t xs)
    → length (filter u (x ∷ xs)) ≤ length (filter t (x ∷ xs))
stricter t u x xs h rest =
    elim (cases_Bool (u x)) [
      | inl yes_u ↦ rw (yes_u, h yes_u) (omega arith)
      | inr no_u ↦ elim (cases_Bool (t x)) [
        | inl yes_t ↦ rw (no_u, yes_t) (omega arith)
        | inr no_t ↦ rw (no_u, no_t) rest
      ]
    ]

pub fewer_pass : (t u : ℕ → Bool) (xs : List ℕ) → ((x : ℕ) → u x ≡ true → t x ≡ true) → length (filter u xs) ≤ length (filter t xs)
fewer_pass t u [] h = omega arith
fewer_pass t u (x ∷ xs) h = stricter t u x xs (h x) (fewer_pass t u xs h)

pub one_less : (t u : ℕ → Bool) (xs : List ℕ) (at id : ℕ) → ((x : ℕ) → u x ≡ true → t x ≡ true) → slice_get xs at ≡ Some id → t id ≡ true → u id ≡ false
    → length (filter u xs) < length (filter t xs)
one_less t u [] at id h e yes_t no_u = absurd (none-some id e)
one_less t u (x ∷ xs) zero id h e yes_t no_u =
    let same : x ≡ id = same_Some x id e in
    let a : u x ≡ false = ap u same ∙ no_u in
    let b : t x ≡ true = ap t same ∙ yes_t in
    let rest = fewer_pass t u xs h in rw (a, b) (omega arith)
one_less t u (x ∷ xs) (suc at) id h e yes_t no_u =
    let rest = one_less t u xs at id h e yes_t no_u in
    elim (cases_Bool (u x)) [
      | inl yes_here ↦ rw (yes_here, h x yes_here) (omega arith)
      | inr no_here ↦ elim (cases_Bool (t x)) [
        | inl yes_there ↦ rw (no_here, yes_there) (omega arith)
        | inr no_there ↦ rw (no_here, no_there) rest
      ]
    ]

pub and_right : (a b : Bool) → (a && b) ≡ true → b ≡ true
and_right true b e = e
and_right false b e = absurd (false≢true e)

-- ---- what is under the ids

module _ {X : Type 0} where
  pub get_set : (xs : List X) (i : ℕ) (y : X) → i < length xs → slice_get (set xs i y) i ≡ Some y
  get_set [] i y l = absurd (omega arith)
  get_set (z ∷ zs) zero y l = refl
  get_set (z ∷ zs) (suc i) y l = get_set zs i y (omega arith)

  pub get_set_other : (xs : List X) (i j : ℕ) (y : X) → j ≢ i → slice_get (set xs i y) j ≡ slice_get xs j
  get_set_other [] i j y n = refl
  get_set_other (z ∷ zs) zero zero y n = absurd (n refl)
  get_set_other (z ∷ zs) zero (suc j) y n = refl
  get_set_other (z ∷ zs) (suc i) zero y n = refl
  get_set_other (z ∷ zs) (suc i) (suc j) y n = get_set_other zs i j y (λ e. n (ap suc e))

-- an id that is not the one put in was there before
pub stood_before : (xs : List ℕ) (at id pos x : ℕ) → at ≤ length xs → slice_get (insert xs at id) pos ≡ Some x → x ≢ id → Has xs x
stood_before xs at id pos x within e apart = elim (insert_cases xs at id pos x within e) [
  | inl before ↦ (pos, before.1)
  | inr late ↦ elim late [ inl here ↦ absurd (apart here.1) | inr behind ↦ (behind.0, behind.3) ]
]

-- an id that is left was there before, and is not the one taken out
pub left_before : (xs : List ℕ) (at id pos x : ℕ) → AreDistinct xs → slice_get xs at ≡ Some id → slice_get (remove xs at) pos ≡ Some x → Has xs x × (x ≢ id)
left_before xs at id pos x distinct stood e = elim (remove_cases xs at pos x e) [
  | inl before ↦ ((pos, before.1), λ same. (let one = distinct pos at id (rw same at before.1) stood in let l = before.0 in omega arith))
  | inr behind ↦ ((suc pos, behind.1), λ same. (let one = distinct (suc pos) at id (rw same at behind.1) stood in let l = behind.0 in omega arith))
]

pub length-put : (xs : List ℕ) (at x : ℕ) → length (insert xs at x) ≡ suc (length xs)
length-put xs zero x = refl
length-put [] (suc at) x = refl
length-put (z ∷ xs) (suc at) x = ap suc (length-put xs at x)

pub length-taken : (xs : List ℕ) (at x : ℕ) → slice_get xs at ≡ Some x → suc (length (remove xs at)) ≡ length xs
length-taken [] at x e = absurd (none-some x e)
length-taken (z ∷ xs) zero x e = refl
length-taken (z ∷ xs) (suc at) x e = ap suc (length-taken xs at x e)

pub get-inserted : (xs : List ℕ) (at x : ℕ) → at ≤ length xs → slice_get (insert xs at x) at ≡ Some x
get-inserted xs zero x l = refl
get-inserted [] (suc at) x l = absurd (omega arith)
get-inserted (z ∷ xs) (suc at) x l = get-inserted xs at x (omega arith)

-- no id is twice then
pub distinct_put : (xs : List ℕ) (at id : ℕ) → AreDistinct xs → at ≤ length xs → (Has xs id → ⊥) → AreDistinct (insert xs at id)
distinct_put xs at id once within fresh i j x e f =
    elim (insert_cases xs at id i x within e) [
      | inl one ↦ elim (insert_cases xs at id j x within f) [
        | inl two ↦ once i j x one.1 two.1
        | inr late ↦ elim late [
          | inl here ↦ absurd (fresh (i, rw here.1 at one.1))
          | inr two ↦ (let same = once i two.0 x one.1 two.3 in let l = one.0 in let m = two.2 in absurd (omega arith))
        ]
      ]
      | inr late ↦ elim late [
        | inl one ↦ elim (insert_cases xs at id j x within f) [
          | inl two ↦ absurd (fresh (j, rw one.1 at two.1))
          | inr other ↦ elim other [
            | inl two ↦ one.0 ∙ sym two.0
            | inr two ↦ absurd (fresh (two.0, rw one.1 at two.3))
          ]
        ]
        | inr one ↦ elim (insert_cases xs at id j x within f) [
          | inl two ↦ (let same = once one.0 j x one.3 two.1 in let l = two.0 in let m = one.2 in absurd (omega arith))
          | inr other ↦ elim other [
            | inl two ↦ absurd (fresh (one.0, rw two.1 at one.3))
            | inr two ↦ one.1 ∙ (ap suc (once one.0 two.0 x one.3 two.3) ∙ sym two.1)
          ]
        ]
      ]
    ]

pub distinct_taken : (xs : List ℕ) (at : ℕ) → AreDistinct xs → AreDistinct (remove xs at)
distinct_taken xs at once i j x e f =
    elim (remove_cases xs at i x e) [
      | inl one ↦ elim (remove_cases xs at j x f) [
        | inl two ↦ once i j x one.1 two.1
        | inr two ↦ (let same = once i (suc j) x one.1 two.1 in let l = one.0 in let m = two.0 in absurd (omega arith))
      ]
      | inr one ↦ elim (remove_cases xs at j x f) [
        | inl two ↦ (let same = once (suc i) j x one.1 two.1 in let l = two.0 in let m = one.0 in absurd (omega arith))
        | inr two ↦ (let same = once (suc i) (suc j) x one.1 two.1 in omega arith)
      ]
    ]
