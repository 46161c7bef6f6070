-- The laws of lists of the ids that pass a test.
use Rattle.std.proofs.Common.{◌≡◌, ℕ, zero, suc, ◌<◌, inl, inr, List, [], ◌∷◌, Bool, false, Some, slice_get, filter, insert, remove, refl, sym, ◌∙◌, ap, arith}
use Rattle.std.proofs.lemmas.Bool.{cases_Bool, false≢true}
use Rattle.std.proofs.lemmas.Option.{same_Some, none-some}
use Rattle.base_index.specs.Listing.{Lists}
use Rattle.base_index.specs.Laws.{ListsAreAmong, ListsStay, ListsAgree, IsFirstPassing, FirstsAreFirst}
use Rattle.base_index.proofs.Filtering.{filter_place}

pub among_all : ListsAreAmong
among_all listed test i id e = let p = filter_place test listed i id e in (p.0, p.1)

filter-inserted : (listed : List ℕ) (position id : ℕ) (test : ℕ → Bool) → test id ≡ false → filter test (insert listed position id) ≡ filter test listed
filter-inserted listed zero id test fails = rw fails refl
filter-inserted [] (suc p) id test fails = rw fails refl
filter-inserted (x ∷ listed) (suc p) id test fails =
    let rest = filter-inserted listed p id test fails in
    elim (cases_Bool (test x)) [
      | inl t ↦ rw (t, rest) refl
      | inr t ↦ rw (t, rest) refl
    ]

filter-removed : (listed : List ℕ) (position id : ℕ) (test : ℕ → Bool) → slice_get listed position ≡ Some id → test id ≡ false
    → filter test (remove listed position) ≡ filter test listed
filter-removed [] p id test e fails = absurd (none-some id e)
filter-removed (x ∷ listed) zero id test e fails =
    let same : test x ≡ false = ap test (same_Some x id e) ∙ fails in rw same refl
filter-removed (x ∷ listed) (suc p) id test e fails =
    let rest = filter-removed listed p id test e fails in
    elim (cases_Bool (test x)) [
      | inl t ↦ rw (t, rest) refl
      | inr t ↦ rw (t, rest) refl
    ]

pub staying_lists : ListsStay
staying_lists = record { inserted = filter-inserted; removed = filter-removed }

pub agreeing_lists : ListsAgree
agreeing_lists [] test other same = refl
agreeing_lists (x ∷ listed) test other same =
    let here : test x ≡ other x = same 0 x refl in
    let rest = agreeing_lists listed test other (λ i id e. same (suc i) id e) in
    rw (here, rest) refl

passes_later : (x : ℕ) (listed : List ℕ) (test : ℕ → Bool) (id : ℕ) → test x ≡ false → (position : ℕ) × IsFirstPassing listed test position id
    → (position : ℕ) × IsFirstPassing (x ∷ listed) test position id
passes_later x listed test id fails (p, h) = (suc p, record { stands = h.stands; passes = h.passes; first = before }) where
  before : (b other : ℕ) → b < suc p → slice_get (x ∷ listed) b ≡ Some other → test other ≡ false
  before zero other l e = ap test (sym (same_Some x other e)) ∙ fails
  before (suc b) other l e = h.first b other (omega arith) e

first_passing : (listed : List ℕ) (test : ℕ → Bool) (id : ℕ) → slice_get (filter test listed) 0 ≡ Some id → (position : ℕ)
    × IsFirstPassing listed test position id
first_passing [] test id e = absurd (none-some id e)
first_passing (x ∷ listed) test id e =
    elim (cases_Bool (test x)) [
      | inl t ↦
          let same : x ≡ id = same_Some x id (rw t at e) in
          (0, record { stands = ap (λ y. Some y) same; passes = ap test (sym same) ∙ t; first = λ b other l. absurd (omega arith) })
      | inr t ↦ passes_later x listed test id t (first_passing listed test id (rw t at e))
    ]

none_passing : (listed : List ℕ) (test : ℕ → Bool) → filter test listed ≡ [] → (position id : ℕ) → slice_get listed position ≡ Some id → test id ≡ false
none_passing [] test e p id f = absurd (none-some id f)
none_passing (x ∷ listed) test e p id f =
    elim (cases_Bool (test x)) [
      | inl t ↦ (let some : x ∷ filter test listed ≡ [] = rw t at e in cc)
      | inr t ↦ fails_on t (rw t at e) (none_passing listed test (rw t at e)) p f
    ] where
      fails_on : test x ≡ false → filter test listed ≡ [] → ((q y : ℕ) → slice_get listed q ≡ Some y → test y ≡ false) → (q : ℕ)
          → slice_get (x ∷ listed) q ≡ Some id → test id ≡ false
      fails_on t g rest zero h = ap test (sym (same_Some x id h)) ∙ t
      fails_on t g rest (suc q) h = rest q id h

pub first_lists : FirstsAreFirst
first_lists = record { some = first_passing; none = none_passing }

-- a list that has an id is not empty
pub lists_none : (listed : List ℕ) (id place : ℕ) → slice_get listed place ≡ Some id → Lists listed [] id → ⊥
lists_none listed id place f (test, e, passes) = false≢true (sym (none_passing listed test (sym e) place id f) ∙ passes)
