-- The names that are not among those before them are each of the names once, in the order of their
-- first places.
use Rattle.std.proofs.Common.{◌≡◌, ℕ, zero, suc, ◌<◌, inl, inr, Bool, true, false, not, ◌&&◌, ◌||◌, cond, List, [], ◌∷◌, ◌++◌, Some, slice_get, refl, sym}
use Rattle.std.proofs.Common.{◌∙◌, ap, subst, arith}
use Rattle.std.specs.Str.{bytes_eq}
use Rattle.std.proofs.lemmas.Bool.{cases_Bool, false≢true, or_parts, and_parts}
use Rattle.std.proofs.lemmas.Option.{same_Some, none-some}
use Rattle.std.proofs.lemmas.Slice.Eq.{bytes_eq-Decides}
use Rattle.base_meaning.specs.Owner.{is_among}
use Rattle.base_meaning.specs.Faults.{distinct_after}
use Rattle.base_meaning.specs.ItemLaws.{IsFirstPlace, DistinctHasEachOnce}
use Rattle.base_meaning.proofs.Exchanging.{list_any-append}

-- ---- which names are there

same_among : (n m : List ℕ) (names : List (List ℕ)) → bytes_eq n m ≡ true → is_among n names ≡ is_among m names
same_among n m names e = ap (λ x. is_among x names) ((bytes_eq-Decides n m).0 e)

-- by whether the name is the first, whether that one was there before, whether the name was, and
-- whether it comes later
step_same : (b c a : Bool) (one : Bool) → one ≡ cond c false true → b ≡ c → (one || (a && not (b || true))) ≡ ((true || a) && not b)
step_same true true true one e f = rw e refl
step_same true true false one e f = rw e refl
step_same false false true one e f = rw e refl
step_same false false false one e f = rw e refl
step_same true false a one e f = absurd (false≢true (sym f))
step_same false true a one e f = absurd (false≢true f)

step_other : (b a one : Bool) → one ≡ false → (one || (a && not (b || false))) ≡ ((false || a) && not b)
step_other true true one e = rw e refl
step_other true false one e = rw e refl
step_other false true one e = rw e refl
step_other false false one e = rw e refl

among_one : (n name : List ℕ) (c : Bool) → bytes_eq n name ≡ true → is_among n (cond c [] (name ∷ [])) ≡ cond c false true
among_one n name true e = refl
among_one n name false e = ap (λ v. v || false) e

among_other : (n name : List ℕ) (c : Bool) → bytes_eq n name ≡ false → is_among n (cond c [] (name ∷ [])) ≡ false
among_other n name true e = refl
among_other n name false e = ap (λ v. v || false) e

or_false : (a : Bool) → (a || false) ≡ a
or_false true = refl
or_false false = refl

-- what is there is among the names and not before them
among-distinct_after : (n : List ℕ) (before names : List (List ℕ)) → is_among n (distinct_after before names) ≡ (is_among n names && not (is_among n before))
among-distinct_after n before [] = refl
among-distinct_after n before (name ∷ names) =
    let c = is_among name before in
    let rest = distinct_after (before ++ name ∷ []) names in
    let later = among-distinct_after n (before ++ name ∷ []) names in
    let whole = list_any-append n (cond c [] (name ∷ [])) rest in
    let prefix : is_among n (before ++ name ∷ []) ≡ (is_among n before || bytes_eq n name) =
    list_any-append n before (name ∷ []) ∙ ap (λ v. is_among n before || v) (or_false (bytes_eq n name)) in
    let parts : is_among n (distinct_after before (name ∷ names))
    ≡ (is_among n (cond c [] (name ∷ [])) || (is_among n names && not (is_among n before || bytes_eq n name))) =
    whole ∙ (ap (λ v. is_among n (cond c [] (name ∷ [])) || v) later ∙ ap (λ v. is_among n (cond c [] (name ∷ [])) || (is_among n names && not v)) prefix) in
    elim (cases_Bool (bytes_eq n name)) [
      | inl same ↦ parts ∙ (rw same (step_same (is_among n before) c (is_among n names) (is_among n (cond c [] (name ∷ []))) (among_one n name c same)
          (same_among n name before same)))
      | inr other ↦ parts ∙ (rw other (step_other (is_among n before) (is_among n names) (is_among n (cond c [] (name ∷ []))) (among_other n name c other)))
    ]

get_among : (names : List (List ℕ)) (i : ℕ) (n : List ℕ) → slice_get names i ≡ Some n → is_among n names ≡ true
get_among [] i n e = absurd (none-some n e)
get_among (m ∷ names) zero n e = rw ((bytes_eq-Decides n m).1 (sym (same_Some m n e))) refl
get_among (m ∷ names) (suc i) n e = or_true (bytes_eq n m) (is_among n names) (get_among names i n e) where
  or_true : (a b : Bool) → b ≡ true → (a || b) ≡ true
  or_true true b f = refl
  or_true false b f = f

not_true : (b : Bool) → not b ≡ true → b ≡ false
not_true true e = absurd (false≢true e)
not_true false e = refl

-- what is there is none of the names before
not_before : (before names : List (List ℕ)) (i : ℕ) (n : List ℕ) → slice_get (distinct_after before names) i ≡ Some n → is_among n before ≡ false
not_before before names i n e =
    let there : (is_among n names && not (is_among n before)) ≡ true =
    sym (among-distinct_after n before names) ∙ get_among (distinct_after before names) i n e in
    not_true (is_among n before) (and_parts (is_among n names) (not (is_among n before)) there).1

other_name : (before names : List (List ℕ)) (name : List ℕ) (i : ℕ) (n : List ℕ) → slice_get (distinct_after (before ++ name ∷ []) names) i ≡ Some n
    → name ≡ n → ⊥
other_name before names name i n e same =
    let none = not_before (before ++ name ∷ []) names i n e in
    let parts = or_parts (is_among n before) (is_among n (name ∷ [])) (sym (list_any-append n before (name ∷ [])) ∙ none) in
    let off : bytes_eq n name ≡ false = sym (or_false (bytes_eq n name)) ∙ parts.1 in
    false≢true (sym off ∙ (bytes_eq-Decides n name).1 (sym same))

-- ---- first places

first_here : (name : List ℕ) (names : List (List ℕ)) → IsFirstPlace (name ∷ names) name 0
first_here name names = record { stands = refl; first = λ k l. absurd (omega arith) }

first_later : (name n : List ℕ) (names : List (List ℕ)) (at : ℕ) → (name ≡ n → ⊥) → IsFirstPlace names n at → IsFirstPlace (name ∷ names) n (suc at)
first_later name n names at other h = record { stands = h.stands; first = λ k l e. earlier k l e } where
  earlier : (k : ℕ) → k < suc at → slice_get (name ∷ names) k ≡ Some n → ⊥
  earlier zero l e = other (same_Some name n e)
  earlier (suc k) l e = h.first k (omega arith) e

first_back : (name n : List ℕ) (names : List (List ℕ)) (at : ℕ) → (name ≡ n → ⊥) → IsFirstPlace (name ∷ names) n at → (p : ℕ) × (at ≡ suc p)
    × IsFirstPlace names n p
first_back name n names zero other h = absurd (other (same_Some name n h.stands))
first_back name n names (suc at) other h = (at, refl, record { stands = h.stands; first = λ k l e. h.first (suc k) (omega arith) e })

first_zero : (name : List ℕ) (names : List (List ℕ)) (at : ℕ) → IsFirstPlace (name ∷ names) name at → at ≡ 0
first_zero name names zero h = refl
first_zero name names (suc at) h = absurd (h.first 0 (omega arith) refl)

abbrev Places : List (List ℕ) → List (List ℕ) → Type 0
Places names each = (i : ℕ) (n : List ℕ) → slice_get each i ≡ Some n → (at : ℕ) × IsFirstPlace names n at

abbrev Order : List (List ℕ) → List (List ℕ) → Type 0
Order names each = (i j : ℕ) (n m : List ℕ) (at behind : ℕ) → i < j → slice_get each i ≡ Some n → slice_get each j ≡ Some m → IsFirstPlace names n at
    → IsFirstPlace names m behind → at < behind

places_step : (name : List ℕ) (names rest : List (List ℕ)) (c : Bool) → ((i : ℕ) (n : List ℕ) → slice_get rest i ≡ Some n → name ≡ n → ⊥)
    → Places names rest → Places (name ∷ names) (cond c [] (name ∷ []) ++ rest)
places_step name names rest true other h i n e = let w = h i n e in (suc w.0, first_later name n names w.0 (other i n e) w.1)
places_step name names rest false other h zero n e = (0, record { stands = e; first = λ k l. absurd (omega arith) })
places_step name names rest false other h (suc i) n e = let w = h i n e in (suc w.0, first_later name n names w.0 (other i n e) w.1)

order_later : (name : List ℕ) (names rest : List (List ℕ)) → ((i : ℕ) (n : List ℕ) → slice_get rest i ≡ Some n → name ≡ n → ⊥) → Order names rest
    → (i j : ℕ) (n m : List ℕ) (at behind : ℕ) → i < j → slice_get rest i ≡ Some n → slice_get rest j ≡ Some m → IsFirstPlace (name ∷ names) n at
    → IsFirstPlace (name ∷ names) m behind → at < behind
order_later name names rest other h i j n m at behind l e f p q =
    let a = first_back name n names at (other i n e) p in
    let b = first_back name m names behind (other j m f) q in
    let less = h i j n m a.0 b.0 l e f a.2 b.2 in
    let x = a.1 in
    let y = b.1 in
    omega arith

order_step : (name : List ℕ) (names rest : List (List ℕ)) (c : Bool) → ((i : ℕ) (n : List ℕ) → slice_get rest i ≡ Some n → name ≡ n → ⊥) → Order names rest
    → Order (name ∷ names) (cond c [] (name ∷ []) ++ rest)
order_step name names rest true other h i j n m at behind l e f p q = order_later name names rest other h i j n m at behind l e f p q
order_step name names rest false other h zero zero n m at behind l e f p q = absurd (omega arith)
order_step name names rest false other h zero (suc j) n m at behind l e f p q =
    let first : at ≡ 0 = first_zero name names at (subst (λ (x : List ℕ). IsFirstPlace (name ∷ names) x at) (sym (same_Some name n e)) p) in
    let b = first_back name m names behind (other j m f) q in
    let y = b.1 in
    omega arith
order_step name names rest false other h (suc i) zero n m at behind l e f p q = absurd (omega arith)
order_step name names rest false other h (suc i) (suc j) n m at behind l e f p q = order_later name names rest other h i j n m at behind (omega arith) e f p q

all_places : (before names : List (List ℕ)) → Places names (distinct_after before names)
all_places before [] = λ i n e. absurd (none-some n e)
all_places before (name ∷ names) =
    places_step name names (distinct_after (before ++ name ∷ []) names) (is_among name before) (other_name before names name)
    (all_places (before ++ name ∷ []) names)

all_order : (before names : List (List ℕ)) → Order names (distinct_after before names)
all_order before [] = λ i j n m at behind l e. absurd (none-some n e)
all_order before (name ∷ names) =
    order_step name names (distinct_after (before ++ name ∷ []) names) (is_among name before) (other_name before names name)
    (all_order (before ++ name ∷ []) names)

and_true : (a : Bool) → (a && true) ≡ a
and_true true = refl
and_true false = refl

pub distinct_names : DistinctHasEachOnce
distinct_names = λ names. record {
  members = λ n. let e = among-distinct_after n [] names ∙ and_true (is_among n names) in (λ t. sym e ∙ t, λ t. e ∙ t);
  places = all_places [] names;
  order = all_order [] names;
}
