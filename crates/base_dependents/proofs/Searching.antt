-- What holds of a search from its beginning on, and what it has found at its end.
use Rattle.std.proofs.Common.{◌≡◌, ℕ, zero, suc, ◌+◌, ◌<◌, ◌≤◌, ◌⊎◌, inl, inr, List, [], ◌∷◌, ◌++◌, length, nat_eq, Option, Some, None, slice_get, refl}
use Rattle.std.proofs.Common.{sym, ◌∙◌, ap, subst, arith}
use Rattle.std.specs.Cmp.{nat_eq_equiv}
use Rattle.std.specs.List.{IsDistinct}
use Rattle.std.proofs.lemmas.Bool.{cases_lt, eq-eqb}
use Rattle.std.proofs.lemmas.Map.Keys.{any_passes_from_place}
use Rattle.std.proofs.lemmas.Map.Made.{length-le_from_is_member}
use Rattle.std.proofs.lemmas.Option.{same_Some, none-some}
use Rattle.ti_text.specs.Lists.{Has, AreDistinct}
use Rattle.base_slots.specs.declared.slots.Slots.{Slots}
use Rattle.base_slots.specs.Slots.{ids_of, reading_at, StandsAt}
use Rattle.base_slots.proofs.Owners.{user_uses}
use Rattle.base_dependents.specs.inside.Search.{AddsPassing, IsUserOf, IsUserOfOne, IsUserOfOwned, IsPutOrUser, IsPutOrUserIn, Depends, IsSearch}
use Rattle.base_dependents.proofs.Adding.{adds_none}
use Rattle.ti_text.proofs.Lists.{Has_front, Has_split, Has_none, Has_from_any}
use Rattle.base_dependents.proofs.Dependence.{put_depends, out_depends, names_depend, owned_depends}

user_stands : (s : Slots) (name : List ℕ) (id : ℕ) → IsUserOf s name id → Has (ids_of s) id
user_stands s name id u = let w = user_uses s name u.0 id u.1 in (w.0, w.2)

-- the block put in is in the list, if there is one
abbrev pub StandsPut : Slots → Option ℕ → Type 0
StandsPut s put = (id : ℕ) → put ≡ Some id → (at : ℕ) × StandsAt s at id

put_stands : (s : Slots) (put : Option ℕ) (id : ℕ) → StandsPut s put → IsPutOrUserIn s put id → Has (ids_of s) id
put_stands s None id there a = absurd a
put_stands s (Some p) id there (inl same) = let w = there p refl in rw same (w.0, w.1)
put_stands s (Some p) id there (inr u) = user_stands s u.1 id u.3

put_sound : (s : Slots) (put : Option ℕ) (out : List (List ℕ)) (id : ℕ) → StandsPut s put → IsPutOrUserIn s put id → Depends s put out id
put_sound s None out id there a = absurd a
put_sound s (Some p) out id there (inl same) = let w = there p refl in put_depends s (Some p) out id (ap (λ n. Some n) (sym same)) (rw same (w.0, w.1))
put_sound s (Some p) out id there (inr u) = let w = there p refl in names_depend s (Some p) out p id refl (w.0, w.1) u

-- the block put in and the users of touched names were added to nothing
pub search_begun : (s : Slots) (put : Option ℕ) (out : List (List ℕ)) (first found : List ℕ) → StandsPut s put → AddsPassing (IsPutOrUserIn s put) [] first
    → AddsPassing (IsUserOfOne s out) first found → IsSearch s put out found 0
search_begun s put out first found there h k = record {
  within = λ id f. elim (origin id f) [ inl a ↦ put_stands s put id there a | inr u ↦ user_stands s u.1 id u.3 ];
  sound = λ id f. elim (origin id f) [ inl a ↦ put_sound s put out id there a | inr u ↦ out_depends s put out id u ];
  has_put = λ id a. rw k.behind (Has_front first k.added id (h.all id a));
  has_out = λ id u. k.all id u;
  closed = λ i p l. absurd (omega arith);
} where
  origin : (id : ℕ) → Has found id → IsPutOrUserIn s put id ⊎ IsUserOfOne s out id
  origin id f =
      elim (Has_split first k.added id (rw k.behind at f)) [
        | inl early ↦ elim (Has_split [] h.added id (rw h.behind at early)) [
          | inl none ↦ absurd (Has_none id none)
          | inr a ↦ inl (h.only id a)
        ]
        | inr late ↦ inr (k.only id late)
      ]

get_old : {X : Type 0} (xs ys : List X) (i k : ℕ) (x y : X) → i ≤ k → slice_get xs k ≡ Some y → slice_get (xs ++ ys) i ≡ Some x → slice_get xs i ≡ Some x
get_old [] ys i k x y l e f = absurd (none-some y e)
get_old (z ∷ zs) ys zero k x y l e f = f
get_old (z ∷ zs) ys (suc i) zero x y l e f = absurd (omega arith)
get_old (z ∷ zs) ys (suc i) (suc k) x y l e f = get_old zs ys i k x y (omega arith) e f

-- the users of the names of one more block were added
pub search_more : (s : Slots) (put : Option ℕ) (out : List (List ℕ)) (found new : List ℕ) (next p : ℕ) → AreDistinct (ids_of s)
    → IsSearch s put out found next → slice_get found next ≡ Some p → AddsPassing (IsUserOfOwned s p (reading_at s p).names) found new
    → IsSearch s put out new (next + 1)
search_more s put out found new next p x h here adds = rw adds.behind (record {
  within = λ id f. elim (Has_split found adds.added id f) [
    | inl before ↦ h.within id before
    | inr later ↦ let u = adds.only id later in user_stands s u.1 id u.4
  ];
  sound = λ id f. elim (Has_split found adds.added id f) [
    | inl before ↦ h.sound id before
    | inr later ↦ owned_depends s put out p id (reading_at s p).names x (h.sound p (next, here)) (adds.only id later)
  ];
  has_put = λ id a. Has_front found adds.added id (h.has_put id a);
  has_out = λ id u. Has_front found adds.added id (h.has_out id u);
  closed = λ i q l e id u.
      elim (cases_lt i next) [
        | inl below ↦
            let old : slice_get found i ≡ Some q = get_old found adds.added i next q p (omega arith) here e in
            Has_front found adds.added id (h.closed i q below old id u)
        | inr above ↦
            let same : i ≡ next = omega arith in
            let old : slice_get found next ≡ Some q = get_old found adds.added next next q p (omega arith) here (rw same at e) in
            let one : q ≡ p = same_Some q p (sym old ∙ here) in
            rw (← adds.behind) (adds.all id (rw one at u))
      ];
})

-- ---- the beginning, whether a block was put in or not

pub first_put : (s : Slots) (put : Option ℕ) (p : ℕ) (none first : List ℕ) → none ≡ [] → put ≡ Some p → AddsPassing (IsPutOrUser s p) none first
    → AddsPassing (IsPutOrUserIn s put) [] first
first_put s put p none first empty is h =
    let P : Option ℕ → Type 0 = λ o. AddsPassing (IsPutOrUserIn s o) [] first in
    let Q : List ℕ → Type 0 = λ xs. AddsPassing (IsPutOrUser s p) xs first in
    subst P (sym is) (subst Q empty h)

pub first_none : (s : Slots) (put : Option ℕ) (none : List ℕ) → none ≡ [] → put ≡ None → AddsPassing (IsPutOrUserIn s put) [] none
first_none s put none empty is =
    let P : Option ℕ → Type 0 = λ o. AddsPassing (IsPutOrUserIn s o) [] none in
    let Q : List ℕ → Type 0 = λ xs. AddsPassing (IsPutOrUserIn s None) [] xs in
    subst P (sym is) (subst Q (sym empty) (adds_none (IsPutOrUserIn s None) [] (λ id a. a)))

-- ---- on the way, and at the end

-- no more blocks are found than there are
pub found_few : (s : Slots) (put : Option ℕ) (out : List (List ℕ)) (found : List ℕ) (next : ℕ) → IsSearch s put out found next → IsDistinct nat_eq found
    → length found ≤ length (ids_of s)
found_few s put out found next h d =
    length-le_from_is_member nat_eq_equiv found (ids_of s) d
    (λ q e. let f = Has_from_any found q e in let w = h.within q (f.0, f.1) in any_passes_from_place (nat_eq q) (ids_of s) w.0 q w.1 (eq-eqb q q refl))

pub search_ended : (s : Slots) (put : Option ℕ) (out : List (List ℕ)) (found : List ℕ) (next : ℕ) → IsSearch s put out found next → length found ≤ next
    → IsSearch s put out found (length found)
search_ended s put out found next h l = record {
  within = h.within;
  sound = h.sound;
  has_put = h.has_put;
  has_out = h.has_out;
  closed = λ i p m. h.closed i p (omega arith);
}

-- the names in memory are those of the block
pub search_step : (s : Slots) (put : Option ℕ) (out : List (List ℕ)) (found new : List ℕ) (next p : ℕ) (names : List (List ℕ)) → AreDistinct (ids_of s)
    → IsSearch s put out found next → slice_get found next ≡ Some p → names ≡ (reading_at s p).names
    → AddsPassing (IsUserOfOwned s p names) found new → IsSearch s put out new (next + 1)
search_step s put out found new next p names x h here same adds =
    let P : List (List ℕ) → Type 0 = λ ns. AddsPassing (IsUserOfOwned s p ns) found new in
    search_more s put out found new next p x h here (subst P same adds)
