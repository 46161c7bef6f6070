-- The last place of a word in a list, and what it says of the list.
use Rattle.std.specs.Option.{option_or}
use Rattle.std.proofs.Common.{◌≡◌, ◌≢◌, ℕ, zero, suc, ◌<◌, Bool, true, false, if◌then◌else◌, inl, inr, List, [], ◌∷◌, length, get_or, refl, ap, subst, arith, bytes_eq}
use Rattle.std.proofs.Common.{Option, Some, None, option_map}
use Rattle.std.proofs.lemmas.Bool.{cases_lt}
use Rattle.std.proofs.lemmas.Slice.Eq.{bytes_eq-Decides}
use Rattle.ti_names.specs.Names.{last_place_of}

-- the word is at the place and nowhere later, or it is nowhere
unfoldable pub PlaceSays : List ℕ → List (List ℕ) → Option ℕ → Type 0
PlaceSays x ws None = (i : ℕ) → i < length ws → get_or ws i [] ≢ x
PlaceSays x ws (Some i) = (i < length ws) × (get_or ws i [] ≡ x) × ((k : ℕ) → i < k → k < length ws → get_or ws k [] ≢ x)

nowhere : (x w : List ℕ) (ws : List (List ℕ)) → w ≢ x → ((i : ℕ) → i < length ws → get_or ws i [] ≢ x) → (i : ℕ) → i < length (w ∷ ws)
    → get_or (w ∷ ws) i [] ≢ x
nowhere x w ws other says zero l = other
nowhere x w ws other says (suc i) l = says i (omega arith)

not_later : (x w : List ℕ) (ws : List (List ℕ)) (i : ℕ) → ((k : ℕ) → i < k → k < length ws → get_or ws k [] ≢ x) → (k : ℕ) → suc i < k
    → k < length (w ∷ ws) → get_or (w ∷ ws) k [] ≢ x
not_later x w ws i says zero high l = absurd (omega arith)
not_later x w ws i says (suc k) high l = says k (omega arith) (omega arith)

not_after : (x w : List ℕ) (ws : List (List ℕ)) → ((i : ℕ) → i < length ws → get_or ws i [] ≢ x) → (k : ℕ) → zero < k → k < length (w ∷ ws)
    → get_or (w ∷ ws) k [] ≢ x
not_after x w ws says zero high l = absurd (omega arith)
not_after x w ws says (suc k) high l = says k (omega arith)

place_before : (x w : List ℕ) (ws : List (List ℕ)) (o : Option ℕ) (b : Bool) → bytes_eq w x ≡ b → PlaceSays x ws o
    → PlaceSays x (w ∷ ws) (option_or (option_map (λ i. suc i) o) (if b then Some 0 else None))
unfolding PlaceSays
place_before x w ws None true e says = (omega arith, (bytes_eq-Decides w x).0 e, not_after x w ws says)
place_before x w ws None false e says = nowhere x w ws (λ same. let t = (bytes_eq-Decides w x).1 same in cc) says
place_before x w ws (Some i) b e says = (omega arith, says.1, not_later x w ws i says.2)

last_place_says : (x : List ℕ) (ws : List (List ℕ)) → PlaceSays x ws (last_place_of x ws)
unfolding PlaceSays
last_place_says x [] = λ i l. absurd (omega arith)
last_place_says x (w ∷ ws) = place_before x w ws (last_place_of x ws) (bytes_eq w x) refl (last_place_says x ws)

-- only one place is the last
one_place : (x : List ℕ) (ws : List (List ℕ)) (o p : Option ℕ) → PlaceSays x ws o → PlaceSays x ws p → o ≡ p
unfolding PlaceSays
one_place x ws None None first second = refl
one_place x ws None (Some j) first second = absurd (first j second.0 second.1)
one_place x ws (Some i) None first second = absurd (second i first.0 first.1)
one_place x ws (Some i) (Some j) first second = elim (cases_lt i j) [
  | inl below ↦ absurd (first.2 j below second.0 second.1)
  | inr not_below ↦ elim (cases_lt j i) [
    | inl above ↦ absurd (second.2 i above first.0 first.1)
    | inr not_above ↦ let same : i ≡ j = omega arith in ap (λ k. Some k) same
  ]
]

pub is_last_place : (x : List ℕ) (ws : List (List ℕ)) (o : Option ℕ) → PlaceSays x ws o → o ≡ last_place_of x ws
is_last_place x ws o says = one_place x ws o (last_place_of x ws) says (last_place_says x ws)

-- a word that has a last place is there, and not later
pub place_of_some : (x : List ℕ) (ws : List (List ℕ)) (i : ℕ) → last_place_of x ws ≡ Some i → (i < length ws) × (get_or ws i [] ≡ x) × ((k : ℕ) → i < k → k < length ws → get_or ws k [] ≢ x)
unfolding PlaceSays
place_of_some x ws i e = subst (λ o. PlaceSays x ws o) e (last_place_says x ws)

-- a word that has none is nowhere
pub place_of_none : (x : List ℕ) (ws : List (List ℕ)) → last_place_of x ws ≡ None → (i : ℕ) → i < length ws → get_or ws i [] ≢ x
unfolding PlaceSays
place_of_none x ws e = subst (λ o. PlaceSays x ws o) e (last_place_says x ws)
