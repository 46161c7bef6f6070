-- Tests of the tables, and what follows from them.
use Rattle.std.proofs.Common.{◌≡◌, ◌≢◌, ℕ, zero, suc, ◌+◌, ◌<◌, Bool, true, false, ◌&&◌, nat_eq, List, [], ◌∷◌, length, get_or, refl, subst, arith, eqb-true, add-zero, zero-add}
use Rattle.std.specs.List.{Contains}
use Rattle.std.proofs.lemmas.Bool.{and_parts, eq-eqb}

-- whether a list has a number
abbrev pub has : ℕ → List ℕ → Bool
has i [] = false
has i (p ∷ ps) = elim (nat_eq p i) [ true ↦ true | false ↦ has i ps ]

has_cases : (i p : ℕ) (ps : List ℕ) (b : Bool) → nat_eq p i ≡ b → (has i ps ≡ true → Contains ps i) → elim b [ true ↦ true | false ↦ has i ps ] ≡ true
    → Contains (p ∷ ps) i
has_cases i p ps true e rest h = (0, omega arith, eqb-true p i e)
has_cases i p ps false e rest h = let (j, l, at) = rest h in (suc j, omega arith, at)

pub contains_from_has : (i : ℕ) (ps : List ℕ) → has i ps ≡ true → Contains ps i
contains_from_has i [] h = cc
contains_from_has i (p ∷ ps) h = has_cases i p ps (nat_eq p i) refl (λ g. contains_from_has i ps g) h

-- whether a list has each of so many numbers from the first on
abbrev pub covers : ℕ → ℕ → List ℕ → Bool
covers i zero ps = true
covers i (suc n) ps = has i ps && covers (i + 1) n ps

covered_at : (i n : ℕ) (ps : List ℕ) → covers i n ps ≡ true → (j : ℕ) → j < n → has (i + j) ps ≡ true
covered_at i zero ps h j l = absurd (omega arith)
covered_at i (suc n) ps h zero l = rw add-zero (and_parts _ _ h).0
covered_at i (suc n) ps h (suc j) l =
    let further : i + 1 + j ≡ i + suc j = omega arith in
    subst (λ m. has m ps ≡ true) further (covered_at (i + 1) n ps (and_parts _ _ h).1 j (omega arith))

pub contains_from_covers : (n : ℕ) (ps : List ℕ) → covers 0 n ps ≡ true → (j : ℕ) → j < n → Contains ps j
contains_from_covers n ps h j l = contains_from_has j ps (subst (λ m. has m ps ≡ true) (zero-add j) (covered_at 0 n ps h j l))

pub contains_past : (i n : ℕ) (ps : List ℕ) → covers i n ps ≡ true → (j : ℕ) → j < n → Contains ps (i + j)
contains_past i n ps h j l = contains_from_has (i + j) ps (covered_at i n ps h j l)

-- whether a list lacks a number
abbrev pub lacks : List ℕ → ℕ → Bool
lacks [] k = true
lacks (y ∷ ys) k = elim (nat_eq y k) [ true ↦ false | false ↦ lacks ys k ]

lacks_cases : (k y : ℕ) (ys : List ℕ) (b : Bool) → nat_eq y k ≡ b → elim b [ true ↦ false | false ↦ lacks ys k ] ≡ true
    → (lacks ys k ≡ true → (i : ℕ) → i < length ys → get_or ys i 0 ≢ k) → (i : ℕ) → i < length (y ∷ ys) → get_or (y ∷ ys) i 0 ≢ k
lacks_cases k y ys true e h rest i l = cc
lacks_cases k y ys false e h rest zero l = λ same. let t = eq-eqb y k same in cc
lacks_cases k y ys false e h rest (suc i) l = rest h i (omega arith)

pub not_in_from_lacks : (k : ℕ) (ys : List ℕ) → lacks ys k ≡ true → (i : ℕ) → i < length ys → get_or ys i 0 ≢ k
not_in_from_lacks k [] h i l = absurd (omega arith)
not_in_from_lacks k (y ∷ ys) h i l = lacks_cases k y ys (nat_eq y k) refl h (λ g. not_in_from_lacks k ys g) i l
