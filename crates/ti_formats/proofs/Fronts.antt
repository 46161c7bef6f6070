-- Lists of bytes, tests and tables.
use Rattle.std.proofs.Common.{◌≡◌, ℕ, Bool, true, false, cond, ◌⊎◌, inl, inr, List, [], ◌∷◌, ◌++◌, refl, ap, sym, subst, arith, ◌<◌, ◌≤◌}
use Rattle.std.specs.Prelude.{Option, Some, None, option_map, ◌==◌, ◌&&◌, nat_lt, nat_le}
use Rattle.std.specs.List.{AllByRecursion}
use Rattle.std.proofs.lemmas.Bool.Decides.{nat_tests, Decides-eqb}
use Rattle.ti_text.specs.Lists.{AllAre}
use Rattle.ti_formats.specs.Codes.{row_for, span}

-- which way a test went
pub chosen : {A : Type 0} (b : Bool) (x y z : A) → cond b x y ≡ z → ((b ≡ true) × (x ≡ z)) ⊎ ((b ≡ false) × (y ≡ z))
chosen true x y z h = inl (refl, h)
chosen false x y z h = inr (refl, h)

-- what a mapped option was before
pub mapped : {A B : Type 0} (f : A → B) (o : Option A) (y : B) → option_map f o ≡ Some y → (x : A) × (o ≡ Some x) × (f x ≡ y)
mapped f None y h = absurd (cc)
mapped f (Some x) y h = (x, refl, cc)

-- what holds of each row of a table holds of the row that is found
pub found-row : {T : Type 0} (P : ℕ × T → Type 0) (x : ℕ) (rows : List (ℕ × T)) (t : T) → AllByRecursion P rows → row_for x rows ≡ Some t → P (x, t)
found-row P x [] t each h = absurd (cc)
found-row P x (row ∷ rows) t each h =
    elim (chosen (x == row.0) (Some row.1) (row_for x rows) (Some t) h) [
      | inl (here, is) ↦
          let key : x ≡ row.0 = (Decides-eqb x row.0).0 here in
          let value : row.1 ≡ t = cc is in
          subst (λ y. P (y, t)) (sym key) (subst (λ u. P (row.0, u)) value each.0)
      | inr (other, is) ↦ found-row P x rows t each.1 is
    ]

-- a front that goes on or ends at a byte
abbrev went : Bool → ℕ → List ℕ → List ℕ × List ℕ → List ℕ × List ℕ
went b x xs parts = cond b (x ∷ parts.0, parts.1) ([], x ∷ xs)

pub span-whole : (p : ℕ → Bool) (xs : List ℕ) → xs ≡ (span p xs).0 ++ (span p xs).1
span-whole p [] = refl
span-whole p (x ∷ xs) =
    elim (p x) as (λ b. x ∷ xs ≡ (went b x xs (span p xs)).0 ++ (went b x xs (span p xs)).1) [
      | true ↦ ap (λ ys. x ∷ ys) (span-whole p xs)
      | false ↦ refl
    ]

pub span-all : (p : ℕ → Bool) (xs : List ℕ) → AllAre p (span p xs).0
span-all p [] = tt
span-all p (x ∷ xs) =
    elim (p x) as (λ b. p x ≡ b → AllAre p (went b x xs (span p xs)).0) [
      | true ↦ λ h. (h, span-all p xs)
      | false ↦ λ h. tt
    ] refl

-- the front ends here
abbrev pub Stops : (ℕ → Bool) → List ℕ → Type 0
Stops p [] = Unit {0}
Stops p (y ∷ ys) = p y ≡ false

pub span-append : (p : ℕ → Bool) (xs ys : List ℕ) → AllAre p xs → Stops p ys → span p (xs ++ ys) ≡ (xs, ys)
span-append p [] [] each stops = refl
span-append p [] (y ∷ ys) each stops = rw stops refl
span-append p (x ∷ xs) ys each stops = rw each.0 (ap (λ s. (x ∷ s.0, s.1)) (span-append p xs ys each.1 stops))

-- what the test of a number in braces says
pub braced : (x n m : ℕ) → ((x == 125 && nat_lt 0 n) && nat_le m 2147483647) ≡ true → (x ≡ 125) × (0 < n) × (m ≤ 2147483647)
braced x n m h = (grind (arith, nat_tests), grind (arith, nat_tests), grind (arith, nat_tests))

-- a test that cannot hold fails
pub fails : (b : Bool) → (b ≡ true → ⊥) → b ≡ false
fails true h = absurd (h refl)
fails false h = refl
