-- Texts of items: white space at the end, the byte at the end, and the first mark.
use Rattle.std.proofs.Common.{◌≡◌, ◌≢◌, ℕ, zero, suc, ◌+◌, ◌<◌, ◌≤◌, true, false, if◌then◌else◌, List, [], ◌∷◌, ◌++◌, length, take, drop, get_or, cond}
use Rattle.std.proofs.Common.{Some, refl, ap, inl, inr, arith, add-one}
use Rattle.std.specs.List.{list_all}
use Rattle.std.proofs.lemmas.Bool.{ne_eqb, cases_Bool, and_parts}
use Rattle.memchr.specs.Find.{NoneBefore}
use Rattle.ti_text.specs.WhiteSpace.{is_white_space}
use Rattle.ti_spelling.specs.WhiteSpace.{without_trailing_space}
use Rattle.ti_source.specs.Cutting.{last_byte}
use Rattle.ti_source.specs.Items.{is_mark}
use Rattle.ti_source.specs.Stating.{before_mark, from_mark, without_last, plain_statement, statement_with_value, statement_by_mark, statement_of}

-- a text with one more byte at its front, if that is not white space before nothing
abbrev pub kept_before : ℕ → List ℕ → List ℕ
kept_before x [] = if is_white_space x then [] else x ∷ []
kept_before x (y ∷ ys) = x ∷ y ∷ ys

-- `trimmed`, a byte at a time
abbrev pub without_end : List ℕ → List ℕ
without_end [] = []
without_end (x ∷ xs) = kept_before x (without_end xs)

pub kept_before-visible : (x : ℕ) (t : List ℕ) → is_white_space x ≡ false → kept_before x t ≡ x ∷ t
kept_before-visible x [] v = rw v refl
kept_before-visible x (y ∷ ys) v = refl

without_end-all : (s : List ℕ) → list_all is_white_space s ≡ true → without_end s ≡ []
without_end-all [] all = refl
without_end-all (x ∷ xs) all =
    let both = and_parts (is_white_space x) (list_all is_white_space xs) all in
    rw (without_end-all xs both.1, both.0) refl

kept_before-some : (x : ℕ) (s : List ℕ) → list_all is_white_space s ≡ false → kept_before x (without_end s) ≡ x ∷ without_end s
kept_before-some x [] some = cc
kept_before-some x (y ∷ ys) some =
    elim (cases_Bool (is_white_space y)) [
      | inl w ↦ rw (kept_before-some y ys (rw w at some)) refl
      | inr v ↦ rw (kept_before-visible y (without_end ys) v) refl
    ]

pub trimmed-is : (s : List ℕ) → without_trailing_space s ≡ without_end s
trimmed-is [] = refl
trimmed-is (x ∷ xs) =
    elim (cases_Bool (is_white_space x)) [
      | inl w ↦
          elim (cases_Bool (list_all is_white_space xs)) [
            | inl all ↦ rw (w, all, without_end-all xs all) (rw w refl)
            | inr some ↦ rw (kept_before-some x xs some, w, some) (ap (λ s. x ∷ s) (trimmed-is xs))
          ]
      | inr v ↦ rw (kept_before-visible x (without_end xs) v, v) (ap (λ s. x ∷ s) (trimmed-is xs))
    ]

pub last_byte-push : (before : ℕ) (s : List ℕ) (x : ℕ) → last_byte before (s ++ x ∷ []) ≡ x
last_byte-push before [] x = refl
last_byte-push before (y ∷ ys) x = last_byte-push y ys x

pub without_last-push : (s : List ℕ) (x : ℕ) → without_last (s ++ x ∷ []) ≡ s
without_last-push [] x = refl
without_last-push (y ∷ []) x = refl
without_last-push (y ∷ z ∷ zs) x = ap (λ s. y ∷ s) (without_last-push (z ∷ zs) x)

-- a text with no mark is wholly before the first mark
pub no_mark : (s : List ℕ) → ((k : ℕ) → k < length s → is_mark (get_or s k 0) ≡ true → ⊥) → (before_mark s ≡ s) × (from_mark s ≡ [])
no_mark [] none = (refl, refl)
no_mark (x ∷ xs) none =
    let later = no_mark xs (λ k h. none (suc k) (omega arith)) in
    elim (is_mark x) as (λ b. (is_mark x ≡ b) → (cond b [] (x ∷ before_mark xs) ≡ x ∷ xs) × (cond b (x ∷ xs) (from_mark xs) ≡ [])) [
      | true ↦ λ t. absurd (none 0 (omega arith) t)
      | false ↦ λ f. (ap (λ s. x ∷ s) later.0, later.1)
    ] refl

-- a text whose first mark is at n
pub first_mark : (s : List ℕ) (n : ℕ) → n < length s → ((k : ℕ) → k < n → is_mark (get_or s k 0) ≡ true → ⊥) → is_mark (get_or s n 0) ≡ true
    → (before_mark s ≡ take n s) × (from_mark s ≡ get_or s n 0 ∷ drop (suc n) s)
first_mark [] n h none t = absurd (omega arith)
first_mark (x ∷ xs) zero h none t = (rw t, rw t)
first_mark (x ∷ xs) (suc n) h none t =
    let later = first_mark xs n (omega arith) (λ k i. none (suc k) (omega arith)) t in
    elim (is_mark x) as (λ b. (is_mark x ≡ b) → (cond b [] (x ∷ before_mark xs) ≡ x ∷ take n xs)
    × (cond b (x ∷ xs) (from_mark xs) ≡ get_or xs n 0 ∷ drop (suc n) xs)) [
      | true ↦ λ y. absurd (none 0 (omega arith) y)
      | false ↦ λ f. (ap (λ s. x ∷ s) later.0, later.1)
    ] refl

pub ruleset plain_statement_lemmas = (last_byte-push, without_last-push)

statement-enabled : (s : List ℕ) (x : ℕ) (xs : List ℕ) → s ≡ x ∷ xs → x ≢ 46 → statement_of s ≡ Some (statement_by_mark s (from_mark s))
statement-enabled s x xs e enabled = rw (e, ne_eqb x 46 enabled) refl

pub statement-statement_by_mark : (s : List ℕ) (n x : ℕ) (xs : List ℕ) → s ≡ x ∷ xs → x ≢ 46
    → NoneBefore (λ k. is_mark (get_or s k 0) ≡ true) 0 (length s) n → is_mark (get_or s n 0) ≡ true
    → statement_of s ≡ Some (statement_with_value (take n s) (get_or s n 0) (drop (n + 1) s))
statement-statement_by_mark s n x xs e enabled none t =
    let first = first_mark s n none.high (λ k h. none.before k (omega arith) h) t in
    rw (statement-enabled s x xs e enabled, first.1, first.0, add-one) refl

pub statement-plain : (s : List ℕ) (x : ℕ) (xs : List ℕ) → s ≡ x ∷ xs → x ≢ 46 → ((k : ℕ) → 0 ≤ k → k < length s → is_mark (get_or s k 0) ≡ true → ⊥)
    → statement_of s ≡ Some (plain_statement (without_trailing_space s))
statement-plain s x xs e enabled none = rw (statement-enabled s x xs e enabled, (no_mark s (λ k h. none k (omega arith) h)).1) refl
