-- What is left after folding a text that is laid out in lines.
use Rattle.std.proofs.Common.{◌≡◌, ℕ, Bool, true, false, not, ◌==◌, ◌||◌, ◌&&◌, List, [], ◌∷◌, ◌++◌, refl, ap, subst, inl, inr}
use Rattle.std.specs.List.{list_all}
use Rattle.std.proofs.lemmas.Bool.{cases_Bool, and_parts, or_parts, not-true}
use Rattle.ti_text.specs.WhiteSpace.{is_white_space}
use Rattle.ti_source.specs.Folding.{PlacedByte}
use Rattle.ti_source.specs.Items.{bytes}
use Rattle.tools_relisting.proofs.Bytes.{uncommented, unbroken}

-- no byte is a newline
abbrev pub is_inline : List ℕ → Bool
is_inline w = list_all (λ b. not (b == 10)) w

-- a text that begins with neither white space nor a newline
abbrev pub is_dark : List ℕ → Bool
is_dark [] = false
is_dark (x ∷ xs) = not (x == 10 || is_white_space x)

abbrev head_or : List ℕ → ℕ → ℕ
head_or [] d = d
head_or (x ∷ xs) d = x

abbrev tail_of : List ℕ → List ℕ
tail_of [] = []
tail_of (x ∷ xs) = xs

nil≢cons : {A : Type 0} {x : A} {xs : List A} → [] ≡ x ∷ xs → ⊥
nil≢cons e = cc

head-same : {x y : ℕ} {xs ys : List ℕ} → x ∷ xs ≡ y ∷ ys → x ≡ y
head-same {x} e = ap (λ l. head_or l x) e

tail-same : {x y : ℕ} {xs ys : List ℕ} → x ∷ xs ≡ y ∷ ys → xs ≡ ys
tail-same e = ap tail_of e

pub unbroken-inline : (w rest : List ℕ) → is_inline w ≡ true → unbroken false (w ++ rest) ≡ w ++ unbroken false rest
unbroken-inline [] rest h = refl
unbroken-inline (x ∷ xs) rest h =
    let parts = and_parts (not (x == 10)) (is_inline xs) h in
    rw (not-true (x == 10) parts.0) (ap (λ t. x ∷ t) (unbroken-inline xs rest parts.1))

pub unbroken-dark : (w rest : List ℕ) → is_dark w ≡ true → unbroken true (w ++ rest) ≡ unbroken false (w ++ rest)
unbroken-dark [] rest h = cc
unbroken-dark (x ∷ xs) rest h =
    let none = or_parts (x == 10) (is_white_space x) (not-true (x == 10 || is_white_space x) h) in
    rw (none.0, none.1) refl

-- no `#` is just after a newline
abbrev pub is_calm : ℕ → List ℕ → Bool
is_calm before [] = true
is_calm before (x ∷ xs) = not (before == 10 && x == 35) && is_calm x xs

pub uncommented-calm : (before : ℕ) (s : List ℕ) → is_calm before s ≡ true → uncommented false before s ≡ s
uncommented-calm before [] h = refl
uncommented-calm before (x ∷ xs) h =
    let parts = and_parts (not (before == 10 && x == 35)) (is_calm x xs) h in
    elim (cases_Bool (before == 10)) [
      | inl t ↦ rw (t, not-true (x == 35) (rw t at parts.0)) (ap (λ s. x ∷ s) (uncommented-calm x xs parts.1))
      | inr f ↦ rw f (ap (λ s. x ∷ s) (uncommented-calm x xs parts.1))
    ]

-- after a text with no newline, whose last byte is followed by a comma
pub calm-inline : (before : ℕ) (w rest : List ℕ) → (before == 10) ≡ false → is_inline w ≡ true → is_calm 44 rest ≡ true → is_calm before (w ++ 44 ∷ rest) ≡ true
calm-inline before [] rest b h r = rw b r
calm-inline before (x ∷ xs) rest b h r =
    let parts = and_parts (not (x == 10)) (is_inline xs) h in
    rw b (calm-inline x xs rest (not-true (x == 10) parts.0) parts.1 r)

-- a text whose bytes are split in two is split in two itself
pub record Parted (s : List PlacedByte) (u v : List ℕ) : Type 0 where
  pub front : List PlacedByte
  pub rest : List PlacedByte
  pub whole : s ≡ front ++ rest
  pub is_front : bytes front ≡ u
  pub is_rest : bytes rest ≡ v

part-cons : (x : PlacedByte) (s : List PlacedByte) (u v : List ℕ) → Parted s u v → Parted (x ∷ s) (x.0 ∷ u) v
part-cons x s u v p = record {
  front = x ∷ p.front;
  rest = p.rest;
  whole = ap (λ t. x ∷ t) p.whole;
  is_front = ap (λ t. x.0 ∷ t) p.is_front;
  is_rest = p.is_rest;
}

pub split-bytes : (s : List PlacedByte) (u v : List ℕ) → bytes s ≡ u ++ v → Parted s u v
split-bytes s [] v e = record { front = []; rest = s; whole = refl; is_front = refl; is_rest = e }
split-bytes [] (y ∷ u) v e = absurd (nil≢cons e)
split-bytes (x ∷ s) (y ∷ u) v e =
    let P : ℕ → Type 0 = λ b. Parted (x ∷ s) (b ∷ u) v in
    subst P (head-same e) (part-cons x s u v (split-bytes s u v (tail-same e)))

-- a text that begins with this byte
pub record BeginsWith (s : List PlacedByte) (b : ℕ) (v : List ℕ) : Type 0 where
  pub line : ℕ
  pub rest : List PlacedByte
  pub whole : s ≡ (b, line) ∷ rest
  pub is_rest : bytes rest ≡ v

pub split-byte : (s : List PlacedByte) (b : ℕ) (v : List ℕ) → bytes s ≡ b ∷ v → BeginsWith s b v
split-byte [] b v e = absurd (nil≢cons e)
split-byte (x ∷ s) b v e =
    let P : ℕ → Type 0 = λ b. BeginsWith (x ∷ s) b v in
    subst P (head-same e) (record { line = x.1; rest = s; whole = refl; is_rest = tail-same e })
