-- Lines that are no comments and not blank.
use Rattle.std.proofs.Common.{◌≡◌, ℕ, ◌==◌, true, false, List, [], ◌∷◌, ◌++◌, refl, ap, subst, inl, inr}
use Rattle.std.specs.List.{list_all}
use Rattle.std.proofs.lemmas.Bool.{cases_Bool, and_parts, eqb-true, true≢false}
use Rattle.ti_text.specs.WhiteSpace.{is_white_space}
use Rattle.ti_source.specs.Items.{without_white_front}
use Rattle.source_format.specs.Pieces.{is_kept}
use Rattle.source_format.proofs.Folded.{IsOneLine}
use Rattle.source_kept_lines.specs.Layout.{white_front}

-- a line has this white space in front, and then this byte, which is none; it does not begin a comment
abbrev pub NoComment : List ℕ → ℕ → Type 0
NoComment [] x = (x == 35) ≡ false
NoComment (w ∷ ws) x = Unit {0}

pub record Content (front : List ℕ) (x : ℕ) : Type 0 where
  pub white : list_all is_white_space front ≡ true
  pub visible : is_white_space x ≡ false
  pub mark : NoComment front x

pub white_is : (x : ℕ) → is_white_space x ≡ true → ((x == 10) ≡ false) × ((x == 35) ≡ false)
white_is x w =
    elim (cases_Bool (x == 32)) [
      | inl t ↦ rw (eqb-true x 32 t) (refl, refl)
      | inr f ↦ rw (eqb-true x 9 (rw f at w)) (refl, refl)
    ]

pub white_line : (s : List ℕ) → list_all is_white_space s ≡ true → IsOneLine s
white_line [] w = tt
white_line (x ∷ xs) w =
    let both = and_parts (is_white_space x) (list_all is_white_space xs) w in
    ((white_is x both.0).0, white_line xs both.1)

not_white : (front : List ℕ) (x : ℕ) (xs : List ℕ) → is_white_space x ≡ false → list_all is_white_space (front ++ x ∷ xs) ≡ false
not_white [] x xs v = rw v refl
not_white (w ∷ ws) x xs v =
    elim (cases_Bool (is_white_space w)) [ inl t ↦ rw t (not_white ws x xs v) | inr f ↦ rw f refl ]

pub not_kept : (front : List ℕ) (x : ℕ) (xs : List ℕ) → Content front x → is_kept (front ++ x ∷ xs) ≡ false
not_kept [] x xs c = rw (c.mark, c.visible) refl
not_kept (w ∷ ws) x xs c =
    let both = and_parts (is_white_space w) (list_all is_white_space ws) c.white in
    rw ((white_is w both.0).1, both.0) (not_white ws x xs c.visible)

pub content_is : (front : List ℕ) (x : ℕ) (xs : List ℕ) → list_all is_white_space front ≡ true → is_white_space x ≡ false
    → without_white_front (front ++ x ∷ xs) ≡ x ∷ xs
content_is [] x xs w v = rw v refl
content_is (y ∷ ys) x xs w v =
    let both = and_parts (is_white_space y) (list_all is_white_space ys) w in
    rw both.0 (content_is ys x xs both.1 v)

pub front_is : (front : List ℕ) (x : ℕ) (xs : List ℕ) → list_all is_white_space front ≡ true → is_white_space x ≡ false
    → white_front (front ++ x ∷ xs) ≡ front
front_is [] x xs w v = rw v refl
front_is (y ∷ ys) x xs w v =
    let both = and_parts (is_white_space y) (list_all is_white_space ys) w in
    rw both.0 (ap (λ (s : List ℕ). y ∷ s) (front_is ys x xs both.1 v))

-- ---- each line that is not kept is one

pub record Split (line : List ℕ) : Type 0 where
  pub byte : ℕ
  pub rest : List ℕ
  pub content : without_white_front line ≡ byte ∷ rest
  pub whole : line ≡ white_front line ++ byte ∷ rest
  pub is : Content (white_front line) byte

split_white : (line : List ℕ) → list_all is_white_space line ≡ false
    → (x : ℕ) × (xs : List ℕ) × (without_white_front line ≡ x ∷ xs) × (line ≡ white_front line ++ x ∷ xs) × (is_white_space x ≡ false)
    × (list_all is_white_space (white_front line) ≡ true)
split_white [] k = absurd (true≢false k)
split_white (y ∷ ys) k =
    elim (cases_Bool (is_white_space y)) [
      | inl w ↦
          let later = split_white ys (rw w at k) in
          rw w (later.0, later.1, later.2, ap (λ (s : List ℕ). y ∷ s) later.3, later.4, rw w later.5)
      | inr v ↦ rw v (y, ys, refl, refl, v, refl)
    ]

mark_of : (line : List ℕ) (x : ℕ) (xs : List ℕ) → is_kept line ≡ false → line ≡ white_front line ++ x ∷ xs → NoComment (white_front line) x
mark_of [] x xs k e = absurd (true≢false k)
mark_of (y ∷ ys) x xs k e =
    elim (cases_Bool (is_white_space y)) [
      | inl w ↦ rw w tt
      | inr v ↦ elim (cases_Bool (y == 35)) [
        | inl t ↦ let bad : true ≡ false = rw t at k in cc
        | inr f ↦ let at_front : y ∷ ys ≡ x ∷ xs = rw v at e in let same : y ≡ x = cc in rw v (subst (λ (z : ℕ). (z == 35) ≡ false) same f)
      ]
    ]

kept_white : (line : List ℕ) → is_kept line ≡ false → list_all is_white_space line ≡ false
kept_white [] k = absurd (true≢false k)
kept_white (y ∷ ys) k =
    elim (cases_Bool (y == 35)) [
      | inl t ↦ let bad : true ≡ false = rw t at k in cc
      | inr f ↦ rw f at k
    ]

pub split : (line : List ℕ) → is_kept line ≡ false → Split line
split line k =
    let parts = split_white line (kept_white line k) in
    record {
      byte = parts.0;
      rest = parts.1;
      content = parts.2;
      whole = parts.3;
      is = record { white = parts.5; visible = parts.4; mark = mark_of line parts.0 parts.1 k parts.3 };
    }

-- no byte of it ends a line
pub line-append-right : (s t : List ℕ) → IsOneLine (s ++ t) → IsOneLine t
line-append-right [] t l = l
line-append-right (x ∷ xs) t l = line-append-right xs t l.1
