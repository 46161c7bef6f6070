-- The folded text of lines: of one that is begun, and of one that begins.
use Rattle.std.proofs.Common.{◌≡◌, ℕ, ◌+◌, Bool, true, false, ◌==◌, List, [], ◌∷◌, ◌++◌, cond, refl, ap, ◌∙◌, inl, inr}
use Rattle.std.specs.List.{list_all}
use Rattle.std.proofs.lemmas.Bool.{cases_Bool, and_parts, eqb-true}
use Rattle.ti_text.specs.WhiteSpace.{is_white_space}
use Rattle.ti_source.specs.Folding.{PlacedByte}
use Rattle.ti_source.specs.inside.Folding.{after_line, bytes_on_lines, in_comment, without_breaks, without_comments}
use Rattle.ti_source.specs.inside.Items.{on_line}
use Rattle.ti_source.proofs.FoldLemmas.{folded-comment, folded-newline}
use Rattle.source_format.specs.Pieces.{is_kept}

abbrev pub folded : Bool → ℕ → ℕ → List ℕ → List PlacedByte
folded joining before line text = without_breaks joining (without_comments false before (bytes_on_lines line text))

-- what is read of the rest of a line that is begun, and of a text that begins a line
abbrev pub inline : ℕ → List ℕ → List PlacedByte
inline line text = folded false 44 line text

abbrev pub fresh : ℕ → List ℕ → List PlacedByte
fresh line text = folded true 10 line text

-- no byte is a newline
abbrev pub IsOneLine : List ℕ → Type 0
IsOneLine [] = Unit {0}
IsOneLine (x ∷ xs) = ((x == 10) ≡ false) × IsOneLine xs

pub one_line-append : (s t : List ℕ) → IsOneLine s → IsOneLine t → IsOneLine (s ++ t)
one_line-append [] t a b = b
one_line-append (x ∷ xs) t a b = (a.0, one_line-append xs t a.1 b)

-- ---- a line that is begun

before_any : (one other : ℕ) (s : List PlacedByte) → (one == 10) ≡ false → (other == 10) ≡ false → without_comments false one s ≡ without_comments false other s
before_any one other [] e f = refl
before_any one other (x ∷ xs) e f = rw (e, f) refl

pub inline-byte : (line x : ℕ) (s : List ℕ) → (x == 10) ≡ false → inline line (x ∷ s) ≡ (x, line) ∷ inline line s
inline-byte line x s n = rw n (ap (λ (t : List PlacedByte). (x, line) ∷ without_breaks false t) (before_any x 44 (bytes_on_lines line s) n refl))

pub inline-run : (line : ℕ) (u s : List ℕ) → IsOneLine u → inline line (u ++ s) ≡ on_line line u ++ inline line s
inline-run line [] s n = refl
inline-run line (x ∷ u) s n = inline-byte line x (u ++ s) n.0 ∙ ap (λ (t : List PlacedByte). (x, line) ∷ t) (inline-run line u s n.1)

pub inline-newline : (line : ℕ) (s : List ℕ) → inline line (10 ∷ s) ≡ fresh (line + 1) s
inline-newline line s = refl

-- ---- a line that begins

pub fresh-item : (line x : ℕ) (s : List ℕ) → (x == 10) ≡ false → is_white_space x ≡ false → fresh line (9 ∷ x ∷ s) ≡ inline line (x ∷ s)
fresh-item line x s n v = rw (n, v) refl

white_is : (x : ℕ) → is_white_space x ≡ true → ((x == 10) ≡ false) × ((x == 35) ≡ false)
white_is x w =
    elim (cases_Bool (x == 32)) [
      | inl t ↦ rw (eqb-true x 32 t) (refl, refl)
      | inr f ↦ rw (eqb-true x 9 (rw f at w)) (refl, refl)
    ]

not_comment : (before x : ℕ) → (x == 35) ≡ false → in_comment false before x ≡ false
not_comment before x e = rw e (by_line (before == 10))
  where
    by_line : (b : Bool) → cond b false false ≡ false
    by_line true = refl
    by_line false = refl

placed_first : (before line x : ℕ) (s : List ℕ) → (x == 35) ≡ false → (x == 10) ≡ false
    → folded true before line (x ∷ s) ≡ without_breaks true ((x, line) ∷ without_comments false x (bytes_on_lines line s))
placed_first before line x s c n = rw (not_comment before x c, n) refl

joined_white : (x : PlacedByte) (t : List PlacedByte) → (x.0 == 10) ≡ false → is_white_space x.0 ≡ true → without_breaks true (x ∷ t) ≡ without_breaks true t
joined_white x t n w = rw (n, w) refl

-- white space at the front of a line that begins
white_byte : (line before x : ℕ) (s : List ℕ) → is_white_space x ≡ true → folded true before line (x ∷ s) ≡ folded true x line s
white_byte line before x s w =
    let other = white_is x w in
    placed_first before line x s other.1 other.0 ∙ joined_white (x, line) (without_comments false x (bytes_on_lines line s)) other.0 w

blank_line : (line before : ℕ) (l s : List ℕ) → list_all is_white_space l ≡ true → folded true before line (l ++ 10 ∷ s) ≡ fresh (line + 1) s
blank_line line before [] s w = folded-newline true before line s
blank_line line before (x ∷ xs) s w =
    let both = and_parts (is_white_space x) (list_all is_white_space xs) w in
    white_byte line before x (xs ++ 10 ∷ s) both.0 ∙ blank_line line x xs s both.1

line_left : (l s : List ℕ) → IsOneLine l → after_line (l ++ 10 ∷ s) ≡ s
line_left [] s n = refl
line_left (x ∷ xs) s n = rw n.0 (line_left xs s n.1)

comment_line : (line x : ℕ) (l s : List ℕ) → (x == 35) ≡ true → IsOneLine l → fresh line (x ∷ l ++ 10 ∷ s) ≡ fresh (line + 1) s
comment_line line x l s t n = folded-comment true 10 line x (l ++ 10 ∷ s) t ∙ ap (λ (r : List ℕ). folded true 10 (line + 1) r) (line_left l s n)

pub fresh-kept : (line : ℕ) (l s : List ℕ) → IsOneLine l → is_kept l ≡ true → fresh line (l ++ 10 ∷ s) ≡ fresh (line + 1) s
fresh-kept line [] s n k = refl
fresh-kept line (x ∷ xs) s n k =
    elim (cases_Bool (x == 35)) [
      | inl t ↦ comment_line line x xs s t n.1
      | inr f ↦ blank_line line 10 (x ∷ xs) s (rw f at k)
    ]
