-- A newline that is put at the end of a source, and the blocks before and after it is.
use Rattle.std.proofs.Common.{◌≡◌, ◌⊎◌, ℕ, suc, ◌+◌, ◌-◌, ◌<◌, ◌≤◌, ◌==◌, true, false, List, [], ◌∷◌, ◌++◌, length, map, get_or, Some, slice_get, refl, sym}
use Rattle.std.proofs.Common.{ap, ap₂, ◌∙◌, inl, inr, arith}
use Rattle.std.proofs.lemmas.Bool.{and_parts, cases_Bool, eqb-true, eq-eqb}
use Rattle.std.proofs.lemmas.Option.{slice_get-get_or}
use Rattle.ti_source.specs.Cutting.{begins_head, is_head, last_byte, front_of, blocks_from_head}
use Rattle.ti_text.specs.Lines.{LinesAdd, line_count}
use Rattle.tools_sources.specs.Sources.{first_line, with_last_newline, preface_of, source_texts}

last_byte-get_or : (before : ℕ) (text : List ℕ) → 0 < length text → last_byte before text ≡ get_or text (length text - 1) 0
last_byte-get_or before [] h = absurd (omega arith)
last_byte-get_or before (x ∷ []) h = refl
last_byte-get_or before (x ∷ y ∷ ys) h =
    let next : suc (length (y ∷ ys) - 1) ≡ length (x ∷ y ∷ ys) - 1 = omega arith in
    last_byte-get_or x (y ∷ ys) (omega arith) ∙ ap (λ k. get_or (x ∷ y ∷ ys) k 0) next

-- the last byte of a text that is not empty
pub last_byte-last : (before : ℕ) (text : List ℕ) (b : ℕ) → Some b ≡ slice_get text (length text - 1) → last_byte before text ≡ b
last_byte-last before [] b is = let bad : Some b ≡ slice_get [] (0 - 1) = is in absurd (cc)
last_byte-last before (x ∷ xs) b is =
    let found : Some b ≡ Some (last_byte before (x ∷ xs)) =
    is ∙ slice_get-get_or (x ∷ xs) (length (x ∷ xs) - 1) 0 (omega arith) ∙ ap (λ k. Some k) (sym (last_byte-get_or before (x ∷ xs) (omega arith))) in
    cc

newline_before_head : (before x : ℕ) → is_head before x ≡ true → before ≡ 10
newline_before_head before x head = eqb-true before 10 (and_parts (before == 10) (begins_head x) head).0

-- what is before the first head line is all, or ends with a newline
front_of-ends : (before : ℕ) (s : List ℕ) → (blocks_from_head before s ≡ []) ⊎ (last_byte before (front_of before s) ≡ 10)
front_of-ends before [] = inl refl
front_of-ends before (x ∷ xs) =
    elim (cases_Bool (is_head before x)) [
      | inl t ↦ rw t (inr (newline_before_head before x t))
      | inr f ↦ rw f (front_of-ends x xs)
    ]

-- of a text that ends with a newline, so does what is before the first head line
front_of-ended : (before : ℕ) (s : List ℕ) → last_byte before s ≡ 10 → last_byte before (front_of before s) ≡ 10
front_of-ended before [] e = e
front_of-ended before (x ∷ xs) e =
    elim (cases_Bool (is_head before x)) [
      | inl t ↦ rw t (newline_before_head before x t)
      | inr f ↦ rw f (front_of-ended x xs e)
    ]

pub ended-of_newline : (text : List ℕ) → last_byte 10 text ≡ 10 → with_last_newline text ≡ text
ended-of_newline text e = rw (eq-eqb (last_byte 10 text) 10 e)

-- all but the last of these texts end with a newline
abbrev pub AllButLastEnded : List (List ℕ) → Type 0
AllButLastEnded [] = Unit {0}
AllButLastEnded (text ∷ []) = Unit {0}
AllButLastEnded (text ∷ next ∷ texts) = (with_last_newline text ≡ text) × AllButLastEnded (next ∷ texts)

all_but_last : (text : List ℕ) (texts : List (List ℕ)) → (texts ≡ []) ⊎ (with_last_newline text ≡ text) → AllButLastEnded texts → AllButLastEnded (text ∷ texts)
all_but_last text [] h rest = tt
all_but_last text (next ∷ texts) (inl bad) rest = absurd (cc)
all_but_last text (next ∷ texts) (inr same) rest = (same, rest)

pub blocks_of-all_but_last : (before : ℕ) (s : List ℕ) → AllButLastEnded (blocks_from_head before s)
blocks_of-all_but_last before [] = tt
blocks_of-all_but_last before (x ∷ xs) =
    elim (cases_Bool (is_head before x)) [
      | inl t ↦ rw t (all_but_last (x ∷ front_of x xs) (blocks_from_head x xs)
          (elim (front_of-ends x xs) [ inl none ↦ inl none | inr e ↦ inr (ended-of_newline (x ∷ front_of x xs) e) ])
          (blocks_of-all_but_last x xs))
      | inr f ↦ rw f (blocks_of-all_but_last x xs)
    ]

-- the blocks of a text that ends with a newline do so too
blocks_of-of_newline : (before : ℕ) (s : List ℕ) → last_byte before s ≡ 10 → map with_last_newline (blocks_from_head before s) ≡ blocks_from_head before s
blocks_of-of_newline before [] e = refl
blocks_of-of_newline before (x ∷ xs) e =
    elim (cases_Bool (is_head before x)) [
      | inl t ↦ rw t (ap₂ (λ b bs. b ∷ bs) (ended-of_newline (x ∷ front_of x xs) (front_of-ended x xs e)) (blocks_of-of_newline x xs e))
      | inr f ↦ rw f (blocks_of-of_newline x xs e)
    ]

no_head_at_newline : (before : ℕ) → (before == 10) ≡ false → is_head before 10 ≡ false
no_head_at_newline before f = rw f

-- a newline put at the end of a text whose last line is not ended: and where it is then
record IsEndedAt (before : ℕ) (s : List ℕ) : Type 0 where
  apart : ((blocks_from_head before s ≡ []) × (front_of before (s ++ 10 ∷ []) ≡ front_of before s ++ 10 ∷ []) × (front_of before s ≡ s))
      ⊎ ((front_of before (s ++ 10 ∷ []) ≡ front_of before s) × (last_byte before (front_of before s) ≡ 10))

front_of-newline : (before : ℕ) (s : List ℕ) → (last_byte before s == 10) ≡ false → IsEndedAt before s
front_of-newline before [] f = record { apart = inl (refl, rw (no_head_at_newline before f), refl) }
front_of-newline before (x ∷ xs) f =
    elim (cases_Bool (is_head before x)) [
      | inl t ↦ record { apart = inr (rw t, rw t (newline_before_head before x t)) }
      | inr plain ↦ elim (front_of-newline x xs f).apart [
        | inl all ↦ record { apart = inl (rw plain all.0, rw plain (ap (λ r. x ∷ r) all.1), rw plain (ap (λ r. x ∷ r) all.2)) }
        | inr part ↦ record { apart = inr (rw plain (ap (λ r. x ∷ r) part.0), rw plain part.1) }
      ]
    ]

-- the block that begins at `x`
block-newline : (x : ℕ) (xs : List ℕ) → (last_byte x xs == 10) ≡ false → x ∷ front_of x (xs ++ 10 ∷ []) ≡ with_last_newline (x ∷ front_of x xs)
block-newline x xs f =
    elim (front_of-newline x xs f).apart [
      | inl all ↦ rw (all.1, all.2, f)
      | inr part ↦ ap (λ r. x ∷ r) part.0 ∙ sym (ended-of_newline (x ∷ front_of x xs) part.1)
    ]

blocks_of-newline : (before : ℕ) (s : List ℕ) → (last_byte before s == 10) ≡ false → blocks_from_head before (s ++ 10 ∷ [])
    ≡ map with_last_newline (blocks_from_head before s)
blocks_of-newline before [] f = rw (no_head_at_newline before f)
blocks_of-newline before (x ∷ xs) f =
    elim (cases_Bool (is_head before x)) [
      | inl t ↦ rw t (ap₂ (λ b bs. b ∷ bs) (block-newline x xs f) (blocks_of-newline x xs f))
      | inr plain ↦ rw plain (blocks_of-newline x xs f)
    ]

-- the blocks of a source are those of the source as it is, each with a newline at its end
pub texts_of-blocks : (source : List ℕ) → source_texts source ≡ map with_last_newline (blocks_from_head 10 source)
texts_of-blocks source =
    elim (cases_Bool (last_byte 10 source == 10)) [
      | inl t ↦ rw t (sym (blocks_of-of_newline 10 source (eqb-true (last_byte 10 source) 10 t)))
      | inr f ↦ rw f (blocks_of-newline 10 source f)
    ]

-- its preface is that of the source as it is, if there is a block
pub preface_of-front : (source : List ℕ) → (blocks_from_head 10 source ≡ []) ⊎ (preface_of source ≡ front_of 10 source)
preface_of-front source =
    elim (cases_Bool (last_byte 10 source == 10)) [
      | inl t ↦ inr (rw t refl)
      | inr f ↦ elim (front_of-newline 10 source f).apart [ inl all ↦ inl all.0 | inr part ↦ inr (rw f part.0) ]
    ]

pub last_byte-newline : (before : ℕ) (text : List ℕ) → last_byte before (text ++ 10 ∷ []) ≡ 10
last_byte-newline before [] = refl
last_byte-newline before (x ∷ xs) = last_byte-newline x xs

-- its preface is what is before the first block as it is, once that is ended
pub preface_of-ended : (source : List ℕ) → preface_of source ≡ with_last_newline (front_of 10 source)
preface_of-ended source =
    elim (cases_Bool (last_byte 10 source == 10)) [
      | inl t ↦ rw t (sym (ended-of_newline (front_of 10 source) (front_of-ended 10 source (eqb-true (last_byte 10 source) 10 t))))
      | inr f ↦ elim (front_of-newline 10 source f).apart [
        | inl all ↦ rw (f, all.1, all.2, f)
        | inr part ↦ rw (f, part.0) (sym (ended-of_newline (front_of 10 source) part.1))
      ]
    ]

-- a text whose last line is open has fewer lines that are ended than bytes
open_lines : LinesAdd → (byte : ℕ) (bytes : List ℕ) → (last_byte byte bytes == 10) ≡ false → line_count (byte ∷ bytes) + 1 ≤ length (byte ∷ bytes)
open_lines add byte [] is_open = rw is_open (omega arith)
open_lines add byte (next ∷ bytes) is_open =
    let one : line_count (byte ∷ []) ≤ 1 = elim (cases_Bool (byte == 10)) [ inl t ↦ rw t (omega arith) | inr f ↦ rw f (omega arith) ] in
    omega (arith, one, add (byte ∷ []) (next ∷ bytes), open_lines add next bytes is_open)

pub open_lines-within : LinesAdd → (text : List ℕ) → (last_byte 10 text == 10) ≡ false → line_count text + 1 ≤ length text
open_lines-within add [] is_open = absurd (cc)
open_lines-within add (byte ∷ bytes) is_open = open_lines add byte bytes is_open

-- the line of the first block, by the lines of what is before it
pub first_after-ended : (source preface : List ℕ) (lines : ℕ) → preface ≡ front_of 10 source → (last_byte 10 preface == 10) ≡ true → lines ≡ line_count preface
    → lines + 1 ≡ first_line source
first_after-ended source preface lines is is_ended e =
    let same : with_last_newline preface ≡ preface = rw is_ended in
    ap (λ (n : ℕ). n + 1) (e ∙ ap line_count (sym same ∙ ap with_last_newline is ∙ sym (preface_of-ended source)))

pub first_after-open : LinesAdd → (source preface : List ℕ) (lines : ℕ) → preface ≡ front_of 10 source → (last_byte 10 preface == 10) ≡ false
    → lines ≡ line_count preface
    → lines + 2 ≡ first_line source
first_after-open add source preface lines is is_open e =
    let same : with_last_newline preface ≡ preface ++ 10 ∷ [] = rw is_open in
    let all : line_count (preface_of source) ≡ line_count (preface ++ 10 ∷ []) =
    ap line_count (preface_of-ended source ∙ ap with_last_newline (sym is) ∙ same) in
    let one : line_count (10 ∷ []) ≡ 1 = refl in
    omega (arith, e, all, add preface (10 ∷ []), one)
