-- What the functions of this crate compute, step by step.
use Rattle.std.proofs.Common.{◌≡◌, ◌≢◌, ℕ, ◌-◌, ◌<◌, ◌≤◌, ◌==◌, true, false, List, [], ◌∷◌, drop, length, take, refl, sym, ap, ◌∙◌, inl, inr, arith}
use Rattle.std.proofs.lemmas.Bool.{cases_Bool, false≢true, true≢false}
use Rattle.std.proofs.lemmas.List.{take_rest}
use Rattle.ti_text.specs.WhiteSpace.{is_white_space}
use Rattle.ti_source.specs.Items.{without_white_front}
use Rattle.source_format.specs.Pieces.{with_first_byte}
use Rattle.source_places.specs.LineTexts.{indent}
use Rattle.source_kept_lines.specs.Layout.{white_front}
use Rattle.source_kept_lines.specs.Parts.{after, after_byte, ends, is_between, is_gap, parts}
use Rattle.source_kept_lines.specs.declared.parts.Reached.{Reached}
use Rattle.source_kept_lines.specs.declared.parts.Reached.TheVariants.{NoItem}
use Rattle.source_kept_lines.specs.inside.Steps.{HasNoGap, IsFirstPart, part_after, part_size}
use Rattle.source_kept_lines.proofs.Reaching.{between, no_gap, step_of}

-- ---- the white space in front

pub front_within : (s : List ℕ) → indent s ≤ length s
front_within [] = omega arith
front_within (x ∷ xs) =
    let later = front_within xs in
    elim (cases_Bool (is_white_space x)) [ inl t ↦ rw t (omega (arith, later)) | inr f ↦ rw f (omega arith) ]

pub front_taken : (s : List ℕ) → take (indent s) s ≡ white_front s
front_taken [] = refl
front_taken (x ∷ xs) = elim (cases_Bool (is_white_space x)) [ inl t ↦ rw t (ap (λ (u : List ℕ). x ∷ u) (front_taken xs)) | inr f ↦ rw f refl ]

pub content_left : (s : List ℕ) → drop (indent s) s ≡ without_white_front s
content_left [] = refl
content_left (x ∷ xs) = elim (cases_Bool (is_white_space x)) [ inl t ↦ rw t (content_left xs) | inr f ↦ rw f refl ]

-- ---- no white space before an item

visible_front : (x : ℕ) (xs : List ℕ) → is_white_space x ≡ false → without_white_front (x ∷ xs) ≡ x ∷ xs
visible_front x xs f = rw f refl

pub gap_parts : (s : List ℕ) → parts NoItem (without_white_front s) ≡ parts NoItem s
gap_parts [] = refl
gap_parts (x ∷ xs) =
    elim (cases_Bool (is_white_space x)) [ inl t ↦ rw t (gap_parts xs) | inr f ↦ ap (parts NoItem) (visible_front x xs f) ]

pub gap_after : (s : List ℕ) → after NoItem (without_white_front s) ≡ after NoItem s
gap_after [] = refl
gap_after (x ∷ xs) =
    elim (cases_Bool (is_white_space x)) [ inl t ↦ rw t (gap_after xs) | inr f ↦ ap (after NoItem) (visible_front x xs f) ]

pub gap_none : (s : List ℕ) → HasNoGap NoItem (without_white_front s)
gap_none [] = tt
gap_none (x ∷ xs) = elim (cases_Bool (is_white_space x)) [ inl t ↦ rw t (gap_none xs) | inr f ↦ rw f f ]

-- ---- the first part

abbrev taken : Reached → List ℕ → List ℕ
taken r s = take (part_size r s) s

abbrev left : Reached → List ℕ → List ℕ
left r s = drop (part_size r s) s

part_left : (r : Reached) (s : List ℕ) → after r s ≡ after (part_after r s) (left r s)
part_left r [] = refl
part_left r (x ∷ xs) = elim (cases_Bool (ends r x)) [ inl t ↦ rw t refl | inr f ↦ rw f (part_left (after_byte r x) xs) ]

-- the bytes that are left of an item, and what comes after them
rest_cut : (r : Reached) (x : ℕ) (s : List ℕ) → is_gap r x ≡ false → parts r (x ∷ s) ≡ taken r (x ∷ s) ∷ parts (part_after r (x ∷ s)) (left r (x ∷ s))
rest_cut r x [] g = elim (cases_Bool (ends r x)) [ inl t ↦ rw (g, t) refl | inr f ↦ rw (g, f) refl ]
rest_cut r x (y ∷ s) g =
    elim (step_of r x) [
      | inl h ↦ absurd (false≢true (sym g ∙ h.gap))
      | inr (inl e) ↦ rw (g, e.end) refl
      | inr (inr w) ↦
          let later = rest_cut (after_byte r x) y s (no_gap (after_byte r x) y w.after) in
          rw (g, w.end) (ap (with_first_byte x) later)
    ]

pub part_cut : (r : Reached) (s : List ℕ) → s ≢ [] → HasNoGap r s → IsFirstPart r s (taken r s) (part_after r s) (left r s)
part_cut r [] some none = absurd (some refl)
part_cut r (x ∷ xs) some none = record { parts = rest_cut r x xs none; after = part_left r (x ∷ xs) }

-- ---- the same where that is so

pub between_parts : (r : Reached) (s : List ℕ) → is_between r ≡ true → parts r (without_white_front s) ≡ parts r s
between_parts r s b = rw (between r b) (gap_parts s)

pub between_after : (r : Reached) (s : List ℕ) → is_between r ≡ true → after r (without_white_front s) ≡ after r s
between_after r s b = rw (between r b) (gap_after s)

pub between_none : (r : Reached) (s : List ℕ) → is_between r ≡ true → HasNoGap r (without_white_front s)
between_none r s b = rw (between r b) (gap_none s)

pub front_shorter : (s : List ℕ) → length (without_white_front s) ≤ length s
front_shorter [] = omega arith
front_shorter (x ∷ xs) =
    let later = front_shorter xs in
    elim (cases_Bool (is_white_space x)) [ inl t ↦ rw t (omega (arith, later)) | inr f ↦ rw f (omega arith) ]

-- the first part of a text, by that of the text without the white space in front
pub first_cut : (r next : Reached) (text s : List ℕ) (n : ℕ) → parts r s ≡ parts r text → after r s ≡ after r text → HasNoGap r s → (length s == 0) ≡ false
    → n ≡ part_size r s → next ≡ part_after r s → IsFirstPart r text (take n s) next (take (length s - n) (drop n s))
first_cut r next text [] n same reached none some size end = absurd (true≢false some)
first_cut r next text (x ∷ xs) n same reached none some size end =
    let cut = part_cut r (x ∷ xs) (λ e. cc) none in
    rw (size, end, take_rest (x ∷ xs) (part_size r (x ∷ xs))) (record { parts = sym same ∙ cut.parts; after = sym reached ∙ cut.after })
