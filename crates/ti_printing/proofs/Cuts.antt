-- Each text has exactly one cut.
use Rattle.std.proofs.Common.{◌≡◌, ℕ, zero, suc, ◌-◌, ◌<◌, ◌≤◌, List, [], ◌∷◌, ◌++◌, length, drop, take, get_or, Some, None, refl, sym, ap, subst, ◌∙◌, arith}
use Rattle.std.proofs.lemmas.List.{length-append, take_all}
use Rattle.std.proofs.Math.Seq.{drop-append_seam}
use Rattle.std.specs.Prelude.{Result, Ok, Err, IfOk, ◌↔◌}
use Rattle.std.specs.Global.{Vec}
use Rattle.ti_printing.specs.declared.padding.Line.{Line}
use Rattle.ti_printing.specs.declared.padding.Padding.{Padding}
use Rattle.ti_printing.specs.declared.padding.Part.{Part}
use Rattle.ti_printing.specs.declared.padding.Part.TheVariants.{Literal, Delay}
use Rattle.ti_printing.specs.Padding.{AsksForTooMuch, BeginsNoPadding, IsPadded, IsPadding, IsCutIntoParts, cut_nothing, cut_literal, cut_padding}
use Rattle.ti_printing.specs.Padding.{pad_bytes_max, padded_parts, padding_of_parts, TextsHaveOneCut}
use Rattle.ti_printing.specs.inside.Padding.{first_part, taken_by, padding_at, padding_of, parts_after, parts_of, with_pad_bytes}
use Rattle.ti_printing.proofs.Paddings.{padding_at-some, padding_at-found}

-- what a padding takes is passed over
parts_after-drop : (taken : ℕ) (text : List ℕ) → parts_after taken text ≡ parts_after 0 (drop taken text)
parts_after-drop zero text = refl
parts_after-drop (suc taken) [] = refl
parts_after-drop (suc taken) (byte ∷ text) = parts_after-drop taken text

-- a padding is not empty
padding_nonempty : (front : List ℕ) (padding : Padding) → IsPadding front padding → (byte : ℕ) × (text : List ℕ) × (front ≡ byte ∷ text)
padding_nonempty front padding h = (36, 60 ∷ (h.milliseconds ++ (h.tenths ++ (h.marks ++ (62 ∷ [])))), h.spelled)

parts_of-front : (byte : ℕ) (text rest : List ℕ) (padding : Padding) → padding_at (byte ∷ (text ++ rest)) ≡ Some (padding, rest)
    → parts_of (byte ∷ (text ++ rest)) ≡ Delay padding ∷ parts_of rest
unfolding parts_of
parts_of-front byte text rest padding h =
    let left : length (text ++ rest) - length rest ≡ length text = omega (arith, length-append text rest) in
    ap (λ found. first_part found byte ∷ parts_after (taken_by found (text ++ rest)) (text ++ rest)) h ∙
    ap (λ n. Delay padding ∷ parts_after n (text ++ rest)) left ∙
    ap (λ parts. Delay padding ∷ parts) (parts_after-drop (length text) (text ++ rest)) ∙
    ap (λ t. Delay padding ∷ parts_after 0 t) (drop-append_seam text rest)

-- a padding and then the rest
pub parts_of-padding : (front rest : List ℕ) (padding : Padding) → IsPadding front padding → parts_of (front ++ rest) ≡ Delay padding ∷ parts_of rest
parts_of-padding front rest padding h =
    let (byte, text, e) = padding_nonempty front padding h in
    ap (λ f. parts_of (f ++ rest)) e ∙
    parts_of-front byte text rest padding (ap (λ f. padding_at (f ++ rest)) (sym e) ∙ padding_at-found front rest padding h)

-- a padding that is found
pub parts_of-some : (text rest : List ℕ) (padding : Padding) → padding_at text ≡ Some (padding, rest) → parts_of text ≡ Delay padding ∷ parts_of rest
parts_of-some text rest padding h =
    let (front, spelled, is) = padding_at-some text (padding, rest) h in
    ap parts_of spelled ∙ parts_of-padding front rest padding is

-- a byte at which none is found
pub parts_of-none : (byte : ℕ) (text : List ℕ) → padding_at (byte ∷ text) ≡ None → parts_of (byte ∷ text) ≡ Literal byte ∷ parts_of text
unfolding parts_of
parts_of-none byte text h = ap (λ found. first_part found byte ∷ parts_after (taken_by found text) text) h

pub parts_of-nil : (text : List ℕ) → length text < 1 → parts_of text ≡ []
unfolding parts_of
parts_of-nil [] short = refl
parts_of-nil (byte ∷ text) short = absurd (omega arith)

-- the first byte of a text, at which no padding is found
pub parts_of-first : (text : List ℕ) → 1 ≤ length text → padding_at text ≡ None → parts_of text ≡ Literal (get_or text 0 0)
    ∷ parts_of (take (length text - 1) (drop 1 text))
parts_of-first [] long h = absurd (omega arith)
parts_of-first (byte ∷ text) long h =
    parts_of-none byte text h ∙ ap (λ t. Literal byte ∷ parts_of t) (sym (take_all (length (byte ∷ text) - 1) text (omega arith)))

none_from_begins : (text : List ℕ) → BeginsNoPadding text → padding_at text ≡ None
none_from_begins text other =
    elim (padding_at text) as (λ o. padding_at text ≡ o → o ≡ None) [
      | None ↦ λ e. refl
      | Some found ↦ λ e. let (front, spelled, is) = padding_at-some text found e in absurd (other front found.1 found.0 spelled is)
    ] refl

begins_from_none : (text : List ℕ) → padding_at text ≡ None → BeginsNoPadding text
begins_from_none text none = λ front rest padding spelled is.
    let found = padding_at-found front rest padding is in
    let e = ap padding_at spelled in
    cc

parts_of_cut : (text : List ℕ) (parts : List Part) → IsCutIntoParts text parts → parts ≡ parts_of text
unfolding parts_of
parts_of_cut _ _ cut_nothing = refl
parts_of_cut _ _ (cut_literal {byte} {rest} {parts} other cut) =
    ap (λ ps. Literal byte ∷ ps) (parts_of_cut rest parts cut) ∙ sym (parts_of-none byte rest (none_from_begins (byte ∷ rest) other))
parts_of_cut _ _ (cut_padding {text} {rest} {padding} {parts} is cut) =
    ap (λ ps. Delay padding ∷ ps) (parts_of_cut rest parts cut) ∙ sym (parts_of-padding text rest padding is)

-- the cut of a text of at most the given number of bytes
cut_within : (most : ℕ) (text : List ℕ) → length text ≤ most → IsCutIntoParts text (parts_of text)
unfolding parts_of
cut_within most [] within = cut_nothing
cut_within zero (byte ∷ text) within = absurd (omega arith)
cut_within (suc most) (byte ∷ text) within =
    elim (padding_at (byte ∷ text)) as (λ o. padding_at (byte ∷ text) ≡ o → IsCutIntoParts (byte ∷ text) (parts_of (byte ∷ text))) [
      | None ↦ λ e. subst (IsCutIntoParts (byte ∷ text)) (sym (parts_of-none byte text e))
          (cut_literal (begins_from_none (byte ∷ text) e) (cut_within most text (omega arith)))
      | Some found ↦ λ e.
          let (front, spelled, is) = padding_at-some (byte ∷ text) found e in
          let (first, others, some) = padding_nonempty front found.0 is in
          let shorter : length found.1 ≤ most = omega (arith, length-append front found.1, ap length spelled, ap length some) in
          subst (λ t. IsCutIntoParts t (parts_of t)) (sym spelled)
          (subst (IsCutIntoParts (front ++ found.1)) (sym (parts_of-padding front found.1 found.0 is)) (cut_padding is (cut_within most found.1 shorter)))
    ] refl

pub the_cut : (text : List ℕ) → IsCutIntoParts text (parts_of text)
the_cut text = cut_within (length text) text (omega arith)

pub one_cut : TextsHaveOneCut
one_cut text = record {
  some = (parts_of text, the_cut text);
  one = λ parts others cut other. parts_of_cut text parts cut ∙ sym (parts_of_cut text others other);
}

-- ---- the padded text is computed

pub padded_is : (text : List ℕ) (lines : ℕ) (line : Line) (out : List ℕ) → out ≡ with_pad_bytes text lines line → IsPadded text lines line out
unfolding with_pad_bytes
padded_is text lines line out h = record { parts = parts_of text; cut = the_cut text; written = h }

pub padded_computed : (text : List ℕ) (lines : ℕ) (line : Line) (out : List ℕ) → IsPadded text lines line out → out ≡ with_pad_bytes text lines line
unfolding with_pad_bytes
padded_computed text lines line out h = h.written ∙ ap (padded_parts lines line) (parts_of_cut text h.parts h.cut)

pub too_much_computed : (text : List ℕ) (lines : ℕ) (line : Line) → AsksForTooMuch text lines line ↔ (pad_bytes_max < padding_of text lines line)
unfolding padding_of
too_much_computed text lines line = (
  λ asks. subst (λ parts. pad_bytes_max < padding_of_parts lines line parts) (parts_of_cut text asks.parts asks.cut) asks.many,
  λ many. record { parts = parts_of text; cut = the_cut text; many = many },
)

-- an answer that is right as computed is right by the relations
pub padded_ok : {E : Type 0} (text : List ℕ) (lines : ℕ) (line : Line) (result : Result (Vec ℕ) E) →
    IfOk result (λ out. out.items ≡ with_pad_bytes text lines line) → IfOk result (λ out. IsPadded text lines line out.items)
padded_ok text lines line (Ok out) h = padded_is text lines line out.items h
padded_ok text lines line (Err e) h = h

pub padded_too_much : {R : Type 0} (text : List ℕ) (lines : ℕ) (line : Line) → R ↔ (pad_bytes_max < padding_of text lines line)
    → R ↔ AsksForTooMuch text lines line
padded_too_much text lines line h =
    let asks = too_much_computed text lines line in (λ r. asks.1 (h.0 r), λ a. h.1 (asks.0 a))

-- no more parts than bytes
length-parts_after : (taken : ℕ) (text : List ℕ) → length (parts_after taken text) ≤ length text
length-parts_after taken [] = omega arith
length-parts_after (suc taken) (byte ∷ text) = omega (arith, length-parts_after taken text)
length-parts_after zero (byte ∷ text) = omega (arith, length-parts_after (taken_by (padding_at (byte ∷ text)) text) text)

pub parts_fit : (text : List ℕ) → length (parts_of text) ≤ length text
unfolding parts_of
parts_fit text = length-parts_after 0 text
