-- The bytes before the first padding of a text are the first parts of its cut.
use Rattle.std.proofs.Common.{◌≡◌, ℕ, zero, suc, ◌+◌, ◌-◌, ◌<◌, ◌≤◌, List, [], ◌∷◌, ◌++◌, length, map, drop, take, Some, None, refl, sym, ap, subst, ◌∙◌, arith}
use Rattle.std.proofs.lemmas.List.{append-nil, drop_all, length-drop, take_all, take-append-drop}
use Rattle.ti_printing.specs.declared.padding.Line.{Line}
use Rattle.ti_printing.specs.declared.padding.Padding.{Padding}
use Rattle.ti_printing.specs.declared.padding.Part.{Part}
use Rattle.ti_printing.specs.declared.padding.Part.TheVariants.{Literal, Delay}
use Rattle.ti_printing.specs.Delays.{HasNoDelay, IsCutAtFirst}
use Rattle.ti_printing.specs.Padding.{IsCutIntoParts, time_due}
use Rattle.ti_printing.specs.inside.Padding.{padding_at, parts_of}
use Rattle.ti_printing.proofs.Cuts.{parts_of-nil, parts_of-none, parts_of-some, the_cut}
use Rattle.ti_printing.proofs.Paddings.{padding_at-some}

-- the parts of a text whose first bytes, this many, are parts by themselves
abbrev pub parts_from : ℕ → List ℕ → List Part
parts_from at text = map Literal (take at text) ++ parts_of (drop at text)

next_literal : (at : ℕ) (text : List ℕ) → at < length text → padding_at (drop at text) ≡ None → parts_from at text ≡ parts_from (suc at) text
next_literal at [] short none = absurd (omega arith)
next_literal zero (byte ∷ text) short none = parts_of-none byte text none
next_literal (suc at) (byte ∷ text) short none = ap (λ parts. Literal byte ∷ parts) (next_literal at text (omega arith) none)

-- what is left of a text from a place on is all that follows
slice_is : (at : ℕ) (text : List ℕ) → take (length text - at) (drop at text) ≡ drop at text
slice_is at text = take_all (length text - at) (drop at text) (omega (arith, length-drop at text))

-- one more byte at which no padding begins
pub parts_from-next : (at : ℕ) (text : List ℕ) → at < length text → padding_at (take (length text - at) (drop at text)) ≡ None
    → parts_from at text ≡ parts_from (at + 1) text
parts_from-next at text short none =
    let next : suc at ≡ at + 1 = omega arith in
    next_literal at text short (ap padding_at (sym (slice_is at text)) ∙ none) ∙ ap (λ n. parts_from n text) next

pub no_delay : (at : ℕ) (text : List ℕ) → length text ≤ at → parts_of text ≡ parts_from at text → HasNoDelay text
no_delay at text long found =
    let all : parts_from at text ≡ map Literal text =
    ap (λ t. map Literal t ++ parts_of (drop at text)) (take_all at text long) ∙
    ap (λ t. map Literal text ++ parts_of t) (drop_all at text long) ∙
    ap (λ parts. map Literal text ++ parts) (parts_of-nil [] (omega arith)) ∙ append-nil (map Literal text) in
    subst (IsCutIntoParts text) (found ∙ all) (the_cut text)

pub cut_at_first : (at : ℕ) (text : List ℕ) (lines : ℕ) (line : Line) (padding : Padding) (after : List ℕ) (tenths : ℕ)
    → parts_of text ≡ parts_from at text → padding_at (take (length text - at) (drop at text)) ≡ Some (padding, after)
    → tenths ≡ time_due lines line padding → IsCutAtFirst text lines line (take at text) tenths after
cut_at_first at text lines line padding after tenths found is_found due =
    let some : padding_at (drop at text) ≡ Some (padding, after) = ap padding_at (sym (slice_is at text)) ∙ is_found in
    let (spelled, joined, is) = padding_at-some (drop at text) (padding, after) some in
    let parts : parts_of text ≡ map Literal (take at text) ++ (Delay padding ∷ parts_of after) =
    found ∙ ap (λ parts. map Literal (take at text) ++ parts) (parts_of-some (drop at text) after padding some) in
    record {
      padding = padding;
      spelled = spelled;
      rest = parts_of after;
      is_padding = is;
      joined = sym (take-append-drop at text) ∙ ap (λ t. take at text ++ t) joined;
      cut = subst (IsCutIntoParts text) parts (the_cut text);
      cut_after = the_cut after;
      due = due;
    }
