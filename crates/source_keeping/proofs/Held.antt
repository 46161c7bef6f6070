-- A line of a block is a line of the text that the block is in.
use Rattle.std.proofs.Common.{◌≡◌, ℕ, ◌+◌, ◌-◌, ◌≤◌, ◌==◌, ◌&&◌, true, inl, inr, List, [], ◌∷◌, ◌++◌, drop, length, take, refl, sym, ap, ap₂, ◌∙◌, arith}
use Rattle.std.specs.List.{slice_range}
use Rattle.std.proofs.Math.Seq.{drop-append-add, take-append-add}
use Rattle.std.proofs.lemmas.Bool.{cases_Bool, eq-eqb, false≢true}
use Rattle.std.proofs.lemmas.List.{drop-take, take-append-le}
use Rattle.ti_text.specs.Texts.{last_byte}
use Rattle.source_keeping.specs.Keeping.{goes_on_line, open_line, stays_in_line}

open_both : (line front text : List ℕ) → open_line line (front ++ text) ≡ open_line (open_line line front) text
open_both line [] text = refl
open_both line (x ∷ xs) text =
    elim (cases_Bool (x == 10)) [
      | inl t ↦ rw t (open_both [] xs text)
      | inr f ↦ rw f (open_both (line ++ x ∷ []) xs text)
    ]

-- no line is begun in a text that ends with a newline, or has no bytes
open_ended : (line front : List ℕ) (before : ℕ) → (before ≡ 10 → line ≡ []) → last_byte before front ≡ 10 → open_line line front ≡ []
open_ended line [] before start ends = start ends
open_ended line (x ∷ xs) before start ends =
    elim (cases_Bool (x == 10)) [
      | inl t ↦ rw t (open_ended [] xs x (λ e. refl) ends)
      | inr f ↦ rw f (open_ended (line ++ x ∷ []) xs x (λ e. let no = eq-eqb x 10 e in absurd (false≢true (sym f ∙ no))) ends)
    ]

-- an edit within a line of a block is within a line of the text
pub stays_held : (text more front block back : List ℕ) (start end : ℕ) (new : List ℕ) → text ++ more ≡ front ++ (block ++ back) → last_byte 10 front ≡ 10
    → start ≤ end → end ≤ length block → length front + end ≤ length text → stays_in_line block start end new ≡ true
    → stays_in_line text (length front + start) (length front + end) new ≡ true
stays_held text more front block back start end new whole ends forward within inside stays =
    let until : (n : ℕ) → n ≤ end → take (length front + n) text ≡ front ++ take n block =
    λ n less.
    sym (take-append-le (length front + n) text more (omega (arith, less, inside))) ∙ ap (take (length front + n)) whole
    ∙ take-append-add front (block ++ back) n ∙ ap (λ (t : List ℕ). front ++ t) (take-append-le n block back (omega (arith, less, within))) in
    let begins : open_line [] (take (length front + start) text) ≡ open_line [] (take start block) =
    ap (open_line []) (until start forward) ∙ open_both [] front (take start block)
    ∙ ap (λ (l : List ℕ). open_line l (take start block)) (open_ended [] front 10 (λ e. refl) ends) in
    let old : slice_range text (length front + start) (length front + end) ≡ slice_range block start end =
    ap (λ (n : ℕ). take n (drop (length front + start) text)) (omega arith) ∙ sym (drop-take (length front + start) (end - start) text)
    ∙ ap (λ (n : ℕ). drop (length front + start) (take n text)) (omega (arith, forward)) ∙ ap (drop (length front + start)) (until end (omega arith))
    ∙ drop-append-add front (take end block) start
    ∙ ap (λ (n : ℕ). drop start (take n block)) (omega (arith, forward)) ∙ drop-take start (end - start) block in
    ap₂ (λ (line was : List ℕ). goes_on_line line was && goes_on_line line new) begins old ∙ stays
