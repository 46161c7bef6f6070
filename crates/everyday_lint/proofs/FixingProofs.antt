-- A text with fixes made keeps its comments and blank lines.
use Rattle.std.proofs.Common.{◌≡◌, ◌≤◌, ℕ, ◌-◌, true, List, [], ◌∷◌, ◌++◌, append_assoc, inl, inr, take, sym, ap, ◌∙◌, arith}
use Rattle.std.specs.List.{slice_range}
use Rattle.std.proofs.lemmas.Bool.{and_parts, cases_Bool, leb-true}
use Rattle.std.proofs.Math.Seq.{take-add}
use Rattle.std.proofs.lemmas.List.{take-append-drop}
use Rattle.source_keeping.specs.Keeping.{KeepsLines, kept_in, stays_in_line}
use Rattle.source_keeping.proofs.LinesKept.{exchange_keeps}
use Rattle.everyday_lint.specs.Fixing.{FixingKeepsLines, begins, ends, is_made, made, fixed_text}
use Rattle.everyday_lint.specs.Offers.{OfferSeen}

-- the first bytes of a text, and those from there up to another offset
joined : (text : List ℕ) (from to : ℕ) → from ≤ to → take from text ++ slice_range text from to ≡ take to text
joined text from to forward = sym (ap (λ (n : ℕ). take n text) (omega (arith, forward)) ∙ take-add from (to - from) text)

-- one fix: what is before it, its new text, and what is after it, with others made
one_kept : (text new rest : List ℕ) (at start end : ℕ) → at ≤ start → start ≤ end → stays_in_line text start end new ≡ true
    → KeepsLines text (take end text ++ rest) → KeepsLines text (take at text ++ (slice_range text at start ++ new ++ rest))
one_kept text new rest at start end after forward stays later =
    let both = and_parts _ _ stays in
    let old = slice_range text start end in
    let was : take end text ++ rest ≡ take start text ++ (old ++ rest) =
    ap (λ (t : List ℕ). t ++ rest) (sym (joined text start end forward)) ∙ append_assoc (take start text) old rest in
    let now : take at text ++ (slice_range text at start ++ new ++ rest) ≡ take start text ++ (new ++ rest) =
    ap (λ (t : List ℕ). take at text ++ t) (append_assoc (slice_range text at start) new rest)
    ∙ sym (append_assoc (take at text) (slice_range text at start) (new ++ rest)) ∙ ap (λ (t : List ℕ). t ++ (new ++ rest)) (joined text at start after) in
    ap kept_in now ∙ exchange_keeps (take start text) old new rest both.0 both.1 ∙ ap kept_in (sym was) ∙ later

-- the first bytes of a text, and the rest with fixes made
kept_from : (text : List ℕ) (at : ℕ) (offers : List OfferSeen) → KeepsLines text (take at text ++ fixed_text text at (made text at offers))
kept_from text at [] = ap kept_in (take-append-drop at text)
kept_from text at (offer ∷ offers) =
    elim (cases_Bool (is_made text at offer)) [
      | inl t ↦
          let both = and_parts _ _ t in
          let end = ends text offer in
          rw t (one_kept text offer.fix.text (fixed_text text end (made text end offers)) at (begins text offer) end (leb-true at (begins text offer) both.0)
          (omega arith) both.1 (kept_from text end offers))
      | inr f ↦ rw f (kept_from text at offers)
    ]

pub fixing_keeps : FixingKeepsLines
fixing_keeps text offers = kept_from text 0 offers
