-- The text of a document once a part of a block is exchanged at the places of its ends.
use Rattle.std.proofs.Common.{◌≡◌, ◌≢◌, ℕ, zero, suc, ◌+◌, ◌<◌, ◌≤◌, true, List, [], ◌∷◌, ◌++◌, append_assoc, drop, length, max, take, sym, ap, ap₂, ◌∙◌}
use Rattle.std.proofs.Common.{refl, subst, arith}
use Rattle.std.proofs.Math.Seq.{take-append-add}
use Rattle.std.proofs.lemmas.List.{append-nil, length-append, take-append-le}
use Rattle.ti_text.specs.Lines.{line_count}
use Rattle.ti_text.specs.Texts.{last_byte}
use Rattle.source_spans.specs.Replacing.{exchanged}
use Rattle.source_spans.specs.declared.parts.Part.{Part}
use Rattle.source_places.specs.Position.{is_start, offset_of, position_of}
use Rattle.source_places.specs.Splicing.{spliced}
use Rattle.source_blocks.proofs.Placing.{IsMissing, leads, missing_size, place, spliced_in, spliced_more}
use Rattle.source_keeping.specs.Keeping.{EditsInLinesKeepLines, KeepsLines, stays_in_line}
use Rattle.source_keeping.proofs.Held.{stays_held}
use Rattle.source_fixes.specs.Healing.{IsInLine, IsPartOf}

-- a part of a block has its ends at places of the block
pub record IsPlaced (block : List ℕ) (part : Part) : Type 0 where
  pub is : IsPartOf block part
  pub within : part.end < length block
  pub start : is_start 0 block part.start ≡ true
  pub end : is_start 0 block part.end ≡ true

-- the text once the part is exchanged at the places of its ends
abbrev pub exchanged_in : (text front block : List ℕ) (part : Part) (new : List ℕ) → List ℕ
exchanged_in text front block part new =
    spliced text (offset_of text (place (line_count front + (position_of block part.start).line) (position_of block part.start).column))
    (offset_of text (place (line_count front + (position_of block part.end).line) (position_of block part.end).column)) new

pub record IsApplied (text more front block back : List ℕ) (part : Part) (new : List ℕ) : Type 0 where
  pub is_spliced : exchanged_in text front block part new ≡ spliced text (length front + part.start) (length front + part.end) new
  pub within : length front + part.end ≤ length text
  pub applied : exchanged_in text front block part new ++ more ≡ front ++ (exchanged block part new ++ back)

pub applied_in : (text more front block back : List ℕ) (part : Part) (new : List ℕ) → IsMissing more → text ++ more ≡ front ++ (block ++ back)
    → last_byte 10 front ≡ 10 → last_byte 10 block ≡ 10
    → IsPlaced block part → IsApplied text more front block back part new
applied_in text more front block back part new missing whole ends one placed =
    let forward = placed.is.0 in
    let within = placed.within in
    let size : length text + length more ≡ length front + (length block + length back) =
    sym (length-append text more) ∙ ap length whole ∙ length-append front (block ++ back) ∙ ap (λ (n : ℕ). length front + n) (length-append block back) in
    let few = missing_size more missing in
    let inside : length front + part.end ≤ length text = omega (arith, within, size, few) in
    let is : exchanged_in text front block part new ≡ spliced text (length front + part.start) (length front + part.end) new =
    ap₂ (λ (a b : ℕ). spliced text a b new)
    (leads text more front block back part.start missing whole ends one (omega (arith, forward, within)) placed.start)
    (leads text more front block back part.end missing whole ends one within placed.end) in
    record {
      is_spliced = is;
      within = inside;
      applied =
          ap (λ (t : List ℕ). t ++ more) is
          ∙ sym (spliced_more text more new (length front + part.start) (length front + part.end) (omega (arith, forward)) inside)
          ∙ ap (λ (t : List ℕ). spliced t (length front + part.start) (length front + part.end) new) whole
          ∙ spliced_in front block back part new forward placed.is.1;
    }

-- ---- the end of the text then

last_both : (before : ℕ) (one other : List ℕ) → last_byte before (one ++ other) ≡ last_byte (last_byte before one) other
last_both before [] other = refl
last_both before (x ∷ xs) other = last_both x xs other

last_kept : (before : ℕ) (n : ℕ) (text : List ℕ) (x : ℕ) (xs : List ℕ) → drop n text ≡ x ∷ xs → last_byte before text ≡ last_byte x xs
last_kept before zero [] x xs e = cc
last_kept before (suc n) [] x xs e = cc
last_kept before zero (y ∷ ys) x xs e = ap (last_byte before) e
last_kept before (suc n) (y ∷ ys) x xs e = last_kept y n ys x xs e

-- the text ends with no newline if it did not, and the new text and what is before it do not
pub still_open : (text front block back new more : List ℕ) (part : Part) → last_byte 10 text ≢ 10 → text ++ more ≡ front ++ (block ++ back)
    → last_byte 10 front ≡ 10 → IsPartOf block part
    → IsInLine block part new → length front + part.end ≤ length text
    → last_byte 10 (spliced text (length front + part.start) (length front + part.end) new) ≢ 10
still_open text front block back new more part unended whole ends is in_line within =
    let start = length front + part.start in
    let end = max start (length front + part.end) in
    let forward = is.0 in
    let to_end = is.1 in
    let first : take start text ≡ front ++ take part.start block =
    sym (take-append-le start text more (omega (arith, forward, within))) ∙ ap (take start) whole ∙ take-append-add front (block ++ back) part.start
    ∙ ap (λ (t : List ℕ). front ++ t) (take-append-le part.start block back (omega (arith, forward, to_end))) in
    λ is_last. by_rest (drop end text) refl first is_last
  where
    start_of : ℕ
    start_of = length front + part.start

    rest : List ℕ
    rest = drop (max (length front + part.start) (length front + part.end)) text

    by_rest : (left : List ℕ) → rest ≡ left → take start_of text ≡ front ++ take part.start block → last_byte 10 ((take start_of text ++ new) ++ rest) ≡ 10 → ⊥
    by_rest [] e first is_last =
        in_line
        (sym (ap (λ (b : ℕ). last_byte b (take part.start block ++ new)) ends) ∙ sym (last_both 10 front (take part.start block ++ new))
        ∙ ap (last_byte 10) (sym (append_assoc front (take part.start block) new))
        ∙ ap (λ (t : List ℕ). last_byte 10 (t ++ new)) (sym first) ∙ ap (last_byte 10) (sym (append-nil (take start_of text ++ new)))
        ∙ ap (λ (t : List ℕ). last_byte 10 ((take start_of text ++ new) ++ t)) (sym e) ∙ is_last)
    by_rest (x ∷ xs) e first is_last =
        unended
        (last_kept 10 (max (length front + part.start) (length front + part.end)) text x xs e ∙ sym (last_both 10 (take start_of text ++ new) (x ∷ xs))
        ∙ ap (λ (t : List ℕ). last_byte 10 ((take start_of text ++ new) ++ t)) (sym e)
        ∙ is_last)

-- ---- the lines of the text then

-- an edit within a line of a block is within a line of the text
pub lines_held : EditsInLinesKeepLines → (text more front block back : List ℕ) (part : Part) (new : List ℕ) → text ++ more ≡ front ++ (block ++ back)
    → last_byte 10 front ≡ 10 → part.start ≤ part.end → part.end ≤ length block → length front + part.end ≤ length text
    → stays_in_line block part.start part.end new ≡ true
    → KeepsLines text (spliced text (length front + part.start) (length front + part.end) new)
lines_held keeps text more front block back part new whole ends forward within inside stays =
    let start = length front + part.start in
    let end = length front + part.end in
    let there = stays_held text more front block back part.start part.end new whole ends forward within inside stays in
    let last : max start end ≡ end = omega (arith, forward) in
    subst (KeepsLines text) (sym (append_assoc (take start text) new (drop end text)) ∙ ap (λ (n : ℕ). take start text ++ new ++ drop n text) (sym last))
    (keeps text start end new (omega (arith, forward)) there)
