-- The lines of the blocks that a range touches, and a part of a text that gets its layout.
use Rattle.std.proofs.Common.{◌≡◌, ℕ, ◌+◌, ◌-◌, ◌<◌, ◌≤◌, List, ◌++◌, Option, None, Some, drop, length, take}
use Rattle.std.proofs.Common.{refl, sym, ap, subst, ◌∙◌, arith}
use Rattle.std.specs.Prelude.{max}
use Rattle.std.proofs.lemmas.List.{append_assoc, drop-drop, take-append-drop}
use Rattle.ti_text.specs.Lines.{line_count}
use Rattle.source_types.specs.declared.places.Range.{Range}
use Rattle.source_format.specs.Sources.{formatted_source}
use Rattle.source_places.specs.Position.{offset_of}
use Rattle.source_document.specs.Diagnostics.{text_at}
use Rattle.source_blocks.proofs.Outlines.{blocks_more}
use Rattle.source_features.proofs.LaidOut.{edit_is}
use Rattle.source_features.specs.Formatting.{LayoutSeen}
use Rattle.source_features.specs.RangeFormatting.{EditsLayOutAPart, IsLaidPart, joined, layout_of_lines, layout_of_part, piece_of, touched, touched_block}

pub joined_all : (a b c : Option (ℕ × ℕ)) → joined (joined a b) c ≡ joined a (joined b c)
joined_all None b c = refl
joined_all (Some a) None c = refl
joined_all (Some a) (Some b) None = refl
joined_all (Some a) (Some b) (Some c) = refl

-- one more block
pub touched_more : (blocks : List (List ℕ)) (at first last line : ℕ) → at < length blocks
    → touched first last line (drop at blocks)
    ≡ joined (touched_block first last line (line + line_count (text_at blocks at)))
    (touched first last (line + line_count (text_at blocks at)) (drop (at + 1) blocks))
touched_more blocks at first last line within = ap (touched first last line) (blocks_more blocks at within)

-- ---- a part of a text

-- a text is what is before a part, the part, and what is after it
parts : (text : List ℕ) (start end : ℕ) → start ≤ end → text ≡ take start text ++ take (end - start) (drop start text) ++ drop end text
parts text start end low =
    let all : start + (end - start) ≡ end = omega (arith, low) in
    let rest : drop (end - start) (drop start text) ≡ drop end text = drop-drop (end - start) start text ∙ ap (λ n. drop n text) all in
    sym (take-append-drop start text)
    ∙ ap (λ (t : List ℕ). take start text ++ t) (sym (take-append-drop (end - start) (drop start text)))
    ∙ ap (λ (t : List ℕ). take start text ++ (take (end - start) (drop start text) ++ t)) rest
    ∙ sym (append_assoc (take start text) (take (end - start) (drop start text)) (drop end text))

lay_part : (text : List ℕ) (range : Range) (edit : LayoutSeen) → layout_of_part text range ≡ Some edit → IsLaidPart text edit
lay_part text range edit e =
    let laid = formatted_source 80 (piece_of text range) in
    let make : List ℕ → LayoutSeen = λ t. record { range = range; text = t } in
    let is : make laid ≡ edit = edit_is _ _ laid make edit e in
    let start = offset_of text range.start in
    let most = max start (offset_of text range.end) in
    subst (IsLaidPart text) is (record {
      front = take start text;
      back = drop most text;
      before = parts text start most (omega arith);
      after = refl;
    })

lay_lines : (text : List ℕ) (lines : Option (ℕ × ℕ)) (edit : LayoutSeen) → layout_of_lines text lines ≡ Some edit → IsLaidPart text edit
lay_lines text None edit e = absurd cc
lay_lines text (Some lines) edit e = lay_part text _ edit e

pub edits_lay_part : EditsLayOutAPart
edits_lay_part text range edit e = lay_lines text _ edit e
