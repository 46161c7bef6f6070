-- The block that a place of a text is in: what is before it and after it, and the text once a part of
-- it is exchanged.
use Rattle.std.proofs.Common.{◌≡◌, ℕ, zero, suc, ◌+◌, ◌-◌, ◌<◌, ◌≤◌, ◌==◌, ◌||◌, nat_lt, true, List, [], ◌∷◌, ◌++◌, append_assoc, drop, length, take}
use Rattle.std.proofs.Common.{Option, None, Some}
use Rattle.std.proofs.Common.{inl, inr, refl, sym, ap, ap₂, subst, ◌∙◌, arith, sum_by, zero-add}
use Rattle.std.specs.List.{concat}
use Rattle.std.proofs.lemmas.Bool.{and_parts, cases_Bool, ltb-true}
use Rattle.std.proofs.lemmas.List.{length-append, length-drop}
use Rattle.std.proofs.lemmas.List.Sums.{sum_by-append}
use Rattle.std.proofs.lemmas.Option.{same_Some}
use Rattle.ti_text.specs.Lines.{line_count}
use Rattle.ti_text.specs.Texts.{last_byte}
use Rattle.ti_text.proofs.LineLaws.{lines_add}
use Rattle.ti_source.specs.Cutting.{AreBlocks, OneBlock}
use Rattle.ti_source.proofs.CutLemmas.{each_has_cut}
use Rattle.tools_sources.specs.Sources.{preface_of, source_refusal, source_texts, with_last_newline}
use Rattle.tools_sources.specs.declared.source_error.SourceError.{SourceError}
use Rattle.source_types.specs.declared.places.Position.{Position}
use Rattle.source_spans.specs.Replacing.{exchanged}
use Rattle.source_spans.specs.declared.parts.Part.{Part}
use Rattle.source_document.specs.Diagnostics.{text_at}
use Rattle.source_document.specs.Documents.{HeldBlocksFit, held, unless_refused}
use Rattle.source_places.specs.Position.{column_offset, ends_line, is_start, line_start, lines_left, offset_of, units}
use Rattle.source_places.specs.Splicing.{spliced}
use Rattle.source_blocks.specs.Spots.{head_line, offset_in, range_in, settled, spot_at, spot_from}
use Rattle.source_blocks.specs.declared.spots.Spot.{Spot}
use Rattle.source_blocks.proofs.Outlines.{text_got}
use Rattle.source_blocks.specs.Places.{is_place, missing_newline}
use Rattle.source_blocks.proofs.Placing.{IsMissing, ended_with, leads, missing_size, spliced_in, spliced_more}

-- ---- the block that a place is in

sum_first : (block : List ℕ) (blocks : List (List ℕ)) → sum_by line_count (block ∷ blocks) ≡ line_count block + sum_by line_count blocks
sum_first block blocks = sum_by-append line_count (block ∷ []) blocks ∙ ap (λ (n : ℕ). n + sum_by line_count blocks) (zero-add (line_count block))

record IsSpot (at first : ℕ) (blocks : List (List ℕ)) (spot : Spot) : Type 0 where
  place : ℕ
  is : spot.at ≡ at + place
  within : place < length blocks
  line : spot.line ≡ first + sum_by line_count (take place blocks)

spot_is : (at first : ℕ) (p : Position) (blocks : List (List ℕ)) (spot : Spot) → spot_from at first p blocks ≡ Some spot → IsSpot at first blocks spot
spot_is at first p [] spot e = absurd cc
spot_is at first p (block ∷ blocks) spot e =
    elim (cases_Bool (nat_lt p.line first)) [
      | inl t ↦ let none : None ≡ Some spot = rw t at e in absurd cc
      | inr f ↦
          elim (cases_Bool (nat_lt p.line (first + line_count block))) [
            | inl t ↦
                let is = same_Some _ spot (rw (f, t) at e) in
                let here : at ≡ spot.at = ap (λ (s : Spot). s.at) is in
                let line : first ≡ spot.line = ap (λ (s : Spot). s.line) is in
                let none : sum_by line_count (take 0 (block ∷ blocks)) ≡ 0 = refl in
                record { place = 0; is = omega (arith, here); within = omega arith; line = omega (arith, line, none) }
            | inr g ↦
                let later = spot_is (suc at) (first + line_count block) p blocks spot (rw (f, g) at e) in
                let is = later.is in
                let within = later.within in
                let line = later.line in
                let sum : sum_by line_count (take (suc later.place) (block ∷ blocks)) ≡ line_count block + sum_by line_count (take later.place blocks) =
                sum_first block (take later.place blocks) in
                record { place = suc later.place; is = omega (arith, is); within = omega (arith, within); line = omega (arith, line, sum) }
          ]
    ]

-- ---- the text before and after the block

concat_cut : (blocks : List (List ℕ)) (k : ℕ) → k < length blocks → concat blocks ≡ concat (take k blocks) ++ (text_at blocks k ++ concat (drop (suc k) blocks))
concat_cut [] k within = absurd (omega (arith, within))
concat_cut (block ∷ blocks) zero within = refl
concat_cut (block ∷ blocks) (suc k) within =
    ap (λ (t : List ℕ). block ++ t) (concat_cut blocks k (omega (arith, within)))
    ∙ sym (append_assoc block (concat (take k blocks)) (text_at blocks k ++ concat (drop (suc k) blocks)))

lines_of_all : (blocks : List (List ℕ)) → line_count (concat blocks) ≡ sum_by line_count blocks
lines_of_all [] = refl
lines_of_all (block ∷ blocks) = lines_add block (concat blocks) ∙ ap (λ (n : ℕ). line_count block + n) (lines_of_all blocks) ∙ sym (sum_first block blocks)

last_both : (before : ℕ) (one other : List ℕ) → last_byte before (one ++ other) ≡ last_byte (last_byte before one) other
last_both before [] other = refl
last_both before (x ∷ xs) other = last_both x xs other

ends_before : (before : ℕ) (blocks : List (List ℕ)) (k : ℕ) → k < length blocks → AreBlocks before blocks → last_byte before (concat (take k blocks)) ≡ 10
ends_before before [] k within are = absurd (omega (arith, within))
ends_before before (block ∷ blocks) zero within are = are.0
ends_before before (block ∷ blocks) (suc k) within are =
    last_both before block (concat (take k blocks)) ∙ ends_before (last_byte before block) blocks k (omega (arith, within)) are.2

-- a block that is one ends with a newline
block_ends : (block : List ℕ) → OneBlock block → last_byte 10 block ≡ 10
block_ends [] single = refl
block_ends (x ∷ xs) single = single.ends

record IsCutIn (text : List ℕ) (blocks : List (List ℕ)) (k : ℕ) : Type 0 where
  whole : text ++ missing_newline text ≡ (preface_of text ++ concat (take k blocks)) ++ (text_at blocks k ++ concat (drop (suc k) blocks))
  ends : last_byte 10 (preface_of text ++ concat (take k blocks)) ≡ 10
  lines : line_count (preface_of text ++ concat (take k blocks)) ≡ head_line text + sum_by line_count (take k blocks)

not_refused : (o : Option SourceError) (blocks : List (List ℕ)) (k : ℕ) → k < length (unless_refused o blocks) → unless_refused o blocks ≡ blocks
not_refused None blocks k within = refl
not_refused (Some error) blocks k within = absurd (omega (arith, within))

less_one : (n : ℕ) → n + 1 - 1 ≡ n
less_one n = omega arith

cut_at : (text : List ℕ) (k : ℕ) → k < length (held text) → IsCutIn text (held text) k
cut_at text k within =
    let blocks = source_texts text in
    let preface = preface_of text in
    let same : held text ≡ blocks = not_refused (source_refusal text) blocks k within in
    let cut = each_has_cut (with_last_newline text) in
    let inside : k < length blocks = subst (λ (b : List (List ℕ)). k < length b) same within in
    let whole : text ++ missing_newline text ≡ (preface ++ concat (take k blocks)) ++ (text_at blocks k ++ concat (drop (suc k) blocks)) =
    sym (ended_with text) ∙ cut.whole ∙ ap (λ (t : List ℕ). preface ++ t) (concat_cut blocks k inside)
    ∙ sym (append_assoc preface (concat (take k blocks)) (text_at blocks k ++ concat (drop (suc k) blocks))) in
    let lines : line_count (preface ++ concat (take k blocks)) ≡ head_line text + sum_by line_count (take k blocks) =
    lines_add preface (concat (take k blocks)) ∙ ap₂ (λ (a b : ℕ). a + b) (sym (less_one (line_count preface))) (lines_of_all (take k blocks)) in
    subst (λ (b : List (List ℕ)). IsCutIn text b k) (sym same)
    (record {
      whole = whole;
      ends = last_both 10 preface (concat (take k blocks)) ∙ ends_before (last_byte 10 preface) blocks k inside cut.each;
      lines = lines;
    })

-- ---- the text around the block of a place

-- the text, with the newline that it may lack, is this front, the block of the spot, which begins on
-- the line after the front, and this back
pub record IsAround (text : List ℕ) (spot : Spot) : Type 0 where
  pub front : List ℕ
  pub back : List ℕ
  pub whole : text ++ missing_newline text ≡ front ++ (text_at (held text) spot.at ++ back)
  pub ends : last_byte 10 front ≡ 10
  pub line : spot.line ≡ line_count front
  pub one : last_byte 10 (text_at (held text) spot.at) ≡ 10

pub around : HeldBlocksFit → (text : List ℕ) (place : Position) (spot : Spot) → spot_at text place ≡ Some spot → IsAround text spot
around fit text place spot e =
    let blocks = held text in
    let at = spot.at in
    let s = spot_is 0 (head_line text) (settled text place) blocks spot e in
    let same : at ≡ s.place = s.is ∙ zero-add s.place in
    let inside = s.within in
    let within : at < length blocks = omega (arith, same, inside) in
    let cut = cut_at text at within in
    record {
      front = preface_of text ++ concat (take at blocks);
      back = concat (drop (suc at) blocks);
      whole = cut.whole;
      ends = cut.ends;
      line = s.line ∙ ap (λ (k : ℕ). head_line text + sum_by line_count (take k blocks)) (sym same) ∙ sym cut.lines;
      one = block_ends (text_at blocks at) (subst OneBlock (sym (text_got blocks at within)) ((fit text).1 at [] within).1);
    }

record IsPlace (block : List ℕ) (offset : ℕ) : Type 0 where
  within : offset < length block
  start : is_start 0 block offset ≡ true

place_is : (block : List ℕ) (offset : ℕ) → is_place block offset ≡ true → IsPlace block offset
place_is block offset is = let both = and_parts _ _ is in record { within = ltb-true offset (length block) both.0; start = both.1 }

-- the text once a part of a block is exchanged where its ends are, if the block begins on that line
pub applied_on : (text more front block back : List ℕ) (line : ℕ) (part : Part) (new : List ℕ) → IsMissing more → text ++ more ≡ front ++ (block ++ back)
    → line ≡ line_count front → last_byte 10 front ≡ 10 → last_byte 10 block ≡ 10 → part.start ≤ part.end
    → is_place block part.start ≡ true → is_place block part.end ≡ true
    → spliced text (offset_of text (range_in line block part).start) (offset_of text (range_in line block part).end) new ++ more
    ≡ front ++ (exchanged block part new ++ back)
applied_on text more front block back line part new missing whole counts ends one forward from to =
    let size = length front in
    let first = place_is block part.start from in
    let last = place_is block part.end to in
    let within = last.within in
    let few = missing_size more missing in
    let total : length text + length more ≡ size + (length block + length back) =
    sym (length-append text more) ∙ ap length whole ∙ length-append front (block ++ back) ∙ ap (λ (n : ℕ). size + n) (length-append block back) in
    let start = leads text more front block back part.start missing whole ends one first.within first.start in
    let end = leads text more front block back part.end missing whole ends one last.within last.start in
    let there : spliced text (offset_of text (range_in (line_count front) block part).start) (offset_of text (range_in (line_count front) block part).end) new
    ≡ spliced text (size + part.start) (size + part.end) new = ap₂ (λ (a b : ℕ). spliced text a b new) start end in
    let made = ap (λ (t : List ℕ). t ++ more) there
    ∙ sym (spliced_more text more new (size + part.start) (size + part.end) (omega (arith, forward)) (omega (arith, within, total, few)))
    ∙ ap (λ (t : List ℕ). spliced t (size + part.start) (size + part.end) new) whole
    ∙ spliced_in front block back part new forward (omega (arith, within)) in
    subst (λ (l : ℕ). spliced text (offset_of text (range_in l block part).start) (offset_of text (range_in l block part).end) new ++ more
    ≡ front ++ (exchanged block part new ++ back)) (sym counts) made

-- ---- the offset of a place in its block

line_inside : (text : List ℕ) (line : ℕ) → line_start text line ≤ length text
line_inside [] line = omega arith
line_inside (byte ∷ bytes) line =
    let more = line_inside bytes (lines_left line byte) in
    elim (cases_Bool (line == 0)) [
      | inl first ↦ let is : line_start (byte ∷ bytes) line ≡ 0 = rw first refl in omega (arith, is)
      | inr later ↦ let is : line_start (byte ∷ bytes) line ≡ suc (line_start bytes (lines_left line byte)) = rw later refl in omega (arith, is, more)
    ]

column_inside : (text : List ℕ) (column : ℕ) → column_offset text column ≤ length text
column_inside [] column = omega arith
column_inside (byte ∷ bytes) column =
    let more = column_inside bytes (column - units byte) in
    elim (cases_Bool (nat_lt column (units byte) || ends_line (byte ∷ bytes))) [
      | inl here ↦ let is : column_offset (byte ∷ bytes) column ≡ 0 = rw here refl in omega (arith, is)
      | inr later ↦ let is : column_offset (byte ∷ bytes) column ≡ suc (column_offset bytes (column - units byte)) = rw later refl in omega (arith, is, more)
    ]

offset_inside : (text : List ℕ) (place : Position) → offset_of text place ≤ length text
offset_inside text place =
    let start = line_start text place.line in
    let line = line_inside text place.line in
    let column = column_inside (drop start text) place.column in
    omega (arith, line, column, length-drop start text)

spot_inside : (at first : ℕ) (p : Position) (all blocks : List (List ℕ)) (spot : Spot) → ((k : ℕ) → text_at all (at + k) ≡ text_at blocks k)
    → spot_from at first p blocks ≡ Some spot → spot.offset ≤ length (text_at all spot.at)
spot_inside at first p all [] spot same e = absurd cc
spot_inside at first p all (block ∷ blocks) spot same e =
    elim (cases_Bool (nat_lt p.line first)) [
      | inl t ↦ let none : None ≡ Some spot = rw t at e in absurd cc
      | inr f ↦
          elim (cases_Bool (nat_lt p.line (first + line_count block))) [
            | inl t ↦
                let is = same_Some _ spot (rw (f, t) at e) in
                let text : text_at all at ≡ block = ap (text_at all) (omega arith) ∙ same 0 in
                let here : offset_in first block p ≤ length (text_at all at) =
                subst (λ (b : List ℕ). offset_in first block p ≤ length b) (sym text) (offset_inside block _) in
                subst (λ (s : Spot). s.offset ≤ length (text_at all s.at)) is here
            | inr g ↦
                spot_inside (suc at) (first + line_count block) p all blocks spot (λ k. ap (text_at all) (omega arith) ∙ same (suc k)) (rw (f, g) at e)
          ]
    ]

-- it is in the block or at its end
pub spot_offset : (text : List ℕ) (place : Position) (spot : Spot) → spot_at text place ≡ Some spot → spot.offset ≤ length (text_at (held text) spot.at)
spot_offset text place spot e =
    let blocks = held text in
    spot_inside 0 (head_line text) (settled text place) blocks blocks spot (λ k. ap (text_at blocks) (zero-add k)) e
