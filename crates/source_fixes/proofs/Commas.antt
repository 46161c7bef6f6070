-- A comma that is offered makes one text of its block two, in the text as the client has it after the
-- edit.
use Rattle.std.proofs.Common.{◌≡◌, ◌≢◌, ℕ, zero, suc, ◌+◌, ◌<◌, ◌≤◌, ◌==◌, Bool, true, false, cond, Contains, List, [], ◌∷◌, ◌++◌}
use Rattle.std.proofs.Common.{drop, get_or, length, take, Option, None, Some, sum_by, inl, inr, refl, sym, ap, subst, ◌∙◌, arith, zero-add}
use Rattle.std.specs.List.{concat, slice_range}
use Rattle.std.specs.Option.{option_map_or}
use Rattle.std.proofs.lemmas.Bool.{and_parts, cases_Bool, eq-eqb, eqb-true, false≢true, leb-true, ltb-true}
use Rattle.std.proofs.lemmas.List.{take-append-drop}
use Rattle.ti_text.specs.Lines.{line_count}
use Rattle.ti_text.specs.Texts.{last_byte}
use Rattle.ti_source.specs.Cutting.{HasNoHead, OneBlock, begins_head, blocks_from_head}
use Rattle.tools_sources.specs.Sources.{preface_of}
use Rattle.source_types.specs.declared.places.Range.{Range}
use Rattle.source_spans.specs.Folding.{folded_of}
use Rattle.source_spans.specs.declared.parts.Part.{Part}
use Rattle.source_block_hints.specs.Blocks.{block_hints}
use Rattle.source_block_hints.specs.declared.hint.Hint.{Hint}
use Rattle.source_block_hints.specs.declared.hint.HintKind.{HintKind}
use Rattle.source_document.specs.Diagnostics.{text_at}
use Rattle.source_document.specs.Documents.{HeldBlocksFit, held}
use Rattle.source_blocks.specs.Spots.{head_line, range_in, settled, spot_at}
use Rattle.source_blocks.specs.declared.spots.Spot.{Spot}
use Rattle.source_blocks.proofs.Outlines.{text_got}
use Rattle.source_blocks.proofs.Placing.{ended_with}
use Rattle.source_keeping.specs.Keeping.{EditsInLinesKeepLines, goes_on_line, open_line, stays_in_line}
use Rattle.source_edits.specs.Edits.{EditSeen, advises_caret}
use Rattle.source_fixes.specs.Commas.{CommasPart, IsParting, with_comma}
use Rattle.source_fixes.specs.Fixes.{fix_of, stretch_to}
use Rattle.source_fixes.specs.HintFixes.{against_hint, can_be_put, comma_at, hint_fixes_from, hint_part, if_touched, is_offered, parts_text, touches_hint}
use Rattle.source_fixes.specs.Parting.{texts_of}
use Rattle.source_fixes.specs.declared.hint_fixes.HintFix.{HintFix}
use Rattle.source_fixes.proofs.FixesMend.{IsMade, block_ends, blocks_with, cut_at, made_at, of_one, placed_part, spot_is}
use Rattle.source_fixes.proofs.Parts.{parted_is}
use Rattle.source_fixes.proofs.Staying.{back_none, both_none, front_none, last_both, not_head, one_of, other_none}

-- ---- a block with a comma in it

some_left : (n : ℕ) (text : List ℕ) → n < length text → (x : ℕ) × (xs : List ℕ) × (drop n text ≡ x ∷ xs)
some_left n [] within = absurd (omega (arith, within))
some_left zero (x ∷ xs) within = (x, xs, refl)
some_left (suc n) (x ∷ xs) within = some_left n xs (omega (arith, within))

-- the last byte of what is left does not depend on what is before it
last_left : (one other : ℕ) (rest : List ℕ) → ((x : ℕ) × (xs : List ℕ) × (rest ≡ x ∷ xs)) → last_byte one rest ≡ last_byte other rest
last_left one other rest some = ap (last_byte one) some.2 ∙ sym (ap (last_byte other) some.2)

one_with : (h : ℕ) (text : List ℕ) (start end : ℕ) → begins_head h ≡ true → HasNoHead h text → last_byte h text ≡ 10 → end < length text
    → (last_byte h (take start text) == 10) ≡ false → OneBlock (take (suc start) (h ∷ text) ++ (44 ∷ []) ++ drop (suc end) (h ∷ text))
one_with h text start end head none ends within plain =
    let front = take start text in
    let back = drop end text in
    let fronted = front ++ 44 ∷ [] in
    let comma : last_byte h fronted ≡ 44 = last_both h front (44 ∷ []) in
    let before = front_none h front (drop start text) (subst (HasNoHead h) (sym (take-append-drop start text)) none) in
    let after = back_none h (take end text) back (subst (HasNoHead h) (sym (take-append-drop end text)) none) in
    let was : last_byte (last_byte h (take end text)) back ≡ 10 =
    sym (last_both h (take end text) back) ∙ ap (last_byte h) (take-append-drop end text) ∙ ends in
    one_of h (fronted ++ back) (take (suc start) (h ∷ text) ++ (44 ∷ []) ++ drop (suc end) (h ∷ text)) head refl
    (record {
      none = both_none h fronted back (both_none h front (44 ∷ []) before (not_head (last_byte h front) 44 plain, tt))
          (subst (λ (n : ℕ). HasNoHead n back) (sym comma) (other_none (last_byte h (take end text)) 44 back refl after));
      last = last_both h fronted back ∙ last_left (last_byte h fronted) (last_byte h (take end text)) back (some_left end text within) ∙ was;
    })

by_ends : (h : ℕ) (text : List ℕ) (start end : ℕ) → OneBlock (h ∷ text) → start ≤ end → end < length (h ∷ text)
    → (last_byte 10 (take start (h ∷ text)) == 10) ≡ false
    → OneBlock (take start (h ∷ text) ++ (44 ∷ []) ++ drop end (h ∷ text))
by_ends h text zero end single forward within plain = absurd (false≢true (sym plain))
by_ends h text (suc start) zero single forward within plain = absurd (omega (arith, forward))
by_ends h text (suc start) (suc end) single forward within plain =
    one_with h text start end single.cut.each.1.0 single.cut.each.1.1 single.ends (omega (arith, within)) plain

comma_one : (block : List ℕ) (part : Part) → OneBlock block → part.start ≤ part.end → part.end < length block
    → (last_byte 10 (take part.start block) == 10) ≡ false
    → OneBlock (with_comma block part)
comma_one [] part single forward within plain = absurd single.cut.each.1
comma_one (h ∷ text) part single forward within plain = by_ends h text part.start part.end single forward within plain

-- ---- the line that it is on

ended_line : (line text : List ℕ) (before : ℕ) → (before ≡ 10 → line ≡ []) → last_byte before text ≡ 10 → open_line line text ≡ []
ended_line line [] before start ends = start ends
ended_line line (x ∷ xs) before start ends =
    elim (cases_Bool (x == 10)) [
      | inl t ↦ rw t (ended_line [] xs x (λ e. refl) ends)
      | inr f ↦ rw f (ended_line (line ++ x ∷ []) xs x (λ e. let no = eq-eqb x 10 e in absurd (false≢true (sym f ∙ no))) ends)
    ]

kept_at_start : (line : List ℕ) → line ≡ [] → goes_on_line line [] ≡ false
kept_at_start line e = ap (λ (l : List ℕ). goes_on_line l []) e

-- no line begins after something that is seen on its line
goes_after : (text : List ℕ) (start : ℕ) → stays_in_line text start start [] ≡ true → (last_byte 10 (take start text) == 10) ≡ false
goes_after text start stays =
    elim (cases_Bool (last_byte 10 (take start text) == 10)) [
      | inl t ↦
          let line = open_line [] (take start text) in
          let none : line ≡ [] = ended_line [] (take start text) 10 (λ e. refl) (eqb-true (last_byte 10 (take start text)) 10 t) in
          let on = (and_parts (goes_on_line line (slice_range text start start)) (goes_on_line line []) stays).1 in
          absurd (false≢true (sym (kept_at_start line none) ∙ on))
      | inr f ↦ f
    ]

ends_in_comma : (front : List ℕ) → last_byte 10 (front ++ 44 ∷ []) ≢ 10
ends_in_comma front e = absurd (false≢true (eq-eqb 44 10 (sym (last_both 10 front (44 ∷ [])) ∙ e)))

-- ---- what is offered

record IsOffered (line : ℕ) (block : List ℕ) (kind : HintKind) (fix : HintFix) : Type 0 where
  part : Part
  is : fix ≡ record { kind = kind; range = range_in line block part }
  put : can_be_put block part ≡ true
  parts : parts_text block part ≡ true

one_there : (x y : HintFix) (i : ℕ) → i < length (x ∷ []) → get_or (x ∷ []) i y ≡ y → y ≡ x
one_there x y zero within is = sym is
one_there x y (suc i) within is = absurd (omega (arith, within))

if_offered : (line : ℕ) (block : List ℕ) (kind : HintKind) (part : Part) (fix : HintFix) (b : Bool) → is_offered block part ≡ b
    → Contains (cond b (record { kind = kind; range = range_in line block part } ∷ []) []) fix → IsOffered line block kind fix
if_offered line block kind part fix false e has = let less = has.1 in absurd (omega (arith, less))
if_offered line block kind part fix true e has =
    let parts = and_parts (can_be_put block part) (parts_text block part) e in
    record { part = part; is = one_there _ fix has.0 has.1 has.2; put = parts.0; parts = parts.1 }

by_part : (line : ℕ) (block : List ℕ) (kind : HintKind) (o : Option Part) (fix : HintFix) → Contains (comma_at line block kind o) fix
    → IsOffered line block kind fix
by_part line block kind None fix has = let less = has.1 in absurd (omega (arith, less))
by_part line block kind (Some part) fix has = if_offered line block kind part fix (is_offered block part) refl has

when_touched : (line : ℕ) (block : List ℕ) (hint : Hint) (fix : HintFix) (b : Bool) → Contains (cond b (against_hint line block hint) []) fix
    → IsOffered line block hint.kind fix
when_touched line block hint fix false has = let less = has.1 in absurd (omega (arith, less))
when_touched line block hint fix true has = by_part line block hint.kind (hint_part (folded_of block) hint) fix has

-- ---- the text

by_spot : HeldBlocksFit → EditsInLinesKeepLines → (text : List ℕ) (range : Range) (fix : HintFix) (o : Option Spot) → spot_at text range.start ≡ o
    → Contains (option_map_or (hint_fixes_from (held text) range.end) o []) fix → IsParting text fix
by_spot fit keeps text range fix None e has = let less = has.1 in absurd (omega (arith, less))
by_spot fit keeps text range fix (Some spot) e has =
    let blocks = held text in
    let at = spot.at in
    let s = spot_is 0 (head_line text) (settled text range.start) blocks spot e in
    let same : at ≡ s.place = s.is ∙ zero-add s.place in
    let inside = s.within in
    let within : at < length blocks = omega (arith, same, inside) in
    let cut = cut_at text at within in
    let front = preface_of text ++ concat (take at blocks) in
    let back = concat (drop (suc at) blocks) in
    let block = text_at blocks at in
    let line : spot.line ≡ line_count front = s.line ∙ ap (λ (k : ℕ). head_line text + sum_by line_count (take k blocks)) (sym same) ∙ sym cut.lines in
    let single : OneBlock block = subst OneBlock (sym (text_got blocks at within)) ((fit text).1 at [] within).1 in
    let stretch = stretch_to block range.end spot in
    let one = of_one (if_touched spot.line block stretch) (block_hints block) fix has in
    let hint = one.of in
    let offered = when_touched spot.line block hint fix (touches_hint stretch hint) one.is in
    let part = offered.part in
    let can = and_parts _ _ offered.put in
    let order = and_parts _ _ can.1 in
    let stays = and_parts _ _ order.1 in
    let forward : part.start ≤ part.end = leb-true part.start part.end order.0 in
    let to_end = ltb-true part.end (length block) (and_parts _ _ (and_parts _ _ can.0).1).0 in
    let edit : EditSeen = record { advice = advises_caret; part = part; text = 44 ∷ [] } in
    let now : IsMade text front block back edit (fix_of spot.line block edit) =
    made_at keeps text front block back spot.line edit cut.whole line cut.ends (block_ends block single)
    (placed_part block part can.0 (forward, omega (arith, to_end))) (ends_in_comma (take part.start block)) forward stays.0 in
    let set = blocks_with text at (with_comma block part) within single (comma_one block part single forward to_end (goes_after block part.start stays.1)) in
    subst (IsParting text) (sym offered.is) (record {
      at = at;
      hint = hint;
      part = part;
      front = front;
      back = back;
      found = one.has;
      against = refl;
      before = refl;
      whole = sym (ended_with text) ∙ cut.whole;
      parted = parted_is (texts_of block) (texts_of (with_comma block part)) offered.parts;
      applied = now.applied;
      cut = ap (blocks_from_head 10) (now.ended_so set.ends) ∙ set.blocks;
      lines = now.lines;
    })

pub commas_part : HeldBlocksFit → EditsInLinesKeepLines → CommasPart
commas_part fit keeps text range fix has = by_spot fit keeps text range fix (spot_at text range.start) refl has
