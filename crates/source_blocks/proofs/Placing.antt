-- The place of an offset of a block in a text that holds the block and may lack its last newline,
-- and the text once a part of the block is exchanged there.
use Rattle.std.proofs.Common.{◌≡◌, ◌⊎◌, ℕ, zero, suc, ◌+◌, ◌<◌, ◌≤◌, ◌==◌, ◌&&◌, true, false, List, [], ◌∷◌, ◌++◌, append_assoc, drop, length, max, take}
use Rattle.std.proofs.Common.{inl, inr, refl, sym, ap, ap₂, subst, ◌∙◌, arith, zero-add}
use Rattle.std.proofs.Math.Nat.{max-eq_right}
use Rattle.std.proofs.Math.Seq.{drop-append-add, take-append-add}
use Rattle.std.proofs.lemmas.Bool.{cases_Bool, eq-eqb}
use Rattle.std.proofs.lemmas.List.{append-nil, drop-append-le, length-append, take-append-le}
use Rattle.ti_text.specs.Lines.{line_count}
use Rattle.ti_text.specs.Texts.{last_byte}
use Rattle.tools_sources.specs.Sources.{with_last_newline}
use Rattle.source_types.specs.declared.places.Position.{Position}
use Rattle.source_spans.specs.Replacing.{exchanged}
use Rattle.source_spans.specs.declared.parts.Part.{Part}
use Rattle.source_places.specs.Position.{begins_with_newline, is_start, offset_of, place_after, position_of, step_over}
use Rattle.source_places.specs.Splicing.{spliced}
use Rattle.source_places.proofs.Measuring.{count_newline, count_plain}
use Rattle.source_places.proofs.Places.{inverse, step_newline, step_plain, step_return}
use Rattle.source_blocks.specs.Places.{missing_newline}

-- a place
abbrev pub place : ℕ → ℕ → Position
place line column = record { line = line; column = column }

-- ---- past the text before a block, which ends a line

-- what a step past a byte does, by the byte
record IsStep (byte : ℕ) (line : ℕ) (next : Position) (count rest : ℕ) : Type 0 where
  lines : next.line + rest ≡ line + count
  start : byte ≡ 10 → next.column ≡ 0

step_is : (byte : ℕ) (bytes : List ℕ) (line column : ℕ) (text : List ℕ)
    → IsStep byte line (step_over (byte ∷ bytes) (place line column)) (line_count (byte ∷ text)) (line_count text)
step_is byte bytes line column text =
    let P : Position → Type 0 = λ p. IsStep byte line p (line_count (byte ∷ text)) (line_count text) in
    elim (cases_Bool (byte == 10)) [
      | inl newline ↦
          subst P (sym (step_newline byte bytes line column newline))
          (record { lines = let count = count_newline byte text newline in omega (arith, count); start = λ e. refl })
      | inr plain ↦
          let same = count_plain byte text plain in
          let never : byte ≡ 10 → ⊥ = λ e. let yes = eq-eqb byte 10 e in cc in
          elim (cases_Bool (byte == 13 && begins_with_newline bytes)) [
            | inl return ↦ subst P (sym (step_return byte bytes line column plain return))
                (record { lines = omega (arith, same); start = λ e. absurd (never e) })
            | inr inside ↦ subst P (sym (step_plain byte bytes line column plain inside))
                (record { lines = omega (arith, same); start = λ e. absurd (never e) })
          ]
    ]

past : (before : ℕ) (front rest : List ℕ) (p : Position) (offset : ℕ) → last_byte before front ≡ 10 → (before ≡ 10 → p.column ≡ 0)
    → place_after p (front ++ rest) (length front + offset) ≡ place_after (place (p.line + line_count front) 0) rest offset
past before [] rest p offset last start =
    let line : p.line ≡ p.line + line_count [] = omega (arith, no_lines) in
    ap (place_after p rest) (zero-add offset) ∙ ap₂ (λ (l c : ℕ). place_after (place l c) rest offset) line (start last)
  where
    no_lines : line_count [] ≡ 0
    no_lines = refl
past before (byte ∷ bytes) rest p offset last start =
    let next = step_over (byte ∷ (bytes ++ rest)) p in
    let step = step_is byte (bytes ++ rest) p.line p.column bytes in
    let more : length (byte ∷ bytes) + offset ≡ suc (length bytes + offset) = omega arith in
    ap (place_after p (byte ∷ (bytes ++ rest))) more ∙ past byte bytes rest next offset last step.start
    ∙ ap (λ (l : ℕ). place_after (place l 0) rest offset) step.lines

-- ---- in a block, which ends a line

same_step : (byte : ℕ) (bytes back : List ℕ) (p : Position) → last_byte byte bytes ≡ 10 → step_over (byte ∷ (bytes ++ back)) p ≡ step_over (byte ∷ bytes) p
same_step byte [] back p last = let newline = eq-eqb byte 10 last in rw newline refl
same_step byte (x ∷ xs) back p last = refl

within_block : (before : ℕ) (block back : List ℕ) (p : Position) (offset : ℕ) → last_byte before block ≡ 10 → offset ≤ length block
    → place_after p (block ++ back) offset ≡ place_after p block offset
within_block before [] [] p offset last less = refl
within_block before [] (y ∷ ys) p zero last less = refl
within_block before [] (y ∷ ys) p (suc offset) last less = absurd (omega (arith, less))
within_block before (byte ∷ bytes) back p zero last less = refl
within_block before (byte ∷ bytes) back p (suc offset) last less =
    ap (λ (q : Position). place_after q (bytes ++ back) offset) (same_step byte bytes back p last)
    ∙ within_block byte bytes back (step_over (byte ∷ bytes) p) offset last (omega (arith, less))

-- lines are counted on from the first
moved_step : (byte : ℕ) (bytes : List ℕ) (line : ℕ) (p : Position) → step_over (byte ∷ bytes) (place (line + p.line) p.column)
    ≡ place (line + (step_over (byte ∷ bytes) p).line) (step_over (byte ∷ bytes) p).column
moved_step byte bytes line p =
    let P : Position → Type 0 = λ q. step_over (byte ∷ bytes) (place (line + p.line) p.column) ≡ place (line + q.line) q.column in
    elim (cases_Bool (byte == 10)) [
      | inl newline ↦
          subst P (sym (step_newline byte bytes p.line p.column newline))
          (step_newline byte bytes (line + p.line) p.column newline ∙ ap (λ (l : ℕ). place l 0) (omega arith))
      | inr plain ↦
          elim (cases_Bool (byte == 13 && begins_with_newline bytes)) [
            | inl return ↦ subst P (sym (step_return byte bytes p.line p.column plain return)) (step_return byte bytes (line + p.line) p.column plain return)
            | inr inside ↦ subst P (sym (step_plain byte bytes p.line p.column plain inside)) (step_plain byte bytes (line + p.line) p.column plain inside)
          ]
    ]

moved : (line : ℕ) (p : Position) (text : List ℕ) (offset : ℕ) → place_after (place (line + p.line) p.column) text offset
    ≡ place (line + (place_after p text offset).line) (place_after p text offset).column
moved line p [] offset = refl
moved line p (byte ∷ bytes) zero = refl
moved line p (byte ∷ bytes) (suc offset) =
    ap (λ (q : Position). place_after q bytes offset) (moved_step byte bytes line p) ∙ moved line (step_over (byte ∷ bytes) p) bytes offset

-- ---- in a text

-- the place of an offset of a block that is after this front
pub placed_in : (front block back : List ℕ) (offset : ℕ) → last_byte 10 front ≡ 10 → last_byte 10 block ≡ 10 → offset ≤ length block
    → position_of (front ++ (block ++ back)) (length front + offset) ≡ place (line_count front + (position_of block offset).line)
    (position_of block offset).column
placed_in front block back offset ends one within =
    let lines = line_count front in
    past 10 front (block ++ back) (place 0 0) offset ends (λ e. refl) ∙ within_block 10 block back (place (0 + lines) 0) offset one within
    ∙ ap (λ (l : ℕ). place_after (place l 0) block offset) (omega arith) ∙ moved lines (place 0 0) block offset

-- ---- a text that may lack its last newline

-- what a text may lack
abbrev pub IsMissing : List ℕ → Type 0
IsMissing more = (more ≡ []) ⊎ (more ≡ 10 ∷ [])

step_ended : (x : ℕ) (p : Position) → is_start x (10 ∷ []) 0 ≡ true → step_over (x ∷ 10 ∷ []) p ≡ step_over (x ∷ []) p
step_ended x p start =
    elim (cases_Bool (x == 13)) [
      | inr f ↦ rw f refl
      | inl t ↦ let no = rw t at start in absurd cc
    ]

-- the newline moves no place before it
place_ended : (before : ℕ) (text : List ℕ) (p : Position) (offset : ℕ) → offset ≤ length text → is_start before (text ++ 10 ∷ []) offset ≡ true
    → place_after p (text ++ 10 ∷ []) offset ≡ place_after p text offset
place_ended before [] p zero within start = refl
place_ended before [] p (suc offset) within start = absurd (omega (arith, within))
place_ended before (x ∷ xs) p zero within start = refl
place_ended before (x ∷ []) p (suc zero) within start = step_ended x p start
place_ended before (x ∷ []) p (suc (suc offset)) within start = absurd (omega (arith, within))
place_ended before (x ∷ y ∷ ys) p (suc offset) within start = place_ended x (y ∷ ys) (step_over (x ∷ y ∷ ys) p) offset (omega (arith, within)) start

start_ended : (before : ℕ) (text : List ℕ) (offset : ℕ) → is_start before (text ++ 10 ∷ []) offset ≡ true → is_start before text offset ≡ true
start_ended before [] offset start = refl
start_ended before (x ∷ xs) zero start = start
start_ended before (x ∷ xs) (suc offset) start = start_ended x xs offset start

-- a place of the text with it leads to its offset in the text without it
leads_missing : (text more : List ℕ) (offset : ℕ) → IsMissing more → offset ≤ length text → is_start 0 (text ++ more) offset ≡ true
    → offset_of text (position_of (text ++ more) offset) ≡ offset
leads_missing text more offset missing within start =
    elim missing [
      | inl none ↦
          let same : text ++ more ≡ text = ap (λ (m : List ℕ). text ++ m) none ∙ append-nil text in
          ap (λ (t : List ℕ). offset_of text (position_of t offset)) same
          ∙ inverse text offset within (subst (λ (t : List ℕ). is_start 0 t offset ≡ true) same start)
      | inr newline ↦
          let there : is_start 0 (text ++ 10 ∷ []) offset ≡ true = subst (λ (m : List ℕ). is_start 0 (text ++ m) offset ≡ true) newline start in
          ap (λ (m : List ℕ). offset_of text (position_of (text ++ m) offset)) newline
          ∙ ap (offset_of text) (place_ended 0 text (place 0 0) offset within there)
          ∙ inverse text offset within (start_ended 0 text offset there)
    ]

pub missing_size : (more : List ℕ) → IsMissing more → length more ≤ 1
missing_size more missing =
    let none_size : 0 ≤ 1 = omega arith in
    let one_size : 1 ≤ 1 = omega arith in
    elim missing [
      | inl none ↦ subst (λ (m : List ℕ). length m ≤ 1) (sym none) none_size
      | inr newline ↦ subst (λ (m : List ℕ). length m ≤ 1)
          (sym newline) one_size
    ]

-- ---- starts of characters

start_front : (before : ℕ) (text back : List ℕ) (offset : ℕ) → offset < length text → is_start before (text ++ back) offset ≡ is_start before text offset
start_front before [] back offset within = absurd (omega (arith, within))
start_front before (x ∷ xs) back zero within = refl
start_front before (x ∷ xs) back (suc offset) within = start_front x xs back offset (omega (arith, within))

start_past : (before : ℕ) (front rest : List ℕ) (offset : ℕ) → is_start before (front ++ rest) (length front + offset)
    ≡ is_start (last_byte before front) rest offset
start_past before [] rest offset = ap (is_start before rest) (zero-add offset)
start_past before (x ∷ xs) rest offset =
    let more : length (x ∷ xs) + offset ≡ suc (length xs + offset) = omega arith in
    ap (is_start before (x ∷ (xs ++ rest))) more ∙ start_past x xs rest offset

no_return : (front : List ℕ) → last_byte 10 front ≡ 10 → (last_byte 0 front == 13) ≡ false
no_return [] ends = refl
no_return (x ∷ xs) ends = ap (λ (b : ℕ). b == 13) ends

start_after : (before : ℕ) (block : List ℕ) (offset : ℕ) → (before == 13) ≡ false → is_start 0 block offset ≡ true → is_start before block offset ≡ true
start_after before [] offset other start = refl
start_after before (x ∷ xs) zero other start = rw other start
start_after before (x ∷ xs) (suc offset) other start = start

-- the start of a character in a block is one in the text
start_in : (front block back : List ℕ) (offset : ℕ) → last_byte 10 front ≡ 10 → offset < length block → is_start 0 block offset ≡ true
    → is_start 0 (front ++ (block ++ back)) (length front + offset) ≡ true
start_in front block back offset ends within start =
    start_past 0 front (block ++ back) offset ∙ start_front (last_byte 0 front) block back offset within
    ∙ start_after (last_byte 0 front) block offset (no_return front ends) start

-- the place of an offset of a block leads to that offset in the text
pub leads : (text more front block back : List ℕ) (offset : ℕ) → IsMissing more → text ++ more ≡ front ++ (block ++ back) → last_byte 10 front ≡ 10
    → last_byte 10 block ≡ 10
    → offset < length block → is_start 0 block offset ≡ true
    → offset_of text (place (line_count front + (position_of block offset).line) (position_of block offset).column) ≡ length front + offset
leads text more front block back offset missing whole ends one within start =
    let all = front ++ (block ++ back) in
    let at = length front + offset in
    let size : length text + length more ≡ length front + (length block + length back) =
    sym (length-append text more) ∙ ap length whole ∙ length-append front (block ++ back) ∙ ap (λ (n : ℕ). length front + n) (length-append block back) in
    let few = missing_size more missing in
    let inside : at ≤ length text = omega (arith, within, size, few) in
    let there : is_start 0 (text ++ more) at ≡ true = ap (λ (t : List ℕ). is_start 0 t at) whole ∙ start_in front block back offset ends within start in
    ap (offset_of text) (sym (ap (λ (t : List ℕ). position_of t at) whole ∙ placed_in front block back offset ends one (omega (arith, within))))
    ∙ leads_missing text more at missing inside there

pub spliced_more : (text more new : List ℕ) (start end : ℕ) → start ≤ end → end ≤ length text
    → spliced (text ++ more) start end new ≡ spliced text start end new ++ more
spliced_more text more new start end forward within =
    let most : max start end ≤ length text = subst (λ (n : ℕ). n ≤ length text) (sym (max-eq_right forward)) within in
    ap₂ (λ (a b : List ℕ). (a ++ new) ++ b) (take-append-le start text more (omega (arith, forward, within))) (drop-append-le (max start end) text more most)
    ∙ sym (append_assoc (take start text ++ new) (drop (max start end) text) more)

pub spliced_in : (front block back : List ℕ) (part : Part) (new : List ℕ) → part.start ≤ part.end → part.end ≤ length block
    → spliced (front ++ (block ++ back)) (length front + part.start) (length front + part.end) new ≡ front ++ (exchanged block part new ++ back)
spliced_in front block back part new from_start to_end =
    let size = length front in
    let text = front ++ (block ++ back) in
    let first : take (size + part.start) text ≡ front ++ take part.start block =
    take-append-add front (block ++ back) part.start
    ∙ ap (λ (t : List ℕ). front ++ t) (take-append-le part.start block back (omega (arith, from_start, to_end))) in
    let most : max (size + part.start) (size + part.end) ≡ size + part.end = max-eq_right (omega (arith, from_start)) in
    let last : drop (max (size + part.start) (size + part.end)) text ≡ drop part.end block ++ back =
    ap (λ (n : ℕ). drop n text) most ∙ drop-append-add front (block ++ back) part.end ∙ drop-append-le part.end block back to_end in
    ap₂ (λ (a b : List ℕ). a ++ new ++ b) first last ∙ regrouped front (take part.start block) new (drop part.end block) back
  where
    regrouped : (front one new other back : List ℕ) → ((front ++ one) ++ new) ++ (other ++ back) ≡ front ++ (((one ++ new) ++ other) ++ back)
    regrouped front one new other back = simp append_assoc

-- ---- the newline that a text may lack

pub missing_is : (text : List ℕ) → IsMissing (missing_newline text)
missing_is text = elim (cases_Bool (last_byte 10 text == 10)) [ inl t ↦ rw t (inl refl) | inr f ↦ rw f (inr refl) ]

pub ended_with : (text : List ℕ) → with_last_newline text ≡ text ++ missing_newline text
ended_with text = elim (cases_Bool (last_byte 10 text == 10)) [ inl t ↦ rw t (sym (append-nil text)) | inr f ↦ rw f refl ]
