-- What a completion replaces is a part of the cursor's line.
use Rattle.std.proofs.Common.{◌≡◌, ℕ, zero, suc, ◌+◌, ◌-◌, ◌<◌, ◌≤◌, ◌==◌, ◌||◌, Bool, true, false, cond, inl, inr, List, [], ◌∷◌, ◌++◌, add-one, drop}
use Rattle.std.proofs.Common.{get_or, length, map, max, take, Option, None, Some, codes, option_and_then, option_map, refl, sym, subst, ap, ◌∙◌, zero-add}
use Rattle.std.proofs.Common.{arith}
use Rattle.std.specs.Prelude.{nat_lt}
use Rattle.std.specs.List.{list_any}
use Rattle.std.proofs.lemmas.Bool.{cases_Bool, ltb-false, ltb-true, ne_eqb}
use Rattle.std.proofs.lemmas.List.{length-take, take_more}
use Rattle.std.proofs.lemmas.Option.{same_Some}
use Rattle.ti_text.specs.Lines.{line_count}
use Rattle.ti_source.specs.Folding.{PlacedByte}
use Rattle.ti_source.specs.Items.{is_mark, without_front}
use Rattle.source_spans.specs.Folding.{folded_of}
use Rattle.source_spans.specs.Parts.{field_of, items_after, rest_of}
use Rattle.source_spans.specs.Subjects.{begins_with, items_of}
use Rattle.source_spans.specs.Words.{is_open, last_of, start_of, word_at_end, word_before, word_in, word_of}
use Rattle.source_spans.specs.declared.words.Word.{Word}
use Rattle.source_types.specs.declared.places.Position.{Position}
use Rattle.source_document.specs.Diagnostics.{text_at}
use Rattle.source_document.specs.Documents.{held}
use Rattle.source_places.specs.Position.{column_offset, ends_line, line_start, lines_left, offset_of, place_after, position_of, step_over, units}
use Rattle.source_blocks.specs.Spots.{head_line, offset_in, place_in, settled, spot_at, spot_from}
use Rattle.source_blocks.specs.Symbols.{IsUpTo}
use Rattle.source_blocks.specs.declared.spots.Spot.{Spot}
use Rattle.source_blocks.proofs.Selections.{rises_in}
use Rattle.source_features.specs.Completions.{CompletionSeen, CompletionsStayInTheLine, completion_for, completion_in, is_break, last_word}
use Rattle.source_names.proofs.Following.{PartsRise, Rise, drop_rises, front_rises, fronts_rise, halves, items_rise, rise_folded, rise_higher}
use Rattle.source_names.proofs.Following.{rise_lower, rise_up}
use Rattle.source_names.proofs.RenamesFollow.{lines_more}

or_no : (a b : Bool) → (a || b) ≡ false → (a ≡ false) × (b ≡ false)
or_no true b e = absurd cc
or_no false b e = (refl, e)

-- ---- where the last word begins

unbroken : (text : List ℕ) → list_any is_break text ≡ false → last_word text ≡ 0
unbroken [] e = refl
unbroken (byte ∷ bytes) e = rw e refl

word_by : (byte : ℕ) (bytes : List ℕ) (b : Bool) → list_any is_break (byte ∷ bytes) ≡ b → last_word (byte ∷ bytes) ≡ cond b (suc (last_word bytes)) 0
word_by byte bytes b e = rw e refl

pub none_left : (text : List ℕ) → last_word text ≤ 0 → list_any is_break text ≡ false
none_left [] le = refl
none_left (byte ∷ bytes) le =
    elim (cases_Bool (list_any is_break (byte ∷ bytes))) [
      | inl broken ↦ let is = word_by byte bytes true broken in absurd (omega arith)
      | inr whole ↦ whole
    ]

pub shorter : (byte : ℕ) (bytes : List ℕ) (n : ℕ) → last_word (byte ∷ bytes) ≤ suc n → last_word bytes ≤ n
shorter byte bytes n le =
    elim (cases_Bool (list_any is_break (byte ∷ bytes))) [
      | inl broken ↦ let is = word_by byte bytes true broken in omega arith
      | inr whole ↦ let is = unbroken bytes (or_no (is_break byte) (list_any is_break bytes) whole).1 in omega arith
    ]

pub word_within : (text : List ℕ) → last_word text ≤ length text
word_within [] = omega arith
word_within (byte ∷ bytes) =
    let more = word_within bytes in
    elim (cases_Bool (list_any is_break (byte ∷ bytes))) [
      | inl broken ↦ let is = word_by byte bytes true broken in omega arith
      | inr whole ↦ let is = word_by byte bytes false whole in omega arith
    ]

-- one more byte

or_unit : (c : Bool) → (c || false) ≡ cond c true false
or_unit true = refl
or_unit false = refl

or_more : (a b c : Bool) → (a || cond c true b) ≡ cond c true (a || b)
or_more true b true = refl
or_more true b false = refl
or_more false b c = refl

any-append : (text : List ℕ) (last : ℕ) → list_any is_break (text ++ last ∷ []) ≡ cond (is_break last) true (list_any is_break text)
any-append [] last = or_unit (is_break last)
any-append (byte ∷ bytes) last =
    ap (λ (b : Bool). is_break byte || b) (any-append bytes last) ∙ or_more (is_break byte) (list_any is_break bytes) (is_break last)

more_by : (byte : ℕ) (bytes : List ℕ) (last : ℕ) (now : ℕ) (old broken : Bool) → list_any is_break (byte ∷ bytes) ≡ old
    → now ≡ cond broken (suc (length bytes)) (last_word bytes) → cond (cond broken true old) (suc now) 0
    ≡ cond broken (suc (suc (length bytes))) (last_word (byte ∷ bytes))
more_by byte bytes last now old true p e = ap (λ (n : ℕ). suc n) e
more_by byte bytes last now true false p e = ap (λ (n : ℕ). suc n) e ∙ sym (word_by byte bytes true p)
more_by byte bytes last now false false p e = sym (word_by byte bytes false p)

pub word_more : (text : List ℕ) (last : ℕ) → last_word (text ++ last ∷ []) ≡ cond (is_break last) (suc (length text)) (last_word text)
word_more [] last = elim (cases_Bool (is_break last)) [ inl broken ↦ rw broken refl | inr whole ↦ rw whole refl ]
word_more (byte ∷ bytes) last =
    let any : list_any is_break ((byte ∷ bytes) ++ last ∷ []) ≡ cond (is_break last) true (list_any is_break (byte ∷ bytes)) =
    any-append (byte ∷ bytes) last in
    ap (λ (b : Bool). cond b (suc (last_word (bytes ++ last ∷ []))) 0) any
    ∙ more_by byte bytes last (last_word (bytes ++ last ∷ [])) (list_any is_break (byte ∷ bytes)) (is_break last) refl (word_more bytes last)

-- ---- lines

step_line : (newline ends : Bool) (place : Position) (n : ℕ)
    → (cond newline (record { line = place.line + 1; column = 0 }) (cond ends place (record { line = place.line; column = place.column + n }))).line
    ≡ place.line + cond newline 1 0
step_line true ends place n = refl
step_line false true place n = omega arith
step_line false false place n = omega arith

step_by : (byte : ℕ) (bytes : List ℕ) (place : Position) (b : Bool) → (byte == 10) ≡ b → (step_over (byte ∷ bytes) place).line ≡ place.line + cond b 1 0
step_by byte bytes place b e = step_line (byte == 10) (ends_line (byte ∷ bytes)) place (units byte) ∙ ap (λ (c : Bool). place.line + cond c 1 0) e

line_kept : (place : Position) (text : List ℕ) (offset : ℕ) → list_any is_break (take offset text) ≡ false → (place_after place text offset).line ≡ place.line
line_kept place [] offset e = refl
line_kept place (byte ∷ bytes) zero e = refl
line_kept place (byte ∷ bytes) (suc offset) e =
    let parts = or_no (is_break byte) (list_any is_break (take offset bytes)) e in
    let plain = (or_no (byte == 10) _ parts.0).0 in
    let step = step_by byte bytes place false plain in
    let more = line_kept (step_over (byte ∷ bytes) place) bytes offset parts.1 in
    omega (arith, step, more)

word_line : (place : Position) (text : List ℕ) (start offset : ℕ) → last_word (take offset text) ≤ start → start ≤ offset
    → (place_after place text start).line ≡ (place_after place text offset).line
word_line place [] start offset le up = refl
word_line place (byte ∷ bytes) zero zero le up = refl
word_line place (byte ∷ bytes) zero (suc offset) le up = sym (line_kept place (byte ∷ bytes) (suc offset) (none_left (take (suc offset) (byte ∷ bytes)) le))
word_line place (byte ∷ bytes) (suc start) zero le up = absurd (omega arith)
word_line place (byte ∷ bytes) (suc start) (suc offset) le up =
    word_line (step_over (byte ∷ bytes) place) bytes start offset (shorter byte (take offset bytes) start le) (omega arith)

-- ---- the line of a place

column_by : (place : Position) (byte : ℕ) (bytes : List ℕ) (more : ℕ) (b : Bool) → (place_after (step_over (byte ∷ bytes) place) bytes more).line
    ≡ (step_over (byte ∷ bytes) place).line
    → (b ≡ false → (byte == 10) ≡ false) → (place_after place (byte ∷ bytes) (cond b 0 (suc more))).line ≡ place.line
column_by place byte bytes more true e h = refl
column_by place byte bytes more false e h = let step = step_by byte bytes place false (h refl) in omega (arith, step, e)

column_line : (place : Position) (text : List ℕ) (column : ℕ) → (place_after place text (column_offset text column)).line ≡ place.line
column_line place [] column = refl
column_line place (byte ∷ bytes) column =
    column_by place byte bytes (column_offset bytes (column - units byte)) (nat_lt column (units byte) || ends_line (byte ∷ bytes))
    (column_line (step_over (byte ∷ bytes) place) bytes (column - units byte))
    (λ e. (or_no (byte == 10) _ (or_no (nat_lt column (units byte)) (ends_line (byte ∷ bytes)) e).1).0)

-- the offset of a column in the line that begins at an offset
abbrev in_line : List ℕ → ℕ → ℕ → ℕ
in_line text start column = start + column_offset (drop start text) column

next_by : (place : Position) (byte : ℕ) (bytes : List ℕ) (start column line : ℕ)
    → (place_after (step_over (byte ∷ bytes) place) bytes (in_line bytes start column)).line ≡ line
    → (place_after place (byte ∷ bytes) (in_line (byte ∷ bytes) (suc start) column)).line ≡ line
next_by place byte bytes start column line e =
    let one : suc start + column_offset (drop start bytes) column ≡ suc (in_line bytes start column) = omega arith in
    ap (λ (n : ℕ). (place_after place (byte ∷ bytes) n).line) one ∙ e

start_line : (place : Position) (text : List ℕ) (line column : ℕ) → line < line_count text
    → (place_after place text (in_line text (line_start text line) column)).line ≡ place.line + line
start_line place [] line column less = absurd (omega arith)
start_line place (byte ∷ bytes) zero column less =
    let e = column_line place (byte ∷ bytes) column in
    ap (λ (n : ℕ). (place_after place (byte ∷ bytes) n).line) (zero-add (column_offset (byte ∷ bytes) column)) ∙ omega (arith, e)
start_line place (byte ∷ bytes) (suc line) column less =
    let later_line : line_start (byte ∷ bytes) (suc line) ≡ suc (line_start bytes (lines_left (suc line) byte)) =
    ap (λ (b : Bool). cond b 0 (suc (line_start bytes (lines_left (suc line) byte)))) (ne_eqb (suc line) 0 (λ e. absurd (omega arith))) in
    ap (λ (n : ℕ). (place_after place (byte ∷ bytes) (in_line (byte ∷ bytes) n column)).line) later_line
    ∙ next_by place byte bytes (line_start bytes (lines_left (suc line) byte)) column (place.line + suc line)
    (elim (cases_Bool (byte == 10)) [
      | inl newline ↦
          let left : lines_left (suc line) byte ≡ line = ap (λ (b : Bool). cond b (suc line - 1) (suc line)) newline ∙ omega arith in
          let more = lines_more byte bytes ∙ ap (λ (b : Bool). cond b 1 0 + line_count bytes) newline in
          let step = step_by byte bytes place true newline in
          let later = start_line (step_over (byte ∷ bytes) place) bytes line column (omega (arith, less, more)) in
          ap (λ (n : ℕ). (place_after (step_over (byte ∷ bytes) place) bytes (in_line bytes (line_start bytes n) column)).line) left
          ∙ omega (arith, step, later)
      | inr plain ↦
          let left : lines_left (suc line) byte ≡ suc line = ap (λ (b : Bool). cond b (suc line - 1) (suc line)) plain in
          let more = lines_more byte bytes ∙ ap (λ (b : Bool). cond b 1 0 + line_count bytes) plain in
          let step = step_by byte bytes place false plain in
          let later = start_line (step_over (byte ∷ bytes) place) bytes (suc line) column (omega (arith, less, more)) in
          ap (λ (n : ℕ). (place_after (step_over (byte ∷ bytes) place) bytes (in_line bytes (line_start bytes n) column)).line) left
          ∙ omega (arith, step, later)
    ])

offset_line : (text : List ℕ) (place : Position) → place.line < line_count text → (position_of text (offset_of text place)).line ≡ place.line
offset_line text place less =
    let e = start_line (record { line = 0; column = 0 }) text place.line place.column less in
    e ∙ zero-add place.line

-- ---- the block of a place

-- the place is in a line of the block of the spot, which is of that offset
record IsIn (blocks : List (List ℕ)) (place : Position) (spot : Spot) : Type 0 where
  above : spot.line ≤ place.line
  below : place.line < spot.line + line_count (text_at blocks spot.at)
  offset : spot.offset ≡ offset_in spot.line (text_at blocks spot.at) place

spot_by : (blocks : List (List ℕ)) (at first : ℕ) (place : Position) (block : List ℕ) (later : Option Spot) (spot : Spot) (before here : Bool)
    → nat_lt place.line first ≡ before → nat_lt place.line (first + line_count block) ≡ here → text_at blocks at ≡ block
    → (later ≡ Some spot → IsIn blocks place spot)
    → cond before None (cond here (Some (record { at = at; line = first; offset = offset_in first block place })) later) ≡ Some spot → IsIn blocks place spot
spot_by blocks at first place block later spot true here p q is more e = absurd cc
spot_by blocks at first place block later spot false true p q is more e =
    let found : Spot = record { at = at; line = first; offset = offset_in first (text_at blocks at) place } in
    let in_it : IsIn blocks place found = record {
      above = omega (arith, ltb-false place.line first p);
      below = subst (λ (t : List ℕ). place.line < first + line_count t) (sym is) (ltb-true place.line (first + line_count block) q);
      offset = refl;
    } in
    subst (IsIn blocks place) (ap (λ (t : List ℕ). record { at = at; line = first; offset = offset_in first t place }) is ∙ same_Some _ spot e) in_it
spot_by blocks at first place block later spot false false p q is more e = more e

spot_in : (blocks : List (List ℕ)) (place : Position) (spot : Spot) (at first : ℕ) (rest : List (List ℕ)) → ((k : ℕ) → text_at blocks (at + k) ≡ text_at rest k)
    → spot_from at first place rest ≡ Some spot → IsIn blocks place spot
spot_in blocks place spot at first [] same e = absurd cc
spot_in blocks place spot at first (block ∷ rest) same e =
    let next = first + line_count block in
    spot_by blocks at first place block (spot_from (suc at) next place rest) spot (nat_lt place.line first) (nat_lt place.line next) refl refl
    (ap (text_at blocks) (omega arith) ∙ same 0)
    (spot_in blocks place spot (suc at) next rest (λ k. ap (text_at blocks) (omega arith) ∙ same (suc k))) e

-- ---- a word begins before its end

last_rises : (low high : ℕ) (parts : List (List PlacedByte)) → PartsRise low high parts → Rise low high (last_of parts)
last_rises low high [] r = r
last_rises low high (part ∷ []) r = rise_higher low r.0 high part r.2 r.1
last_rises low high (part ∷ (other ∷ parts)) r =
    rise_lower low r.0 high (last_of (other ∷ parts)) (rise_up low r.0 part r.1) (last_rises r.0 high (other ∷ parts) r.2)

start_up : (low end : ℕ) (part : List PlacedByte) → Rise low end part → start_of end part ≤ end
start_up low end [] r = omega arith
start_up low end (x ∷ xs) r = let more = rise_up (suc x.1) end xs r.1 in omega arith

word_up : (low end : ℕ) (item : List PlacedByte) (used marked : Bool) (word : Word) → Rise low end item
    → cond used (Some (record { start = start_of end (without_front (drop 4 item)); used = true }))
    (cond marked None (Some (record { start = start_of end item; used = false }))) ≡ Some word
    → word.start ≤ end
word_up low end item true marked word r e =
    let up = start_up low end (without_front (drop 4 item)) (front_rises low end (drop 4 item) (drop_rises 4 low end item r)) in
    let is = ap (λ (w : Word). w.start) (same_Some _ word e) in
    omega (arith, up, is)
word_up low end item false true word r e = absurd cc
word_up low end item false false word r e =
    let up = start_up low end item r in
    let is = ap (λ (w : Word). w.start) (same_Some _ word e) in
    omega (arith, up, is)

items_up : (text : List ℕ) → (low : ℕ) × Rise low (length text) (last_of (items_of (folded_of text)))
items_up text =
    let end = length text in
    let cut = halves 0 end (folded_of text) (rise_folded text) in
    let items = items_after 44 (rest_of (folded_of text)) in
    (cut.0, last_rises cut.0 end (map without_front items) (fronts_rise cut.0 end items (items_rise cut.0 end 44 (rest_of (folded_of text)) cut.2)))

item_word : (low end : ℕ) (item : List PlacedByte) (word : Word) → Rise low end item → word_in end item ≡ Some word → word.start ≤ end
item_word low end item word r e = word_up low end item (begins_with (codes "use=") item) (list_any (λ (x : PlacedByte). is_mark x.0) item) word r e

if_some : (b : Bool) (found : Option Word) (word : Word) → cond b found None ≡ Some word → found ≡ Some word
if_some true found word e = e
if_some false found word e = absurd cc

pub word_starts : (text : List ℕ) (word : Word) → word_at_end text ≡ Some word → word.start ≤ length text
word_starts text word e =
    let up = items_up text in
    let open_line = if_some (is_open false 10 text) (word_of (length text) (folded_of text)) word e in
    let in_item = if_some (nat_lt (length (field_of (folded_of text))) (length (folded_of text)))
    (word_in (length text) (last_of (items_of (folded_of text)))) word open_line in
    item_word up.0 (length text) (last_of (items_of (folded_of text))) word up.1 in_item

-- ---- what is replaced

later_max : (a b c : ℕ) → a ≤ c → b ≤ c → (max a b ≤ c) × (b ≤ max a b)
later_max a b c p q = (omega arith, omega arith)

columns : (one other : Position) → IsUpTo one other → one.line ≡ other.line → one.column ≤ other.column
columns one other up same = elim up [ inl less ↦ absurd (omega arith) | inr here ↦ here.1 ]

in_the_line : (blocks : List (List ℕ)) (place : Position) (spot : Spot) (word : Word) (completion : CompletionSeen) → IsIn blocks place spot
    → word_before (text_at blocks spot.at) spot.offset ≡ Some word → completion_for blocks spot.line (text_at blocks spot.at) spot.offset word ≡ completion
    → (completion.range.start.line ≡ place.line) × (completion.range.end.line ≡ place.line) × (completion.range.start.column ≤ completion.range.end.column)
in_the_line blocks place spot word completion is found e =
    let block = text_at blocks spot.at in
    let offset = spot.offset in
    let before = take offset block in
    let short : length before ≤ offset = omega (arith, length-take offset block) in
    let starts = word_starts before word found in
    let within = word_within before in
    let start = max word.start (last_word before) in
    let ends = later_max word.start (last_word before) offset (omega arith) (omega arith) in
    let same : (place_in spot.line block start).line ≡ (place_in spot.line block offset).line =
    ap (λ (n : ℕ). spot.line + n) (word_line (record { line = 0; column = 0 }) block start offset ends.1 ends.0) in
    let local : Position = record { line = place.line - spot.line; column = place.column } in
    let below = is.below in
    let above = is.above in
    let at_line = offset_line block local (omega (arith, below, above)) in
    let end_line : (place_in spot.line block offset).line ≡ place.line =
    ap (λ (n : ℕ). spot.line + (position_of block n).line) is.offset ∙ ap (λ (n : ℕ). spot.line + n) at_line ∙ omega (arith, above) in
    let up = columns (place_in spot.line block start) (place_in spot.line block offset) (rises_in spot.line block start offset ends.0) same in
    subst (λ (c : CompletionSeen). (c.range.start.line ≡ place.line) × (c.range.end.line ≡ place.line) × (c.range.start.column ≤ c.range.end.column)) e
    (same ∙ end_line, end_line, up)

of_word : (blocks : List (List ℕ)) (place : Position) (spot : Spot) (found : Option Word) (completion : CompletionSeen) → IsIn blocks place spot
    → word_before (text_at blocks spot.at) spot.offset ≡ found → option_map (completion_for blocks spot.line (text_at blocks spot.at) spot.offset) found
    ≡ Some completion
    → (completion.range.start.line ≡ place.line) × (completion.range.end.line ≡ place.line) × (completion.range.start.column ≤ completion.range.end.column)
of_word blocks place spot None completion is p e = absurd cc
of_word blocks place spot (Some word) completion is p e = in_the_line blocks place spot word completion is p (same_Some _ completion e)

of_spot : (text : List ℕ) (place : Position) (found : Option Spot) (completion : CompletionSeen) → spot_at text place ≡ found
    → option_and_then (completion_in (held text)) found ≡ Some completion
    → (completion.range.start.line ≡ (settled text place).line) × (completion.range.end.line ≡ (settled text place).line)
    × (completion.range.start.column ≤ completion.range.end.column)
of_spot text place None completion p e = absurd cc
of_spot text place (Some spot) completion p e =
    let blocks = held text in
    of_word blocks (settled text place) spot (word_before (text_at blocks spot.at) spot.offset) completion
    (spot_in blocks (settled text place) spot 0 (head_line text) blocks (λ k. ap (text_at blocks) (zero-add k)) p) refl e

pub in_line_of_cursor : CompletionsStayInTheLine
in_line_of_cursor text place completion e = of_spot text place (spot_at text place) completion refl e

-- one more byte of a text
pub word_taken : (text : List ℕ) (at start : ℕ) (broken : Bool) → at < length text → start ≡ last_word (take at text) → broken ≡ is_break (get_or text at 0)
    → cond broken (at + 1) start ≡ last_word (take (at + 1) text)
word_taken text at start broken within so is =
    let size : length (take at text) ≡ at = omega (arith, length-take at text) in
    ap (λ (b : Bool). cond b (at + 1) start) is
    ∙ ap (λ (n : ℕ). cond (is_break (get_or text at 0)) (at + 1) n) so
    ∙ ap (λ (n : ℕ). cond (is_break (get_or text at 0)) n (last_word (take at text))) (add-one at ∙ ap (λ (n : ℕ). suc n) (sym size))
    ∙ sym (word_more (take at text) (get_or text at 0))
    ∙ sym (ap last_word (take_more text at 0 within))
