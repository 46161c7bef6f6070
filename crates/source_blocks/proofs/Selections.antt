-- What is selected of a block is in the block.
use Rattle.std.proofs.Common.{◌≡◌, ℕ, zero, suc, ◌+◌, ◌-◌, ◌<◌, ◌≤◌, ◌==◌, ◌||◌, ◌&&◌, ◌⊎◌, All, Bool, true, false, cond, inl, inr, List, [], ◌∷◌, length}
use Rattle.std.proofs.Common.{refl, arith}
use Rattle.std.proofs.lemmas.Bool.{eq-eqb}
use Rattle.std.proofs.lemmas.List.Elements.{All-cons, All-head, All-nil, All-tail}
use Rattle.ti_text.specs.WhiteSpace.{is_white_space}
use Rattle.ti_text.specs.Lines.{line_count}
use Rattle.ti_source.specs.Cutting.{last_byte}
use Rattle.ti_source.specs.Folding.{PlacedByte}
use Rattle.source_spans.specs.Folding.{bytes_at, folded_of, in_comment, without_breaks, without_comments}
use Rattle.source_spans.specs.Parts.{end_of, field_of, spanned}
use Rattle.source_spans.specs.Subjects.{head_span, span_or_start}
use Rattle.source_types.specs.declared.places.Position.{Position}
use Rattle.source_document.specs.Documents.{HeldBlocksFit, IsShortBlock, held}
use Rattle.source_places.specs.Position.{ends_line, place_after, position_of, step_over, units}
use Rattle.source_blocks.specs.Spots.{head_line, place_in}
use Rattle.source_blocks.specs.Symbols.{IsInside, IsUpTo, SelectionsAreInside, SymbolSeen, symbol_at, symbols_from}

-- ---- a later offset has no earlier place

up_by : (newline ends : Bool) (place : Position) (n : ℕ)
    → IsUpTo place (cond newline (record { line = place.line + 1; column = 0 }) (cond ends place (record { line = place.line; column = place.column + n })))
up_by true ends place n = inl (omega arith)
up_by false true place n = inr (refl, omega arith)
up_by false false place n = inr (refl, omega arith)

step_up : (byte : ℕ) (bytes : List ℕ) (place : Position) → IsUpTo place (step_over (byte ∷ bytes) place)
step_up byte bytes place = up_by (byte == 10) (ends_line (byte ∷ bytes)) place (units byte)

pub up_up : (one two three : Position) → IsUpTo one two → IsUpTo two three → IsUpTo one three
up_up one two three p q =
    elim p [
      | inl less ↦ elim q [ inl more ↦ inl (omega arith) | inr same ↦ inl (omega (arith, same.0)) ]
      | inr here ↦ elim q [ inl more ↦ inl (omega (arith, here.0)) | inr same ↦ inr (omega (arith, here.0, same.0), omega (arith, here.1, same.1)) ]
    ]

after_up : (place : Position) (text : List ℕ) (offset : ℕ) → IsUpTo place (place_after place text offset)
after_up place [] offset = inr (refl, omega arith)
after_up place (byte ∷ bytes) zero = inr (refl, omega arith)
after_up place (byte ∷ bytes) (suc offset) =
    let next = step_over (byte ∷ bytes) place in
    up_up place next (place_after next bytes offset) (step_up byte bytes place) (after_up next bytes offset)

after_rises : (place : Position) (text : List ℕ) (one other : ℕ) → one ≤ other → IsUpTo (place_after place text one) (place_after place text other)
after_rises place [] one other le = inr (refl, omega arith)
after_rises place (byte ∷ bytes) zero other le = after_up place (byte ∷ bytes) other
after_rises place (byte ∷ bytes) (suc one) zero le = absurd (omega arith)
after_rises place (byte ∷ bytes) (suc one) (suc other) le = after_rises (step_over (byte ∷ bytes) place) bytes one other (omega arith)

moved : (line : ℕ) (one other : Position) → IsUpTo one other
    → IsUpTo (record { line = line + one.line; column = one.column }) (record { line = line + other.line; column = other.column })
moved line one other p = elim p [ inl less ↦ inl (omega arith) | inr same ↦ inr (omega (arith, same.0), same.1) ]

pub rises_in : (line : ℕ) (block : List ℕ) (one other : ℕ) → one ≤ other → IsUpTo (place_in line block one) (place_in line block other)
rises_in line block one other le =
    moved line (position_of block one) (position_of block other) (after_rises (record { line = 0; column = 0 }) block one other le)

-- ---- no byte of a folded text is the last of its block

-- a byte that is a newline, or not the last before an offset
abbrev IsKept : ℕ → PlacedByte → Type 0
IsKept end x = (x.0 ≡ 10) ⊎ (suc x.1 < end)

abbrev IsEarly : ℕ → PlacedByte → Type 0
IsEarly end x = suc x.1 < end

all_kept : (offset : ℕ) (text : List ℕ) (before end : ℕ) → offset + length text ≡ end → last_byte before text ≡ 10 → All (IsKept end) (bytes_at offset text)
all_kept offset [] before end e last = All-nil (IsKept end)
all_kept offset (byte ∷ []) before end e last = All-cons (IsKept end) (byte, offset) [] (inl last) (All-nil (IsKept end))
all_kept offset (byte ∷ (next ∷ bytes)) before end e last =
    All-cons (IsKept end) (byte, offset) (bytes_at (suc offset) (next ∷ bytes)) (inr (omega (arith, e)))
    (all_kept (suc offset) (next ∷ bytes) byte end (omega (arith, e)) last)

either_kept : (end : ℕ) (b : Bool) (x : PlacedByte) (one other : List PlacedByte) → All (IsKept end) (x ∷ []) → All (IsKept end) one → All (IsKept end) other
    → All (IsKept end) (cond b one (x ∷ other))
either_kept end true x one other here p q = p
either_kept end false x one other here p q = All-cons (IsKept end) x other (All-head (IsKept end) x [] here) q

comments_kept : (end : ℕ) (comment : Bool) (before : ℕ) (text : List PlacedByte) → All (IsKept end) text
    → All (IsKept end) (without_comments comment before text)
comments_kept end comment before [] all = All-nil (IsKept end)
comments_kept end comment before (x ∷ xs) all =
    let rest = All-tail (IsKept end) x xs all in
    either_kept end (in_comment comment before x.0) x (without_comments true x.0 xs) (without_comments false x.0 xs)
    (All-cons (IsKept end) x [] (All-head (IsKept end) x xs all) (All-nil (IsKept end))) (comments_kept end true x.0 xs rest)
    (comments_kept end false x.0 xs rest)

kept_early : (end : ℕ) (x : PlacedByte) (blank : Bool) → (x.0 == 10 || blank) ≡ false → IsKept end x → IsEarly end x
kept_early end x blank e kept =
    elim kept [
      | inl newline ↦ let is = rw (eq-eqb x.0 10 newline) at e in cc
      | inr early ↦ early
    ]

either_early : (end : ℕ) (b : Bool) (x : PlacedByte) (blank : Bool) (one other : List PlacedByte) → (x.0 == 10 || blank) ≡ b → IsKept end x
    → All (IsEarly end) one → All (IsEarly end) other → All (IsEarly end) (cond b one (x ∷ other))
either_early end true x blank one other e kept p q = p
either_early end false x blank one other e kept p q = All-cons (IsEarly end) x other (kept_early end x blank e kept) q

breaks_early : (end : ℕ) (joining : Bool) (text : List PlacedByte) → All (IsKept end) text → All (IsEarly end) (without_breaks joining text)
breaks_early end joining [] all = All-nil (IsEarly end)
breaks_early end joining (x ∷ xs) all =
    let rest = All-tail (IsKept end) x xs all in
    let blank = joining && is_white_space x.0 in
    either_early end (x.0 == 10 || blank) x blank (without_breaks true xs) (without_breaks false xs) refl (All-head (IsKept end) x xs all)
    (breaks_early end true xs rest) (breaks_early end false xs rest)

front_early : (end : ℕ) (b : Bool) (x : PlacedByte) (other : List PlacedByte) → IsEarly end x → All (IsEarly end) other
    → All (IsEarly end) (cond b [] (x ∷ other))
front_early end true x other here q = All-nil (IsEarly end)
front_early end false x other here q = All-cons (IsEarly end) x other here q

field_early : (end : ℕ) (text : List PlacedByte) → All (IsEarly end) text → All (IsEarly end) (field_of text)
field_early end [] all = All-nil (IsEarly end)
field_early end (x ∷ xs) all =
    front_early end (x.0 == 44) x (field_of xs) (All-head (IsEarly end) x xs all) (field_early end xs (All-tail (IsEarly end) x xs all))

end_early : (end at : ℕ) (text : List PlacedByte) → at < end → All (IsEarly end) text → end_of at text < end
end_early end at [] less all = less
end_early end at (x ∷ xs) less all = end_early end (suc x.1) xs (All-head (IsEarly end) x xs all) (All-tail (IsEarly end) x xs all)

span_early : (end : ℕ) (text : List PlacedByte) → 0 < end → All (IsEarly end) text → (span_or_start (spanned text)).end < end
span_early end [] some all = some
span_early end (x ∷ xs) some all = end_early end (suc x.1) xs (All-head (IsEarly end) x xs all) (All-tail (IsEarly end) x xs all)

head_early : (block : List ℕ) → last_byte 0 block ≡ 10 → (head_span block).end ≤ length block - 1
head_early [] last = omega arith
head_early (byte ∷ bytes) last =
    let block = byte ∷ bytes in
    let end = length block in
    let kept = comments_kept end false 10 (bytes_at 0 block) (all_kept 0 block 0 end (omega arith) last) in
    let early : (head_span block).end < end =
    span_early end (field_of (folded_of block)) (omega arith) (field_early end (folded_of block) (breaks_early end false _ kept)) in
    omega (arith, early)

-- ---- each block

symbol_inside : (line : ℕ) (block : List ℕ) → last_byte 0 block ≡ 10 → IsInside (symbol_at line block).selection (symbol_at line block).range
symbol_inside line block last =
    (rises_in line block 0 (head_span block).start (omega arith), rises_in line block (head_span block).end (length block - 1) (head_early block last))

abbrev IsSelectedInside : SymbolSeen → Type 0
IsSelectedInside symbol = IsInside symbol.selection symbol.range

symbols_inside : (line : ℕ) (blocks : List (List ℕ)) → All IsShortBlock blocks → All IsSelectedInside (symbols_from line blocks)
symbols_inside line [] short = All-nil IsSelectedInside
symbols_inside line (block ∷ blocks) short =
    All-cons IsSelectedInside (symbol_at line block) (symbols_from (line + line_count block) blocks)
    (symbol_inside line block (All-head IsShortBlock block blocks short).1.ends)
    (symbols_inside (line + line_count block) blocks (All-tail IsShortBlock block blocks short))

pub selections_inside : HeldBlocksFit → SelectionsAreInside
selections_inside fit text = symbols_inside (head_line text) (held text) (fit text).1
