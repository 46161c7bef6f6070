-- Bytes that have no frame at their front, and bytes with which none begins.
use Rattle.std.proofs.Common.{ℕ, ◌≡◌, ◌≢◌, ◌<◌, ◌≤◌, List, [], ◌∷◌, ◌++◌, All, Option, None, Some, length}
use Rattle.std.proofs.Common.{refl, ap, sym, ◌∙◌, append_assoc, append-nil, subst, arith, length-append}
use Rattle.std.proofs.lemmas.List.Elements.{All-head, All-nil, All-tail}
use Rattle.lsp_frames.proofs.OneFrame.{first_cut, header_cut, line_cut, one_header-law, same_line, same_lines, same_value, with_return}
use Rattle.lsp_frames.specs.Frames.{BeginsNoFrame, GivesLength, HasNoFrame, HasNoNewline, IsHeader, IsHeaderLine, IsLengthLine}
use Rattle.lsp_frames.specs.Frames.{header_bytes_max, line_end, lines_text, number_of}
use Rattle.lsp_frames.specs.inside.Headers.{FirstLength, IsNoNumber}
use Rattle.lsp_frames.specs.inside.Parts.{HasNoReturn}

-- ---- what is no line

-- no line with its end is at the front
HasNoLine : List ℕ → Type 0
HasNoLine bytes = (line rest : List ℕ) → HasNoNewline line → bytes ≢ (line ++ 13 ∷ []) ++ 10 ∷ rest

-- bytes without LF have none
no_newline : (bytes front rest : List ℕ) → HasNoNewline bytes → bytes ≢ front ++ 10 ∷ rest
no_newline [] [] rest h is = cc
no_newline [] (byte ∷ front) rest h is = cc
no_newline (byte ∷ bytes) [] rest h is = let newline : byte ≡ 10 = cc in All-head (λ b. b ≢ 10) byte bytes h newline
no_newline (byte ∷ bytes) (first ∷ front) rest h is =
    let tail : bytes ≡ front ++ 10 ∷ rest = cc in
    no_newline bytes front rest (All-tail (λ b. b ≢ 10) byte bytes h) tail

open_no_line : (bytes : List ℕ) → HasNoNewline bytes → HasNoLine bytes
unfolding HasNoLine
open_no_line bytes h line rest one is = no_newline bytes (line ++ 13 ∷ []) rest h is

bad_no_line : (bytes later : List ℕ) → HasNoNewline bytes → HasNoReturn bytes → HasNoLine (bytes ++ 10 ∷ later)
unfolding HasNoLine
bad_no_line bytes later h none line rest one is = none line (first_cut bytes (line ++ 13 ∷ []) later rest h (with_return line one) is).0

no_newline-nil : HasNoNewline []
no_newline-nil = All-nil (λ byte. byte ≢ 10)

-- lines and then what is no line are not the lines of a header with its end
no_header_end : (lines others : List (List ℕ)) (bytes rest : List ℕ) → All IsHeaderLine lines → All IsHeaderLine others → HasNoLine bytes
    → lines_text lines ++ bytes ≢ lines_text others ++ (line_end ++ rest)
unfolding HasNoLine
no_header_end [] [] bytes rest p q none is = none [] rest no_newline-nil is
no_header_end [] (other ∷ others) bytes rest p q none is =
    none other (lines_text others ++ (line_end ++ rest)) (All-head IsHeaderLine other others q).1
    (is ∙ append_assoc (other ++ line_end) (lines_text others) (line_end ++ rest) ∙ line_cut other (lines_text others ++ (line_end ++ rest)))
no_header_end (line ∷ lines) [] bytes rest p q none is =
    let here = All-head IsHeaderLine line lines p in
    let cut = same_line line [] (lines_text lines ++ bytes) rest here.1 no_newline-nil (sym (append_assoc (line ++ line_end) (lines_text lines) bytes) ∙ is) in
    here.0 cut.0
no_header_end (line ∷ lines) (other ∷ others) bytes rest p q none is =
    let cut = same_line line other (lines_text lines ++ bytes) (lines_text others ++ (line_end ++ rest))
    (All-head IsHeaderLine line lines p).1 (All-head IsHeaderLine other others q).1
    (sym (append_assoc (line ++ line_end) (lines_text lines) bytes) ∙ is ∙ append_assoc (other ++ line_end) (lines_text others) (line_end ++ rest)) in
    no_header_end lines others bytes rest (All-tail IsHeaderLine line lines p) (All-tail IsHeaderLine other others q) none cut.1

-- a frame at the front, cut at the end of its header
frame_cut : (bytes header body rest : List ℕ) (h : IsHeader header (length body)) → bytes ≡ (header ++ body) ++ rest
    → bytes ≡ lines_text h.lines ++ (line_end ++ (body ++ rest))
frame_cut bytes header body rest h is = is ∙ append_assoc header body rest ∙ header_cut header h.lines (body ++ rest) h.whole

-- ---- a header

-- its lines are read, and a part of the next one
pub open_header : (lines : List (List ℕ)) (bytes : List ℕ) → All IsHeaderLine lines → HasNoNewline bytes → HasNoFrame (lines_text lines ++ bytes)
open_header lines bytes p one header body rest h is =
    no_header_end lines h.lines bytes (body ++ rest) p h.each (open_no_line bytes one) (frame_cut (lines_text lines ++ bytes) header body rest h is)

-- its lines are read
pub open_lines : (lines : List (List ℕ)) → All IsHeaderLine lines → HasNoFrame (lines_text lines)
open_lines lines p = subst HasNoFrame (append-nil (lines_text lines)) (open_header lines [] p no_newline-nil)

-- a line of it ends without CR
pub bad_line : (lines : List (List ℕ)) (line : List ℕ) → All IsHeaderLine lines → HasNoNewline line → HasNoReturn line
    → BeginsNoFrame (lines_text lines ++ (line ++ 10 ∷ []))
bad_line lines line p one none later header body rest h is =
    let whole : (lines_text lines ++ (line ++ 10 ∷ [])) ++ later ≡ lines_text lines ++ (line ++ 10 ∷ later) =
    append_assoc (lines_text lines) (line ++ 10 ∷ []) later ∙ ap (λ (t : List ℕ). lines_text lines ++ t) (append_assoc line (10 ∷ []) later) in
    no_header_end lines h.lines (line ++ 10 ∷ later) (body ++ rest) p h.each (bad_no_line line later one none)
    (sym whole ∙ frame_cut ((lines_text lines ++ (line ++ 10 ∷ [])) ++ later) header body rest h is)

-- of two fronts of the same bytes the shorter is a front of the longer
shorter_front : (a b x y : List ℕ) → length b ≤ length a → a ++ x ≡ b ++ y → (rest : List ℕ) × (a ≡ b ++ rest)
shorter_front a [] x y low is = (a, refl)
shorter_front [] (b ∷ bs) x y low is = absurd (omega arith)
shorter_front (a ∷ rest) (b ∷ bs) x y low is =
    let head : a ≡ b = cc in
    let tail : rest ++ x ≡ bs ++ y = cc in
    let found = shorter_front rest bs x y (omega arith) tail in
    let same : rest ≡ bs ++ found.0 = found.1 in
    (found.0, cc)

-- it is too long
pub long_header : (lines : List (List ℕ)) (bytes : List ℕ) → All IsHeaderLine lines → HasNoNewline bytes
    → header_bytes_max ≤ length (lines_text lines ++ bytes) → BeginsNoFrame (lines_text lines ++ bytes)
long_header lines bytes p one long later header body rest h is =
    let short = h.short in
    let front = shorter_front (lines_text lines ++ bytes) header later (body ++ rest) (omega arith) (is ∙ append_assoc header body rest) in
    no_header_end lines h.lines bytes front.0 p h.each (open_no_line bytes one) (front.1 ∙ header_cut header h.lines front.0 h.whole)

-- its lines give a length that is no number, or none
no_length : (lines : List (List ℕ)) (value : Option (List ℕ)) (said : List ℕ) (len : ℕ) → FirstLength lines value → IsNoNumber value
    → GivesLength lines said → number_of said ≢ Some len
no_length lines None said len first none gives announced =
    let all : All (λ line. ¬ IsLengthLine line) (gives.front ++ gives.line ∷ gives.back) =
    subst (λ (l : List (List ℕ)). All (λ line. ¬ IsLengthLine line) l) gives.whole first in
    no_length_line gives.front gives.line gives.back all gives.here
  where
    no_length_line : (front : List (List ℕ)) (line : List ℕ) (back : List (List ℕ)) → All (λ l. ¬ IsLengthLine l) (front ++ line ∷ back) → IsLengthLine line → ⊥
    no_length_line [] line back all here = All-head (λ l. ¬ IsLengthLine l) line back all here
    no_length_line (first ∷ front) line back all here =
        no_length_line front line back (All-tail (λ l. ¬ IsLengthLine l) first (front ++ line ∷ back) all) here
no_length lines (Some value) said len first none gives announced =
    let same : value ≡ said = same_value lines value said first gives in
    cc

-- it ended, and gave no length
pub header_without_length : (lines : List (List ℕ)) (value : Option (List ℕ)) → All IsHeaderLine lines → FirstLength lines value → IsNoNumber value
    → BeginsNoFrame (lines_text lines ++ line_end)
header_without_length lines value p first none later header body rest h is =
    let same = same_lines lines h.lines later (body ++ rest) p h.each
    (sym (append_assoc (lines_text lines) line_end later) ∙ frame_cut ((lines_text lines ++ line_end) ++ later) header body rest h is) in
    let gives : GivesLength lines h.value = subst (λ (l : List (List ℕ)). GivesLength l h.value) (sym same.0) h.gives in
    no_length lines value h.value (length body) first none gives h.announced

-- ---- a body

-- a part of it is read
pub open_body : (header part : List ℕ) (len : ℕ) → IsHeader header len → length part < len → HasNoFrame (header ++ part)
open_body header part len h low other body rest k is =
    let one = one_header-law header other len (length body) part (body ++ rest) h k (is ∙ append_assoc other body rest) in
    absurd (omega (arith, one.1, ap length one.2, length-append body rest))
