-- Bytes have one reading as the lines of a header, as a header and as a frame.
use Rattle.std.proofs.Common.{ℕ, ◌≡◌, ◌≢◌, List, [], ◌∷◌, ◌++◌, All, Option, None, Some, length, drop, refl, ap, sym, ◌∙◌, append_assoc, subst, arith}
use Rattle.std.proofs.Common.{length-append}
use Rattle.std.proofs.lemmas.List.Elements.{All-head, All-push, All-tail}
use Rattle.lsp_frames.specs.FrameLaws.{OneHeader, OneReading}
use Rattle.lsp_frames.specs.Frames.{GivesLength, HasNoNewline, IsHeader, IsHeaderLine, IsLengthLine, ReadsFrame, line_end, lines_text}
use Rattle.lsp_frames.specs.declared.frames.Frame.TheVariants.{Body, TooLong}

-- ---- lists

-- lists of one length that begin the same bytes are equal
pub same_length : (a b x y : List ℕ) → length a ≡ length b → a ++ x ≡ b ++ y → (a ≡ b) × (x ≡ y)
same_length [] [] x y len is = (refl, is)
same_length [] (b ∷ more) x y len is = absurd (omega arith)
same_length (a ∷ rest) [] x y len is = absurd (omega arith)
same_length (a ∷ rest) (b ∷ more) x y len is =
    let head : a ≡ b = cc in
    let tail : rest ++ x ≡ more ++ y = cc in
    let found = same_length rest more x y (omega arith) tail in
    let same : rest ≡ more = found.0 in
    (cc, found.1)

-- the same end after two lists
same_end : (a b end : List ℕ) → a ++ end ≡ b ++ end → a ≡ b
same_end a b end is = (same_length a b end end (omega (arith, ap length is, length-append a end, length-append b end)) is).0

-- ---- lines

-- what is before the first LF
pub first_cut : (a b x y : List ℕ) → HasNoNewline a → HasNoNewline b → a ++ 10 ∷ x ≡ b ++ 10 ∷ y → (a ≡ b) × (x ≡ y)
first_cut [] [] x y p q is = (refl, cc)
first_cut [] (b ∷ more) x y p q is = let newline : b ≡ 10 = cc in absurd (All-head (λ byte. byte ≢ 10) b more q newline)
first_cut (a ∷ rest) [] x y p q is = let newline : a ≡ 10 = cc in absurd (All-head (λ byte. byte ≢ 10) a rest p newline)
first_cut (a ∷ rest) (b ∷ more) x y p q is =
    let head : a ≡ b = cc in
    let tail : rest ++ 10 ∷ x ≡ more ++ 10 ∷ y = cc in
    let found = first_cut rest more x y (All-tail (λ byte. byte ≢ 10) a rest p) (All-tail (λ byte. byte ≢ 10) b more q) tail in
    let same : rest ≡ more = found.0 in
    (cc, found.1)

-- a line with its end is cut at the LF
pub line_cut : (line rest : List ℕ) → (line ++ line_end) ++ rest ≡ (line ++ 13 ∷ []) ++ 10 ∷ rest
line_cut line rest = append_assoc line line_end rest ∙ sym (append_assoc line (13 ∷ []) (10 ∷ rest))

pub with_return : (line : List ℕ) → HasNoNewline line → HasNoNewline (line ++ 13 ∷ [])
with_return line h = All-push (λ byte. byte ≢ 10) line 13 h (λ is. cc)

-- two lines that begin the same bytes are equal
pub same_line : (line other x y : List ℕ) → HasNoNewline line → HasNoNewline other → (line ++ line_end) ++ x ≡ (other ++ line_end) ++ y → (line ≡ other)
    × (x ≡ y)
same_line line other x y p q is =
    let cut = first_cut (line ++ 13 ∷ []) (other ++ 13 ∷ []) x y (with_return line p) (with_return other q) (sym (line_cut line x) ∙ is ∙ line_cut other y) in
    (same_end line other (13 ∷ []) cut.0, cut.1)

no_newline-nil : HasNoNewline []
no_newline-nil k d lt = absurd (omega arith)

-- the lines of two headers that begin the same bytes are equal
pub same_lines : (lines others : List (List ℕ)) (x y : List ℕ) → All IsHeaderLine lines → All IsHeaderLine others
    → lines_text lines ++ (line_end ++ x) ≡ lines_text others ++ (line_end ++ y) → (lines ≡ others) × (x ≡ y)
same_lines [] [] x y p q is = (refl, (same_length line_end line_end x y refl is).1)
same_lines [] (line ∷ others) x y p q is =
    let here = All-head IsHeaderLine line others q in
    let cut = same_line [] line x (lines_text others ++ (line_end ++ y)) no_newline-nil here.1
    (is ∙ append_assoc (line ++ line_end) (lines_text others) (line_end ++ y)) in
    absurd (here.0 (sym cut.0))
same_lines (line ∷ lines) [] x y p q is =
    let here = All-head IsHeaderLine line lines p in
    let cut = same_line line [] (lines_text lines ++ (line_end ++ x)) y here.1 no_newline-nil
    (sym (append_assoc (line ++ line_end) (lines_text lines) (line_end ++ x)) ∙ is) in
    absurd (here.0 cut.0)
same_lines (line ∷ lines) (other ∷ others) x y p q is =
    let here = All-head IsHeaderLine line lines p in
    let there = All-head IsHeaderLine other others q in
    let cut = same_line line other (lines_text lines ++ (line_end ++ x)) (lines_text others ++ (line_end ++ y)) here.1 there.1
    (sym (append_assoc (line ++ line_end) (lines_text lines) (line_end ++ x)) ∙ is ∙ append_assoc (other ++ line_end) (lines_text others) (line_end ++ y)) in
    let more = same_lines lines others x y (All-tail IsHeaderLine line lines p) (All-tail IsHeaderLine other others q) cut.1 in
    let first : line ≡ other = cut.0 in
    let rest : lines ≡ others = more.0 in
    (cc, more.1)

-- ---- the length

-- the value of the first line that gives a length
first_length : (front before : List (List ℕ)) (line other : List ℕ) (back after : List (List ℕ)) → front ++ line ∷ back ≡ before ++ other ∷ after
    → All (λ l. ¬ IsLengthLine l) front → All (λ l. ¬ IsLengthLine l) before → IsLengthLine line → IsLengthLine other → line ≡ other
first_length [] [] line other back after is p q here there = cc
first_length [] (b ∷ before) line other back after is p q here there =
    let same : line ≡ b = cc in
    absurd (All-head (λ l. ¬ IsLengthLine l) b before q (subst IsLengthLine same here))
first_length (f ∷ front) [] line other back after is p q here there =
    let same : other ≡ f = cc in
    absurd (All-head (λ l. ¬ IsLengthLine l) f front p (subst IsLengthLine same there))
first_length (f ∷ front) (b ∷ before) line other back after is p q here there =
    let tail : front ++ line ∷ back ≡ before ++ other ∷ after = cc in
    first_length front before line other back after tail (All-tail (λ l. ¬ IsLengthLine l) f front p) (All-tail (λ l. ¬ IsLengthLine l) b before q) here there

pub same_value : (lines : List (List ℕ)) (value other : List ℕ) → GivesLength lines value → GivesLength lines other → value ≡ other
same_value lines value other h k =
    h.value_is ∙ ap (drop 15) (first_length h.front k.front h.line k.line h.back k.back (sym h.whole ∙ k.whole) h.before k.before h.here k.here)
    ∙ sym k.value_is

-- ---- headers and frames

-- a header, cut at its last line
pub header_cut : (bytes : List ℕ) (lines : List (List ℕ)) (rest : List ℕ) → bytes ≡ lines_text lines ++ line_end
    → bytes ++ rest ≡ lines_text lines ++ (line_end ++ rest)
header_cut bytes lines rest is = ap (λ (b : List ℕ). b ++ rest) is ∙ append_assoc (lines_text lines) line_end rest

pub one_header-law : OneHeader
one_header-law header other len size rest later h k is =
    let lines =
    same_lines h.lines k.lines rest later h.each k.each (sym (header_cut header h.lines rest h.whole) ∙ is ∙ header_cut other k.lines later k.whole) in
    let gives : GivesLength k.lines h.value = subst (λ (l : List (List ℕ)). GivesLength l h.value) lines.0 h.gives in
    let value : h.value ≡ k.value = same_value k.lines h.value k.value gives k.gives in
    let text : lines_text h.lines ≡ lines_text k.lines = ap lines_text lines.0 in
    let first = h.announced in
    let second = k.announced in
    let whole = h.whole in
    let other_whole = k.whole in
    (cc, cc, lines.1)

-- two headers with their bodies that begin the same bytes
pub same_frame : (header other body second rest later : List ℕ) → IsHeader header (length body) → IsHeader other (length second)
    → (header ++ body) ++ rest ≡ (other ++ second) ++ later → (body ≡ second) × (rest ≡ later)
same_frame header other body second rest later h k is =
    let one = one_header-law header other (length body) (length second) (body ++ rest) (second ++ later) h k
    (sym (append_assoc header body rest) ∙ is ∙ append_assoc other second later) in
    same_length body second rest later one.1 one.2

one_frame : (given : List ℕ) (left remaining : Option (List ℕ)) (body second : List ℕ) → ReadsFrame (Some given) left body
    → ReadsFrame (Some given) remaining second
    → (body ≡ second) × (left ≡ remaining)
one_frame given None remaining body second h k = absurd h.read
one_frame given (Some left) None body second h k = absurd k.read
one_frame given (Some left) (Some remaining) body second h k =
    let same = same_frame h.header k.header body second left remaining h.announces k.announces (sym h.read ∙ k.read) in
    (same.0, ap Some same.1)

pub one_reading-law : OneReading
one_reading-law given left remaining (Body body) (Body other) h k =
    let same = one_frame given left remaining body.items other.items h.0 k.0 in
    (ap Some same.0, same.1)
one_reading-law given left remaining (Body body) TooLong h k =
    let same = one_frame given left remaining body.items k.0 h.0 k.1 in
    absurd (omega (arith, ap length same.0, h.1, k.2))
one_reading-law given left remaining TooLong (Body other) h k =
    let same = one_frame given left remaining h.0 other.items h.1 k.0 in
    absurd (omega (arith, ap length same.0, h.2, k.1))
one_reading-law given left remaining TooLong TooLong h k = (refl, (one_frame given left remaining h.0 k.0 h.1 k.1).1)
