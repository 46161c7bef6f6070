-- The lines of a block, one after the other.
use Rattle.std.proofs.Common.{◌≡◌, ℕ, suc, zero, ◌+◌, ◌-◌, ◌<◌, ◌≤◌, ◌==◌, Bool, true, false, List, [], ◌∷◌, ◌++◌, drop, get_or, length, take, None, Some}
use Rattle.std.proofs.Common.{add-one, refl, sym, ap, ap₂, subst, ◌∙◌, arith}
use Rattle.memchr.specs.Find.{IsFirstByte, is_byte}
use Rattle.std.proofs.lemmas.Bool.{eqb-true}
use Rattle.std.proofs.lemmas.List.{append-nil, drop-drop, drop_all, drop_more, length-drop, take_all}
use Rattle.ti_text.specs.WhiteSpace.{is_white_space}
use Rattle.ti_source.specs.Folding.{HasNoNewline, PlacedByte, is_comment}
use Rattle.source_spans.specs.Folding.{bytes_at, folded_of, without_breaks, without_comments}
use Rattle.source_spans.specs.inside.Lines.{IsLineAt, left_at, range_at}
use Rattle.source_spans.proofs.Computing.{comment_at_end, comment_read, line_at_end, line_read, plain_line, white_first}

no_true : (b : Bool) → (b ≡ true → ⊥) → b ≡ false
no_true true never = absurd (never refl)
no_true false never = refl

-- ---- bytes with their offsets

-- a text up to a newline, and after it
cut_at : (start : ℕ) (s : List ℕ) (n : ℕ) → n < length s → get_or s n 0 ≡ 10 → bytes_at start s ≡ bytes_at start (take n s) ++ (10, start + n)
    ∷ bytes_at (start + suc n) (drop (suc n) s)
cut_at start [] n within e = absurd (omega arith)
cut_at start (x ∷ xs) zero within e =
    let here : start ≡ start + 0 = omega arith in
    let next : suc start ≡ start + suc 0 = omega arith in
    ap (λ (b : ℕ). (b, start) ∷ bytes_at (suc start) xs) e ∙ ap (λ (k : ℕ). (10, k) ∷ bytes_at (suc start) xs) here
    ∙ ap (λ (k : ℕ). (10, start + 0) ∷ bytes_at k xs) next
cut_at start (x ∷ xs) (suc n) within e =
    let here : suc start + n ≡ start + suc n = omega arith in
    let next : suc start + suc n ≡ start + suc (suc n) = omega arith in
    let later = cut_at (suc start) xs n (omega (arith, within)) e in
    ap (λ (t : List PlacedByte). (x, start) ∷ t) later
    ∙ ap (λ (k : ℕ). (x, start) ∷ (bytes_at (suc start) (take n xs) ++ (10, k) ∷ bytes_at (suc start + suc n) (drop (suc n) xs))) here
    ∙ ap (λ (k : ℕ). (x, start) ∷ (bytes_at (suc start) (take n xs) ++ (10, start + suc n) ∷ bytes_at k (drop (suc n) xs))) next

-- one more byte of a text
one_more : (start : ℕ) (s : List ℕ) (n : ℕ) → n < length s → bytes_at start (take (suc n) s) ≡ bytes_at start (take n s) ++ (get_or s n 0, start + n) ∷ []
one_more start [] n within = absurd (omega arith)
one_more start (x ∷ xs) zero within = let here : start ≡ start + 0 = omega arith in ap (λ (k : ℕ). (x, k) ∷ []) here
one_more start (x ∷ xs) (suc n) within =
    let here : suc start + n ≡ start + suc n = omega arith in
    ap (λ (t : List PlacedByte). (x, start) ∷ t) (one_more (suc start) xs n (omega (arith, within)))
    ∙ ap (λ (k : ℕ). (x, start) ∷ (bytes_at (suc start) (take n xs) ++ (get_or xs n 0, k) ∷ [])) here

none_newline : (start : ℕ) (s : List ℕ) (n : ℕ) → ((k : ℕ) → k < n → (get_or s k 0 == 10) ≡ true → ⊥) → HasNoNewline (bytes_at start (take n s))
none_newline start s zero none = tt
none_newline start [] (suc n) none = tt
none_newline start (x ∷ xs) (suc n) none =
    (no_true (x == 10) (none 0 (omega arith)), none_newline (suc start) xs n (λ k below. none (suc k) (omega (arith, below))))

-- ---- the bytes of a part, one more at a time

get_drop : (block : List ℕ) (start n : ℕ) → get_or (drop start block) n 0 ≡ get_or block (start + n) 0
get_drop block zero n = let here : n ≡ 0 + n = omega arith in ap (λ (k : ℕ). get_or block k 0) here
get_drop [] (suc start) n = refl
get_drop (x ∷ xs) (suc start) n = let here : suc (start + n) ≡ suc start + n = omega arith in get_drop xs start n ∙ ap (λ (k : ℕ). get_or (x ∷ xs) k 0) here

pub range_more : (block : List ℕ) (start at : ℕ) → start ≤ at → at < length block → range_at block start (at + 1) ≡ range_at block start at
    ++ (get_or block at 0, at) ∷ []
range_more block start at order within =
    let n = at - start in
    let more : at + 1 - start ≡ suc n = omega (arith, order) in
    let here : start + n ≡ at = omega (arith, order) in
    ap (λ (k : ℕ). bytes_at start (take k (drop start block))) more
    ∙ one_more start (drop start block) n (omega (arith, length-drop start block, within, order))
    ∙ ap (λ (b : ℕ). bytes_at start (take n (drop start block)) ++ (b, start + n) ∷ []) (get_drop block start n)
    ∙ ap (λ (k : ℕ). bytes_at start (take n (drop start block)) ++ (get_or block k 0, k) ∷ []) here

-- ---- a line as it is found

-- whether a line that ends with a newline is a comment
first_byte : (start : ℕ) (s : List ℕ) (n : ℕ) → n < length s → get_or s n 0 ≡ 10 → is_comment (bytes_at start (take n s)) ≡ (get_or s 0 0 == 35)
first_byte start [] n within e = absurd (omega arith)
first_byte start (x ∷ xs) zero within e = ap (λ (b : ℕ). b == 35) (sym e)
first_byte start (x ∷ xs) (suc n) within e = refl

pub line_found : (block : List ℕ) (start at : ℕ) → IsFirstByte (is_byte 10) (drop start block) (Some at) → IsLineAt block start (start + at)
line_found block start at first =
    let s = drop start block in
    let high = first.0.high in
    let len = length-drop start block in
    let newline : get_or s at 0 ≡ 10 = eqb-true (get_or s at 0) 10 first.1 in
    let size : start + at - start ≡ at = omega arith in
    let line : range_at block start (start + at) ≡ bytes_at start (take at s) = ap (λ (n : ℕ). bytes_at start (take n s)) size in
    let none : HasNoNewline (bytes_at start (take at s)) = none_newline start s at (λ k below. first.0.before k (omega arith) below) in
    let end : start + at + 1 ≡ start + suc at = omega arith in
    let rest : drop (start + at + 1) block ≡ drop (suc at) s = ap (λ (n : ℕ). drop n block) end ∙ sym (drop-drop (suc at) start block) in
    let after : bytes_at (start + at + 1) (drop (start + at + 1) block) ≡ bytes_at (start + suc at) (drop (suc at) s) = ap₂ bytes_at end rest in
    let whole : bytes_at start s ≡ range_at block start (start + at) ++ (10, start + at) ∷ bytes_at (start + at + 1) (drop (start + at + 1) block) =
    rw (line, after) (cut_at start s at high newline) in
    record {
      later = omega arith;
      within = omega (arith, high, len);
      none = rw line none;
      first = rw line (first_byte start s at high newline ∙ ap (λ (b : ℕ). b == 35) (get_drop block start 0 ∙ ap (λ (k : ℕ). get_or block k 0) (omega arith)));
      comment = λ joining is.
          ap (λ (t : List PlacedByte). without_breaks joining (without_comments false 10 t)) whole
          ∙ ap (without_breaks joining) (comment_read (range_at block start (start + at)) _ (start + at) (rw line none) is);
      line = λ joining is.
          ap (λ (t : List PlacedByte). without_breaks joining (without_comments false 10 t)) whole
          ∙ line_read joining (range_at block start (start + at)) _ (start + at) (rw line none) is;
    }

pub last_found : (block : List ℕ) (start : ℕ) → start < length block → IsFirstByte (is_byte 10) (drop start block) None → IsLineAt block start (length block)
last_found block start within nowhere =
    let s = drop start block in
    let len = length-drop start block in
    let all : take (length block - start) s ≡ s = take_all (length block - start) s (omega (arith, len)) in
    let line : range_at block start (length block) ≡ bytes_at start s = ap (bytes_at start) all in
    let none : HasNoNewline (bytes_at start s) =
    subst (λ (t : List ℕ). HasNoNewline (bytes_at start t)) (take_all (length s) s (omega arith))
    (none_newline start s (length s) (λ k below. nowhere k (omega arith) below)) in
    let past : drop (length block + 1) block ≡ [] = drop_all (length block + 1) block (omega arith) in
    let front : s ≡ get_or block start 0 ∷ drop (start + 1) block = drop_more block start 0 within in
    record {
      later = omega (arith, within);
      within = omega arith;
      none = rw line none;
      first = rw line (ap (λ (t : List ℕ). is_comment (bytes_at start t)) front);
      comment = λ joining is. rw past (ap (without_breaks joining) (comment_at_end (bytes_at start s) none (rw line at is)));
      line = λ joining is.
          rw (past, line) (ap (without_breaks joining) (line_at_end (bytes_at start s) none (rw line at is))
          ∙ sym (append-nil (without_breaks joining (bytes_at start s))));
    }

-- the bytes from the first on
range_first : (block : List ℕ) (at end : ℕ) → at < end → end ≤ length block → range_at block at end ≡ (get_or block at 0, at) ∷ range_at block (at + 1) end
range_first block at end order within =
    let size : end - at ≡ suc (end - (at + 1)) = omega (arith, order) in
    let front = drop_more block at 0 (omega (arith, order, within)) in
    ap₂ (λ (n : ℕ) (t : List ℕ). bytes_at at (take n t)) size front
    ∙ ap (λ (k : ℕ). (get_or block at 0, at) ∷ bytes_at k (take (end - (at + 1)) (drop (at + 1) block))) (sym (add-one at))

-- ---- the white space at the front of a line

-- what is read of a line after a break is what is read from there on
pub record FrontAt (block : List ℕ) (start end at : ℕ) : Type 0 where
  pub none : HasNoNewline (range_at block at end)
  pub same : without_breaks true (range_at block start end) ≡ without_breaks true (range_at block at end)

pub front_next : (block : List ℕ) (start end at : ℕ) → at < end → end ≤ length block → FrontAt block start end at → is_white_space (get_or block at 0) ≡ true
    → FrontAt block start end (at + 1)
front_next block start end at order within f white =
    let first = range_first block at end order within in
    let none = subst HasNoNewline first f.none in
    record {
      none = none.1;
      same = f.same ∙ ap (without_breaks true) first ∙ white_first (get_or block at 0, at) (range_at block (at + 1) end) none.0 white;
    }

pub front_here : (block : List ℕ) (start end at : ℕ) → at < end → end ≤ length block → FrontAt block start end at → is_white_space (get_or block at 0) ≡ false
    → without_breaks true (range_at block start end) ≡ range_at block at end
front_here block start end at order within f white =
    let first = range_first block at end order within in
    let none = subst HasNoNewline first f.none in
    f.same ∙ ap (without_breaks true) first
    ∙ rw (none.0, white) (ap (λ (t : List PlacedByte). (get_or block at 0, at) ∷ t) (plain_line (range_at block (at + 1) end) none.1)) ∙ sym first

-- ---- all lines

-- nothing is left after the last line
pub nothing_left : (block : List ℕ) (start : ℕ) (joining : Bool) → length block ≤ start → left_at block joining start ≡ []
nothing_left block start joining past = rw (drop_all start block past) refl

pub all_read : (block : List ℕ) (start : ℕ) (joining : Bool) (text : List PlacedByte) → length block ≤ start
    → text ++ left_at block joining start ≡ folded_of block → text ≡ folded_of block
all_read block start joining text past so =
    sym (append-nil text) ∙ ap (λ (t : List PlacedByte). text ++ t) (sym (nothing_left block start joining past)) ∙ so
