-- The steps of reading the lines and items of a block, and of writing them.
use Rattle.std.proofs.Common.{◌≡◌, ◌≢◌, ℕ, zero, suc, ◌+◌, ◌<◌, ◌≤◌, ◌==◌, Bool, true, false, cond, List, [], ◌∷◌, ◌++◌, length, take, drop, get_or}
use Rattle.std.proofs.Common.{map, Some, None, refl, sym, ap, ◌∙◌}
use Rattle.std.proofs.Common.{append_assoc, arith, add-one, drop-cons}
use Rattle.memchr.specs.Find.{IsFirstByte, is_byte}
use Rattle.std.proofs.lemmas.Bool.{ne_eqb}
use Rattle.std.proofs.lemmas.List.{append-nil, map-append}
use Rattle.ti_text.specs.Texts.{is_empty}
use Rattle.ti_source.specs.Folding.{PlacedByte}
use Rattle.ti_source.specs.Items.{ItemPiece, piece_of}
use Rattle.source_format.specs.Layout.{Place, laid, line_end, line_start}
use Rattle.source_format.specs.Pieces.{Entry, KeptLine, Piece, entries_of, is_kept, item, kept, kept_from, kept_piece, lines_before, lines_from, lines_of, merged}
use Rattle.source_format.specs.Pieces.{with_first_byte}
use Rattle.source_format.specs.inside.Steps.{Lays, all_ended, ended_entry, with_end}
use Rattle.source_format.proofs.Numbered.{nat_lt-no, nat_lt-yes}

-- ---- lines

no_true : (b : Bool) → (b ≡ true → ⊥) → b ≡ false
no_true true never = absurd (never refl)
no_true false never = refl

line_at : (s : List ℕ) (n : ℕ) → n < length s → ((k : ℕ) → k < n → (get_or s k 0 == 10) ≡ true → ⊥) → (get_or s n 0 == 10) ≡ true
    → lines_of s ≡ take n s ∷ lines_of (drop (suc n) s)
line_at [] n h none t = absurd (omega arith)
line_at (x ∷ xs) zero h none t = rw t refl
line_at (x ∷ xs) (suc n) h none t =
    rw (no_true (x == 10) (none 0 (omega arith)))
    (ap (with_first_byte x) (line_at xs n (omega arith) (λ k i. none (suc k) (omega arith)) t))

last_line : (x : ℕ) (s : List ℕ) → ((k : ℕ) → k < length (x ∷ s) → (get_or (x ∷ s) k 0 == 10) ≡ true → ⊥) → lines_of (x ∷ s) ≡ (x ∷ s) ∷ []
last_line x [] none = rw (no_true (x == 10) (none 0 (omega arith))) refl
last_line x (y ∷ s) none =
    rw (no_true (x == 10) (none 0 (omega arith))) (ap (with_first_byte x) (last_line y s (λ k h. none (suc k) (omega arith))))

pub line_found : (s : List ℕ) (n : ℕ) → IsFirstByte (is_byte 10) s (Some n) → lines_of s ≡ take n s ∷ lines_of (drop (n + 1) s)
line_found s n first = rw add-one (line_at s n first.0.high (λ k h. first.0.before k (omega arith) h) first.1)

pub line_missing : (s : List ℕ) → s ≢ [] → IsFirstByte (is_byte 10) s None → lines_of s ≡ s ∷ []
line_missing [] some none = absurd (some refl)
line_missing (x ∷ s) some none = last_line x s (λ k h. none k (omega arith) h)

-- one more line
pub kept_step : (number : ℕ) (line : List ℕ) (all rest : List (List ℕ)) (old new : List KeptLine) → all ≡ line ∷ rest
    → new ≡ old ++ cond (is_kept line) (record { number = number; text = line } ∷ []) [] → new ++ kept_from (number + 1) rest ≡ old ++ kept_from number all
kept_step number line all rest old new e more =
    ap (λ (t : List KeptLine). t ++ kept_from (number + 1) rest) more
    ∙ by_kept (is_kept line) refl
    ∙ ap (λ (ls : List (List ℕ)). old ++ kept_from number ls) (sym e)
  where
    by_kept : (b : Bool) → is_kept line ≡ b
        → old ++ cond (is_kept line) (record { number = number; text = line } ∷ []) [] ++ kept_from (number + 1) rest ≡ old ++ kept_from number (line ∷ rest)
    by_kept true t = rw t (append_assoc old (record { number = number; text = line } ∷ []) (kept_from (number + 1) rest))
    by_kept false f = rw f (ap (λ (t : List KeptLine). t ++ kept_from (number + 1) rest) (append-nil old))

-- ---- items

pub items_step : (one : List PlacedByte) (piece : ItemPiece) (walk rest : List (List PlacedByte)) (old new : List Entry) → walk ≡ one ∷ rest
    → piece_of one ≡ piece
    → new ≡ old ++ ended_entry piece ∷ [] → new ++ all_ended (map piece_of rest) ≡ old ++ all_ended (map piece_of walk)
items_step one piece walk rest old new e p more =
    ap (λ (t : List Entry). t ++ all_ended (map piece_of rest)) more
    ∙ append_assoc old (ended_entry piece ∷ []) (all_ended (map piece_of rest))
    ∙ ap (λ (q : ItemPiece). old ++ ended_entry q ∷ all_ended (map piece_of rest)) (sym p)
    ∙ ap (λ (ws : List (List PlacedByte)). old ++ all_ended (map piece_of ws)) (sym e)

pub with_end-last : (es : List Entry) (e : Entry)
    → with_end (es ++ e ∷ []) ≡ es ++ cond (is_empty e.text) [] (record { text = e.text; line = e.line; ended = false } ∷ [])
with_end-last [] e = refl
with_end-last (d ∷ []) e = refl
with_end-last (d ∷ f ∷ es) e = ap (λ (t : List Entry). d ∷ t) (with_end-last (f ∷ es) e)

pub ended_entries : (ps : List ItemPiece) → with_end (all_ended ps) ≡ entries_of ps
ended_entries [] = refl
ended_entries (p ∷ []) = refl
ended_entries (p ∷ q ∷ ps) = ap (λ (t : List Entry). ended_entry p ∷ t) (ended_entries (q ∷ ps))

-- ---- writing

pub item_written : (old gap text new rest : List ℕ) → new ≡ old ++ gap ++ text → old ++ (gap ++ text ++ rest) ≡ new ++ rest
item_written old gap text new rest e = simp append_assoc (sym (ap (λ (t : List ℕ). t ++ rest) e ∙ (simp append_assoc)))

pub line_written : (old end line new rest : List ℕ) → new ≡ old ++ end ++ line ++ 10 ∷ [] → old ++ (end ++ line ++ 10 ∷ rest) ≡ new ++ rest
line_written old end line new rest e = simp append_assoc (sym (ap (λ (t : List ℕ). t ++ rest) e ∙ (simp append_assoc)))

-- ---- kept lines before a line

pub before_none : (number : ℕ) (k : KeptLine) (ks : List KeptLine) → number ≤ k.number
    → (lines_before number (k ∷ ks) ≡ []) × (lines_from number (k ∷ ks) ≡ k ∷ ks)
before_none number k ks h = rw (nat_lt-no k.number number h) (refl, refl)

before_more : (number : ℕ) (k : KeptLine) (ks : List KeptLine) → k.number < number
    → (lines_before number (k ∷ ks) ≡ k ∷ lines_before number ks) × (lines_from number (k ∷ ks) ≡ lines_from number ks)
before_more number k ks h = rw (nat_lt-yes k.number number h) (refl, refl)

pub from_more : (number : ℕ) (k : KeptLine) (ks left : List KeptLine) → left ≡ k ∷ ks → k.number < number → lines_from number ks ≡ lines_from number left
from_more number k ks left e h = sym (ap (lines_from number) e ∙ (before_more number k ks h).1)

pub lays_before : (width number : ℕ) (out new : List ℕ) (place : Place) (k : KeptLine) (ks left : List KeptLine) → left ≡ k ∷ ks → k.number < number
    → Lays width out place (kept k.text ∷ []) new line_start → (rest : List Piece)
    → out ++ laid width place (map kept_piece (lines_before number left) ++ rest)
    ≡ new ++ laid width line_start (map kept_piece (lines_before number ks) ++ rest)
lays_before width number out new place k ks left e h lays rest =
    ap (λ (ls : List KeptLine). out ++ laid width place (map kept_piece ls ++ rest)) (ap (lines_before number) e ∙ (before_more number k ks h).0)
    ∙ lays (map kept_piece (lines_before number ks) ++ rest)

-- nothing is before a line
pub lays_none : (width number : ℕ) (out : List ℕ) (place : Place) (ks : List KeptLine) → lines_before number ks ≡ [] → (rest : List Piece)
    → out ++ laid width place (map kept_piece (lines_before number ks) ++ rest) ≡ out ++ laid width place rest
lays_none width number out place ks e rest = ap (λ (ls : List KeptLine). out ++ laid width place (map kept_piece ls ++ rest)) e

-- ---- all pieces

pub pieces_step : (width : ℕ) (out between new : List ℕ) (place before after : Place) (e : Entry) (es : List Entry) (ks left : List KeptLine)
    → Lays width out place (map kept_piece (lines_before e.line ks)) between before → left ≡ lines_from e.line ks
    → Lays width between before (item e.text e.ended ∷ []) new after
    → out ++ laid width place (merged (e ∷ es) ks) ≡ new ++ laid width after (merged es left)
pieces_step width out between new place before after e es ks left lines is one =
    lines (item e.text e.ended ∷ merged es (lines_from e.line ks))
    ∙ ap (λ (ls : List KeptLine). between ++ laid width before (item e.text e.ended ∷ merged es ls)) (sym is)
    ∙ one (merged es left)

pub pieces_end : (width : ℕ) (out between new : List ℕ) (place after : Place) (ks : List KeptLine) → Lays width out place (map kept_piece ks) between after
    → new ≡ between ++ line_end (after.column == 0) → new ≡ out ++ laid width place (merged [] ks)
pieces_end width out between new place after ks lays e =
    e ∙ sym (lays []) ∙ ap (λ (ps : List Piece). out ++ laid width place ps) (append-nil (map kept_piece ks))

-- ---- the last item

pub end_popped : {X : Type 0} (seen : X → Entry) (old front : List X) (last : X) → old ≡ front ++ last ∷ []
    → with_end (map seen old)
    ≡ map seen front ++ cond (is_empty (seen last).text) [] (record { text = (seen last).text; line = (seen last).line; ended = false } ∷ [])
end_popped {X} seen old front last e =
    ap (λ (es : List X). with_end (map seen es)) e ∙ ap with_end (map-append seen front (last ∷ [])) ∙ with_end-last (map seen front) (seen last)

pub empty_is : (s : List ℕ) → (length s == 0) ≡ is_empty s
empty_is [] = refl
empty_is (x ∷ xs) = ne_eqb (length (x ∷ xs)) 0 (λ e. absurd (omega arith))

pub end_dropped : {X : Type 0} (seen : X → Entry) (old front : List X) (last : X) → old ≡ front ++ last ∷ [] → is_empty (seen last).text ≡ true
    → map seen front ≡ with_end (map seen old)
end_dropped seen old front last e empty = sym (end_popped seen old front last e ∙ (rw empty (append-nil (map seen front))))

pub end_pushed : {X : Type 0} (seen : X → Entry) (old front new : List X) (last again : X) → old ≡ front ++ last ∷ [] → new ≡ front ++ again ∷ []
    → is_empty (seen last).text ≡ false → seen again ≡ record { text = (seen last).text; line = (seen last).line; ended = false }
    → map seen new ≡ with_end (map seen old)
end_pushed seen old front new last again e more full same =
    ap (map seen) more ∙ map-append seen front (again ∷ []) ∙ ap (λ (x : Entry). map seen front ++ x ∷ []) same
    ∙ sym (end_popped seen old front last e ∙ (rw full refl))

-- ---- the kept line at an index

pub seen_at : {X : Type 0} (seen : X → KeptLine) (xs : List X) (i : ℕ) (d : X) → i < length xs
    → map seen (drop i xs) ≡ seen (get_or xs i d) ∷ map seen (drop (i + 1) xs)
seen_at seen xs i d h = ap (map seen) (drop-cons xs i d h) ∙ (rw add-one refl)
