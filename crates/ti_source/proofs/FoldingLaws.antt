-- A block folds to one text, which `folded` computes.
use Rattle.std.proofs.Common.{◌≡◌, ℕ, ◌+◌, Bool, true, false, not, ◌==◌, ◌||◌, cond, List, [], ◌∷◌, ◌++◌, map, filter, flat_map, zero-add, append_assoc}
use Rattle.std.proofs.Common.{refl, sym, ap, ◌∙◌, subst, inl, inr, arith}
use Rattle.std.proofs.lemmas.Bool.{cases_Bool, eqb-true}
use Rattle.std.proofs.lemmas.List.{append-nil}
use Rattle.ti_text.proofs.LineLaws.{lines_add}
use Rattle.ti_text.specs.WhiteSpace.{is_white_space}
use Rattle.ti_text.specs.Lines.{line_count}
use Rattle.ti_source.specs.inside.Folding.{bytes_on_lines, without_comments, without_breaks, folding_of, FoldingIsComputed}
use Rattle.ti_source.specs.Folding.{PlacedByte, ArePlaced, HasNoNewline, AreLines, no_lines, last_line, line_and_rest, is_comment, is_blank, IsBlankRun}
use Rattle.ti_source.specs.Folding.{BeginsNoBlank, Joins, last_piece, piece_and_break, Folds, OneFolding, EachIsFolded}

-- ---- bytes with their lines

count-cons : (b : ℕ) (s : List ℕ) → line_count (b ∷ s) ≡ cond (b == 10) 1 0 + line_count s
count-cons b s = lines_add (b ∷ []) s ∙ ap (λ n. n + line_count s) (zero-add (cond (b == 10) 1 0))

-- lines counted from `first`
abbrev AreCounted : ℕ → List PlacedByte → Type 0
AreCounted first text = (front back : List PlacedByte) (x : PlacedByte) → text ≡ front ++ x ∷ back → x.1 ≡ line_count (map (λ y. y.0) front) + first

moved : (b : Bool) (y m first : ℕ) → y ≡ cond b 1 0 + m + first → y ≡ m + cond b (first + 1) first
moved true y m first e = omega arith
moved false y m first e = omega arith

moved_back : (b : Bool) (y m first : ℕ) → y ≡ m + cond b (first + 1) first → y ≡ cond b 1 0 + m + first
moved_back true y m first e = omega arith
moved_back false y m first e = omega arith

counted_later : (first : ℕ) (x : PlacedByte) (xs : List PlacedByte) → AreCounted first (x ∷ xs) → AreCounted (cond (x.0 == 10) (first + 1) first) xs
counted_later first x xs counted front back y e =
    let bytes : List ℕ = map (λ y. y.0) front in
    let here : y.1 ≡ line_count (x.0 ∷ bytes) + first = counted (x ∷ front) back y (ap (λ t. x ∷ t) e) in
    moved (x.0 == 10) y.1 (line_count bytes) first (here ∙ ap (λ n. n + first) (count-cons x.0 bytes))

pub placed_so : (first : ℕ) (text : List PlacedByte) → AreCounted first text → text ≡ bytes_on_lines first (map (λ x. x.0) text)
placed_so first [] counted = refl
placed_so first (x ∷ xs) counted =
    let here : x.1 ≡ 0 + first = counted [] xs x refl in
    let line : x.1 ≡ first = here ∙ zero-add first in
    let later = placed_so (cond (x.0 == 10) (first + 1) first) xs (counted_later first x xs counted) in
    ap (λ n. (x.0, n) ∷ xs) line ∙ ap (λ t. (x.0, first) ∷ t) later

bytes-placed : (first : ℕ) (s : List ℕ) → map (λ x. x.0) (bytes_on_lines first s) ≡ s
bytes-placed first [] = refl
bytes-placed first (b ∷ bs) = ap (λ t. b ∷ t) (bytes-placed (cond (b == 10) (first + 1) first) bs)

head_same : (x y : PlacedByte) (s t : List PlacedByte) → x ∷ s ≡ y ∷ t → (x ≡ y) × (s ≡ t)
head_same x y s t e = (cc, cc)

counted_so : (first : ℕ) (s : List ℕ) → AreCounted first (bytes_on_lines first s)
counted_so first [] [] back x e = cc
counted_so first [] (y ∷ ys) back x e = cc
counted_so first (b ∷ bs) [] back x e = sym (ap (λ (p : PlacedByte). p.1) (head_same _ _ _ _ e).0) ∙ sym (zero-add first)
counted_so first (b ∷ bs) (y ∷ ys) back x e =
    let (same, rest) = head_same _ _ _ _ e in
    let bytes : List ℕ = map (λ z. z.0) ys in
    let byte : b ≡ y.0 = ap (λ (p : PlacedByte). p.0) same in
    let later = counted_so (cond (b == 10) (first + 1) first) bs ys back x rest in
    moved_back (b == 10) x.1 (line_count bytes) first later ∙ ap (λ n. n + first) (sym (count-cons b bytes)) ∙ ap (λ c. line_count (c ∷ bytes) + first) byte

are_placed_so : (block : List ℕ) → ArePlaced block (bytes_on_lines 1 block)
are_placed_so block = record { bytes = bytes-placed 1 block; lines = counted_so 1 block }

one_placing : (block : List ℕ) (text : List PlacedByte) → ArePlaced block text → text ≡ bytes_on_lines 1 block
one_placing block text are = placed_so 1 text are.lines ∙ ap (bytes_on_lines 1) are.bytes

-- ---- lines, and those that are no comments

-- of a comment nothing stays; of another line everything stays
skip_line : (before : ℕ) (xs t u : List PlacedByte) → (before == 10) ≡ false → HasNoNewline xs → ((c : ℕ) → (c == 10) ≡ false → without_comments true c t ≡ u)
    → without_comments true before (xs ++ t) ≡ u
skip_line before [] t u b none end = end before b
skip_line before (x ∷ xs) t u b none end = rw b (skip_line x.0 xs t u none.0 none.1 end)

keep_line : (before : ℕ) (xs t u : List PlacedByte) → (before == 10) ≡ false → HasNoNewline xs → ((c : ℕ) → (c == 10) ≡ false → without_comments false c t ≡ u)
    → without_comments false before (xs ++ t) ≡ xs ++ u
keep_line before [] t u b none end = end before b
keep_line before (x ∷ xs) t u b none end = rw b (ap (λ r. x ∷ r) (keep_line x.0 xs t u none.0 none.1 end))

-- what is left of a text that is these lines
abbrev without_comment_lines : List (List PlacedByte) → List PlacedByte
without_comment_lines lines = flat_map (λ line. line) (filter (λ line. not (is_comment line)) lines)

line_left : (line : List PlacedByte) (lines : List (List PlacedByte)) (b : Bool) → is_comment line ≡ b
    → without_comment_lines (line ∷ lines) ≡ cond b (without_comment_lines lines) (line ++ without_comment_lines lines)
line_left line lines true e = rw e refl
line_left line lines false e = rw e refl

first_line : (comment : Bool) (x : PlacedByte) (xs t u v : List PlacedByte) (b : Bool) → (x.0 == 35) ≡ b → (x.0 == 10) ≡ false → HasNoNewline xs
    → ((c : ℕ) → (c == 10) ≡ false → without_comments true c t ≡ u) → ((c : ℕ) → (c == 10) ≡ false → without_comments false c t ≡ v)
    → without_comments comment 10 (x ∷ xs ++ t) ≡ cond b u (x ∷ xs ++ v)
first_line comment x xs t u v true e n none skipped kept = rw e (skip_line x.0 xs t u n none skipped)
first_line comment x xs t u v false e n none skipped kept = rw e (ap (λ r. x ∷ r) (keep_line x.0 xs t v n none kept))

lines_left : (comment : Bool) (text : List PlacedByte) (lines : List (List PlacedByte)) → AreLines text lines
    → without_comments comment 10 text ≡ without_comment_lines lines
lines_left comment _ _ no_lines = refl
lines_left comment _ _ (last_line [] some none) = absurd (some refl)
lines_left comment _ _ (last_line (x ∷ xs) some none) =
    ap (without_comments comment 10) (sym (append-nil (x ∷ xs)))
    ∙ first_line comment x xs [] [] [] (x.0 == 35) refl none.0 none.1 (λ c n. refl) (λ c n. refl)
    ∙ sym (line_left (x ∷ xs) [] (x.0 == 35) refl)
lines_left comment _ _ (line_and_rest [] rest at lines none are) = ap (λ r. (10, at) ∷ r) (lines_left false rest lines are)
lines_left comment _ _ (line_and_rest (x ∷ xs) rest at lines none are) =
    first_line comment x xs ((10, at) ∷ rest) (without_comment_lines lines) ((10, at) ∷ without_comment_lines lines) (x.0 == 35) refl none.0 none.1
    (λ c n. rw n (lines_left true rest lines are)) (λ c n. rw n (ap (λ r. (10, at) ∷ r) (lines_left false rest lines are)))
    ∙ ap (cond (x.0 == 35) (without_comment_lines lines)) (sym (append_assoc (x ∷ xs) ((10, at) ∷ []) (without_comment_lines lines)))
    ∙ sym (line_left (x ∷ xs ++ (10, at) ∷ []) lines (x.0 == 35) refl)

-- the lines of a text
more_line : (x : PlacedByte) (text : List PlacedByte) (lines : List (List PlacedByte)) → (x.0 == 10) ≡ false → AreLines text lines
    → (ls : List (List PlacedByte)) × AreLines (x ∷ text) ls
more_line x _ _ n no_lines = ((x ∷ []) ∷ [], last_line (x ∷ []) (λ e. cc) (n, tt))
more_line x _ _ n (last_line line some none) = ((x ∷ line) ∷ [], last_line (x ∷ line) (λ e. cc) (n, none))
more_line x _ _ n (line_and_rest line rest at lines none are) = ((x ∷ line ++ (10, at) ∷ []) ∷ lines, line_and_rest (x ∷ line) rest at lines (n, none) are)

some_lines : (text : List PlacedByte) → (lines : List (List PlacedByte)) × AreLines text lines
some_lines [] = ([], no_lines)
some_lines (x ∷ xs) =
    let (ls, are) = some_lines xs in
    elim (cases_Bool (x.0 == 10)) [
      | inl t ↦ (
        ((10, x.1) ∷ []) ∷ ls,
        subst (λ b. AreLines ((b, x.1) ∷ xs) (((10, x.1) ∷ []) ∷ ls)) (sym (eqb-true x.0 10 t))
            (line_and_rest [] xs x.1 ls tt are),
      )
      | inr f ↦ more_line x xs ls f are
    ]

-- ---- pieces and breaks

joined_piece : (piece t : List PlacedByte) → HasNoNewline piece → without_breaks false (piece ++ t) ≡ piece ++ without_breaks false t
joined_piece [] t none = refl
joined_piece (x ∷ xs) t none = rw none.0 (ap (λ r. x ∷ r) (joined_piece xs t none.1))

joined_run : (run t : List PlacedByte) → IsBlankRun run → without_breaks true (run ++ t) ≡ without_breaks true t
joined_run [] t blank = refl
joined_run (x ∷ xs) t blank = rw blank.0 (joined_run xs t blank.1)

both_false : (a w : Bool) (s t : List PlacedByte) → (a || w) ≡ false → cond (a || w) s t ≡ cond (a || false) s t
both_false true w s t h = cc
both_false false true s t h = cc
both_false false false s t h = refl

first_false : (a w : Bool) → (a || w) ≡ false → a ≡ false
first_false true w h = h
first_false false w h = refl

joined_end : (rest : List PlacedByte) → BeginsNoBlank rest → without_breaks true rest ≡ without_breaks false rest
joined_end [] none = refl
joined_end (x ∷ xs) none = both_false (x.0 == 10) (is_white_space x.0) (without_breaks true xs) (x ∷ without_breaks false xs) none

pub joins_so : (text kept : List PlacedByte) → Joins text kept → kept ≡ without_breaks false text
joins_so _ _ (last_piece piece none) = sym (ap (without_breaks false) (sym (append-nil piece)) ∙ joined_piece piece [] none ∙ append-nil piece)
joins_so _ _ (piece_and_break piece run rest kept at none blank ends more) =
    sym (joined_piece piece ((10, at) ∷ (run ++ rest)) none
    ∙ ap (λ r. piece ++ r) (joined_run run rest blank ∙ joined_end rest ends ∙ sym (joins_so rest kept more)))

byte_before : (x : PlacedByte) (text kept : List PlacedByte) → (x.0 == 10) ≡ false → Joins text kept → Joins (x ∷ text) (x ∷ kept)
byte_before x _ _ n (last_piece piece none) = last_piece (x ∷ piece) (n, none)
byte_before x _ _ n (piece_and_break piece run rest kept at none blank ends more) = piece_and_break (x ∷ piece) run rest kept at (n, none) blank ends more

-- a text joins to what is computed, by itself and after a newline
record Joining (text : List PlacedByte) : Type 0 where
  kept : Joins text (without_breaks false text)
  run : List PlacedByte
  rest : List PlacedByte
  whole : text ≡ run ++ rest
  blank : IsBlankRun run
  ends : BeginsNoBlank rest
  after : Joins rest (without_breaks true text)

joins_by_itself : (x : PlacedByte) (xs : List PlacedByte) → Joining xs → Joins (x ∷ xs) (without_breaks false (x ∷ xs))
joins_by_itself x xs later =
    elim (cases_Bool (x.0 == 10)) [
      | inl t ↦
          let from_rest = piece_and_break [] later.run later.rest (without_breaks true xs) x.1 tt later.blank later.ends later.after in
          let from_newline = subst (λ r. Joins ((10, x.1) ∷ r) (without_breaks true xs)) (sym later.whole) from_rest in
          rw t (subst (λ b. Joins ((b, x.1) ∷ xs) (without_breaks true xs)) (sym (eqb-true x.0 10 t)) from_newline)
      | inr f ↦ rw f (byte_before x xs (without_breaks false xs) f later.kept)
    ]

joining_before : (x : PlacedByte) (xs : List PlacedByte) → Joining xs → Joining (x ∷ xs)
joining_before x xs later =
    let kept = joins_by_itself x xs later in
    elim (cases_Bool (is_blank x.0)) [
      | inl t ↦ record {
        kept = kept;
        run = x ∷ later.run;
        rest = later.rest;
        whole = ap (λ r. x ∷ r) later.whole;
        blank = (t, later.blank);
        ends =
            later.ends;
        after = rw t later.after;
      }
      | inr f ↦ record {
        kept = kept;
        run = [];
        rest = x ∷ xs;
        whole = refl;
        blank = tt;
        ends = f;
        after = rw f (byte_before x xs (without_breaks false xs) (first_false (x.0 == 10) (is_white_space x.0) f) later.kept);
      }
    ]

joining : (text : List PlacedByte) → Joining text
joining [] = record { kept = last_piece [] tt; run = []; rest = []; whole = refl; blank = tt; ends = tt; after = last_piece [] tt }
joining (x ∷ xs) = joining_before x xs (joining xs)

pub folds_computed : (block : List ℕ) → Folds block (folding_of block)
folds_computed block =
    let whole = bytes_on_lines 1 block in
    let (ls, are) = some_lines whole in
    let text = without_comments false 10 whole in
    record {
      whole = whole;
      lines = ls;
      are_placed = are_placed_so block;
      are_lines = are;
      joins = subst (λ t. Joins t (without_breaks false text)) (lines_left false whole ls are) (joining text).kept;
    }

pub only_folded : (block : List ℕ) (text : List PlacedByte) → Folds block text → text ≡ folding_of block
only_folded block text f =
    let left = lines_left false f.whole f.lines f.are_lines in
    joins_so _ text f.joins ∙ ap (without_breaks false) (sym left ∙ ap (without_comments false 10) (one_placing block f.whole f.are_placed))

pub folding_is_computed : FoldingIsComputed
folding_is_computed = record { folds = folds_computed; only = only_folded }

pub each_is_folded : EachIsFolded
each_is_folded block = (folding_of block, folds_computed block)

pub one_folding : OneFolding
one_folding block one other f g = only_folded block one f ∙ sym (only_folded block other g)
