-- The folded text of a block is the one that is computed.
use Rattle.std.proofs.Common.{◌≡◌, ℕ, Bool, true, false, ◌==◌, ◌||◌, ◌&&◌, cond, List, [], ◌∷◌, ◌++◌, append_assoc, refl, sym, ap, ap₂, ◌∙◌, subst, inl, inr}
use Rattle.std.proofs.lemmas.Bool.{cases_Bool, eqb-true}
use Rattle.std.proofs.lemmas.List.{append-nil}
use Rattle.ti_text.specs.WhiteSpace.{is_white_space}
use Rattle.ti_source.specs.Folding.{PlacedByte, HasNoNewline, AreLines, no_lines, last_line, line_and_rest, is_comment, is_blank, IsBlankRun, BeginsNoBlank}
use Rattle.ti_source.specs.Folding.{Joins, last_piece, piece_and_break}
use Rattle.ti_source.specs.inside.Folding.{without_breaks as breaks_left}
use Rattle.ti_source.proofs.FoldingLaws.{joins_so}
use Rattle.source_spans.specs.Folding.{FoldedIsComputed, bytes_at, kept_of, without_breaks, without_comments}

-- ---- lines, and those that are no comments

-- of a comment nothing stays; of another line everything stays
skip_line : (before : ℕ) (xs t u : List PlacedByte) → (before == 10) ≡ false → HasNoNewline xs → ((c : ℕ) → (c == 10) ≡ false → without_comments true c t ≡ u)
    → without_comments true before (xs ++ t) ≡ u
skip_line before [] t u b none end = end before b
skip_line before (x ∷ xs) t u b none end = rw b (skip_line x.0 xs t u none.0 none.1 end)

keep_line : (before : ℕ) (xs t u : List PlacedByte) → (before == 10) ≡ false → HasNoNewline xs → ((c : ℕ) → (c == 10) ≡ false → without_comments false c t ≡ u)
    → without_comments false before (xs ++ t) ≡ xs ++ u
keep_line before [] t u b none end = end before b
keep_line before (x ∷ xs) t u b none end = rw b (ap (λ r. x ∷ r) (keep_line x.0 xs t u none.0 none.1 end))

line_left : (line : List PlacedByte) (lines : List (List PlacedByte)) (b : Bool) → is_comment line ≡ b
    → kept_of (line ∷ lines) ≡ cond b (kept_of lines) (line ++ kept_of lines)
line_left line lines true e = rw e refl
line_left line lines false e = rw e refl

first_line : (comment : Bool) (x : PlacedByte) (xs t u v : List PlacedByte) (b : Bool) → (x.0 == 35) ≡ b → (x.0 == 10) ≡ false → HasNoNewline xs
    → ((c : ℕ) → (c == 10) ≡ false → without_comments true c t ≡ u) → ((c : ℕ) → (c == 10) ≡ false → without_comments false c t ≡ v)
    → without_comments comment 10 (x ∷ xs ++ t) ≡ cond b u (x ∷ xs ++ v)
first_line comment x xs t u v true e n none skipped kept = rw e (skip_line x.0 xs t u n none skipped)
first_line comment x xs t u v false e n none skipped kept = rw e (ap (λ r. x ∷ r) (keep_line x.0 xs t v n none kept))

lines_left : (comment : Bool) (text : List PlacedByte) (lines : List (List PlacedByte)) → AreLines text lines → without_comments comment 10 text ≡ kept_of lines
lines_left comment _ _ no_lines = refl
lines_left comment _ _ (last_line [] some none) = absurd (some refl)
lines_left comment _ _ (last_line (x ∷ xs) some none) =
    ap (without_comments comment 10) (sym (append-nil (x ∷ xs)))
    ∙ first_line comment x xs [] [] [] (x.0 == 35) refl none.0 none.1 (λ c n. refl) (λ c n. refl)
    ∙ sym (line_left (x ∷ xs) [] (x.0 == 35) refl)
lines_left comment _ _ (line_and_rest [] rest at lines none are) = ap (λ r. (10, at) ∷ r) (lines_left false rest lines are)
lines_left comment _ _ (line_and_rest (x ∷ xs) rest at lines none are) =
    first_line comment x xs ((10, at) ∷ rest) (kept_of lines) ((10, at) ∷ kept_of lines) (x.0 == 35) refl none.0 none.1
    (λ c n. rw n (lines_left true rest lines are)) (λ c n. rw n (ap (λ r. (10, at) ∷ r) (lines_left false rest lines are)))
    ∙ ap (cond (x.0 == 35) (kept_of lines)) (sym (append_assoc (x ∷ xs) ((10, at) ∷ []) (kept_of lines)))
    ∙ sym (line_left (x ∷ xs ++ (10, at) ∷ []) lines (x.0 == 35) refl)

-- the lines of a text
more_line : (x : PlacedByte) (text : List PlacedByte) (lines : List (List PlacedByte)) → (x.0 == 10) ≡ false → AreLines text lines
    → (ls : List (List PlacedByte)) × AreLines (x ∷ text) ls
more_line x _ _ n no_lines = ((x ∷ []) ∷ [], last_line (x ∷ []) (λ e. cc) (n, tt))
more_line x _ _ n (last_line line some none) = ((x ∷ line) ∷ [], last_line (x ∷ line) (λ e. cc) (n, none))
more_line x _ _ n (line_and_rest line rest at lines none are) = ((x ∷ line ++ (10, at) ∷ []) ∷ lines, line_and_rest (x ∷ line) rest at lines (n, none) are)

some_lines : (text : List PlacedByte) → (lines : List (List PlacedByte)) × AreLines text lines
some_lines [] = ([], no_lines)
some_lines (x ∷ xs) =
    let (ls, are) = some_lines xs in
    elim (cases_Bool (x.0 == 10)) [
      | inl t ↦ (
        ((10, x.1) ∷ []) ∷ ls,
        subst (λ b. AreLines ((b, x.1) ∷ xs) (((10, x.1) ∷ []) ∷ ls)) (sym (eqb-true x.0 10 t))
            (line_and_rest [] xs x.1 ls tt are),
      )
      | inr f ↦ more_line x xs ls f are
    ]

-- ---- pieces and breaks

first_false : (a w : Bool) → (a || w) ≡ false → a ≡ false
first_false true w h = h
first_false false w h = refl

byte_before : (x : PlacedByte) (text kept : List PlacedByte) → (x.0 == 10) ≡ false → Joins text kept → Joins (x ∷ text) (x ∷ kept)
byte_before x _ _ n (last_piece piece none) = last_piece (x ∷ piece) (n, none)
byte_before x _ _ n (piece_and_break piece run rest kept at none blank ends more) = piece_and_break (x ∷ piece) run rest kept at (n, none) blank ends more

-- a text joins to what is computed, by itself and after a newline
record Joining (text : List PlacedByte) : Type 0 where
  kept : Joins text (without_breaks false text)
  run : List PlacedByte
  rest : List PlacedByte
  whole : text ≡ run ++ rest
  blank : IsBlankRun run
  ends : BeginsNoBlank rest
  after : Joins rest (without_breaks true text)

joins_by_itself : (x : PlacedByte) (xs : List PlacedByte) → Joining xs → Joins (x ∷ xs) (without_breaks false (x ∷ xs))
joins_by_itself x xs later =
    elim (cases_Bool (x.0 == 10)) [
      | inl t ↦
          let from_rest = piece_and_break [] later.run later.rest (without_breaks true xs) x.1 tt later.blank later.ends later.after in
          let from_newline = subst (λ r. Joins ((10, x.1) ∷ r) (without_breaks true xs)) (sym later.whole) from_rest in
          rw t (subst (λ b. Joins ((b, x.1) ∷ xs) (without_breaks true xs)) (sym (eqb-true x.0 10 t)) from_newline)
      | inr f ↦ rw f (byte_before x xs (without_breaks false xs) f later.kept)
    ]

joining_before : (x : PlacedByte) (xs : List PlacedByte) → Joining xs → Joining (x ∷ xs)
joining_before x xs later =
    let kept = joins_by_itself x xs later in
    elim (cases_Bool (is_blank x.0)) [
      | inl t ↦ record {
        kept = kept;
        run = x ∷ later.run;
        rest = later.rest;
        whole = ap (λ r. x ∷ r) later.whole;
        blank = (t, later.blank);
        ends =
            later.ends;
        after = rw t later.after;
      }
      | inr f ↦ record {
        kept = kept;
        run = [];
        rest = x ∷ xs;
        whole = refl;
        blank = tt;
        ends = f;
        after = rw f (byte_before x xs (without_breaks false xs) (first_false (x.0 == 10) (is_white_space x.0) f) later.kept);
      }
    ]

joining : (text : List PlacedByte) → Joining text
joining [] = record { kept = last_piece [] tt; run = []; rest = []; whole = refl; blank = tt; ends = tt; after = last_piece [] tt }
joining (x ∷ xs) = joining_before x xs (joining xs)

-- ---- the law, and that no other text is folded

pub folded_computed : FoldedIsComputed
folded_computed block =
    let whole = bytes_at 0 block in
    let (ls, are) = some_lines whole in
    let text = without_comments false 10 whole in
    record {
      lines = ls;
      are_lines = are;
      joins = subst (λ t. Joins t (without_breaks false text)) (lines_left false whole ls are) (joining text).kept;
    }

same_breaks : (joining : Bool) (text : List PlacedByte) → breaks_left joining text ≡ without_breaks joining text
same_breaks joining [] = refl
same_breaks joining (x ∷ xs) =
    ap₂ (λ (out kept : List PlacedByte). cond (x.0 == 10 || (joining && is_white_space x.0)) out (x ∷ kept)) (same_breaks true xs) (same_breaks false xs)

-- what is left of a text that is these lines
pub left_of : (whole : List PlacedByte) (lines : List (List PlacedByte)) (text : List PlacedByte) → AreLines whole lines → Joins (kept_of lines) text
    → text ≡ without_breaks false (without_comments false 10 whole)
left_of whole lines text are joins =
    joins_so _ text joins ∙ same_breaks false (kept_of lines) ∙ ap (without_breaks false) (sym (lines_left false whole lines are))

-- ---- a line of a text, and what is left after it

-- the byte before the front of a line says what it is
same_start : (text : List PlacedByte) → without_comments true 10 text ≡ without_comments false 10 text
same_start [] = refl
same_start (x ∷ xs) = refl

pub comment_read : (line rest : List PlacedByte) (at : ℕ) → HasNoNewline line → is_comment line ≡ true
    → without_comments false 10 (line ++ (10, at) ∷ rest) ≡ without_comments false 10 rest
comment_read [] rest at none is = cc
comment_read (x ∷ xs) rest at none is =
    first_line false x xs ((10, at) ∷ rest) (without_comments true 10 rest) ((10, at) ∷ without_comments false 10 rest) true is none.0 none.1
    (λ c n. rw n refl) (λ c n. rw n refl) ∙ same_start rest

pub comment_at_end : (line : List PlacedByte) → HasNoNewline line → is_comment line ≡ true → without_comments false 10 line ≡ []
comment_at_end [] none is = refl
comment_at_end (x ∷ xs) none is =
    ap (without_comments false 10) (sym (append-nil (x ∷ xs))) ∙ first_line false x xs [] [] [] true is none.0 none.1 (λ c n. refl) (λ c n. refl)

line_kept : (line rest : List PlacedByte) (at : ℕ) → HasNoNewline line → is_comment line ≡ false
    → without_comments false 10 (line ++ (10, at) ∷ rest) ≡ line ++ (10, at) ∷ without_comments false 10 rest
line_kept [] rest at none is = refl
line_kept (x ∷ xs) rest at none is =
    first_line false x xs ((10, at) ∷ rest) (without_comments true 10 rest) ((10, at) ∷ without_comments false 10 rest) false is none.0 none.1
    (λ c n. rw n refl) (λ c n. rw n refl)

pub line_at_end : (line : List PlacedByte) → HasNoNewline line → is_comment line ≡ false → without_comments false 10 line ≡ line
line_at_end [] none is = refl
line_at_end (x ∷ xs) none is =
    ap (without_comments false 10) (sym (append-nil (x ∷ xs))) ∙ first_line false x xs [] [] [] false is none.0 none.1 (λ c n. refl) (λ c n. refl)
    ∙ append-nil (x ∷ xs)

-- white space at the front of a line that is after a break
pub white_first : (x : PlacedByte) (xs : List PlacedByte) → (x.0 == 10) ≡ false → is_white_space x.0 ≡ true
    → without_breaks true (x ∷ xs) ≡ without_breaks true xs
white_first x xs n white = rw (n, white) refl

pub plain_line : (line : List PlacedByte) → HasNoNewline line → without_breaks false line ≡ line
plain_line [] none = refl
plain_line (x ∷ xs) none = rw none.0 (ap (λ t. x ∷ t) (plain_line xs none.1))

-- a line and its newline
line_broken : (joining : Bool) (line rest : List PlacedByte) (at : ℕ) → HasNoNewline line
    → without_breaks joining (line ++ (10, at) ∷ rest) ≡ without_breaks joining line ++ without_breaks true rest
line_broken joining [] rest at none = refl
line_broken joining (x ∷ xs) rest at none =
    elim (cases_Bool (joining && is_white_space x.0)) [
      | inl t ↦ rw (none.0, t) (line_broken true xs rest at none.1)
      | inr f ↦ rw (none.0, f) (ap (λ r. x ∷ r) (line_broken false xs rest at none.1))
    ]

pub line_read : (joining : Bool) (line rest : List PlacedByte) (at : ℕ) → HasNoNewline line → is_comment line ≡ false
    → without_breaks joining (without_comments false 10 (line ++ (10, at) ∷ rest))
    ≡ without_breaks joining line ++ without_breaks true (without_comments false 10 rest)
line_read joining line rest at none is =
    ap (without_breaks joining) (line_kept line rest at none is) ∙ line_broken joining line (without_comments false 10 rest) at none
