-- What is written in the place of a source.
use Rattle.std.proofs.Common.{◌≡◌, ◌+◌, ◌<◌, ◌==◌, ◌&&◌, ◌||◌, ℕ, suc, not, Bool, true, false, cond, List, [], ◌∷◌, ◌++◌, drop, get_or, length, refl, sym, ap, ◌∙◌, arith}
use Rattle.std.proofs.Math.Seq.{drop-cons}
use Rattle.std.specs.List.{list_any}
use Rattle.std.proofs.lemmas.Bool.{eqb-true, true≢false}
use Rattle.source_plain.specs.Laws.{IsPlain, LineEndsStay, WritingIsReadBack, WritingIsSettled, has_line}
use Rattle.source_plain.specs.Reading.{has_mark, is_return, is_return_at, mark, plain_lines, plain_source, without_mark}
use Rattle.source_plain.specs.Writing.{first_returns, has_return, mark_if, returns_if, with_returns, written_like}
use Rattle.source_plain.proofs.Returns.{no_newline_first, or_false, returns_read, starts_none, without_returns}

and_false : (b : Bool) → (b && false) ≡ false
and_false true = refl
and_false false = refl

-- a text without a CR has no line that ends in CR LF
pub no_return_byte : (text : List ℕ) → list_any is_return text ≡ false → has_return text ≡ false
no_return_byte [] e = refl
no_return_byte (byte ∷ text) e =
    let both = or_false (is_return byte) (list_any is_return text) e in
    rw (starts_none byte text both.0) (no_return_byte text both.1)

-- where no line ends in CR LF, the first does not
pub first_of_none : (text : List ℕ) → has_return text ≡ false → first_returns text ≡ false
first_of_none [] e = refl
first_of_none (byte ∷ text) e =
    let both = or_false (is_return_at (byte ∷ text)) (has_return text) e in
    rw (both.0, first_of_none text both.1) (and_false (not (byte == 10)))

-- where each line ends in CR LF, the first does, if there is one
pub first_of_all : (text : List ℕ) → has_line text ≡ true → first_returns (with_returns text) ≡ true
first_of_all [] e = absurd (true≢false (sym e))
first_of_all (byte ∷ text) e =
    elim (byte == 10) as (λ b. (byte == 10) ≡ b → (b || has_line text) ≡ true → first_returns (cond b (13 ∷ 10 ∷ with_returns text) (byte ∷ with_returns text)) ≡ true) [
      | true ↦ λ q h. refl
      | false ↦ λ q h. rw (no_newline_first byte text, q, first_of_all text h) refl
    ] refl e

-- a text of which no line is ended is the same with CR LF at the end of each
pub no_lines : (text : List ℕ) → has_line text ≡ false → with_returns text ≡ text
no_lines [] e = refl
no_lines (byte ∷ text) e =
    let both = or_false (byte == 10) (has_line text) e in
    rw (both.0, no_lines text both.1) refl

-- a text begins with a mark exactly if it does with CR LF at the end of each line
pub marks_stay : (text : List ℕ) → has_mark (with_returns text) ≡ has_mark text
marks_stay [] = refl
marks_stay (a ∷ []) =
    elim (a == 10) as (λ b. has_mark (cond b (13 ∷ 10 ∷ []) (a ∷ [])) ≡ false) [ true ↦ refl | false ↦ refl ]
marks_stay (a ∷ b ∷ []) =
    elim (b == 10) as (λ t. has_mark (cond (a == 10) (13 ∷ 10 ∷ cond t (13 ∷ 10 ∷ []) (b ∷ [])) (a ∷ cond t (13 ∷ 10 ∷ []) (b ∷ []))) ≡ false) [
      | true ↦ elim (a == 10) as (λ s. has_mark (cond s (13 ∷ 10 ∷ 13 ∷ 10 ∷ []) (a ∷ 13 ∷ 10 ∷ [])) ≡ false) [ true ↦ refl | false ↦ and_false (a == 239 && false) ]
      | false ↦ elim (a == 10) as (λ s. has_mark (cond s (13 ∷ 10 ∷ b ∷ []) (a ∷ b ∷ [])) ≡ false) [ true ↦ refl | false ↦ refl ]
    ]
marks_stay (a ∷ b ∷ c ∷ text) = third (a == 10) refl
  where
    -- of the first three bytes: each is a newline, or stays
    first : (more : List ℕ) → (a == 10) ≡ true → has_mark (13 ∷ 10 ∷ more) ≡ has_mark (a ∷ b ∷ c ∷ text)
    first [] e = rw (eqb-true a 10 e) refl
    first (d ∷ more) e = rw (eqb-true a 10 e) refl

    second : (b == 10) ≡ true → has_mark (a ∷ 13 ∷ 10 ∷ with_returns (c ∷ text)) ≡ has_mark (a ∷ b ∷ c ∷ text)
    second e = rw (eqb-true b 10 e, and_false (a == 239)) refl

    last : (t : Bool) → (c == 10) ≡ t → has_mark (a ∷ b ∷ cond t (13 ∷ 10 ∷ with_returns text) (c ∷ with_returns text)) ≡ has_mark (a ∷ b ∷ c ∷ text)
    last true e = rw (eqb-true c 10 e) refl
    last false e = refl

    middle : (t : Bool) → (b == 10) ≡ t
        → has_mark (a ∷ cond t (13 ∷ 10 ∷ with_returns (c ∷ text)) (b ∷ with_returns (c ∷ text))) ≡ has_mark (a ∷ b ∷ c ∷ text)
    middle true e = second e
    middle false e = last (c == 10) refl

    third : (t : Bool) → (a == 10) ≡ t
        → has_mark (cond t (13 ∷ 10 ∷ with_returns (b ∷ c ∷ text)) (a ∷ with_returns (b ∷ c ∷ text))) ≡ has_mark (a ∷ b ∷ c ∷ text)
    third true e = first (with_returns (b ∷ c ∷ text)) e
    third false e = middle (b == 10) refl

returns_keep_marks : (returns : Bool) (text : List ℕ) → has_mark (returns_if returns text) ≡ has_mark text
returns_keep_marks true text = marks_stay text
returns_keep_marks false text = refl

-- a mark is taken from a text that has none itself
mark_taken : (marked : Bool) (text : List ℕ) → (marked ≡ false → has_mark text ≡ false) → without_mark (mark_if marked ++ text) ≡ text
mark_taken true text h = refl
mark_taken false text h = rw (h refl) refl

lines_read : (returns : Bool) (text : List ℕ) → (returns ≡ false → has_return text ≡ false) → plain_lines (returns_if returns text) ≡ text
lines_read true text h = returns_read text
lines_read false text h = without_returns text (h refl)

pub read_back : WritingIsReadBack
read_back source text =
    let marked = has_mark source || has_mark text in
    let returns = first_returns source || has_return text in
    let unmarked : marked ≡ false → has_mark (returns_if returns text) ≡ false = (λ e. returns_keep_marks returns text ∙ (or_false (has_mark source) (has_mark text) e).1) in
    ap plain_lines (mark_taken marked (returns_if returns text) unmarked) ∙ lines_read returns text (λ e. (or_false (first_returns source) (has_return text) e).1)

-- what is written has a mark again
marked_again : (marked : Bool) (lines text : List ℕ) → has_mark lines ≡ has_mark text → (marked ≡ false → has_mark text ≡ false)
    → (has_mark (mark_if marked ++ lines) || has_mark text) ≡ marked
marked_again true lines text same h = refl
marked_again false lines text same h = rw (same, h refl) refl

past_mark : (marked : Bool) (lines : List ℕ) → first_returns (mark_if marked ++ lines) ≡ first_returns lines
past_mark true lines = rw (starts_none 191 lines refl) refl
past_mark false lines = refl

either_way : (returns : Bool) (text : List ℕ) → with_returns text ≡ text → returns_if returns text ≡ with_returns text
either_way true text e = refl
either_way false text e = sym e

-- and its lines end as before
returned_again : (returns : Bool) (text : List ℕ) → (returns ≡ false → has_return text ≡ false)
    → returns_if (first_returns (returns_if returns text) || has_return text) text ≡ returns_if returns text
returned_again true text h =
    elim (has_line text) as (λ b. has_line text ≡ b → returns_if (first_returns (with_returns text) || has_return text) text ≡ with_returns text) [
      | true ↦ λ e. rw (first_of_all text e) refl
      | false ↦ λ e. either_way (first_returns (with_returns text) || has_return text) text (no_lines text e)
    ] refl
returned_again false text h = rw (first_of_none text (h refl), h refl) refl

pub settled : WritingIsSettled
settled source text =
    let marked = has_mark source || has_mark text in
    let returns = first_returns source || has_return text in
    let lines = returns_if returns text in
    let marks : (has_mark (mark_if marked ++ lines) || has_mark text) ≡ marked =
    marked_again marked lines text (returns_keep_marks returns text) (λ e. (or_false (has_mark source) (has_mark text) e).1) in
    let ends : returns_if (first_returns (mark_if marked ++ lines) || has_return text) text ≡ lines =
    ap (λ (b : Bool). returns_if (b || has_return text) text) (past_mark marked lines)
    ∙ returned_again returns text (λ e. (or_false (first_returns source) (has_return text) e).1) in
    ap (λ (b : Bool). mark_if b ++ returns_if (first_returns (mark_if marked ++ lines) || has_return text) text) marks ∙ ap (λ (t : List ℕ). mark_if marked ++ t) ends

pub ends_stay : LineEndsStay
ends_stay = record {
  plain = λ source text is is_text. rw (is.mark, first_of_none source is.lines, is_text.mark, is_text.lines) refl;
  marked = λ source text is is_text.
      let first = past_mark true source ∙ first_of_none source is.lines in
      ap (λ (b : Bool). mark ++ returns_if (b || has_return text) text) first ∙ rw is_text.lines refl;
  returned = λ source text is ended is_text.
      ap (λ (b : Bool). mark_if (b || has_mark text) ++ returns_if (first_returns (with_returns source) || has_return text) text)
      (marks_stay source ∙ is.mark)
      ∙ ap (λ (b : Bool). mark_if (has_mark text) ++ returns_if (b || has_return text) text) (first_of_all source ended)
      ∙ ap (λ (b : Bool). mark_if b ++ with_returns text) is_text.mark;
  both = λ source text ended.
      ap (λ (b : Bool). mark ++ returns_if (b || has_return text) text) (past_mark true (with_returns source) ∙ first_of_all source ended);
}

-- one byte more was looked at
pub one_passed : (text : List ℕ) (at : ℕ) → at < length text → is_return_at (drop at text) ≡ false → has_return (drop at text) ≡ has_return text
    → has_return (drop (at + 1) text) ≡ has_return text
one_passed text at within here so_far =
    let cut : drop at text ≡ get_or text at 0 ∷ drop (at + 1) text =
    (let more : suc at ≡ at + 1 = omega arith in drop-cons text at 0 within ∙ ap (λ k. get_or text at 0 ∷ drop k text) more) in
    let kept : has_return (drop at text) ≡ has_return (drop (at + 1) text) = (let there = rw cut at here in rw (cut, there) refl) in
    sym kept ∙ so_far
