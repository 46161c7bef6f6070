-- An edit within a line keeps the comments and blank lines.
use Rattle.std.proofs.Common.{◌≡◌, ◌≤◌, ℕ, zero, suc, ◌+◌, ◌<◌, ◌-◌, ◌==◌, ◌||◌, Bool, true, false, cond, List, [], ◌∷◌, ◌++◌, append_assoc, drop, length, map, take, Option, None, Some}
use Rattle.std.proofs.Common.{add-one, get_or, inl, inr, refl, sym, ap, ap₂, subst, ◌∙◌, arith}
use Rattle.std.specs.List.{list_all, slice_range}
use Rattle.std.proofs.lemmas.Bool.{and_parts, cases_Bool, not-true}
use Rattle.std.proofs.lemmas.List.{append-nil, drop-drop, take-append-drop}
use Rattle.memchr.specs.Find.{IsLastByte, is_byte}
use Rattle.ti_text.specs.WhiteSpace.{is_white_space}
use Rattle.source_format.specs.Pieces.{is_kept, lines_of, with_first_byte}
use Rattle.source_keeping.specs.Keeping.{EditsInLinesKeepLines, KeepsLines, goes_on_line, has_no_newline, if_kept, open_line}

-- ---- the lines of a text after what a line begins with

-- a line, if there is one
ended : List ℕ → List (List ℕ)
ended [] = []
ended (x ∷ xs) = (x ∷ xs) ∷ []

lines_after : List ℕ → List ℕ → List (List ℕ)
lines_after line [] = ended line
lines_after line (x ∷ xs) = cond (x == 10) (line ∷ lines_after [] xs) (lines_after (line ++ x ∷ []) xs)

fronted : List ℕ → List (List ℕ) → List (List ℕ)
fronted line [] = ended line
fronted line (one ∷ lines) = (line ++ one) ∷ lines

ended_more : (line : List ℕ) (x : ℕ) → ended (line ++ x ∷ []) ≡ (line ++ x ∷ []) ∷ []
unfolding ended
ended_more [] x = refl
ended_more (y ∷ ys) x = refl

fronted_more : (line : List ℕ) (x : ℕ) (lines : List (List ℕ)) → fronted (line ++ x ∷ []) lines ≡ fronted line (with_first_byte x lines)
unfolding fronted
fronted_more line x [] = ended_more line x
fronted_more line x (one ∷ lines) = ap (λ (l : List ℕ). l ∷ lines) (append_assoc line (x ∷ []) one)

fronted_none : (lines : List (List ℕ)) → fronted [] lines ≡ lines
unfolding fronted ended
fronted_none [] = refl
fronted_none (one ∷ lines) = refl

lines_are : (line text : List ℕ) → lines_after line text ≡ fronted line (lines_of text)
unfolding lines_after fronted
lines_are line [] = refl
lines_are line (x ∷ xs) =
    elim (cases_Bool (x == 10)) [
      | inl t ↦ rw t (ap₂ (λ (l : List ℕ) (ls : List (List ℕ)). l ∷ ls) (sym (append-nil line)) (lines_are [] xs ∙ fronted_none (lines_of xs)))
      | inr f ↦ rw f (lines_are (line ++ x ∷ []) xs ∙ fronted_more line x (lines_of xs))
    ]

lines_from_start : (text : List ℕ) → lines_after [] text ≡ lines_of text
lines_from_start text = lines_are [] text ∙ fronted_none (lines_of text)

-- ---- lines of items

not_or : (a b : Bool) → (a || b) ≡ false → (a ≡ false) × (b ≡ false)
not_or true b e = cc
not_or false b e = (refl, e)

white_less : (line text : List ℕ) → list_all is_white_space line ≡ false → list_all is_white_space (line ++ text) ≡ false
white_less [] text e = cc
white_less (x ∷ xs) text e =
    elim (cases_Bool (is_white_space x)) [
      | inl t ↦ rw t (white_less xs text (rw t at e))
      | inr f ↦ rw f refl
    ]

-- it stays one with what comes after
items_more : (line text : List ℕ) → is_kept line ≡ false → is_kept (line ++ text) ≡ false
items_more [] text e = cc
items_more (x ∷ xs) text e =
    let both = not_or (x == 35) (list_all is_white_space (x ∷ xs)) e in
    rw both.0 (white_less (x ∷ xs) text both.1)

not_kept : (line : List ℕ) → is_kept line ≡ false → map if_kept (ended line) ≡ None ∷ []
unfolding ended
not_kept [] e = cc
not_kept (x ∷ xs) e = rw e refl

-- what comes after two lines of items
after_items : (one other text : List ℕ) → is_kept one ≡ false → is_kept other ≡ false → map if_kept (lines_after one text) ≡ map if_kept (lines_after other text)
unfolding lines_after
after_items one other [] is also = not_kept one is ∙ sym (not_kept other also)
after_items one other (x ∷ xs) is also =
    elim (cases_Bool (x == 10)) [
      | inl t ↦ rw (t, is, also) refl
      | inr f ↦ rw f (after_items (one ++ x ∷ []) (other ++ x ∷ []) xs (items_more one (x ∷ []) is) (items_more other (x ∷ []) also))
    ]

-- ---- an edit

within_line : (line text more : List ℕ) → has_no_newline text ≡ true → lines_after line (text ++ more) ≡ lines_after (line ++ text) more
unfolding lines_after
within_line line [] more none = ap (λ (l : List ℕ). lines_after l more) (sym (append-nil line))
within_line line (x ∷ xs) more none =
    let both = and_parts _ _ none in
    rw (not-true (x == 10) both.0)
    (within_line (line ++ x ∷ []) xs more both.1 ∙ ap (λ (l : List ℕ). lines_after l more) (append_assoc line (x ∷ []) xs))

-- what takes a place in a line of items
exchanged_after : (line front old new back : List ℕ) → goes_on_line (open_line line front) old ≡ true → goes_on_line (open_line line front) new ≡ true
    → map if_kept (lines_after line (front ++ (new ++ back))) ≡ map if_kept (lines_after line (front ++ (old ++ back)))
unfolding lines_after
exchanged_after line [] old new back was now =
    let was_both = and_parts _ _ was in
    let now_both = and_parts _ _ now in
    ap (map if_kept) (within_line line new back now_both.0)
    ∙ after_items (line ++ new) (line ++ old) back (not-true _ now_both.1) (not-true _ was_both.1)
    ∙ ap (map if_kept) (sym (within_line line old back was_both.0))
exchanged_after line (x ∷ xs) old new back was now =
    elim (cases_Bool (x == 10)) [
      | inl t ↦ rw t (ap (λ (ls : List (Option (List ℕ))). if_kept line ∷ ls) (exchanged_after [] xs old new back (rw t at was) (rw t at now)))
      | inr f ↦ rw f (exchanged_after (line ++ x ∷ []) xs old new back (rw f at was) (rw f at now))
    ]

-- texts that differ by it
pub exchange_keeps : (front old new back : List ℕ) → goes_on_line (open_line [] front) old ≡ true → goes_on_line (open_line [] front) new ≡ true
    → KeepsLines (front ++ (old ++ back)) (front ++ (new ++ back))
exchange_keeps front old new back was now =
    ap (map if_kept) (sym (lines_from_start (front ++ (new ++ back)))) ∙ exchanged_after [] front old new back was now
    ∙ ap (map if_kept) (lines_from_start (front ++ (old ++ back)))

-- a text in three parts
three_parts : (text : List ℕ) (start end : ℕ) → start ≤ end → take start text ++ (slice_range text start end ++ drop end text) ≡ text
three_parts text start end forward =
    ap (λ (t : List ℕ). take start text ++ (slice_range text start end ++ t))
    (ap (λ (n : ℕ). drop n text) (omega (arith, forward)) ∙ sym (drop-drop (end - start) start text))
    ∙ ap (λ (t : List ℕ). take start text ++ t) (take-append-drop (end - start) (drop start text)) ∙ take-append-drop start text

pub edits_keep : EditsInLinesKeepLines
edits_keep text start end new forward stays =
    let both = and_parts _ _ stays in
    subst (λ (t : List ℕ). KeepsLines t (take start text ++ (new ++ drop end text))) (three_parts text start end forward)
    (exchange_keeps (take start text) (slice_range text start end) new (drop end text) both.0 both.1)

-- ---- the line that a text ends in, found from its end

no_true : (b : Bool) → (b ≡ true → ⊥) → b ≡ false
no_true true never = absurd (never refl)
no_true false never = refl

open_plain : (line text : List ℕ) → ((k : ℕ) → k < length text → (get_or text k 0 == 10) ≡ true → ⊥) → open_line line text ≡ line ++ text
open_plain line [] none = sym (append-nil line)
open_plain line (x ∷ xs) none =
    rw (no_true (x == 10) (none 0 (omega arith)))
    (open_plain (line ++ x ∷ []) xs (λ k h. none (suc k) (omega (arith, h))) ∙ append_assoc line (x ∷ []) xs)

open_at : (line text : List ℕ) (n : ℕ) → n < length text → (get_or text n 0 == 10) ≡ true
    → ((k : ℕ) → n < k → k < length text → (get_or text k 0 == 10) ≡ true → ⊥) → open_line line text ≡ drop (suc n) text
open_at line [] n within is none = absurd (omega (arith, within))
open_at line (x ∷ xs) zero within is none = rw is (open_plain [] xs (λ k h. none (suc k) (omega arith) (omega (arith, h))))
open_at line (x ∷ xs) (suc n) within is none =
    elim (cases_Bool (x == 10)) [
      | inl t ↦ rw t (open_at [] xs n (omega (arith, within)) is (λ k a h. none (suc k) (omega (arith, a)) (omega (arith, h))))
      | inr f ↦ rw f (open_at (line ++ x ∷ []) xs n (omega (arith, within)) is (λ k a h. none (suc k) (omega (arith, a)) (omega (arith, h))))
    ]

pub open_found : (text : List ℕ) (n : ℕ) → IsLastByte (is_byte 10) text (Some n) → open_line [] text ≡ drop (n + 1) text
open_found text n last = rw add-one (open_at [] text n last.0.high last.1 (λ k a h is. last.0.after k (omega (arith, a)) h is))

pub open_missing : (text : List ℕ) → IsLastByte (is_byte 10) text None → open_line [] text ≡ text
open_missing text none = open_plain [] text (λ k h is. none k (omega arith) h is)
