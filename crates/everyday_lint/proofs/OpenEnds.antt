-- A text that ends with no newline ends with none once bytes of it are exchanged within lines of items.
use Rattle.std.proofs.Common.{◌≡◌, ◌≢◌, ◌⊎◌, ℕ, zero, suc, ◌+◌, ◌-◌, ◌==◌, ◌||◌, Bool, true, false, List, [], ◌∷◌, ◌++◌, append_assoc, drop, length, take, inl}
use Rattle.std.proofs.Common.{inr, refl, sym, ap, subst, ◌∙◌, arith}
use Rattle.std.specs.List.{AllByRecursion, list_all}
use Rattle.std.proofs.Math.Seq.{take-add}
use Rattle.std.proofs.lemmas.Bool.{and_parts, cases_Bool, eq-eqb, eqb-true, not-true}
use Rattle.std.proofs.lemmas.List.{append-nil, drop-drop, take-append-drop}
use Rattle.ti_text.specs.Texts.{last_byte}
use Rattle.ti_text.specs.WhiteSpace.{is_white_space}
use Rattle.source_format.specs.Pieces.{is_kept}
use Rattle.source_keeping.specs.Keeping.{goes_on_line, has_no_newline, open_line, stays_in_line}
use Rattle.everyday_lint.proofs.Changes.{Change, Rise, changed}

-- ---- the last byte

pub last_both : (before : ℕ) (one other : List ℕ) → last_byte before (one ++ other) ≡ last_byte (last_byte before one) other
last_both before [] other = refl
last_both before (x ∷ xs) other = last_both x xs other

last_kept : (before n : ℕ) (text : List ℕ) (x : ℕ) (xs : List ℕ) → drop n text ≡ x ∷ xs → last_byte before text ≡ last_byte x xs
last_kept before zero [] x xs e = cc
last_kept before (suc n) [] x xs e = cc
last_kept before zero (y ∷ ys) x xs e = ap (last_byte before) e
last_kept before (suc n) (y ∷ ys) x xs e = last_kept y n ys x xs e

-- a text ends with a newline as the line that it ends in is empty
ends_empty : (line : List ℕ) (before : ℕ) (text : List ℕ) → (before ≡ 10 → line ≡ []) → last_byte before text ≡ 10 → open_line line text ≡ []
ends_empty line before [] start ends = start ends
ends_empty line before (x ∷ xs) start ends =
    elim (cases_Bool (x == 10)) [
      | inl t ↦ rw t (ends_empty [] x xs (λ e. refl) ends)
      | inr f ↦ rw f (ends_empty (line ++ x ∷ []) x xs (λ e. let yes = eq-eqb x 10 e in absurd cc) ends)
    ]

more_some : (line : List ℕ) (x : ℕ) → line ++ x ∷ [] ≡ [] → ⊥
more_some [] x e = cc
more_some (y ∷ ys) x e = cc

empty_ends : (line : List ℕ) (before : ℕ) (text : List ℕ) → (line ≡ [] → before ≡ 10) → open_line line text ≡ [] → last_byte before text ≡ 10
empty_ends line before [] start empty = start empty
empty_ends line before (x ∷ xs) start empty =
    elim (cases_Bool (x == 10)) [
      | inl t ↦ empty_ends [] x xs (λ e. eqb-true x 10 t) (rw t at empty)
      | inr f ↦ empty_ends (line ++ x ∷ []) x xs (λ e. absurd (more_some line x e)) (rw f at empty)
    ]

-- ---- lines of items

not_or : (a b : Bool) → (a || b) ≡ false → (a ≡ false) × (b ≡ false)
not_or true b e = cc
not_or false b e = (refl, e)

white_less : (line text : List ℕ) → list_all is_white_space line ≡ false → list_all is_white_space (line ++ text) ≡ false
white_less [] text e = cc
white_less (x ∷ xs) text e =
    elim (cases_Bool (is_white_space x)) [
      | inl t ↦ rw t (white_less xs text (rw t at e))
      | inr f ↦ rw f refl
    ]

-- a line of items stays one with what comes after
items_more : (line text : List ℕ) → is_kept line ≡ false → is_kept (line ++ text) ≡ false
items_more [] text e = cc
items_more (x ∷ xs) text e =
    let both = not_or (x == 35) (list_all is_white_space (x ∷ xs)) e in
    rw both.0 (white_less (x ∷ xs) text both.1)

open_both : (line one other : List ℕ) → open_line line (one ++ other) ≡ open_line (open_line line one) other
open_both line [] other = refl
open_both line (x ∷ xs) other =
    elim (cases_Bool (x == 10)) [
      | inl t ↦ rw t (open_both [] xs other)
      | inr f ↦ rw f (open_both (line ++ x ∷ []) xs other)
    ]

open_within : (line text : List ℕ) → has_no_newline text ≡ true → open_line line text ≡ line ++ text
open_within line [] none = sym (append-nil line)
open_within line (x ∷ xs) none =
    let both = and_parts _ _ none in
    rw (not-true (x == 10) both.0) (open_within (line ++ x ∷ []) xs both.1 ∙ append_assoc line (x ∷ []) xs)

-- a line is as another is, or is one of items
abbrev Alike : List ℕ → List ℕ → Type 0
Alike one other = (one ≡ other) ⊎ (is_kept one ≡ false)

items_alike : (one other text : List ℕ) → is_kept one ≡ false → Alike (open_line one text) (open_line other text)
items_alike one other [] is = inr is
items_alike one other (x ∷ xs) is =
    elim (cases_Bool (x == 10)) [
      | inl t ↦ rw t (inl refl)
      | inr f ↦ rw f (items_alike (one ++ x ∷ []) (other ++ x ∷ []) xs (items_more one (x ∷ []) is))
    ]

alike_more : (one other text : List ℕ) → Alike one other → Alike (open_line one text) (open_line other text)
alike_more one other text (inl same) = inl (ap (λ (line : List ℕ). open_line line text) same)
alike_more one other text (inr is) = items_alike one other text is

-- what goes on a line of items goes on one that is alike
goes_alike : (one other text : List ℕ) → Alike one other → goes_on_line other text ≡ true → is_kept (open_line one text) ≡ false
goes_alike one other text alike goes =
    let both = and_parts _ _ goes in
    ap is_kept (open_within one text both.0)
    ∙ elim alike [
      | inl same ↦ ap (λ (line : List ℕ). is_kept (line ++ text)) same ∙ not-true _ both.1
      | inr is ↦ items_more one text is
    ]

-- ---- a text with changes

-- each change is within a line of items
abbrev pub AreInLines : List ℕ → List Change → Type 0
AreInLines text cs = AllByRecursion (λ (c : Change). stays_in_line text c.at (suc c.at) c.text ≡ true) cs

empty_kept : (line : List ℕ) → is_kept line ≡ false → line ≡ [] → ⊥
empty_kept [] is e = cc
empty_kept (x ∷ xs) is e = cc

open_end : (out text : List ℕ) → Alike (open_line [] out) (open_line [] text) → last_byte 10 text ≢ 10 → last_byte 10 out ≢ 10
open_end out text alike unended ends =
    let empty = ends_empty [] 10 out (λ e. refl) ends in
    elim alike [
      | inl same ↦ unended (empty_ends [] 10 text (λ e. refl) (sym same ∙ empty))
      | inr is ↦ empty_kept (open_line [] out) is empty
    ]

none_left : (text : List ℕ) (n : ℕ) (left out : List ℕ) → drop n text ≡ left → Alike (open_line [] out) (open_line [] (take n text)) → last_byte 10 text ≢ 10
    → last_byte 10 (out ++ left) ≢ 10
none_left text n [] out e alike unended ends =
    let all : take n text ≡ text = sym (append-nil (take n text)) ∙ ap (λ (t : List ℕ). take n text ++ t) (sym e) ∙ take-append-drop n text in
    open_end out text (subst (λ (t : List ℕ). Alike (open_line [] out) (open_line [] t)) all alike) unended
    (ap (last_byte 10) (sym (append-nil out)) ∙ ends)
none_left text n (x ∷ xs) out e alike unended ends = unended (last_kept 10 n text x xs e ∙ sym (last_both 10 out (x ∷ xs)) ∙ ends)

-- what is written so far is alike, and so the end is
pub still_open_from : (text : List ℕ) (n : ℕ) (cs : List Change) (out : List ℕ) → Rise n (length text) cs → AreInLines text cs
    → Alike (open_line [] out) (open_line [] (take n text)) → last_byte 10 text ≢ 10 → last_byte 10 (out ++ changed n (drop n text) cs) ≢ 10
still_open_from text n [] out rise lines alike unended = none_left text n (drop n text) out refl alike unended
still_open_from text n (c ∷ cs) out rise lines alike unended =
    let first = rise.0 in
    let part = take (c.at - n) (drop n text) in
    let now = (out ++ part) ++ c.text in
    let upto : c.at ≡ n + (c.at - n) = omega (arith, first) in
    let past : n + (suc c.at - n) ≡ suc c.at = omega (arith, first) in
    let here : take n text ++ part ≡ take c.at text = sym (ap (λ (k : ℕ). take k text) upto ∙ take-add n (c.at - n) text) in
    let before : Alike (open_line [] (out ++ part)) (open_line [] (take c.at text)) =
    subst (λ (t : List ℕ). Alike (open_line [] (out ++ part)) (open_line [] t)) here
    (subst (λ (l : List ℕ). Alike l (open_line [] (take n text ++ part))) (sym (open_both [] out part))
    (subst (λ (l : List ℕ). Alike (open_line (open_line [] out) part) l) (sym (open_both [] (take n text) part))
    (alike_more (open_line [] out) (open_line [] (take n text)) part alike))) in
    let goes = and_parts _ _ lines.0 in
    let items : is_kept (open_line [] now) ≡ false =
    ap is_kept (open_both [] (out ++ part) c.text)
    ∙ goes_alike (open_line [] (out ++ part)) (open_line [] (take c.at text)) c.text before goes.1 in
    let rest : drop (suc c.at - n) (drop n text) ≡ drop (suc c.at) text =
    drop-drop (suc c.at - n) n text ∙ ap (λ (k : ℕ). drop k text) past in
    let joined : out ++ (part ++ (c.text ++ changed (suc c.at) (drop (suc c.at - n) (drop n text)) cs)) ≡ now ++ changed (suc c.at) (drop (suc c.at) text) cs =
    ap (λ (t : List ℕ). out ++ (part ++ (c.text ++ changed (suc c.at) t cs))) rest
    ∙ regrouped out part c.text (changed (suc c.at) (drop (suc c.at) text) cs) in
    λ ends.
    still_open_from text (suc c.at) cs now rise.1 lines.1 (inr items) unended (ap (last_byte 10) (sym joined) ∙ ends)
  where
    regrouped : (one two three four : List ℕ) → one ++ (two ++ (three ++ four)) ≡ ((one ++ two) ++ three) ++ four
    regrouped one two three four = simp append_assoc

pub still_open : (text : List ℕ) (cs : List Change) → Rise 0 (length text) cs → AreInLines text cs → last_byte 10 text ≢ 10
    → last_byte 10 (changed 0 text cs) ≢ 10
still_open text cs rise lines unended = still_open_from text 0 cs [] rise lines (inl refl) unended
