-- The words of a text, from the left.
use Rattle.std.proofs.Common.{◌≡◌, ℕ, suc, ◌+◌, ◌-◌, ◌<◌, ◌≤◌, Bool, true, false, not, cond, List, [], ◌∷◌, ◌++◌, length, take}
use Rattle.std.proofs.Common.{drop, get_or, map, Some, None, refl, sym, subst, ap, ◌∙◌, ltb, arith, add-zero}
use Rattle.std.specs.Prelude.{filter, position}
use Rattle.std.specs.List.{onto_first, position_or_len, slice_split}
use Rattle.std.proofs.lemmas.Bool.{lt-ltb, not-true, ltb-true, ltb-false}
use Rattle.std.proofs.lemmas.List.{drop_all, get_or-drop, length-map, take_all, length-drop, length-take}
use Rattle.std.proofs.Math.Seq.{take-append_seam}
use Rattle.std.proofs.lemmas.List.Sums.{passes_at_first}
use Rattle.ti_text.specs.WhiteSpace.{is_white_space}
use Rattle.tools_tput.specs.Runs.{has_bytes, words_of}

-- ---- the first place that passes

some_when : (b : Bool) (n m : ℕ) → cond b (Some n) None ≡ Some m → (b ≡ true) × (n ≡ m)
some_when true n m e = (refl, cc)
some_when false n m e = absurd (cc)

none_when : (b : Bool) (n : ℕ) → cond b (Some n) None ≡ None → b ≡ false
none_when true n e = absurd (cc)
none_when false n e = refl

position-some : (p : ℕ → Bool) (xs : List ℕ) (n : ℕ) → position p xs ≡ Some n → (position_or_len p xs ≡ n) × (n < length xs)
position-some p xs n e =
    let h = some_when (ltb (position_or_len p xs) (length xs)) (position_or_len p xs) n e in
    let low : position_or_len p xs < length xs = ltb-true _ _ h.0 in
    let same : position_or_len p xs ≡ n = h.1 in
    (same, omega arith)

position-none : (p : ℕ → Bool) (xs : List ℕ) → position p xs ≡ None → length xs ≤ position_or_len p xs
position-none p xs e = ltb-false _ _ (none_when (ltb (position_or_len p xs) (length xs)) (position_or_len p xs) e)

-- ---- white space, and a word

drop-one : (n x : ℕ) (xs : List ℕ) → drop (1 + n) (x ∷ xs) ≡ drop n xs
drop-one n x xs = let e : 1 + n ≡ suc n = omega arith in rw e refl

take-one : (n x : ℕ) (xs : List ℕ) → take (1 + n) (x ∷ xs) ≡ x ∷ take n xs
take-one n x xs = let e : 1 + n ≡ suc n = omega arith in rw e refl

module _ (w : ℕ → Bool) where
  -- what separates words makes none in front
  skip : (t : List ℕ) → filter has_bytes (slice_split w (drop (position_or_len (λ byte. not (w byte)) t) t)) ≡ filter has_bytes (slice_split w t)
  skip [] = refl
  skip (x ∷ xs) =
      elim (w x) as (λ b. w x ≡ b → filter has_bytes (slice_split w (drop (cond (not (not b)) (1 + position_or_len (λ byte. not (w byte)) xs) 0) (x ∷ xs)))
      ≡ filter has_bytes (cond b ([] ∷ slice_split w xs) (onto_first x (slice_split w xs)))) [
        | true ↦ λ e. rw (drop-one (position_or_len (λ byte. not (w byte)) xs) x xs) (skip xs)
        | false ↦ λ e. rw e refl
      ] refl

  -- the first part of a text that is cut, and the parts of what follows it
  first_part : (t : List ℕ) → (parts : List (List ℕ)) × (slice_split w t ≡ take (position_or_len w t) t ∷ parts)
      × (filter has_bytes parts ≡ filter has_bytes (slice_split w (drop (position_or_len w t) t)))
  first_part [] = ([], refl, refl)
  first_part (x ∷ xs) =
      elim (w x) as (λ b. w x ≡ b → (parts : List (List ℕ)) × (cond b ([] ∷ slice_split w xs) (onto_first x (slice_split w xs))
      ≡ take (cond (not b) (1 + position_or_len w xs) 0) (x ∷ xs) ∷ parts)
      × (filter has_bytes parts ≡ filter has_bytes (slice_split w (drop (cond (not b) (1 + position_or_len w xs) 0) (x ∷ xs))))) [
        | true ↦ λ e. (slice_split w xs, refl, rw e refl)
        | false ↦ λ e. let h = first_part xs in
            (h.0, rw (h.1, take-one (position_or_len w xs) x xs) refl, rw (drop-one (position_or_len w xs) x xs) h.2)
      ] refl

  -- a part that has bytes is a word
  first_word : (t : List ℕ) → 0 < length (take (position_or_len w t) t)
      → filter has_bytes (slice_split w t) ≡ take (position_or_len w t) t ∷ filter has_bytes (slice_split w (drop (position_or_len w t) t))
  first_word t some =
      let h = first_part t in
      let passes : has_bytes (take (position_or_len w t) t) ≡ true = lt-ltb _ _ some in
      rw (h.1, passes, h.2) refl

-- the parts of a word that is followed by white space
pub words_of-none : (t : List ℕ) → position (λ byte. not (is_white_space byte)) t ≡ None → words_of t ≡ []
unfolding words_of
words_of-none t e =
    let none : drop (position_or_len (λ byte. not (is_white_space byte)) t) t ≡ [] = drop_all _ t (position-none _ t e) in
    sym (skip is_white_space t) ∙ ap (λ (x : List ℕ). filter has_bytes (slice_split is_white_space x)) none

pub words_of-start : (t : List ℕ) (n : ℕ) → position (λ byte. not (is_white_space byte)) t ≡ Some n
    → (words_of t ≡ words_of (drop n t)) × (n < length t) × (is_white_space (get_or (drop n t) 0 0) ≡ false)
unfolding words_of
words_of-start t n e =
    let h = position-some (λ byte. not (is_white_space byte)) t n e in
    let passes : not (is_white_space (get_or t (position_or_len (λ byte. not (is_white_space byte)) t) 0)) ≡ true =
    passes_at_first (λ byte. not (is_white_space byte)) t 0 (rw h.0 h.1) in (
      rw (← h.0) (sym (skip is_white_space t)),
      h.1,
      rw (get_or-drop n t 0 0) (not-true _ (subst (λ (k : ℕ). not (is_white_space (get_or t k 0)) ≡ true) (h.0 ∙ sym (add-zero n)) passes)),
    )

has_front : (w : ℕ → Bool) (t : List ℕ) → 0 < length t → w (get_or t 0 0) ≡ false → 0 < length (take (position_or_len w t) t)
has_front w [] some e = absurd (omega arith)
has_front w (x ∷ xs) some e = rw (e, take-one (position_or_len w xs) x xs) (omega arith)

module _ (t rest : List ℕ) (n : ℕ) (start : position (λ byte. not (is_white_space byte)) t ≡ Some n)
    (is : rest ≡ take (length t - n) (drop n t)) where
  whole : rest ≡ drop n t
  whole = is ∙ take_all (length t - n) (drop n t) (omega (arith, length-drop n t))

  some : 0 < length rest
  some = let h = words_of-start t n start in let low : n < length t = h.1 in rw whole (omega (arith, length-drop n t))

  shorter : (k : ℕ) → 0 < k → length (drop k rest) < length t
  shorter k pos =
      let h = words_of-start t n start in
      let low : n < length t = h.1 in
      let l : length rest ≡ length t - n = ap length whole ∙ length-drop n t in
      omega (arith, length-drop k rest)

  front : 0 < length (take (position_or_len is_white_space rest) rest)
  front =
      let h = words_of-start t n start in
      has_front is_white_space rest some (rw whole h.2)

  words : words_of t ≡ take (position_or_len is_white_space rest) rest ∷ words_of (drop (position_or_len is_white_space rest) rest)
  unfolding words_of
  words = (words_of-start t n start).0 ∙ ap words_of (sym whole) ∙ first_word is_white_space rest front

  pub words_of-some : (k : ℕ) → position is_white_space rest ≡ Some k
      → (words_of t ≡ take k rest ∷ words_of (drop k rest)) × (length (drop k rest) < length t)
  words_of-some k e =
      let h = position-some is_white_space rest k e in
      let long : 0 < length (take (position_or_len is_white_space rest) rest) = front in (
        rw (← h.0) words,
        shorter k (let at : position_or_len is_white_space rest ≡ k = h.0 in
            omega (arith, length-take (position_or_len is_white_space rest) rest)),
      )

  pub words_of-last : position is_white_space rest ≡ None → (words_of t ≡ rest ∷ words_of []) × (0 < length t)
  words_of-last e =
      let h = words_of-start t n start in
      let low : n < length t = h.1 in
      let far : length rest ≤ position_or_len is_white_space rest = position-none is_white_space rest e in (
        rw (take_all (position_or_len is_white_space rest) rest far, drop_all (position_or_len is_white_space rest) rest far) at words,
        omega arith,
      )

-- the given number of words, at the front of more
pub take_front : {X : Type 0} (all : List (List ℕ)) (f : X → List ℕ) (xs : List X) (more : List (List ℕ)) (n : ℕ) → all ≡ map f xs ++ more → length xs ≡ n
    → map f xs ≡ take n all
take_front all f xs more n is len =
    let same : length (map f xs) ≡ n = length-map xs f ∙ len in
    rw (is, ← same) (sym (take-append_seam (map f xs) more))
