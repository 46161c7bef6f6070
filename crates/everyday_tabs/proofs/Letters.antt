-- The options of letters, one after another.
use Rattle.std.proofs.Common.{◌≡◌, ◌∙◌, ◌+◌, ◌-◌, ◌<◌, ◌≤◌, ℕ, Bool, true, false, cond, List, [], ◌∷◌, ◌++◌, length, drop, get_or, take, sym, ap, arith}
use Rattle.std.specs.Prelude.{slice_range}
use Rattle.std.proofs.lemmas.List.{append_assoc, at_drop_all, at_drop_more, get_or-drop, length-drop, take_more}
use Rattle.everyday_tabs.specs.Words.{closed, goes_on, options_after}

-- one letter more of a part
part_more : (letters : List ℕ) (start at d : ℕ) → start ≤ at → at < length letters
    → slice_range letters start (at + 1) ≡ slice_range letters start at ++ get_or letters at d ∷ []
part_more letters start at d order within =
    let count = at - start in
    let one : (at + 1) - start ≡ count + 1 = omega (arith, order) in
    let here : start + count ≡ at = omega (arith, order) in
    let size : length (drop start letters) ≡ length letters - start = length-drop start letters in
    let short : count < length (drop start letters) = omega (arith, order, within, size) in
    ap (λ (n : ℕ). take n (drop start letters)) one ∙ take_more (drop start letters) count d short
    ∙ ap (λ (y : ℕ). take count (drop start letters) ++ y ∷ []) (get_or-drop start letters count d ∙ ap (λ (n : ℕ). get_or letters n d) here)

-- a part of one letter
part_one : (letters : List ℕ) (at d : ℕ) → at < length letters → slice_range letters at (at + 1) ≡ get_or letters at d ∷ []
part_one letters at d within =
    let order : at ≤ at = omega arith in
    let none : at - at ≡ 0 = omega arith in
    part_more letters at at d order within ∙ ap (λ (n : ℕ). take n (drop at letters) ++ get_or letters at d ∷ []) none

-- a letter that goes on with the option
pub one_letter : (letters : List ℕ) (start at d : ℕ) (found all : List (List ℕ)) → start ≤ at → at < length letters
    → goes_on (slice_range letters start at) (get_or letters at d) ≡ true
    → found ++ options_after (slice_range letters start at) (drop at letters) ≡ all
    → found ++ options_after (slice_range letters start (at + 1)) (drop (at + 1) letters) ≡ all
one_letter letters start at d found all order within goes before =
    let option = slice_range letters start at in
    let letter = get_or letters at d in
    let rest = drop (at + 1) letters in
    ap (λ (o : List ℕ). found ++ options_after o rest) (part_more letters start at d order within)
    ∙ sym (ap (λ (b : Bool). found ++ cond b (options_after (option ++ letter ∷ []) rest) (closed option ++ options_after (letter ∷ []) rest)) goes)
    ∙ sym (at_drop_more (λ (ls : List ℕ). found ++ options_after option ls) letters at d within) ∙ before

-- a letter with which another option begins
pub next_option : (letters : List ℕ) (start at d : ℕ) (found more all : List (List ℕ)) → start ≤ at → at < length letters
    → goes_on (slice_range letters start at) (get_or letters at d) ≡ false → more ≡ found ++ closed (slice_range letters start at)
    → found ++ options_after (slice_range letters start at) (drop at letters) ≡ all
    → more ++ options_after (slice_range letters at (at + 1)) (drop (at + 1) letters) ≡ all
next_option letters start at d found more all order within ends is before =
    let option = slice_range letters start at in
    let letter = get_or letters at d in
    let rest = drop (at + 1) letters in
    ap (λ (o : List ℕ). more ++ options_after o rest) (part_one letters at d within)
    ∙ ap (λ (m : List (List ℕ)). m ++ options_after (letter ∷ []) rest) is
    ∙ append_assoc found (closed option) (options_after (letter ∷ []) rest)
    ∙ sym (ap (λ (b : Bool). found ++ cond b (options_after (option ++ letter ∷ []) rest) (closed option ++ options_after (letter ∷ []) rest)) ends)
    ∙ sym (at_drop_more (λ (ls : List ℕ). found ++ options_after option ls) letters at d within) ∙ before

-- the end of the letters
pub last_option : (letters : List ℕ) (start at : ℕ) (found all : List (List ℕ)) → length letters ≤ at
    → found ++ options_after (slice_range letters start at) (drop at letters) ≡ all → found ++ closed (slice_range letters start at) ≡ all
last_option letters start at found all ended before =
    sym (at_drop_all (λ (ls : List ℕ). found ++ options_after (slice_range letters start at) ls) letters at ended) ∙ before
