-- How a part of a text is found, delay by delay.
use Rattle.std.proofs.Common.{◌≡◌, ℕ, zero, suc, ◌+◌, ◌-◌, ◌<◌, true, false, List, [], ◌∷◌, drop, length, get_or, refl, sym, arith}
use Rattle.everyday_termcap.specs.Reset.{are_delays, begins_with, delay_length, matched_from}

-- what is left of a delay is passed over
pub skips : (left used pending : ℕ) (part text : List ℕ) → matched_from left used pending part text ≡ matched_from 0 used pending (drop left part) text
skips zero used pending part text = grind arith
skips (suc left) used pending [] text = grind arith
skips (suc left) used pending (x ∷ part) text = skips left used pending part text

-- to drop some is to drop the first and then one less
pub dropped : (n x : ℕ) (xs : List ℕ) → 0 < n → drop n (x ∷ xs) ≡ drop (n - 1) xs
dropped zero x xs h = absurd (omega arith)
dropped (suc n) x xs h = grind arith

-- two delays match
pub delays : (used pending : ℕ) (part text : List ℕ) → 0 < length part → begins_with (get_or part 0 0) text ≡ true → are_delays part text ≡ true
    → 0 < delay_length part
    → matched_from 0 (used + pending) (delay_length text) (drop (delay_length part) part) (drop (delay_length text) text)
    ≡ matched_from 0 used pending part text
delays used pending [] text some same both one = absurd (omega arith)
delays used pending (x ∷ part) text some same both one =
    rw (same, both, dropped (delay_length (x ∷ part)) x part one)
    (sym (skips (delay_length (x ∷ part) - 1) (used + pending) (delay_length text) part (drop (delay_length text) text)))

-- two bytes match, where one of the texts has no delay
pub same_bytes : (used pending : ℕ) (part text : List ℕ) → 0 < length part → begins_with (get_or part 0 0) text ≡ true → are_delays part text ≡ false
    → matched_from 0 (used + (pending + 1)) 0 (drop 1 part) (drop 1 text) ≡ matched_from 0 used pending part text
same_bytes used pending [] text some same none = absurd (omega arith)
same_bytes used pending (x ∷ part) text some same none =
    let sum : used + (pending + 1) ≡ used + pending + 1 = omega arith in
    rw (same, none, sum) refl

-- the text does not begin with the part
pub ends : (used pending : ℕ) (part text : List ℕ) → 0 < length part → begins_with (get_or part 0 0) text ≡ false
    → matched_from 0 used pending part text ≡ 0
ends used pending [] text some none = absurd (omega arith)
ends used pending (x ∷ part) text some none = rw none refl
