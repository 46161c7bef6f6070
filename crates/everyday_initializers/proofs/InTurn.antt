-- Lines one after another, by their indexes.
use Rattle.std.proofs.Common.{◌≡◌, ℕ, suc, ◌+◌, ◌-◌, ◌<◌, ◌≤◌, List, [], ◌++◌, length, codes, refl, sym, ◌∙◌, ap, arith, append_assoc, append-nil, length-append}
use Rattle.std.specs.List.{flat_map, range_with_len}
use Rattle.everyday_initializers.specs.Initializers.{lines, variable}

-- the lines from an index on begin with its own
pub first_line : (line : ℕ → List ℕ) (at end : ℕ) → at < end → lines line at end ≡ line at ++ lines line (at + 1) end
first_line line at end within =
    let count : end - at ≡ suc (end - (at + 1)) = omega arith in
    ap (λ (n : ℕ). flat_map line (range_with_len at n)) count

-- after a line was written, the same is known of those that are left
pub one_more : (line : ℕ → List ℕ) (at end : ℕ) (before after all : List ℕ) → at < end → after ≡ before ++ line at
    → before ++ lines line at end ≡ all → after ++ lines line (at + 1) end ≡ all
one_more line at end before after all within writes known =
    rw (writes, append_assoc) (ap (λ (rest : List ℕ). before ++ rest) (sym (first_line line at end within)) ∙ known)

-- none is left after the last
pub all_written : (line : ℕ → List ℕ) (at end : ℕ) (before all : List ℕ) → end ≤ at → before ++ lines line at end ≡ all → before ≡ all
all_written line at end before all past known =
    let none : end - at ≡ 0 = omega arith in
    let rest : lines line at end ≡ [] = ap (λ (n : ℕ). flat_map line (range_with_len at n)) none in
    sym (append-nil before) ∙ ap (λ (later : List ℕ). before ++ later) (sym rest) ∙ known

-- one more piece after others
pub more : (old a b : List ℕ) {mid new : List ℕ} → mid ≡ old ++ a → new ≡ mid ++ b → new ≡ old ++ (a ++ b)
more old a b first second = rw (second, first, append_assoc) refl

-- how long the variable of a string is
pub variable_length : (front name : List ℕ) → length (variable front name) ≡ length front + 3 + length name
variable_length front name =
    let whole : length (variable front name) ≡ length (front ++ codes "_s_") + length name = length-append (front ++ codes "_s_") name in
    let begin : length (front ++ codes "_s_") ≡ length front + length (codes "_s_") = length-append front (codes "_s_") in
    let three : length (codes "_s_") ≡ 3 = refl in
    omega (arith, whole, begin, three)
