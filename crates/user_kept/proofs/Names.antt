-- An edit brings no more distinct names than its block says.
use Rattle.std.proofs.Common.{ℕ, zero, suc, ◌+◌, ◌<◌, ◌≤◌, List, [], ◌∷◌, ◌++◌, length, ap, arith, slice_set}
use Rattle.std.specs.List.{insert, remove}
use Rattle.user_items.specs.Parsing.{user_reading_of_text}
use Rattle.user_values.specs.Limit.{distinct_after, name_count, names_of}
use Rattle.user_values.proofs.Counting.{Names, count_after, count_of_all, names_there, put_in}
use Rattle.user_values.proofs.Naming.{distinct_after-append}

exchanged : (found old new names : Names) → count_after found (new ++ names) ≤ count_after found (old ++ names) + length new
exchanged found old new names =
    let a = (put_in found new names).1 in
    let b = (put_in found old names).0 in
    omega (arith, a, b)

-- ---- a block is replaced

abbrev names_said : List ℕ → Names
names_said text = names_of (user_reading_of_text text).items

replaced : (texts : List (List ℕ)) (place : ℕ) (text : List ℕ) (found : Names) → place < length texts
    → count_after found (names_there (slice_set texts place text)) ≤ count_after found (names_there texts) + length (names_said text)
replaced [] place text found l = absurd (omega (arith, l))
replaced (t ∷ ts) zero text found l = exchanged found (names_said t) (names_said text) (names_there ts)
replaced (t ∷ ts) (suc k) text found l =
    let rest = replaced ts k text (distinct_after found (names_said t)) (omega (arith, l)) in
    let new = ap (λ (ns : Names). length ns) (distinct_after-append found (names_said t) (names_there (slice_set ts k text))) in
    let old = ap (λ (ns : Names). length ns) (distinct_after-append found (names_said t) (names_there ts)) in
    omega (arith, rest, new, old)

inserted : (texts : List (List ℕ)) (place : ℕ) (text : List ℕ) (found : Names) → place ≤ length texts
    → count_after found (names_there (insert texts place text)) ≤ count_after found (names_there texts) + length (names_said text)
inserted [] zero text found l = (put_in found (names_said text) []).1
inserted [] (suc k) text found l = absurd (omega (arith, l))
inserted (t ∷ ts) zero text found l = (put_in found (names_said text) (names_there (t ∷ ts))).1
inserted (t ∷ ts) (suc k) text found l =
    let rest = inserted ts k text (distinct_after found (names_said t)) (omega (arith, l)) in
    let new = ap (λ (ns : Names). length ns) (distinct_after-append found (names_said t) (names_there (insert ts k text))) in
    let old = ap (λ (ns : Names). length ns) (distinct_after-append found (names_said t) (names_there ts)) in
    omega (arith, rest, new, old)

removed : (texts : List (List ℕ)) (place : ℕ) (found : Names) → count_after found (names_there (remove texts place)) ≤ count_after found (names_there texts)
removed [] zero found = omega arith
removed [] (suc k) found = omega arith
removed (t ∷ ts) zero found = (put_in found (names_said t) (names_there ts)).0
removed (t ∷ ts) (suc k) found =
    let rest = removed ts k (distinct_after found (names_said t)) in
    let new = ap (λ (ns : Names). length ns) (distinct_after-append found (names_said t) (names_there (remove ts k))) in
    let old = ap (λ (ns : Names). length ns) (distinct_after-append found (names_said t) (names_there ts)) in
    omega (arith, rest, new, old)

pub few_more : (texts : List (List ℕ)) (place : ℕ) (text : List ℕ) → place < length texts
    → name_count (slice_set texts place text) (length (slice_set texts place text)) ≤ name_count texts (length texts) + length (names_said text)
few_more texts place text l =
    let a = replaced texts place text [] l in
    let b = count_of_all (slice_set texts place text) in
    let c = count_of_all texts in
    omega (arith, a, b, c)

pub few_inserted : (texts : List (List ℕ)) (place : ℕ) (text : List ℕ) → place ≤ length texts
    → name_count (insert texts place text) (length (insert texts place text)) ≤ name_count texts (length texts) + length (names_said text)
few_inserted texts place text l =
    let a = inserted texts place text [] l in
    let b = count_of_all (insert texts place text) in
    let c = count_of_all texts in
    omega (arith, a, b, c)

pub few_removed : (texts : List (List ℕ)) (place : ℕ) → name_count (remove texts place) (length (remove texts place)) ≤ name_count texts (length texts)
few_removed texts place =
    let a = removed texts place [] in
    let b = count_of_all (remove texts place) in
    let c = count_of_all texts in
    omega (arith, a, b, c)
