-- Bytes are cut into lines in only one way.
use Rattle.std.proofs.Common.{◌≡◌, ℕ, List, [], ◌∷◌, ◌++◌, refl, sym, ◌∙◌, append_assoc}
use Rattle.std.specs.List.{flat_map, AllByRecursion}
use Rattle.tools_devices.specs.Lines.{IsOneLine, OneSplit, with_newline}

-- two lines that begin the same bytes are equal
ended-same : (line other : List ℕ) (rest later : List ℕ) → IsOneLine line → IsOneLine other → with_newline line ++ rest ≡ with_newline other ++ later
    → (line ≡ other) × (rest ≡ later)
ended-same [] [] rest later a b is = (refl, cc)
ended-same [] (byte ∷ other) rest later a b is = let newline : byte ≡ 10 = cc in absurd (b.0 newline)
ended-same (byte ∷ line) [] rest later a b is = let newline : byte ≡ 10 = cc in absurd (a.0 newline)
ended-same (byte ∷ line) (first ∷ other) rest later a b is =
    let head : byte ≡ first = cc in
    let tail : with_newline line ++ rest ≡ with_newline other ++ later = cc in
    let same = ended-same line other rest later a.1 b.1 tail in
    let lines : line ≡ other = same.0 in
    (cc, same.1)

-- bytes without a newline begin with no line that has one
ended-not_one : (bytes line later : List ℕ) → IsOneLine bytes → bytes ≡ with_newline line ++ later → ⊥
ended-not_one [] [] later one is = absurd (cc)
ended-not_one [] (byte ∷ line) later one is = absurd (cc)
ended-not_one (byte ∷ bytes) [] later one is = let newline : byte ≡ 10 = cc in one.0 newline
ended-not_one (byte ∷ bytes) (first ∷ line) later one is =
    let tail : bytes ≡ with_newline line ++ later = cc in
    ended-not_one bytes line later one.1 tail

lines-same : (lines others : List (List ℕ)) (rest other : List ℕ) → AllByRecursion IsOneLine lines → AllByRecursion IsOneLine others
    → IsOneLine rest → IsOneLine other → flat_map with_newline lines ++ rest ≡ flat_map with_newline others ++ other
    → (lines ≡ others) × (rest ≡ other)
lines-same [] [] rest other a b p q is = (refl, is)
lines-same [] (line ∷ others) rest other a b p q is =
    absurd (ended-not_one rest line (flat_map with_newline others ++ other) p (is ∙ append_assoc (with_newline line) (flat_map with_newline others) other))
lines-same (line ∷ lines) [] rest other a b p q is =
    absurd (ended-not_one other line (flat_map with_newline lines ++ rest) q (sym is ∙ append_assoc (with_newline line) (flat_map with_newline lines) rest))
lines-same (line ∷ lines) (first ∷ others) rest other a b p q is =
    let heads = ended-same line first (flat_map with_newline lines ++ rest) (flat_map with_newline others ++ other) a.0 b.0
    (sym (append_assoc (with_newline line) (flat_map with_newline lines) rest) ∙ is ∙ append_assoc (with_newline first) (flat_map with_newline others) other) in
    let tails = lines-same lines others rest other a.1 b.1 p q heads.1 in
    let one : line ≡ first = heads.0 in
    let all : lines ≡ others = tails.0 in
    (cc, tails.1)

pub one_split-law : OneSplit
one_split-law bytes lines others rest other a b =
    lines-same lines others rest other a.each b.each a.partial b.partial (sym a.whole ∙ b.whole)
