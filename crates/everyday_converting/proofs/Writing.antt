-- How a string is written piece by piece.
use Rattle.std.proofs.Common.{◌≡◌, ℕ, zero, suc, ◌-◌, Bool, List, [], ◌∷◌, ◌++◌, drop, refl, ap, ◌∙◌, arith, append_assoc, ◌<◌, length, get_or}
use Rattle.std.specs.Prelude.{option_map, Option, Some, None}
use Rattle.everyday_converting.specs.Pieces.{piece_at}
use Rattle.everyday_converting.specs.Strings.{piece_text, state_after, written_from}
use Rattle.everyday_converting.specs.declared.pieces.Placed.{Placed}
use Rattle.everyday_converting.specs.declared.strings.State.{State}

-- what is left of a piece is passed over
pub skips : (caret parameters : Bool) (left : ℕ) (state : State) (text : List ℕ)
    → written_from caret parameters left state text ≡ written_from caret parameters 0 state (drop left text)
skips caret parameters zero state text = grind arith
skips caret parameters (suc left) state [] = grind arith
skips caret parameters (suc left) state (x ∷ xs) = skips caret parameters left state xs

-- two texts before what may come later
pub joined : (a b : List ℕ) (later : Option (List ℕ))
    → option_map (λ (l : List ℕ). (a ++ b) ++ l) later ≡ option_map (λ (l : List ℕ). a ++ l) (option_map (λ (l : List ℕ). b ++ l) later)
joined a b None = refl
joined a b (Some l) = ap (λ (t : List ℕ). Some t) (append_assoc a b l)

-- one more piece is written
pub writes_on : (caret parameters : Bool) (state : State) (p : Placed) (out after : List ℕ) (rest : List ℕ) (whole : Option (List ℕ))
    → 0 < length rest → piece_at parameters rest ≡ Some p → after ≡ out ++ piece_text caret state p.piece (get_or rest 0 0) (drop 1 rest)
    → option_map (λ (later : List ℕ). out ++ later) (written_from caret parameters 0 state rest) ≡ whole
    → option_map (λ (later : List ℕ). after ++ later)
    (written_from caret parameters 0 (state_after state p.piece (get_or rest 0 0)) (drop (p.size - 1) (drop 1 rest))) ≡ whole
writes_on caret parameters state p out after [] whole some found is h = absurd (omega arith)
writes_on caret parameters state p out after (x ∷ xs) whole some found is h =
    rw (is, ← skips caret parameters (p.size - 1) (state_after state p.piece x) xs)
    (joined out (piece_text caret state p.piece x xs) (written_from caret parameters (p.size - 1) (state_after state p.piece x) xs) ∙ (rw found at h))

-- a piece that termcap does not have
pub writes_none : (caret parameters : Bool) (state : State) (out : List ℕ) (rest : List ℕ) (whole : Option (List ℕ))
    → 0 < length rest → piece_at parameters rest ≡ None
    → option_map (λ (later : List ℕ). out ++ later) (written_from caret parameters 0 state rest) ≡ whole → None ≡ whole
writes_none caret parameters state out [] whole some found h = absurd (omega arith)
writes_none caret parameters state out (x ∷ xs) whole some found h = rw found at h
