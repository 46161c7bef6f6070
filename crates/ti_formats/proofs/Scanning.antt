-- A format as its tokens.
use Rattle.std.proofs.Common.{◌≡◌, ◌≢◌, ℕ, zero, suc, ◌+◌, ◌-◌, ◌≤◌, Bool, true, false, cond, ◌⊎◌, inl, inr, List, [], ◌∷◌, ◌++◌, length, length-append}
use Rattle.std.proofs.Common.{refl, ap, sym, ◌∙◌, arith, add-zero}
use Rattle.std.specs.Prelude.{Some, None, ◌==◌, if◌then◌else◌}
use Rattle.std.proofs.lemmas.Bool.Decides.{Decides-eqb}
use Rattle.ti_formats.specs.declared.codes.Token.{Token}
use Rattle.ti_formats.specs.declared.codes.Token.TheVariants.{Literal}
use Rattle.ti_formats.specs.inside.Codes.{Front, token_after}
use Rattle.ti_formats.specs.Reading.{Scan}
use Rattle.ti_formats.specs.inside.Formats.{first_token, with_token, with_code, scan}
use Rattle.ti_formats.proofs.Reading.{code_so}
use Rattle.ti_formats.proofs.Fronts.{fails}

-- the bytes of a code that was read are passed over
pub scan-skip : (front rest : List ℕ) (place : ℕ) → scan (length front) place (front ++ rest) ≡ scan 0 (place + length front) rest
unfolding scan
scan-skip [] rest place = ap (λ p. scan 0 p rest) (sym (add-zero place))
scan-skip (x ∷ xs) rest place =
    let e : suc place + length xs ≡ place + suc (length xs) = omega arith in
    scan-skip xs rest (suc place) ∙ ap (λ p. scan 0 p rest) e

pub scan-byte : (place b : ℕ) (text : List ℕ) → (b == 37) ≡ false → scan 0 place (b ∷ text) ≡ with_token place (Literal b) (scan 0 (suc place) text)
unfolding scan
scan-byte place b text h = rw (h, scan) refl

pub scan-stop : (place : ℕ) (text : List ℕ) → token_after text ≡ None → scan 0 place (37 ∷ text) ≡ record { tokens = []; stop = Some place }
unfolding scan
scan-stop place text h = rw (h, scan) refl

pub scan-code : (place : ℕ) (front rest : List ℕ) (token : Token) → token_after (front ++ rest) ≡ Some (token, rest) →
    scan 0 place (37 ∷ (front ++ rest)) ≡ with_token place token (scan 0 (suc place + length front) rest)
unfolding scan
scan-code place front rest token h =
    let count : length (front ++ rest) - length rest ≡ length front = omega (arith, length-append front rest) in
    rw (h, scan) (ap (with_token place token) (ap (λ k. scan k (suc place) (front ++ rest)) count ∙ scan-skip front rest (suc place)))

-- a byte by itself, or a code
abbrev pub IsPiece : ℕ → List ℕ → Token → List ℕ → Type 0
IsPiece b after token rest = ((b ≡ 37) × (token_after after ≡ Some (token, rest))) ⊎ ((b ≢ 37) × (token ≡ Literal b) × (rest ≡ after))

-- what a text begins with is a piece
piece_by : (b : ℕ) (after : List ℕ) (token : Token) (rest : List ℕ) (t : Bool) → (b == 37) ≡ t →
    (if t then token_after after else Some (Literal b, after)) ≡ Some (token, rest) → IsPiece b after token rest
piece_by b after token rest true e h = inl ((Decides-eqb b 37).0 e, h)
piece_by b after token rest false e h =
    let same : ◌≡◌ {A = Token × List ℕ} (Literal b, after) (token, rest) = cc h in
    inr ((λ s. let t = (Decides-eqb b 37).1 s in cc), sym (ap (λ p. p.0) same), sym (ap (λ p. p.1) same))

pub piece_of : (b : ℕ) (after : List ℕ) (token : Token) (rest : List ℕ) → Some (token, rest) ≡ first_token b after → IsPiece b after token rest
piece_of b after token rest h = piece_by b after token rest (b == 37) refl (sym h)

-- if nothing is read, no token is left
nothing_by : (place b : ℕ) (text after : List ℕ) (t : Bool) → (b == 37) ≡ t → text ≡ b ∷ after →
    (if t then token_after after else Some (Literal b, after)) ≡ None → (scan 0 place text).tokens ≡ []
nothing_by place b text after true e begins h =
    ap (λ t. (scan 0 place t).tokens) (begins ∙ ap (λ c. c ∷ after) ((Decides-eqb b 37).0 e)) ∙ ap (λ s. s.tokens) (scan-stop place after h)
nothing_by place b text after false e begins h = absurd (cc h)

pub scan-nothing : (place b : ℕ) (text after : List ℕ) → text ≡ b ∷ after → None ≡ first_token b after → (scan 0 place text).tokens ≡ []
scan-nothing place b text after begins h = nothing_by place b text after (b == 37) refl begins (sym h)

pub piece-shorter : (b : ℕ) (after : List ℕ) (token : Token) (rest : List ℕ) → IsPiece b after token rest → length rest ≤ length after
piece-shorter b after token rest (inl (at, read)) =
    let (front, whole, is_code) = code_so after rest token read in omega (arith, ap length whole, length-append front rest)
piece-shorter b after token rest (inr (other, literal, same)) = omega (arith, ap length same)

pub piece-scan : (place b : ℕ) (text after : List ℕ) (token : Token) (rest : List ℕ) → text ≡ b ∷ after → IsPiece b after token rest →
    scan 0 place text ≡ with_token place token (scan 0 (place + (length text - length rest)) rest)
piece-scan place b text after token rest begins (inl (at, read)) =
    let (front, whole, is_code) = code_so after rest token read in
    let count : place + (length text - length rest) ≡ suc place + length front =
    omega (arith, ap length begins, ap length whole, length-append front rest) in
    let read' : token_after (front ++ rest) ≡ Some (token, rest) = ap token_after (sym whole) ∙ read in
    ap (scan 0 place) (begins ∙ ap (λ c. c ∷ after) at ∙ ap (λ t. 37 ∷ t) whole) ∙ scan-code place front rest token read'
    ∙ ap (λ p. with_token place token (scan 0 p rest)) (sym count)
piece-scan place b text after token rest begins (inr (other, literal, same)) =
    let count : place + (length text - length rest) ≡ suc place = omega (arith, ap length begins, ap length same) in
    ap (scan 0 place) begins ∙ scan-byte place b after (fails (b == 37) (λ e. other ((Decides-eqb b 37).0 e)))
    ∙ ap (λ t. with_token place t (scan 0 (suc place) after)) (sym literal)
    ∙ ap (λ t. with_token place token (scan 0 (suc place) t)) (sym same)
    ∙ ap (λ p. with_token place token (scan 0 p rest)) (sym count)

few : (place : ℕ) (text : List ℕ) (found : Front Token) → ((k : ℕ) → length (scan k (suc place) text).tokens ≤ length text) →
    length (with_code place found (λ rest. scan (length text - length rest) (suc place) text)).tokens ≤ suc (length text)
few place text None each = omega arith
few place text (Some found) each = omega (arith, each (length text - length found.1))

-- a text has no more tokens than bytes
pub tokens-few : (after_part place : ℕ) (text : List ℕ) → length (scan after_part place text).tokens ≤ length text
unfolding scan
tokens-few after_part place [] = omega arith
tokens-few (suc after_part) place (b ∷ text) = omega (arith, tokens-few after_part (suc place) text)
tokens-few zero place (b ∷ text) =
    elim (b == 37) as (λ t. length (cond t (with_code place (token_after text) (λ rest. scan (length text - length rest) (suc place) text))
    (with_token place (Literal b) (scan zero (suc place) text))).tokens ≤ suc (length text)) [
      | true ↦ few place text (token_after text) (λ k. tokens-few k (suc place) text)
      | false ↦ omega (arith, tokens-few zero (suc place) text)
    ]

-- if no token is left, the text is at its end or at a `%` that begins no code
pub stop-at-end : (place : ℕ) (text : List ℕ) → true ≡ (length text == 0) → None ≡ (scan 0 place text).stop
unfolding scan
stop-at-end place [] h = refl
stop-at-end place (b ∷ text) h = absurd (no_length (length text) h)
  where
    no_length : (n : ℕ) → true ≡ (suc n == 0) → ⊥
    no_length n h = let e : suc n ≡ 0 = (Decides-eqb (suc n) 0).0 (sym h) in omega arith

pub stop-before-end : (place : ℕ) (text : List ℕ) → false ≡ (length text == 0) → (scan 0 place text).tokens ≡ [] → Some place ≡ (scan 0 place text).stop
unfolding scan
stop-before-end place [] h none = absurd (cc)
stop-before-end place (b ∷ text) h none =
    elim (b == 37) as (λ t. (at t).tokens ≡ [] → Some place ≡ (at t).stop) [
      | true ↦ begun (token_after text)
      | false ↦ λ e. absurd (cc e)
    ] none
  where
    at : Bool → Scan
    at t = cond t (with_code place (token_after text) (λ rest. scan (length text - length rest) (suc place) text))
        (with_token place (Literal b) (scan zero (suc place) text))

    begun : (found : Front Token) → (with_code place found (λ rest. scan (length text - length rest) (suc place) text)).tokens ≡ [] →
        Some place ≡ (with_code place found (λ rest. scan (length text - length rest) (suc place) text)).stop
    begun None e = refl
    begun (Some found) e = absurd (cc e)
