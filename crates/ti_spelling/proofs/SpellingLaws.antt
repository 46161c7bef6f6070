-- What is computed of a text is what the relations say, so a text has one outcome.
use Rattle.std.proofs.Common.{◌≡◌, ◌≢◌, ℕ, zero, suc, ◌+◌, ◌-◌, ◌<◌, ◌≤◌, Bool, true, false, cond, eqb, List, [], ◌∷◌, ◌++◌, length, Option, Some, None}
use Rattle.std.proofs.Common.{Result, Ok, Err, refl, ap, subst, sym, ◌∙◌, add-one, arith, ◌⊎◌, inl, inr}
use Rattle.std.specs.Prelude.{◌&&◌, ◌||◌, bit_and, MatchResult, nat_le, is_some, IsOk}
use Rattle.std.proofs.lemmas.Bool.{ne_eqb, le-leb, lt-leb, agree_below_at, false_from_ne_true}
use Rattle.std.proofs.lemmas.Result.{MatchResult-at_ok, MatchResult-at_err}
use Rattle.std.proofs.lemmas.List.{length-append}
use Rattle.ti_spelling.specs.declared.spelling.Piece.{Piece}
use Rattle.ti_spelling.specs.declared.spelling.UnescapeError.{UnescapeError}
use Rattle.ti_spelling.specs.declared.spelling.UnescapeError.TheVariants.{BadOctal, BadControl, BadByte, Memory}
use Rattle.ti_spelling.specs.Spelling.{named_escape, is_octal_digit, octal_digits, octal_digits_up_to, octal_value, is_percent, last_byte, not_nul, IsEscape}
use Rattle.ti_spelling.specs.Spelling.{escape_named, escape_octal, escape_unknown, escape_missing, IsControl, control_delete, control_masked, IsPiece}
use Rattle.ti_spelling.specs.Spelling.{piece_escape}
use Rattle.ti_spelling.specs.Spelling.{piece_control, piece_caret, piece_plain, IsRefused, refused_octal, refused_control, refused_control_at_end, refused_nul}
use Rattle.ti_spelling.specs.Spelling.{refused_escaped_nul, SpellsAfter, spells_nothing, spells_piece, FailsAfter, fails_here, fails_later, Spells, Fails}
use Rattle.ti_spelling.specs.Spelling.{CanBeSpelled}
use Rattle.ti_spelling.specs.Spelling.{IsCauseOf, OneOutcome}
use Rattle.ti_spelling.specs.inside.Spelling.{octal_piece, unnamed_piece, named_piece, escape_piece, is_control_letter, control_piece, first_piece}
use Rattle.ti_spelling.specs.inside.Spelling.{with_piece, then_later, unescaped_from, unescape_result, UnescapedAgrees}
use Rattle.ti_spelling.proofs.OctalDigits.{digit_bounds}
use Rattle.ti_spelling.proofs.PieceLemmas.{is_letter, control_letter, Found, first_right, piece_some, refuses}

-- the value of a test, and then the branch
chosen : {A : Type 0} (b : Bool) (x y : A) → b ≡ true → cond b x y ≡ x
chosen b x y e = ap (λ (t : Bool). cond t x y) e

other : {A : Type 0} (b : Bool) (x y : A) → b ≡ false → cond b x y ≡ y
other b x y e = ap (λ (t : Bool). cond t x y) e

-- ---- each piece

named_digit : ℕ → Bool
named_digit x = is_octal_digit x && is_some (named_escape x)

-- no octal digit is a name
digits_have_no_name : (x : ℕ) → is_octal_digit x ≡ true → named_escape x ≡ None
unfolding named_digit
digits_have_no_name x digit = none (named_escape x) (sym (ap (λ (b : Bool). b && is_some (named_escape x)) digit)
    ∙ agree_below_at named_digit (λ y. false) 56 x refl (omega (arith, digit_bounds x digit)))
  where
    none : (name : Option ℕ) → is_some name ≡ false → name ≡ None
    none None e = refl
    none (Some y) e = absurd cc

-- a text that begins with octal digits begins with a digit
first_is_digit : (x : ℕ) (xs ds : List ℕ) → octal_digits (x ∷ xs) ≡ x ∷ ds → is_octal_digit x ≡ true
first_is_digit x xs ds e = by_test (is_octal_digit x) e
  where
    by_test : (b : Bool) → cond b (x ∷ octal_digits_up_to 2 xs) [] ≡ x ∷ ds → b ≡ true
    by_test true e = refl
    by_test false e = absurd cc

escape_computes : {text rest : List ℕ} {byte : ℕ} {odd : Bool} → IsEscape text rest byte odd
    → escape_piece (text ++ rest) ≡ Ok (record { size = length text + 1; byte = byte; odd = odd })
unfolding escape_piece
escape_computes (escape_named {letter = x} {rest = rest} e) = ap (λ (name : Option ℕ). named_piece name (unnamed_piece x rest)) e
escape_computes (escape_octal {digit = x} {digits = ds} {rest = rest} digits le) =
    let digit = first_is_digit x (ds ++ rest) ds digits in
    ap (λ (name : Option ℕ). named_piece name (unnamed_piece x (ds ++ rest))) (digits_have_no_name x digit)
    ∙ chosen (is_octal_digit x) (octal_piece (octal_digits (x ∷ (ds ++ rest)))) _ digit
    ∙ ap octal_piece digits
    ∙ chosen (nat_le (octal_value (x ∷ ds)) 255) _ (Err BadOctal) (le-leb _ 255 le)
escape_computes (escape_unknown {x = x} {rest = rest} unnamed no_digit some) =
    ap (λ (name : Option ℕ). named_piece name (unnamed_piece x rest)) unnamed
    ∙ other (is_octal_digit x) (octal_piece (octal_digits (x ∷ rest))) _ no_digit
    ∙ other (eqb x 0) (Err BadByte) _ (ne_eqb x 0 some)
escape_computes escape_missing = refl

control_computes : (x byte : ℕ) (rest : List ℕ) → IsControl x byte → control_piece (x ∷ rest) ≡ Ok (record { size = 2; byte = byte; odd = false })
unfolding control_piece
control_computes x byte rest control_delete = refl
control_computes x byte rest (control_masked low high comma question) =
    other (eqb x 63) _ _ (ne_eqb x 63 question) ∙ chosen (is_control_letter x) _ (Err BadControl) (is_letter x low high comma)

pub piece_computes : {before : ℕ} {text rest : List ℕ} {byte : ℕ} {odd : Bool} → IsPiece before text rest byte odd
    → first_piece (is_percent before) (text ++ rest) ≡ Ok (record { size = length text; byte = byte; odd = odd })
unfolding first_piece
piece_computes (piece_escape e) = rw add-one at (escape_computes e)
piece_computes (piece_control {before = before} {x = x} {byte = byte} {rest = rest} takes c) =
    other (is_percent before) _ _ takes ∙ control_computes x byte rest c
piece_computes (piece_caret {before = before} literal) = chosen (is_percent before) _ _ literal
piece_computes (piece_plain {x = x} ne92 ne94 ne0) =
    other (eqb x 92) _ _ (ne_eqb x 92 ne92) ∙ other (eqb x 94) _ _ (ne_eqb x 94 ne94) ∙ other (eqb x 0) _ _ (ne_eqb x 0 ne0)

octal_of_nothing : octal_value (octal_digits []) ≡ 0
octal_of_nothing = refl

-- digits whose value is over 255 begin with a digit
over_is_digit : (x : ℕ) (xs : List ℕ) → 255 < octal_value (octal_digits (x ∷ xs)) → is_octal_digit x ≡ true
over_is_digit x xs over = by_test (is_octal_digit x) refl
  where
    by_test : (b : Bool) → is_octal_digit x ≡ b → b ≡ true
    by_test true e = refl
    by_test false e = absurd (omega (arith, subst (λ (t : Bool). 255 < octal_value (cond t (x ∷ octal_digits_up_to 2 xs) [])) e over))

over_computes : (xs : List ℕ) → 255 < octal_value (octal_digits xs) → escape_piece xs ≡ Err BadOctal
unfolding escape_piece
over_computes [] over = absurd (omega arith)
over_computes (x ∷ xs) over =
    let digit = over_is_digit x xs over in
    ap (λ (name : Option ℕ). named_piece name (unnamed_piece x xs)) (digits_have_no_name x digit)
    ∙ chosen (is_octal_digit x) (octal_piece (octal_digits (x ∷ xs))) _ digit
    ∙ other (nat_le (octal_value (octal_digits (x ∷ xs))) 255) _ (Err BadOctal) (lt-leb _ 255 over)

nul_computes : (xs : List ℕ) → escape_piece (0 ∷ xs) ≡ Err BadByte
unfolding escape_piece
nul_computes xs = refl

no_control_computes : (x : ℕ) (xs : List ℕ) → ((byte : ℕ) → IsControl x byte → ⊥) → control_piece (x ∷ xs) ≡ Err BadControl
unfolding control_piece
no_control_computes x xs none =
    let ne63 : x ≢ 63 = λ e. none 127 (subst (λ (y : ℕ). IsControl y 127) (sym e) control_delete) in
    other (eqb x 63) _ _ (ne_eqb x 63 ne63)
    ∙ other (is_control_letter x) _ (Err BadControl) (false_from_ne_true (is_control_letter x)
    (λ is. let p = control_letter x is in none (not_nul (bit_and x 31)) (control_masked p.0 p.1 p.2 ne63)))

control_end_computes : control_piece [] ≡ Err BadControl
unfolding control_piece
control_end_computes = refl

pub refusal_computes : {before : ℕ} {raw : List ℕ} {cause : UnescapeError} → IsRefused before raw cause → first_piece (is_percent before) raw ≡ Err cause
unfolding first_piece
refusal_computes (refused_octal {rest = rest} over) = over_computes rest over
refusal_computes (refused_control {before = before} {x = x} {rest = rest} takes none) = other (is_percent before) _ _ takes ∙ no_control_computes x rest none
refusal_computes (refused_control_at_end {before = before} takes) = other (is_percent before) _ _ takes ∙ control_end_computes
refusal_computes refused_nul = refl
refusal_computes (refused_escaped_nul {rest = rest}) = nul_computes rest

refusal_some : {before : ℕ} {raw : List ℕ} {cause : UnescapeError} → IsRefused before raw cause → 0 < length raw
refusal_some (refused_octal over) = omega arith
refusal_some (refused_control takes none) = omega arith
refusal_some (refused_control_at_end takes) = omega arith
refusal_some refused_nul = omega arith
refusal_some refused_escaped_nul = omega arith

-- ---- a whole text

-- the rest of a piece is passed over
passes : (before : ℕ) (text rest : List ℕ) → unescaped_from (length text) before (text ++ rest) ≡ unescaped_from 0 (last_byte before text) rest
unfolding unescaped_from
passes before [] rest = refl
passes before (x ∷ text) rest = passes x text rest

-- a text that begins with a piece
pub begins : (before : ℕ) (text rest : List ℕ) (piece : Piece) → 0 < length text → length text ≡ piece.size
    → first_piece (is_percent before) (text ++ rest) ≡ Ok piece
    → unescaped_from 0 before (text ++ rest) ≡ with_piece piece (unescaped_from 0 (last_byte before text) rest)
unfolding unescaped_from
begins before [] rest piece some size e = absurd (omega arith)
begins before (x ∷ text) rest piece some size e =
    let left : piece.size - 1 ≡ length text = omega (arith, size) in
    ap (λ (r : Result Piece UnescapeError). then_later r (λ p. unescaped_from (p.size - 1) x (text ++ rest))) e
    ∙ ap (with_piece piece) (ap (λ (k : ℕ). unescaped_from k x (text ++ rest)) left ∙ passes x text rest)

begins_piece : {before : ℕ} {text rest : List ℕ} {byte : ℕ} {odd : Bool} → IsPiece before text rest byte odd
    → unescaped_from 0 before (text ++ rest) ≡ with_piece (record { size = length text; byte = byte; odd = odd })
    (unescaped_from 0 (last_byte before text) rest)
begins_piece {before} {text} {rest} {byte} {odd} p =
    begins before text rest (record { size = length text; byte = byte; odd = odd }) (piece_some p) refl (piece_computes p)

pub spells_computes : {before : ℕ} {raw value : List ℕ} {odd : Bool} → SpellsAfter before raw value odd → unescaped_from 0 before raw ≡ Ok (value, odd)
unfolding unescaped_from
spells_computes spells_nothing = refl
spells_computes (spells_piece {byte = byte} {text = text} {odd = odd} p later) =
    begins_piece p ∙ ap (with_piece (record { size = length text; byte = byte; odd = odd })) (spells_computes later)

pub fails_computes : {before : ℕ} {raw : List ℕ} {cause : UnescapeError} → FailsAfter before raw cause → unescaped_from 0 before raw ≡ Err cause
fails_computes (fails_here {before = before} {raw = raw} {cause = cause} r) = refuses before raw cause (refusal_some r) (refusal_computes r)
fails_computes (fails_later {byte = byte} {text = text} {odd = odd} p later) =
    begins_piece p ∙ ap (with_piece (record { size = length text; byte = byte; odd = odd })) (fails_computes later)

-- the way back: what begins with a piece is read as one
abbrev pub Outcome : ℕ → List ℕ → Result (List ℕ × Bool) UnescapeError → Type 0
Outcome before raw r = MatchResult r (λ found. SpellsAfter before raw found.0 found.1) (FailsAfter before raw)

goes_on : (before : ℕ) (raw : List ℕ) (piece : Piece) (found : Found before raw piece) (r : Result (List ℕ × Bool) UnescapeError)
    → Outcome (last_byte before found.text) found.rest r → Outcome before raw (with_piece piece r)
goes_on before raw piece found (Ok later) o =
    subst (λ (text : List ℕ). SpellsAfter before text (piece.byte ∷ later.0) (piece.odd || later.1)) (sym found.whole) (spells_piece found.is_piece o)
goes_on before raw piece found (Err cause) o = subst (λ (text : List ℕ). FailsAfter before text cause) (sym found.whole) (fails_later found.is_piece o)

outcome_within : (n before : ℕ) (raw : List ℕ) → length raw ≤ n → Outcome before raw (unescaped_from 0 before raw)
unfolding unescaped_from
outcome_within n before [] le = spells_nothing
outcome_within zero before (x ∷ xs) le = absurd (omega arith)
outcome_within (suc n) before (x ∷ xs) le = by_first (first_piece (is_percent before) (x ∷ xs)) refl (first_right before x xs) (outcome_within n)
  where
    by_first : (r : Result Piece UnescapeError) → first_piece (is_percent before) (x ∷ xs) ≡ r
        → MatchResult r (Found before (x ∷ xs)) (IsRefused before (x ∷ xs))
        → ((b : ℕ) (rest : List ℕ) → length rest ≤ n → Outcome b rest (unescaped_from 0 b rest)) → Outcome before (x ∷ xs) (unescaped_from 0 before (x ∷ xs))
    by_first (Err cause) e refused again = subst (Outcome before (x ∷ xs)) (sym (refuses before (x ∷ xs) cause (omega arith) e)) (fails_here refused)
    by_first (Ok piece) e found again =
        let some = piece_some found.is_piece in
        let shorter : length found.rest ≤ n = omega (arith, ap length found.whole, length-append found.text found.rest, some, le) in
        let split : unescaped_from 0 before (x ∷ xs) ≡ with_piece piece (unescaped_from 0 (last_byte before found.text) found.rest) =
        ap (unescaped_from 0 before) found.whole ∙ begins before found.text found.rest piece some found.size
        (ap (first_piece (is_percent before)) (sym found.whole) ∙ e) in
        subst (Outcome before (x ∷ xs)) (sym split) (goes_on before (x ∷ xs) piece found _ (again (last_byte before found.text) found.rest shorter))

pub outcome : (raw : List ℕ) → Outcome 0 raw (unescape_result raw)
unfolding unescape_result
outcome raw = outcome_within (length raw) 0 raw (omega arith)

-- ---- the laws

pub spells_unescaped : {raw value : List ℕ} {odd : Bool} → Spells raw value odd → unescape_result raw ≡ Ok (value, odd)
unfolding unescape_result
spells_unescaped s = spells_computes s

pub fails_unescaped : {raw : List ℕ} {cause : UnescapeError} → Fails raw cause → unescape_result raw ≡ Err cause
unfolding unescape_result
fails_unescaped f = fails_computes f

pub unescaped_spells : {raw value : List ℕ} {odd : Bool} → unescape_result raw ≡ Ok (value, odd) → Spells raw value odd
unescaped_spells {raw} {value} {odd} e = MatchResult-at_ok (λ found. Spells raw found.0 found.1) (Fails raw) (value, odd) e (outcome raw)

pub unescaped_fails : {raw : List ℕ} {cause : UnescapeError} → unescape_result raw ≡ Err cause → Fails raw cause
unescaped_fails {raw} {cause} e = MatchResult-at_err (λ found. Spells raw found.0 found.1) (Fails raw) cause e (outcome raw)

pub unescaped_agrees : UnescapedAgrees
unescaped_agrees raw = record {
  spelled = λ value odd. (λ s. spells_unescaped s, λ e. unescaped_spells e);
  refused = λ cause. (λ f. fails_unescaped f, λ e. unescaped_fails e);
}

some_outcome : (raw : List ℕ) (r : Result (List ℕ × Bool) UnescapeError) → Outcome 0 raw r → CanBeSpelled raw ⊎ ((cause : UnescapeError) × Fails raw cause)
some_outcome raw (Ok found) s = inl (found.0, found.1, s)
some_outcome raw (Err cause) f = inr (cause, f)

-- two answers to one computation
same_value : (r : Result (List ℕ × Bool) UnescapeError) (value other_value : List ℕ) (odd also_odd : Bool) → r ≡ Ok (value, odd)
    → r ≡ Ok (other_value, also_odd) → (value ≡ other_value) × (odd ≡ also_odd)
same_value r value other_value odd also_odd e f =
    let pair : ◌≡◌ {A = List ℕ × Bool} (value, odd) (other_value, also_odd) = cc in
    (ap (λ (p : List ℕ × Bool). p.0) pair, ap (λ (p : List ℕ × Bool). p.1) pair)

same_cause : (r : Result (List ℕ × Bool) UnescapeError) (cause other_cause : UnescapeError) → r ≡ Err cause → r ≡ Err other_cause → cause ≡ other_cause
same_cause r cause other_cause e f = cc

not_both_ways : (r : Result (List ℕ × Bool) UnescapeError) (value : List ℕ × Bool) (cause : UnescapeError) → r ≡ Ok value → r ≡ Err cause → ⊥
not_both_ways r value cause e f = cc

pub one_outcome : OneOutcome
one_outcome raw = record {
  some = some_outcome raw (unescape_result raw) (outcome raw);
  one_value = λ value value' odd odd' s t. same_value (unescape_result raw) value value' odd odd' (spells_unescaped s) (spells_unescaped t);
  one_cause = λ cause cause' f g. same_cause (unescape_result raw) cause cause' (fails_unescaped f) (fails_unescaped g);
  not_both = λ value odd cause s f. not_both_ways (unescape_result raw) (value, odd) cause (spells_unescaped s) (fails_unescaped f);
}

-- ---- an answer

-- no refusal is out of memory
fails_not_memory : {before : ℕ} {raw : List ℕ} {cause : UnescapeError} → FailsAfter before raw cause → cause ≢ Memory
fails_not_memory (fails_here (refused_octal over)) e = cc
fails_not_memory (fails_here (refused_control takes none)) e = cc
fails_not_memory (fails_here (refused_control_at_end takes)) e = cc
fails_not_memory (fails_here refused_nul) e = cc
fails_not_memory (fails_here refused_escaped_nul) e = cc
fails_not_memory (fails_later p later) e = fails_not_memory later e

can_be_spelled : (raw : List ℕ) (r : Result (List ℕ × Bool) UnescapeError) → Outcome 0 raw r → IsOk r → CanBeSpelled raw
can_be_spelled raw (Ok found) s ok = (found.0, found.1, s)
can_be_spelled raw (Err cause) s ok = absurd cc

-- out of memory is the answer only to a text that can be spelled
pub memory_explains : (raw : List ℕ) → IsOk (unescape_result raw) → IsCauseOf Memory raw
memory_explains raw ok = can_be_spelled raw (unescape_result raw) (outcome raw) ok

-- a fault that was computed is the cause
pub fault_explains : (raw : List ℕ) (cause : UnescapeError) → unescape_result raw ≡ Err cause → IsCauseOf cause raw
fault_explains raw Memory e = absurd (fails_not_memory (unescaped_fails e) refl)
fault_explains raw BadOctal e = unescaped_fails e
fault_explains raw BadControl e = unescaped_fails e
fault_explains raw BadByte e = unescaped_fails e
