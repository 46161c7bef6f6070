-- Walking over the pieces of a text: each function that computes a piece gives what the relations
-- say.
use Rattle.std.proofs.Common.{◌≡◌, ◌≢◌, ℕ, zero, suc, ◌+◌, ◌-◌, ◌<◌, ◌≤◌, Bool, true, false, cond, eqb, List, [], ◌∷◌, ◌++◌, length, get_or, take, drop}
use Rattle.std.proofs.Common.{Option, Some, None, Result, Ok, Err, refl, ap, subst, sym, ◌∙◌, append_assoc, arith}
use Rattle.std.specs.Prelude.{◌&&◌, ◌||◌, not, bit_and, MatchResult, nat_le}
use Rattle.std.specs.List.{list_all}
use Rattle.std.proofs.lemmas.Bool.{cond_both, eqb-true, eqb-false, ne_eqb, leb-true, leb-false, le-leb, and_parts, and_from, both_ways, not-true}
use Rattle.std.proofs.lemmas.Bool.{not_from_false, or_parts}
use Rattle.std.proofs.lemmas.Result.{MatchResult-at_ok}
use Rattle.std.proofs.lemmas.List.{length-append, append-nil}
use Rattle.ti_spelling.specs.declared.spelling.Piece.{Piece}
use Rattle.ti_spelling.specs.declared.spelling.UnescapeError.{UnescapeError}
use Rattle.ti_spelling.specs.declared.spelling.UnescapeError.TheVariants.{BadOctal, BadControl, BadByte}
use Rattle.ti_spelling.specs.Spelling.{named_escape, is_octal_digit, octal_digits, octal_digits_up_to, octal_value, is_percent, not_nul, IsEscape, escape_named}
use Rattle.ti_spelling.specs.Spelling.{escape_octal, escape_unknown, escape_missing, IsControl, control_delete, control_masked, IsPiece, piece_escape}
use Rattle.ti_spelling.specs.Spelling.{piece_control}
use Rattle.ti_spelling.specs.Spelling.{piece_caret, piece_plain, IsRefused, refused_octal, refused_control, refused_control_at_end, refused_nul}
use Rattle.ti_spelling.specs.Spelling.{refused_escaped_nul}
use Rattle.ti_spelling.specs.inside.Spelling.{octal_piece, unnamed_piece, named_piece, escape_piece, is_control_letter, control_piece, first_piece}
use Rattle.ti_spelling.specs.inside.Spelling.{is_literal, with_piece, then_later, unescaped_from, with_front}

-- ---- octal digits

-- the digits are at the front
pub record HasFront (xs digits : List ℕ) : Type 0 where
  pub rest : List ℕ
  pub whole : xs ≡ digits ++ rest

digits_front : (n : ℕ) (xs : List ℕ) → HasFront xs (octal_digits_up_to n xs)
digits_front zero xs = record { rest = xs; whole = refl }
digits_front (suc n) [] = record { rest = []; whole = refl }
digits_front (suc n) (x ∷ xs) =
    let later = digits_front n xs in
    elim (is_octal_digit x) as (λ (b : Bool). HasFront (x ∷ xs) (cond b (x ∷ octal_digits_up_to n xs) [])) [
      | true ↦ record { rest = later.rest; whole = ap (λ (ys : List ℕ). x ∷ ys) later.whole }
      | false ↦ record { rest = x ∷ xs; whole = refl }
    ]

-- ---- from a computed piece to the relations

pub record EscapeFound (xs : List ℕ) (piece : Piece) : Type 0 where
  pub text : List ℕ
  pub rest : List ℕ
  pub whole : xs ≡ text ++ rest
  pub size : length text + 1 ≡ piece.size
  pub is_escape : IsEscape text rest piece.byte piece.odd

abbrev pub EscapeRight : List ℕ → Result Piece UnescapeError → Type 0
EscapeRight xs r = MatchResult r (EscapeFound xs) (λ cause. (before : ℕ) → IsRefused before (92 ∷ xs) cause)

octal_right : (x : ℕ) (xs : List ℕ) → is_octal_digit x ≡ true → EscapeRight (x ∷ xs) (octal_piece (octal_digits (x ∷ xs)))
octal_right x xs digit =
    let ds : List ℕ = octal_digits_up_to 2 xs in
    let front = digits_front 2 xs in
    let digits : octal_digits (x ∷ xs) ≡ x ∷ ds = ap (λ (b : Bool). cond b (x ∷ ds) []) digit in
    let again : octal_digits (x ∷ (ds ++ front.rest)) ≡ x ∷ ds = subst (λ (ys : List ℕ). octal_digits (x ∷ ys) ≡ x ∷ ds) front.whole digits in
    cond_both (nat_le (octal_value (octal_digits (x ∷ xs))) 255)
    (Ok (record { size = length (octal_digits (x ∷ xs)) + 1; byte = not_nul (octal_value (octal_digits (x ∷ xs))); odd = false })) (Err BadOctal)
    (EscapeRight (x ∷ xs))
    (λ e. subst (λ (all : List ℕ). octal_value all ≤ 255
    → EscapeFound (x ∷ xs) (record { size = length all + 1; byte = not_nul (octal_value all); odd = false })) (sym digits)
    (λ le. record { text = x ∷ ds; rest = front.rest; whole = ap (λ (ys : List ℕ). x ∷ ys) front.whole; size = refl; is_escape = escape_octal again le })
    (leb-true _ 255 e))
    (λ e before. refused_octal (leb-false _ 255 e))

-- the case of a letter without a name
unnamed_right : (x : ℕ) (xs : List ℕ) → named_escape x ≡ None → EscapeRight (x ∷ xs) (unnamed_piece x xs)
unnamed_right x xs unnamed =
    cond_both (is_octal_digit x) (octal_piece (octal_digits (x ∷ xs))) (cond (eqb x 0) (Err BadByte) (Ok (record { size = 2; byte = x; odd = true })))
    (EscapeRight (x ∷ xs))
    (λ digit. octal_right x xs digit)
    (λ other. cond_both (eqb x 0) (Err BadByte) (Ok (record { size = 2; byte = x; odd = true })) (EscapeRight (x ∷ xs))
    (λ nul before. subst (λ (y : ℕ). IsRefused before (92 ∷ y ∷ xs) BadByte) (sym (eqb-true x 0 nul)) refused_escaped_nul)
    (λ some. record { text = x ∷ []; rest = xs; whole = refl; size = refl; is_escape = escape_unknown unnamed other (eqb-false x 0 some) }))

escape_right : (xs : List ℕ) → EscapeRight xs (escape_piece xs)
unfolding escape_piece
escape_right [] = record { text = []; rest = []; whole = refl; size = refl; is_escape = escape_missing }
escape_right (x ∷ xs) = by_name (named_escape x) refl
  where
    by_name : (name : Option ℕ) → named_escape x ≡ name → EscapeRight (x ∷ xs) (named_piece name (unnamed_piece x xs))
    by_name None e = unnamed_right x xs e
    by_name (Some byte) e = record { text = x ∷ []; rest = xs; whole = refl; size = refl; is_escape = escape_named e }

-- what a `^` may take
pub control_letter : (x : ℕ) → is_control_letter x ≡ true → (32 ≤ x) × (x ≤ 126) × (x ≢ 44)
control_letter x e =
    let p = and_parts (nat_le 32 x) (nat_le x 126 && not (eqb x 44)) e in
    let q = and_parts (nat_le x 126) (not (eqb x 44)) p.1 in
    (leb-true 32 x p.0, leb-true x 126 q.0, eqb-false x 44 (not-true (eqb x 44) q.1))

pub is_letter : (x : ℕ) → 32 ≤ x → x ≤ 126 → x ≢ 44 → is_control_letter x ≡ true
is_letter x low high comma = and_from _ _ (le-leb 32 x low) (and_from _ _ (le-leb x 126 high) (not_from_false (eqb x 44) (ne_eqb x 44 comma)))

pub record ControlFound (xs : List ℕ) (piece : Piece) : Type 0 where
  pub letter : ℕ
  pub rest : List ℕ
  pub whole : xs ≡ letter ∷ rest
  pub is_control : IsControl letter piece.byte
  pub size : piece.size ≡ 2
  pub even : piece.odd ≡ false

no_control : (x : ℕ) → x ≢ 63 → is_control_letter x ≡ false → (byte : ℕ) → IsControl x byte → ⊥
no_control x other none byte control_delete = other refl
no_control x other none byte (control_masked low high comma question) = absurd (both_ways (is_control_letter x) none (is_letter x low high comma))

control_right : (before : ℕ) (xs : List ℕ) → is_percent before ≡ false → MatchResult (control_piece xs) (ControlFound xs) (IsRefused before (94 ∷ xs))
unfolding control_piece
control_right before [] e = refused_control_at_end e
control_right before (x ∷ xs) e =
    cond_both (eqb x 63) (Ok (record { size = 2; byte = 127; odd = false }))
    (cond (is_control_letter x) (Ok (record { size = 2; byte = not_nul (bit_and x 31); odd = false })) (Err BadControl))
    (λ r. MatchResult r (ControlFound (x ∷ xs)) (IsRefused before (94 ∷ x ∷ xs)))
    (λ is. record {
      letter = x;
      rest = xs;
      whole = refl;
      is_control = subst (λ (y : ℕ). IsControl y 127) (sym (eqb-true x 63 is)) control_delete;
      size =
          refl;
      even = refl;
    })
    (λ other. cond_both (is_control_letter x) (Ok (record { size = 2; byte = not_nul (bit_and x 31); odd = false })) (Err BadControl)
    (λ r. MatchResult r (ControlFound (x ∷ xs)) (IsRefused before (94 ∷ x ∷ xs)))
    (λ is. let p = control_letter x is in record {
      letter = x;
      rest = xs;
      whole = refl;
      is_control =
          control_masked p.0 p.1 p.2 (eqb-false x 63 other);
      size = refl;
      even = refl;
    })
    (λ none. refused_control e (no_control x (eqb-false x 63 other) none)))

pub record Found (before : ℕ) (raw : List ℕ) (piece : Piece) : Type 0 where
  pub text : List ℕ
  pub rest : List ℕ
  pub whole : raw ≡ text ++ rest
  pub size : length text ≡ piece.size
  pub is_piece : IsPiece before text rest piece.byte piece.odd

abbrev pub FirstRight : ℕ → List ℕ → Result Piece UnescapeError → Type 0
FirstRight before raw r = MatchResult r (Found before raw) (IsRefused before raw)

after_backslash : (before : ℕ) (xs : List ℕ) (r : Result Piece UnescapeError) → EscapeRight xs r → FirstRight before (92 ∷ xs) r
after_backslash before xs (Ok piece) found =
    record {
      text = 92 ∷ found.text;
      rest = found.rest;
      whole = ap (λ (ys : List ℕ). 92 ∷ ys) found.whole;
      size = omega (arith, found.size);
      is_piece =
          piece_escape found.is_escape;
    }
after_backslash before xs (Err cause) refused = refused before

after_caret : (before : ℕ) (xs : List ℕ) (r : Result Piece UnescapeError) → is_percent before ≡ false
    → MatchResult r (ControlFound xs) (IsRefused before (94 ∷ xs)) → FirstRight before (94 ∷ xs) r
after_caret before xs (Ok piece) e found = record {
  text = 94 ∷ found.letter ∷ [];
  rest = found.rest;
  whole = ap (λ (ys : List ℕ). 94 ∷ ys) found.whole;
  size = sym found.size;
  is_piece = subst (λ (o : Bool). IsPiece before (94 ∷ found.letter ∷ []) found.rest piece.byte o) (sym found.even) (piece_control e found.is_control);
}
after_caret before xs (Err cause) e refused = refused

pub first_right : (before x : ℕ) (xs : List ℕ) → FirstRight before (x ∷ xs) (first_piece (is_percent before) (x ∷ xs))
unfolding first_piece
first_right before x xs =
    cond_both (eqb x 92) (escape_piece xs) (cond (eqb x 94) (cond (is_percent before) caret (control_piece xs)) others) (FirstRight before (x ∷ xs))
    (λ is. subst (λ (y : ℕ). FirstRight before (y ∷ xs) (escape_piece xs)) (sym (eqb-true x 92 is))
    (after_backslash before xs (escape_piece xs) (escape_right xs)))
    (λ ne92. cond_both (eqb x 94) (cond (is_percent before) caret (control_piece xs)) others (FirstRight before (x ∷ xs))
    (λ is. subst (λ (y : ℕ). FirstRight before (y ∷ xs) (cond (is_percent before) caret (control_piece xs))) (sym (eqb-true x 94 is))
    (cond_both (is_percent before) caret (control_piece xs) (FirstRight before (94 ∷ xs))
    (λ literal. record { text = 94 ∷ []; rest = xs; whole = refl; size = refl; is_piece = piece_caret literal })
    (λ takes. after_caret before xs (control_piece xs) takes (control_right before xs takes))))
    (λ ne94. cond_both (eqb x 0) (Err BadByte) plain (FirstRight before (x ∷ xs))
    (λ is. subst (λ (y : ℕ). IsRefused before (y ∷ xs) BadByte) (sym (eqb-true x 0 is)) refused_nul)
    (λ ne0. record {
      text = x ∷ [];
      rest = xs;
      whole = refl;
      size = refl;
      is_piece =
          piece_plain (eqb-false x 92 ne92) (eqb-false x 94 ne94) (eqb-false x 0 ne0);
    })))
  where
    caret : Result Piece UnescapeError
    caret = Ok (record { size = 1; byte = 94; odd = false })

    plain : Result Piece UnescapeError
    plain = Ok (record { size = 1; byte = x; odd = false })

    others : Result Piece UnescapeError
    others = cond (eqb x 0) (Err BadByte) plain

-- ---- from the relations to a computed piece

pub piece_some : {before byte : ℕ} {text rest : List ℕ} {odd : Bool} → IsPiece before text rest byte odd → 0 < length text
piece_some (piece_escape e) = omega arith
piece_some (piece_control takes c) = omega arith
piece_some (piece_caret literal) = omega arith
piece_some (piece_plain a b c) = omega arith

-- a piece is part of the text, and is not empty
pub piece_fits : (before : ℕ) (raw : List ℕ) (piece : Piece) → first_piece (is_percent before) raw ≡ Ok piece → (0 < piece.size) × (piece.size ≤ length raw)
unfolding first_piece
piece_fits before [] piece e = absurd cc
piece_fits before (x ∷ xs) piece e =
    let found : Found before (x ∷ xs) piece = MatchResult-at_ok (Found before (x ∷ xs)) (IsRefused before (x ∷ xs)) piece e (first_right before x xs) in
    (omega (arith, piece_some found.is_piece, found.size), omega (arith, found.size, ap length found.whole, length-append found.text found.rest))

-- ---- over a whole text

-- what belongs to the piece that was read is passed over
skips : (k before : ℕ) (text : List ℕ) → k ≤ length text → unescaped_from k before text ≡ unescaped_from 0 (get_or (before ∷ text) k 0) (drop k text)
unfolding unescaped_from
skips zero before text le = refl
skips (suc k) before [] le = absurd (omega arith)
skips (suc k) before (x ∷ xs) le = skips k x xs (omega arith)

-- the code's step
pub steps : (before : ℕ) (raw : List ℕ) (piece : Piece) → first_piece (is_percent before) raw ≡ Ok piece
    → unescaped_from 0 before raw ≡ with_piece piece (unescaped_from 0 (get_or raw (piece.size - 1) 0) (drop piece.size raw))
unfolding unescaped_from
steps before [] piece e = absurd (omega (arith, piece_fits before [] piece e))
steps before (x ∷ xs) piece e =
    let fits = piece_fits before (x ∷ xs) piece e in
    let some : piece.size ≡ suc (piece.size - 1) = omega (arith, fits.0) in
    let in_rest : piece.size - 1 ≤ length xs = omega (arith, fits.1) in
    let passed = skips (piece.size - 1) x xs in_rest in
    let at : drop piece.size (x ∷ xs) ≡ drop (piece.size - 1) xs = ap (λ (k : ℕ). drop k (x ∷ xs)) some in
    ap (λ (r : Result Piece UnescapeError). then_later r (λ p. unescaped_from (p.size - 1) x xs)) e
    ∙ ap (with_piece piece) (passed ∙ ap (λ (rest : List ℕ). unescaped_from 0 (get_or (x ∷ xs) (piece.size - 1) 0) rest) (sym at))

pub refuses : (before : ℕ) (raw : List ℕ) (cause : UnescapeError) → 0 < length raw → first_piece (is_percent before) raw ≡ Err cause
    → unescaped_from 0 before raw ≡ Err cause
unfolding unescaped_from
refuses before [] cause lt e = absurd (omega arith)
refuses before (x ∷ xs) cause lt e = ap (λ (r : Result Piece UnescapeError). then_later r (λ p. unescaped_from (p.size - 1) x xs)) e

pub ends : (before : ℕ) (raw : List ℕ) → length raw ≡ 0 → unescaped_from 0 before raw ≡ Ok ([], false)
unfolding unescaped_from
ends before [] e = refl
ends before (x ∷ xs) e = absurd (omega arith)

-- ---- what was read so far, before the rest

pub with_no_front : (r : Result (List ℕ × Bool) UnescapeError) → r ≡ with_front [] false r
with_no_front (Ok later) = refl
with_no_front (Err cause) = refl

or_regroup : (a b c : Bool) → (a || (b || c)) ≡ ((a || b) || c)
or_regroup true b c = refl
or_regroup false b c = refl

pub moves_on : (front : List ℕ) (odd : Bool) (piece : Piece) (r : Result (List ℕ × Bool) UnescapeError)
    → with_front front odd (with_piece piece r) ≡ with_front (front ++ piece.byte ∷ []) (odd || piece.odd) r
moves_on front odd piece (Ok later) = rw (append_assoc front (piece.byte ∷ []) later.0, or_regroup odd piece.odd later.1) refl
moves_on front odd piece (Err cause) = refl

pub is_whole : (front : List ℕ) (odd : Bool) → with_front front odd (Ok ([], false)) ≡ Ok (front, odd)
is_whole front true = rw append-nil refl
is_whole front false = rw append-nil refl

-- ---- bytes that spell themselves

pub joins_front : (front more : List ℕ) (odd : Bool) (r : Result (List ℕ × Bool) UnescapeError)
    → with_front front odd (with_front more false r) ≡ with_front (front ++ more) odd r
joins_front front more odd (Ok later) = rw (append_assoc front more later.0) refl
joins_front front more odd (Err cause) = refl

literal_piece : (before x : ℕ) (xs : List ℕ) → is_literal x ≡ true → first_piece (is_percent before) (x ∷ xs) ≡ Ok (record { size = 1; byte = x; odd = false })
unfolding first_piece
literal_piece before x xs e =
    let parts = or_parts (eqb x 92 || eqb x 94) (eqb x 0) (not-true ((eqb x 92 || eqb x 94) || eqb x 0) e) in
    let pairs = or_parts (eqb x 92) (eqb x 94) parts.0 in
    rw (pairs.0, pairs.1, parts.1) refl

literal_in_front : (x : ℕ) (front : List ℕ) (r : Result (List ℕ × Bool) UnescapeError)
    → with_piece (record { size = 1; byte = x; odd = false }) (with_front front false r) ≡ with_front (x ∷ front) false r
literal_in_front x front (Ok later) = refl
literal_in_front x front (Err cause) = refl

-- the given number of bytes at the front that spell themselves
pub literals : (k before : ℕ) (text : List ℕ) → k ≤ length text → list_all is_literal (take k text) ≡ true
    → unescaped_from 0 before text ≡ with_front (take k text) false (unescaped_from 0 (get_or (before ∷ text) k 0) (drop k text))
unfolding unescaped_from
literals zero before text le all = with_no_front (unescaped_from 0 before text)
literals (suc k) before [] le all = absurd (omega arith)
literals (suc k) before (x ∷ xs) le all =
    let parts = and_parts (is_literal x) (list_all is_literal (take k xs)) all in
    ap (λ (r : Result Piece UnescapeError). then_later r (λ p. unescaped_from (p.size - 1) x xs)) (literal_piece before x xs parts.0)
    ∙ ap (with_piece (record { size = 1; byte = x; odd = false })) (literals k x xs (omega arith) parts.1)
    ∙ literal_in_front x (take k xs) (unescaped_from 0 (get_or (x ∷ xs) k 0) (drop k xs))

-- the code's step
pub takes_literals : (k before : ℕ) (text : List ℕ) → 0 < k → k ≤ length text → list_all is_literal (take k text) ≡ true
    → unescaped_from 0 before text ≡ with_front (take k text) false (unescaped_from 0 (get_or text (k - 1) 0) (drop k text))
takes_literals k before text some le all =
    let some_size : k ≡ suc (k - 1) = omega arith in
    literals k before text le all
    ∙ ap (λ (b : ℕ). with_front (take k text) false (unescaped_from 0 b (drop k text))) (ap (λ (n : ℕ). get_or (before ∷ text) n 0) some_size)

-- one more literal byte
pub literal_more : (front : List ℕ) (x : ℕ) → list_all is_literal front ≡ true → is_literal x ≡ true → list_all is_literal (front ++ x ∷ []) ≡ true
literal_more [] x all e = rw e refl
literal_more (y ∷ ys) x all e =
    let parts = and_parts (is_literal y) (list_all is_literal ys) all in
    and_from _ _ parts.0 (literal_more ys x parts.1 e)
