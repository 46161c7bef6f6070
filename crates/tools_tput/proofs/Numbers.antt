-- What `parse` of a signed number reads, in the words of a command's numbers.
use Rattle.std.proofs.Common.{◌≡◌, ◌≢◌, ℕ, ◌^◌, ◌<◌, ◌≤◌, Bool, true, false, subst, cond, ◌&&◌, List, [], ◌∷◌, length, Option}
use Rattle.std.proofs.Common.{Some, None, Result, Ok, Err, refl, sym, ap, eqb, ltb, leb, get_or, arith, rules}
use Rattle.std.specs.Prelude.{ℤ, pos, neg_ℤ}
use Rattle.std.specs.Bool.{Decides}
use Rattle.std.specs.Int.{w32}
use Rattle.std.specs.Result.{OkIff, result_ok}
use Rattle.std.specs.Str.{all_ascii_digits, IsUtf8, IsAscii}
use Rattle.std.specs.Str.Parse.{ParsesSigned, digits_value}
use Rattle.std.proofs.lemmas.Bool.{eqb-true, eqb-false, true≢false}
use Rattle.std.proofs.lemmas.Bool.Decides.{Decides-and, Decides-like, Decides-ltb}
use Rattle.std.proofs.lemmas.Fmt.{IsAscii-from_digits}
use Rattle.std.proofs.lemmas.Str.{IsUtf8-from_ascii}
use Rattle.std.proofs.lemmas.Str.Ascii.{IsAscii-cons}
use Rattle.std.proofs.lemmas.Str.Parse.{IsNumeralModel, numerals_by_value, tells_all_ascii_digits, parse_signed_plain, parse_signed_minus}
use Rattle.tools_tput.specs.Parameters.{is_numeral, negative_number, positive_number, word_number}

own : IsNumeralModel (λ ds. all_ascii_digits ds ≡ true) (digits_value 10)
own = numerals_by_value _ tells_all_ascii_digits

-- an answer that is there exactly if a test passes
ok_when : {E : Type 0} (r : Result ℤ E) (b : Bool) (Q : Type 0) (x : ℤ) → Decides b Q → OkIff r Q x
    → result_ok r ≡ cond b (Some x) None
ok_when (Ok y) true Q x d h = ap Some h.1
ok_when (Ok y) false Q x d h = absurd (true≢false (sym (d.1 h.0)))
ok_when (Err e) true Q x d h = absurd (h (d.0 refl))
ok_when (Err e) false Q x d h = refl

-- a numeral that passes one more test
fits : (ds : List ℕ) (b : Bool) (R : Type 0) → Decides b R
    → Decides (is_numeral ds && b) ((all_ascii_digits ds ≡ true) × (0 < length ds) × R)
fits ds b R d =
    Decides-like _ (λ h. (h.0.1, h.0.0, h.1)) (λ h. ((h.1, h.0), h.2))
    (Decides-and _ _ (Decides-and _ _ (Decides-ltb 0 (length ds)) (λ e. e, λ e. e)) d)

Decides-leb : (a b : ℕ) → Decides (leb a b) (a ≤ b)
Decides-leb a b = (search rules, search rules)

pub spelled-parse : {E : Type 0} (word : List ℕ) (r : Result ℤ E) → ParsesSigned w32 10 word r → get_or word 0 0 ≢ 43
    → result_ok r ≡ word_number word
unfolding word_number
spelled-parse [] (Ok x) h plus = absurd (omega (arith, h.0.0))
spelled-parse [] (Err e) h plus = refl
spelled-parse (byte ∷ rest) r h plus =
    elim (eqb byte 45) as (λ b. eqb byte 45 ≡ b → result_ok r ≡ cond b (negative_number rest) (positive_number (byte ∷ rest))) [
      | true ↦ λ e. ok_when r _ _ _ (fits rest _ _ (Decides-leb (digits_value 10 rest) (2 ^ 31)))
          (parse_signed_minus own w32 (byte ∷ rest) r h (eqb-true _ _ e))
      | false ↦ λ e. ok_when r _ _ _ (fits (byte ∷ rest) _ _ (Decides-ltb (digits_value 10 (byte ∷ rest)) (2 ^ 31)))
          (parse_signed_plain own w32 (byte ∷ rest) r h plus (eqb-false _ _ e))
    ] refl

none_by : (b : Bool) (x : Option ℤ) → (b ≡ true → ⊥) → cond b x None ≡ None
none_by true x bad = absurd (bad refl)
none_by false x bad = refl

first-true : (a b : Bool) → a && b ≡ true → a ≡ true
first-true true b e = refl
first-true false b e = e

second-true : (a b : Bool) → a && b ≡ true → b ≡ true
second-true true b e = e
second-true false b e = absurd (true≢false (sym e))

digits-of : (ds : List ℕ) (b : Bool) → is_numeral ds && b ≡ true → all_ascii_digits ds ≡ true
digits-of ds b e = second-true (ltb 0 (length ds)) (all_ascii_digits ds) (first-true (is_numeral ds) b e)

ascii-of : (ds : List ℕ) → all_ascii_digits ds ≡ true → IsAscii ds
ascii-of ds e = IsAscii-from_digits ds (own.to ds e)

pub spelled-plus : (word : List ℕ) → get_or word 0 0 ≡ 43 → word_number word ≡ None
unfolding word_number
spelled-plus [] e = refl
spelled-plus (byte ∷ rest) e =
    let P : ℕ → Type 0 = λ b. cond (eqb b 45) (negative_number rest) (positive_number (b ∷ rest)) ≡ None in
    subst P (sym e)
    (none_by (is_numeral (43 ∷ rest) && ltb (digits_value 10 (43 ∷ rest)) (2 ^ 31)) (Some (pos (digits_value 10 (43 ∷ rest))))
    (λ t. true≢false (sym (digits-of (43 ∷ rest) (ltb (digits_value 10 (43 ∷ rest)) (2 ^ 31)) t))))

pub spelled-not_text : (word : List ℕ) → ¬ IsUtf8 word → word_number word ≡ None
unfolding word_number
spelled-not_text [] bad = refl
spelled-not_text (byte ∷ rest) bad =
    elim (eqb byte 45) as (λ b. eqb byte 45 ≡ b → cond b (negative_number rest) (positive_number (byte ∷ rest)) ≡ None) [
      | true ↦ λ e. none_by (is_numeral rest && leb (digits_value 10 rest) (2 ^ 31)) (Some (neg_ℤ (pos (digits_value 10 rest))))
          (λ t. let is : byte ≡ 45 = eqb-true _ _ e in
          bad (IsUtf8-from_ascii (byte ∷ rest) (IsAscii-cons byte rest (omega arith) (ascii-of rest (digits-of rest _ t)))))
      | false ↦ λ e. none_by (is_numeral (byte ∷ rest) && ltb (digits_value 10 (byte ∷ rest)) (2 ^ 31)) (Some (pos (digits_value 10 (byte ∷ rest))))
          (λ t. bad (IsUtf8-from_ascii (byte ∷ rest) (ascii-of (byte ∷ rest) (digits-of (byte ∷ rest) _ t))))
    ] refl
