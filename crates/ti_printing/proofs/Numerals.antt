-- Each number has exactly one numeral to a base, and it is std's `digits_of`.
use Rattle.std.proofs.Common.{subst, zero, suc, ◌≡◌, ℕ, ◌+◌, ◌*◌, ◌%◌, ◌<◌, ◌≤◌, List, [], ◌∷◌, ◌++◌, length, get_or, refl, sym, ap, ◌∙◌, arith}
use Rattle.std.proofs.lemmas.Int.Digits.{digits_of_step, all_below_base_digits_of, first_digits_of, number_digits_of}
use Rattle.std.proofs.lemmas.List.{append-nil, append_assoc}
use Rattle.std.proofs.lemmas.Nat.{div-mul-add, mod-mul-add}
use Rattle.std.proofs.Math.Nat.{mul-le-mul}
use Rattle.std.specs.Int.Digits.{digits_of, number_from_digits, number_from_digits_after, AllBelowBase}
use Rattle.ti_printing.specs.Printf.{BeginsAboveZero, IsNumeralOf, OneNumeral}

-- one more digit
digits_of-push : (b m d : ℕ) → 2 ≤ b → d < b → 0 < m * b + d → digits_of b (m * b + d) ≡ digits_of b m ++ (d ∷ [])
digits_of-push b m d two small above =
    digits_of_step b (m * b + d) two above ∙
    ap (λ q. digits_of b q ++ ((m * b + d) % b ∷ [])) (div-mul-add m b d small) ∙
    ap (λ r. digits_of b m ++ (r ∷ [])) (mod-mul-add m b d small)

-- digits after those of a number that is not 0
digits_of-after : (b m : ℕ) (ds : List ℕ) → 2 ≤ b → 0 < m → AllBelowBase b ds → digits_of b (number_from_digits_after b m ds) ≡ digits_of b m ++ ds
digits_of-after b m [] two above below = sym (append-nil (digits_of b m))
digits_of-after b m (d ∷ ds) two above below =
    let product : 1 * 2 ≤ m * b = mul-le-mul above two in
    let more : 0 < m * b + d = omega arith in
    digits_of-after b (m * b + d) ds two more below.1 ∙
    ap (λ front. front ++ ds) (digits_of-push b m d two below.0 more) ∙
    append_assoc (digits_of b m) (d ∷ []) ds

digits_of-number : (b : ℕ) (ds : List ℕ) → 2 ≤ b → AllBelowBase b ds → BeginsAboveZero ds → digits_of b (number_from_digits b ds) ≡ ds
digits_of-number b [] two below plain = refl
digits_of-number b (d ∷ ds) two below plain =
    let more : 0 < 0 * b + d = omega arith in
    digits_of-after b (0 * b + d) ds two more below.1 ∙
    ap (λ front. front ++ ds) (digits_of-push b 0 d two below.0 more)

begins_above : (ds : List ℕ) → (0 < length ds → 0 < get_or ds 0 0) → BeginsAboveZero ds
begins_above [] h = tt
begins_above (d ∷ ds) h = h (omega arith)

pub begins_above-digits_of : (b n : ℕ) → 2 ≤ b → BeginsAboveZero (digits_of b n)
begins_above-digits_of b zero two = tt
begins_above-digits_of b (suc n) two = begins_above (digits_of b (suc n)) (λ _. first_digits_of b (suc n) two (omega arith))

pub one_numeral : OneNumeral
one_numeral base n two ds = (
  λ h. sym (digits_of-number base ds two h.digits h.plain) ∙ ap (digits_of base) h.number,
  λ e. subst (IsNumeralOf base n) (sym e)
      (record { digits = all_below_base_digits_of base n two; plain = begins_above-digits_of base n two; number = number_digits_of base n two }),
)
