-- What a number of a source is written as, and what it reads as.
use Rattle.std.proofs.Common.{◌≡◌, ℕ, ◌<◌, ◌≤◌, true, false, ◌||◌, ◌==◌, nat_le, nat_lt, List, [], ◌∷◌, ◌++◌, Option, Some, None, Result, Ok, Err, All, ◌⊎◌}
use Rattle.std.proofs.Common.{refl, sym, ap, subst, ◌∙◌, inl, inr, arith}
use Rattle.std.specs.Bool.{Decides}
use Rattle.std.specs.List.{list_all, AllPass}
use Rattle.std.proofs.lemmas.Bool.{cases_Bool, and_left, or_from, or_cases, or_left, or_right, eqb-true, eqb-false, eq-eqb, ne_eqb, leb-true, leb-false}
use Rattle.std.proofs.lemmas.Bool.{le-leb, lt-leb}
use Rattle.std.proofs.lemmas.Bool.Decides.{Decides-ltb, Decides-by_and}
use Rattle.std.proofs.lemmas.List.Elements.{All-nil, All-head, All-tail}
use Rattle.std.proofs.lemmas.List.Sums.{AllPass-from_list_all, list_all-from_AllPass}
use Rattle.ti_spelling.specs.declared.numbers.NumberError.{NumberError}
use Rattle.ti_spelling.specs.declared.numbers.NumberError.TheVariants.{Bad, TooLarge}
use Rattle.ti_text.specs.WhiteSpace.{is_white_space}
use Rattle.ti_spelling.specs.WhiteSpace.{without_trailing_space}
use Rattle.ti_spelling.specs.Numbers.{digit_value, IsDigit, value_in, IsNumber, octal, hexadecimal, decimal, IsNumeral, ReadsAs, NumeralsHaveOneValue}
use Rattle.ti_spelling.specs.Numbers.{EachTextIsRead, NumbersHaveOneReading}
use Rattle.ti_text.specs.Limits.{number_max}
use Rattle.ti_spelling.specs.inside.Numbers.{digits_read, after_zero_read, value_read, within_limit, number_read, NumbersAreComputed}

-- ---- digits
digits_decide : (base : ℕ) (ds : List ℕ) → Decides (list_all (λ b. nat_lt (digit_value b) base) ds) (All (IsDigit base) ds)
digits_decide base ds =
    Decides-by_and (λ b. nat_lt (digit_value b) base) (IsDigit base) (list_all (λ b. nat_lt (digit_value b) base))
    (λ b. Decides-ltb (digit_value b) base) refl (λ _ _. refl) ds

digits_read-some : (base : ℕ) (ds : List ℕ) → All (IsDigit base) ds → digits_read base ds ≡ Some (value_in base ds)
digits_read-some base ds h = let t = (digits_decide base ds).1 h in rw t refl

record Digits (base : ℕ) (ds : List ℕ) (v : ℕ) : Type 0 where
  all : All (IsDigit base) ds
  is : value_in base ds ≡ v

digits_from_read : (base : ℕ) (ds : List ℕ) (v : ℕ) → digits_read base ds ≡ Some v → Digits base ds v
digits_from_read base ds v e =
    elim (cases_Bool (list_all (λ b. nat_lt (digit_value b) base) ds)) [
      | inl t ↦ record { all = (digits_decide base ds).0 t; is = (let same = rw t at e in cc) }
      | inr f ↦ (let clash = rw f at e in cc)
    ]

-- a white space byte is a digit of no base
digit_is_dark : (b base : ℕ) → base ≤ 16 → IsDigit base b → is_white_space b ≡ false
digit_is_dark b base h d =
    elim (cases_Bool (is_white_space b)) [
      | inr f ↦ f
      | inl t ↦ elim (or_cases (b == 32) (b == 9) t) [
        | inl e ↦ absurd (omega (arith, subst (λ x. digit_value x < base) (eqb-true b 32 e) d))
        | inr e ↦ absurd (omega (arith, subst (λ x. digit_value x < base) (eqb-true b 9 e) d))
      ]
    ]

-- no byte of a text is white space
abbrev pub IsDark : List ℕ → Type 0
IsDark [] = Unit {0}
IsDark (x ∷ xs) = (is_white_space x ≡ false) × IsDark xs

dark_digits : (base : ℕ) (ds : List ℕ) → base ≤ 16 → All (IsDigit base) ds → IsDark ds
dark_digits base [] h a = tt
dark_digits base (x ∷ xs) h a = (digit_is_dark x base h (All-head (IsDigit base) x xs a), dark_digits base xs h (All-tail (IsDigit base) x xs a))

number_is_dark : {n : List ℕ} {v : ℕ} → IsNumber n v → IsDark n
number_is_dark (octal ds a) = (refl, dark_digits 8 ds (omega arith) a)
number_is_dark (hexadecimal x d ds (inl e) a) = (refl, (ap is_white_space e, dark_digits 16 (d ∷ ds) (omega arith) a))
number_is_dark (hexadecimal x d ds (inr e) a) = (refl, (ap is_white_space e, dark_digits 16 (d ∷ ds) (omega arith) a))
number_is_dark (decimal d ds m a) = dark_digits 10 (d ∷ ds) (omega arith) a

-- ---- white space at the end
trimmed-dark : (n space : List ℕ) → IsDark n → AllPass is_white_space space → without_trailing_space (n ++ space) ≡ n
trimmed-dark [] [] d b = refl
trimmed-dark [] (x ∷ xs) d b = let t = list_all-from_AllPass is_white_space (x ∷ xs) b in rw t refl
trimmed-dark (x ∷ n) space d b =
    let f = and_left (is_white_space x) (list_all is_white_space (n ++ space)) d.0 in
    rw f (ap (λ r. x ∷ r) (trimmed-dark n space d.1 b))

record Trims (s space : List ℕ) : Type 0 where
  whole : s ≡ without_trailing_space s ++ space
  blank : AllPass is_white_space space

trims : (s : List ℕ) → (space : List ℕ) × Trims s space
trims [] = ([], record { whole = refl; blank = All-nil (λ x. is_white_space x ≡ true) })
trims (x ∷ xs) =
    elim (cases_Bool (list_all is_white_space (x ∷ xs))) [
      | inl t ↦ (x ∷ xs, record { whole = rw t refl; blank = AllPass-from_list_all is_white_space (x ∷ xs) t })
      | inr f ↦ let later = trims xs in (later.0, record { whole = rw f (ap (λ r. x ∷ r) later.1.whole); blank = later.1.blank })
    ]

-- ---- a number and its value
octal_is_no_mark : (x : ℕ) → IsDigit 8 x → (x == 120 || x == 88) ≡ false
octal_is_no_mark x d =
    or_from (x == 120) (x == 88)
    (ne_eqb x 120 (λ e. absurd (omega (arith, subst (IsDigit 8) e d))))
    (ne_eqb x 88 (λ e. absurd (omega (arith, subst (IsDigit 8) e d))))

number_is_read : {n : List ℕ} {v : ℕ} → IsNumber n v → value_read n ≡ Some v
number_is_read (octal [] a) = refl
number_is_read (octal (x ∷ []) a) = digits_read-some 8 (x ∷ []) a
number_is_read (octal (x ∷ y ∷ ys) a) =
    let f = octal_is_no_mark x (All-head (IsDigit 8) x (y ∷ ys) a) in
    rw f (digits_read-some 8 (x ∷ y ∷ ys) a)
number_is_read (hexadecimal x d ds (inl e) a) =
    let t = or_left (x == 120) (x == 88) (eq-eqb x 120 e) in
    rw t (digits_read-some 16 (d ∷ ds) a)
number_is_read (hexadecimal x d ds (inr e) a) =
    let t = or_right (x == 120) (x == 88) (eq-eqb x 88 e) in
    rw t (digits_read-some 16 (d ∷ ds) a)
number_is_read (decimal d ds n a) =
    let f = ne_eqb d 48 n in
    rw f (digits_read-some 10 (d ∷ ds) a)

mark : (x : ℕ) → (x == 120 || x == 88) ≡ true → (x ≡ 120) ⊎ (x ≡ 88)
mark x t = elim (or_cases (x == 120) (x == 88) t) [ inl e ↦ inl (eqb-true x 120 e) | inr e ↦ inr (eqb-true x 88 e) ]

after_zero : (ds : List ℕ) (v : ℕ) → after_zero_read ds ≡ Some v → IsNumber (48 ∷ ds) v
after_zero [] v e = let zero_is : 0 ≡ v = cc in subst (IsNumber (48 ∷ [])) zero_is (octal [] (All-nil (IsDigit 8)))
after_zero (x ∷ []) v e = let h = digits_from_read 8 (x ∷ []) v e in subst (IsNumber (48 ∷ x ∷ [])) h.is (octal (x ∷ []) h.all)
after_zero (x ∷ d ∷ ds) v e =
    elim (cases_Bool (x == 120 || x == 88)) [
      | inl t ↦
          let h = digits_from_read 16 (d ∷ ds) v (rw t at e) in
          subst (IsNumber (48 ∷ x ∷ d ∷ ds)) h.is (hexadecimal x d ds (mark x t) h.all)
      | inr f ↦
          let h = digits_from_read 8 (x ∷ d ∷ ds) v (rw f at e) in
          subst (IsNumber (48 ∷ x ∷ d ∷ ds)) h.is (octal (x ∷ d ∷ ds) h.all)
    ]

read_is_number : (n : List ℕ) (v : ℕ) → value_read n ≡ Some v → IsNumber n v
read_is_number [] v e = cc
read_is_number (d ∷ ds) v e =
    elim (cases_Bool (d == 48)) [
      | inl t ↦ subst (λ k. IsNumber (k ∷ ds) v) (sym (eqb-true d 48 t)) (after_zero ds v (rw t at e))
      | inr f ↦
          let h = digits_from_read 10 (d ∷ ds) v (rw f at e) in
          subst (IsNumber (d ∷ ds)) h.is (decimal d ds (eqb-false d 48 f) h.all)
    ]

-- ---- what a text reads as
numeral_is_read : (text : List ℕ) (v : ℕ) → IsNumeral text v → value_read (without_trailing_space text) ≡ Some v
numeral_is_read text v n =
    ap value_read (ap without_trailing_space n.whole ∙ trimmed-dark n.number n.space (number_is_dark n.written) n.blank) ∙ number_is_read n.written

read_is_numeral : (text : List ℕ) (v : ℕ) → value_read (without_trailing_space text) ≡ Some v → IsNumeral text v
read_is_numeral text v e =
    let space = trims text in
    record {
      number = without_trailing_space text;
      space = space.0;
      whole = space.1.whole;
      blank = space.1.blank;
      written =
          read_is_number (without_trailing_space text) v e;
    }

pub one_value : NumeralsHaveOneValue
one_value text v w n m = let same = sym (numeral_is_read text v n) ∙ numeral_is_read text w m in cc

reads_within : (text : List ℕ) (o : Option ℕ) → value_read (without_trailing_space text) ≡ o → ReadsAs text (within_limit o)
reads_within text None e = λ v n. (let clash = sym e ∙ numeral_is_read text v n in cc)
reads_within text (Some v) e =
    elim (cases_Bool (nat_le v number_max)) [
      | inl t ↦ rw t (read_is_numeral text v e, leb-true v number_max t)
      | inr f ↦ rw f (v, read_is_numeral text v e, leb-false v number_max f)
    ]

pub each_text : (text : List ℕ) → ReadsAs text (number_read text)
each_text text = reads_within text (value_read (without_trailing_space text)) refl

-- a computed reading is a reading
pub reads_as : (text : List ℕ) (r : Result ℕ NumberError) → r ≡ number_read text → ReadsAs text r
reads_as text r e = subst (ReadsAs text) (sym e) (each_text text)

no_numeral : (text : List ℕ) (o : Option ℕ) → value_read (without_trailing_space text) ≡ o → ((v : ℕ) → IsNumeral text v → ⊥) → within_limit o ≡ Err Bad
no_numeral text None e n = refl
no_numeral text (Some v) e n = absurd (n v (read_is_numeral text v e))

pub one_reading : (text : List ℕ) (r : Result ℕ NumberError) → ReadsAs text r → number_read text ≡ r
one_reading text (Ok v) h =
    let t = le-leb v number_max h.1 in
    ap within_limit (numeral_is_read text v h.0) ∙ rw t refl
one_reading text (Err TooLarge) h =
    let f = lt-leb h.0 number_max h.2 in
    ap within_limit (numeral_is_read text h.0 h.1) ∙ rw f refl
one_reading text (Err Bad) h = no_numeral text (value_read (without_trailing_space text)) refl h

pub numbers_are_computed : NumbersAreComputed
numbers_are_computed = record { reads = each_text; only = one_reading }

pub each_text_is_read : EachTextIsRead
each_text_is_read text = (number_read text, each_text text)

pub numbers_have_one_reading : NumbersHaveOneReading
numbers_have_one_reading text one other p q = sym (one_reading text one p) ∙ one_reading text other q
