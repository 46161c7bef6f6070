-- The names of capabilities, and numbers in decimal: words of letters and digits.
use Rattle.std.proofs.Common.{◌≡◌, ℕ, ◌+◌, ◌*◌, ◌/◌, ◌%◌, ◌<◌, ◌≤◌, ◌^◌, Bool, true, false, not, ◌==◌, ◌||◌, ◌&&◌, nat_le, nat_lt}
use Rattle.std.proofs.Common.{List, [], ◌∷◌, ◌++◌, length, refl, ap, sym, ◌∙◌, inl, inr, subst, arith}
use Rattle.std.specs.List.{list_all, All}
use Rattle.std.specs.Str.{bytes_eq}
use Rattle.std.specs.Prelude.{codes}
use Rattle.std.specs.Fmt.{decimal as decimal_text}
use Rattle.std.proofs.lemmas.Bool.{agree_below, agree_below_at, and_parts, and_from, ltb-true, eqb-true, cases_eq, not-true}
use Rattle.std.proofs.lemmas.Fmt.{decimal_by_steps}
use Rattle.std.proofs.lemmas.List.Elements.{All-get_or, All-nil, All-cons, All-push}
use Rattle.std.proofs.lemmas.List.Sums.{AllPass-from_list_all, fold_push}
use Rattle.std.proofs.lemmas.List.{append-nil}
use Rattle.ti_text.specs.WhiteSpace.{is_white_space}
use Rattle.std.proofs.lemmas.List.Folds.{list_all-append}
use Rattle.ti_caps.specs.Names.{flag_names, number_names, text_names}
use Rattle.ti_caps.specs.Tables.{Capability, IsCapability, names, name_of, count_of}
use Rattle.ti_caps.specs.declared.capability.Kind.{Kind}
use Rattle.ti_caps.specs.declared.capability.Kind.TheVariants.{Flag, Number, Text}
use Rattle.ti_spelling.specs.Numbers.{digit_value, IsDigit, value_in, IsNumber, octal, decimal, IsNumeral}
use Rattle.ti_spelling.specs.Spelling.{is_empty}

-- a letter or a digit
abbrev pub is_word_byte : ℕ → Bool
is_word_byte b = nat_lt b 123 && (nat_le 97 b || (nat_le 65 b && nat_le b 90) || (nat_le 48 b && nat_le b 57))

-- letters and digits only
abbrev pub is_word : List ℕ → Bool
is_word w = list_all is_word_byte w

implied : (b c : Bool) → not b || c ≡ true → b ≡ true → c ≡ true
implied true c h t = h
implied false c h t = cc

-- a test that each letter and digit passes
pub word_byte-has : (P : ℕ → Bool) → agree_below (λ b. not (is_word_byte b) || P b) (λ b. true) 123 ≡ true → (x : ℕ) → is_word_byte x ≡ true → P x ≡ true
word_byte-has P all x h =
    let small : x < 123 = ltb-true x 123 (and_parts (nat_lt x 123) (nat_le 97 x || (nat_le 65 x && nat_le x 90) || (nat_le 48 x && nat_le x 57)) h).0 in
    implied (is_word_byte x) (P x) (agree_below_at (λ b. not (is_word_byte b) || P b) (λ b. true) 123 x all small) h

pub word-has : (P : ℕ → Bool) → agree_below (λ b. not (is_word_byte b) || P b) (λ b. true) 123 ≡ true → (w : List ℕ) → is_word w ≡ true → list_all P w ≡ true
word-has P all [] h = refl
word-has P all (x ∷ xs) h =
    let parts = and_parts (is_word_byte x) (is_word xs) h in
    and_from (P x) (list_all P xs) (word_byte-has P all x parts.0) (word-has P all xs parts.1)

-- ---- names

abbrev is_name : List ℕ → Bool
is_name n = not (is_empty n) && is_word n && not (bytes_eq n (codes "use"))

names-good : (k : Kind) → list_all is_name (names k) ≡ true
unfolding names flag_names number_names text_names
names-good Flag = refl
names-good Number = refl
names-good Text = refl

names-count : (k : Kind) → length (names k) ≡ count_of k
unfolding names flag_names number_names text_names
names-count Flag = refl
names-count Number = refl
names-count Text = refl

-- a name of a capability is a word, and not `use`
pub record IsName (n : List ℕ) : Type 0 where
  pub some : is_empty n ≡ false
  pub word : is_word n ≡ true
  pub other : bytes_eq n (codes "use") ≡ false

name-parts : (n : List ℕ) → is_name n ≡ true → IsName n
name-parts n h =
    let last = and_parts (not (is_empty n) && is_word n) (not (bytes_eq n (codes "use"))) h in
    let first = and_parts (not (is_empty n)) (is_word n) last.0 in
    record { some = not-true (is_empty n) first.0; word = first.1; other = not-true (bytes_eq n (codes "use")) last.1 }

pub capability-name : (c : Capability) → IsCapability c → IsName (name_of c)
capability-name c is =
    name-parts (name_of c)
    (All-get_or (λ n. is_name n ≡ true) (names c.kind) c.index [] (omega (arith, names-count c.kind))
    (AllPass-from_list_all is_name (names c.kind) (names-good c.kind)))

-- ---- numbers

digit-value : (d : ℕ) → d < 10 → digit_value (48 + d) ≡ d
digit-value d lt = eqb-true (digit_value (48 + d)) d (agree_below_at (λ d. digit_value (48 + d) == d) (λ d. true) 10 d refl lt)

digit-word : (d : ℕ) → d < 10 → is_word_byte (48 + d) ≡ true
digit-word d lt = agree_below_at (λ d. is_word_byte (48 + d)) (λ d. true) 10 d refl lt

-- the digits of a number: a first, which is `0` only of the number 0, and others
pub record AreDigitsOf (n : ℕ) (ds : List ℕ) : Type 0 where
  pub first : ℕ
  pub others : List ℕ
  pub whole : ds ≡ first ∷ others
  pub word : is_word ds ≡ true
  pub digits : All (IsDigit 10) ds
  pub value : value_in 10 ds ≡ n
  pub led : first ≡ 48 → n ≡ 0
  pub alone : n ≡ 0 → ds ≡ 48 ∷ []

one_digit : (n : ℕ) → n < 10 → AreDigitsOf n ((48 + n) ∷ [])
one_digit n lt =
    let value = digit-value n lt in
    let is_digit : IsDigit 10 (48 + n) = omega (arith, value) in
    record {
      first = 48 + n;
      others = [];
      whole = refl;
      word = and_from (is_word_byte (48 + n)) true (digit-word n lt) refl;
      digits = All-cons (IsDigit 10) (48 + n) [] is_digit (All-nil (IsDigit 10));
      value = omega (arith, value);
      led = λ e. omega (arith, e);
      alone = λ e. rw e refl;
    }

more_digits : (n : ℕ) (ds : List ℕ) → 10 ≤ n → AreDigitsOf (n / 10) ds → AreDigitsOf n (ds ++ ((48 + n % 10) ∷ []))
more_digits n ds le are =
    let small : n % 10 < 10 = omega arith in
    let value = digit-value (n % 10) small in
    let is_digit : IsDigit 10 (48 + n % 10) = omega (arith, value) in
    record {
      first = are.first;
      others = are.others ++ ((48 + n % 10) ∷ []);
      whole = ap (λ l. l ++ ((48 + n % 10) ∷ [])) are.whole;
      word = list_all-append is_word_byte ds ((48 + n % 10) ∷ [])
          ∙ and_from (is_word ds) (is_word_byte (48 + n % 10) && true) are.word (and_from (is_word_byte (48 + n % 10)) true (digit-word (n % 10) small) refl);
      digits = All-push (IsDigit 10) ds (48 + n % 10) are.digits is_digit;
      value = fold_push (λ v b. v * 10 + digit_value b) 0 ds (48 + n % 10) ∙ rw (are.value, value) (omega arith);
      led = λ e. let zero : n / 10 ≡ 0 = are.led e in omega (arith, zero);
      alone = λ e. let none : ⊥ = omega (arith, e) in absurd none;
    }

pub decimal-digits : (n : ℕ) → n < 2 ^ 64 → AreDigitsOf n (decimal_text n)
decimal-digits n lt = decimal_by_steps AreDigitsOf one_digit more_digits n lt

number-of : (n : ℕ) (ds : List ℕ) → AreDigitsOf n ds → IsNumber ds n
number-of n ds are =
    elim (cases_eq n 0) [
      | inl zero ↦ rw (zero, are.alone zero) (octal [] (All-nil (IsDigit 8)))
      | inr some ↦
          let P : List ℕ → ℕ → Type 0 = λ l v. IsNumber l v in
          let by_first : IsNumber (are.first ∷ are.others) (value_in 10 (are.first ∷ are.others)) =
          decimal are.first are.others (λ e. some (are.led e)) (subst (λ l. All (IsDigit 10) l) are.whole are.digits) in
          subst (λ v. IsNumber ds v) are.value (subst (λ l. IsNumber l (value_in 10 l)) (sym are.whole) by_first)
    ]

pub numeral-of : (n : ℕ) (ds : List ℕ) → AreDigitsOf n ds → IsNumeral ds n
numeral-of n ds are = record {
  number = ds;
  space = [];
  whole = sym (append-nil ds);
  blank = All-nil (λ x. is_white_space x ≡ true);
  written = number-of n ds are;
}
